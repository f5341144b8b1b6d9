-- What holds of each node of a valid list. Assumes nothing.
use Rattle.std.proofs.Common.{◌≡◌, ℕ, zero, suc, ◌+◌, ◌<◌, ◌≤◌, max, true, ◌&&◌, ltb, ◌⊎◌, List, [], ◌∷◌, ◌++◌, length, get_or, sym, refl, ap, ◌∙◌, subst, ap₂, inl, inr, append_assoc, append-nil, arith, length-append}
use Rattle.std.proofs.lemmas.List.{get_or_append_left, get_or_push}
use Rattle.std.proofs.lemmas.Bool.{and_parts, ltb-true, cases_lt}
use Rattle.custom.specs.Worlds.{World}
use Rattle.matcher.specs.Nodes.{Node, no_node, node_at_lem, arity, numbered, all_below, highest, depth_over, depths, fault, is_granted, roomy, valid, valid_from, deepest}
use Rattle.matcher.specs.Meaning.{Test, nay, says, kid_tests, node_test, tests_from, tests}
use Rattle.matcher.proofs.Grows.{Granted, granted, depths_push, depths_long, valid_low}
use Rattle.matching.specs.Stacks.{Stands}

highest_push : (ds : List ℕ) (y : ℕ) (ks : List ℕ) (m : ℕ) → all_below m ks ≡ true → m ≤ length ds → highest (ds ++ y ∷ []) ks ≡ highest ds ks
highest_push ds y [] m b l = refl
highest_push ds y (k ∷ ks) m b l =
    let p = and_parts (ltb k m) (all_below m ks) b in
    ap₂ max (get_or_append_left ds (y ∷ []) 0 k (omega (arith, ltb-true k m p.0))) (highest_push ds y ks m p.1 l)

kids_push : (ts : List Test) (t : Test) (ks : List ℕ) (m : ℕ) → all_below m ks ≡ true → m ≤ length ts → kid_tests (ts ++ t ∷ []) ks ≡ kid_tests ts ks
kids_push ts t [] m b l = refl
kids_push ts t (k ∷ ks) m b l =
    let p = and_parts (ltb k m) (all_below m ks) b in
    ap₂ ◌∷◌ (get_or_append_left ts (t ∷ []) nay k (omega (arith, ltb-true k m p.0))) (kids_push ts t ks m p.1 l)

below_at : (m : ℕ) (ks : List ℕ) (i : ℕ) → all_below m ks ≡ true → i < length ks → get_or ks i 0 < m
below_at m [] i b l = absurd (omega arith)
below_at m (k ∷ ks) zero b l = ltb-true k m (and_parts (ltb k m) (all_below m ks) b).0
below_at m (k ∷ ks) (suc i) b l = below_at m ks i (and_parts (ltb k m) (all_below m ks) b).1 (omega arith)

highest_at : (ds ks : List ℕ) (i : ℕ) → i < length ks → get_or ds (get_or ks i 0) 0 ≤ highest ds ks
highest_at ds [] i l = absurd (omega arith)
highest_at ds (k ∷ ks) zero l = omega arith
highest_at ds (k ∷ ks) (suc i) l = omega (arith, highest_at ds ks i (omega arith))

module _ (W : World) where
  push_from : (ts : List Test) (ns : List Node) (d : Node) → tests_from W ts (ns ++ d ∷ []) ≡ tests_from W ts ns ++ node_test W (tests_from W ts ns) d ∷ []
  push_from ts [] d = refl
  push_from ts (x ∷ ns) d = push_from (ts ++ node_test W ts x ∷ []) ns d

  tests_push : (ns : List Node) (d : Node) → tests W (ns ++ d ∷ []) ≡ tests W ns ++ node_test W (tests W ns) d ∷ []
  unfolding tests
  tests_push ns d = push_from [] ns d

  long_from : (ts : List Test) (ns : List Node) → length (tests_from W ts ns) ≡ length ts + length ns
  long_from ts [] = omega arith
  long_from ts (x ∷ ns) = long_from (ts ++ node_test W ts x ∷ []) ns ∙ omega (arith, length-append ts (node_test W ts x ∷ []))

  tests_long : (ns : List Node) → length (tests W ns) ≡ length ns
  unfolding tests
  tests_long ns = long_from [] ns ∙ omega arith

  -- what holds of the node d at the place n
  pub record Fact (ns : List Node) (n : ℕ) (d : Node) : Type 0 where
    pub form : arity d.kind (length d.kids) ≡ true
    pub below : all_below n d.kids ≡ true
    pub deep : get_or (depths ns) n 0 ≡ depth_over (depths ns) d.kids
    pub tells : get_or (tests W ns) n nay ≡ node_test W (tests W ns) d

  abbrev pub Facts : List Node → Type 0
  Facts ns = (n : ℕ) → n < length ns → Fact ns n (node_at_lem ns n)

  says_kids : (ts us : List Test) (d : Node) → kid_tests ts d.kids ≡ kid_tests us d.kids → node_test W ts d ≡ node_test W us d
  says_kids ts us d e = ap (says W d.kind d.number) e

  module _ (ns : List Node) (x : Node) where
    kept_depth : (d : Node) (m : ℕ) → m ≤ length ns → all_below m d.kids ≡ true → depth_over (depths (ns ++ x ∷ [])) d.kids ≡ depth_over (depths ns) d.kids
    kept_depth d m l b = ap (λ ds. depth_over ds d.kids) (depths_push ns x) ∙ ap (λ h. h + 1) (highest_push (depths ns) _ d.kids m b (omega (arith, depths_long ns)))

    kept_says : (d : Node) (m : ℕ) → m ≤ length ns → all_below m d.kids ≡ true → node_test W (tests W (ns ++ x ∷ [])) d ≡ node_test W (tests W ns) d
    kept_says d m l b = says_kids _ _ d (ap (λ ts. kid_tests ts d.kids) (tests_push ns x) ∙ kids_push (tests W ns) _ d.kids m b (omega (arith, tests_long ns)))

    fact_later : (n : ℕ) (d : Node) → n < length ns → Fact ns n d → Fact (ns ++ x ∷ []) n d
    fact_later n d l f =
        record {
          form = f.form;
          below = f.below;
          deep = ap (λ ds. get_or ds n 0) (depths_push ns x) ∙ get_or_append_left (depths ns) _ 0 n (omega (arith, depths_long ns)) ∙ f.deep ∙ sym (kept_depth d n (omega arith) f.below);
          tells = ap (λ ts. get_or ts n nay) (tests_push ns x) ∙ get_or_append_left (tests W ns) _ nay n (omega (arith, tests_long ns)) ∙ f.tells ∙ sym (kept_says d n (omega arith) f.below);
        }

    fact_last : Granted ns x → Fact (ns ++ x ∷ []) (length ns) x
    fact_last g =
        record {
          form = (and_parts (arity x.kind (length x.kids)) (numbered x.kind x.number) g.form).0;
          below = g.below;
          deep = ap (λ ds. get_or ds (length ns) 0) (depths_push ns x) ∙ get_or_push (depths ns) _ 0 (length ns) (depths_long ns) ∙ sym (kept_depth x (length ns) (omega arith) g.below);
          tells = ap (λ ts. get_or ts (length ns) nay) (tests_push ns x) ∙ get_or_push (tests W ns) _ nay (length ns) (tests_long ns) ∙ sym (kept_says x (length ns) (omega arith) g.below);
        }

    facts_push : Facts ns → Granted ns x → Facts (ns ++ x ∷ [])
    facts_push fs g n l = by (cases_lt n (length ns))
      where
        by : (n < length ns) ⊎ (length ns ≤ n) → Fact (ns ++ x ∷ []) n (node_at_lem (ns ++ x ∷ []) n)
        by (inl h) = subst (Fact (ns ++ x ∷ []) n) (sym (get_or_append_left ns (x ∷ []) no_node n h)) (fact_later n (node_at_lem ns n) h (fs n h))
        by (inr h) =
            let e : length ns ≡ n = omega (arith, length-append ns (x ∷ [])) in
            subst (λ m. Fact (ns ++ x ∷ []) m (node_at_lem (ns ++ x ∷ []) m)) e (subst (Fact (ns ++ x ∷ []) (length ns)) (sym (get_or_push ns x no_node (length ns) refl)) (fact_last g))

  facts_from : (limit : ℕ) (b ns : List Node) → Facts b → valid_from limit b ns ≡ true → Facts (b ++ ns)
  facts_from limit b [] fs v = subst Facts (sym (append-nil b)) fs
  facts_from limit b (x ∷ ns) fs v =
      let p = and_parts (is_granted (fault b x) && roomy limit b x) (valid_from limit (b ++ x ∷ []) ns) v in
      let q = and_parts (is_granted (fault b x)) (roomy limit b x) p.0 in
      subst Facts (append_assoc b (x ∷ []) ns) (facts_from limit (b ++ x ∷ []) ns (facts_push b x fs (granted b x q.0)) p.1)

  pub facts : (limit : ℕ) (ns : List Node) → valid limit ns ≡ true → Facts ns
  unfolding valid
  facts limit ns v = facts_from limit [] ns (λ n l. absurd (omega arith)) v

  -- a node as deep as d stands at the depth d
  stands_by : (ns : List Node) → Facts ns → (d n : ℕ) → n < length ns → get_or (depths ns) n 0 ≤ d → Stands ns d n
  unfolding Stands
  stands_by ns fs zero n l h = absurd (omega (arith, (fs n l).deep))
  stands_by ns fs (suc d) n l h = (
    l,
    λ i m.
        let b : get_or (node_at_lem ns n).kids i 0 < n = below_at n (node_at_lem ns n).kids i (fs n l).below m in
        stands_by ns fs d (get_or (node_at_lem ns n).kids i 0) (omega arith) (omega (arith, highest_at (depths ns) (node_at_lem ns n).kids i m, (fs n l).deep)),
  )

  pub stands : (limit : ℕ) (ns : List Node) → valid limit ns ≡ true → (n : ℕ) → n < length ns → Stands ns deepest n
  stands limit ns v n l = stands_by ns (facts limit ns v) deepest n l (valid_low limit ns v n)
