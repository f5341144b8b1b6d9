-- The rows of a table and the nodes that they mean. Assumes nothing.
use Rattle.std.proofs.Common.{◌≡◌, ℕ, zero, suc, ◌+◌, ◌<◌, ◌≤◌, max, Bool, true, false, cond, ◌&&◌, ltb, List, [], ◌∷◌, ◌++◌, length, get_or, take, drop, Some, None, Ok, Err, Result, sym, refl, ap, ◌∙◌, subst, ap₂, arith, length-drop}
use lib.ListN.{length-map}
use Rattle.std.specs.List.{fold, list_all, position, position_or_len, range_with_len}
use Rattle.std.specs.Option.{MatchOption}
use Rattle.std.proofs.lemmas.List.{get_or-map, take-append-le, drop-append-le, drop_at, take_all, map_push}
use Rattle.std.proofs.lemmas.List.FromFn.{length-range_with_len, get_or-range_with_len}
use Rattle.std.proofs.lemmas.List.Recursion.{is_position_or_len}
use Rattle.std.proofs.lemmas.List.Sums.{position_or_len_is, fails_before_first, passes_at_first}
use Rattle.std.proofs.lemmas.Bool.{and_parts, and_from, leb-true, lt-ltb, le-leb, ltb-false, ltb-true}
use Rattle.values.specs.declared.refusal.Refusal.{Refusal}
use Rattle.values.specs.declared.refusal.Refusal.TheVariants.{NoNode}
use Rattle.matcher.specs.Nodes.{Node, node, node_at_lem, no_node, depths, depth_over, deepest, highest, all_below, find, same_node}
use Rattle.matcher.specs.Tables.{no_row, kids_of, node_of, nodes_of, spans, Deep, row_says}
use Rattle.matcher.specs.declared.rows.Row.{Row}
use Rattle.matcher.proofs.Grows.{depths_push, depths_long, Low, find_low}

pub long : (rs : List Row) (pool : List ℕ) → length (nodes_of rs pool) ≡ length rs
unfolding nodes_of
long rs pool = length-map rs (node_of pool)

pub node_at : (rs : List Row) (pool : List ℕ) (n : ℕ) → n < length rs → node_at_lem (nodes_of rs pool) n ≡ node_of pool (get_or rs n no_row)
unfolding nodes_of
node_at rs pool n l = get_or-map (node_of pool) rs n no_row no_node l

pub span_at : (m : ℕ) (rs : List Row) (n : ℕ) → spans m rs ≡ true → n < length rs → (get_or rs n no_row).first + (get_or rs n no_row).count ≤ m
span_at m [] n s l = absurd (omega arith)
span_at m (r ∷ rs) zero s l = leb-true _ _ (and_parts _ _ s).0
span_at m (r ∷ rs) (suc n) s l = span_at m rs n (and_parts _ _ s).1 (omega arith)

pub found : (rs : List Row) (n : ℕ) (row : Row) → Ok row ≡ row_says rs n (λ x. x) → (n < length rs) × (row ≡ get_or rs n no_row)
found rs n row h = by (ltb n (length rs)) refl h
  where
    by : (b : Bool) → ltb n (length rs) ≡ b → ◌≡◌ {A = Result Row Refusal} (Ok row) (cond b (Ok (get_or rs n no_row)) (Err NoNode)) → (n < length rs) × (row ≡ get_or rs n no_row)
    by true e h = (ltb-true n (length rs) e, cc)
    by false e h = let z : ◌≡◌ {A = ℕ} 0 1 = cc in absurd (omega arith)

pub not_found : (rs : List Row) (n : ℕ) (e : Refusal) → Err e ≡ row_says rs n (λ x. x) → (length rs ≤ n) × (e ≡ NoNode)
not_found rs n e h = by (ltb n (length rs)) refl h
  where
    by : (b : Bool) → ltb n (length rs) ≡ b → ◌≡◌ {A = Result Row Refusal} (Err e) (cond b (Ok (get_or rs n no_row)) (Err NoNode)) → (length rs ≤ n) × (e ≡ NoNode)
    by true q h = let z : ◌≡◌ {A = ℕ} 0 1 = cc in absurd (omega arith)
    by false q h = (ltb-false _ _ q, cc)

kids_later : (pool more : List ℕ) (r : Row) → r.first + r.count ≤ length pool → kids_of (pool ++ more) r ≡ kids_of pool r
kids_later pool more r h =
    ap (take r.count) (drop-append-le r.first pool more (omega arith)) ∙ take-append-le r.count (drop r.first pool) more (omega (arith, length-drop r.first pool))

nodes_later : (rs : List Row) (pool more : List ℕ) → spans (length pool) rs ≡ true → nodes_of rs (pool ++ more) ≡ nodes_of rs pool
unfolding nodes_of
nodes_later [] pool more s = refl
nodes_later (r ∷ rs) pool more s =
    let p = and_parts _ _ s in
    rw (kids_later pool more r (leb-true _ _ p.0), nodes_later rs pool more p.1) refl

nodes_push : (rs : List Row) (pool kids : List ℕ) (r : Row) → spans (length pool) rs ≡ true → r.first ≡ length pool → r.count ≡ length kids → nodes_of (rs ++ r ∷ []) (pool ++ kids) ≡ nodes_of rs pool ++ node r.kind r.number kids ∷ []
unfolding nodes_of
nodes_push rs pool kids r s f c =
    split ∙ ap (λ x. x ++ node_of (pool ++ kids) r ∷ []) (nodes_later rs pool kids s) ∙ ap (λ ks. nodes_of rs pool ++ node r.kind r.number ks ∷ []) last
  where
    split : nodes_of (rs ++ r ∷ []) (pool ++ kids) ≡ nodes_of rs (pool ++ kids) ++ node_of (pool ++ kids) r ∷ []
    split = map_push (node_of (pool ++ kids)) rs r

    last : kids_of (pool ++ kids) r ≡ kids
    last = ap (take r.count) (drop_at pool kids r.first (sym f)) ∙ take_all r.count kids (omega arith)

-- one row more, whose kids are the last of the pool
pub nodes_grow : {rows : List Row} {all : List ℕ} (rs : List Row) (pool kids : List ℕ) (r : Row) (n : ℕ) → rows ≡ rs ++ r ∷ [] → all ≡ pool ++ kids → n ≡ length pool → spans n rs ≡ true → r.first ≡ n → r.count ≡ length kids → nodes_of rows all ≡ nodes_of rs pool ++ node r.kind r.number kids ∷ []
nodes_grow rs pool kids r n e f l s a b = ap₂ nodes_of e f ∙ nodes_push rs pool kids r (subst (λ m. spans m rs ≡ true) l s) (a ∙ l) b

spans_more : (m k : ℕ) (rs : List Row) → m ≤ k → spans m rs ≡ true → spans k rs ≡ true
spans_more m k [] l s = refl
spans_more m k (r ∷ rs) l s = let p = and_parts _ _ s in and_from _ _ (le-leb _ _ (omega (arith, leb-true _ _ p.0))) (spans_more m k rs l p.1)

spans_add : (m : ℕ) (rs : List Row) (r : Row) → spans m rs ≡ true → r.first + r.count ≤ m → spans m (rs ++ r ∷ []) ≡ true
spans_add m [] r s h = and_from _ _ (le-leb _ _ h) refl
spans_add m (x ∷ rs) r s h = let p = and_parts _ _ s in and_from _ _ p.0 (spans_add m rs r p.1 h)

pub spans_push : (m k : ℕ) (rs : List Row) (r : Row) → spans m rs ≡ true → m ≤ k → r.first + r.count ≤ k → spans k (rs ++ r ∷ []) ≡ true
spans_push m k rs r s l h = spans_add k rs r (spans_more m k rs l s) h

deep_add : (rs : List Row) (ds : List ℕ) (r : Row) (x : ℕ) → length rs ≡ length ds → ((n : ℕ) → (get_or rs n no_row).depth ≡ get_or ds n 0) → r.depth ≡ x → (n : ℕ) → (get_or (rs ++ r ∷ []) n no_row).depth ≡ get_or (ds ++ x ∷ []) n 0
deep_add [] [] r x l all one zero = one
deep_add [] [] r x l all one (suc n) = refl
deep_add [] (d ∷ ds) r x l all one n = absurd (omega arith)
deep_add (s ∷ rs) [] r x l all one n = absurd (omega arith)
deep_add (s ∷ rs) (d ∷ ds) r x l all one zero = all 0
deep_add (s ∷ rs) (d ∷ ds) r x l all one (suc n) = deep_add rs ds r x (omega arith) (λ m. all (suc m)) one n

pub deep_push : (rs : List Row) (ns : List Node) (r : Row) (d : Node) → length ns ≡ length rs → Deep rs ns → r.depth ≡ depth_over (depths ns) d.kids → Deep (rs ++ r ∷ []) (ns ++ d ∷ [])
deep_push rs ns r d l deep e n = deep_add rs (depths ns) r _ (sym (depths_long ns ∙ l)) deep e n ∙ sym (ap (λ ds. get_or ds n 0) (depths_push ns d))

pub all_by_test : (n : ℕ) (ks : List ℕ) → list_all (λ k. ltb k n) ks ≡ all_below n ks
all_by_test n [] = refl
all_by_test n (k ∷ ks) = ap (λ b. ltb k n && b) (all_by_test n ks)

-- a fold from the front, and the greatest from the back
max_fold : (ds ks : List ℕ) (so : ℕ) → fold (λ a k. max a (get_or ds k 0)) so ks ≡ max so (highest ds ks)
max_fold ds [] so = omega arith
max_fold ds (k ∷ ks) so = omega (arith, max_fold ds ks (max so (get_or ds k 0)))

pub highest_by_max : (ds ks : List ℕ) → fold (λ a k. max a (get_or ds k 0)) 0 ks ≡ highest ds ks
highest_by_max ds ks = omega (arith, max_fold ds ks 0)

pub highest_low : (ds ks : List ℕ) → Low ds → highest ds ks ≤ deepest
highest_low ds [] low = omega arith
highest_low ds (k ∷ ks) low = omega (arith, low k, highest_low ds ks low)

find_by_test : (ns : List Node) (d : Node) → find ns d ≡ position_or_len (λ x. same_node x d) ns
find_by_test ns d = is_position_or_len (λ xs. find xs d) (λ x. same_node x d) refl (λ x xs. ap (cond (same_node x d) 0) (omega arith)) ns

abbrev is_at : List Node → Node → ℕ → Bool
is_at ns d k = ltb k (length ns) && same_node (get_or ns k no_node) d

find_in_range : (ns : List Node) (d : Node) → position_or_len (is_at ns d) (range_with_len 0 (length ns)) ≡ find ns d
find_in_range ns d =
    let q = λ (x : Node). same_node x d in
    let e = find_by_test ns d in
    let low = find_low ns d in
    let long = length-range_with_len 0 (length ns) in
    position_or_len_is (is_at ns d) (range_with_len 0 (length ns)) (find ns d) 0 (omega (arith, long, low))
    (λ k l.
    let h : k < length ns = omega (arith, low) in
    let i : get_or (range_with_len 0 (length ns)) k 0 ≡ k = get_or-range_with_len 0 (length ns) k 0 h ∙ omega arith in
    ap (is_at ns d) i ∙ ap (λ b. ltb k (length ns) && b) (fails_before_first q ns k no_node (omega (arith, e))) ∙ and_false (ltb k (length ns)))
    (λ l.
    let h : find ns d < length ns = omega (arith, long) in
    let i : get_or (range_with_len 0 (length ns)) (find ns d) 0 ≡ find ns d = get_or-range_with_len 0 (length ns) (find ns d) 0 h ∙ omega arith in
    ap (is_at ns d) i ∙ and_from _ _ (lt-ltb _ _ h) (ap (λ k. same_node (get_or ns k no_node) d) e ∙ passes_at_first q ns no_node (omega (arith, e))))
  where
    and_false : (b : Bool) → (b && false) ≡ false
    and_false true = refl
    and_false false = refl

-- the first node that is equal, or none
pub first_equal : (ns : List Node) (d : Node) (n : ℕ) → n ≡ length ns → MatchOption (position (is_at ns d) (range_with_len 0 n)) (find ns d ≡ length ns) (λ k. (k < length ns) × (k ≡ find ns d))
first_equal ns d n l =
    let p = position_or_len (is_at ns d) (range_with_len 0 n) in
    let e : p ≡ find ns d = ap (λ m. position_or_len (is_at ns d) (range_with_len 0 m)) l ∙ find_in_range ns d in
    by (ltb p (length (range_with_len 0 n))) refl e
  where
    by : (b : Bool) → ltb (position_or_len (is_at ns d) (range_with_len 0 n)) (length (range_with_len 0 n)) ≡ b → position_or_len (is_at ns d) (range_with_len 0 n) ≡ find ns d → MatchOption (cond b (Some (position_or_len (is_at ns d) (range_with_len 0 n))) None) (find ns d ≡ length ns) (λ k. (k < length ns) × (k ≡ find ns d))
    by true h e = (omega (arith, ltb-true _ _ h, length-range_with_len 0 n), e)
    by false h e = omega (arith, ltb-false _ _ h, length-range_with_len 0 n, find_low ns d)
