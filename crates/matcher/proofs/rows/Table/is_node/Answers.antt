use Rattle.std.proofs.Common.{ℕ, ◌≡◌, ◌<◌, ◌≤◌, Bool, true, false, ◌&&◌, eqb, ltb, length, Ok, Err, Result, refl, ap, ap₂, ◌∙◌, rules, List}
use denote.Enum.Declared.{tag_of}
use Rattle.std.specs.Str.{bytes_eq}
use Rattle.std.specs.Result.{MatchResult, result_eq}
use Rattle.std.proofs.lemmas.Bool.{lt-ltb, le-ltb}
use Rattle.values.specs.declared.refusal.Refusal.{Refusal}
use Rattle.values.specs.declared.refusal.Refusal.TheVariants.{NoNode}
use Rattle.matcher.proofs.rows.Table.is_node.Goals as goal
use Rattle.matcher.specs.contracts.kind.Kind.{the_type}
use Rattle.matcher.specs.declared.node.Node.{Node as Asked}
use Rattle.matcher.specs.declared.kind.Kind.{Kind}
use Rattle.matcher.specs.Held.{meant}
use Rattle.matcher.specs.Nodes.{Node, ordinal, same_node, node_at_lem}

tag_is : (k : Kind) → tag_of the_type k ≡ ordinal k
tag_is k = search rules

and_assoc : (a b c : Bool) → (a && (b && c)) ≡ ((a && b) && c)
and_assoc true b c = refl
and_assoc false b c = refl

-- what `==` of two nodes says
abbrev same : Asked → Asked → Bool
same a b = eqb (tag_of the_type a.kind) (tag_of the_type b.kind) && (eqb a.number b.number && bytes_eq a.kids.now b.kids.now)

same_is : (a b : Asked) → same a b ≡ same_node (meant a) (meant b)
same_is a b =
    ap (λ x. x && (eqb a.number b.number && bytes_eq a.kids.now b.kids.now)) (ap₂ eqb (tag_is a.kind) (tag_is b.kind))
    ∙ and_assoc (eqb (ordinal a.kind) (ordinal b.kind)) (eqb a.number b.number) (bytes_eq a.kids.now b.kids.now)

says : (ns : List Node) (n : ℕ) (e : Refusal → Refusal → Bool) (d : Asked) (r : Result Asked Refusal) → MatchResult r (λ x. (n < length ns) × (meant x ≡ node_at_lem ns n)) (λ x. (length ns ≤ n) × (x ≡ NoNode)) → result_eq same e r (Ok d) ≡ (ltb n (length ns) && same_node (node_at_lem ns n) (meant d))
says ns n e d (Ok x) h = same_is x d ∙ ap (λ y. same_node y (meant d)) h.1 ∙ rw (lt-ltb n (length ns) h.0) refl
says ns n e d (Err x) h = rw (le-ltb n (length ns) h.0) refl

pub returns : goal.returns
returns c = c.eq.ensures ∙ says _ c.args.n _ c.args.node c.node.result c.node.ensures
