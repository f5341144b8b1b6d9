-- What alloc_ty leaves. Assumes nothing.
use Rattle.std.proofs.Common.{◌≡◌, ℕ, Bool, true, List, [], ◌∷◌, ◌++◌, length, take, sym, refl, ap, ◌∙◌, subst, ap₂}
use Rattle.std.proofs.lemmas.List.{get_or_push}
use Rattle.custom.specs.Customs.{Custom, Open}
use Rattle.matcher.specs.Nodes.{Node, valid}
use Rattle.membership.specs.Rows.{Row, Sound}
use Rattle.compiling.specs.Written.{written}
use Rattle.compiling.specs.Outcomes.{alloc_ty_lem, granted, entered, annotation, Means}
use Rattle.compiling.specs.declared.annotation.Annotation.{Annotation}
use Rattle.compiling.proofs.Rights.{May, may_alloc, right_by}
use Rattle.type_compiled.specs.Compiled.{annotation_at, no_annotation}

pub record Finished (c : Custom) (sh : Bool) (limit : ℕ) (rows : List Row) (t : ℕ) (ns ns' : List Node) (known known' : List Annotation) (n : ℕ) : Type 0 where
  pub made : alloc_ty_lem sh limit rows c.wild t ns known ≡ granted (entered ns' known' n)
  pub for_type : (annotation_at known' n).ty ≡ t
  pub means : Means c rows ns' (annotation_at known' n)
  pub stand : take (length ns) ns' ≡ ns

pub finish : (c : Custom) (sh : Bool) (limit : ℕ) (rows : List Row) (t : ℕ) (ns ns' : List Node) (known known' : List Annotation) (root n : ℕ) → Open c → Sound rows → valid limit ns ≡ true → May sh limit rows c.wild t ns known → ns' ≡ (written sh rows c.wild t ns).nodes → root ≡ (written sh rows c.wild t ns).root → known' ≡ known ++ annotation t root ∷ [] → n ≡ length known → Finished c sh limit rows t ns ns' known known' n
finish c sh limit rows t ns ns' known known' root n opens sound v may nodes-are root_is list-is number_is =
    let R = right_by c sh limit rows t ns opens sound v may.stands may.room in
    let last : annotation_at known' n ≡ annotation t root = ap₂ annotation_at list-is number_is ∙ get_or_push known (annotation t root) no_annotation (length known) refl in
    let is : annotation_at known' n ≡ annotation t (written sh rows c.wild t ns).root = last ∙ ap (annotation t) root_is in
    let list_be : known' ≡ known ++ annotation t (written sh rows c.wild t ns).root ∷ [] = list-is ∙ ap (λ x. known ++ annotation t x ∷ []) root_is in
    record {
      made = may_alloc sh limit rows c.wild t ns known may ∙ sym (ap granted (ap₂ (λ (x : List Node) (y : List Annotation). entered x y n) nodes-are list_be ∙ ap (entered (written sh rows c.wild t ns).nodes (known ++ annotation t (written sh rows c.wild t ns).root ∷ [])) number_is));
      for_type = ap (λ (a : Annotation). a.ty) last;
      means = subst (λ (a : Annotation). Means c rows ns' a) (sym is) (subst (λ (x : List Node). Means c rows x (annotation t (written sh rows c.wild t ns).root)) (sym nodes-are) R.means);
      stand = ap (take (length ns)) nodes-are ∙ R.stand;
    }
