-- What holds along the calls that a text makes holds between the types before it and after it. Assumes nothing.
use Rattle.std.proofs.Common.{ℕ, List, [], ◌∷◌, Some, None, Ok, Option, subst}
use Rattle.membership.specs.Rows.{Alt as TypeAlt, plain, iter, callable, kind, list, tuple, tuple_of, dict, custom, set_of, Row, Outcome, granted, refused, union2}
use Rattle.grammar.specs.declared.words.Word.{Word}
use Rattle.grammar.specs.declared.words.Word.TheVariants.{Int, Boolean, Str, NoneType, Kind, Any, Never, Callable, ListOf, SetOf, IterableOf, DictOf, TupleOf, Host, Custom, Ellipsis}
use Rattle.grammar.specs.Grammar.{Text, last, join, Alt, alone, one, two, none, some, run, More, end, also}
use Rattle.annotation.specs.declared.calls.Form.{Form}
use Rattle.annotation.specs.declared.calls.Form.TheVariants.{Fixed, Open}
use Rattle.annotation.specs.Calls.{called, part}
use Rattle.annotation.specs.Evaluated.{State, first, past, Came, made, turned, on_made, placed, calls, joined, word_in, text_comes, alt_comes, more_come, ReadAs}
use Rattle.runs.specs.States.{rows_after, made as made_type}

-- a relation of tables that holds of each call, and along calls
pub record Along (R : List Row → List Row → Type 0) : Type 0 where
  pub here : (t : List Row) → R t t
  pub trans : (t u v : List Row) → R t u → R u v → R t v
  pub makes : (t : List Row) (x : TypeAlt) → R t (rows_after t (made_type t x))
  pub joins : (t : List Row) (m n : ℕ) → R t (rows_after t (union2 t m n))

module _ (R : List Row → List Row → Type 0) (along : Along R) where
  -- what is made stands in a table that calls led to
  abbrev Kept : List Row → Came → Type 0
  Kept t (made σ n) = R t σ.rows
  Kept t (turned u why p) = Unit {0}

  weaken : (t u : List Row) (v : Came) → R t u → Kept u v → Kept t v
  weaken t u (made σ n) p k = along.trans t u σ.rows p k
  weaken t u (turned w why q) p k = tt

  on_kept : (t : List Row) (v : Came) (f : State → ℕ → Came) → Kept t v → ((σ : State) (n : ℕ) → Kept σ.rows (f σ n)) → Kept t (on_made v f)
  on_kept t (made σ n) f k h = weaken t σ.rows (f σ n) k (h σ n)
  on_kept t (turned u why p) f k h = tt

  placed_kept : (p : ℕ) (σ : State) (o : Outcome) → R σ.rows (rows_after σ.rows o) → Kept σ.rows (placed p σ o)
  placed_kept p σ (granted g) k = k
  placed_kept p σ (refused n) k = tt

  tuple_along : (f : Form) (ns : List ℕ) (t : List Row) → R t (rows_after t (called TupleOf f ns t))
  tuple_along Fixed ns t = along.makes t (tuple ns)
  tuple_along Open ns t = along.makes t (tuple_of (part ns 0))

  called_along : (x : Word) (f : Form) (ns : List ℕ) (t : List Row) → R t (rows_after t (called x f ns t))
  called_along Int f ns t = along.makes t (plain 1)
  called_along Boolean f ns t = along.makes t (plain 2)
  called_along Str f ns t = along.makes t (plain 4)
  called_along NoneType f ns t = along.makes t (plain 3)
  called_along Kind f ns t = along.makes t kind
  called_along Any f ns t = along.here t
  called_along Never f ns t = along.here t
  called_along Callable f ns t = along.makes t callable
  called_along ListOf f ns t = along.makes t (list (part ns 0))
  called_along SetOf f ns t = along.makes t (set_of (part ns 0))
  called_along IterableOf f ns t = along.makes t (iter (part ns 0))
  called_along DictOf f ns t = along.makes t (dict (part ns 0) (part ns 1))
  called_along TupleOf f ns t = tuple_along f ns t
  called_along (Host n) f ns t = along.makes t (plain n)
  called_along (Custom n) f ns t = along.makes t (custom n)
  called_along Ellipsis f ns t = along.here t

  calls_kept : (x : Word) (p : ℕ) (ns : List ℕ) (f : Form) (σ : State) → Kept σ.rows (calls x p ns f σ)
  calls_kept x p ns f σ = placed_kept p σ (called x f ns σ.rows) (called_along x f ns σ.rows)

  joined_kept : (b : Option ℕ) (p : ℕ) (σ : State) (n : ℕ) → Kept σ.rows (joined b p σ n)
  joined_kept None p σ n = along.here σ.rows
  joined_kept (Some m) p σ n = placed_kept p σ (union2 σ.rows m n) (along.joins σ.rows m n)

  mutual
    text_kept : (x : Text) (b : Option ℕ) (σ : State) → Kept σ.rows (text_comes x b σ)
    text_kept (last a) b σ = on_kept σ.rows (alt_comes a σ) (joined b (first σ)) (alt_kept a σ) (joined_kept b (first σ))
    text_kept (join a t) b σ =
        on_kept σ.rows (on_made (alt_comes a σ) (joined b (first σ))) (λ σ' n. text_comes t (Some n) σ')
        (on_kept σ.rows (alt_comes a σ) (joined b (first σ)) (alt_kept a σ) (joined_kept b (first σ)))
        (λ σ' n. text_kept t (Some n) σ')

    alt_kept : (a : Alt) (σ : State) → Kept σ.rows (alt_comes a σ)
    alt_kept (alone w n) σ = calls_kept (word_in w n) (first σ) [] Open (past σ)
    alt_kept (one w c t) σ = on_kept σ.rows (text_comes t None (past σ)) (λ σ' n. calls c.0 (first σ) (n ∷ []) Fixed σ') (text_kept t None (past σ)) (λ σ' n. calls_kept c.0 (first σ) (n ∷ []) Fixed σ')
    alt_kept (two w c t u) σ =
        on_kept σ.rows (text_comes t None (past σ)) (λ σ' m. on_made (text_comes u None σ') (λ σ'' n. calls c.0 (first σ) (m ∷ n ∷ []) Fixed σ'')) (text_kept t None (past σ))
        (λ σ' m. on_kept σ'.rows (text_comes u None σ') (λ σ'' n. calls c.0 (first σ) (m ∷ n ∷ []) Fixed σ'') (text_kept u None σ') (λ σ'' n. calls_kept c.0 (first σ) (m ∷ n ∷ []) Fixed σ''))
    alt_kept (none w c) σ = calls_kept c.0 (first σ) [] Fixed (past σ)
    alt_kept (some w c t m) σ =
        on_kept σ.rows (text_comes t None (past σ)) (λ σ' n. more_come m (λ ns. calls c.0 (first σ) (n ∷ ns) Fixed) σ') (text_kept t None (past σ))
        (λ σ' n. more_kept m (λ ns. calls c.0 (first σ) (n ∷ ns) Fixed) σ' (λ ns σ''. calls_kept c.0 (first σ) (n ∷ ns) Fixed σ''))
    alt_kept (run w d c e t) σ = on_kept σ.rows (text_comes t None (past σ)) (λ σ' n. calls c.0 (first σ) (n ∷ []) Open (past σ')) (text_kept t None (past σ)) (λ σ' n. calls_kept c.0 (first σ) (n ∷ []) Open (past σ'))

    more_kept : (m : More) (k : List ℕ → State → Came) (σ : State) → ((ns : List ℕ) (σ' : State) → Kept σ'.rows (k ns σ')) → Kept σ.rows (more_come m k σ)
    more_kept end k σ h = h [] σ
    more_kept (also t m) k σ h =
        on_kept σ.rows (text_comes t None σ) (λ σ' n. more_come m (λ ns. k (n ∷ ns)) σ') (text_kept t None σ) (λ σ' n. more_kept m (λ ns. k (n ∷ ns)) σ' (λ ns. h (n ∷ ns)))

  pub read_along : (s : List ℕ) (t t' : List Row) (n : ℕ) → ReadAs s t t' (Ok n) → R t t'
  read_along s t t' n r =
      let x = r.0.1.0 in
      let e = r.1 x r.0.1.1 in
      subst (Kept t) e (text_kept x None _)
