-- Compiling a type: where it starts, and the root that it leaves. Assumes nothing.
use Rattle.std.proofs.Common.{◌≡◌, ℕ, suc, ◌+◌, ◌-◌, ◌*◌, ◌<◌, ◌≤◌, Bool, true, List, [], ◌∷◌, length, get_or, Some, Option, sym, refl, ap, ap₂, ◌∙◌, subst, arith}
use Rattle.matcher.specs.Nodes.{Node, valid, used}
use Rattle.membership.specs.Rows.{Row, row}
use Rattle.compiling.proofs.Fines.{Fines}
use Rattle.compiling.specs.Code.{State, state, code, execs, Safe}
use Rattle.compiling.specs.Tasks.{Going}
use Rattle.compiling.specs.declared.tasks.Task.{Task}
use Rattle.compiling.specs.declared.tasks.Task.TheVariants.{Ty}
use Rattle.matcher.specs.Meaning.{nay, accepts, tests, kid_tests}
use Rattle.custom.specs.Worlds.{World}
use Rattle.membership.specs.Members.{member}
use Rattle.compiling.proofs.Writes.{Good}
use Rattle.compiling.proofs.Weighs.{light_by}
use Rattle.compiling.proofs.Builds.{Opens, makes_by}
use Rattle.compiling.proofs.Turns.{ended}
use Rattle.compiling.proofs.Writtens.{code_writes}
use Rattle.compiling.specs.Written.{written}
use Rattle.std.proofs.lemmas.List.{nil_from_length}

-- an empty heap, where every custom says yes
abbrev empty : World
empty = record { cells = []; says = λ n t f m. true }

pub record Start (rows : List Row) (w : ℕ → Bool) (sh : Bool) (limit : ℕ) (ns : List Node) (t : ℕ) : Type 0 where
  pub safe : Safe limit sh (code rows w t) (state ns [])
  pub light : length (code rows w t) ≤ 4096

pub start : (rows : List Row) (w : ℕ → Bool) (sh : Bool) (limit : ℕ) (ns : List Node) (t : ℕ) → Fines rows → t < length rows → valid limit ns ≡ true → used ns + 2 * (row rows t).heavy ≤ limit → Start rows w sh limit ns t
start rows w sh limit ns t sound l v room =
    let light = light_by rows w sound (suc t) t (omega arith) l in
    let m = makes_by rows w sound empty (λ n e t f k. refl) sh limit (suc t) t (omega arith) l ns [] v (omega (arith, light)) in
    record { safe = m.safe; light = omega (arith, light, (sound.at t l).light) }

pub going_start : (rows : List Row) (w : ℕ → Bool) (sh : Bool) (limit : ℕ) (ns : List Node) (t : ℕ) → Fines rows → t < length rows → valid limit ns ≡ true → used ns + 2 * (row rows t).heavy ≤ limit → (tasks : List Task) (rs : List ℕ) → tasks ≡ Ty t ∷ [] → rs ≡ [] → Going rows w sh limit (execs sh (code rows w t) (state ns [])) tasks (state ns rs)
going_start rows w sh limit ns t sound l v room tasks rs e f =
    let s = start rows w sh limit ns t sound l v room in
    subst (λ xs. Going rows w sh limit (execs sh (code rows w t) (state ns [])) xs (state ns rs)) (sym e) (subst (λ r. Going rows w sh limit (execs sh (code rows w t) (state ns [])) (Ty t ∷ []) (state ns r)) (sym f) (record { fine = (l, tt); safe = s.safe; ends = refl; light = omega (arith, s.light); few = omega (arith, s.light) }))

-- with no task left, the type is written
pub arrived : (rows : List Row) (w : ℕ → Bool) (sh : Bool) (limit : ℕ) (ns : List Node) (t : ℕ) → Fines rows → t < length rows → (tasks : List Task) (st : State) → length tasks ≡ 0 → Going rows w sh limit (execs sh (code rows w t) (state ns [])) tasks st → st ≡ state (written sh rows w t ns).nodes ((written sh rows w t ns).root ∷ [])
arrived rows w sh limit ns t sound l tasks st e g = ended rows w sh limit (execs sh (code rows w t) (state ns [])) st tasks (nil_from_length tasks e) g ∙ code_writes sh rows w sound t l ns

-- the last of one result
pub last_of : (rs : List ℕ) (len m : ℕ) (o : Option ℕ) → rs ≡ m ∷ [] → len ≡ length rs → (0 < len → o ≡ Some (get_or rs (len - 1) 0)) → o ≡ Some m
last_of rs len m o e l h =
    let one : len - 1 ≡ 0 = omega (arith, ap length e) in
    h (omega (arith, ap length e)) ∙ ap Some (ap₂ (λ xs n. get_or xs n 0) e one)

pub root_means : (rows : List Row) (w : ℕ → Bool) (sh : Bool) (limit : ℕ) (ns : List Node) (t : ℕ) → Fines rows → t < length rows → valid limit ns ≡ true → used ns + 2 * (row rows t).heavy ≤ limit → (W : World) → Opens w W → (ns' : List Node) (n : ℕ) → state ns' (n ∷ []) ≡ execs sh (code rows w t) (state ns []) → (v : ℕ) → accepts W ns' n v ≡ member rows W t v
root_means rows w sh limit ns t sound l v room W opens ns' n e x =
    let light = light_by rows w sound (suc t) t (omega arith) l in
    let m = makes_by rows w sound W opens sh limit (suc t) t (omega arith) l ns [] v (omega (arith, light)) in
    let q : state ns' (n ∷ []) ≡ state m.nodes m.kids = e ∙ m.runs in
    let r : kid_tests (tests W ns') (n ∷ []) ≡ member rows W t ∷ [] = ap (λ s. kid_tests (tests W s.nodes) s.results) q ∙ m.speaks in
    ap (λ ps. get_or ps 0 nay x) r

pub root_within : (rows : List Row) (w : ℕ → Bool) (sh : Bool) (limit : ℕ) (ns : List Node) (t : ℕ) → Fines rows → t < length rows → valid limit ns ≡ true → used ns + 2 * (row rows t).heavy ≤ limit → (ns' : List Node) (n : ℕ) → state ns' (n ∷ []) ≡ execs sh (code rows w t) (state ns []) → n < length ns'
root_within rows w sh limit ns t sound l v room ns' n e =
    let light = light_by rows w sound (suc t) t (omega arith) l in
    let m = makes_by rows w sound empty (λ n e t f k. refl) sh limit (suc t) t (omega arith) l ns [] v (omega (arith, light)) in
    (subst (λ (s : State). Good (2 * (row rows t).deep) s.nodes s.results) (sym (e ∙ m.runs)) m.good).0
