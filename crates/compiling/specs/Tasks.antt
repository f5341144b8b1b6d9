-- What each task stands for, and what it is expanded to. Assumes nothing.
use Rattle.std.specs.Prelude.{◌≡◌, ℕ, ◌+◌, ◌-◌, ◌*◌, ◌<◌, ◌≤◌, Bool, cond, ◌&&◌, List, [], ◌∷◌, ◌++◌, length, drop, Some, None, Option, ◌==◌, nat_lt, slice_index}
use Rattle.matcher.specs.declared.kind.Kind.{Kind}
use Rattle.matcher.specs.declared.kind.Kind.TheVariants.{IsAny, IsNever, IsList, IsTupleOf, IsTupleElems, IsTupleElems0, IsTupleElems1, IsTupleElems2, IsDict, IsSet, IsAnyOfTwo, IsCallable, IsType, IsIterable, IsNone}
use Rattle.compiling.specs.Limits.{most_load, most_results}
use Rattle.membership.specs.Rows.{Alt, any, plain, iter, callable, kind, list, tuple, tuple_of, dict, custom, set_of, Row, row}
use Rattle.membership.specs.Readings.{alt_at, just_any, plain_of, elems}
use Rattle.compiling.specs.Code.{Codes, State, code_basic, code_alts, code_all, leaf, type_id, value_op, item_op, beside_none_op, custom_op, code, exec, execs, Safe, Grants}
use Rattle.compiling.specs.Written.{is_none}
use Rattle.compiling.specs.declared.tasks.Op.{Op}
use Rattle.compiling.specs.declared.tasks.Op.TheVariants.{Write, ListOf, SetOf, DictOf, AnyOfTwo, AnyOf}
use Rattle.compiling.specs.declared.tasks.Task.{Task}
use Rattle.compiling.specs.declared.tasks.Task.TheVariants.{Ty, Basic, Alternatives, Elements, Step}
use Rattle.compiling.specs.declared.tasks.Expansion.{Expansion}
use Rattle.compiling.specs.declared.tasks.Expansion.TheVariants.{Zero, One, Two, Three}

-- the steps that a task stands for
abbrev pub ops_of : List Row → (ℕ → Bool) → Codes → Task → List Op
ops_of rows w C (Ty t) = C t
ops_of rows w C (Basic t i) = code_basic rows w C (alt_at rows t i)
ops_of rows w C (Alternatives t i) = code_alts rows w C (drop i (row rows t).alts)
ops_of rows w C (Elements t i j) = code_all C (drop j (elems (alt_at rows t i)))
ops_of rows w C (Step o) = o ∷ []

-- what is left to do: the last task first
abbrev pub pending : List Row → (ℕ → Bool) → Codes → List Task → List Op
pending rows w C [] = []
pending rows w C (x ∷ xs) = pending rows w C xs ++ ops_of rows w C x

-- what a task costs, by how many steps it stands for
abbrev pub cost : List Row → (ℕ → Bool) → Codes → Task → ℕ
cost rows w C (Ty t) = 5 * length (C t) - 1
cost rows w C (Basic t i) = 5 * length (code_basic rows w C (alt_at rows t i)) - 2
cost rows w C (Alternatives t i) = 5 * length (code_alts rows w C (drop i (row rows t).alts)) + 1
cost rows w C (Elements t i j) = 5 * length (code_all C (drop j (elems (alt_at rows t i)))) + 1
cost rows w C (Step o) = 1

abbrev pub load : List Row → (ℕ → Bool) → Codes → List Task → ℕ
load rows w C [] = 0
load rows w C (x ∷ xs) = cost rows w C x + load rows w C xs

-- a task names types and alternatives that stand
abbrev pub Fine : List Row → Task → Type 0
Fine rows (Ty t) = t < length rows
Fine rows (Basic t i) = (t < length rows) × (i < length (row rows t).alts)
Fine rows (Alternatives t i) = t < length rows
Fine rows (Elements t i j) = (t < length rows) × (i < length (row rows t).alts)
Fine rows (Step o) = Unit {0}

abbrev pub AllFine : List Row → List Task → Type 0
AllFine rows [] = Unit {0}
AllFine rows (x ∷ xs) = Fine rows x × AllFine rows xs

abbrev pub listed : Expansion → List Task
listed Zero = []
listed (One a) = a ∷ []
listed (Two a b) = a ∷ b ∷ []
listed (Three a b c) = a ∷ b ∷ c ∷ []

abbrev pub leaf_task : Kind → Task
leaf_task k = Step (leaf k)

-- a part: the step of its plain type, or the type
abbrev pub part_task : (ℕ → Op) → ℕ → Option ℕ → Task
part_task op t (Some n) = Step (op n)
part_task op t None = Ty t

-- a type over one part: one step where the part is anything
abbrev pub expand_over : Op → Op → (ℕ → Op) → List Row → ℕ → Expansion
expand_over whole o op rows t = cond (just_any (row rows t).alts) (One (Step whole)) (Two (Step o) (part_task op t (plain_of (row rows t).alts)))

abbrev pub expand_dict : List Row → ℕ → ℕ → Expansion
expand_dict rows k v = cond (just_any (row rows k).alts && just_any (row rows v).alts) (One (leaf_task IsDict)) (Three (Step DictOf) (Ty v) (part_task item_op k (plain_of (row rows k).alts)))

abbrev pub expand_pair : ℕ → ℕ → Option ℕ → Option ℕ → Expansion
expand_pair x y (Some a) (Some b) = Three (Step (Write IsTupleElems2 0 2)) (Step (type_id b)) (Step (type_id a))
expand_pair x y (Some a) None = Three (Step (Write IsTupleElems2 0 2)) (Ty y) (Ty x)
expand_pair x y None b = Three (Step (Write IsTupleElems2 0 2)) (Ty y) (Ty x)

-- a fixed tuple with n elements es
abbrev pub elems_by : List Row → ℕ → ℕ → List ℕ → ℕ → Expansion
elems_by rows t i es n =
    cond (n == 0) (One (leaf_task IsTupleElems0))
    (cond (n == 1) (Two (Step (Write IsTupleElems1 0 1)) (Ty (slice_index es 0)))
    (cond (n == 2) (expand_pair (slice_index es 0) (slice_index es 1) (plain_of (row rows (slice_index es 0)).alts) (plain_of (row rows (slice_index es 1)).alts))
    (Two (Step (Write IsTupleElems 0 n)) (Elements t i 0))))

-- the alternative i of the type t
abbrev pub expand_basic : List Row → (ℕ → Bool) → ℕ → ℕ → Alt → Expansion
expand_basic rows w t i any = One (leaf_task IsAny)
expand_basic rows w t i (plain n) = One (Step (value_op n))
expand_basic rows w t i (iter u) = One (leaf_task IsIterable)
expand_basic rows w t i callable = One (leaf_task IsCallable)
expand_basic rows w t i kind = One (leaf_task IsType)
expand_basic rows w t i (list u) = expand_over (leaf IsList) ListOf item_op rows u
expand_basic rows w t i (tuple ts) = elems_by rows t i ts (length ts)
expand_basic rows w t i (tuple_of u) = expand_over (type_id 8) (Write IsTupleOf 0 1) type_id rows u
expand_basic rows w t i (dict k v) = expand_dict rows k v
expand_basic rows w t i (custom n) = One (Step (custom_op w n))
expand_basic rows w t i (set_of u) = expand_over (leaf IsSet) SetOf item_op rows u

abbrev pub beside_task : ℕ → ℕ → Alt → Task
beside_task t i (plain n) = Step (beside_none_op n)
beside_task t i _ = Basic t i

abbrev pub expand_none_or : ℕ → ℕ → Alt → Expansion
expand_none_or t i a = Three (Step (Write IsAnyOfTwo 0 2)) (beside_task t i a) (leaf_task IsNone)

abbrev pub expand_two : ℕ → Alt → Alt → Expansion
expand_two t a b = cond (is_none a) (expand_none_or t 1 b) (cond (is_none b) (expand_none_or t 0 a) (Three (Step AnyOfTwo) (Basic t 1) (Basic t 0)))

-- the type t, with n alternatives
abbrev pub expand_union : List Row → ℕ → ℕ → Expansion
expand_union rows t n =
    cond (n == 0) (One (leaf_task IsNever))
    (cond (n == 1) (One (Basic t 0))
    (cond (n == 2) (expand_two t (alt_at rows t 0) (alt_at rows t 1))
    (Two (Step (AnyOf n)) (Alternatives t 0))))

abbrev pub expand_alternatives : List Row → ℕ → ℕ → Expansion
expand_alternatives rows t i = cond (nat_lt i (length (row rows t).alts)) (Two (Alternatives t (i + 1)) (Basic t i)) Zero

abbrev pub expand_elements : List Row → ℕ → ℕ → ℕ → Expansion
expand_elements rows t i j = cond (nat_lt j (length (elems (alt_at rows t i)))) (Two (Elements t i (j + 1)) (Ty (slice_index (elems (alt_at rows t i)) j))) Zero

unfoldable pub expand : List Row → (ℕ → Bool) → Task → Expansion
expand rows w (Ty t) = expand_union rows t (length (row rows t).alts)
expand rows w (Basic t i) = expand_basic rows w t i (alt_at rows t i)
expand rows w (Alternatives t i) = expand_alternatives rows t i
expand rows w (Elements t i j) = expand_elements rows t i j
expand rows w (Step o) = Zero

-- the nodes and results after a task was taken up
abbrev pub advance : Bool → Task → State → State
advance shares (Step o) st = exec shares o st
advance shares _ st = st

abbrev pub Ready : ℕ → Task → State → Type 0
Ready limit (Step o) st = Grants limit o st × (length st.results < most_results)
Ready limit _ st = Unit {0}

-- the loop: taking the steps that are left leads to the end
pub record Going (rows : List Row) (w : ℕ → Bool) (shares : Bool) (limit : ℕ) (end : State) (tasks : List Task) (st : State) : Type 0 where
  pub fine : AllFine rows tasks
  pub safe : Safe limit shares (pending rows w (code rows w) tasks) st
  pub ends : execs shares (pending rows w (code rows w) tasks) st ≡ end
  pub light : load rows w (code rows w) tasks ≤ most_load
  pub few : length st.results + length (pending rows w (code rows w) tasks) ≤ most_results
