-- What calls and outcomes mean. Assumes nothing.
use Rattle.std.specs.Prelude.{ℕ, cond, List as Listed, ◌++◌, vec_items, codes, decimal, Result}
use Rattle.values.specs.Lives.{cell}
use Rattle.values.specs.Values.{numbers}
use Rattle.values.specs.declared.refusal.Refusal.{Refusal}
use Rattle.membership.specs.Rows.{plain, iter, callable, kind, list, tuple, tuple_of, dict, custom, set_of}
use Rattle.type_compiled.specs.declared.annotations.TypeCompiled.{TypeCompiled}
use Rattle.runs.specs.Acts.{Act, new_cell, put_part, freeze_all, make_type, union_of, alloc_type, check_value, Answer, value_is, done, type_is, annotation_is, says, told_as}
use Rattle.working_set.specs.declared.calls.Call.{Call}
use Rattle.working_set.specs.declared.calls.Call.TheVariants.{New, Put, Freeze, StarlarkValue, Iter, Callable, TypeOfTypes, List, Tuple, TupleOf, Dict, Custom, Set, Union2, AllocTy, Check}
use Rattle.working_set.specs.declared.outcomes.Granted.{Granted}
use Rattle.working_set.specs.declared.outcomes.Granted.TheVariants.{Value, Done, Ty, Compiled, Says}

-- what each call asks
abbrev pub act : Call → Act
act (New head ps) = new_cell (cell head.ty head.flags head.mark (numbers (vec_items ps)))
act (Put v i x) = put_part v.0 i x.0
act Freeze = freeze_all
act (StarlarkValue n) = make_type (plain n)
act (Iter t) = make_type (iter t)
act Callable = make_type callable
act TypeOfTypes = make_type kind
act (List t) = make_type (list t)
act (Tuple ts) = make_type (tuple (vec_items ts))
act (TupleOf t) = make_type (tuple_of t)
act (Dict k v) = make_type (dict k v)
act (Custom n) = make_type (custom n)
act (Set t) = make_type (set_of t)
act (Union2 a b) = union_of a b
act (AllocTy t) = alloc_type t
act (Check a v) = check_value a.0 v.0

-- what each grant says
abbrev pub grants : Granted → Answer
grants (Value v) = value_is v.0
grants Done = done
grants (Ty t) = type_is t
grants (Compiled a) = annotation_is a.0
grants (Says b) = says b

-- what each outcome says
abbrev pub told : Result Granted Refusal → Answer
told = told_as grants

abbrev pub annotation_told : Result TypeCompiled Refusal → Answer
annotation_told = told_as (λ a. annotation_is a.0)

-- what is written of each grant
abbrev pub granted_text : Granted → Listed ℕ
granted_text (Value v) = codes "value " ++ decimal v.0
granted_text Done = codes "done"
granted_text (Ty t) = codes "type " ++ decimal t
granted_text (Compiled a) = codes "annotation " ++ decimal a.0
granted_text (Says is_member) = cond is_member (codes "yes") (codes "no")
