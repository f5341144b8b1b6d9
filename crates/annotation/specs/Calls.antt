-- The type call that each word of an annotation stands for. Assumes nothing.
use Rattle.std.specs.Prelude.{ℕ, List, slice_index_or}
use Rattle.membership.specs.Rows.{iter, callable, kind, list, tuple, tuple_of, dict, custom, set_of, Row, grown, Outcome, granted, refused, single, plain_type}
use Rattle.grammar.specs.declared.words.Word.{Word}
use Rattle.grammar.specs.declared.words.Word.TheVariants.{Int, Boolean, Str, NoneType, Kind, Any, Never, Callable, ListOf, SetOf, IterableOf, DictOf, TupleOf, Host, Custom, Ellipsis}
use Rattle.annotation.specs.declared.calls.Form.{Form}
use Rattle.annotation.specs.declared.calls.Form.TheVariants.{Fixed, Open}

-- the argument i, or Any (the type 1) where it is not given
abbrev pub part : List ℕ → ℕ → ℕ
part ns i = slice_index_or ns i 1

-- a tuple of just these elements, or of any number of the first one
abbrev pub tuple_call : Form → List ℕ → List Row → Outcome
tuple_call Fixed ns t = single t (tuple ns)
tuple_call Open ns t = single t (tuple_of (part ns 0))

-- what the word comes to on the table t, with the types ns as arguments; Any and never stand from the start, and the dots are no name
abbrev pub called : Word → Form → List ℕ → List Row → Outcome
called Int f ns t = plain_type t 1
called Boolean f ns t = plain_type t 2
called NoneType f ns t = plain_type t 3
called Str f ns t = plain_type t 4
called Kind f ns t = single t kind
called Any f ns t = granted (grown t 1)
called Never f ns t = granted (grown t 0)
called Callable f ns t = single t callable
called ListOf f ns t = single t (list (part ns 0))
called SetOf f ns t = single t (set_of (part ns 0))
called IterableOf f ns t = single t (iter (part ns 0))
called DictOf f ns t = single t (dict (part ns 0) (part ns 1))
called TupleOf f ns t = tuple_call f ns t
called (Host n) f ns t = plain_type t n
called (Custom n) f ns t = single t (custom n)
called Ellipsis f ns t = refused 4
