-- The words that the grammar knows, how each is spelled, and the arguments that it may have. Assumes nothing.
use Rattle.std.specs.Prelude.{◌≡◌, ℕ, ◌<◌, ◌⊎◌, List, [], ◌∷◌, ◌++◌, codes, decimal}
use Rattle.grammar.specs.declared.words.Class.{Class}
use Rattle.grammar.specs.declared.words.Class.TheVariants.{Bare, One, Two, Many, Dots}
use Rattle.grammar.specs.declared.words.Word.{Word}
use Rattle.grammar.specs.declared.words.Word.TheVariants.{Int, Boolean, Str, NoneType, Kind, Any, Never, Callable, ListOf, SetOf, IterableOf, DictOf, TupleOf, Host, Custom, Ellipsis}

pub data Row : Type 0 where
  row : List ℕ → Word → Row

-- each word that is spelled in one way
abbrev pub table : List Row
table =
    row (codes "int") Int
    ∷ row (codes "bool") Boolean
    ∷ row (codes "str") Str
    ∷ row (codes "None") NoneType
    ∷ row (codes "type") Kind
    ∷ row (codes "typing.Any") Any
    ∷ row (codes "typing.Never") Never
    ∷ row (codes "typing.Callable") Callable
    ∷ row (codes "list") ListOf
    ∷ row (codes "set") SetOf
    ∷ row (codes "typing.Iterable") IterableOf
    ∷ row (codes "dict") DictOf
    ∷ row (codes "tuple") TupleOf
    ∷ row (codes "...") Ellipsis
    ∷ []

abbrev pub Listed : List ℕ → Word → List Row → Type 0
Listed w x [] = ⊥
Listed w x (row v y ∷ rs) = ((w ≡ v) × (x ≡ y)) ⊎ Listed w x rs

-- how many numbers a name may have, from 0
abbrev pub numbers : ℕ
numbers = 65536

-- host.N and custom.N, with N as it is written in decimal
abbrev pub Numbered : List ℕ → Word → Type 0
Numbered w x = (n : ℕ) × (n < numbers) × (((w ≡ codes "host." ++ decimal n) × (x ≡ Host n)) ⊎ ((w ≡ codes "custom." ++ decimal n) × (x ≡ Custom n)))

-- the bytes w are the word x
abbrev pub Means : List ℕ → Word → Type 0
Means w x = Listed w x table ⊎ Numbered w x

-- the arguments of each word: none, one, two, or any number of them; the dots are no name
abbrev pub takes : Word → Class
takes Int = Bare
takes Boolean = Bare
takes Str = Bare
takes NoneType = Bare
takes Kind = Bare
takes Any = Bare
takes Never = Bare
takes Callable = Bare
takes ListOf = One
takes SetOf = One
takes IterableOf = One
takes DictOf = Two
takes TupleOf = Many
takes (Host n) = Bare
takes (Custom n) = Bare
takes Ellipsis = Dots

-- the bytes w are a word of the class c
abbrev pub Called : List ℕ → Class → Type 0
Called w c = (x : Word) × Means w x × (takes x ≡ c)
