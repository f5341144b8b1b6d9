-- The words and marks of a text, each with the byte where it starts. Assumes nothing.
use Rattle.std.specs.Prelude.{ℕ, suc, Bool, true, false, cond, List, [], ◌∷◌, drop, ◌==◌}

-- a word, by its bytes, or one of the four marks
pub data Item : Type 0 where
  word : List ℕ → Item
  bar : Item
  left : Item
  right : Item
  comma : Item

-- an item and the byte where it starts
pub data Placed : Type 0 where
  at : ℕ → Item → Placed

abbrev pub item : Placed → Item
item (at p i) = i

-- what a byte is: a space, one of the marks | [ ] , or a byte of a word
pub data Role : Type 0 where
  space : Role
  mark : Item → Role
  letter : Role

abbrev pub role : ℕ → Role
role b = cond (b == 32) space (cond (b == 124) (mark bar) (cond (b == 91) (mark left) (cond (b == 93) (mark right) (cond (b == 44) (mark comma) letter))))

abbrev pub is_letter_lem : Role → Bool
is_letter_lem space = false
is_letter_lem (mark m) = false
is_letter_lem letter = true

abbrev pub starts_word : List ℕ → Bool
starts_word [] = false
starts_word (b ∷ bs) = is_letter_lem (role b)

-- a byte of a word at p: in front of the word that goes on behind it, or a word of its own
abbrev pub grown : ℕ → ℕ → Bool → List Placed → List Placed
grown p b true (at q (word w) ∷ ts) = at p (word (b ∷ w)) ∷ ts
grown p b true (at q bar ∷ ts) = at p (word (b ∷ [])) ∷ at q bar ∷ ts
grown p b true (at q left ∷ ts) = at p (word (b ∷ [])) ∷ at q left ∷ ts
grown p b true (at q right ∷ ts) = at p (word (b ∷ [])) ∷ at q right ∷ ts
grown p b true (at q comma ∷ ts) = at p (word (b ∷ [])) ∷ at q comma ∷ ts
grown p b true [] = at p (word (b ∷ [])) ∷ []
grown p b false ts = at p (word (b ∷ [])) ∷ ts

abbrev pub placed : Role → ℕ → ℕ → Bool → List Placed → List Placed
placed space p b more ts = ts
placed (mark m) p b more ts = at p m ∷ ts
placed letter p b more ts = grown p b more ts

-- the items of the bytes bs, of which the first stands at p
unfoldable pub items : ℕ → List ℕ → List Placed
items p [] = []
items p (b ∷ bs) = placed (role b) p b (starts_word bs) (items (suc p) bs)

-- the items of s from the byte i on
abbrev pub from : List ℕ → ℕ → List Placed
from s i = items i (drop i s)

-- no bar and no bracket opens at the front
abbrev pub calm : List Item → Type 0
calm [] = Unit {0}
calm (word w ∷ is) = Unit {0}
calm (bar ∷ is) = ⊥
calm (left ∷ is) = ⊥
calm (right ∷ is) = Unit {0}
calm (comma ∷ is) = Unit {0}

-- no bracket opens at the front
abbrev pub still : List Item → Type 0
still [] = Unit {0}
still (word w ∷ is) = Unit {0}
still (bar ∷ is) = Unit {0}
still (left ∷ is) = ⊥
still (right ∷ is) = Unit {0}
still (comma ∷ is) = Unit {0}
