-- Where the machine stops is where the fault is. Assumes nothing.
use Rattle.std.proofs.Common.{◌≡◌, ℕ, Bool, true, false, cond, ◌⊎◌, List, [], ◌∷◌, ◌++◌, Some, None, codes, Option, sym, refl, ap, ◌∙◌, subst, inl, inr, append_assoc, append-nil, arith}
use Rattle.std.proofs.lemmas.Bool.{true≢false}
use Rattle.grammar.specs.declared.words.Class.TheVariants.{Bare}
use Rattle.grammar.specs.declared.stages.Stage.{Stage}
use Rattle.grammar.specs.declared.stages.Stage.TheVariants.{Only, Key, Value, First, Second, Later}
use Rattle.grammar.specs.Items.{Item, word, bar, left, right, comma, Placed, at, calm}
use Rattle.grammar.specs.Grammar.{Valid, Viable, seen, Wrong, Early}
use Rattle.grammar.specs.Machine.{class, known, txt, bars, opens, arg, rest, shut, Stack, named, dotted, feed, ends, fault, or_else}
use Rattle.grammar.proofs.Theory.{on_some, takes, takes_bars, valid_taken, taken_valid}

abbrev int : List ℕ
int = codes "int"

int_bare : class int ≡ Some Bare
unfolding class known
int_bare = refl

-- the shortest way on
abbrev fin : Stack → List Item
fin [] = []
fin (txt ∷ k) = word int ∷ fin k
fin (bars ∷ k) = fin k
fin (opens st ∷ k) = fin k
fin (arg Only ∷ k) = word int ∷ right ∷ fin k
fin (arg Key ∷ k) = word int ∷ comma ∷ word int ∷ right ∷ fin k
fin (arg Value ∷ k) = word int ∷ right ∷ fin k
fin (arg First ∷ k) = right ∷ fin k
fin (arg Second ∷ k) = word int ∷ right ∷ fin k
fin (arg Later ∷ k) = word int ∷ right ∷ fin k
fin (rest Only ∷ k) = right ∷ fin k
fin (rest Key ∷ k) = comma ∷ word int ∷ right ∷ fin k
fin (rest Value ∷ k) = right ∷ fin k
fin (rest First ∷ k) = right ∷ fin k
fin (rest Second ∷ k) = right ∷ fin k
fin (rest Later ∷ k) = right ∷ fin k
fin (shut ∷ k) = right ∷ fin k

fin_calm : (k : Stack) → calm (fin k)
fin_calm [] = tt
fin_calm (txt ∷ k) = tt
fin_calm (bars ∷ k) = fin_calm k
fin_calm (opens st ∷ k) = fin_calm k
fin_calm (arg Only ∷ k) = tt
fin_calm (arg Key ∷ k) = tt
fin_calm (arg Value ∷ k) = tt
fin_calm (arg First ∷ k) = tt
fin_calm (arg Second ∷ k) = tt
fin_calm (arg Later ∷ k) = tt
fin_calm (rest Only ∷ k) = tt
fin_calm (rest Key ∷ k) = tt
fin_calm (rest Value ∷ k) = tt
fin_calm (rest First ∷ k) = tt
fin_calm (rest Second ∷ k) = tt
fin_calm (rest Later ∷ k) = tt
fin_calm (shut ∷ k) = tt

opens_calm : (st : Stage) (r : List Item) (k : Stack) → calm r → takes r (opens st ∷ k) ≡ takes r k
opens_calm st [] k c = refl
opens_calm st (word w ∷ is) k c = refl
opens_calm st (bar ∷ is) k c = refl
opens_calm st (left ∷ is) k c = absurd c
opens_calm st (right ∷ is) k c = refl
opens_calm st (comma ∷ is) k c = refl

int_taken : (is : List Item) (k : Stack) → takes (word int ∷ is) (txt ∷ k) ≡ takes is (bars ∷ k)
int_taken is k = ap (λ c. on_some (takes is) (named c k)) int_bare

fin_taken : (k : Stack) → takes (fin k) k ≡ true
fin_taken [] = refl
fin_taken (txt ∷ k) = int_taken (fin k) k ∙ takes_bars (fin k) k (fin_calm k) ∙ fin_taken k
fin_taken (bars ∷ k) = takes_bars (fin k) k (fin_calm k) ∙ fin_taken k
fin_taken (opens st ∷ k) = opens_calm st (fin k) k (fin_calm k) ∙ fin_taken k
fin_taken (arg Only ∷ k) = int_taken (right ∷ fin k) (rest Only ∷ k) ∙ fin_taken k
fin_taken (arg Key ∷ k) = int_taken (comma ∷ word int ∷ right ∷ fin k) (rest Key ∷ k) ∙ int_taken (right ∷ fin k) (rest Value ∷ k) ∙ fin_taken k
fin_taken (arg Value ∷ k) = int_taken (right ∷ fin k) (rest Value ∷ k) ∙ fin_taken k
fin_taken (arg First ∷ k) = fin_taken k
fin_taken (arg Second ∷ k) = ap (λ c. on_some (takes (right ∷ fin k)) (dotted c (Some (shut ∷ k)) (named c (rest Second ∷ k)))) int_bare ∙ fin_taken k
fin_taken (arg Later ∷ k) = int_taken (right ∷ fin k) (rest Later ∷ k) ∙ fin_taken k
fin_taken (rest Only ∷ k) = fin_taken k
fin_taken (rest Key ∷ k) = int_taken (right ∷ fin k) (rest Value ∷ k) ∙ fin_taken k
fin_taken (rest Value ∷ k) = fin_taken k
fin_taken (rest First ∷ k) = fin_taken k
fin_taken (rest Second ∷ k) = fin_taken k
fin_taken (rest Later ∷ k) = fin_taken k
fin_taken (shut ∷ k) = fin_taken k

abbrev onto : (Stack → Option Stack) → Option Stack → Option Stack
onto f (Some k) = f k
onto f None = None

-- the stack after the items is
abbrev runs : List Item → Stack → Option Stack
runs [] k = Some k
runs (i ∷ is) k = onto (runs is) (feed k i)

runs_takes : (is us : List Item) (k : Stack) → takes (is ++ us) k ≡ on_some (takes us) (runs is k)
runs_takes [] us k = refl
runs_takes (i ∷ is) us k = go (runs_takes is us) (feed k i)
  where
    go : ((k : Stack) → takes (is ++ us) k ≡ on_some (takes us) (runs is k)) → (o : Option Stack) → on_some (takes (is ++ us)) o ≡ on_some (takes us) (onto (runs is) o)
    go ih (Some k) = ih k
    go ih None = refl

runs_more : (is us : List Item) (k : Stack) → runs (is ++ us) k ≡ onto (runs us) (runs is k)
runs_more [] us k = refl
runs_more (i ∷ is) us k = go (runs_more is us) (feed k i)
  where
    go : ((k : Stack) → runs (is ++ us) k ≡ onto (runs us) (runs is k)) → (o : Option Stack) → onto (runs (is ++ us)) o ≡ onto (runs us) (onto (runs is) o)
    go ih (Some k) = ih k
    go ih None = refl

viable : (is : List Item) (k : Stack) → runs is (txt ∷ []) ≡ Some k → Viable is
viable is k e = (fin k, taken_valid (is ++ fin k) (runs_takes is (fin k) (txt ∷ []) ∙ ap (on_some (takes (fin k))) e ∙ fin_taken k))

unviable : (is : List Item) → runs is (txt ∷ []) ≡ None → Viable is → ⊥
unviable is e v = true≢false (sym (valid_taken (is ++ v.0) v.1) ∙ runs_takes is v.0 (txt ∷ []) ∙ ap (on_some (takes v.0)) e)

invalid : (is : List Item) (k : Stack) → runs is (txt ∷ []) ≡ Some k → ends k ≡ false → Valid is → ⊥
invalid is k e f v = true≢false (sym (valid_taken is v) ∙ ap (λ q. takes q (txt ∷ [])) (sym (append-nil is)) ∙ runs_takes is [] (txt ∷ []) ∙ ap (on_some (takes [])) e ∙ f)

some_is : (x y : ℕ) → Some x ≡ Some y → x ≡ y
some_is x y e = cc

none_some : (x : ℕ) → None ≡ Some x → ⊥
none_some x e = let z : ◌≡◌ {A = ℕ} 0 1 = cc in omega arith

seen_more : (before : List Placed) (p : ℕ) (i : Item) → seen (before ++ at p i ∷ []) ≡ seen before ++ i ∷ []
seen_more [] p i = refl
seen_more (at q j ∷ before) p i = ap (λ l. j ∷ l) (seen_more before p i)

abbrev Fault : List Placed → ℕ → ℕ → Type 0
Fault is n p = Wrong is p ⊎ ((p ≡ n) × Early is)

ended : (is : List Placed) (k : Stack) (n p : ℕ) → runs (seen is) (txt ∷ []) ≡ Some k → (b : Bool) → ends k ≡ b → cond b None (Some n) ≡ Some p → (p ≡ n) × Early is
ended is k n p e true f h = absurd (none_some p h)
ended is k n p e false f h = (sym (some_is n p h), (viable (seen is) k e, invalid (seen is) k e f))

pub located : (is before : List Placed) (k : Stack) (n p : ℕ) → runs (seen before) (txt ∷ []) ≡ Some k → fault n is k ≡ Some p → Wrong (before ++ is) p ⊎ ((p ≡ n) × Early (before ++ is))
located [] before k n p e h = subst (λ l. Wrong l p ⊎ ((p ≡ n) × Early l)) (sym (append-nil before)) (inr (ended before k n p e (ends k) refl h))
located (at q i ∷ is) before k n p e h = go (feed k i) refl h (λ k'. located is (before ++ at q i ∷ []) k' n p)
  where
    one_more : runs (seen (before ++ at q i ∷ [])) (txt ∷ []) ≡ feed k i
    one_more = ap (λ l. runs l (txt ∷ [])) (seen_more before q i) ∙ runs_more (seen before) (i ∷ []) (txt ∷ []) ∙ ap (onto (runs (i ∷ []))) e ∙ last_one (feed k i)
      where
        last_one : (o : Option Stack) → onto (λ k. Some k) o ≡ o
        last_one (Some k) = refl
        last_one None = refl

    go : (o : Option Stack) → feed k i ≡ o → or_else q (fault n is) o ≡ Some p → ((k' : Stack) → runs (seen (before ++ at q i ∷ [])) (txt ∷ []) ≡ Some k' → fault n is k' ≡ Some p → Wrong ((before ++ at q i ∷ []) ++ is) p ⊎ ((p ≡ n) × Early ((before ++ at q i ∷ []) ++ is))) → Wrong (before ++ at q i ∷ is) p ⊎ ((p ≡ n) × Early (before ++ at q i ∷ is))
    go (Some k') f h rec = subst (λ l. Wrong l p ⊎ ((p ≡ n) × Early l)) (append_assoc before (at q i ∷ []) is) (rec k' (one_more ∙ f) h)
    go None f h rec = inl (before, is, i, ap (λ q. before ++ at q i ∷ is) (some_is q p h), viable (seen before) k e, unviable (seen before ++ i ∷ []) (ap (λ l. runs l (txt ∷ [])) (sym (seen_more before q i)) ∙ one_more ∙ f))

pub faultless : (is : List Placed) (k : Stack) (n : ℕ) → fault n is k ≡ None → takes (seen is) k ≡ true
faultless [] k n h = go (ends k) h
  where
    go : (b : Bool) → cond b None (Some n) ≡ None → b ≡ true
    go true h = refl
    go false h = absurd (none_some n (sym h))
faultless (at q i ∷ is) k n h = go (feed k i) h (λ k'. faultless is k' n)
  where
    go : (o : Option Stack) → or_else q (fault n is) o ≡ None → ((k' : Stack) → fault n is k' ≡ None → takes (seen is) k' ≡ true) → on_some (takes (seen is)) o ≡ true
    go (Some k') h rec = rec k' h
    go None h rec = absurd (none_some q (sym h))
