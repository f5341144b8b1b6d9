-- The stack machine accepts just the valid texts, and stops just where no valid text goes on. Assumes nothing.
use Rattle.std.proofs.Common.{◌≡◌, ℕ, Bool, true, false, cond, ◌⊎◌, List, [], ◌∷◌, Some, None, Option, sym, refl, ap, ◌∙◌, subst, inl, inr, ⊎_elim}
use Rattle.std.proofs.lemmas.Bool.{true≢false}
use Rattle.grammar.specs.declared.words.Class.{Class}
use Rattle.grammar.specs.declared.words.Class.TheVariants.{Bare, One, Two, Many, Dots}
use Rattle.grammar.specs.declared.stages.Stage.{Stage}
use Rattle.grammar.specs.declared.stages.Stage.TheVariants.{Only, Key, Value, First, Second, Later}
use Rattle.grammar.specs.Items.{Item, word, bar, left, right, comma, calm, still}
use Rattle.grammar.specs.Grammar.{Name, Text, last, join, Alt, alone, one, two, none, some, run, More, end, also, text, alt, more, Valid}
use Rattle.grammar.proofs.Names.{called, meant}
use Rattle.grammar.specs.Machine.{class, txt, bars, opens, arg, rest, shut, Stack, named, begins, dotted, argues, goes, closes, barred, opened, feed, ends, after, may_close, may_comma}

abbrev pub on_some : (Stack → Bool) → Option Stack → Bool
on_some f (Some k) = f k
on_some f None = false

abbrev pub takes : List Item → Stack → Bool
takes [] k = ends k
takes (i ∷ is) k = on_some (takes is) (feed k i)

pub calm_still : (r : List Item) → calm r → still r
calm_still [] c = tt
calm_still (word w ∷ is) c = tt
calm_still (bar ∷ is) c = tt
calm_still (left ∷ is) c = c
calm_still (right ∷ is) c = tt
calm_still (comma ∷ is) c = tt

pub takes_bars : (r : List Item) (k : Stack) → calm r → takes r (bars ∷ k) ≡ takes r k
takes_bars [] k c = refl
takes_bars (word w ∷ is) k c = refl
takes_bars (bar ∷ is) k c = absurd c
takes_bars (left ∷ is) k c = refl
takes_bars (right ∷ is) k c = refl
takes_bars (comma ∷ is) k c = refl

takes_opens : (st : Stage) (r : List Item) (k : Stack) → still r → takes r (opens st ∷ k) ≡ takes r k
takes_opens st [] k c = refl
takes_opens st (word w ∷ is) k c = refl
takes_opens st (bar ∷ is) k c = refl
takes_opens st (left ∷ is) k c = absurd c
takes_opens st (right ∷ is) k c = refl
takes_opens st (comma ∷ is) k c = refl

-- a text begins with a name
abbrev pub Headed : List Item → Type 0
Headed is = (w : List ℕ) × (r : List Item) × (is ≡ word w ∷ r) × Name w

pub alt_head : (a : Alt) (r : List Item) → Headed (alt a r)
alt_head (alone w n) r = (w, _, refl, n)
alt_head (one w c t) r = (w, _, refl, inr (inl c))
alt_head (two w c t u) r = (w, _, refl, inr (inr (inl c)))
alt_head (none w c) r = (w, _, refl, inr (inr (inr c)))
alt_head (some w c t m) r = (w, _, refl, inr (inr (inr c)))
alt_head (run w d c e t) r = (w, _, refl, inr (inr (inr c)))

pub text_head : (t : Text) (r : List Item) → Headed (text t r)
text_head (last a) r = alt_head a r
text_head (join a t) r = alt_head a (bar ∷ text t r)

undotted : (w : List ℕ) → Name w → (a b : Option Stack) → dotted (class w) a b ≡ b
undotted w n a b =
    let at : (c : Class) → class w ≡ Some c → dotted (Some c) a b ≡ b → dotted (class w) a b ≡ b = λ c e q. ap (λ c. dotted c a b) e ∙ q in
    ⊎_elim (λ e. at Bare (called w Bare e) refl) (⊎_elim (λ e. at One (called w One e) refl) (⊎_elim (λ e. at Two (called w Two e) refl) (λ e. at Many (called w Many e) refl))) n

arg_word : (st : Stage) (w : List ℕ) → Name w → (r : List Item) (k : Stack) → takes (word w ∷ r) (arg st ∷ k) ≡ takes (word w ∷ r) (txt ∷ rest st ∷ k)
arg_word Only w n r k = refl
arg_word Key w n r k = refl
arg_word Value w n r k = refl
arg_word First w n r k = refl
arg_word Second w n r k = ap (on_some (takes r)) (undotted w n (Some (shut ∷ k)) (named (class w) (rest Second ∷ k)))
arg_word Later w n r k = refl

arg_text : (st : Stage) (t : Text) (r : List Item) (k : Stack) → takes (text t r) (arg st ∷ k) ≡ takes (text t r) (txt ∷ rest st ∷ k)
arg_text st t r k =
    let h = text_head t r in
    ap (λ is. takes is (arg st ∷ k)) h.2 ∙ arg_word st h.0 h.3 h.1 k ∙ ap (λ is. takes is (txt ∷ rest st ∷ k)) (sym h.2)

by_class : (w : List ℕ) (c : Class) → class w ≡ Some c → (r : List Item) (k : Stack) → takes (word w ∷ r) (txt ∷ k) ≡ on_some (takes r) (named (Some c) k)
by_class w c e r k = ap (λ c. on_some (takes r) (named c k)) e

more_calm : (m : More) (r : List Item) → calm (more m (right ∷ r))
more_calm end r = tt
more_calm (also t m) r = tt

close_after : (st : Stage) → may_close st ≡ true → may_comma st ≡ true → may_close (after st) ≡ true
close_after Only x y = refl
close_after Key x y = refl
close_after Value x y = refl
close_after First x y = refl
close_after Second x y = refl
close_after Later x y = refl

comma_after : (st : Stage) → may_close st ≡ true → may_comma st ≡ true → may_comma (after st) ≡ true
comma_after Only x y = refl
comma_after Key x y = absurd (true≢false (sym x))
comma_after Value x y = refl
comma_after First x y = refl
comma_after Second x y = refl
comma_after Later x y = refl

mutual
  takes_text : (t : Text) (r : List Item) (k : Stack) → calm r → takes (text t r) (txt ∷ k) ≡ takes r k
  takes_text (last a) r k c = takes_alt a r k (calm_still r c) ∙ takes_bars r k c
  takes_text (join a t) r k c = takes_alt a (bar ∷ text t r) k tt ∙ takes_text t r k c

  takes_alt : (a : Alt) (r : List Item) (k : Stack) → still r → takes (alt a r) (txt ∷ k) ≡ takes r (bars ∷ k)
  takes_alt (alone w n) r k c =
      ⊎_elim (λ e. by_class w Bare (called w Bare e) r k)
      (⊎_elim (λ e. by_class w One (called w One e) r k ∙ takes_opens Only r (bars ∷ k) c)
      (⊎_elim (λ e. by_class w Two (called w Two e) r k ∙ takes_opens Key r (bars ∷ k) c) (λ e. by_class w Many (called w Many e) r k ∙ takes_opens First r (bars ∷ k) c))) n
  takes_alt (one w e t) r k c = by_class w One (called w One e) (left ∷ text t (right ∷ r)) k ∙ arg_text Only t (right ∷ r) (bars ∷ k) ∙ takes_text t (right ∷ r) (rest Only ∷ bars ∷ k) tt
  takes_alt (two w e t u) r k c =
      by_class w Two (called w Two e) (left ∷ text t (comma ∷ text u (right ∷ r))) k
      ∙ arg_text Key t (comma ∷ text u (right ∷ r)) (bars ∷ k)
      ∙ takes_text t (comma ∷ text u (right ∷ r)) (rest Key ∷ bars ∷ k) tt
      ∙ arg_text Value u (right ∷ r) (bars ∷ k)
      ∙ takes_text u (right ∷ r) (rest Value ∷ bars ∷ k) tt
  takes_alt (none w e) r k c = by_class w Many (called w Many e) (left ∷ right ∷ r) k
  takes_alt (some w e t m) r k c =
      by_class w Many (called w Many e) (left ∷ text t (more m (right ∷ r))) k
      ∙ arg_text First t (more m (right ∷ r)) (bars ∷ k)
      ∙ takes_text t (more m (right ∷ r)) (rest First ∷ bars ∷ k) (more_calm m r)
      ∙ takes_more m First refl refl r (bars ∷ k)
  takes_alt (run w d e f t) r k c =
      by_class w Many (called w Many e) (left ∷ text t (comma ∷ word d ∷ right ∷ r)) k
      ∙ arg_text First t (comma ∷ word d ∷ right ∷ r) (bars ∷ k)
      ∙ takes_text t (comma ∷ word d ∷ right ∷ r) (rest First ∷ bars ∷ k) tt
      ∙ ap (λ c. on_some (takes (right ∷ r)) (dotted c (Some (shut ∷ bars ∷ k)) (named c (rest Second ∷ bars ∷ k)))) (called d Dots f)

  takes_more : (m : More) (st : Stage) → may_close st ≡ true → may_comma st ≡ true → (r : List Item) (k : Stack) → takes (more m (right ∷ r)) (rest st ∷ k) ≡ takes r k
  takes_more end st x y r k = ap (λ b. on_some (takes r) (cond b (Some k) None)) x
  takes_more (also t m) st x y r k =
      ap (λ b. on_some (takes (text t (more m (right ∷ r)))) (cond b (Some (arg (after st) ∷ k)) None)) y
      ∙ arg_text (after st) t (more m (right ∷ r)) k
      ∙ takes_text t (more m (right ∷ r)) (rest (after st) ∷ k) (more_calm m r)
      ∙ takes_more m (after st) (close_after st x y) (comma_after st x y) r k

-- every valid text is taken
pub valid_taken : (is : List Item) → Valid is → takes is (txt ∷ []) ≡ true
valid_taken is v = ap (λ is. takes is (txt ∷ [])) (sym v.1) ∙ takes_text v.0 [] [] tt

-- what a stack still lets come
abbrev RestL : Stage → (List Item → Type 0) → List Item → Type 0
RestL Only P is = (r : List Item) × (is ≡ right ∷ r) × P r
RestL Key P is = (u : Text) × (r : List Item) × (is ≡ comma ∷ text u (right ∷ r)) × P r
RestL Value P is = (r : List Item) × (is ≡ right ∷ r) × P r
RestL First P is = ((m : More) × (r : List Item) × (is ≡ more m (right ∷ r)) × P r) ⊎ ((d : List ℕ) × (r : List Item) × (class d ≡ Some Dots) × (is ≡ comma ∷ word d ∷ right ∷ r) × P r)
RestL Second P is = (m : More) × (r : List Item) × (is ≡ more m (right ∷ r)) × P r
RestL Later P is = (m : More) × (r : List Item) × (is ≡ more m (right ∷ r)) × P r

abbrev ArgL : Stage → (List Item → Type 0) → List Item → Type 0
ArgL Only P is = (t : Text) × (r : List Item) × (is ≡ text t (right ∷ r)) × P r
ArgL Key P is = (t u : Text) × (r : List Item) × (is ≡ text t (comma ∷ text u (right ∷ r))) × P r
ArgL Value P is = (t : Text) × (r : List Item) × (is ≡ text t (right ∷ r)) × P r
ArgL First P is = ((r : List Item) × (is ≡ right ∷ r) × P r) ⊎ ((t : Text) × (q : List Item) × (is ≡ text t q) × RestL First P q)
ArgL Second P is = ((d : List ℕ) × (r : List Item) × (class d ≡ Some Dots) × (is ≡ word d ∷ right ∷ r) × P r) ⊎ ((t : Text) × (m : More) × (r : List Item) × (is ≡ text t (more m (right ∷ r))) × P r)
ArgL Later P is = (t : Text) × (m : More) × (r : List Item) × (is ≡ text t (more m (right ∷ r))) × P r

abbrev Lang : Stack → List Item → Type 0
Lang [] is = is ≡ []
Lang (txt ∷ k) is = (t : Text) × (r : List Item) × (is ≡ text t r) × Lang k r
Lang (bars ∷ k) is = Lang k is ⊎ ((t : Text) × (r : List Item) × (is ≡ bar ∷ text t r) × Lang k r)
Lang (opens st ∷ k) is = Lang k is ⊎ ((q : List Item) × (is ≡ left ∷ q) × ArgL st (Lang k) q)
Lang (arg st ∷ k) is = ArgL st (Lang k) is
Lang (rest st ∷ k) is = RestL st (Lang k) is
Lang (shut ∷ k) is = (r : List Item) × (is ≡ right ∷ r) × Lang k r

abbrev AtSome : (Stack → Type 0) → Option Stack → Type 0
AtSome P (Some k) = P k
AtSome P None = ⊥

abbrev Onward : List Item → Option Stack → Type 0
Onward is o = AtSome (λ k. Lang k is) o

with_bars : (a : Alt) (r : List Item) (k : Stack) → Lang (bars ∷ k) r → Lang (txt ∷ k) (alt a r)
with_bars a r k (inl l) = (last a, r, refl, l)
with_bars a r k (inr h) = (join a h.0, h.1, ap (alt a) h.2, h.3)

moved : (k : Stack) {is js : List Item} → is ≡ js → Lang k js → Lang k is
moved k e l = subst (Lang k) (sym e) l

named_one : (w : List ℕ) → class w ≡ Some One → (k : Stack) (is : List Item) → Lang (opens Only ∷ bars ∷ k) is → Lang (txt ∷ k) (word w ∷ is)
named_one w e k is (inl b) = with_bars (alone w (inr (inl (meant w One e)))) is k b
named_one w e k is (inr h) = moved (txt ∷ k) (ap (λ q. word w ∷ q) (h.1 ∙ ap (λ q. left ∷ q) h.2.2)) (with_bars (one w (meant w One e) h.2.0) h.2.1 k h.2.3)

named_two : (w : List ℕ) → class w ≡ Some Two → (k : Stack) (is : List Item) → Lang (opens Key ∷ bars ∷ k) is → Lang (txt ∷ k) (word w ∷ is)
named_two w e k is (inl b) = with_bars (alone w (inr (inr (inl (meant w Two e))))) is k b
named_two w e k is (inr h) = moved (txt ∷ k) (ap (λ q. word w ∷ q) (h.1 ∙ ap (λ q. left ∷ q) h.2.3)) (with_bars (two w (meant w Two e) h.2.0 h.2.1) h.2.2 k h.2.4)

tupled : (w : List ℕ) → class w ≡ Some Many → (k : Stack) (is : List Item) → ArgL First (Lang (bars ∷ k)) is → Lang (txt ∷ k) (word w ∷ left ∷ is)
tupled w e k is (inl h) = moved (txt ∷ k) (ap (λ q. word w ∷ left ∷ q) h.1) (with_bars (none w (meant w Many e)) h.0 k h.2)
tupled w e k is (inr h) = go h.3
  where
    go : RestL First (Lang (bars ∷ k)) h.1 → Lang (txt ∷ k) (word w ∷ left ∷ is)
    go (inl m) = moved (txt ∷ k) (ap (λ q. word w ∷ left ∷ q) (h.2 ∙ ap (text h.0) m.2)) (with_bars (some w (meant w Many e) h.0 m.0) m.1 k m.3)
    go (inr d) = moved (txt ∷ k) (ap (λ q. word w ∷ left ∷ q) (h.2 ∙ ap (text h.0) d.3)) (with_bars (run w d.0 (meant w Many e) (meant d.0 Dots d.2) h.0) d.1 k d.4)

named_many : (w : List ℕ) → class w ≡ Some Many → (k : Stack) (is : List Item) → Lang (opens First ∷ bars ∷ k) is → Lang (txt ∷ k) (word w ∷ is)
named_many w e k is (inl b) = with_bars (alone w (inr (inr (inr (meant w Many e))))) is k b
named_many w e k is (inr h) = moved (txt ∷ k) (ap (λ q. word w ∷ q) h.1) (tupled w e k h.0 h.2)

back_named : (c : Option Class) (w : List ℕ) → class w ≡ c → (k : Stack) (is : List Item) → Onward is (named c k) → Lang (txt ∷ k) (word w ∷ is)
back_named (Some Bare) w e k is h = with_bars (alone w (inl (meant w Bare e))) is k h
back_named (Some One) w e k is h = named_one w e k is h
back_named (Some Two) w e k is h = named_two w e k is h
back_named (Some Many) w e k is h = named_many w e k is h
back_named (Some Dots) w e k is h = absurd h
back_named None w e k is h = absurd h

back_txt : (i : Item) (k : Stack) (is : List Item) → Onward is (begins i k) → Lang (txt ∷ k) (i ∷ is)
back_txt (word w) k is h = back_named (class w) w refl k is h
back_txt bar k is h = absurd h
back_txt left k is h = absurd h
back_txt right k is h = absurd h
back_txt comma k is h = absurd h

dots_or : (c : Option Class) (w : List ℕ) → class w ≡ c → (k : Stack) (is : List Item) → Onward is (dotted c (Some (shut ∷ k)) (named c (rest Second ∷ k))) → ArgL Second (Lang k) (word w ∷ is)
dots_or (Some Bare) w e k is h = inr (let l = back_named (Some Bare) w e (rest Second ∷ k) is h in (l.0, l.3.0, l.3.1, l.2 ∙ ap (text l.0) l.3.2, l.3.3))
dots_or (Some One) w e k is h = inr (let l = back_named (Some One) w e (rest Second ∷ k) is h in (l.0, l.3.0, l.3.1, l.2 ∙ ap (text l.0) l.3.2, l.3.3))
dots_or (Some Two) w e k is h = inr (let l = back_named (Some Two) w e (rest Second ∷ k) is h in (l.0, l.3.0, l.3.1, l.2 ∙ ap (text l.0) l.3.2, l.3.3))
dots_or (Some Many) w e k is h = inr (let l = back_named (Some Many) w e (rest Second ∷ k) is h in (l.0, l.3.0, l.3.1, l.2 ∙ ap (text l.0) l.3.2, l.3.3))
dots_or (Some Dots) w e k is h = inl (w, h.0, e, ap (λ q. word w ∷ q) h.1, h.2)
dots_or None w e k is h = absurd h

back_arg : (st : Stage) (i : Item) (k : Stack) (is : List Item) → Onward is (argues st i k) → ArgL st (Lang k) (i ∷ is)
back_arg Only i k is h = let l = back_txt i (rest Only ∷ k) is h in (l.0, l.3.0, l.2 ∙ ap (text l.0) l.3.1, l.3.2)
back_arg Key i k is h = let l = back_txt i (rest Key ∷ k) is h in (l.0, l.3.0, l.3.1, l.2 ∙ ap (text l.0) l.3.2, l.3.3)
back_arg Value i k is h = let l = back_txt i (rest Value ∷ k) is h in (l.0, l.3.0, l.2 ∙ ap (text l.0) l.3.1, l.3.2)
back_arg First (word w) k is h = inr (back_named (class w) w refl (rest First ∷ k) is h)
back_arg First bar k is h = absurd h
back_arg First left k is h = absurd h
back_arg First right k is h = inl (is, refl, h)
back_arg First comma k is h = absurd h
back_arg Second (word w) k is h = dots_or (class w) w refl k is h
back_arg Second bar k is h = absurd h
back_arg Second left k is h = absurd h
back_arg Second right k is h = absurd h
back_arg Second comma k is h = absurd h
back_arg Later i k is h = let l = back_txt i (rest Later ∷ k) is h in (l.0, l.3.0, l.3.1, l.2 ∙ ap (text l.0) l.3.2, l.3.3)

more_on : (k : Stack) (is : List Item) → ArgL Later (Lang k) is → (m : More) × (r : List Item) × (comma ∷ is ≡ more m (right ∷ r)) × Lang k r
more_on k is h = (also h.0 h.1, h.2, ap (λ q. comma ∷ q) h.3, h.4)

second_on : (k : Stack) (is : List Item) → ArgL Second (Lang k) is → RestL First (Lang k) (comma ∷ is)
second_on k is (inl h) = inr (h.0, h.1, h.2, ap (λ q. comma ∷ q) h.3, h.4)
second_on k is (inr h) = inl (also h.0 h.1, h.2, ap (λ q. comma ∷ q) h.3, h.4)

back_right : (st : Stage) (k : Stack) (is : List Item) → Onward is (goes st right k) → RestL st (Lang k) (right ∷ is)
back_right Only k is h = (is, refl, h)
back_right Key k is h = absurd h
back_right Value k is h = (is, refl, h)
back_right First k is h = inl (end, is, refl, h)
back_right Second k is h = (end, is, refl, h)
back_right Later k is h = (end, is, refl, h)

back_comma : (st : Stage) (k : Stack) (is : List Item) → Onward is (goes st comma k) → RestL st (Lang k) (comma ∷ is)
back_comma Only k is h = absurd h
back_comma Key k is h = (h.0, h.1, ap (λ q. comma ∷ q) h.2, h.3)
back_comma Value k is h = absurd h
back_comma First k is h = second_on k is h
back_comma Second k is h = more_on k is h
back_comma Later k is h = more_on k is h

back_rest : (st : Stage) (i : Item) (k : Stack) (is : List Item) → Onward is (goes st i k) → RestL st (Lang k) (i ∷ is)
back_rest st (word w) k is h = absurd h
back_rest st bar k is h = absurd h
back_rest st left k is h = absurd h
back_rest st right k is h = back_right st k is h
back_rest st comma k is h = back_comma st k is h

back_shut : (i : Item) (k : Stack) (is : List Item) → Onward is (closes i k) → Lang (shut ∷ k) (i ∷ is)
back_shut (word w) k is h = absurd h
back_shut bar k is h = absurd h
back_shut left k is h = absurd h
back_shut right k is h = (is, refl, h)
back_shut comma k is h = absurd h

back_bars : (i : Item) (k : Stack) (is : List Item) → (Onward is (feed k i) → Lang k (i ∷ is)) → Onward is (barred i k (feed k i)) → Lang (bars ∷ k) (i ∷ is)
back_bars (word w) k is f h = inl (f h)
back_bars bar k is f h = inr (h.0, h.1, ap (λ q. bar ∷ q) h.2, h.3)
back_bars left k is f h = inl (f h)
back_bars right k is f h = inl (f h)
back_bars comma k is f h = inl (f h)

back_opens : (st : Stage) (i : Item) (k : Stack) (is : List Item) → (Onward is (feed k i) → Lang k (i ∷ is)) → Onward is (opened i (arg st ∷ k) (feed k i)) → Lang (opens st ∷ k) (i ∷ is)
back_opens st (word w) k is f h = inl (f h)
back_opens st bar k is f h = inl (f h)
back_opens st left k is f h = inr (is, refl, h)
back_opens st right k is f h = inl (f h)
back_opens st comma k is f h = inl (f h)

back : (k : Stack) (i : Item) (is : List Item) → Onward is (feed k i) → Lang k (i ∷ is)
back [] i is h = absurd h
back (txt ∷ k) i is h = back_txt i k is h
back (bars ∷ k) i is h = back_bars i k is (back k i is) h
back (opens st ∷ k) i is h = back_opens st i k is (back k i is) h
back (arg st ∷ k) i is h = back_arg st i k is h
back (rest st ∷ k) i is h = back_rest st i k is h
back (shut ∷ k) i is h = back_shut i k is h

over : (k : Stack) → ends k ≡ true → Lang k []
over [] e = refl
over (txt ∷ k) e = absurd (true≢false (sym e))
over (bars ∷ k) e = inl (over k e)
over (opens st ∷ k) e = inl (over k e)
over (arg st ∷ k) e = absurd (true≢false (sym e))
over (rest st ∷ k) e = absurd (true≢false (sym e))
over (shut ∷ k) e = absurd (true≢false (sym e))

lift : (is : List Item) → ((k : Stack) → takes is k ≡ true → Lang k is) → (o : Option Stack) → on_some (takes is) o ≡ true → Onward is o
lift is f (Some k) e = f k e
lift is f None e = absurd (true≢false (sym e))

sound : (is : List Item) (k : Stack) → takes is k ≡ true → Lang k is
sound [] k e = over k e
sound (i ∷ is) k e = back k i is (lift is (sound is) (feed k i) e)

-- what is taken is valid
pub taken_valid : (is : List Item) → takes is (txt ∷ []) ≡ true → Valid is
taken_valid is e = let l = sound is (txt ∷ []) e in (l.0, ap (text l.0) (sym l.3) ∙ sym l.2)
