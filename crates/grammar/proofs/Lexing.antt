-- Laws of `items`. Assumes nothing.
use Rattle.std.proofs.Common.{◌≡◌, ◌≢◌, ◌⊎◌, ℕ, zero, suc, ◌+◌, ◌-◌, ◌<◌, ◌≤◌, true, false, List, [], ◌∷◌, Some, None, Option, MatchOption, length, get_or, take, drop, sym, refl, ap, ◌∙◌, subst, ⊎_elim, arith, drop-cons, length-drop}
use Rattle.std.specs.List.{AllWithin, HoldsAt}
use Rattle.std.proofs.lemmas.List.{drop_all, take_all, get_or-drop}
use Rattle.std.proofs.lemmas.Bool.{cases_lt, true≢false}
use Rattle.std.proofs.lemmas.Bool.Decides.{nat_tests}
use Rattle.grammar.specs.Lexed.{Ahead, Starts}
use Rattle.grammar.specs.Items.{Item, word, at, Role, space, mark, letter, role, is_letter_lem, starts_word, grown, placed, items, from}

pub over : (s : List ℕ) (i : ℕ) → length s ≤ i → from s i ≡ []
unfolding items
over s i h = ap (items i) (drop_all i s h)

pub past_end : (s : List ℕ) (i : ℕ) → (length s < i) ⊎ (length s < length s) → from s i ≡ []
past_end s i h = over s i (⊎_elim (λ (h : length s < i). omega arith) (λ (h : length s < length s). omega arith) h)

pub step : (s : List ℕ) (i : ℕ) → i < length s → from s i ≡ placed (role (get_or s i 0)) i (get_or s i 0) (starts_word (drop (suc i) s)) (from s (suc i))
unfolding items
step s i h = ap (items i) (drop-cons s i 0 h)

pub at_space : (s : List ℕ) (i : ℕ) → i < length s → get_or s i 0 ≡ 32 → from s i ≡ from s (suc i)
at_space s i h e = step s i h ∙ ap (λ b. placed (role b) i b (starts_word (drop (suc i) s)) (from s (suc i))) e

pub at_mark : (s : List ℕ) (i b : ℕ) (m : Item) → i < length s → get_or s i 0 ≡ b → role b ≡ mark m → from s i ≡ at i m ∷ from s (suc i)
at_mark s i b m h e r =
    step s i h
    ∙ ap (λ b. placed (role b) i b (starts_word (drop (suc i) s)) (from s (suc i))) e
    ∙ ap (λ r. placed r i b (starts_word (drop (suc i) s)) (from s (suc i))) r

-- n spaces
spaces : (n : ℕ) (s : List ℕ) (i : ℕ) → i + n ≤ length s → ((k : ℕ) → i ≤ k → k < i + n → get_or s k 0 ≡ 32) → from s i ≡ from s (i + n)
spaces zero s i h all = let e : i ≡ i + 0 = omega arith in ap (from s) e
spaces (suc n) s i h all =
    let e : suc i + n ≡ i + suc n = omega arith in
    at_space s i (omega arith) (all i (omega arith) (omega arith)) ∙ spaces n s (suc i) (omega arith) (λ k a b. all k (omega arith) (omega arith)) ∙ ap (from s) e

-- a slice from i on
pub rest_of : (s : List ℕ) (i : ℕ) → take (length s - i) (drop i s) ≡ drop i s
rest_of s i = take_all (length s - i) (drop i s) (omega (arith, length-drop i s))

within_rest : (s : List ℕ) (i n : ℕ) (P : ℕ → Type 0) → AllWithin P (drop i s) 0 n → (k : ℕ) → i ≤ k → k < i + n → P (get_or s k 0)
within_rest s i n P all k a b =
    let e : i + (k - i) ≡ k = omega arith in
    subst P (get_or-drop i s (k - i) 0 ∙ ap (λ k. get_or s k 0) e) (all (k - i) 0 (omega arith) (omega arith))

-- what a search finds in what follows i
abbrev pub Found : List ℕ → ℕ → (ℕ → Type 0) → (ℕ → Type 0) → Option ℕ → Type 0
Found s i Yes No r = MatchOption r (AllWithin No (drop i s) 0 (length (drop i s))) (λ n. (n < length (drop i s)) × HoldsAt Yes (drop i s) n × AllWithin No (drop i s) 0 n)

all_found : (s : List ℕ) (i : ℕ) (No : ℕ → Type 0) → i ≤ length s → AllWithin No (drop i s) 0 (length (drop i s)) → (k : ℕ) → i ≤ k → k < length s → No (get_or s k 0)
all_found s i No h all k a b = within_rest s i (length (drop i s)) No all k a (omega (arith, length-drop i s))

pub no_start : (s : List ℕ) (i : ℕ) (r : Option ℕ) → i ≤ length s → Found s i (λ b. b ≢ 32) (λ b. b ≡ 32) r → r ≡ None → from s i ≡ []
no_start s i r h found e =
    let end : i + (length s - i) ≡ length s = omega arith in
    let all = all_found s i (λ b. b ≡ 32) h (subst (Found s i (λ b. b ≢ 32) (λ b. b ≡ 32)) e found) in
    spaces (length s - i) s i (omega arith) (λ k a b. all k a (omega arith)) ∙ ap (from s) end ∙ over s (length s) (omega arith)

pub starts_at : (s : List ℕ) (i : ℕ) (r : Option ℕ) (n : ℕ) → i ≤ length s → Found s i (λ b. b ≢ 32) (λ b. b ≡ 32) r → r ≡ Some n → Starts s i (i + n)
starts_at s i r n h found e =
    let f = subst (Found s i (λ b. b ≢ 32) (λ b. b ≡ 32)) e found in
    let long = length-drop i s in
    record {
      on = omega arith;
      within = omega (arith, f.0);
      same_items = spaces n s i (omega (arith, f.0)) (within_rest s i n (λ b. b ≡ 32) f.2);
      no_space = subst (λ b. b ≢ 32) (get_or-drop i s n 0) (f.1 0);
    }

-- the letters of a word, after its first
abbrev pub IsLetter : ℕ → Type 0
IsLetter b = is_letter_lem (role b) ≡ true

abbrev pub NoLetter : ℕ → Type 0
NoLetter b = is_letter_lem (role b) ≡ false

pub letters_end : (s : List ℕ) (i : ℕ) (r : Option ℕ) (n : ℕ) → Found s (i + 1) NoLetter IsLetter r → r ≡ Some n → (k : ℕ) → i < k → k < i + 1 + n → is_letter_lem (role (get_or s k 0)) ≡ true
letters_end s i r n found e k a b = within_rest s (i + 1) n IsLetter (subst (Found s (i + 1) NoLetter IsLetter) e found).2 k (omega arith) b

pub letters_on : (s : List ℕ) (i : ℕ) (r : Option ℕ) → i < length s → Found s (i + 1) NoLetter IsLetter r → r ≡ None → (k : ℕ) → i < k → k < length s → is_letter_lem (role (get_or s k 0)) ≡ true
letters_on s i r h found e k a b = all_found s (i + 1) IsLetter (omega arith) (subst (Found s (i + 1) NoLetter IsLetter) e found) k (omega arith) b

pub letter_role : (r : Role) → is_letter_lem r ≡ true → r ≡ letter
letter_role space e = absurd (true≢false (sym e))
letter_role (mark m) e = absurd (true≢false (sym e))
letter_role letter e = refl

pub role_letter : (b : ℕ) → (b ≡ 32 → ⊥) → (b ≡ 124 → ⊥) → (b ≡ 91 → ⊥) → (b ≡ 93 → ⊥) → (b ≡ 44 → ⊥) → is_letter_lem (role b) ≡ true
role_letter b n32 n124 n91 n93 n44 = grind (arith, nat_tests)

starts : (s : List ℕ) (i : ℕ) → i < length s → starts_word (drop i s) ≡ is_letter_lem (role (get_or s i 0))
starts s i h = ap starts_word (drop-cons s i 0 h)

starts_no : (s : List ℕ) (i : ℕ) → (i < length s → is_letter_lem (role (get_or s i 0)) ≡ false) → starts_word (drop i s) ≡ false
starts_no s i stop = ⊎_elim (λ h. starts s i h ∙ stop h) (λ h. ap starts_word (drop_all i s h)) (cases_lt i (length s))

at_letter : (s : List ℕ) (i : ℕ) → i < length s → is_letter_lem (role (get_or s i 0)) ≡ true → from s i ≡ grown i (get_or s i 0) (starts_word (drop (suc i) s)) (from s (suc i))
at_letter s i h e = step s i h ∙ ap (λ r. placed r i (get_or s i 0) (starts_word (drop (suc i) s)) (from s (suc i))) (letter_role _ e)

-- n + 1 letters, and then no letter
pub at_word : (n : ℕ) (s : List ℕ) (i : ℕ) → i + suc n ≤ length s → ((k : ℕ) → i ≤ k → k < i + suc n → is_letter_lem (role (get_or s k 0)) ≡ true) → (i + suc n < length s → is_letter_lem (role (get_or s (i + suc n) 0)) ≡ false) → from s i ≡ at i (word (take (suc n) (drop i s))) ∷ from s (i + suc n)
at_word zero s i h all stop =
    let lt : i < length s = omega arith in
    let e : i + 1 ≡ suc i = omega arith in
    at_letter s i lt (all i (omega arith) (omega arith))
    ∙ ap (λ b. grown i (get_or s i 0) b (from s (suc i))) (starts_no s (suc i) (subst (λ k. k < length s → is_letter_lem (role (get_or s k 0)) ≡ false) e stop))
    ∙ (λ j. at i (word (take 1 (sym (drop-cons s i 0 lt) j))) ∷ from s (sym e j))
at_word (suc n) s i h all stop =
    let lt : i < length s = omega arith in
    let next : suc i < length s = omega arith in
    let e : i + suc (suc n) ≡ suc i + suc n = omega arith in
    let ih = at_word n s (suc i) (omega arith) (λ k a b. all k (omega arith) (omega arith)) (subst (λ k. k < length s → is_letter_lem (role (get_or s k 0)) ≡ false) e stop) in
    at_letter s i lt (all i (omega arith) (omega arith))
    ∙ (λ j. grown i (get_or s i 0) ((starts s (suc i) next ∙ all (suc i) (omega arith) (omega arith)) j) (ih j))
    ∙ (λ j. at i (word (take (suc (suc n)) (sym (drop-cons s i 0 lt) j))) ∷ from s (sym e j))

pub mark_ahead : (s : List ℕ) (i start b : ℕ) (m : Item) → i ≤ start → start < length s → from s i ≡ from s start → get_or s start 0 ≡ b → role b ≡ mark m → Ahead s i m start (start + 1)
mark_ahead s i start b m le lt same e r =
    let one : suc start ≡ start + 1 = omega arith in
    record {
      forth = omega arith;
      within = omega arith;
      items_are = same ∙ at_mark s start b m lt e r ∙ ap (λ k. at start m ∷ from s k) one;
    }

pub word_ahead : (s : List ℕ) (i start end : ℕ) → i ≤ start → start < end → end ≤ length s → from s i ≡ from s start → is_letter_lem (role (get_or s start 0)) ≡ true → ((k : ℕ) → start < k → k < end → is_letter_lem (role (get_or s k 0)) ≡ true) → (end < length s → is_letter_lem (role (get_or s end 0)) ≡ false) → Ahead s i (word (take (end - start) (drop start s))) start end
word_ahead s i start end le lt within same first all stop =
    let e : start + suc (end - start - 1) ≡ end = omega arith in
    let long : suc (end - start - 1) ≡ end - start = omega arith in
    record {
      forth = omega arith;
      within = within;
      items_are =
          same
          ∙ at_word (end - start - 1) s start (omega arith) (λ k a b. ⊎_elim (λ (h : start < k). all k h (omega arith)) (λ (h : k ≤ start). let q : start ≡ k = omega arith in subst (λ k. is_letter_lem (role (get_or s k 0)) ≡ true) q first) (cases_lt start k)) (subst (λ k. k < length s → is_letter_lem (role (get_or s k 0)) ≡ false) (sym e) stop)
          ∙ (λ j. at start (word (take (long j) (drop start s))) ∷ from s (e j));
    }
