-- The word and the class that the reader finds are those of the grammar. Assumes nothing.
use Rattle.std.proofs.Common.{◌≡◌, ℕ, ◌==◌, ◌+◌, ◌-◌, ◌*◌, ◌^◌, ◌<◌, ◌≤◌, Bool, true, false, cond, not, ◌&&◌, ◌||◌, leb, ◌⊎◌, List, [], ◌∷◌, ◌++◌, map, length, get_or, take, drop, Bor, Some, None, codes, decimal, Option, MatchOption, sym, refl, ap, ◌∙◌, inl, inr, ⊎_elim, arith, take-append-drop, rules}
use Rattle.std.specs.List.{find, fold}
use Rattle.std.specs.Char.{is_ascii_digit}
use Rattle.std.specs.Option.{option_map}
use Rattle.std.specs.Str.{bytes_eq, all_ascii_digits}
use Rattle.std.proofs.lemmas.Slice.Eq.{bytes_eq-Decides}
use Rattle.std.proofs.lemmas.Fmt.{digits_decimal, digits_value-decimal, length-decimal-le, decimal_nonempty, first_decimal, decimal_digit, decimal-digits_value}
use Rattle.std.proofs.lemmas.Str.Parse.{IsNumeralModel, numerals_by_fold, tells_all_ascii_digits, not_in_digits}
use Rattle.std.proofs.lemmas.Bool.{and_left, and_right, and_cases, not-false, not_from_true, and_parts, and_from, or_cases, or_parts, leb-true, leb-false, lt-leb, eqb-true, eqb-false, not-true, le-leb, eq-eqb, ne_eqb, not_from_false, cond-true, cond-false, cases_lt, true≢false}
use Rattle.grammar.specs.declared.words.Class.{Class}
use Rattle.grammar.specs.declared.words.Word.{Word}
use Rattle.grammar.specs.declared.words.Word.TheVariants.{Host, Custom}
use Rattle.grammar.specs.Names.{Row, row, table, Listed, Numbered, Means, takes, Called}
use Rattle.grammar.specs.Machine.{class, class_by, known, look_up, number, with_number, numbered, zero_first_lem, is_number, read_on}

own : IsNumeralModel (λ ds. all_ascii_digits ds ≡ true) (read_on 0)
own = numerals_by_fold _ tells_all_ascii_digits read_on (search rules)

record Number (ds : List ℕ) : Type 0 where
  some : 0 < length ds
  plain : zero_first_lem ds ≡ false
  digits : all_ascii_digits ds ≡ true
  small : read_on 0 ds < 65536

number_parts : (ds : List ℕ) → is_number ds ≡ true → Number ds
unfolding is_number
number_parts ds e =
    let a = and_parts (leb 1 (length ds)) _ e in
    let b = and_parts (leb (length ds) 5) _ a.1 in
    let f = and_parts (not (zero_first_lem ds)) _ b.1 in
    let g = and_parts (all_ascii_digits ds) (leb (read_on 0 ds) 65535) f.1 in
    let some : 1 ≤ length ds = leb-true 1 (length ds) a.0 in
    let small : read_on 0 ds ≤ 65535 = leb-true (read_on 0 ds) 65535 g.1 in
    record { some = omega (arith, some); plain = not-true _ f.0; digits = g.0; small = omega (arith, small) }

-- digits with no zero in front are the number that they come to, as it is written
written : (ds : List ℕ) → all_ascii_digits ds ≡ true → 0 < length ds → zero_first_lem ds ≡ false → read_on 0 ds < 65536 → decimal (read_on 0 ds) ≡ ds
written ds digits some plain small =
    let front : get_or ds 0 0 ≡ 48 → length ds ≡ 1 = λ z. ⊎_elim (λ x. absurd (eqb-false (get_or ds 0 0) 48 x z)) (λ x. eqb-true (length ds) 1 (not-false _ x)) (and_cases _ _ plain) in
    decimal-digits_value own ds digits (omega arith) front (omega arith)

-- what is read as a number is that number as it is written, and the other way round
number_from : (ds : List ℕ) → is_number ds ≡ true → (read_on 0 ds < 65536) × (ds ≡ decimal (read_on 0 ds))
number_from ds e = let p = number_parts ds e in (p.small, sym (written ds p.digits p.some p.plain p.small))

number_to : (n : ℕ) → n < 65536 → is_number (decimal n) ≡ true
unfolding is_number
number_to n lt =
    let big : n < 2 ^ 64 = omega arith in
    and_from _ _ (le-leb 1 (length (decimal n)) (decimal_nonempty n big))
    (and_from _ _ (le-leb (length (decimal n)) 5 (length-decimal-le 5 n (omega arith) (omega arith) big))
    (and_from _ _ (not_from_false _ (⊎_elim (λ (pos : 0 < n). and_left _ _ (ne_eqb (get_or (decimal n) 0 0) 48 (let f = first_decimal n pos big in λ z. omega arith))) (λ (z : n ≤ 0). let q : n ≡ 0 = omega arith in and_right _ _ (not_from_true _ (eq-eqb (length (decimal n)) 1 (ap (λ k. length (decimal k)) q ∙ ap length (decimal_digit 0 (omega arith)))))) (cases_lt 0 n)))
    (and_from _ _ (digits_decimal own n big) (le-leb (read_on 0 (decimal n)) 65535 (let v = digits_value-decimal own n big in omega arith)))))

number_is : (n : ℕ) → n < 65536 → number (decimal n) ≡ Some n
number_is n lt = let big : n < 2 ^ 64 = omega arith in cond-true (is_number (decimal n)) (Some (read_on 0 (decimal n))) None (number_to n lt) ∙ ap Some (digits_value-decimal own n big)

bytes_are : (w v : List ℕ) → bytes_eq w v ≡ true → w ≡ v
bytes_are w v e = (bytes_eq-Decides w v).0 e

word_is : (x y : Word) → Some x ≡ Some y → x ≡ y
word_is x y e = cc

none_word : (x : Word) → None ≡ Some x → ⊥
none_word x e = let z : ◌≡◌ {A = ℕ} 0 1 = cc in omega arith

numbered_as : (f : ℕ → Word) (x : Word) (ds : List ℕ) → with_number f (number ds) ≡ Some x → (n : ℕ) × (n < 65536) × (ds ≡ decimal n) × (x ≡ f n)
numbered_as f x ds e = go (is_number ds) refl e
  where
    go : (b : Bool) → is_number ds ≡ b → with_number f (cond b (Some (read_on 0 ds)) None) ≡ Some x → (n : ℕ) × (n < 65536) × (ds ≡ decimal n) × (x ≡ f n)
    go true i h = let n = number_from ds i in (read_on 0 ds, n.0, n.1, sym (word_is _ _ h))
    go false i h = absurd (none_word x h)

numbered_from : (w : List ℕ) (x : Word) → numbered w ≡ Some x → Numbered w x
numbered_from w x e = go (bytes_eq (take 5 w) (codes "host.")) (bytes_eq (take 7 w) (codes "custom.")) refl refl e
  where
    go : (a b : Bool) → bytes_eq (take 5 w) (codes "host.") ≡ a → bytes_eq (take 7 w) (codes "custom.") ≡ b → cond a (with_number Host (number (drop 5 w))) (cond b (with_number Custom (number (drop 7 w))) None) ≡ Some x → Numbered w x
    go true b p q h = let n = numbered_as Host x (drop 5 w) h in (n.0, n.1, inl (sym (take-append-drop 5 w) ∙ (λ i. bytes_are (take 5 w) (codes "host.") p i ++ n.2 i), n.3))
    go false true p q h = let n = numbered_as Custom x (drop 7 w) h in (n.0, n.1, inr (sym (take-append-drop 7 w) ∙ (λ i. bytes_are (take 7 w) (codes "custom.") q i ++ n.2 i), n.3))
    go false false p q h = absurd (none_word x h)

-- every row of the table is found
abbrev Good : List Row → Type 0
Good [] = Unit {0}
Good (row v x ∷ rs) = (known v ≡ Some x) × Good rs

good : Good table
unfolding known
good = (refl, (refl, (refl, (refl, (refl, (refl, (refl, (refl, (refl, (refl, (refl, (refl, (refl, (refl, tt))))))))))))))

listed : (w : List ℕ) (x : Word) (rs : List Row) → Good rs → Listed w x rs → known w ≡ Some x
listed w x [] g h = absurd h
listed w x (row v y ∷ rs) g (inl h) = ap known h.0 ∙ g.0 ∙ ap Some (sym h.1)
listed w x (row v y ∷ rs) g (inr h) = listed w x rs g.1 h

hosted : (n : ℕ) → n < 65536 → known (codes "host." ++ decimal n) ≡ Some (Host n)
unfolding known
hosted n h = ap (with_number Host) (number_is n h)

customed : (n : ℕ) → n < 65536 → known (codes "custom." ++ decimal n) ≡ Some (Custom n)
unfolding known
customed n h = ap (with_number Custom) (number_is n h)

-- the bytes of a word are known as that word
pub means_known : (w : List ℕ) (x : Word) → Means w x → known w ≡ Some x
means_known w x (inl h) = listed w x table good h
means_known w x (inr h) = ⊎_elim (λ e. ap known e.0 ∙ hosted h.0 h.1 ∙ ap Some (sym e.1)) (λ e. ap known e.0 ∙ customed h.0 h.1 ∙ ap Some (sym e.1)) h.2

found : (w : List ℕ) (x : Word) (d : Option Word) (rs : List Row) → look_up w rs d ≡ Some x → Listed w x rs ⊎ (d ≡ Some x)
found w x d [] e = inr e
found w x d (row v y ∷ rs) e = go (bytes_eq w v) refl e (found w x d rs)
  where
    go : (b : Bool) → bytes_eq w v ≡ b → cond b (Some y) (look_up w rs d) ≡ Some x → (look_up w rs d ≡ Some x → Listed w x rs ⊎ (d ≡ Some x)) → Listed w x (row v y ∷ rs) ⊎ (d ≡ Some x)
    go true s e rec = inl (inl (bytes_are w v s, sym (word_is _ _ e)))
    go false s e rec = ⊎_elim (λ h. inl (inr h)) inr (rec e)

pub known_means : (w : List ℕ) (x : Word) → known w ≡ Some x → Means w x
unfolding known
known_means w x e = ⊎_elim inl (λ h. inr (numbered_from w x h)) (found w x (numbered w) table e)

pub called : (w : List ℕ) (c : Class) → Called w c → class w ≡ Some c
unfolding class
called w c h = ap class_by (means_known w h.0 h.1) ∙ ap Some h.2

pub meant : (w : List ℕ) (c : Class) → class w ≡ Some c → Called w c
unfolding class
meant w c e = go (known w) refl e
  where
    go : (o : Option Word) → known w ≡ o → class_by o ≡ Some c → Called w c
    go (Some x) k h = let same : takes x ≡ c = cc in (x, known_means w x k, same)
    go None k h = let z : ◌≡◌ {A = ℕ} 0 1 = cc in absurd (omega arith)

-- what `number_of` finds on its way
not_number : (ds : List ℕ) → (is_number ds ≡ true → ⊥) → None ≡ number ds
not_number ds h = go (is_number ds) refl
  where
    go : (b : Bool) → is_number ds ≡ b → None ≡ number ds
    go true e = absurd (h e)
    go false e = sym (cond-false (is_number ds) (Some (read_on 0 ds)) None e)

pub padded : (ds : List ℕ) → (get_or ds 0 0 == 43 || zero_first_lem ds) ≡ true → None ≡ number ds
padded ds e =
    not_number ds (λ n.
    let p = number_parts ds n in
    ⊎_elim (λ plus. not_in_digits own ds 43 p.digits (λ r. omega (arith, r.0)) 0 p.some (eqb-true (get_or ds 0 0) 43 plus)) (λ z. true≢false (sym z ∙ p.plain)) (or_cases _ _ e))

pub wrong_length : (ds : List ℕ) → ((1 ≤ length ds) × (length ds ≤ 5) → ⊥) → None ≡ number ds
unfolding is_number
wrong_length ds h =
    not_number ds (λ n.
    let a = and_parts (leb 1 (length ds)) _ n in
    let b = and_parts (leb (length ds) 5) _ a.1 in
    h (leb-true 1 (length ds) a.0, leb-true (length ds) 5 b.0))

-- the number so far with one digit more, as `with_digit` answers it
abbrev pub further : Option ℕ → ℕ → Option ℕ
further (Some n) c = cond (is_ascii_digit c && leb (10 * n + (c - 48)) 65535) (Some (10 * n + (c - 48))) None
further None c = None

read_grows : (n : ℕ) (ds : List ℕ) → n ≤ read_on n ds
read_grows n [] = omega arith
read_grows n (c ∷ cs) = let r = read_grows (10 * n + (c - 48)) cs in omega (arith, r)

none_further : (ds : List ℕ) → fold further None ds ≡ None
none_further [] = refl
none_further (c ∷ cs) = none_further cs

folded : (n : ℕ) (ds : List ℕ) → n ≤ 65535 → fold further (Some n) ds ≡ cond (all_ascii_digits ds && leb (read_on n ds) 65535) (Some (read_on n ds)) None
folded n [] le = sym (cond-true _ _ _ (le-leb n 65535 le))
folded n (c ∷ cs) le = go (is_ascii_digit c) (leb (10 * n + (c - 48)) 65535) refl (folded (10 * n + (c - 48)) cs)
  where
    m : ℕ
    m = 10 * n + (c - 48)

    go : (a b : Bool) → leb m 65535 ≡ b → (m ≤ 65535 → fold further (Some m) cs ≡ cond (all_ascii_digits cs && leb (read_on m cs) 65535) (Some (read_on m cs)) None) → fold further (cond (a && b) (Some m) None) cs ≡ cond ((a && all_ascii_digits cs) && leb (read_on m cs) 65535) (Some (read_on m cs)) None
    go true true s rec = rec (leb-true m 65535 s)
    go true false s rec = none_further cs ∙ sym (cond-false _ _ _ (and_right (all_ascii_digits cs) _ (let r = read_grows m cs in let t = leb-false m 65535 s in lt-leb (read_on m cs) 65535 (omega (arith, r, t)))))
    go false b s rec = none_further cs

-- folding in the digits gives the number
pub digits_folded : (ds : List ℕ) (o : Option ℕ) → o ≡ fold further (Some 0) ds → 1 ≤ length ds → length ds ≤ 5 → (get_or ds 0 0 == 43 || zero_first_lem ds) ≡ false → o ≡ number ds
unfolding is_number
digits_folded ds o e some short plain =
    let p : not (zero_first_lem ds) ≡ true = not_from_false _ (or_parts _ _ plain).1 in
    e ∙ folded 0 ds (omega arith) ∙ sym (λ i. cond (le-leb 1 (length ds) some i && (le-leb (length ds) 5 short i && (p i && (all_ascii_digits ds && leb (read_on 0 ds) 65535)))) (Some (read_on 0 ds)) None)

-- a search among spelled words is a look-up in the rows
abbrev pub spelled : List ℕ → Bor (List ℕ) × Word → Bool
spelled w p = bytes_eq w p.0.now

pub searched : (w : List ℕ) (l : List (Bor (List ℕ) × Word)) → look_up w (map (λ p. row p.0.now p.1) l) None ≡ option_map (λ p. p.1) (find (spelled w) l)
searched w [] = refl
searched w (q ∷ l) = go (spelled w q) (searched w l)
  where
    go : (b : Bool) → look_up w (map (λ p. row p.0.now p.1) l) None ≡ option_map (λ p. p.1) (find (spelled w) l) → cond b (Some q.1) (look_up w (map (λ p. row p.0.now p.1) l) None) ≡ option_map (λ p. p.1) (cond b (Some q) (find (spelled w) l))
    go true h = refl
    go false h = h

pub spelled_is : (w : List ℕ) (l : List (Bor (List ℕ) × Word)) (o : Option (Bor (Bor (List ℕ) × Word))) (p : Bor (Bor (List ℕ) × Word)) → option_map (λ x. x.now) o ≡ find (spelled w) l → o ≡ Some p → Some p.now.1 ≡ look_up w (map (λ p. row p.0.now p.1) l) None
spelled_is w l o p h e = ap (λ o. option_map (λ p. p.1) (option_map (λ x. x.now) o)) (sym e) ∙ ap (option_map (λ p. p.1)) h ∙ sym (searched w l)

pub unspelled : (w : List ℕ) (l : List (Bor (List ℕ) × Word)) (o : Option (Bor (Bor (List ℕ) × Word))) → option_map (λ x. x.now) o ≡ find (spelled w) l → o ≡ None → None ≡ look_up w (map (λ p. row p.0.now p.1) l) None
unspelled w l o h e = ap (λ o. option_map (λ p. p.1) (option_map (λ x. x.now) o)) (sym e) ∙ ap (option_map (λ p. p.1)) h ∙ sym (searched w l)

pub classed : (w : List ℕ) (o : Option Word) (r : Option Class) → o ≡ known w → r ≡ class_by o → r ≡ class w
unfolding class
classed w o r e h = h ∙ ap class_by e

-- numbered words are told first, and any other word is looked up
pub told : (w : List ℕ) (o r : Option Word) {Q : Type 0} → o ≡ numbered w → MatchOption o Q (λ x. r ≡ Some x) → (Q → r ≡ look_up w table None) → r ≡ known w
unfolding known
told w None r e h missed = missed h ∙ ap (look_up w table) e
told w (Some x) r e h missed = h ∙ sym (means_known w x (inr (numbered_from w x (sym e))))
