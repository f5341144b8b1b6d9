-- What the readers' steps amount to. Assumes nothing.
use Rattle.std.proofs.Common.{◌≡◌, ℕ, ◌<◌, ◌≤◌, true, false, cond, List, [], ◌∷◌, length, Some, None, Ok, Err, Result, sym, refl, ap, ◌∙◌, subst, arith}
use Rattle.grammar.specs.declared.fault.Fault.{Fault}
use Rattle.grammar.specs.declared.tokens.Token.{Token}
use Rattle.grammar.specs.declared.tokens.Token.TheVariants.{Name, Bar, Open, Close, Comma, End}
use Rattle.grammar.specs.declared.stages.Stage.{Stage}
use Rattle.grammar.specs.declared.stages.Entry.TheVariants.{Shut, Dotted, Plain}
use Rattle.grammar.specs.Items.{Placed, from}
use Rattle.grammar.specs.Lexed.{NextBy, Shuts}
use Rattle.grammar.specs.Machine.{Sym, txt, arg, rest, shut, Stack, after, may_close, may_comma, ends, fault, or_else, Reads, Fails, Reader}
use Rattle.grammar.specs.Steps.{onward, Real, Enters}

pub fed : (token : Token) (s : List ℕ) (i start end : ℕ) → NextBy token s i start end → (k : Stack) → fault (length s) (from s i) k ≡ onward token start (length s) (from s end) k
fed (Name w) s i start end h k = ap (λ l. fault (length s) l k) h.items_are
fed Bar s i start end h k = ap (λ l. fault (length s) l k) h.items_are
fed Open s i start end h k = ap (λ l. fault (length s) l k) h.items_are
fed Close s i start end h k = ap (λ l. fault (length s) l k) h.items_are
fed Comma s i start end h k = ap (λ l. fault (length s) l k) h.items_are
fed End s i start end h k = ap (λ l. fault (length s) l k) h.items_are ∙ ap (λ p. cond (ends k) None (Some p)) (sym h.start_is)

moves : (token : Token) (s : List ℕ) (i start end : ℕ) → NextBy token s i start end → Real token → (i < end) × (end ≤ length s)
moves (Name w) s i start end h r = (h.forth, h.within)
moves Bar s i start end h r = (h.forth, h.within)
moves Open s i start end h r = (h.forth, h.within)
moves Close s i start end h r = (h.forth, h.within)
moves Comma s i start end h r = (h.forth, h.within)
moves End s i start end h r = absurd r

pub nothing_left : (token : Token) → (token ≡ End → ⊥) → (p n : ℕ) (is : List Placed) → onward token p n is [] ≡ Some p
nothing_left (Name w) ne p n is = refl
nothing_left Bar ne p n is = refl
nothing_left Open ne p n is = refl
nothing_left Close ne p n is = refl
nothing_left Comma ne p n is = refl
nothing_left End ne p n is = absurd (ne refl)

-- what may not follow an argument is at fault
strays : (token : Token) (st : Stage) → (token ≡ Close → may_close st ≡ false) → (token ≡ Comma → may_comma st ≡ false) → (p n : ℕ) (is : List Placed) (k : Stack) → onward token p n is (rest st ∷ k) ≡ Some p
strays (Name w) st c m p n is k = refl
strays Bar st c m p n is k = refl
strays Open st c m p n is k = refl
strays Close st c m p n is k = ap (λ b. or_else p (fault n is) (cond b (Some k) None)) (c refl)
strays Comma st c m p n is k = ap (λ b. or_else p (fault n is) (cond b (Some (arg (after st) ∷ k)) None)) (m refl)
strays End st c m p n is k = refl

unshut : (token : Token) → (token ≡ Close → ⊥) → (p n : ℕ) (is : List Placed) (k : Stack) → onward token p n is (shut ∷ k) ≡ Some p
unshut (Name w) ne p n is k = refl
unshut Bar ne p n is k = refl
unshut Open ne p n is k = refl
unshut Close ne p n is k = absurd (ne refl)
unshut Comma ne p n is k = refl
unshut End ne p n is k = refl

-- the closing bracket after the dots
pub shut_reads : (s : List ℕ) (i : ℕ) (r : Result ℕ Fault) → Shuts s i r → Reader s i shut r
shut_reads s i (Ok e) h = record { on = h.1.forth; within = h.1.within; same_fault = λ k. ap (λ l. fault (length s) l (shut ∷ k)) h.1.items_are }
shut_reads s i (Err f) h = λ k. fed h.0 s i f.byte h.1 h.2 (shut ∷ k) ∙ unshut h.0 h.3 f.byte (length s) (from s h.1) k

-- a reader that goes on where another began
on_from : (s : List ℕ) (i e : ℕ) (X Y : Sym) → i < e → ((k : Stack) → fault (length s) (from s i) (X ∷ k) ≡ fault (length s) (from s e) (Y ∷ k)) → (r : Result ℕ Fault) → Reader s e Y r → Reader s i X r
on_from s i e X Y lt same (Ok f) h = record { on = omega (arith, h.on); within = h.within; same_fault = λ k. same k ∙ h.same_fault k }
on_from s i e X Y lt same (Err p) h = λ k. same k ∙ h k

module _ (s : List ℕ) (i start end : ℕ) (token : Token) (st : Stage) (next : NextBy token s i start end) where
  pub arg_shut : Enters Shut st token → Reads s i (arg st) end
  arg_shut h =
      let m = moves token s i start end next h.0 in
      record { on = m.0; within = m.1; same_fault = λ k. fed token s i start end next (arg st ∷ k) ∙ h.1 k start (length s) (from s end) }

  pub arg_dotted : Enters Dotted st token → (r : Result ℕ Fault) → Reader s end shut r → Reader s i (arg st) r
  arg_dotted h r = on_from s i end (arg st) shut (moves token s i start end next h.0).0 (λ k. fed token s i start end next (arg st ∷ k) ∙ h.1 k start (length s) (from s end)) r

  pub plain : Enters Plain st token → (k : Stack) → fault (length s) (from s i) (arg st ∷ k) ≡ fault (length s) (from s i) (txt ∷ rest st ∷ k)
  plain h k = fed token s i start end next (arg st ∷ k) ∙ h k start (length s) (from s end) ∙ sym (fed token s i start end next (txt ∷ rest st ∷ k))

module _ (s : List ℕ) (i : ℕ) (st : Stage) (same : (k : Stack) → fault (length s) (from s i) (arg st ∷ k) ≡ fault (length s) (from s i) (txt ∷ rest st ∷ k)) where
  pub arg_break : (p : ℕ) → Fails s i txt p → Fails s i (arg st) p
  arg_break p h k = same k ∙ h (rest st ∷ k)

  module _ (e start end : ℕ) (token : Token) (read : Reads s i txt e) (next : NextBy token s e start end) where
    there : (k : Stack) → fault (length s) (from s i) (arg st ∷ k) ≡ onward token start (length s) (from s end) (rest st ∷ k)
    there k = same k ∙ read.same_fault (rest st ∷ k) ∙ fed token s e start end next (rest st ∷ k)

    pub arg_ends : token ≡ Close → may_close st ≡ true → Reads s i (arg st) end
    arg_ends q may =
        let m = moves token s e start end next (subst Real (sym q) tt) in
        record {
          on = omega (arith, read.on, m.0);
          within = m.1;
          same_fault = λ k. there k ∙ ap (λ t. onward t start (length s) (from s end) (rest st ∷ k)) q ∙ ap (λ b. or_else start (fault (length s) (from s end)) (cond b (Some k) None)) may;
        }

    pub arg_goes : token ≡ Comma → may_comma st ≡ true → (r : Result ℕ Fault) → Reader s end (arg (after st)) r → Reader s i (arg st) r
    arg_goes q may r =
        let m = moves token s e start end next (subst Real (sym q) tt) in
        on_from s i end (arg st) (arg (after st)) (omega (arith, read.on, m.0)) (λ k. there k ∙ ap (λ t. onward t start (length s) (from s end) (rest st ∷ k)) q ∙ ap (λ b. or_else start (fault (length s) (from s end)) (cond b (Some (arg (after st) ∷ k)) None)) may) r

    pub arg_wrong : (token ≡ Close → may_close st ≡ false) → (token ≡ Comma → may_comma st ≡ false) → Fails s i (arg st) start
    arg_wrong c m k = there k ∙ strays token st c m start (length s) (from s end) k
