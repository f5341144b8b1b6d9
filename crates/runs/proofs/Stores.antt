-- What compiling keeps of a store. Assumes nothing.
use Rattle.std.proofs.Common.{◌≡◌, ℕ, ◌+◌, ◌-◌, ◌*◌, ◌<◌, ◌≤◌, Bool, true, ◌⊎◌, List, [], ◌∷◌, ◌++◌, length, drop, sym, ap, ◌∙◌, subst, inl, inr, append_assoc, append-nil, arith}
use Rattle.std.proofs.lemmas.Bool.{cases_lt}
use Rattle.custom.specs.Worlds.{World}
use Rattle.matcher.specs.Nodes.{Node, valid, used, place, put, is_granted}
use Rattle.matcher.specs.Meaning.{accepts, Test}
use Rattle.matcher.proofs.Grows.{valid_push, valid_used, put_old, put_new}
use Rattle.membership.specs.Rows.{Row, row, Sound}
use Rattle.compiling.specs.Code.{State, state, op_node, exec, execs, code, Grants, Safe}
use Rattle.compiling.specs.Written.{written}
use Rattle.compiling.specs.declared.tasks.Op.{Op}
use Rattle.compiling.proofs.Fines.{fines_of}
use Rattle.compiling.proofs.Makes.{start}
use Rattle.compiling.proofs.Says.{Said, said_refl, said_trans, said_push}
use Rattle.compiling.proofs.Writtens.{code_writes}
use Rattle.runs.proofs.Fronts.{Front, front_rest}

module _ (W : World) where
  said_append : (ns more : List Node) → Said W ns (ns ++ more)
  said_append ns [] = subst (Said W ns) (sym (append-nil ns)) (said_refl W ns)
  said_append ns (d ∷ more) =
      said_trans W ns (ns ++ d ∷ []) (ns ++ d ∷ more) (said_push W ns d) (subst (Said W (ns ++ d ∷ [])) (append_assoc ns (d ∷ []) more) (said_append (ns ++ d ∷ []) more))

  -- nodes that stand accept what they accepted
  pub accepts_kept : (ns ms : List Node) (n v : ℕ) → Front ns ms → n < length ns → accepts W ms n v ≡ accepts W ns n v
  accepts_kept ns ms n v f l =
      let s : Said W ns ms = subst (Said W ns) (front_rest ns ms f) (said_append ns (drop (length ns) ms)) in
      ap (λ (p : Test). p v) (s.same n l)

valid_exec : (sh : Bool) (limit : ℕ) (o : Op) (st : State) → valid limit st.nodes ≡ true → Grants limit o st → valid limit (exec sh o st).nodes ≡ true
unfolding exec
valid_exec sh limit o st v g = by (cases_lt (place sh st.nodes (op_node o st)) (length st.nodes))
  where
    by : (place sh st.nodes (op_node o st) < length st.nodes) ⊎ (length st.nodes ≤ place sh st.nodes (op_node o st)) → valid limit (put st.nodes (op_node o st) (place sh st.nodes (op_node o st))) ≡ true
    by (inl l) = ap (valid limit) (put_old st.nodes (op_node o st) (place sh st.nodes (op_node o st)) l) ∙ v
    by (inr l) = ap (valid limit) (put_new st.nodes (op_node o st) (place sh st.nodes (op_node o st)) l) ∙ valid_push limit st.nodes (op_node o st) v (ap is_granted g.can.fine) g.can.room

valid_execs : (sh : Bool) (limit : ℕ) (os : List Op) (st : State) → valid limit st.nodes ≡ true → Safe limit sh os st → valid limit (execs sh os st).nodes ≡ true
valid_execs sh limit [] st v s = v
valid_execs sh limit (o ∷ os) st v s = valid_execs sh limit os (exec sh o st) (valid_exec sh limit o st v s.0) s.1

-- a store stays valid
pub valid_written : (sh : Bool) (limit : ℕ) (rows : List Row) (w : ℕ → Bool) (t : ℕ) (ns : List Node) → Sound rows → valid limit ns ≡ true → t < length rows → 2 * (row rows t).heavy ≤ limit - used ns → valid limit (written sh rows w t ns).nodes ≡ true
valid_written sh limit rows w t ns sound v l r =
    let f = fines_of rows sound in
    let room : used ns + 2 * (row rows t).heavy ≤ limit = omega (arith, valid_used limit ns v) in
    let st = start rows w sh limit ns t f l v room in
    ap (λ (x : State). valid limit x.nodes) (sym (code_writes sh rows w f t l ns)) ∙ valid_execs sh limit (code rows w t) (state ns []) v st.safe
