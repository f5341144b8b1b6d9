-- A text that is read, and a text that is entered, are calls on a working set. Assumes nothing.
use Rattle.std.proofs.Common.{◌≡◌, ℕ, Bool, List, [], ◌∷◌, Ok, sym, refl, ap, subst}
use Rattle.values.specs.Cells.{Cell}
use Rattle.custom.specs.Customs.{Custom}
use Rattle.membership.specs.Rows.{Row, union2}
use Rattle.annotation.specs.Evaluated.{ReadAs}
use Rattle.runs.specs.Acts.{Act, make_type, union_of, alloc_type}
use Rattle.runs.specs.States.{State as SetState, with_rows, rows_after, made, after, after_entry, answer}
use Rattle.runs.specs.Runs.{Reaches}
use Rattle.runs.proofs.Sofar.{reaches_here, reaches_by, reaches_trans}
use Rattle.report.specs.Entering.{State as Tables, Enters, EnterAll}
use Rattle.report.specs.Held.{setting, set_over}
use Rattle.report.proofs.Along.{Along, read_along}

module _ (c : Custom) (shares : Bool) where
  -- one call
  by : (s : SetState) (a : Act) (t : SetState) → after c shares s a ≡ t → Reaches c shares s t
  by s a t e = reaches_by c shares s a (answer c shares s a) t (record { answered = refl; leaves = sym e })

  -- calls lead from some types to others, and leave the rest of the set
  abbrev Leads : SetState → List Row → List Row → Type 0
  Leads set t u = Reaches c shares (with_rows set t) (with_rows set u)

  along : (set : SetState) → Along (Leads set)
  along set = record {
    here = λ t. reaches_here c shares (with_rows set t);
    trans = λ t u v. reaches_trans c shares (with_rows set t) (with_rows set u) (with_rows set v);
    makes = λ t x. by (with_rows set t) (make_type x) (with_rows set (rows_after t (made t x))) refl;
    joins = λ t m n. by (with_rows set t) (union_of m n) (with_rows set (rows_after t (union2 t m n))) refl;
  }

  -- a text that is read
  read_leads : (set : SetState) (s : List ℕ) (t t' : List Row) (n : ℕ) → ReadAs s t t' (Ok n) → Leads set t t'
  read_leads set = read_along (Leads set) (along set)

  module _ (cells : List Cell) (limit : ℕ) where
    abbrev over : Tables → SetState
    over t = set_over cells limit t

    -- a text that is entered, and texts in turn
    enters_leads : (s : List ℕ) (t u : Tables) → Enters (setting shares limit c) s t u → Reaches c shares (over t) (over u)
    enters_leads s t u e =
        let between = with_rows (over t) u.rows in
        reaches_trans c shares (over t) between (over u) (read_leads (over t) s t.rows u.rows e.ty e.read) (by between (alloc_type e.ty) (over u) (ap (after_entry between) e.compiled))

    pub texts_lead : (ss : List (List ℕ)) (t u : Tables) → EnterAll (setting shares limit c) ss t u → Reaches c shares (over t) (over u)
    texts_lead [] t u e = subst (λ (x : Tables). Reaches c shares (over t) (over x)) e (reaches_here c shares (over t))
    texts_lead (s ∷ ss) t u e = reaches_trans c shares (over t) (over e.0) (over u) (enters_leads s t e.0 e.1) (texts_lead ss e.0 u e.2)
