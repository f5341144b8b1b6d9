-- What holds of every set that calls lead to from a blank one. Assumes nothing.
use Rattle.std.proofs.Common.{◌≡◌, ℕ, ◌<◌, ◌≤◌, Bool, true, ◌⊎◌, List, [], ◌∷◌, ◌++◌, length, get_or, sym, refl, ap, ◌∙◌, subst, inl, inr, arith, length-append}
use Rattle.std.proofs.lemmas.List.{get_or_append_left, get_or_push}
use Rattle.std.proofs.lemmas.Bool.{cases_lt}
use Rattle.values.specs.Cells.{Closed}
use Rattle.values.specs.Lives.{Live, blank_over}
use Rattle.custom.specs.Customs.{Custom, Open}
use Rattle.custom.specs.Worlds.{world}
use Rattle.membership.specs.Rows.{Row, Sound, Keeps, union2}
use Rattle.membership.proofs.Joins.{keeps_length, keeps_trans}
use Rattle.membership.proofs.Kepts.{keeps_here}
use Rattle.membership.proofs.Laws.{growing}
use Rattle.matcher.specs.Nodes.{Node, valid}
use Rattle.compiling.specs.Outcomes.{annotation, Entered, Outcome, granted, refused, Means}
use Rattle.compiling.specs.Written.{written}
use Rattle.compiling.specs.declared.annotation.Annotation.{Annotation}
use Rattle.compiling.proofs.Rights.{right_by, was_granted}
use Rattle.runs.specs.Acts.{Act, new_cell, put_part, freeze_all, make_type, union_of, alloc_type, check_value}
use Rattle.runs.specs.States.{State, with_heap, with_rows, with_annotations, annotation_in, after, after_entry, entry}
use Rattle.runs.specs.Runs.{Blank}
use Rattle.runs.proofs.Fronts.{Front, front_here, front_more, front_length, front_trans}
use Rattle.runs.proofs.Heaps.{Firm, Later, later_here, later_trans, Goes, goes_new, goes_put, goes_freeze}
use Rattle.runs.proofs.Stores.{accepts_kept, valid_written}
use Rattle.runs.proofs.Tables.{Grows, made_grows, union_grows, start_sound}

-- an annotation names a type and a node that stand, and accepts just the type's members, in every heap
pub record Noted (c : Custom) (rows : List Row) (ns : List Node) (x : Annotation) : Type 0 where
  pub named : x.ty < length rows
  pub rooted : x.root < length ns
  pub means : Means c rows ns x

pub record Good (c : Custom) (s : State) : Type 0 where
  pub firm : Firm s.heap
  pub sound : Sound s.rows
  pub fine : valid s.limit s.nodes ≡ true
  pub noted : (a : ℕ) → a < length s.annotations → Noted c s.rows s.nodes (annotation_in s a)

-- what later calls leave as it was
pub record Onward (s t : State) : Type 0 where
  pub heap : Later s.heap t.heap
  pub rows : Keeps s.rows t.rows
  pub nodes : Front s.nodes t.nodes
  pub annotations : Front s.annotations t.annotations

pub onward_here : (s : State) → Onward s s
onward_here s = record { heap = later_here s.heap; rows = keeps_here s.rows; nodes = front_here s.nodes; annotations = front_here s.annotations }

pub onward_trans : (s t u : State) → Onward s t → Onward t u → Onward s u
onward_trans s t u p q = record {
  heap = later_trans s.heap t.heap u.heap p.heap q.heap;
  rows = keeps_trans s.rows t.rows u.rows p.rows q.rows;
  nodes = front_trans s.nodes t.nodes u.nodes p.nodes q.nodes;
  annotations = front_trans s.annotations t.annotations u.annotations p.annotations q.annotations;
}

pub record Leads (c : Custom) (s t : State) : Type 0 where
  pub good : Good c t
  pub onward : Onward s t

-- an annotation stays what it was in larger tables
noted_kept : (c : Custom) (rows rows' : List Row) (ns ns' : List Node) (x : Annotation) → Sound rows → Keeps rows rows' → Front ns ns' → Noted c rows ns x → Noted c rows' ns' x
noted_kept c rows rows' ns ns' x s k f n = record {
  named = omega (arith, n.named, keeps_length rows rows' k);
  rooted = omega (arith, n.rooted, front_length ns ns' f);
  means = λ cells v. accepts_kept (world cells c) ns ns' x.root v f n.rooted ∙ n.means cells v ∙ sym (growing rows rows' s k (world cells c) x.ty v n.named);
}

module _ (c : Custom) (shares : Bool) (opens : Open c) (s : State) (g : Good c s) where
  heap_leads : (h : Live) → Goes s.heap h → Leads c s (with_heap s h)
  heap_leads h p = record {
    good = record { firm = p.firm; sound = g.sound; fine = g.fine; noted = g.noted };
    onward = record { heap = p.later; rows = keeps_here s.rows; nodes = front_here s.nodes; annotations = front_here s.annotations };
  }

  rows_lead : (rows : List Row) → Grows s.rows rows → Leads c s (with_rows s rows)
  rows_lead rows p = record {
    good = record { firm = g.firm; sound = p.sound; fine = g.fine; noted = λ a l. noted_kept c s.rows rows s.nodes s.nodes (annotation_in s a) g.sound p.keeps (front_here s.nodes) (g.noted a l) };
    onward = record { heap = later_here s.heap; rows = p.keeps; nodes = front_here s.nodes; annotations = front_here s.annotations };
  }

  -- a new annotation
  entered_leads : (ns : List Node) (x : Annotation) → Noted c s.rows ns x → Front s.nodes ns → valid s.limit ns ≡ true → Leads c s (with_annotations s ns (s.annotations ++ x ∷ []))
  entered_leads ns x n f v = record {
    good = record { firm = g.firm; sound = g.sound; fine = v; noted = λ a l. by a (cases_lt a (length s.annotations)) l };
    onward = record { heap = later_here s.heap; rows = keeps_here s.rows; nodes = f; annotations = front_more s.annotations (x ∷ []) };
  }
    where
      by : (a : ℕ) → (a < length s.annotations) ⊎ (length s.annotations ≤ a) → a < length (s.annotations ++ x ∷ []) → Noted c s.rows ns (get_or (s.annotations ++ x ∷ []) a (annotation 0 0))
      by a (inl l) m = subst (Noted c s.rows ns) (sym (get_or_append_left s.annotations (x ∷ []) (annotation 0 0) a l)) (noted_kept c s.rows s.rows s.nodes ns (annotation_in s a) g.sound (keeps_here s.rows) f (g.noted a l))
      by a (inr l) m = subst (Noted c s.rows ns) (sym (get_or_push s.annotations x (annotation 0 0) a (omega (arith, length-append s.annotations (x ∷ []))))) n

  entry_leads : (t : ℕ) (o : Outcome) → entry c shares s t ≡ o → Leads c s (after_entry s o)
  entry_leads t (refused n) e = record { good = g; onward = onward_here s }
  entry_leads t (granted x) e =
      let w = was_granted shares s.limit s.rows c.wild t s.nodes s.annotations x e in
      let to = written shares s.rows c.wild t s.nodes in
      let r = right_by c shares s.limit s.rows t s.nodes opens g.sound g.fine w.0.stands w.0.room in
      subst (λ (y : Entered). Leads c s (with_annotations s y.nodes y.list)) (sym w.1)
      (entered_leads to.nodes (annotation t to.root)
      (record { named = w.0.stands; rooted = r.within; means = r.means })
      r.stand
      (valid_written shares s.limit s.rows c.wild t s.nodes g.sound g.fine w.0.stands w.0.room))

  pub act_leads : (a : Act) → Leads c s (after c shares s a)
  act_leads (new_cell x) = heap_leads _ (goes_new s.heap g.firm x)
  act_leads (put_part v i x) = heap_leads _ (goes_put s.heap g.firm v i x)
  act_leads freeze_all = heap_leads _ (goes_freeze s.heap g.firm)
  act_leads (make_type x) = rows_lead _ (made_grows s.rows g.sound x)
  act_leads (union_of a b) = rows_lead _ (union_grows s.rows g.sound a b (union2 s.rows a b) refl)
  act_leads (alloc_type t) = entry_leads t (entry c shares s t) refl
  act_leads (check_value a v) = record { good = g; onward = onward_here s }

-- a blank set
blank_firm : (h : Live) → Closed h.cells → h ≡ blank_over h.cells → Firm h
blank_firm h closed e = subst Firm (sym e) (record { closed = closed; within = omega arith; fixed = closed })

pub blank_good : (c : Custom) (s : State) → Blank s → Good c s
unfolding valid
blank_good c s b = record {
  firm = blank_firm s.heap b.closed b.heap;
  sound = subst Sound (sym b.rows) start_sound;
  fine = ap (valid s.limit) b.nodes;
  noted = λ a l. absurd (omega (arith, ap length b.annotations));
}
