use Rattle.std.proofs.Common.{ℕ, ◌<◌, ap, ◌∙◌, subst, arith}
use Rattle.membership.specs.Rows.{inner, no_inner}
use Rattle.typing.specs.View.{inner_of}
use Rattle.typing.specs.Held.{pool_in}
use Rattle.typing.proofs.Joining.{Start, up, uq, first_room, longer₁, kept₁, second_room, longer₂, kept₂, third_room, scratch_room, row_room, new_room, all_taken, all_joined}
use Rattle.typing.proofs.types.Rows.+join.Goals as goal

pub join-item-requires : goal.join-item-requires
join-item-requires t c =
    let s = c.args.self.now in
    let u = c.args.scratch.now in
    let x = inner_of c.inner_parts-x.result in
    let y = inner_of c.inner_parts-y.result in
    let st : Start s u c.args.a c.args.b x y = record { kept = c.requires.kept; a_within = c.requires.a_within; b_within = c.requires.b_within; a_not_any = c.if-a-eq1.false; b_not_any = c.if-b-eq1.false; other = c.if-a-b.false; b_not_never = c.if-b-eq0.false; a_not_never = c.if-a-eq0.false; room = c.requires.room; p_is = c.inner_parts-x.ensures (pool_in c.args.self.now) ∙ ap (inner no_inner) c.alternatives.ensures.are; q_is = c.inner_parts-y.ensures (pool_in c.args.self.now) ∙ ap (inner no_inner) c.alternatives-2.ensures.are } in
    let l = up s u c.args.a c.args.b x y st in
    let r = uq s u c.args.a c.args.b x y st in
    (subst (λ (n : ℕ). x.item < n) c.decreases l.0, (st.kept, (omega (arith, l.0, st.a_within), (omega (arith, r.0, st.b_within), first_room s u c.args.a c.args.b x y st))))

pub join-key-requires : goal.join-key-requires
join-key-requires t c =
    let s = c.args.self.now in
    let u = c.args.scratch.now in
    let x = inner_of c.inner_parts-x.result in
    let y = inner_of c.inner_parts-y.result in
    let st : Start s u c.args.a c.args.b x y = record { kept = c.requires.kept; a_within = c.requires.a_within; b_within = c.requires.b_within; a_not_any = c.if-a-eq1.false; b_not_any = c.if-b-eq1.false; other = c.if-a-b.false; b_not_never = c.if-b-eq0.false; a_not_never = c.if-a-eq0.false; room = c.requires.room; p_is = c.inner_parts-x.ensures (pool_in c.args.self.now) ∙ ap (inner no_inner) c.alternatives.ensures.are; q_is = c.inner_parts-y.ensures (pool_in c.args.self.now) ∙ ap (inner no_inner) c.alternatives-2.ensures.are } in
    let l = up s u c.args.a c.args.b x y st in
    let r = uq s u c.args.a c.args.b x y st in
    let long = longer₁ s u c.args.a c.args.b x y st c.join-item.new.self c.join-item.new.scratch c.join-item.result c.join-item.ensures.grew c.join-item.ensures.joins c.join-item.ensures.taken in
    (subst (λ (n : ℕ). x.key < n) c.decreases l.1, (kept₁ s u c.args.a c.args.b x y st c.join-item.new.self c.join-item.new.scratch c.join-item.result c.join-item.ensures.grew c.join-item.ensures.joins c.join-item.ensures.taken, (omega (arith, l.1, long, st.a_within), (omega (arith, r.1, long, st.b_within), second_room s u c.args.a c.args.b x y st c.join-item.new.self c.join-item.new.scratch c.join-item.result c.join-item.ensures.grew c.join-item.ensures.joins c.join-item.ensures.taken))))

pub join-value-requires : goal.join-value-requires
join-value-requires t c =
    let s = c.args.self.now in
    let u = c.args.scratch.now in
    let x = inner_of c.inner_parts-x.result in
    let y = inner_of c.inner_parts-y.result in
    let st : Start s u c.args.a c.args.b x y = record { kept = c.requires.kept; a_within = c.requires.a_within; b_within = c.requires.b_within; a_not_any = c.if-a-eq1.false; b_not_any = c.if-b-eq1.false; other = c.if-a-b.false; b_not_never = c.if-b-eq0.false; a_not_never = c.if-a-eq0.false; room = c.requires.room; p_is = c.inner_parts-x.ensures (pool_in c.args.self.now) ∙ ap (inner no_inner) c.alternatives.ensures.are; q_is = c.inner_parts-y.ensures (pool_in c.args.self.now) ∙ ap (inner no_inner) c.alternatives-2.ensures.are } in
    let l = up s u c.args.a c.args.b x y st in
    let r = uq s u c.args.a c.args.b x y st in
    let long = longer₁ s u c.args.a c.args.b x y st c.join-item.new.self c.join-item.new.scratch c.join-item.result c.join-item.ensures.grew c.join-item.ensures.joins c.join-item.ensures.taken in
    let long' = longer₂ s u c.args.a c.args.b x y st c.join-item.new.self c.join-item.new.scratch c.join-item.result c.join-item.ensures.grew c.join-item.ensures.joins c.join-item.ensures.taken c.join-key.new.self c.join-key.new.scratch c.join-key.result c.join-key.ensures.grew c.join-key.ensures.joins c.join-key.ensures.taken in
    (subst (λ (n : ℕ). x.value < n) c.decreases l.2, (kept₂ s u c.args.a c.args.b x y st c.join-item.new.self c.join-item.new.scratch c.join-item.result c.join-item.ensures.grew c.join-item.ensures.joins c.join-item.ensures.taken c.join-key.new.self c.join-key.new.scratch c.join-key.result c.join-key.ensures.grew c.join-key.ensures.joins c.join-key.ensures.taken, (omega (arith, l.2, long, long', st.a_within), (omega (arith, r.2, long, long', st.b_within), third_room s u c.args.a c.args.b x y st c.join-item.new.self c.join-item.new.scratch c.join-item.result c.join-item.ensures.grew c.join-item.ensures.joins c.join-item.ensures.taken c.join-key.new.self c.join-key.new.scratch c.join-key.result c.join-key.ensures.grew c.join-key.ensures.joins c.join-key.ensures.taken))))

pub unite-requires-clause-room : goal.unite-requires-clause-room
unite-requires-clause-room t c =
    let s = c.args.self.now in
    let u = c.args.scratch.now in
    let x = inner_of c.inner_parts-x.result in
    let y = inner_of c.inner_parts-y.result in
    let st : Start s u c.args.a c.args.b x y = record { kept = c.requires.kept; a_within = c.requires.a_within; b_within = c.requires.b_within; a_not_any = c.if-a-eq1.false; b_not_any = c.if-b-eq1.false; other = c.if-a-b.false; b_not_never = c.if-b-eq0.false; a_not_never = c.if-a-eq0.false; room = c.requires.room; p_is = c.inner_parts-x.ensures (pool_in c.args.self.now) ∙ ap (inner no_inner) c.alternatives.ensures.are; q_is = c.inner_parts-y.ensures (pool_in c.args.self.now) ∙ ap (inner no_inner) c.alternatives-2.ensures.are } in
    scratch_room s u c.args.a c.args.b x y st c.join-item.new.self c.join-item.new.scratch c.join-item.result c.join-item.ensures.grew c.join-item.ensures.joins c.join-item.ensures.taken c.join-key.new.self c.join-key.new.scratch c.join-key.result c.join-key.ensures.grew c.join-key.ensures.joins c.join-key.ensures.taken c.join-value.new.self c.join-value.new.scratch c.join-value.result c.join-value.ensures.grew c.join-value.ensures.joins c.join-value.ensures.taken c.alternatives-3.result.now c.alternatives-4.result.now c.alternatives-3.ensures.are c.alternatives-4.ensures.are

pub intern-requires-clause-rows_room : goal.intern-requires-clause-rows_room
intern-requires-clause-rows_room t c =
    let s = c.args.self.now in
    let u = c.args.scratch.now in
    let x = inner_of c.inner_parts-x.result in
    let y = inner_of c.inner_parts-y.result in
    let st : Start s u c.args.a c.args.b x y = record { kept = c.requires.kept; a_within = c.requires.a_within; b_within = c.requires.b_within; a_not_any = c.if-a-eq1.false; b_not_any = c.if-b-eq1.false; other = c.if-a-b.false; b_not_never = c.if-b-eq0.false; a_not_never = c.if-a-eq0.false; room = c.requires.room; p_is = c.inner_parts-x.ensures (pool_in c.args.self.now) ∙ ap (inner no_inner) c.alternatives.ensures.are; q_is = c.inner_parts-y.ensures (pool_in c.args.self.now) ∙ ap (inner no_inner) c.alternatives-2.ensures.are } in
    row_room s u c.args.a c.args.b x y st c.join-item.new.self c.join-item.new.scratch c.join-item.result c.join-item.ensures.grew c.join-item.ensures.joins c.join-item.ensures.taken c.join-key.new.self c.join-key.new.scratch c.join-key.result c.join-key.ensures.grew c.join-key.ensures.joins c.join-key.ensures.taken c.join-value.new.self c.join-value.new.scratch c.join-value.result c.join-value.ensures.grew c.join-value.ensures.joins c.join-value.ensures.taken c.alternatives-3.result.now c.alternatives-4.result.now c.alternatives-3.ensures.are c.alternatives-4.ensures.are c.unite.new.row c.as_slice.result.now c.as_slice.ensures.value c.unite.ensures.put c.unite.ensures.room c.as_slice-2.result.now c.as_slice-2.ensures.value

pub intern-requires-clause-all_room : goal.intern-requires-clause-all_room
intern-requires-clause-all_room t c =
    let s = c.args.self.now in
    let u = c.args.scratch.now in
    let x = inner_of c.inner_parts-x.result in
    let y = inner_of c.inner_parts-y.result in
    let st : Start s u c.args.a c.args.b x y = record { kept = c.requires.kept; a_within = c.requires.a_within; b_within = c.requires.b_within; a_not_any = c.if-a-eq1.false; b_not_any = c.if-b-eq1.false; other = c.if-a-b.false; b_not_never = c.if-b-eq0.false; a_not_never = c.if-a-eq0.false; room = c.requires.room; p_is = c.inner_parts-x.ensures (pool_in c.args.self.now) ∙ ap (inner no_inner) c.alternatives.ensures.are; q_is = c.inner_parts-y.ensures (pool_in c.args.self.now) ∙ ap (inner no_inner) c.alternatives-2.ensures.are } in
    new_room s u c.args.a c.args.b x y st c.join-item.new.self c.join-item.new.scratch c.join-item.result c.join-item.ensures.grew c.join-item.ensures.joins c.join-item.ensures.taken c.join-key.new.self c.join-key.new.scratch c.join-key.result c.join-key.ensures.grew c.join-key.ensures.joins c.join-key.ensures.taken c.join-value.new.self c.join-value.new.scratch c.join-value.result c.join-value.ensures.grew c.join-value.ensures.joins c.join-value.ensures.taken c.alternatives-3.result.now c.alternatives-4.result.now c.alternatives-3.ensures.are c.alternatives-4.ensures.are c.unite.new.row c.as_slice.result.now c.as_slice.ensures.value c.unite.ensures.put c.unite.ensures.room c.as_slice-2.result.now c.as_slice-2.ensures.value

pub returns-clause-joins : goal.returns-clause-joins
returns-clause-joins t c =
    let s = c.args.self.now in
    let u = c.args.scratch.now in
    let x = inner_of c.inner_parts-x.result in
    let y = inner_of c.inner_parts-y.result in
    let st : Start s u c.args.a c.args.b x y = record { kept = c.requires.kept; a_within = c.requires.a_within; b_within = c.requires.b_within; a_not_any = c.if-a-eq1.false; b_not_any = c.if-b-eq1.false; other = c.if-a-b.false; b_not_never = c.if-b-eq0.false; a_not_never = c.if-a-eq0.false; room = c.requires.room; p_is = c.inner_parts-x.ensures (pool_in c.args.self.now) ∙ ap (inner no_inner) c.alternatives.ensures.are; q_is = c.inner_parts-y.ensures (pool_in c.args.self.now) ∙ ap (inner no_inner) c.alternatives-2.ensures.are } in
    all_joined s u c.args.a c.args.b x y st c.join-item.new.self c.join-item.new.scratch c.join-item.result c.join-item.ensures.grew c.join-item.ensures.joins c.join-item.ensures.taken c.join-key.new.self c.join-key.new.scratch c.join-key.result c.join-key.ensures.grew c.join-key.ensures.joins c.join-key.ensures.taken c.join-value.new.self c.join-value.new.scratch c.join-value.result c.join-value.ensures.grew c.join-value.ensures.joins c.join-value.ensures.taken c.alternatives-3.result.now c.alternatives-4.result.now c.alternatives-3.ensures.are c.alternatives-4.ensures.are c.unite.new.row c.as_slice.result.now c.as_slice.ensures.value c.unite.ensures.put c.unite.ensures.room c.as_slice-2.result.now c.as_slice-2.ensures.value c.intern.new.self c.unite.new.row c.intern.result c.intern.ensures.grows c.intern.ensures.rows_room.0 c.intern.ensures.rows_room.1 c.intern.ensures.all_room.0 c.intern.ensures.all_room.1 c.unite.ensures.reserved

pub returns-clause-taken : goal.returns-clause-taken
returns-clause-taken t c =
    let s = c.args.self.now in
    let u = c.args.scratch.now in
    let x = inner_of c.inner_parts-x.result in
    let y = inner_of c.inner_parts-y.result in
    let st : Start s u c.args.a c.args.b x y = record { kept = c.requires.kept; a_within = c.requires.a_within; b_within = c.requires.b_within; a_not_any = c.if-a-eq1.false; b_not_any = c.if-b-eq1.false; other = c.if-a-b.false; b_not_never = c.if-b-eq0.false; a_not_never = c.if-a-eq0.false; room = c.requires.room; p_is = c.inner_parts-x.ensures (pool_in c.args.self.now) ∙ ap (inner no_inner) c.alternatives.ensures.are; q_is = c.inner_parts-y.ensures (pool_in c.args.self.now) ∙ ap (inner no_inner) c.alternatives-2.ensures.are } in
    all_taken s u c.args.a c.args.b x y st c.join-item.new.self c.join-item.new.scratch c.join-item.result c.join-item.ensures.grew c.join-item.ensures.joins c.join-item.ensures.taken c.join-key.new.self c.join-key.new.scratch c.join-key.result c.join-key.ensures.grew c.join-key.ensures.joins c.join-key.ensures.taken c.join-value.new.self c.join-value.new.scratch c.join-value.result c.join-value.ensures.grew c.join-value.ensures.joins c.join-value.ensures.taken c.alternatives-3.result.now c.alternatives-4.result.now c.alternatives-3.ensures.are c.alternatives-4.ensures.are c.unite.new.row c.as_slice.result.now c.as_slice.ensures.value c.unite.ensures.put c.unite.ensures.room c.as_slice-2.result.now c.as_slice-2.ensures.value c.intern.new.self c.unite.new.row c.intern.result c.intern.ensures.grows c.intern.ensures.rows_room.0 c.intern.ensures.rows_room.1 c.intern.ensures.all_room.0 c.intern.ensures.all_room.1 c.unite.ensures.reserved
