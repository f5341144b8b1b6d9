use Rattle.std.proofs.Common.{◌≡◌, ◌≤◌, length, vec_capacity, sym, ap, ◌∙◌, arith}
use Rattle.typing.specs.Held.{table_of}
use Rattle.typing.specs.Making.{pool_room}
use Rattle.typing.specs.declared.basic.TyBasic.TheVariants.{Tuple}
use Rattle.typing.proofs.Reading.{ready_of}
use Rattle.typing.proofs.Tupling.{ready_longer, back_elements, back_sound, back_packed, back_answered, on_packed, on_answered}
use Rattle.typing.proofs.types.Types.tuple.Goals as goal

pub single-answer-requires-clause-ready : goal.single-answer-requires-clause-ready
single-answer-requires-clause-ready c =
    let added = c.add_elements-whole.ensures in
    ready_longer c.args.self.now.rows c.add_elements-whole.new.self c.args.self.now.scratch c.args.elements.now added.items added.all added.rows (ready_of c.args.self.now) (Tuple c.add_elements-whole.result) added.whole

pub invariant_of-self : goal.invariant_of-self
invariant_of-self c =
    let s = c.args.self.now.rows in
    let u = c.args.self.now.scratch in
    let es = c.args.elements.now in
    let s' = c.add_elements-whole.new.self in
    let x = Tuple c.add_elements-whole.result in
    let added = c.add_elements-whole.ensures in
    let s'' = c.single-answer.new.self in
    let r = c.single-answer.result in
    let made = c.single-answer.ensures in
    let ready = ready_of c.args.self.now in
    let P = c.truncate.new.self.items in
    let same : length (table_of s'') ≡ length (table_of s) = omega (arith, c.count.ensures, c.count-count.ensures, c.if-count.true) in
    let from_is = c.len-from.ensures ∙ s.pool.ok.0 in
    let sound = back_sound s s' u es added.items added.all added.rows ready x added.whole s'' r made.grew made.answers made.few c.args.self.now.packed same c.len-from.result from_is P c.truncate.ensures.items in
    let elements = back_elements s s' u es added.items added.all added.rows ready x added.whole s'' r made.grew made.answers made.few c.args.self.now.packed same c.len-from.result from_is P c.truncate.ensures.items in
    let packed = back_packed s s' u es added.items added.all added.rows ready x added.whole s'' r made.grew made.answers made.few c.args.self.now.packed same c.len-from.result from_is P c.truncate.ensures.items in
    let room : pool_room ≤ vec_capacity c.truncate.new.self = omega (arith, c.args.self.now.forpool, added.room, c.truncate.ensures.capacity, ap (λ v. vec_capacity v) made.grew.pool_stays) in
    ((elements, (s''.alternatives, tt)), (sound.standing, (sound.forms, (sound.sizes, (sound.own_numbers, (sound.begun, (sound.limited, (packed, (made.ready.for_rows, (made.ready.for_all, (made.ready.for_scratch, (room, tt))))))))))))

pub invariant_of-self-else-count : goal.invariant_of-self-else-count
invariant_of-self-else-count c =
    let s = c.args.self.now.rows in
    let u = c.args.self.now.scratch in
    let es = c.args.elements.now in
    let s' = c.add_elements-whole.new.self in
    let x = Tuple c.add_elements-whole.result in
    let added = c.add_elements-whole.ensures in
    let s'' = c.single-answer.new.self in
    let r = c.single-answer.result in
    let made = c.single-answer.ensures in
    let ready = ready_of c.args.self.now in
    let other : length (table_of s'') ≡ length (table_of s) → ⊥ = λ e. c.if-count.false (c.count.ensures ∙ e ∙ sym c.count-count.ensures) in
    let sound = made.ready.sound in
    let packed = on_packed s s' u es added.items added.all added.rows ready x added.whole s'' r made.grew made.answers made.few c.args.self.now.packed other in
    let room : pool_room ≤ vec_capacity s''.pool = omega (arith, c.args.self.now.forpool, added.room, ap (λ v. vec_capacity v) made.grew.pool_stays) in
    record {
      standing = sound.standing;
      forms = sound.forms;
      sizes = sound.sizes;
      unique = sound.own_numbers;
      begun = sound.begun;
      limited = sound.limited;
      packed = packed;
      forrows = made.ready.for_rows;
      forall = made.ready.for_all;
      forscratch = made.ready.for_scratch;
      forpool = room;
    }

pub returns-then-count : goal.returns-then-count
returns-then-count c =
    let s = c.args.self.now.rows in
    let u = c.args.self.now.scratch in
    let es = c.args.elements.now in
    let s' = c.add_elements-whole.new.self in
    let x = Tuple c.add_elements-whole.result in
    let added = c.add_elements-whole.ensures in
    let s'' = c.single-answer.new.self in
    let r = c.single-answer.result in
    let made = c.single-answer.ensures in
    let ready = ready_of c.args.self.now in
    let same : length (table_of s'') ≡ length (table_of s) = omega (arith, c.count.ensures, c.count-count.ensures, c.if-count.true) in
    back_answered s s' u es added.items added.all added.rows ready x added.whole s'' r made.grew made.answers made.few c.args.self.now.packed same c.len-from.result (c.len-from.ensures ∙ s.pool.ok.0) c.truncate.new.self.items c.truncate.ensures.items

pub returns-else-count : goal.returns-else-count
returns-else-count c =
    let s = c.args.self.now.rows in
    let u = c.args.self.now.scratch in
    let es = c.args.elements.now in
    let s' = c.add_elements-whole.new.self in
    let x = Tuple c.add_elements-whole.result in
    let added = c.add_elements-whole.ensures in
    let s'' = c.single-answer.new.self in
    let r = c.single-answer.result in
    let made = c.single-answer.ensures in
    let ready = ready_of c.args.self.now in
    let other : length (table_of s'') ≡ length (table_of s) → ⊥ = λ e. c.if-count.false (c.count.ensures ∙ e ∙ sym c.count-count.ensures) in
    on_answered s s' u es added.items added.all added.rows ready x added.whole s'' r made.grew made.answers made.few c.args.self.now.packed other
