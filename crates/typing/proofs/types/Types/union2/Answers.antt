use Rattle.std.proofs.Common.{◌<◌, ◌≤◌, ◌+◌, length, vec_capacity, Ok, sym, ap, ◌∙◌, arith}
use Rattle.std.proofs.lemmas.Result.{err_from_is_err_and}
use Rattle.membership.specs.Rows.{all_places, granted, grown}
use Rattle.typing.specs.Held.{table_of, pool_in}
use Rattle.typing.specs.Making.{pool_room}
use Rattle.typing.specs.declared.types.Rows.{Rows}
use Rattle.typing.proofs.Reading.{ready_of, sound_of, union_members}
use Rattle.typing.proofs.Making.{union_room, union_kept, union_outcome}
use Rattle.typing.proofs.Cutting.{judged_refused, judged_fine, table_back, ready_then, grew_then}
use Rattle.typing.proofs.types.Types.union2.Goals as goal

pub join-n-requires-clause-room : goal.join-n-requires-clause-room
join-n-requires-clause-room c =
    let s = c.args.self.now.rows in
    let u = c.args.self.now.scratch in
    let a = c.args.a in
    let b = c.args.b in
    let t = table_of s in
    let ready = ready_of c.args.self.now in
    let al : a < length t = omega (arith, c.count-stood.ensures, c.if-a-stood.false) in
    let bl : b < length t = omega (arith, c.count-stood.ensures, c.if-b-stood.false) in
    union_room s u a b ready al bl

pub invariant_of-self : goal.invariant_of-self
invariant_of-self c =
    let s = c.args.self.now.rows in
    let u = c.args.self.now.scratch in
    let a = c.args.a in
    let b = c.args.b in
    let t = table_of s in
    let ready = ready_of c.args.self.now in
    let al : a < length t = omega (arith, c.count-stood.ensures, c.if-a-stood.false) in
    let bl : b < length t = omega (arith, c.count-stood.ensures, c.if-b-stood.false) in
    let s' = c.join-n.new.self in
    let n = c.join-n.result in
    let made = c.join-n.ensures in
    let kept = union_kept s u a b ready al bl (table_of s') n made.joins in
    let r = ready_then s s' u c.join-n.new.scratch made.grew made.taken.same_rows made.taken.same_alternatives made.taken.same_scratch ready c.count-stood.result c.len-filled.result c.count-stood.ensures c.len-filled.ensures c.judge.new.self c.judge.result kept c.judge.ensures in
    let g = grew_then s s' u c.join-n.new.scratch made.grew made.taken.same_rows made.taken.same_alternatives made.taken.same_scratch ready c.count-stood.result c.len-filled.result c.count-stood.ensures c.len-filled.ensures c.judge.new.self c.judge.result kept c.judge.ensures in
    let packed : length (pool_in c.judge.new.self) + length c.judge.new.self.all.items ≤ all_places (table_of c.judge.new.self) = omega (arith, c.args.self.now.packed, g.packed, ap (λ v. length v.items) g.pool_stays) in
    let room : pool_room ≤ vec_capacity c.judge.new.self.pool = omega (arith, c.args.self.now.forpool, ap (λ v. vec_capacity v) g.pool_stays) in
    record {
      standing = r.sound.standing;
      forms = r.sound.forms;
      sizes = r.sound.sizes;
      unique = r.sound.own_numbers;
      begun = r.sound.begun;
      limited = r.sound.limited;
      packed = packed;
      forrows = r.for_rows;
      forall = r.for_all;
      forscratch = r.for_scratch;
      forpool = room;
    }

pub returns-in_err-judge-clause-answers : goal.returns-in_err-judge-clause-answers
returns-in_err-judge-clause-answers c =
    let s = c.args.self.now.rows in
    let u = c.args.self.now.scratch in
    let a = c.args.a in
    let b = c.args.b in
    let t = table_of s in
    let ready = ready_of c.args.self.now in
    let al : a < length t = omega (arith, c.count-stood.ensures, c.if-a-stood.false) in
    let bl : b < length t = omega (arith, c.count-stood.ensures, c.if-b-stood.false) in
    let s' = c.join-n.new.self in
    let n = c.join-n.result in
    let made = c.join-n.ensures in
    let p = err_from_is_err_and c.from_residual.result c.from_residual.ensures.1 in
    let cut = c.in_err-judge.ensures in
    rw (p.1, p.2) (table_back s s' u c.join-n.new.scratch made.grew made.taken.same_rows made.taken.same_alternatives made.taken.same_scratch ready c.count-stood.result c.len-filled.result c.count-stood.ensures c.len-filled.ensures c.judge.new.self cut.0, union_outcome s u a b ready al bl (table_of s') n made.joins ∙ judged_refused (grown (table_of s') n) _ cut.1)

pub returns-clause-members : goal.returns-clause-members
returns-clause-members c =
    let s = c.args.self.now.rows in
    let u = c.args.self.now.scratch in
    let a = c.args.a in
    let b = c.args.b in
    let t = table_of s in
    let ready = ready_of c.args.self.now in
    let al : a < length t = omega (arith, c.count-stood.ensures, c.if-a-stood.false) in
    let bl : b < length t = omega (arith, c.count-stood.ensures, c.if-b-stood.false) in
    let s' = c.join-n.new.self in
    let n = c.join-n.result in
    let made = c.join-n.ensures in
    let fine = c.in_ok-judge.ensures in
    let answered = union_outcome s u a b ready al bl (table_of s') n made.joins ∙ judged_fine (grown (table_of s') n) fine.1 ∙ ap (λ (z : Rows). granted (grown (table_of z) n)) (sym fine.0) in
    union_members t (table_of c.judge.new.self) a b (Ok n) (sound_of c.args.self.now) answered
