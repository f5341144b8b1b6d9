use Rattle.std.proofs.Common.{◌≡◌, ℕ, ◌+◌, List, [], ◌∷◌, ◌++◌, length, take, sym, ap, ◌∙◌, subst, arith, take_all}
use Rattle.std.proofs.lemmas.List.{take_more, length_push}
use Rattle.std.proofs.lemmas.Result.{err_from_is_err_and}
use Rattle.job.specs.Held.{job_bytes}
use Rattle.job.specs.Entered.{texts_left}
use Rattle.job.proofs.Texts.{text_turn, texts_end}
use Rattle.job_format.specs.Contents.{job_texts}
use Rattle.report.specs.Entering.{Enters, EnterAll}
use Rattle.report.specs.Reports.{Turned}
use Rattle.report.specs.Held.{state_of, setting}
use Rattle.report.proofs.Entered.{enter_more}
use Rattle.report.proofs.tables.Tables.enter_all.Goals as goal

pub loop-text-preserved : goal.loop-text-preserved
loop-text-preserved g c =
    let k = g.C.TyCustom.custom c.args.customs.now in
    let e = setting g.S.TypeMatcherAlloc.sharing (g.S.TypeMatcherAlloc.limit c.args.self.now.store) k in
    let ts = job_texts (job_bytes c.args.job.now) in
    let xs = c.loop-text.yielded in
    let i = length xs in
    let b = c.in-Some.text.bytes.now in
    let f = (text_turn (job_bytes c.args.job.now) c.into_iter-text-iterator.result (ap texts_left c.into_iter-text-iterator.ensures.into_iter_gives ∙ c.texts_in_order-text-items.ensures) xs c.loop-text.text-iterator c.next.new.self c.loop-text.yielded_by c.args.job.now.follow c.in-Some.text c.in-Some.ensures.steps).found in
    let s = state_of g.S.TypeMatcherAlloc.nodes c.args.self.now in
    let t = state_of g.S.TypeMatcherAlloc.nodes c.loop-text.self in
    let u = state_of g.S.TypeMatcherAlloc.nodes c.enter.new.self in
    let n = c.in_ok-enter.ensures in
    let here : Enters e b t u = subst (λ (m : ℕ). Enters (setting g.S.TypeMatcherAlloc.sharing m k) b t u) c.loop-text.invariant.2 n.entered in
    let more : take (i + 1) ts ≡ take i ts ++ (b ∷ []) = take_more ts i [] f.within ∙ ap (λ (x : List ℕ). take i ts ++ (x ∷ [])) (sym f.is) in
    let all = ap (λ (m : ℕ). take m ts) (length_push xs c.in-Some.text) ∙ more in
    (subst (λ (ss : List (List ℕ)). EnterAll e ss s u) (sym all) (enter_more e (take i ts) b s t u c.loop-text.invariant.0 here), n.right, n.limit ∙ c.loop-text.invariant.2)

pub returns-in_err-enter-clause-entered : goal.returns-in_err-enter-clause-entered
returns-in_err-enter-clause-entered g c =
    let k = g.C.TyCustom.custom c.args.customs.now in
    let b = c.in-Some.text.bytes.now in
    let t = state_of g.S.TypeMatcherAlloc.nodes c.loop-text.self in
    let bad = c.in_err-enter.field-0.0 in
    let p = err_from_is_err_and c.from_residual.result c.from_residual.ensures.1 in
    let text = text_turn (job_bytes c.args.job.now) c.into_iter-text-iterator.result (ap texts_left c.into_iter-text-iterator.ensures.into_iter_gives ∙ c.texts_in_order-text-items.ensures) c.loop-text.yielded c.loop-text.text-iterator c.next.new.self c.loop-text.yielded_by c.args.job.now.follow c.in-Some.text c.in-Some.ensures.steps in
    let turned = subst (λ (m : ℕ). Turned (setting g.S.TypeMatcherAlloc.sharing m k) t c.in-Some.text.«record» b bad) c.loop-text.invariant.2 c.in_err-enter.ensures.entered in
    rw (p.1, p.2) (record { number = c.in-Some.text.«record»; place = length c.loop-text.yielded; bytes = b; there = t; text = text; before = c.loop-text.invariant.0; turned = turned })

pub returns : goal.returns
returns g c =
    let e = setting g.S.TypeMatcherAlloc.sharing (g.S.TypeMatcherAlloc.limit c.args.self.now.store) (g.C.TyCustom.custom c.args.customs.now) in
    let ts = job_texts (job_bytes c.args.job.now) in
    let done = texts_end (job_bytes c.args.job.now) c.into_iter-text-iterator.result (ap texts_left c.into_iter-text-iterator.ensures.into_iter_gives ∙ c.texts_in_order-text-items.ensures) c.loop-text.yielded c.loop-text.text-iterator c.next.new.self c.loop-text.yielded_by c.in-None.ensures.steps in
    record {
      entered = subst (λ (ss : List (List ℕ)). EnterAll e ss (state_of g.S.TypeMatcherAlloc.nodes c.args.self.now) (state_of g.S.TypeMatcherAlloc.nodes c.loop-text.self)) (take_all (length c.loop-text.yielded) ts (omega (arith, done))) c.loop-text.invariant.0;
      right = c.loop-text.invariant.1;
      limit = c.loop-text.invariant.2;
    }
