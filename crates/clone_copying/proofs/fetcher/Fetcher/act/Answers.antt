use Rattle.std.proofs.Common.{[], IsOk, ap, refl, subst}
use Rattle.clone_fetching.specs.declared.recipient.TaskStep.{TaskStep}
use Rattle.clone_copying.specs.Calls.{FetcherModel}
use Rattle.clone_copying.specs.Passing.{GoesOn, Passes}
use Rattle.clone_copying.specs.declared.talk.Talk.{Talk}
use Rattle.clone_copying.proofs.TalkLemmas.{never_both}
use Rattle.clone_copying.proofs.TurnLemmas.{acted}
use Rattle.clone_copying.proofs.fetcher.Fetcher.act.Goals as goal

pub returns-in_err-send-clause-acts : goal.returns-in_err-send-clause-acts
returns-in_err-send-clause-acts g c =
    let v = c.args.self.now in
    let s = c.step-stepped.result in
    let a = c.args.talk.now in
    let b : Talk _ = record { end = a.end; left = s.received; lost = a.lost } in
    let asked : TaskStep = record { core = v.core; task = v.task; link = c.state.result; floor = v.floor; received = c.replace-received.result; sent = c.new-2.result } in
    acted g.L.Link v c.step-stepped.new.self a b c.send.new.self asked s c.step-stepped.ensures.step (ap (λ (x : FetcherModel _). x.task) c.step-stepped.ensures.same) refl refl refl
    (ap (λ (x : FetcherModel _). x.core) c.step-stepped.ensures.same) c.state.ensures (ap (λ xs. xs.items) c.replace-received.ensures.value) c.new-2.ensures.items refl refl refl
    (IsOk c.from_residual.result) (subst (λ zs. Passes g.L.Link b c.send.new.self.end [] zs) c.deref.ensures.value c.send.ensures.passes) (λ ok. absurd (never_both c.from_residual.result c.from_residual.ensures.0 ok))

pub returns-clause-acts : goal.returns-clause-acts
returns-clause-acts g c =
    let v = c.args.self.now in
    let s = c.step-stepped.result in
    let a = c.args.talk.now in
    let b : Talk _ = record { end = a.end; left = s.received; lost = a.lost } in
    let asked : TaskStep = record { core = v.core; task = v.task; link = c.state.result; floor = v.floor; received = c.replace-received.result; sent = c.new-2.result } in
    acted g.L.Link v c.step-stepped.new.self a b c.send.new.self asked s c.step-stepped.ensures.step (ap (λ (x : FetcherModel _). x.task) c.step-stepped.ensures.same) refl refl refl
    (ap (λ (x : FetcherModel _). x.core) c.step-stepped.ensures.same) c.state.ensures (ap (λ xs. xs.items) c.replace-received.ensures.value) c.new-2.ensures.items refl refl refl
    _ (subst (λ zs. Passes g.L.Link b c.send.new.self.end [] zs) c.deref.ensures.value c.send.ensures.passes) (λ ok. subst (λ zs. GoesOn g.L.Link b c.send.new.self [] zs) c.deref.ensures.value c.in_ok-send.ensures.goes)
