use Rattle.std.proofs.Common.{Ok, Err, Result, ◌≡◌, ◌∙◌, None, ap, length, refl, sym, subst, arith}
use Rattle.std.specs.FinMap as finite
use Rattle.clone_session.specs.CloneCalls.{Acknowledges, Decided}
use Rattle.clone_session.specs.CloneCauses.{acknowledgement_cause}
use Rattle.clone_session.specs.Effects.{Becomes}
use Rattle.clone_session.specs.declared.ending.Moment.{Moment}
use Rattle.clone_calls.specs.declared.answer.DonorAnswer.TheVariants as answer
use Rattle.clone_calls.specs.declared.call.DonorCall.TheVariants as call
use Rattle.clone_engine.specs.Acts as act
use Rattle.clone_session.specs.declared.info.StageInfo.{StageInfo}
use Rattle.clone_session.specs.declared.refusal.CloneRefusal.{CloneRefusal}
use Rattle.clone_engine.specs.Copying.{moment_of}
use Rattle.clone_engine.specs.Donor.{known_files}
use Rattle.clone_engine.specs.Over.{over}
use Rattle.clone_engine.specs.declared.engine.Engine.{Engine}
use Rattle.clone_engine.proofs.SessionActs.{acks, err_is, for_files, quiet_acts, refused_like, refused_out}
use Rattle.clone_engine.proofs.TakenPages.{are_files}
use Rattle.clone_engine.proofs.engine.Engine.ack.Goals as goal

pub acknowledge-requires-clause-files : goal.acknowledge-requires-clause-files
acknowledge-requires-clause-files c =
    let few = (are_files c.args.self.now.transactions c.args.self.now.flusher.files c.requires.files c.laws.ensures.safe).1 in
    omega (arith, c.in_ok-files.ensures.few, few, ap length c.deref.ensures.value)

pub returns-in_err-info-clause-acts : goal.returns-in_err-info-clause-acts
returns-in_err-info-clause-acts c = λ disk is.
    let a = c.args in
    let d = over a.self.now disk in
    let new = c.acknowledge.new.self in
    let why = c.in_err-info.field-0.0 in
    let cause = acknowledgement_cause d.cloning a.caller a.stage a.floor (moment_of d.engine).position in
    let decided = subst (λ (now : Moment). Decided (acknowledgement_cause d.cloning a.caller a.stage a.floor now.position) d.cloning new (Err why) (Acknowledges c.moment-now.result c.deref.result.now a.caller.session a.stage d.cloning new)) c.moment-now.ensures.now c.in_err-info.ensures.acknowledges in
    subst (λ (r : Result StageInfo CloneRefusal). act.CloneActs (call.Ack a.caller a.stage a.floor) (answer.Ack r) d (record { engine = d.engine; cloning = new })) (sym (err_is c.from_residual-in_err-info.result why c.from_residual-in_err-info.ensures.1))
    (quiet_acts (call.Ack a.caller a.stage a.floor) (answer.Ack (Err why)) d new (refused_like cause d new why (Acknowledges c.moment-now.result c.deref.result.now a.caller.session a.stage d.cloning new) decided) is (λ taken. refl)
    (refused_out cause d new why (Acknowledges c.moment-now.result c.deref.result.now a.caller.session a.stage d.cloning new) _ decided))

-- with the donor's files
did : (c : goal.After-drop-files-2) → (acknowledgement_cause c.args.self.now.cloning c.args.caller c.args.stage c.args.floor c.moment-now.result.position ≡ None) × Acknowledges c.moment-now.result (finite.entries c.args.self.now.flusher.files) c.args.caller.session c.args.stage c.args.self.now.cloning c.acknowledge.new.self c.in_ok-info.info
did c =
    let a = c.args in
    let old = a.self.now.cloning in
    let is = c.in_ok-info.ensures.acknowledges in
    let on = is.1 in
    let same = for_files c.moment-now.result c.deref.result.now (finite.entries a.self.now.flusher.files) a.stage on.0 old (λ first. c.deref.ensures.value ∙ c.in_ok-files.ensures.files first) in
    (is.0, (on.0, on.1, subst (Becomes c.acknowledge.new.self) same on.2, on.3))

pub returns-clause-acts : goal.returns-clause-acts
returns-clause-acts c = λ disk is.
    let a = c.args in
    let d = over a.self.now disk in
    let at = subst (λ (now : Moment). (acknowledgement_cause d.cloning a.caller a.stage a.floor now.position ≡ None) × Acknowledges now (known_files d.engine) a.caller.session a.stage d.cloning c.acknowledge.new.self c.in_ok-info.info) c.moment-now.ensures.now (did c) in
    subst (λ (e : Engine). act.CloneActs (call.Ack a.caller a.stage a.floor) (answer.Ack (Ok c.in_ok-info.info)) d (over e disk)) (sym c.settle.ensures)
    (acks d c.acknowledge.new.self is c.laws-2.ensures.buffer c.laws-3.ensures a.caller a.stage a.floor c.in_ok-info.info at.0 at.1)
