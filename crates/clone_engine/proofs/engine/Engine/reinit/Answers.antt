use Rattle.std.proofs.Common.{refl, [], ℕ, List, subst}
use Rattle.clone_session.specs.CloneCalls.{Decided, Reinits}
use Rattle.clone_session.specs.CloneCauses.{reinit_cause}
use Rattle.clone_calls.specs.declared.answer.DonorAnswer.TheVariants as answer
use Rattle.clone_calls.specs.declared.call.DonorCall.TheVariants as call
use Rattle.clone_engine.specs.Over.{over}
use Rattle.clone_engine.proofs.SessionActs.{quiet_acts, rejoined_like, rejoins_out}
use Rattle.clone_engine.proofs.engine.Engine.reinit.Goals as goal

-- with the bits of the bitmap
did : (c : goal.After-reinit) → Decided (reinit_cause c.args.self.now.cloning c.args.caller c.args.stage) c.args.self.now.cloning c.reinit.new.self c.reinit.result (Reinits c.args.caller c.args.stage c.args.finished.now.bytes [] c.args.self.now.cloning c.reinit.new.self)
did c =
    let a = c.args in
    let old = a.self.now.cloning in
    let new = c.reinit.new.self in
    subst (λ (bytes : List ℕ). Decided (reinit_cause old a.caller a.stage) old new c.reinit.result (Reinits a.caller a.stage bytes [] old new)) c.bytes.ensures.value c.reinit.ensures.reinits

pub returns : goal.returns
returns c = record {
  acts = λ disk is.
      let d = over c.args.self.now disk in
      let new = c.reinit.new.self in
      quiet_acts (call.Reinit c.args.caller c.args.stage c.args.finished.now) (answer.Reinit c.reinit.result) d new (rejoined_like d new _ c.args.caller c.args.stage c.args.finished.now.bytes [] c.reinit.result (did c)) is (λ taken. refl)
      (rejoins_out d new _ c.args.caller c.args.stage c.args.finished.now.bytes [] c.reinit.result (did c));
}
