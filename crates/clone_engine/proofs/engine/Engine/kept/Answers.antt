use Rattle.std.proofs.Common.{refl, slice_index, ◌≡◌, ℕ}
use Rattle.clone_calls.specs.declared.answer.DonorAnswer.TheVariants as answer
use Rattle.clone_calls.specs.declared.call.DonorCall.TheVariants as call
use Rattle.clone_session.specs.CloneCalls.{OnSession}
use Rattle.clone_engine.specs.Over.{over}
use Rattle.clone_engine.proofs.GoingLemmas.{like_same}
use Rattle.clone_engine.proofs.SessionActs.{freely, quiet_acts}
use Rattle.clone_engine.proofs.engine.Engine.kept.Goals as goal

pub returns : goal.returns
returns c = record {
  acts = λ disk is.
      let a = c.args in
      let d = over a.self.now disk in
      quiet_acts (call.Kept a.caller a.stage a.chunk) (answer.Kept c.kept.result) d d.cloning (like_same d.cloning) is (λ taken. refl)
      (freely (λ (mask : ℕ). OnSession d.cloning a.caller.session (λ s. mask ≡ slice_index s.snap.kept a.chunk)) _ d c.kept.result c.kept.ensures);
}
