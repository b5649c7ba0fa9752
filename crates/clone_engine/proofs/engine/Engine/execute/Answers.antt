use Rattle.std.proofs.Common.{refl}
use Rattle.clone_calls.specs.declared.answer.DonorAnswer.TheVariants as answer
use Rattle.clone_calls.specs.declared.call.DonorCall.TheVariants as call
use Rattle.clone_engine.specs.Over.{over}
use Rattle.clone_engine.proofs.GoingLemmas.{like_same}
use Rattle.clone_engine.proofs.SessionActs.{freely_none, quiet_acts}
use Rattle.clone_engine.proofs.engine.Engine.execute.Goals as goal

pub returns : goal.returns
returns c = record {
  acts = λ disk is.
      let d = over c.args.self.now disk in
      quiet_acts (call.Execute c.args.caller c.args.stage) (answer.Execute c.execute.result) d d.cloning (like_same d.cloning) is (λ taken. refl) (freely_none _ d c.execute.result c.execute.ensures);
}
