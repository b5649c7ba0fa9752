use Rattle.std.proofs.Common.{Ok, refl, sym, subst}
use Rattle.clone_calls.specs.declared.answer.DonorAnswer.TheVariants as answer
use Rattle.clone_calls.specs.declared.call.DonorCall.TheVariants as call
use Rattle.clone_engine.specs.Acts as act
use Rattle.clone_engine.specs.Over.{over}
use Rattle.clone_engine.specs.declared.engine.Engine.{Engine}
use Rattle.clone_engine.proofs.SessionActs.{leaves_acts}
use Rattle.clone_engine.proofs.engine.Engine.exit.Goals as goal

pub returns : goal.returns
returns c = record {
  acts = λ disk is.
      let d = over c.args.self.now disk in
      let did = c.in_ok-exit.ensures in
      subst (λ (e : Engine). act.CloneActs (call.Exit c.args.caller) (answer.Exit (Ok tt)) d (over e disk)) (sym c.settle.ensures)
      (leaves_acts d c.exit.new.self did.1 (call.Exit c.args.caller) (answer.Exit (Ok tt)) (λ taken. refl) (λ leaves. (did.0, leaves)) is c.laws.ensures.buffer);
}
