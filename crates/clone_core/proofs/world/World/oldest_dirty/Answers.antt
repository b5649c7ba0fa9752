use Rattle.std.proofs.Common.{refl, subst, Ok}
use Rattle.clone_plain.specs.declared.call.EngineAnswer.TheVariants as answers
use Rattle.clone_plain.specs.declared.call.EngineCall.TheVariants as call
use Rattle.clone_core.specs.Called.{Called}
use Rattle.clone_core.specs.Lines.{State}
use Rattle.clone_core.proofs.CallLemmas.{called}
use Rattle.clone_core.proofs.world.World.oldest_dirty.Goals as goal

pub returns : goal.returns
returns g c =
    let P : State → Type 0 = λ w. Called c.args.self.now call.OldestDirty (λ page. answers.OldestDirty page) (Ok c.oldest_dirty.result) w in
    subst P c.self.view_is (called _ _ _ call.OldestDirty (λ page. answers.OldestDirty page) (Ok c.oldest_dirty.result) c.self.view_is refl (λ x. refl) (λ x is told. tt) (record { does = record { steps = c.oldest_dirty.ensures; cloning = refl }; donor = c.laws.ensures.donor; taken = λ taken is. is }))
