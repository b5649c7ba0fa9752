use Rattle.std.proofs.Common.{subst}
use Rattle.clone_core.specs.Copied.{KeepsClone}
use Rattle.clone_core.specs.Lines.{State}
use Rattle.clone_core.specs.System.{donor_of}
use Rattle.clone_core.proofs.world.World.laws.Goals as goal

pub returns : goal.returns
returns g c =
    let P : State → Type 0 = λ w. KeepsClone (donor_of w.donor) w.tells w.clone w.donor.recipient.told in
    subst P c.self.view_is c.self.invariant.keeps
