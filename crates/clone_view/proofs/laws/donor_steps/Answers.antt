use Rattle.std.proofs.Common.{[], ◌∷◌, refl}
use Rattle.clone_serve.specs.declared.doing.Doing.TheVariants.{New, Ready, Serving}
use Rattle.clone_serve.specs.declared.doing.Work.TheVariants.{Claim}
use Rattle.clone_view.proofs.DonorSteps.{attached, repeated, started, served_out, closed, found}
use Rattle.clone_view.proofs.laws.donor_steps.Goals as goal

pub returns : goal.returns
returns c = record {
  attach = λ counts t s lines w k l command frame caller h other is present says. attached counts t s lines w k l New (command ∷ []) h command frame caller refl refl other is present says;
  repeated = λ counts t s lines w l command frame caller stage h is same says. repeated counts t s lines w 0 l (Ready caller) (command ∷ []) h command frame caller stage refl refl refl is same says;
  starts = λ counts t s lines w k l command caller run h is same. started counts t s lines w k l (Ready caller) (command ∷ []) h command caller run refl refl is same;
  ends = λ counts t s lines w k l run frame h same taken says. served_out counts t s lines w k l (Serving run Claim) [] h run frame refl same taken refl says;
  fails = λ counts t s lines w k l now unread h serving. closed counts t s lines w k l now unread h serving;
  loses = λ counts t s lines w k l now h live idle cut. found counts t s lines w k l now [] h live idle refl cut;
}
