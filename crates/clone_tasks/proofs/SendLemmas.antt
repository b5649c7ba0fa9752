-- The frames that the rules send.
use Rattle.std.proofs.Common.{ℕ, ◌≡◌, Bool, true, false, ap}
use Rattle.std.specs.Prelude.{◌==◌}
use Rattle.clone_chunk.specs.declared.copy_stage.CopyStage.{CopyStage}
use Rattle.clone_wire.specs.declared.frame.Frame.{Frame}
use Rattle.clone_wire.specs.declared.frame.Side.TheVariants.{Command}
use Rattle.clone_wire.specs.Spelling.{side_of}
use Rattle.clone_tasks.specs.declared.rule.Rule.{Rule}
use Rattle.clone_tasks.specs.declared.rule.Rule.TheVariants as rule
use Rattle.clone_tasks.specs.declared.standing.Phase.{Phase}
use Rattle.clone_tasks.specs.declared.standing.Phase.TheVariants.{Opening, Copying, Done}
use Rattle.clone_tasks.specs.Sending.{Reattaches, Opens, IsFirst, IsSent}
use Rattle.clone_tasks.specs.Tables.{Table}

reattaching : (first : Bool) (stage : CopyStage) (t : Table) (frame : Frame) → Reattaches first stage t frame → side_of frame ≡ Command
reattaching true stage t frame is = ap side_of is.1
reattaching false stage t frame is = ap side_of is.1

opening : (phase : Phase) (t : Table) (frame : Frame) → Opens phase t frame → side_of frame ≡ Command
opening Opening t frame is = ap side_of is
opening (Copying stage) t frame is = reattaching (t.version == 1) stage t frame is
opening Done t frame is = ap side_of is

connecting : (first : Bool) (t : Table) (task : ℕ) (frame : Frame) → IsFirst first t task frame → side_of frame ≡ Command
connecting true t task frame is = opening t.phase t frame is
connecting false t task frame is = ap side_of is

pub commands : (which : Rule) (t : Table) (task floor : ℕ) (frame : Frame) → IsSent which t task floor frame → side_of frame ≡ Command
commands rule.Nothing t task floor frame is = absurd is
commands rule.Stale t task floor frame is = absurd is
commands rule.Receive t task floor frame is = absurd is
commands rule.Connect t task floor frame is = connecting (task == 0) t task frame is
commands (rule.Acknowledge stage) t task floor frame is = ap side_of is
commands (rule.Execute stage) t task floor frame is = ap side_of is
commands rule.Complete t task floor frame is = ap side_of is
