use Rattle.std.proofs.Common.{Some, None, refl, string_bytes}
use Rattle.clone_script.specs.declared.lines.Line.TheVariants as lines
use Rattle.clone_core.proofs.FollowLemmas.{repeat_answers, repeat_fails, unrepeated}
use Rattle.clone_core.proofs.ReplicaLemmas.{replica_holds}
use Rattle.clone_core.proofs.world.World.repeat_line.Goals.{in-Some, in-None}
use Rattle.clone_core.proofs.world.World.repeat_line.Goals as goal

pub invariant_of-self : goal.invariant_of-self
invariant_of-self g c = replica_holds _ c.repeat.new.self _ _ _ _ c.self.invariant

pub returns-in_err-took-clause-err : goal.returns-in_err-took-clause-err
returns-in_err-took-clause-err g c = unrepeated _ c.args.self.now (lines.Repeat c.args.number) c.repeat.new.self c.from_residual.result c.self.view_is refl c.in_err-took.ensures

pub invariant_of-self-2 : goal.invariant_of-self-2
invariant_of-self-2 g c = replica_holds _ c.repeat.new.self _ _ _ _ c.self.invariant

pub returns-clause-ok : goal.returns-clause-ok
returns-clause-ok g c = elim c.match-branch-2.branch [
  | in-Some w ↦ repeat_answers string_bytes _ c.args.self.now c.args.number c.in_ok-took.field-0 (Some w.in-Some.took) c.repeat.new.self c.match-branch-2.result w.took_text.result c.self.view_is refl c.in_ok-took.ensures w.in-Some.is w.result-is w.took_text.ensures
  | in-None w ↦ repeat_answers string_bytes _ c.args.self.now c.args.number c.in_ok-took.field-0 None c.repeat.new.self c.match-branch-2.result w.from_str.result c.self.view_is refl c.in_ok-took.ensures w.in-None.is w.result-is w.from_str.ensures.ok
]

pub returns-clause-err : goal.returns-clause-err
returns-clause-err g c = repeat_fails _ c.args.self.now c.args.number c.in_ok-took.field-0 c.repeat.new.self c.match-branch-2.result c.self.view_is refl c.in_ok-took.ensures
