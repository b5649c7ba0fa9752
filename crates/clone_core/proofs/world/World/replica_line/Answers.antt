use Rattle.std.proofs.Common.{Some, None, ap, string_bytes}
use Rattle.clone_plain.specs.Answers.{rows_answer}
use Rattle.clone_script.specs.declared.lines.Line.TheVariants as lines
use Rattle.clone_core.proofs.FollowLemmas.{replica_answers}
use Rattle.clone_core.proofs.LineLemmas.{said_is, same_breaks}
use Rattle.clone_core.proofs.world.World.replica_line.Goals.{in-Some, in-None}
use Rattle.clone_core.proofs.world.World.replica_line.Goals as goal

pub returns-in_err-rows-clause-err : goal.returns-in_err-rows-clause-err
returns-in_err-rows-clause-err g c = same_breaks c.args.self.now lines.Replica c.from_residual.result

pub returns-clause-ok : goal.returns-clause-ok
returns-clause-ok g c = elim c.match-branch-2.branch [
  | in-Some w ↦
      replica_answers string_bytes _ c.args.self.now c.in_ok-rows.field-0 (Some w.in-Some.rows) c.match-branch-2.result w.rows_shown.result c.self.view_is c.in_ok-rows.ensures w.in-Some.is w.result-is
      (said_is string_bytes w.rows_shown.result (rows_answer w.deref.result.now) (rows_answer w.in-Some.rows.items) (ap rows_answer w.deref.ensures.value) w.rows_shown.ensures)
  | in-None w ↦ replica_answers string_bytes _ c.args.self.now c.in_ok-rows.field-0 None c.match-branch-2.result w.from_str.result c.self.view_is c.in_ok-rows.ensures w.in-None.is w.result-is w.from_str.ensures.ok
]

pub returns-clause-err : goal.returns-clause-err
returns-clause-err g c = same_breaks c.args.self.now lines.Replica c.match-branch-2.result
