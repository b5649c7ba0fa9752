use Rattle.std.specs.Arc.{arc_value}
use Rattle.clone_run.proofs.TeamLemmas.{serve_lent}
use Rattle.clone_run.proofs.team.Team.serve_job.Goals as goal

-- src/team.rt:221:5
pub returns-clause-lent : goal.returns-clause-lent
returns-clause-lent g c =
    serve_lent c.args.self.now _ c.new.result c.new-2.result c.in_ok-desk.desk_seat (arc_value c.in_ok-cell.cell) c.in_ok-cell.seat (arc_value c.in_ok-desk.desk)
    c.lend.new.self c.lend-2.new.self c.self.view_is c.new.ensures c.new-2.ensures c.in_ok-cell.ensures.lent c.in_ok-cell.ensures.of c.in_ok-desk.ensures.lent c.in_ok-desk.ensures.of
