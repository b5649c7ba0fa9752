use Rattle.std.specs.Arc.{arc_value}
use Rattle.clone_run.proofs.TeamLemmas.{fetch_lent}
use Rattle.clone_run.proofs.team.Team.fetch_job.Goals as goal

-- src/team.rt:280:5
pub returns-clause-lent : goal.returns-clause-lent
returns-clause-lent g c =
    fetch_lent c.args.self.now _ c.args.task c.new.result c.new-recipient.result c.in_ok-cell.seat c.new-2.result c.in_ok-desk.desk_seat c.new-3.result c.in_ok-watch.watch_seat (arc_value c.in_ok-cell.cell) (arc_value c.in_ok-desk.desk) (arc_value c.in_ok-watch.watch)
    c.lend.new.self c.lend-2.new.self c.lend-3.new.self c.self.view_is c.new.ensures c.new-recipient.ensures c.new-2.ensures c.new-3.ensures
    c.in_ok-cell.ensures.lent c.in_ok-cell.ensures.of c.in_ok-desk.ensures.lent c.in_ok-desk.ensures.of c.in_ok-watch.ensures.lent c.in_ok-watch.ensures.of
