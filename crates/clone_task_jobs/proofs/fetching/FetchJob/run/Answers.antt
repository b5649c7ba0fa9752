use Rattle.std.proofs.Common.{subst, sym}
use Rattle.clone_turn.specs.Worked.{Worked}
use Rattle.clone_copying.specs.Calls.{RecipientSeat}
use Rattle.clone_copying.specs.Connecting.{DeskSeat}
use Rattle.clone_links.specs.Calling.{JobSeat}
use Rattle.clone_task_jobs.specs.Fetching.{FetchesTask, HaltsUnless}
use Rattle.clone_task_jobs.proofs.fetching.FetchJob.run.Goals as goal

pub returns : goal.returns
returns g c =
    let link = g.N.End.Link in
    let f = c.args.self.fetcher in
    let end = c.fetch-end.result in
    let did : FetchesTask link f c.fetch-end.new.self.seat c.args.self.desk c.fetch-end.new.desk c.args.self.watch c.halt_unless.new.watch end =
    record {
      ends = c.fetch-end.ensures.fetches.0;
      core = c.fetch-end.new.self.core;
      looked = c.fetch-end.new.watch;
      desk = c.fetch-end.ensures.fetches.1;
      fetches = c.fetch-end.ensures.fetches.2.1;
      looks = c.fetch-end.ensures.looks;
      halts = subst (λ b. Worked (HaltsUnless b) c.fetch-end.new.watch c.halt_unless.new.watch) c.is_complete.ensures c.halt_unless.ensures;
    } in
    subst (λ (w : JobSeat). FetchesTask link f c.into_seat.result c.args.self.desk c.into_seat-2.result c.args.self.watch w end) (sym c.into_seat-3.ensures)
    (subst (λ (d : DeskSeat _ _). FetchesTask link f c.into_seat.result c.args.self.desk d c.args.self.watch c.halt_unless.new.watch end) (sym c.into_seat-2.ensures)
    (subst (λ (r : RecipientSeat _). FetchesTask link f r c.args.self.desk c.fetch-end.new.desk c.args.self.watch c.halt_unless.new.watch end) (sym c.into_seat.ensures) did))
