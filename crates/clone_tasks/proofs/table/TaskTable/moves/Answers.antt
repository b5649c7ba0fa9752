use Rattle.std.proofs.Common.{◌≡◌, ◌∙◌, get_or, sym, subst, ap}
use Rattle.clone_marks.specs.Blocks.{AreAllTaken}
use Rattle.clone_tasks.specs.declared.standing.Standing.TheVariants.{Apart, Acknowledging}
use Rattle.clone_tasks.specs.Tables.{Table, standing_of}
use Rattle.clone_tasks.proofs.StandLemmas.{acknowledged_taken}
use Rattle.clone_tasks.proofs.table.TaskTable.moves.Goals as goal

pub returns-in-Acknowledging-clause-taken : goal.returns-in-Acknowledging-clause-taken
returns-in-Acknowledging-clause-taken c h copying =
    let task = c.args.task in
    let standing : get_or c.self.inside.standings task Apart ≡ Acknowledging = ap (λ (t : Table). standing_of t task) c.self.view_is ∙ sym c.standing.ensures ∙ c.in-Acknowledging.is in
    let taken = acknowledged_taken (get_or c.self.inside.standings task Apart) task c.self.inside.marks standing (c.self.invariant.1.each task) in
    subst AreAllTaken (ap (λ (t : Table). t.marks) c.self.view_is) taken
