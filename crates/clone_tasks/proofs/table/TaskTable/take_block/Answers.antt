use Rattle.std.proofs.Common.{◌≡◌, true, ap}
use Rattle.clone_marks.specs.Blocks.{is_left}
use Rattle.clone_tasks.specs.Tables.{Table}
use Rattle.clone_tasks.proofs.StandLemmas.{all_still}
use Rattle.clone_tasks.proofs.table.TaskTable.take_block.Goals as goal

pub invariant_of-self : goal.invariant_of-self
invariant_of-self c =
    let left : is_left c.self.inside.marks c.args.chunk c.args.block ≡ true = rw (← ap (λ (t : Table). t.marks) c.self.view_is) at c.requires in
    (c.self.invariant.0, all_still c.self.inside.standings c.self.inside.marks c.mark.new.self c.args.chunk c.args.block left c.self.invariant.1)
