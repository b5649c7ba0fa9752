use Rattle.clone_track.proofs.RunLemmas.{no_runs}
use Rattle.clone_track.proofs.runs.Runs.new.Goals as goal

pub invariant_of-result : goal.invariant_of-result
invariant_of-result c =
    let last = c.in_ok-with_capacity.ensures in
    let list = c.in_ok-with_capacity-2.ensures in
    no_runs c.new.result.items c.in_ok-with_capacity.field-0 c.in_ok-with_capacity-2.field-0 c.new.ensures.items last.items last.capacity list.items list.capacity
