use Rattle.clone_script.proofs.ReadLines.{HasRead-more}
use Rattle.clone_script.proofs.read.read_script.Goals as goal

pub loop-rest-preserved : goal.loop-rest-preserved
loop-rest-preserved c =
    HasRead-more _ _ _ _ _ _ _ c.loop-rest.invariant c.first_text.ensures.text c.first_text.ensures.shorter (rw c.if-not-branch.false at c.in_ok-take.ensures)
