use Rattle.std.proofs.Common.{string_bytes}
use Rattle.clone_core.proofs.CameLemmas.{clone_answers, clone_breaks, clone_fails, clone_made_breaks}
use Rattle.clone_core.proofs.world.World.clone_line.Goals as goal

pub returns-in_err-start-clause-err : goal.returns-in_err-start-clause-err
returns-in_err-start-clause-err g c = clone_fails _ _ c.from_residual.result c.in_err-start.ensures

pub returns-in_err-came-clause-err : goal.returns-in_err-came-clause-err
returns-in_err-came-clause-err g c = clone_breaks _ c.start.new.self _ c.in_ok-start.field-0 c.from_residual-in_err-came.result c.in_ok-start.ensures c.in_err-came.ensures.err

pub returns-clause-ok : goal.returns-clause-ok
returns-clause-ok g c =
    clone_answers string_bytes _ c.start.new.self _ c.in_ok-start.field-0 c.in_ok-came.came c.came_text.result c.in_ok-start.ensures c.in_ok-came.ensures.made c.in_ok-came.ensures.came c.came_text.ensures

pub returns-clause-err : goal.returns-clause-err
returns-clause-err g c = clone_made_breaks _ c.start.new.self _ c.in_ok-start.field-0 c.came_text.result c.in_ok-start.ensures c.in_ok-came.ensures.made
