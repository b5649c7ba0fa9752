use Rattle.std.proofs.Common.{string_bytes, true}
use Rattle.clone_script.specs.declared.lines.Line.TheVariants as lines
use Rattle.clone_events.specs.Runs.{Advances}
use Rattle.clone_core.proofs.CameLemmas.{advances, made_break, rounds_answer, rounds_break}
use Rattle.clone_core.proofs.world.World.advance_line.Goals as goal

pub returns-in_err-came-clause-err : goal.returns-in_err-came-clause-err
returns-in_err-came-clause-err g c = rounds_break lines.Advance Advances (λ s es m. m) tt _ _ c.from_residual.result c.in_err-came.ensures.err

pub returns-clause-ok : goal.returns-clause-ok
returns-clause-ok g c = rounds_answer lines.Advance Advances (λ s es m. m) string_bytes _ _ true c.in_ok-came.came c.came_text.result c.in_ok-came.ensures.made c.in_ok-came.ensures.came (advances _ _) c.came_text.ensures

pub returns-clause-err : goal.returns-clause-err
returns-clause-err g c = made_break lines.Advance Advances (λ s es m. m) tt _ _ c.came_text.result c.in_ok-came.ensures.made
