use Rattle.std.proofs.Common.{◌≡◌, false, refl, string_bytes}
use Rattle.clone_script.specs.declared.lines.Line.TheVariants as lines
use Rattle.clone_events.specs.Events.{incomplete}
use Rattle.clone_core.specs.Copied.{progress_of}
use Rattle.clone_core.specs.Ending.{is_over}
use Rattle.clone_core.proofs.LineLemmas.{event_answers, same_breaks}
use Rattle.clone_core.proofs.ShowingLemmas.{not_ended}
use Rattle.clone_core.proofs.world.World.rows_line.Goals as goal

pub returns-else-has_ended-clause-ok : goal.returns-else-has_ended-clause-ok
returns-else-has_ended-clause-ok g c =
    let going : is_over (progress_of c.self.inside.course) ≡ false = search in
    event_answers string_bytes c.args.self.now c.args.self.now lines.Rows incomplete c.from_str.result (incomplete, tt, refl) (not_ended _ _ _ _ _ _ c.self.view_is going c.self.invariant) c.from_str.ensures.ok

pub returns-else-has_ended-clause-err : goal.returns-else-has_ended-clause-err
returns-else-has_ended-clause-err g c = same_breaks c.args.self.now lines.Rows c.from_str.result
