use Rattle.std.proofs.Common.{◌≡◌, refl, Some, None, IfOk, string_bytes}
use Rattle.clone_script.specs.declared.lines.Line.TheVariants as lines
use Rattle.clone_events.specs.Events.{archived, event_text}
use Rattle.clone_core.proofs.HoldsLemmas.{act_kept}
use Rattle.clone_core.proofs.LineLemmas.{event_answers, event_breaks, quiet_untold, stays_breaks}
use Rattle.clone_core.proofs.ShowingLemmas.{archives, archived_said, not_archived}
use Rattle.clone_core.proofs.world.World.archive_line.Goals.{in-Some, in-None}
use Rattle.clone_core.proofs.world.World.archive_line.Goals as goal

pub invariant_of-self : goal.invariant_of-self
invariant_of-self g c = act_kept _ _ _ _ _ _ _ _ tt tt c.in_err-lsn.ensures.acts c.self.invariant

pub returns-in_err-lsn-clause-err : goal.returns-in_err-lsn-clause-err
returns-in_err-lsn-clause-err g c = stays_breaks c.args.self.now _ (lines.Archive c.args.bytes) c.from_residual.result (not_archived _ _ _ c.self.view_is refl c.in_err-lsn.ensures.acts.does)

pub invariant_of-self-2 : goal.invariant_of-self-2
invariant_of-self-2 g c = act_kept _ _ _ _ _ _ _ _ tt tt c.in_ok-lsn.ensures.acts c.self.invariant

pub returns-clause-ok : goal.returns-clause-ok
returns-clause-ok g c =
    let limit = c.from.result in
    let reached = c.in_ok-lsn.field-0 in
    let happens = archives _ _ _ limit reached c.self.view_is refl c.in_ok-lsn.ensures.acts in
    let says : IfOk c.match-branch-2.result (λ text. string_bytes text ≡ event_text (archived limit reached)) = elim c.match-branch-2.branch [
      | in-Some w ↦ archived_said string_bytes limit reached (Some w.in-Some.lsn) c.match-branch-2.result w.format.result w.in-Some.is w.result-is w.format.ensures.ok
      | in-None w ↦ archived_said string_bytes limit reached None c.match-branch-2.result w.from_str.result w.in-None.is w.result-is w.from_str.ensures.ok
    ] in
    event_answers string_bytes c.args.self.now _ (lines.Archive c.args.bytes) (archived limit reached) c.match-branch-2.result (archived limit reached, c.from.ensures, refl) happens says

pub returns-clause-err : goal.returns-clause-err
returns-clause-err g c =
    let is = archives _ _ _ c.from.result c.in_ok-lsn.field-0 c.self.view_is refl c.in_ok-lsn.ensures.acts in
    event_breaks c.args.self.now _ (lines.Archive c.args.bytes) (archived c.from.result c.in_ok-lsn.field-0) c.match-branch-2.result (archived c.from.result c.in_ok-lsn.field-0, c.from.ensures, refl) (quiet_untold _ _ (archived c.from.result c.in_ok-lsn.field-0) tt is)
