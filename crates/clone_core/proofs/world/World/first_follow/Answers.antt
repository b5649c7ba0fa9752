use Rattle.std.proofs.Common.{◌∙◌, [], refl, sym, ap, subst, string_bytes, OnErr, Err}
use Rattle.clone_recover.specs.declared.refusal.RecoverRefusal.{RecoverRefusal}
use Rattle.clone_recover.specs.declared.refusal.RecoverRefusal.TheVariants.{Incomplete, Damaged, DiskFault, NoMemory}
use Rattle.clone_script.specs.declared.lines.Line.TheVariants as lines
use Rattle.clone_dump.specs.Shown.{why_text}
use Rattle.clone_events.specs.Events.{damaged, hidden, incomplete}
use Rattle.clone_events.specs.Runs.{hides}
use Rattle.clone_events.specs.World.{HasEnded}
use Rattle.clone_core.specs.Lines.{State, BreaksOff}
use Rattle.clone_core.specs.Showing.{ShowsList}
use Rattle.clone_core.proofs.FollowLemmas.{begun_at, begun_so, first_answers, first_breaks, hides_breaks, hides_says, unopened}
use Rattle.clone_core.proofs.LineLemmas.{quiet_untold, untold_breaks}
use Rattle.clone_core.proofs.RowsLemmas.{read_as}
use Rattle.clone_core.proofs.world.World.first_follow.Goals as goal

pub read_rows-requires : goal.read_rows-requires
read_rows-requires g c = record { ended = subst HasEnded (sym c.requires.complete) tt }

pub returns-in_err-open_follower-in-Ok-clause-err : goal.returns-in_err-open_follower-in-Ok-clause-err
returns-in_err-open_follower-in-Ok-clause-err g c =
    let at = c.in-Ok.ensures in
    let shows : ShowsList c.args.self.now c.deref.result.now c.read_rows.new.self = record { rows = at.rows; is = c.deref.ensures.value ∙ at.is; happened = at.happened } in
    subst (λ (w : State). OnErr c.from_residual.result (BreaksOff c.args.self.now lines.Follow w)) (sym c.in_err-open_follower-in-Ok.ensures.err) (unopened c.args.self.now c.read_rows.new.self c.deref.result.now c.args.position c.from_residual.result shows)

pub exchange-requires : goal.exchange-requires
exchange-requires g c =
    let at = c.in-Ok.ensures in
    let shows : ShowsList c.args.self.now c.deref.result.now c.read_rows.new.self = record { rows = at.rows; is = c.deref.ensures.value ∙ at.is; happened = at.happened } in
    record { at = begun_at c.args.self.now c.open_follower.new.self c.args.position (begun_so c.args.self.now c.read_rows.new.self c.open_follower.new.self c.deref.result.now c.args.position shows c.requires.complete c.requires.first c.in_ok-open_follower-in-Ok.ensures.ok) }

pub returns-in_ok-open_follower-in-Ok-clause-ok : goal.returns-in_ok-open_follower-in-Ok-clause-ok
returns-in_ok-open_follower-in-Ok-clause-ok g c =
    let at = c.in-Ok.ensures in
    let shows : ShowsList c.args.self.now c.deref.result.now c.read_rows.new.self = record { rows = at.rows; is = c.deref.ensures.value ∙ at.is; happened = at.happened } in
    first_answers string_bytes c.args.self.now c.open_follower.new.self _ c.args.position c.exchange.result (begun_so c.args.self.now c.read_rows.new.self c.open_follower.new.self c.deref.result.now c.args.position shows c.requires.complete c.requires.first c.in_ok-open_follower-in-Ok.ensures.ok) c.exchange.ensures.ok

pub returns-in_ok-open_follower-in-Ok-clause-err : goal.returns-in_ok-open_follower-in-Ok-clause-err
returns-in_ok-open_follower-in-Ok-clause-err g c =
    let at = c.in-Ok.ensures in
    let shows : ShowsList c.args.self.now c.deref.result.now c.read_rows.new.self = record { rows = at.rows; is = c.deref.ensures.value ∙ at.is; happened = at.happened } in
    first_breaks c.args.self.now c.open_follower.new.self _ c.args.position c.exchange.result (begun_so c.args.self.now c.read_rows.new.self c.open_follower.new.self c.deref.result.now c.args.position shows c.requires.complete c.requires.first c.in_ok-open_follower-in-Ok.ensures.ok) c.exchange.ensures.err

pub returns-in-Err-Incomplete-clause-ok : goal.returns-in-Err-Incomplete-clause-ok
returns-in-Err-Incomplete-clause-ok g c = hides_says string_bytes c.args.self.now _ incomplete c.from_str.result tt (read_as _ _ c.read_rows.result Incomplete (c.in-Err-Incomplete.is ∙ ap (λ (r : RecoverRefusal). Err r) c.in-Err-Incomplete.field-0-is) c.read_rows.ensures) c.from_str.ensures.ok

pub returns-in-Err-Incomplete-clause-err : goal.returns-in-Err-Incomplete-clause-err
returns-in-Err-Incomplete-clause-err g c = hides_breaks c.args.self.now _ incomplete c.from_str.result tt (quiet_untold _ _ incomplete tt (read_as _ _ c.read_rows.result Incomplete (c.in-Err-Incomplete.is ∙ ap (λ (r : RecoverRefusal). Err r) c.in-Err-Incomplete.field-0-is) c.read_rows.ensures))

pub returns-in-Err-Damaged-clause-ok : goal.returns-in-Err-Damaged-clause-ok
returns-in-Err-Damaged-clause-ok g c =
    let d = c.in-Err-Damaged in
    hides_says string_bytes c.args.self.now _ (damaged d.space d.page (why_text d.why)) c.damage_text.result tt (read_as _ _ c.read_rows.result (Damaged d.space d.page d.why) (d.is ∙ ap (λ (r : RecoverRefusal). Err r) d.field-0-is) c.read_rows.ensures) c.damage_text.ensures

pub returns-in-Err-Damaged-clause-err : goal.returns-in-Err-Damaged-clause-err
returns-in-Err-Damaged-clause-err g c =
    let d = c.in-Err-Damaged in
    hides_breaks c.args.self.now _ (damaged d.space d.page (why_text d.why)) c.damage_text.result tt (quiet_untold _ _ (damaged d.space d.page (why_text d.why)) tt (read_as _ _ c.read_rows.result (Damaged d.space d.page d.why) (d.is ∙ ap (λ (r : RecoverRefusal). Err r) d.field-0-is) c.read_rows.ensures))

pub returns-in-Err-DiskFault-clause-ok : goal.returns-in-Err-DiskFault-clause-ok
returns-in-Err-DiskFault-clause-ok g c = hides_says string_bytes c.args.self.now _ hidden c.recipient_fault.result tt (read_as _ _ c.read_rows.result DiskFault (c.in-Err-DiskFault.is ∙ ap (λ (r : RecoverRefusal). Err r) c.in-Err-DiskFault.field-0-is) c.read_rows.ensures) c.recipient_fault.ensures

pub returns-in-Err-DiskFault-clause-err : goal.returns-in-Err-DiskFault-clause-err
returns-in-Err-DiskFault-clause-err g c = hides_breaks c.args.self.now _ hidden c.recipient_fault.result tt (quiet_untold _ _ hidden tt (read_as _ _ c.read_rows.result DiskFault (c.in-Err-DiskFault.is ∙ ap (λ (r : RecoverRefusal). Err r) c.in-Err-DiskFault.field-0-is) c.read_rows.ensures))

pub returns-in-Err-NoMemory-clause-err : goal.returns-in-Err-NoMemory-clause-err
returns-in-Err-NoMemory-clause-err g c = untold_breaks _ _ lines.Follow hidden [] (hides hidden tt refl) (read_as _ _ c.read_rows.result NoMemory (c.in-Err-NoMemory.is ∙ ap (λ (r : RecoverRefusal). Err r) c.in-Err-NoMemory.field-0-is) c.read_rows.ensures)
