use Rattle.std.proofs.Common.{[], refl, ap, ◌∙◌, string_bytes, Err}
use Rattle.clone_script.specs.declared.lines.Line.TheVariants as lines
use Rattle.clone_plain.specs.Answers.{rows_answer}
use Rattle.clone_events.specs.Events.{showed, incomplete, hidden, damaged}
use Rattle.clone_recover.specs.declared.refusal.RecoverRefusal.{RecoverRefusal}
use Rattle.clone_recover.specs.declared.refusal.RecoverRefusal.TheVariants.{Incomplete, Damaged, DiskFault, NoMemory}
use Rattle.clone_dump.specs.Shown.{why_text}
use Rattle.clone_core.proofs.LineLemmas.{event_answers, event_breaks, quiet_untold, said_is, untold_breaks}
use Rattle.clone_core.proofs.RowsLemmas.{read_as}
use Rattle.clone_core.proofs.world.World.show_rows.Goals as goal

pub returns-in-Ok-clause-ok : goal.returns-in-Ok-clause-ok
returns-in-Ok-clause-ok g c =
    let at = c.in-Ok.ensures in
    event_answers string_bytes _ _ lines.Rows (showed at.rows) c.rows_shown.result (showed at.rows, tt, refl) at.happened (said_is string_bytes c.rows_shown.result (rows_answer c.deref.result.now) _ (ap rows_answer (c.deref.ensures.value ∙ at.is)) c.rows_shown.ensures)

pub returns-in-Ok-clause-err : goal.returns-in-Ok-clause-err
returns-in-Ok-clause-err g c = event_breaks _ _ lines.Rows (showed c.in-Ok.ensures.rows) c.rows_shown.result (showed c.in-Ok.ensures.rows, tt, refl) (quiet_untold _ _ (showed c.in-Ok.ensures.rows) tt c.in-Ok.ensures.happened)

pub returns-in-Err-Incomplete-clause-ok : goal.returns-in-Err-Incomplete-clause-ok
returns-in-Err-Incomplete-clause-ok g c = event_answers string_bytes _ _ lines.Rows incomplete c.from_str.result (incomplete, tt, refl) (read_as _ _ c.read_rows.result Incomplete (c.in-Err-Incomplete.is ∙ ap (λ (r : RecoverRefusal). Err r) c.in-Err-Incomplete.field-0-is) c.read_rows.ensures) c.from_str.ensures.ok

pub returns-in-Err-Incomplete-clause-err : goal.returns-in-Err-Incomplete-clause-err
returns-in-Err-Incomplete-clause-err g c = event_breaks _ _ lines.Rows incomplete c.from_str.result (incomplete, tt, refl) (quiet_untold _ _ incomplete tt (read_as _ _ c.read_rows.result Incomplete (c.in-Err-Incomplete.is ∙ ap (λ (r : RecoverRefusal). Err r) c.in-Err-Incomplete.field-0-is) c.read_rows.ensures))

pub returns-in-Err-Damaged-clause-ok : goal.returns-in-Err-Damaged-clause-ok
returns-in-Err-Damaged-clause-ok g c =
    let d = c.in-Err-Damaged in
    event_answers string_bytes _ _ lines.Rows (damaged d.space d.page (why_text d.why)) c.damage_text.result (damaged d.space d.page (why_text d.why), tt, refl) (read_as _ _ c.read_rows.result (Damaged d.space d.page d.why) (d.is ∙ ap (λ (r : RecoverRefusal). Err r) d.field-0-is) c.read_rows.ensures) c.damage_text.ensures

pub returns-in-Err-Damaged-clause-err : goal.returns-in-Err-Damaged-clause-err
returns-in-Err-Damaged-clause-err g c =
    let d = c.in-Err-Damaged in
    event_breaks _ _ lines.Rows (damaged d.space d.page (why_text d.why)) c.damage_text.result (damaged d.space d.page (why_text d.why), tt, refl) (quiet_untold _ _ (damaged d.space d.page (why_text d.why)) tt (read_as _ _ c.read_rows.result (Damaged d.space d.page d.why) (d.is ∙ ap (λ (r : RecoverRefusal). Err r) d.field-0-is) c.read_rows.ensures))

pub returns-in-Err-DiskFault-clause-ok : goal.returns-in-Err-DiskFault-clause-ok
returns-in-Err-DiskFault-clause-ok g c = event_answers string_bytes _ _ lines.Rows hidden c.recipient_fault.result (hidden, tt, refl) (read_as _ _ c.read_rows.result DiskFault (c.in-Err-DiskFault.is ∙ ap (λ (r : RecoverRefusal). Err r) c.in-Err-DiskFault.field-0-is) c.read_rows.ensures) c.recipient_fault.ensures

pub returns-in-Err-DiskFault-clause-err : goal.returns-in-Err-DiskFault-clause-err
returns-in-Err-DiskFault-clause-err g c = event_breaks _ _ lines.Rows hidden c.recipient_fault.result (hidden, tt, refl) (quiet_untold _ _ hidden tt (read_as _ _ c.read_rows.result DiskFault (c.in-Err-DiskFault.is ∙ ap (λ (r : RecoverRefusal). Err r) c.in-Err-DiskFault.field-0-is) c.read_rows.ensures))

pub returns-in-Err-NoMemory-clause-err : goal.returns-in-Err-NoMemory-clause-err
returns-in-Err-NoMemory-clause-err g c = untold_breaks _ _ lines.Rows hidden [] (hidden, tt, refl) (read_as _ _ c.read_rows.result NoMemory (c.in-Err-NoMemory.is ∙ ap (λ (r : RecoverRefusal). Err r) c.in-Err-NoMemory.field-0-is) c.read_rows.ensures)
