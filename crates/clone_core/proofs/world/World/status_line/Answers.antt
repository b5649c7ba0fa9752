use Rattle.std.proofs.Common.{◌∙◌, ap, string_bytes}
use Rattle.clone_progress.specs.Texts.{progress_text}
use Rattle.clone_core.specs.Acting.{course_progress}
use Rattle.clone_core.specs.Lines.{State}
use Rattle.clone_core.proofs.StatusLemmas.{popped, status_breaks, tells_status}
use Rattle.clone_core.proofs.world.World.status_line.Goals as goal

pub returns-in_err-text-clause-err : goal.returns-in_err-text-clause-err
returns-in_err-text-clause-err g c = status_breaks c.args.self.now c.from_residual.result

pub returns-clause-ok : goal.returns-clause-ok
returns-clause-ok g c =
    let progress = course_progress c.args.self.now.donor.course in
    let shown = c.in_ok-text.ensures ∙ ap (λ (s : State). progress_text (course_progress s.donor.course)) c.self.view_is in
    tells_status c.args.self.now (string_bytes c.pop.new.self) (popped progress (string_bytes c.in_ok-text.text) _ _ shown c.in_ok-text.text.bytes.ok.0 c.pop.ensures.ascii_bytes)
