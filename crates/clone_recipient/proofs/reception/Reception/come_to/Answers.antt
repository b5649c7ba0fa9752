use Rattle.std.proofs.Common.{◌∙◌, List, ap, subst, sym}
use Rattle.std.specs.Prelude.{OnOk}
use Rattle.clone_outside.specs.Disk.{Steps}
use Rattle.clone_chunk.specs.Plans.{spaces_of}
use Rattle.clone_chunk.specs.declared.spaces.SpaceSize.{SpaceSize}
use Rattle.clone_accepted.specs.Answers.{Told, ToldPages}
use Rattle.clone_accepted.specs.Disk.{with_told}
use Rattle.clone_marks.specs.Counts.{pairs_of}
use Rattle.clone_recipient.specs.Taking.{told_by}
use Rattle.clone_recipient.proofs.reception.Reception.come_to.Goals as goal

pub returns-in-PageCopy-clause-steps : goal.returns-in-PageCopy-clause-steps
returns-in-PageCopy-clause-steps g c =
    let plan = c.in-PageCopy.is in
    let spaces = c.spaces-in-PageCopy.ensures.value ∙ ap spaces_of plan in
    let same = ap (λ (ss : List SpaceSize). ToldPages c.in-PageCopy.position (pairs_of ss)) spaces ∙ sym (ap told_by plan) in
    subst (λ (told : Told). OnOk c.begin_pages.result (Steps (g.R.PageDisk.state c.args.disk.now).told (g.R.PageDisk.state c.begin_pages.new.disk).told (with_told told))) same c.begin_pages.ensures.steps
