use Rattle.std.proofs.Common.{ℕ, subst}
use Rattle.std.specs.FinMap as finite
use Rattle.std.proofs.lemmas.Result.{on_ok_weaker}
use Rattle.clone_outside.specs.Disk.{Steps}
use Rattle.clone_overlay.specs.Covers.{Leaves}
use Rattle.clone_recover.specs.Written.{with_count, with_leaves}
use Rattle.clone_recover.proofs.DiskStepLemmas.{then_step}
use Rattle.clone_recover.proofs.writing.write_sheet.Goals as goal

pub returns-clause-written : goal.returns-clause-written
returns-clause-written g c =
    let first = (g.R.PageDisk.state c.args.disk.now).told in
    let mid = (g.R.PageDisk.state c.give_pages.new.disk).told in
    let last = (g.R.PageDisk.state c.write_leaves.new.disk).told in
    let space : ℕ = c.args.space in
    on_ok_weaker c.write_leaves.result
    (λ written. then_step first mid last (λ m. with_count space m c.args.sheet.now) (λ m. with_leaves space m (finite.entries c.args.sheet.now.leaves)) c.in_ok-give_pages.ensures.given
    (subst (λ (leaves : Leaves). Steps mid last (λ m. with_leaves space m (finite.entries leaves))) c.leaves.ensures written))
    c.write_leaves.ensures.written
