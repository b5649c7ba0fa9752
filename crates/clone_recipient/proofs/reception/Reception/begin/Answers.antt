use Rattle.std.proofs.Common.{subst, sym}
use Rattle.clone_outside.specs.Disk.{ForTold}
use Rattle.clone_outside.specs.declared.mark.Mark.TheVariants.{InProgress}
use Rattle.clone_lay.specs.Sized.{AreSizes, PageCounts}
use Rattle.clone_recipient.proofs.BlankLemmas.{begun_sizes}
use Rattle.clone_recipient.proofs.reception.Reception.begin.Goals as goal

pub returns-clause-sizes : goal.returns-clause-sizes
returns-clause-sizes g c =
    let told = (g.R.PageDisk.state c.args.disk.now).told in
    let mid = (g.R.PageDisk.state c.is_empty.new.disk).told in
    let now = (g.R.PageDisk.state c.begin_copy.new.disk).told in
    subst (λ (sizes : PageCounts). ForTold now (AreSizes sizes)) (sym c.new-2.ensures)
    (begun_sizes told mid now (InProgress c.args.session) (c.in_ok-is_empty.ensures.empty c.if-not-branch.false) c.in_ok-is_empty.ensures.asks.told c.in_ok-begin_copy.ensures.ok)
