use Rattle.std.proofs.Common.{◌∙◌, List, ℕ, refl, sym, ap, subst}
use Rattle.std.specs.Prelude.{option_map}
use Rattle.std.specs.Cmp.{nat_cmp_total}
use Rattle.clone_base.proofs.OrderedMaps.{entries_listed}
use Rattle.clone_outside.proofs.DiskCallLemmas.{works_none, works_then}
use Rattle.clone_outside.specs.Disk.{Steps}
use Rattle.clone_recover.specs.Written.{with_whole, with_leaves}
use Rattle.clone_recover.proofs.Loops.{left_begins, left_goes_on, left_ends}
use Rattle.clone_recover.proofs.writing.write_leaves.Goals as goal

pub loop-number-init : goal.loop-number-init
loop-number-init g c = record {
  left = left_begins (λ m e. with_whole c.args.space m e.0 e.1) (g.R.PageDisk.state c.args.disk.now).told (g.R.PageDisk.state c.args.disk.now).told c.args.leaves.now.entries c.into_iter-number-iterator.result refl c.into_iter-number-iterator.ensures.into_iter_gives.0;
  works = works_none;
}

pub loop-number-preserved : goal.loop-number-preserved
loop-number-preserved g c = record {
  left = left_goes_on (λ m e. with_whole c.args.space m e.0 e.1) (g.R.PageDisk.state c.args.disk.now).told (g.R.PageDisk.state c.loop-number.disk).told (g.R.PageDisk.state c.write_page.new.disk).told (c.in-Some.number.now, c.in-Some.page.now) c.loop-number.number-iterator _ c.args.leaves.now.entries
      c.in-Some.ensures.steps
      (subst (λ (page : List ℕ). Steps (g.R.PageDisk.state c.loop-number.disk).told (g.R.PageDisk.state c.write_page.new.disk).told (λ m. with_whole c.args.space m c.in-Some.number.now page)) c.bytes.ensures.value c.in_ok-write_page.ensures.written) c.loop-number.invariant.left;
  works = works_then c.loop-number.invariant.works c.in_ok-write_page.ensures.works;
}

pub returns-clause-written : goal.returns-clause-written
returns-clause-written g c =
    left_ends (λ m e. with_whole c.args.space m e.0 e.1) (g.R.PageDisk.state c.args.disk.now).told (g.R.PageDisk.state c.loop-number.disk).told c.loop-number.number-iterator c.args.leaves.now.entries c.in-None.ensures.steps.0 c.loop-number.invariant.left
    ∙ ap (λ (es : List (ℕ × List ℕ)). option_map (λ m. with_leaves c.args.space m es) (g.R.PageDisk.state c.args.disk.now).told) (sym (entries_listed nat_cmp_total c.args.leaves.now c.into_iter-number-iterator.ensures.into_iter_gives.5))
