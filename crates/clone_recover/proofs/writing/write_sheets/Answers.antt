use Rattle.std.proofs.Common.{◌∙◌, List, ℕ, refl, sym, ap}
use Rattle.std.specs.Prelude.{option_map}
use Rattle.std.specs.Cmp.{nat_cmp_total}
use Rattle.clone_base.proofs.OrderedMaps.{entries_listed}
use Rattle.clone_overlay.specs.Covers.{Cover}
use Rattle.clone_outside.proofs.DiskCallLemmas.{works_none, works_then}
use Rattle.clone_recover.specs.Written.{with_sheet, with_sheets}
use Rattle.clone_recover.proofs.Loops.{left_begins, left_goes_on, left_ends}
use Rattle.clone_recover.proofs.writing.write_sheets.Goals as goal

pub loop-space-init : goal.loop-space-init
loop-space-init g c = record {
  left = left_begins (λ m e. with_sheet m e.0 e.1) (g.R.PageDisk.state c.args.disk.now).told (g.R.PageDisk.state c.args.disk.now).told c.args.sheets.now.entries c.into_iter-space-iterator.result refl c.into_iter-space-iterator.ensures.into_iter_gives.0;
  works = works_none;
}

pub loop-space-preserved : goal.loop-space-preserved
loop-space-preserved g c = record {
  left = left_goes_on (λ m e. with_sheet m e.0 e.1) (g.R.PageDisk.state c.args.disk.now).told (g.R.PageDisk.state c.loop-space.disk).told (g.R.PageDisk.state c.write_sheet.new.disk).told (c.in-Some.space.now, c.in-Some.sheet.now) c.loop-space.space-iterator _ c.args.sheets.now.entries
      c.in-Some.ensures.steps c.in_ok-write_sheet.ensures.written c.loop-space.invariant.left;
  works = works_then c.loop-space.invariant.works c.in_ok-write_sheet.ensures.works;
}

pub returns-clause-written : goal.returns-clause-written
returns-clause-written g c =
    left_ends (λ m e. with_sheet m e.0 e.1) (g.R.PageDisk.state c.args.disk.now).told (g.R.PageDisk.state c.loop-space.disk).told c.loop-space.space-iterator c.args.sheets.now.entries c.in-None.ensures.steps.0 c.loop-space.invariant.left
    ∙ ap (λ (es : List (ℕ × Cover)). option_map (λ m. with_sheets m es) (g.R.PageDisk.state c.args.disk.now).told) (sym (entries_listed nat_cmp_total c.args.sheets.now c.into_iter-space-iterator.ensures.into_iter_gives.5))
