use Rattle.std.proofs.Common.{◌+◌, drop, get_or, refl, arith}
use Rattle.clone_overlay.specs.Covers.{covers_of}
use Rattle.clone_outside.proofs.DiskCallLemmas.{works_none, works_then}
use Rattle.clone_recover.specs.Written.{without_space}
use Rattle.clone_recover.proofs.Loops.{left_begins, left_goes_on, left_ends, drop_at, drop_done}
use Rattle.clone_recover.proofs.writing.remove_gone.Goals as goal

pub loop-space-init : goal.loop-space-init
loop-space-init g c = record {
  left = left_begins (without_space (covers_of c.args.sheets.now.entries)) (g.R.PageDisk.state c.args.disk.now).told (g.R.PageDisk.state c.args.disk.now).told c.args.spaces.now (drop 0 c.args.spaces.now) refl refl;
  works = works_none;
}

pub loop-space-preserved : goal.loop-space-preserved
loop-space-preserved g c = record {
  left = left_goes_on (without_space (covers_of c.args.sheets.now.entries)) (g.R.PageDisk.state c.args.disk.now).told (g.R.PageDisk.state c.loop-space.disk).told (g.R.PageDisk.state c.remove_if_gone.new.disk).told (get_or c.args.spaces.now c.loop-space.space-index 0) (drop c.loop-space.space-index c.args.spaces.now) (drop (c.loop-space.space-index + 1) c.args.spaces.now) c.args.spaces.now
      (drop_at c.loop-space.space-index c.args.spaces.now 0 c.loop-space-test.true) c.in_ok-remove_if_gone.ensures.removed c.loop-space.invariant.left;
  works = works_then c.loop-space.invariant.works c.in_ok-remove_if_gone.ensures.works;
}

pub returns-clause-removed : goal.returns-clause-removed
returns-clause-removed g c =
    left_ends (without_space (covers_of c.args.sheets.now.entries)) (g.R.PageDisk.state c.args.disk.now).told (g.R.PageDisk.state c.loop-space.disk).told (drop c.loop-space.space-index c.args.spaces.now) c.args.spaces.now
    (drop_done c.loop-space.space-index c.args.spaces.now (omega arith)) c.loop-space.invariant.left
