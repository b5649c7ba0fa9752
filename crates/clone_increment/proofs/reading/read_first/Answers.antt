use Rattle.std.proofs.Common.{◌≡◌, ◌+◌, ℕ, subst, arith}
use Rattle.clone_outside.specs.Disk.{ForTold, GivesQuiet}
use Rattle.clone_outside.proofs.DiskCallLemmas.{reads_none, reads_then}
use Rattle.clone_increment.proofs.ReadingLemmas as reading
use Rattle.clone_increment.proofs.ReadingLemmas.{ReadsSome, for_told, reads_more, told_with}
use Rattle.clone_increment.proofs.reading.read_first.Goals as goal

pub loop-number-init : goal.loop-number-init
loop-number-init g c =
    record {
      read = for_told (g.D.PageDisk.state c.args.disk.now).told (ReadsSome c.args.space c.args.count 0 c.args.pages.now c.args.pages.now) (λ m. reading.reads_none c.args.space c.args.count c.args.pages.now m);
      reads = reads_none;
    }

pub loop-number-preserved : goal.loop-number-preserved
loop-number-preserved g c =
    let told = (g.D.PageDisk.state c.args.disk.now).told in
    let number = c.loop-number.number in
    let first = c.args.pages.now in
    let old = c.loop-number.pages in
    let new = c.read.new.self in
    let read = c.in_ok-read.ensures.ok in
    record {
      read = told_with told _ (ReadsSome c.args.space c.args.count number first old) (λ m. GivesQuiet m c.args.space number read.0) (ReadsSome c.args.space c.args.count (number + 1) first new)
          c.loop-number.invariant.reads.told (λ m so_far gives. reads_more m c.args.space c.args.count number first old new read.0 c.loop-number-test.true so_far read.1 gives) c.loop-number.invariant.read read.2;
      reads = reads_then c.loop-number.invariant.reads c.read.ensures.asks;
    }

pub returns-clause-first : goal.returns-clause-first
returns-clause-first g c =
    let told = (g.D.PageDisk.state c.args.disk.now).told in
    let last : c.loop-number.number ≡ c.args.count = omega (arith, c.loop-number-test.false, c.loop-number.auto.number-end) in
    subst (λ (n : ℕ). ForTold told (ReadsSome c.args.space c.args.count n c.args.pages.now c.loop-number.pages)) last c.loop-number.invariant.read
