use Rattle.std.proofs.Common.{ℕ, ◌+◌, ◌∙◌, get_or, take}
use Rattle.clone_outside.proofs.DiskCallLemmas.{reads_none, reads_then}
use Rattle.clone_increment.specs.Readings.{ReadsAll, ReadsFirst}
use Rattle.clone_increment.proofs.CountLemmas.{same_at}
use Rattle.clone_increment.proofs.ReadingLemmas.{ReadsNamed, all_read, for_told, named_first, named_more, told_weaker, told_with}
use Rattle.clone_increment.proofs.reading.read_all.Goals as goal

pub loop-entry-init : goal.loop-entry-init
loop-entry-init g c =
    let told = (g.D.PageDisk.state c.args.disk.now).told in
    let sizes = c.args.sizes.now in
    let list = c.deref-entry-items.result.now in
    record {
      read = for_told told (ReadsNamed sizes (take 0 list) c.new-pages.result) (λ m. named_first m sizes list c.new-pages.result c.new-pages.ensures);
      reads = reads_none;
    }

pub loop-entry-preserved : goal.loop-entry-preserved
loop-entry-preserved g c =
    let told = (g.D.PageDisk.state c.args.disk.now).told in
    let sizes = c.args.sizes.now in
    let list = c.deref-entry-items.result.now in
    let i = c.loop-entry.entry-index in
    let x : ℕ × ℕ = get_or list i (0, 0) in
    let old = c.loop-entry.pages in
    let new = c.read_first.new.pages in
    record {
      read = told_with told _ (ReadsNamed sizes (take i list) old) (ReadsFirst x.0 x.1 old new) (ReadsNamed sizes (take (i + 1) list) new)
          c.loop-entry.invariant.reads.told (λ m so_far first. named_more m sizes list i x old new (c.deref-entry-items.ensures.value ∙ c.in_ok-list.ensures) c.loop-entry-test.true (same_at list i (0, 0) x c.loop-entry-test.true) so_far first) c.loop-entry.invariant.read c.in_ok-read_first.ensures.first;
      reads = reads_then c.loop-entry.invariant.reads c.read_first.ensures.asks;
    }

pub returns-clause-pages : goal.returns-clause-pages
returns-clause-pages g c =
    let told = (g.D.PageDisk.state c.args.disk.now).told in
    let sizes = c.args.sizes.now in
    let list = c.deref-entry-items.result.now in
    let i = c.loop-entry.entry-index in
    told_weaker told (ReadsNamed sizes (take i list) c.loop-entry.pages) (ReadsAll sizes c.loop-entry.pages)
    (λ m read. all_read m sizes list i c.loop-entry.pages (c.deref-entry-items.ensures.value ∙ c.in_ok-list.ensures) c.loop-entry-test.false read) c.loop-entry.invariant.read
