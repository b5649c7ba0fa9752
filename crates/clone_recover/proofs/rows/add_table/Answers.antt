use Rattle.std.proofs.Common.{◌≡◌, ◌<◌, ℕ, refl, arith}
use Rattle.std.specs.Prelude.{unwrap_or}
use Rattle.clone_outside.proofs.DiskCallLemmas.{reads_then, weaker}
use Rattle.clone_recover.proofs.RowListLemmas.{pages_begin, pages_go_on, pages_end}
use Rattle.clone_recover.proofs.rows.add_table.Goals as goal

pub loop-number-init : goal.loop-number-init
loop-number-init g c = record {
  added = pages_begin (g.R.PageDisk.state c.args.disk.now).told c.args.table c.args.tables.now;
  reads = weaker c.in_ok-pages.ensures.asks (λ none. absurd none);
}

pub loop-number-preserved : goal.loop-number-preserved
loop-number-preserved g c =
    let told = (g.R.PageDisk.state c.args.disk.now).told in
    let n : ℕ = c.loop-number.number in
    let low : n < unwrap_or c.in_ok-pages.field-0 0 = omega (arith, c.loop-number-test.true, c.unwrap_or-count.ensures) in
    record {
      added = pages_go_on told told (g.R.PageDisk.state c.loop-number.disk).told c.args.table n c.in_ok-pages.field-0 c.args.tables.now c.loop-number.tables c.add_page.new.tables c.read_page.new.into refl c.loop-number.invariant.reads.told c.requires low c.in_ok-pages.ensures.count
          c.in_ok-read_page.ensures.quiet c.in_ok-add_page.ensures c.loop-number.invariant.added;
      reads = reads_then c.loop-number.invariant.reads c.in_ok-read_page.ensures.reads;
    }

pub returns-clause-added : goal.returns-clause-added
returns-clause-added g c =
    let told = (g.R.PageDisk.state c.args.disk.now).told in
    let all : c.loop-number.number ≡ unwrap_or c.in_ok-pages.field-0 0 = omega (arith, c.loop-number-test.false, c.loop-number.auto.number-end, c.unwrap_or-count.ensures) in
    pages_end told told c.args.table c.loop-number.number c.in_ok-pages.field-0 c.args.tables.now c.loop-number.tables refl c.requires all c.in_ok-pages.ensures.count c.loop-number.invariant.added
