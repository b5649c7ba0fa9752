use Rattle.std.proofs.Common.{◌≡◌, ◌∙◌, arith}
use Rattle.clone_page.specs.Dictionary.{entry_count}
use Rattle.clone_recover.proofs.TableLemmas.{no_buckets, buckets_more, buckets_same, buckets_all}
use Rattle.clone_recover.proofs.chains.buckets_of.Goals as goal
use Rattle.clone_recover.proofs.chains.buckets_of.Goals.{then-entry-table, else-entry-table}

pub loop-entry_number-init : goal.loop-entry_number-init
loop-entry_number-init c = no_buckets c.args.system.now c.args.table

pub loop-entry_number-preserved : goal.loop-entry_number-preserved
loop-entry_number-preserved c = elim c.if-entry-table.branch [
  | then-entry-table w ↦
      buckets_more c.args.system.now c.args.table c.loop-entry_number.entry_number c.loop-entry_number.buckets c.entry_at-entry.result c.entry_at-entry.ensures c.loop-entry_number.invariant c.if-entry-table.buckets c.requires w.if-entry-table.true (w.buckets-is ∙ w.max-buckets.ensures)
  | else-entry-table w ↦
      buckets_same c.args.system.now c.args.table c.loop-entry_number.entry_number c.loop-entry_number.buckets c.entry_at-entry.result c.entry_at-entry.ensures c.loop-entry_number.invariant c.if-entry-table.buckets w.if-entry-table.false w.buckets-is
]

pub returns : goal.returns
returns c =
    let all : c.loop-entry_number.entry_number ≡ entry_count = omega arith in
    buckets_all c.args.system.now c.args.table c.loop-entry_number.entry_number c.loop-entry_number.buckets all c.loop-entry_number.invariant
