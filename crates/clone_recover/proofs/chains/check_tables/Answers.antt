use Rattle.std.proofs.Common.{◌<◌, ◌-◌, ◌^◌, arith, subst}
use Rattle.std.proofs.lemmas.Result.{err_from_is_err_and}
use Rattle.clone_outside.proofs.DiskCallLemmas.{reads_none, reads_then}
use Rattle.clone_recover.specs.Walks.{IsNextTable}
use Rattle.clone_recover.proofs.TableLemmas.{told_none, told_more, told_fails, told_all}
use Rattle.clone_recover.proofs.chains.check_tables.Goals as goal

pub loop-table-init : goal.loop-table-init
loop-table-init g c = record { whole = told_none (g.R.PageDisk.state c.args.disk.now).told c.args.overlay.now c.args.system.now; reads = reads_none }

pub loop-table-preserved : goal.loop-table-preserved
loop-table-preserved g c =
    let next = subst (IsNextTable c.args.system.now c.loop-table.above) c.in-Some.is c.next_table.ensures in
    record {
      whole =
          told_more (g.R.PageDisk.state c.args.disk.now).told (g.R.PageDisk.state c.loop-table.disk).told c.args.overlay.now c.args.system.now c.loop-table.above c.in-Some.table c.buckets_of.result c.loop-table.invariant.reads.told next c.buckets_of.ensures
          c.in_ok-check_table.ensures.sound c.loop-table.invariant.whole;
      reads = reads_then c.loop-table.invariant.reads c.in_ok-check_table.ensures.reads;
    }

pub loop-table-smaller : goal.loop-table-smaller
loop-table-smaller g c =
    let less : 2 ^ 32 - c.in-Some.table < 2 ^ 32 - c.loop-table.above = omega (arith, c.in-Some.ensures.0) in
    less

pub buckets_of-requires : goal.buckets_of-requires
buckets_of-requires g c = omega (arith, c.in-Some.ensures.0)

pub returns-in_err-check_table-clause-cause : goal.returns-in_err-check_table-clause-cause
returns-in_err-check_table-clause-cause g c =
    let next = subst (IsNextTable c.args.system.now c.loop-table.above) c.in-Some.is c.next_table.ensures in
    let p = err_from_is_err_and c.from_residual.result c.from_residual.ensures.1 in
    rw (p.1, p.2)
    (told_fails (g.R.PageDisk.state c.args.disk.now).told (g.R.PageDisk.state c.loop-table.disk).told c.args.overlay.now c.args.system.now c.loop-table.above c.in-Some.table c.buckets_of.result c.in_err-check_table.field-0.0 c.loop-table.invariant.reads.told next
    c.buckets_of.ensures c.loop-table.invariant.whole c.in_err-check_table.ensures.cause)

pub returns-clause-sound : goal.returns-clause-sound
returns-clause-sound g c =
    told_all (g.R.PageDisk.state c.args.disk.now).told c.args.overlay.now c.args.system.now c.loop-table.above (subst (IsNextTable c.args.system.now c.loop-table.above) c.in_default.is c.next_table.ensures) c.loop-table.invariant.whole
