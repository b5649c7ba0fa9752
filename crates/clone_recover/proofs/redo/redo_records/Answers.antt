use Rattle.std.proofs.Common.{subst}
use Rattle.std.proofs.lemmas.Result.{err_from_is_err_and}
use Rattle.clone_mtr.specs.Answers.{IsNext}
use Rattle.clone_mtr.specs.References.{record_of}
use Rattle.clone_outside.proofs.DiskCallLemmas.{reads_none, reads_then}
use Rattle.clone_recover.proofs.MiniTransactionLemmas.{begins, goes_on, ends, half_header}
use Rattle.clone_recover.proofs.redo.redo_records.Goals as goal

pub loop-entry-init : goal.loop-entry-init
loop-entry-init g c = record {
  half = begins (g.R.PageDisk.state c.args.disk.now).told c.args.lsn c.args.overlay.now c.args.meetings.now.items c.args.records c.requires;
  reads = reads_none;
}

pub loop-entry-preserved : goal.loop-entry-preserved
loop-entry-preserved g c = record {
  half = goes_on (g.R.PageDisk.state c.args.disk.now).told (g.R.PageDisk.state c.loop-entry.disk).told c.args.lsn c.args.overlay.now c.loop-entry.overlay c.redo_record.new.overlay c.loop-entry.meetings.items c.redo_record.new.meetings.items (record_of c.in-Some.entry)
      c.loop-entry.records c.next.new.self c.args.records c.loop-entry.invariant.reads.told c.in-Some.ensures c.loop-entry.invariant.half c.in_ok-redo_record.ensures.ok;
  reads = reads_then c.loop-entry.invariant.reads c.in_ok-redo_record.ensures.reads;
}

pub returns-clause-ok : goal.returns-clause-ok
returns-clause-ok g c =
    let none = subst (IsNext c.loop-entry.records c.next.new.self) c.in_default.is c.next.ensures in
    ends (g.R.PageDisk.state c.args.disk.now).told c.args.lsn c.args.overlay.now c.loop-entry.overlay c.loop-entry.meetings.items c.loop-entry.records c.args.records none.0 c.loop-entry.invariant.half

pub returns-in_err-redo_record-clause-cause : goal.returns-in_err-redo_record-clause-cause
returns-in_err-redo_record-clause-cause g c =
    let p = err_from_is_err_and c.from_residual.result c.from_residual.ensures.1 in
    rw (p.1, p.2)
    (half_header (g.R.PageDisk.state c.args.disk.now).told (g.R.PageDisk.state c.loop-entry.disk).told c.args.lsn c.args.overlay.now c.loop-entry.overlay c.loop-entry.meetings.items c.loop-entry.records c.args.records
    c.in_err-redo_record.field-0.0 c.loop-entry.invariant.reads.told c.loop-entry.invariant.half c.in_err-redo_record.ensures.cause)
