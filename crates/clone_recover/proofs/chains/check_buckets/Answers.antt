use Rattle.std.proofs.Common.{◌≡◌, ◌+◌, suc, arith}
use Rattle.std.proofs.lemmas.Result.{err_from_is_err_and}
use Rattle.clone_outside.proofs.DiskCallLemmas.{reads_none, reads_then}
use Rattle.clone_recover.proofs.TableLemmas.{tested_none, tested_more, tested_fails, tested_all}
use Rattle.clone_recover.proofs.chains.check_buckets.Goals as goal

pub loop-bucket-init : goal.loop-bucket-init
loop-bucket-init g c = record { tested = tested_none (g.R.PageDisk.state c.args.disk.now).told c.args.overlay.now c.args.table c.args.stamps.now; reads = reads_none }

pub loop-bucket-preserved : goal.loop-bucket-preserved
loop-bucket-preserved g c =
    let next : c.loop-bucket.bucket + 1 ≡ suc c.loop-bucket.bucket = omega arith in
    record {
      tested =
          tested_more (g.R.PageDisk.state c.args.disk.now).told (g.R.PageDisk.state c.loop-bucket.disk).told c.args.overlay.now c.args.table c.loop-bucket.bucket (c.loop-bucket.bucket + 1) c.args.stamps.now c.loop-bucket.stamps c.check_chain.new.stamps c.loop-bucket.invariant.reads.told next
          c.in_ok-check_chain.ensures.stamped c.in_ok-check_chain.ensures.whole c.loop-bucket.invariant.tested;
      reads = reads_then c.loop-bucket.invariant.reads c.in_ok-check_chain.ensures.reads;
    }

pub returns-in_err-check_chain-clause-cause : goal.returns-in_err-check_chain-clause-cause
returns-in_err-check_chain-clause-cause g c =
    let p = err_from_is_err_and c.from_residual.result c.from_residual.ensures.1 in
    rw (p.1, p.2)
    (tested_fails (g.R.PageDisk.state c.args.disk.now).told (g.R.PageDisk.state c.loop-bucket.disk).told c.args.overlay.now c.args.table c.args.buckets c.loop-bucket.bucket c.args.stamps.now c.loop-bucket.stamps c.in_err-check_chain.field-0.0 c.loop-bucket.invariant.reads.told
    c.loop-bucket-test.true c.loop-bucket.invariant.tested c.in_err-check_chain.ensures.cause)

pub returns-clause-sound : goal.returns-clause-sound
returns-clause-sound g c =
    let all : c.loop-bucket.bucket ≡ c.args.buckets = omega arith in
    tested_all (g.R.PageDisk.state c.args.disk.now).told c.args.overlay.now c.args.table c.args.buckets c.loop-bucket.bucket c.args.stamps.now c.loop-bucket.stamps all c.loop-bucket.invariant.tested
