use Rattle.std.proofs.Common.{◌≡◌, ◌+◌, ◌-◌, ◌<◌, ℕ, ◌∙◌, arith}
use Rattle.std.proofs.lemmas.Result.{err_from_is_err_and}
use Rattle.clone_outside.proofs.DiskCallLemmas.{reads_then, weaker}
use Rattle.clone_recover.specs.Damage.{HeaderOn}
use Rattle.clone_recover.specs.Reading.{read_of, total_of, KeepsOn}
use Rattle.clone_recover.specs.Redo.{RedoesOn}
use Rattle.clone_recover.proofs.RedoFrontLemmas.{ahead_some}
use Rattle.clone_recover.proofs.RedoLemmas.{progress_begins, progress_kept, progress_goes_on, progress_ends, misplaced, retold}
use Rattle.clone_recover.proofs.redo.redo.Goals as goal

pub loop-meetings-init : goal.loop-meetings-init
loop-meetings-init g c = record {
  progress = progress_begins (g.R.PageDisk.state c.args.disk.now).told c.args.end.now c.args.overlay.now c.in_ok-log.log c.in_ok-log.ensures.reads;
  total = c.in_ok-log.ensures.total;
  reads = weaker c.in_ok-log.ensures.asks (λ none. absurd none);
}

pub loop-meetings-smaller : goal.loop-meetings-smaller
loop-meetings-smaller g c =
    let some = ahead_some c.goes_on.new.self c.in_ok-mtr.length c.in_ok-mtr.mtr c.in_ok-mtr.ensures.next in
    let less : total_of c.pass.new.self - read_of c.pass.new.self < total_of c.loop-meetings.log - read_of c.loop-meetings.log =
    omega (arith, some, c.in_ok-mtr.ensures.most, c.pass.ensures.at, c.pass.ensures.total, c.in_ok-goes_on.ensures.read, c.in_ok-goes_on.ensures.total) in
    less

pub loop-meetings-preserved : goal.loop-meetings-preserved
loop-meetings-preserved g c =
    let told = (g.R.PageDisk.state c.args.disk.now).told in
    let before = c.loop-meetings.log in
    let ready = c.goes_on.new.self in
    let mtr = c.in_ok-mtr.mtr in
    let lsn : ℕ = c.args.end.now.checkpoint + c.at.result + c.in_ok-mtr.length in
    let end : lsn ≡ c.args.end.now.checkpoint + read_of c.pass.new.self = omega (arith, c.at.ensures, c.pass.ensures.at) in
    record {
      progress = progress_goes_on told c.args.end.now c.args.overlay.now c.loop-meetings.overlay c.redo_records.new.overlay ready c.pass.new.self mtr lsn end (λ m done r. c.pass.ensures.read m done mtr r c.in_ok-mtr.ensures.next)
          (progress_kept told c.args.end.now c.args.overlay.now c.loop-meetings.overlay before ready c.loop-meetings.invariant.progress (retold _ told (λ t. KeepsOn t before ready) c.loop-meetings.invariant.reads.told c.in_ok-goes_on.ensures.keeps))
          (retold _ told (λ t. RedoesOn t lsn c.loop-meetings.overlay c.redo_records.new.overlay mtr) (c.in_ok-goes_on.ensures.reads.told ∙ c.loop-meetings.invariant.reads.told) c.in_ok-redo_records.ensures.ok);
      total = c.pass.ensures.total ∙ c.in_ok-goes_on.ensures.total ∙ c.loop-meetings.invariant.total;
      reads = reads_then (reads_then c.loop-meetings.invariant.reads c.in_ok-goes_on.ensures.reads) c.in_ok-redo_records.ensures.reads;
    }

pub returns-clause-ok : goal.returns-clause-ok
returns-clause-ok g c =
    let told = (g.R.PageDisk.state c.args.disk.now).told in
    let before = c.loop-meetings.log in
    let ready = c.goes_on.new.self in
    progress_ends told c.args.end.now c.args.overlay.now c.loop-meetings.overlay ready (c.in_ok-goes_on.ensures.end c.if-branch.false ∙ c.in_ok-goes_on.ensures.total ∙ c.loop-meetings.invariant.total)
    (progress_kept told c.args.end.now c.args.overlay.now c.loop-meetings.overlay before ready c.loop-meetings.invariant.progress (retold _ told (λ t. KeepsOn t before ready) c.loop-meetings.invariant.reads.told c.in_ok-goes_on.ensures.keeps))

pub returns-in_err-redo_records-clause-cause : goal.returns-in_err-redo_records-clause-cause
returns-in_err-redo_records-clause-cause g c =
    let told = (g.R.PageDisk.state c.args.disk.now).told in
    let read = c.in_ok-goes_on.ensures.reads.told ∙ c.loop-meetings.invariant.reads.told in
    let p = err_from_is_err_and c.from_residual-in_err-redo_records.result c.from_residual-in_err-redo_records.ensures.1 in
    rw (p.1, p.2) (misplaced told c.in_err-redo_records.field-0.0 c.args.end.now c.args.overlay.now c.loop-meetings.overlay c.loop-meetings.log c.loop-meetings.invariant.progress (retold _ told (λ t. HeaderOn t c.loop-meetings.overlay c.in_err-redo_records.field-0.0) read c.in_err-redo_records.ensures.cause))
