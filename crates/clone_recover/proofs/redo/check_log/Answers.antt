use Rattle.std.proofs.Common.{◌-◌, ◌<◌, ◌∙◌, arith}
use Rattle.clone_outside.proofs.DiskCallLemmas.{reads_then}
use Rattle.clone_recover.specs.Reading.{read_of, total_of, KeepsOn}
use Rattle.clone_recover.proofs.RedoFrontLemmas.{ahead_some}
use Rattle.clone_recover.proofs.RedoLemmas.{read_kept, read_goes_on, retold}
use Rattle.clone_recover.proofs.redo.check_log.Goals as goal

pub loop-log-smaller : goal.loop-log-smaller
loop-log-smaller g c =
    let some = ahead_some c.goes_on.new.self c.in_ok-length.length c.in_ok-length.field-0-0 c.in_ok-length.ensures.next in
    let less : total_of c.pass.new.self - read_of c.pass.new.self < total_of c.loop-log.log - read_of c.loop-log.log =
    omega (arith, some, c.in_ok-length.ensures.most, c.pass.ensures.at, c.pass.ensures.total, c.in_ok-goes_on.ensures.read, c.in_ok-goes_on.ensures.total) in
    less

pub loop-log-preserved : goal.loop-log-preserved
loop-log-preserved g c =
    let told = (g.R.PageDisk.state c.args.disk.now).told in
    let before = c.loop-log.log in
    let ready = c.goes_on.new.self in
    record {
      read = read_goes_on told ready c.pass.new.self c.in_ok-length.field-0-0 (λ m done r. c.pass.ensures.read m done c.in_ok-length.field-0-0 r c.in_ok-length.ensures.next)
          (read_kept told before ready c.loop-log.invariant.read (retold _ told (λ t. KeepsOn t before ready) c.loop-log.invariant.reads.told c.in_ok-goes_on.ensures.keeps));
      total = c.pass.ensures.total ∙ c.in_ok-goes_on.ensures.total ∙ c.loop-log.invariant.total;
      reads = reads_then c.loop-log.invariant.reads c.in_ok-goes_on.ensures.reads;
    }
