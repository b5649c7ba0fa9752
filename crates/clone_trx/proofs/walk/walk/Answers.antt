use Rattle.clone_trx.proofs.Common.{Result, Ok, Err, IsErrOf, subst, arith, Reads, reads_last, reads_none, reads_then, EngineRefusal, Because, DiskFault, Spot, Follows, WalksAll}
use Rattle.clone_trx.specs.declared.walk.Step.{Step}
use Rattle.clone_trx.proofs.WalkStepLemmas.{on_err, same_err}
use Rattle.clone_trx.proofs.walk.walk.Goals as goal

pub loop-spot-init : goal.loop-spot-init
loop-spot-init g c = record {
  may = record { pins = c.requires.loose; held = tt; chain = c.requires.chain };
  walked = λ last result walked. walked;
  reads = reads_none;
  stands = λ beside is. is;
}

pub visit-requires-clause-may : goal.visit-requires-clause-may
visit-requires-clause-may g c = c.loop-spot.invariant.may

pub returns-in_err-spot-clause-walked : goal.returns-in_err-spot-clause-walked
returns-in_err-spot-clause-walked g c =
    on_err (λ (r : Result Spot EngineRefusal). WalksAll c.args.course c.args.buffer.now c.visit.new.buffer r) c.from_residual.result c.in_err-spot.field-0.0 c.from_residual.ensures.1
    (c.loop-spot.invariant.walked c.visit.new.buffer (Err c.in_err-spot.field-0.0) c.in_err-spot.ensures.missed)

pub returns-in_err-spot-clause-reads : goal.returns-in_err-spot-clause-reads
returns-in_err-spot-clause-reads g c =
    on_err (λ (r : Result Spot EngineRefusal). Reads (IsErrOf r (Because DiskFault)) (g.D.PageDisk.state c.args.disk.now) (g.D.PageDisk.state c.visit.new.disk)) c.from_residual.result c.in_err-spot.field-0.0 c.from_residual.ensures.1
    (reads_last c.loop-spot.invariant.reads c.in_err-spot.ensures.reads same_err)

pub returns-in_err-spot-clause-stands : goal.returns-in_err-spot-clause-stands
returns-in_err-spot-clause-stands g c = λ beside is. c.in_err-spot.ensures.stands beside (c.loop-spot.invariant.stands beside is)

pub returns-in-Ends-clause-walked : goal.returns-in-Ends-clause-walked
returns-in-Ends-clause-walked g c =
    let l = c.loop-spot in
    let ended = subst (λ (s : Step). Follows c.args.course l.left l.page l.kept l.buffer c.visit.new.buffer s) c.in-Ends.is c.in_ok-spot.ensures.next in
    l.invariant.walked c.visit.new.buffer (Ok c.in-Ends.spot) ended.0

pub returns-in-Ends-clause-has : goal.returns-in-Ends-clause-has
returns-in-Ends-clause-has g c =
    let l = c.loop-spot in
    let ended = subst (λ (s : Step). Follows c.args.course l.left l.page l.kept l.buffer c.visit.new.buffer s) c.in-Ends.is c.in_ok-spot.ensures.next in
    ended.1

pub returns-in-Ends-clause-reads : goal.returns-in-Ends-clause-reads
returns-in-Ends-clause-reads g c = reads_last c.loop-spot.invariant.reads c.in_ok-spot.ensures.reads (λ e. absurd (let same = e in cc))

pub returns-in-Ends-clause-stands : goal.returns-in-Ends-clause-stands
returns-in-Ends-clause-stands g c = λ beside is. c.in_ok-spot.ensures.stands beside (c.loop-spot.invariant.stands beside is)

pub overflow_sub-left-in-GoesOn : goal.overflow_sub-left-in-GoesOn
overflow_sub-left-in-GoesOn g c =
    let l = c.loop-spot in
    let on = subst (λ (s : Step). Follows c.args.course l.left l.page l.kept l.buffer c.visit.new.buffer s) c.in-GoesOn.is c.in_ok-spot.ensures.next in
    omega (arith, on.0)

pub loop-spot-smaller : goal.loop-spot-smaller
loop-spot-smaller g c =
    let l = c.loop-spot in
    let on = subst (λ (s : Step). Follows c.args.course l.left l.page l.kept l.buffer c.visit.new.buffer s) c.in-GoesOn.is c.in_ok-spot.ensures.next in
    omega (arith, on.0)

pub loop-spot-preserved : goal.loop-spot-preserved
loop-spot-preserved g c =
    let l = c.loop-spot in
    let i = c.loop-spot.invariant in
    let e = c.in_ok-spot.ensures in
    let on = subst (λ (s : Step). Follows c.args.course l.left l.page l.kept l.buffer c.visit.new.buffer s) c.in-GoesOn.is e.next in
    record {
      may = on.1;
      walked = λ last result walked. i.walked last result (on.2 last result walked);
      reads = reads_then i.reads e.reads;
      stands = λ beside is. e.stands beside (i.stands beside is);
    }
