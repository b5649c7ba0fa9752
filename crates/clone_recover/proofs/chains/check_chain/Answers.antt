use Rattle.std.proofs.Common.{◌≡◌, ◌∙◌, ◌+◌, set, sym, true, false, arith}
use Rattle.std.proofs.lemmas.Result.{err_from_is_err_and}
use Rattle.clone_outside.proofs.DiskCallLemmas.{reads_none, reads_then}
use Rattle.clone_recover.proofs.WalkLemmas.{fewer_unstamped, target_there, walks_begin, walks_go_on, walks_astray, walks_end, walks_join, then_stamped, then_whole, breaks, breaks_nowhere, breaks_header}
use Rattle.clone_recover.proofs.chains.check_chain.Goals as goal

pub loop-stamps-init : goal.loop-stamps-init
loop-stamps-init g c = record {
  walks = walks_begin (g.R.PageDisk.state c.args.disk.now).told c.args.overlay.now c.args.table c.args.bucket c.args.stamps.now c.if-bucket-stamps.false;
  within = c.if-bucket-stamps.false;
  reads = reads_none;
}

pub loop-stamps-preserved : goal.loop-stamps-preserved
loop-stamps-preserved g c =
    record {
      walks =
          walks_go_on (g.R.PageDisk.state c.args.disk.now).told (g.R.PageDisk.state c.loop-stamps.disk).told c.args.overlay.now c.args.table c.args.bucket c.loop-stamps.page c.args.stamps.now c.loop-stamps.stamps c.in_ok-next.field-0 c.loop-stamps.invariant.reads.told
          c.loop-stamps-test.true c.in_ok-next.ensures.behind c.loop-stamps.invariant.walks c.in-Some.next c.in-Some.is (λ wrong. let e : true ≡ false = sym (c.is_wrong.ensures.1 wrong) ∙ c.if-is_wrong.false in cc);
      within = target_there (set c.loop-stamps.stamps c.loop-stamps.page (c.args.bucket + 1)) c.in-Some.next (c.args.bucket + 1) (λ wrong. let e : true ≡ false = sym (c.is_wrong.ensures.1 wrong) ∙ c.if-is_wrong.false in cc);
      reads = reads_then c.loop-stamps.invariant.reads c.in_ok-next.ensures.reads;
    }

pub loop-stamps-smaller : goal.loop-stamps-smaller
loop-stamps-smaller g c =
    fewer_unstamped c.loop-stamps.stamps c.loop-stamps.page (c.args.bucket + 1) (λ none. omega (arith, none)) c.loop-stamps.invariant.within c.loop-stamps-test.true

pub returns-then-bucket-stamps-clause-cause : goal.returns-then-bucket-stamps-clause-cause
returns-then-bucket-stamps-clause-cause g c =
    breaks_nowhere (g.R.PageDisk.state c.args.disk.now).told c.args.overlay.now c.args.table c.args.bucket c.args.stamps.now c.damaged_chain.result c.damaged_chain.ensures c.if-bucket-stamps.true

pub returns-in_default-clause-stamped : goal.returns-in_default-clause-stamped
returns-in_default-clause-stamped g c =
    let told = (g.R.PageDisk.state c.args.disk.now).told in
    then_stamped told c.args.overlay.now c.args.table c.args.bucket c.args.stamps.now _
    (walks_end told (g.R.PageDisk.state c.loop-stamps.disk).told c.args.overlay.now c.args.table c.args.bucket c.loop-stamps.page c.args.stamps.now c.loop-stamps.stamps c.in_ok-next.field-0 c.loop-stamps.invariant.reads.told c.loop-stamps-test.true c.in_ok-next.ensures.behind c.loop-stamps.invariant.walks c.in_default.is)

pub returns-in_default-clause-whole : goal.returns-in_default-clause-whole
returns-in_default-clause-whole g c =
    let told = (g.R.PageDisk.state c.args.disk.now).told in
    then_whole told c.args.overlay.now c.args.table c.args.bucket c.args.stamps.now _
    (walks_end told (g.R.PageDisk.state c.loop-stamps.disk).told c.args.overlay.now c.args.table c.args.bucket c.loop-stamps.page c.args.stamps.now c.loop-stamps.stamps c.in_ok-next.field-0 c.loop-stamps.invariant.reads.told c.loop-stamps-test.true c.in_ok-next.ensures.behind c.loop-stamps.invariant.walks c.in_default.is)

pub returns-then-is_wrong-clause-cause : goal.returns-then-is_wrong-clause-cause
returns-then-is_wrong-clause-cause g c =
    let told = (g.R.PageDisk.state c.args.disk.now).told in
    breaks told c.args.overlay.now c.args.table c.args.bucket c.loop-stamps.page c.args.stamps.now c.damaged_chain-then-is_wrong.result c.damaged_chain-then-is_wrong.ensures
    (walks_astray told (g.R.PageDisk.state c.loop-stamps.disk).told c.args.overlay.now c.args.table c.args.bucket c.loop-stamps.page c.args.stamps.now c.loop-stamps.stamps c.in_ok-next.field-0 c.loop-stamps.invariant.reads.told c.loop-stamps-test.true c.in_ok-next.ensures.behind c.loop-stamps.invariant.walks c.in-Some.next c.in-Some.is (c.is_wrong.ensures.0 c.if-is_wrong.true))

pub returns-in_err-next-clause-cause : goal.returns-in_err-next-clause-cause
returns-in_err-next-clause-cause g c =
    let p = err_from_is_err_and c.from_residual.result c.from_residual.ensures.1 in
    rw (p.1, p.2) (breaks_header (g.R.PageDisk.state c.args.disk.now).told (g.R.PageDisk.state c.loop-stamps.disk).told c.args.overlay.now c.args.table c.args.bucket c.args.stamps.now c.in_err-next.field-0.0 c.loop-stamps.invariant.reads.told c.in_err-next.ensures.cause)

pub returns-clause-stamped : goal.returns-clause-stamped
returns-clause-stamped g c =
    let told = (g.R.PageDisk.state c.args.disk.now).told in
    then_stamped told c.args.overlay.now c.args.table c.args.bucket c.args.stamps.now c.loop-stamps.stamps (walks_join told c.args.overlay.now c.args.table c.args.bucket c.loop-stamps.page c.args.stamps.now c.loop-stamps.stamps c.loop-stamps-test.false c.loop-stamps.invariant.walks)

pub returns-clause-whole : goal.returns-clause-whole
returns-clause-whole g c =
    let told = (g.R.PageDisk.state c.args.disk.now).told in
    then_whole told c.args.overlay.now c.args.table c.args.bucket c.args.stamps.now c.loop-stamps.stamps (walks_join told c.args.overlay.now c.args.table c.args.bucket c.loop-stamps.page c.args.stamps.now c.loop-stamps.stamps c.loop-stamps-test.false c.loop-stamps.invariant.walks)
