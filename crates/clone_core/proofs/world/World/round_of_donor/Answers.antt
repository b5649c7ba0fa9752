use Rattle.std.proofs.Common.{◌<◌, Bool, Option, ℕ, subst, sym}
use Rattle.clone_core.specs.Idling.{EndIdles}
use Rattle.clone_core.specs.Left.{DonorLeaves}
use Rattle.clone_core.proofs.RoundLemmas.{DonorDone, donor_begins, donor_made, fewer_numbers, numbers_left, serve_done, serve_untold}
use Rattle.clone_core.proofs.UntoldLemmas.{on_err}
use Rattle.clone_core.proofs.world.World.round_of_donor.Goals as goal

pub loop-next-init : goal.loop-next-init
loop-next-init g c = donor_begins c.args.self.now c.next_open-next.result c.next_open-next.ensures.range c.next_open-next.ensures.between

pub returns-in_err-step-clause-err : goal.returns-in_err-step-clause-err
returns-in_err-step-clause-err g c =
    let s = c.args.self.now in
    let done = subst (λ (o : Option ℕ). DonorDone s o c.loop-next.has_moved c.loop-next.self) c.in-Some.is c.loop-next.invariant in
    on_err c.from_residual.result _ (serve_untold s c.loop-next.self c.serve.new.self c.in-Some.connection c.loop-next.has_moved done c.in_err-step.ensures.err)

pub loop-next-smaller : goal.loop-next-smaller
loop-next-smaller g c =
    let done = subst (λ (o : Option ℕ). DonorDone c.args.self.now o c.loop-next.has_moved c.loop-next.self) c.in-Some.is c.loop-next.invariant in
    subst (λ (o : Option ℕ). numbers_left c.next_after-next.result < numbers_left o) (sym c.in-Some.is)
    (fewer_numbers c.in-Some.connection c.next_after-next.result done.range c.next_after-next.ensures.behind)

pub loop-next-preserved : goal.loop-next-preserved
loop-next-preserved g c =
    let u = c.loop-next.self in
    let t = c.serve.new.self in
    let done = subst (λ (o : Option ℕ). DonorDone c.args.self.now o c.loop-next.has_moved u) c.in-Some.is c.loop-next.invariant in
    serve_done c.args.self.now u t c.in-Some.connection c.next_after-next.result _ c.loop-next.has_moved c.is_idle.result done c.next_after-next.ensures.behind c.next_after-next.ensures.range c.in_ok-step.ensures.acts
    (subst (λ (idle : Bool). DonorLeaves idle u t) (sym c.is_idle.ensures) c.in_ok-step.ensures.left)
    (subst (λ (idle : Bool). EndIdles idle c.in-Some.connection u t) (sym c.is_idle.ensures) c.in_ok-step.ensures.idles)
    c.next_after-next.ensures.between

pub returns-clause-made : goal.returns-clause-made
returns-clause-made g c = donor_made c.args.self.now c.loop-next.self c.loop-next.next c.loop-next.has_moved c.loop-next.invariant

pub returns-clause-left : goal.returns-clause-left
returns-clause-left g c = c.loop-next.invariant.left
