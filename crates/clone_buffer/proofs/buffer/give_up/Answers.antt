use Rattle.std.proofs.Common.{◌≡◌, ap, subst, sym, refl, ◌∙◌, Some, None}
use Rattle.clone_buffer.proofs.Common.{Frames, PageName, IsPool, frame_at, name_of, claim_of, claimant, with_frame}
use Rattle.clone_pool.specs.Frames.{discarded}
use Rattle.clone_buffer.proofs.GivenLemmas.{claimed_free, left_at, given_nothing, given_none, given_one}
use Rattle.clone_buffer.proofs.buffer.give_up.Goals as goal
use Rattle.clone_buffer.proofs.buffer.give_up.Goals.{in-Some, in_default}

pub loop-number-init : goal.loop-number-init
loop-number-init c = sym (given_nothing c.args.space c.args.pool.now)

pub discard-requires-clause-free : goal.discard-requires-clause-free
discard-requires-clause-free c =
    let page : PageName = record { space = c.args.space; number = c.loop-number.number } in
    let at = c.in-Some.at in
    let claim = c.in-Some.ensures.claims.claim in
    claimed_free c.loop-number.pool c.laws.ensures page at claim
    (λ name. let same = left_at c.args.space c.loop-number.number c.args.pool.now at page (subst (λ (w : Frames). claim_of (frame_at w.frames at) ≡ Some page) c.loop-number.invariant claim) in
    ap (λ (w : Frames). (frame_at w.frames at).pins) c.loop-number.invariant ∙ ap (λ f. f.pins) same ∙ c.requires at page (sym (ap name_of (ap (λ (w : Frames). frame_at w.frames at) c.loop-number.invariant ∙ same)) ∙ name) refl)

pub loop-number-preserved : goal.loop-number-preserved
loop-number-preserved c =
    let page : PageName = record { space = c.args.space; number = c.loop-number.number } in
    let before = c.args.pool.now in
    let pool = subst IsPool c.loop-number.invariant c.laws.ensures in
    elim c.match-claimant.branch [
      | in-Some w ↦
          let held = subst (λ (x : Frames). claimant x.frames page ≡ Some w.in-Some.at) c.loop-number.invariant w.in-Some.ensures.claims.claimant in
          w.pool-is ∙ w.discard.ensures ∙ ap (with_frame w.in-Some.at discarded) c.loop-number.invariant ∙ sym (given_one c.args.space c.loop-number.number before pool w.in-Some.at held)
      | in_default w ↦
          let none = subst (λ (x : Frames). claimant x.frames page ≡ None) c.loop-number.invariant (sym c.claimant.ensures.claimant ∙ w.in_default.is) in
          w.pool-is ∙ c.loop-number.invariant ∙ sym (given_none c.args.space c.loop-number.number before pool none)
    ]
