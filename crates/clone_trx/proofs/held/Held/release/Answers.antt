use Rattle.clone_trx.proofs.Common.{◌≡◌, ◌∷◌, ◌∙◌, ℕ, List, arith, ap, length, refl, subst, sym, ArePinned, released}
use Rattle.clone_trx.proofs.HoldingLemmas.{first_pinned, let_go_pinned, released_kept}
use Rattle.clone_trx.proofs.held.Held.release.Goals as goal
use Rattle.clone_trx.proofs.held.Held.release.Goals.{In-Some, In_default}

pub loop-at-init : goal.loop-at-init
loop-at-init c = record { pinned = c.requires; is = refl; stands = λ told beside is. is }

-- the last page is pinned
pinned : (c : In-Some) → ArePinned (c.in-Some.at ∷ c.pop.new.self) c.loop-at.buffer.pool.frames
pinned c = subst (λ (f : List ℕ). ArePinned f c.loop-at.buffer.pool.frames) c.in-Some.ensures c.loop-at.invariant.pinned

pub release-requires : goal.release-requires
release-requires c = first_pinned c.in-Some.at c.pop.new.self c.loop-at.buffer.pool.frames (pinned (goal.at.release-requires c).In-Some)

pub loop-at-smaller : goal.loop-at-smaller
loop-at-smaller c = omega (arith, ap length c.in-Some.ensures)

pub loop-at-preserved : goal.loop-at-preserved
loop-at-preserved c =
    let b = c.loop-at.buffer in
    record {
      pinned = let_go_pinned c.in-Some.at c.pop.new.self b c.release.new.buffer (pinned (goal.at.loop-at-preserved c).In-Some) c.release.ensures.is;
      is = ap (released c.pop.new.self) c.release.ensures.is ∙ ap (λ (f : List ℕ). released f b) (sym c.in-Some.ensures) ∙ c.loop-at.invariant.is;
      stands = λ told beside is. c.release.ensures.stands told beside (c.loop-at.invariant.stands told beside is);
    }

-- all are let go
all : (c : In_default) → c.loop-at.buffer ≡ released c.args.self.now c.args.buffer.now
all c = ap (λ (f : List ℕ). released f c.loop-at.buffer) (sym c.in_default.ensures.0) ∙ c.loop-at.invariant.is

pub returns-clause-is : goal.returns-clause-is
returns-clause-is c = all (goal.at.returns-clause-is c).In_default

pub returns-clause-keeps : goal.returns-clause-keeps
returns-clause-keeps c = λ d kept. record {
  loose = subst (λ (f : List ℕ). ArePinned f c.loop-at.buffer.pool.frames) c.in_default.ensures.0 c.loop-at.invariant.pinned;
  kept = released_kept d c.args.self.now c.args.buffer.now c.loop-at.buffer (all (goal.at.returns-clause-keeps c).In_default) kept;
}
