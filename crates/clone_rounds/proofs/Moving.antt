-- The rule holds before the first step, and each step keeps it.
use Rattle.std.proofs.Common.{◌≡◌, ◌<◌, ℕ, suc, refl, sym, ap, subst, ◌∙◌, arith, inl, inr}
use Rattle.clone_rounds.specs.World.{World}
use Rattle.clone_rounds.specs.Awaiting.{SeatRule, Rule}
use Rattle.clone_rounds.specs.Steps.{TaskStep, connects, executes, acknowledges, joins, opens, advances, attaches, takes_block, ends, loses, DonorStep, meets_here, meets_next, welcomes, starts, agrees, repeats, claims, reads, finishes, fails, finds_loss, refuses, changes, moves, Cut, cuts, Move, IsStart}
use Rattle.clone_rounds.proofs.TaskSteps.{fresh_rule, keep_connects, keep_executes, keep_attaches, keep_ends}
use Rattle.clone_rounds.proofs.Advances.{keep_acknowledges, keep_joins, keep_opens, keep_advances, keep_taking, keep_losing}
use Rattle.clone_rounds.proofs.Meets.{keep_welcomes, keep_repeats, keep_meets_here, keep_meets_next, keep_agreeing}
use Rattle.clone_rounds.proofs.Serving.{keep_starts, keep_finishes, keep_fails, keep_finds_loss}
use Rattle.clone_rounds.proofs.Claiming.{keep_claims, keep_reads}
use Rattle.clone_rounds.proofs.Late.{keep_late}
use Rattle.clone_rounds.proofs.Cutting.{keep_cuts}

kept_by_task : (w u : World) → Rule w → TaskStep w u → Rule u
kept_by_task w u r (connects k c) = keep_connects w k r c
kept_by_task w u r (executes k c) = keep_executes w k r c
kept_by_task w u r (acknowledges c) = keep_acknowledges w r c
kept_by_task w u r (joins stage more c begun fits) = keep_joins w stage more r c begun
kept_by_task w u r (opens more c begun) = keep_opens w more r c begun
kept_by_task w u r (advances more c small) = keep_advances w more r c
kept_by_task w u r (attaches k stage more other c) = keep_attaches w k stage more r other c
kept_by_task w u r (takes_block k b more c small left) = keep_taking w k b more r c
kept_by_task w u r (ends k more c) = keep_ends w k more r c
kept_by_task w u r (loses k c outlasts taken late f) = keep_losing w k taken late r c f

kept_by_donor : (w u : World) → Rule w → DonorStep w u → Rule u
kept_by_donor w u r (meets_here c apart level session) = keep_meets_here w r c apart level session
kept_by_donor w u r (meets_next c apart h) = keep_meets_next w r c apart h
kept_by_donor w u r (welcomes k other c met) = keep_welcomes w k r other c met
kept_by_donor w u r (starts k c) = keep_starts w k r c
kept_by_donor w u r (agrees c none) = keep_agreeing w r c
kept_by_donor w u r (repeats stage c same) = keep_repeats w stage r c same
kept_by_donor w u r (claims k b bs c free) = keep_claims w k b bs r c free
kept_by_donor w u r (reads k b rest c small mine) = keep_reads w k b rest r c mine
kept_by_donor w u r (finishes k c none) = keep_finishes w k r c none
kept_by_donor w u r (fails k c) = keep_fails w k r c
kept_by_donor w u r (finds_loss k c) = keep_finds_loss w k r c
kept_by_donor w u r (refuses late less) = record { sides = r.sides; seats = r.seats }
kept_by_donor w u r (changes late owner less apart) = keep_late w w.sides.at owner late r apart r.sides.at
kept_by_donor w u r (moves late owner less apart a level) = keep_late w (suc w.sides.stage) owner late r apart (inr (refl, a))

kept_by_cut : (w u : World) → Rule w → Cut w u → Rule u
kept_by_cut w u r (cuts k commands answers gone lost c e f) = keep_cuts w k commands answers gone lost r c e f

pub kept : (w u : World) → Rule w → Move w u → Rule u
kept w u r (inl step) = kept_by_task w u r step
kept w u r (inr (inl step)) = kept_by_donor w u r step
kept w u r (inr (inr step)) = kept_by_cut w u r step

pub starts_well : (w : World) → IsStart w → Rule w
starts_well w s = record {
  sides = record {
    tasks = s.tasks;
    stage = omega (arith, s.stage);
    acknowledged = λ a b small. absurd (none b small (ap w.sides.size s.stage ∙ s.empty));
    opening = λ e. s.acknowledged;
    at = inl (s.at ∙ sym s.stage);
    apart = λ h. (s.joined, omega (arith, s.stage));
    session = λ h. cc (s.met, h);
    joined = λ h. cc (s.joined, h);
    blocks = λ l. cc (s.met, l.0);
    next = λ h. cc (s.met, h);
  };
  seats = λ k. subst (SeatRule w.sides k) (sym (s.seats k)) (fresh_rule w.sides k (λ zero_is. s.met) (λ l. cc (s.met, l.0)));
}
  where
    none : (b : ℕ) → b < w.sides.size w.sides.stage → w.sides.size w.sides.stage ≡ 0 → ⊥
    none b small e = omega arith
