-- STEPS THAT FIND NOTHING TO DO, one after the other, and a round of such steps.
use Rattle.std.proofs.Common.{ℕ, ◌≡◌, ◌∙◌, ◌≤◌, ◌<◌, ◌+◌, ◌||◌, not, Bool, true, false, Option, Some, None, refl, sym, subst, arith, inl, inr}
use Rattle.std.proofs.lemmas.Bool.{cases_lt}
use Rattle.clone_core.specs.declared.rounds.Came.{Came}
use Rattle.clone_core.specs.declared.rounds.Came.TheVariants as came
use Rattle.clone_core.specs.declared.rounds.Round.{Round}
use Rattle.clone_core.specs.declared.rounds.Round.TheVariants as rounds
use Rattle.clone_core.specs.CloneEvents.{CameTo, ComesBy, NeverSticks}
use Rattle.clone_core.specs.Idling.{EndIdles, EndsIdle, RoundIdles, TaskIdles, TasksIdle}
use Rattle.clone_core.specs.Lines.{State}
use Rattle.clone_events.specs.World.{IsHonest}
use Rattle.clone_core.specs.Ending.{is_copying}
use Rattle.clone_core.specs.Quiet.{AreClosed, EndRests, IsBefore, NobodyMoves, TaskRests, tasks_of}
use Rattle.clone_core.proofs.RestingLemmas.{closed_end, nobody_moves}

-- a number is before the next one, or it is this one
split : (P : ℕ → Type 0) (k n : ℕ) → k < n + 1 → (k < n → P k) → P n → P k
split P k n below before here =
    elim (cases_lt k n) [
      | inl low ↦ before low
      | inr high ↦ let same : n ≡ k = omega (arith, below, high) in subst P same here
    ]

-- ---- the tasks

pub tasks_first : (s : State) → TasksIdle true 0 s s
tasks_first s = (refl, λ task below. absurd (omega (arith, below)))

pub tasks_next : (moved quiet : Bool) (task : ℕ) (s u t : State) → TasksIdle (not moved) task s u → TaskIdles quiet task u t → TasksIdle (not (moved || not quiet)) (task + 1) s t
tasks_next true true task s u t before now = tt
tasks_next true false task s u t before now = tt
tasks_next false false task s u t before now = tt
tasks_next false true task s u t before now = (
  now.0 ∙ before.0,
  λ k below. split (λ (j : ℕ). TaskRests j s.donor s.donor.course) k task below (before.1 k)
      (subst (λ (x : State). TaskRests task x.donor x.donor.course) before.0 now.1),
)

-- fewer of them
pub tasks_fewer : (idle : Bool) (count all : ℕ) (s t : State) → count ≤ all → TasksIdle idle all s t → TasksIdle idle count s t
tasks_fewer true count all s t within are = (are.0, λ task below. are.1 task (omega (arith, below, within)))
tasks_fewer false count all s t within are = tt

-- ---- the donor's ends

pub ends_first : (s : State) (next : Option ℕ) → AreClosed 0 next s.donor.course → EndsIdle true next s s
ends_first s next closed = (refl, λ number before. closed_end s.donor s.donor.course 0 next closed number (omega arith) before)

pub ends_next : (moved idle : Bool) (connection : ℕ) (next : Option ℕ) (s u t : State) → EndsIdle (not moved) (Some connection) s u → EndIdles idle connection u t → AreClosed (connection + 1) next t.donor.course → EndsIdle (not (moved || not idle)) next s t
ends_next true true connection next s u t before now closed = tt
ends_next true false connection next s u t before now closed = tt
ends_next false false connection next s u t before now closed = tt
ends_next false true connection next s u t before now closed = (now.0 ∙ before.0, rests)
  where
    here : EndRests connection s.donor s.donor.course
    here = subst (λ (x : State). EndRests connection x.donor x.donor.course) before.0 now.1

    behind : (number : ℕ) → connection + 1 ≤ number → IsBefore next number → EndRests number s.donor s.donor.course
    behind number low is = subst (λ (x : State). EndRests number x.donor x.donor.course) (now.0 ∙ before.0) (closed_end t.donor t.donor.course (connection + 1) next closed number low is)

    rests : (number : ℕ) → IsBefore next number → EndRests number s.donor s.donor.course
    rests number is =
        elim (cases_lt number (connection + 1)) [
          | inl low ↦ split (λ (k : ℕ). EndRests k s.donor s.donor.course) number connection low (before.1 number) here
          | inr high ↦ behind number high is
        ]

-- ---- A ROUND

pub round_idles : (by_tasks by_donor : Bool) (s u t : State) → by_tasks ≡ false → by_donor ≡ false → TasksIdle (not by_tasks) (tasks_of s.donor.course) s u → EndsIdle (not by_donor) None u t → RoundIdles rounds.Idle s t
round_idles false false s u t is also tasks ends = (
  ends.0 ∙ tasks.0,
  nobody_moves s.donor s.donor.course tasks.1 (λ number. subst (λ (x : State). EndRests number x.donor x.donor.course) tasks.0 (ends.1 number tt)),
)
round_idles true by_donor s u t is also tasks ends = absurd (let e : true ≡ false = is in cc)
round_idles false true s u t is also tasks ends = absurd (let e : true ≡ false = also in cc)

nobody_after : (r : Round) (s t : State) → r ≡ rounds.Idle → RoundIdles r s t → NobodyMoves t.donor t.donor.course
nobody_after r s t is idles =
    let all : RoundIdles rounds.Idle s t = subst (λ (x : Round). RoundIdles x s t) is idles in
    subst (λ (x : State). NobodyMoves x.donor x.donor.course) (sym all.0) all.1

never_then : (t : State) → NeverSticks t → is_copying t.clone.progress ≡ true → NobodyMoves t.donor t.donor.course → t.tells ≡ true → IsHonest t.clone → ⊥
never_then t moves going quiet told honest = moves told honest going quiet

-- where rounds come to their end by this one
pub comes_so : (r : Round) (stops : Bool) (how : Came) (s t : State) → RoundIdles r s t → ComesBy r stops how t → NeverSticks t → CameTo stops how t
comes_so r stops came.Still s t idles comes moves = comes
comes_so r stops (came.Ready stage) s t idles comes moves = comes
comes_so r stops came.Stuck s t idles comes moves = (comes.0, nobody_after r s t comes.2 idles, never_then t moves comes.0 (nobody_after r s t comes.2 idles))
