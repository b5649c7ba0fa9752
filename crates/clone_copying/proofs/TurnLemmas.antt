-- The turns of a task, one after the other.
use Rattle.std.proofs.Common.{ℕ, Bool, ◌≡◌, ◌∙◌, List, [], ◌++◌, Option, Result, refl, ap, sym, subst}
use Rattle.std.proofs.lemmas.List.{append-nil}
use Rattle.clone_outside.specs.declared.link.Link.{Ghosts as Link}
use Rattle.clone_turn.specs.Seats.{SeatModel}
use Rattle.clone_turn.specs.Worked.{Worked}
use Rattle.clone_turn.proofs.WorkedLemmas.{makes_none, worked_more}
use Rattle.std.specs.declared.alloc.AllocError.{AllocError}
use Rattle.clone_tasks.specs.declared.rule.Link.TheVariants.{Absent}
use Rattle.clone_fetching.specs.declared.clone_ended.CloneEnded.{CloneEnded}
use Rattle.clone_fetching.specs.declared.machine.RecipientAnswer.TheVariants as answer
use Rattle.clone_fetching.specs.declared.machine.RecipientCall.TheVariants as call
use Rattle.clone_fetching.specs.declared.recipient.TaskStep.{TaskStep}
use Rattle.clone_fetching.specs.declared.recipient.TaskStepped.{TaskStepped}
use Rattle.clone_copying.specs.Calling.{IsOne}
use Rattle.clone_copying.specs.Calls.{FetcherModel, IsStep, RecipientEntry, RecipientSeat, Works, put, taken}
use Rattle.clone_copying.specs.Fetching.{HasCause}
use Rattle.clone_copying.specs.Passing.{Acts, GoesOn, Passes, state_of}
use Rattle.clone_copying.specs.Turning.{Because, GoesOnOrHalts, IsAsked, IsTurn, Waits}
use Rattle.clone_copying.specs.Watching.{HasLooked, WasHalted}
use Rattle.clone_copying.specs.declared.fetch_end.FetchEnd.{FetchEnd}
use Rattle.clone_copying.specs.declared.fetch_end.FetchEnd.TheVariants as ending
use Rattle.clone_copying.specs.declared.talk.Talk.{Talk}
use Rattle.clone_copying.specs.declared.turn.Turn.{Turn}
use Rattle.clone_copying.specs.declared.turn.Turn.TheVariants as turn
use Rattle.clone_copying.proofs.ActLemmas.{acts_asked, acts_later, acts_more, acts_none, both_go, goes_asked, step_acts, step_goes}
use Rattle.clone_copying.proofs.CallLemmas.{cause_more, put_asked, put_more, waits_asked, waits_later, waits_more, waits_step}
use Rattle.clone_copying.proofs.CallingLemmas.{worked_map}

module _ {R : Type 0} where
  pub works_more : (P Q S : List (RecipientEntry R) → Type 0) (u v w : FetcherModel R) → Works P u v → Works Q v w → ((xs ys : List (RecipientEntry R)) → P xs → Q ys → S (xs ++ ys)) → Works S u w
  works_more P Q S u v w a b both = (b.0 ∙ a.0, worked_more P Q S u.seat v.seat w.seat a.1 b.1 both)

  pub works_as : (P Q : List (RecipientEntry R) → Type 0) (v w : FetcherModel R) → Works P v w → ((made : List (RecipientEntry R)) → P made → Q made) → Works Q v w
  works_as P Q v w a f = (a.0, (a.1.0, a.1.1, f a.1.0 a.1.2))

  pub works_none : (P : List (RecipientEntry R) → Type 0) (v w : FetcherModel R) → w.task ≡ v.task → w.seat ≡ v.seat → P [] → Works P v w
  works_none P v w task seat p = (task, subst (λ (s : RecipientSeat R). Worked P v.seat s) (sym seat) ([], makes_none v.seat, p))

  pub because_more : (H I : Type 0) → (H → I) → (result : Turn) (xs ys : List (RecipientEntry R)) → Because H result ys → Because I result (xs ++ ys)
  because_more H I h turn.GoesOn xs ys is = tt
  because_more H I h turn.Over xs ys is = tt
  because_more H I h (turn.Ended why) xs ys is = cause_more ⊥ ⊥ H I (λ never. never) h why xs ys is

  -- a look has no other cause than that the run was halted
  cause_halted : (F H : Type 0) (why : FetchEnd) (made : List (RecipientEntry R)) → why ≡ ending.Halted → H → HasCause F H why made
  cause_halted F H why made is halted = subst (λ (w : FetchEnd). HasCause F H w made) (sym is) halted

  pub because_looked : (H : Type 0) (result : Turn) (made : List (RecipientEntry R)) → GoesOnOrHalts H result → Because H result made
  because_looked H turn.GoesOn made is = tt
  because_looked H turn.Over made is = tt
  because_looked H (turn.Ended why) made is = cause_halted ⊥ H why made is.0 is.1

-- ---- the task doesn't go on

abbrev IsOn : Turn → Type 0
IsOn turn.GoesOn = Unit {0}
IsOn turn.Over = ⊥
IsOn (turn.Ended why) = ⊥

pub over_stops : turn.Over ≡ turn.GoesOn → ⊥
over_stops is = subst IsOn (sym is) tt

pub end_stops : (why : FetchEnd) → turn.Ended why ≡ turn.GoesOn → ⊥
end_stops why is = subst IsOn (sym is) tt

-- ---- a turn without a step, and one without a connection

module _ {R : Type 0} (H : Type 0) (v w : FetcherModel R) (task_kept : w.task ≡ v.task) where
  -- the clone's end was asked for
  pub rests : (told : Result (Option CloneEnded) AllocError) (result : Turn) → Worked (IsOne call.Ended (answer.Ended told)) v.seat w.seat
      → ((made : List (RecipientEntry R)) → IsOne call.Ended (answer.Ended told) made → Because H result made) → Works (λ made. IsAsked made × Because H result made) v w
  rests told result asked because =
      (task_kept, worked_map (IsOne call.Ended (answer.Ended told)) (λ made. IsAsked made × Because H result made) v.seat w.seat asked (λ made one. ((answer.Ended told, one), because made one)))

  -- a step without a connection was made
  pub waited : (c : TaskStep) (a : TaskStepped) → Worked (IsStep c a) v.seat w.seat → c.link ≡ Absent → c.received.items ≡ [] → c.task ≡ v.task → c.core ≡ v.core → w.core ≡ a.core
      → Works (λ made. Waits v.task (λ n. n ≡ c.floor) v.core made w.core × (a.sent.items ≡ c.sent.items ++ put made)) v w
  waited c a step absent none task_is core_is left_is = (
    task_kept,
    worked_map (IsStep c a) (λ made. Waits v.task (λ n. n ≡ c.floor) v.core made w.core × (a.sent.items ≡ c.sent.items ++ put made)) v.seat w.seat step
        (λ made is. (waits_step v.task (λ n. n ≡ c.floor) v.core w.core c a made is absent none task_is core_is refl left_is, is.sent)),
  )

module _ {R : Type 0} (P Q : ℕ → Type 0) (keeps : (n : ℕ) → P n → Q n) (H : Type 0) (v w : FetcherModel R) (s t : List ℕ) (result : Turn) where
  abbrev pub HasWaitedOnce : List (RecipientEntry R) → Type 0
  HasWaitedOnce made = Waits v.task P v.core made w.core × (t ≡ s ++ put made)

  abbrev pub WaitsOnce : Option ℕ → List (RecipientEntry R) → Type 0
  WaitsOnce left made = Waits v.task Q v.core made left × (t ≡ s ++ put made) × Because H result made

  -- nothing more was done
  pub waits_over : Works HasWaitedOnce v w → ((made : List (RecipientEntry R)) → Because H result made) → Works (WaitsOnce w.core) v w
  waits_over works because =
      works_as HasWaitedOnce (WaitsOnce w.core) v w works
      (λ made is. (waits_later v.task P Q keeps v.core w.core made is.0, is.1, because made))

  -- and the clone's end was asked for
  pub waits_on : (u : FetcherModel R) → u.core ≡ w.core → Works HasWaitedOnce v w → Works (λ made. IsAsked made × Because H result made) w u → Works (WaitsOnce u.core) v u
  waits_on u same works asked =
      works_more HasWaitedOnce (λ made. IsAsked made × Because H result made) (WaitsOnce u.core) v w u works asked
      (λ xs ys waits rests. subst (λ left. WaitsOnce left (xs ++ ys)) (sym same) (
        waits_more v.task P Q keeps v.core w.core w.core xs ys waits.0 (waits_asked v.task Q w.core ys rests.0),
        waits.1 ∙ ap (λ zs. s ++ zs) (sym (put_more xs ys ∙ (ap (λ zs. put xs ++ zs) (put_asked ys rests.0) ∙ append-nil (put xs)))),
        because_more H H (λ h. h) result xs ys rests.1,
      ))

module _ {L X R : Type 0} (link : Link L X) (task : ℕ) where
  -- a turn that is over after what was done
  pub turn_acts : (P Q : ℕ → Type 0) → ((n : ℕ) → P n → Q n) → (core left : Option ℕ) (H : Type 0) (a b : Talk L) (result : Turn) (made : List (RecipientEntry R))
      → Acts link task P core [] a b.end made left → (result ≡ turn.GoesOn → GoesOn link a b (taken made) (put made)) → Because H result made → IsTurn link task Q core H a b result made left
  turn_acts P Q keeps core left H a b result made acts goes because = record {
    acts = acts_later link task P Q keeps core left [] a b.end made acts;
    goes = goes;
    because = because;
  }

  -- a turn after what was done
  pub turn_after : (P Q : ℕ → Type 0) → ((n : ℕ) → P n → Q n) → (core mid left : Option ℕ) (H : Type 0) (a b c : Talk L) (result : Turn) (xs ys : List (RecipientEntry R))
      → Acts link task P core [] a b.end xs mid → GoesOn link a b (taken xs) (put xs) → IsTurn link task Q mid H b c result ys left → IsTurn link task Q core H a c result (xs ++ ys) left
  turn_after P Q keeps core mid left H a b c result xs ys acts goes next = record {
    acts = acts_more link task P Q keeps core mid left [] a b c.end xs ys acts goes next.acts;
    goes = λ on. both_go link a b c xs ys goes (next.goes on);
    because = because_more H H (λ h. h) result xs ys next.because;
  }

  -- a turn in which nothing but the clone's end was asked for
  pub turn_asked : (P : ℕ → Type 0) (core : Option ℕ) (H : Type 0) (a : Talk L) (result : Turn) (made : List (RecipientEntry R)) → IsAsked made → Because H result made → IsTurn link task P core H a a result made core
  turn_asked P core H a result made asked because = record {
    acts = acts_asked link task P core a made asked;
    goes = λ on. goes_asked link a made asked;
    because = because;
  }

  -- a turn in which no call was made
  pub turn_none : (P : ℕ → Type 0) (core : Option ℕ) (H : Type 0) (a b : Talk L) (result : Turn) → Passes link a b.end [] [] → (result ≡ turn.GoesOn → GoesOn link a b [] []) → Because {R = R} H result []
      → IsTurn {L = L} {X = X} {R = R} link task P core H a b result [] core
  turn_none P core H a b result passes goes because = record {
    acts = acts_none link task P core [] a b.end passes;
    goes = goes;
    because = because;
  }

-- ---- a turn over an end

-- what passed while a task worked over an end
pub passed_in : {L X R : Type 0} (link : Link L X) (task : ℕ) (P : ℕ → Type 0) (core left : Option ℕ) (first : List ℕ) (a : Talk L) (b : L) (O : List (RecipientEntry R) → Type 0) (v w : FetcherModel R)
    → Works (λ made. Acts link task P core first a b made left × O made) v w → (took : List ℕ) × (put_out : List ℕ) × Passes link a b took put_out
passed_in link task P core left first a b O v w works = let made = works.1.0 in (taken made, first ++ put made, works.1.2.0.passes)

module _ {L X R : Type 0} (link : Link L X) (Q : ℕ → Type 0) (H : Type 0) (v w : FetcherModel R) (a b : Talk L) (result : Turn) where
  -- nothing but the clone's end was asked for, after what came was received
  pub turn_rests : GoesOn link a b [] [] → w.core ≡ v.core → Works (λ made. IsAsked made × Because H result made) v w → Works (λ made. IsTurn link v.task Q v.core H a b result made w.core) v w
  turn_rests goes same works =
      works_as (λ made. IsAsked made × Because H result made) (λ made. IsTurn link v.task Q v.core H a b result made w.core) v w works
      (λ made is.
      subst (λ left. IsTurn link v.task Q v.core H a b result made left) (sym same)
      (turn_after link v.task Q Q (λ n q. q) v.core v.core v.core H a b b result [] made (acts_none link v.task Q v.core [] a b.end goes.passes) goes
      (turn_asked link v.task Q v.core H b result made is.0 is.1)))

  -- the step was made, and its end still stands
  module _ (Ok : Type 0) (floor : Q v.floor) (acted : Works (λ made. Acts link v.task (λ n. n ≡ v.floor) v.core [] a b.end made w.core × (Ok → GoesOn link a b (taken made) (put made))) v w) where
    looked : (n : ℕ) → n ≡ v.floor → Q n
    looked n is = subst Q (sym is) floor

    pub turn_over : (result ≡ turn.GoesOn → Ok) → ((made : List (RecipientEntry R)) → Because H result made) → Works (λ made. IsTurn link v.task Q v.core H a b result made w.core) v w
    turn_over on because =
        works_as (λ made. Acts link v.task (λ n. n ≡ v.floor) v.core [] a b.end made w.core × (Ok → GoesOn link a b (taken made) (put made))) (λ made. IsTurn link v.task Q v.core H a b result made w.core) v w acted
        (λ made is. turn_acts link v.task (λ n. n ≡ v.floor) Q looked v.core w.core H a b result made is.0 (λ goes. is.1 (on goes)) (because made))

    -- and more was done in the turn
    pub turn_then : (u : FetcherModel R) (c : Talk L) → Ok → Works (λ made. IsTurn link w.task Q w.core H b c result made u.core) w u → Works (λ made. IsTurn link v.task Q v.core H a c result made u.core) v u
    turn_then u c ok next =
        works_more (λ made. Acts link v.task (λ n. n ≡ v.floor) v.core [] a b.end made w.core × (Ok → GoesOn link a b (taken made) (put made))) (λ made. IsTurn link w.task Q w.core H b c result made u.core)
        (λ made. IsTurn link v.task Q v.core H a c result made u.core) v w u acted next
        (λ xs ys is more.
        turn_after link v.task (λ n. n ≡ v.floor) Q looked v.core w.core u.core H a b c result xs ys is.0 (is.1 ok)
        (subst (λ k. IsTurn link k Q w.core H b c result ys u.core) acted.0 more))

module _ {L X R : Type 0} (link : Link L X) where
  -- a step over an end, with which a task that is at these places goes on
  module _ (v w : FetcherModel R) (a b n : Talk L) (c : TaskStep) (s : TaskStepped) (step : Worked (IsStep c s) v.seat w.seat) (task_kept : w.task ≡ v.task) (task_is : c.task ≡ v.task)
      (core_is : c.core ≡ v.core) (floor_is : c.floor ≡ v.floor) (core_left : w.core ≡ s.core) (link_is : c.link ≡ state_of a.lost) (came : c.received.items ≡ a.left.items) (fresh : c.sent.items ≡ [])
      (same : b.end ≡ a.end) (sound : b.lost ≡ a.lost) (left_is : b.left.items ≡ s.received.items) where
    pub acted : (Ok : Type 0) → Passes link b n.end [] s.sent.items → (Ok → GoesOn link b n [] s.sent.items)
        → Works (λ made. Acts link v.task (λ k. k ≡ v.floor) v.core [] a n.end made w.core × (Ok → GoesOn link a n (taken made) (put made))) v w
    acted Ok passes goes =
        let made = step.0 in (
          task_kept,
          (
            made,
            step.1,
            (
              step_acts link a b c s made step.2 came fresh same sound left_is v.task (λ k. k ≡ v.floor) v.core w.core n.end task_is core_is floor_is core_left link_is passes,
              λ ok. step_goes link a b c s made step.2 came fresh same sound left_is n (goes ok),
            ),
          ),
        )

-- a turn of a task that was at one place, after which these stand
module _ {L X R S C A : Type 0} (link : Link L X) (halted look : C) (is_halted : A → Bool) (position_of : A → Option ℕ) (v : FetcherModel R) (a : Talk L) where
  abbrev pub Turned : FetcherModel R → Talk L → SeatModel S C A → Turn → Type 0
  Turned w b watch result = Works (λ made. IsTurn link v.task (HasLooked look position_of watch) v.core (WasHalted halted is_halted watch) a b result made w.core) v w

  pub turned_as : (w u : FetcherModel R) (b c : Talk L) (s t : SeatModel S C A) (x y : Turn) → u ≡ w → c ≡ b → t ≡ s → y ≡ x → Turned w b s x → Turned u c t y
  turned_as w u b c s t x y task talk watch result turned =
      subst (λ z. Turned z c t y) (sym task) (subst (λ z. Turned w z t y) (sym talk) (subst (λ z. Turned w b z y) (sym watch) (subst (λ z. Turned w b s z) (sym result) turned)))
