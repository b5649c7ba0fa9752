-- How rounds come to their end, and what a line tells of it.
use Rattle.std.proofs.Common.{◌≡◌, ◌∙◌, ℕ, Bool, true, false, List, [], ◌∷◌, ◌++◌, refl, sym, ap, subst, Result, Ok, Err, IfOk, OnErr}
use Rattle.std.specs.declared.alloc.AllocError.{AllocError}
use Rattle.clone_script.specs.declared.lines.Line.{Line}
use Rattle.clone_script.specs.declared.lines.Line.TheVariants as lines
use Rattle.clone_plain.specs.Answers.{Text}
use Rattle.clone_chunk.specs.Stages.{copy_number}
use Rattle.clone_answers.specs.StepTexts as answers
use Rattle.clone_tasks.specs.declared.end.CloneEnd.{CloneEnd}
use Rattle.clone_tasks.specs.declared.end.CloneEnd.TheVariants as ends
use Rattle.clone_events.specs.World.{IsUnderWay, Progress, absent, copying, over}
use Rattle.clone_events.specs.Events.{Event, StandsStill, again, end_text, event_text, readied, said, sticks, to_go_on, unbegun}
use Rattle.clone_events.specs.Runs.{Advances, AreRounds, Finishes, GoesOn, Starts, no_round}
use Rattle.clone_events.proofs.RunLemmas.{Events-append}
use Rattle.clone_core.specs.declared.rounds.Came.{Came}
use Rattle.clone_core.specs.declared.rounds.Came.TheVariants as came
use Rattle.clone_core.specs.declared.start.Begun.{Begun}
use Rattle.clone_core.specs.declared.start.Begun.TheVariants as begun
use Rattle.clone_core.specs.Acting.{end_of}
use Rattle.clone_core.specs.CloneEvents.{CameTo, EndsUntold, came_answer, started_as, still_answer}
use Rattle.clone_core.specs.Ending.{is_copying}
use Rattle.clone_core.specs.Lines.{Answers, BreaksOff, Happens, State}
use Rattle.clone_core.specs.Steps.{SystemStep}
use Rattle.clone_core.specs.System.{donor_of}
use Rattle.clone_core.proofs.ActsLemmas.{IsOfClone}
use Rattle.clone_core.proofs.RoundLemmas.{Rounds, rounds_of_clone}
use Rattle.clone_core.proofs.UntoldLemmas.{AreOf, IsOne, event_breaks_off, event_says, made_untold, on_err, one_breaks, one_made, one_of_clone, untold_behind, untold_breaks}

-- how a clone ended is told in the same words by its tasks and by its events
pub end_same : (how : CloneEnd) → answers.end_text how ≡ end_text (end_of how)
end_same (ends.Complete lsn position) = refl
end_same (ends.Spent losses) = refl
end_same (ends.Garbled kept) = refl
end_same (ends.Refused cause) = refl
end_same ends.DiskFault = refl

-- ---- the last event

abbrev pub came_event : Came → Progress → Event
came_event came.Still p = again to_go_on (still_answer p)
came_event (came.Ready stage) p = readied (copy_number stage)
came_event came.Stuck p = sticks

stands_still : (p : Progress) → is_copying p ≡ false → StandsStill p (still_answer p)
stands_still absent is = refl
stands_still copying is = let e = is in cc
stands_still (over how) is = refl

under_way : (p : Progress) → is_copying p ≡ true → IsUnderWay p
under_way absent is = let e = is in cc
under_way copying is = tt
under_way (over how) is = let e = is in cc

pub came_said : (how : Came) (p : Progress) → came_answer how p ≡ event_text (came_event how p)
came_said came.Still p = refl
came_said (came.Ready stage) p = refl
came_said came.Stuck p = refl

came_happens : (stops : Bool) (how : Came) (t : State) → CameTo stops how t → Happens t (came_event how t.clone.progress) t
came_happens stops came.Still t is = record { step = refl; begun = refl; clone = record { now = tt; shows = stands_still t.clone.progress is; is = refl }; tells = refl; tasks = refl; sees = λ _. tt }
came_happens stops (came.Ready stage) t is = record { step = (refl, is.1); begun = refl; clone = record { now = tt; shows = under_way t.clone.progress is.2; is = refl }; tells = refl; tasks = refl; sees = λ _. tt }
came_happens stops came.Stuck t is = record { step = (refl, is.1); begun = refl; clone = record { now = tt; shows = (under_way t.clone.progress is.0, is.2); is = refl }; tells = refl; tasks = refl; sees = λ _. tt }

pub advances : (how : Came) (p : Progress) → Advances (came_event how p)
advances came.Still p = tt
advances (came.Ready stage) p = tt
advances came.Stuck p = tt

-- a stage that is to be acknowledged is no end for a line that doesn't stop there
pub finishes : (how : Came) (t : State) → CameTo false how t → Finishes (came_event how t.clone.progress)
finishes came.Still t is = tt
finishes (came.Ready stage) t is = absurd (let e : false ≡ true = is.0 in cc)
finishes came.Stuck t is = tt

said_last : (front : List Event) (e : Event) → said (front ++ e ∷ []) ≡ event_text e
said_last [] e = refl
said_last (x ∷ []) e = refl
said_last (x ∷ y ∷ front) e = said_last (y ∷ front) e

goes_on : (tasks : ℕ) (Kind : Event → Type 0) (rounds : List Event) (end : Event) → AreRounds tasks rounds → Kind end → GoesOn tasks Kind (rounds ++ end ∷ [])
goes_on tasks Kind rounds end are kind = record { rounds = rounds; last = end; are = are; kind = kind; is = refl }

-- ---- a line that makes rounds

module _ (line : Line) (Kind : Event → Type 0) (of : (s : State) (events : List Event) → GoesOn s.tasks Kind events → AreOf s line events) where
  answered : (s t : State) (stops : Bool) (how : Came) (text : Text) → Rounds s t → CameTo stops how t → Kind (came_event how t.clone.progress) → text ≡ came_answer how t.clone.progress → Answers s line text t
  answered s t stops how text (rounds, are, happened) is kind says =
      let end : Event = came_event how t.clone.progress in
      record {
        events = rounds ++ end ∷ [];
        step = (of s (rounds ++ end ∷ []) (goes_on s.tasks Kind rounds end are kind), Events-append donor_of SystemStep s rounds (end ∷ []) t t happened (t, came_happens stops how t is, refl));
        is = says ∙ came_said how t.clone.progress ∙ sym (said_last rounds end);
      }

  pub rounds_answer : {A : Type 0} (bytes : A → Text) (s t : State) (stops : Bool) (how : Came) (result : Result A AllocError) → Rounds s t → CameTo stops how t → Kind (came_event how t.clone.progress) → IfOk result (λ a. bytes a ≡ came_answer how t.clone.progress) → IfOk result (λ a. Answers s line (bytes a) t)
  rounds_answer bytes s t stops how (Err e) made is kind says = tt
  rounds_answer bytes s t stops how (Ok a) made is kind says = answered s t stops how (bytes a) made is kind says

  module _ (stuck : Kind sticks) where
    pub rounds_break : {A : Type 0} (s t : State) (result : Result A AllocError) → EndsUntold (AreRounds s.tasks) s t → OnErr result (BreaksOff s line t)
    rounds_break s t result ends =
        on_err result (BreaksOff s line t)
        (untold_breaks (AreRounds s.tasks) s t line (sticks ∷ []) sticks [] (of s (sticks ∷ []) (goes_on s.tasks Kind [] sticks no_round stuck)) (λ events are. of s (events ++ sticks ∷ []) (goes_on s.tasks Kind events sticks are stuck)) ends)

    pub made_break : {A : Type 0} (s t : State) (result : Result A AllocError) → Rounds s t → OnErr result (BreaksOff s line t)
    made_break s t result made = rounds_break s t result (made_untold (AreRounds s.tasks) s t (rounds_of_clone s.tasks) made)

-- ---- a line by which a clone begins

starts_as : (h : Begun) → Starts (started_as h)
starts_as (begun.Now alone) = tt
starts_as begun.Before = tt
starts_as begun.Fault = tt
starts_as begun.Occupied = tt

begun_of_clone : (h : Begun) → IsOfClone (started_as h)
begun_of_clone (begun.Now alone) = tt
begun_of_clone begun.Before = tt
begun_of_clone begun.Fault = tt
begun_of_clone begun.Occupied = tt

pub start_answers : {A : Type 0} (bytes : A → Text) (s t : State) (h : Begun) (result : Result A AllocError) → Happens s (started_as h) t → IfOk result (λ a. bytes a ≡ event_text (started_as h)) → IfOk result (λ a. Answers s lines.Start (bytes a) t)
start_answers bytes s t h result is says = event_says bytes s t lines.Start (started_as h) result (started_as h, starts_as h, refl) is says

pub start_breaks : {A : Type 0} (s t : State) (h : Begun) (result : Result A AllocError) → Happens s (started_as h) t → OnErr result (BreaksOff s lines.Start t)
start_breaks s t h result is = event_breaks_off s t lines.Start (started_as h) result (started_as h, starts_as h, refl) (begun_of_clone h) is

pub start_fails : {A : Type 0} (s t : State) (result : Result A AllocError) → EndsUntold (IsOne unbegun) s t → OnErr result (BreaksOff s lines.Start t)
start_fails s t result ends = one_breaks s t lines.Start unbegun result (unbegun, tt, refl) ends

-- and that brings it to its end
clone_of : (s : State) (e : Event) (rounds : List Event) (end : Event) → Starts e → AreRounds s.tasks rounds → Finishes end → AreOf s lines.Clone (e ∷ rounds ++ end ∷ [])
clone_of s e rounds end starts are kind = (e, rounds ++ end ∷ [], starts, goes_on s.tasks Finishes rounds end are kind, refl)

pub clone_fails : {A : Type 0} (s t : State) (result : Result A AllocError) → EndsUntold (IsOne unbegun) s t → OnErr result (BreaksOff s lines.Clone t)
clone_fails s t result ends =
    let whole : AreOf s lines.Clone (unbegun ∷ sticks ∷ []) = clone_of s unbegun [] sticks tt no_round tt in
    on_err result (BreaksOff s lines.Clone t)
    (untold_breaks (IsOne unbegun) s t lines.Clone (sticks ∷ []) unbegun (sticks ∷ []) whole (λ events is. subst (λ (es : List Event). AreOf s lines.Clone (es ++ sticks ∷ [])) (sym is) whole) ends)

abbrev StartsAndGoes : ℕ → Event → List Event → Type 0
StartsAndGoes tasks e events = (rounds : List Event) × AreRounds tasks rounds × (events ≡ e ∷ rounds)

pub clone_breaks : {A : Type 0} (s u t : State) (h : Begun) (result : Result A AllocError) → Happens s (started_as h) u → EndsUntold (AreRounds u.tasks) u t → OnErr result (BreaksOff s lines.Clone t)
clone_breaks s u t h result begins ends =
    let e : Event = started_as h in
    let here : EndsUntold (AreRounds s.tasks) u t = subst (λ (n : ℕ). EndsUntold (AreRounds n) u t) begins.tasks ends in
    on_err result (BreaksOff s lines.Clone t)
    (untold_breaks (StartsAndGoes s.tasks e) s t lines.Clone (sticks ∷ []) e (sticks ∷ []) (clone_of s e [] sticks (starts_as h) no_round tt)
    (λ events (rounds, are, is). subst (λ (es : List Event). AreOf s lines.Clone (es ++ sticks ∷ [])) (sym is) (clone_of s e rounds sticks (starts_as h) are tt))
    (untold_behind (IsOne e) (AreRounds s.tasks) (StartsAndGoes s.tasks e) s u t (one_of_clone e (begun_of_clone h)) (λ xs ys is are. (ys, are, ap (λ (es : List Event). es ++ ys) is)) (one_made s u e begins) here))

pub clone_made_breaks : {A : Type 0} (s u t : State) (h : Begun) (result : Result A AllocError) → Happens s (started_as h) u → Rounds u t → OnErr result (BreaksOff s lines.Clone t)
clone_made_breaks s u t h result begins made = clone_breaks s u t h result begins (made_untold (AreRounds u.tasks) u t (rounds_of_clone u.tasks) made)

cloned : (s u t : State) (h : Begun) (how : Came) (text : Text) → Happens s (started_as h) u → Rounds u t → CameTo false how t → text ≡ came_answer how t.clone.progress → Answers s lines.Clone text t
cloned s u t h how text begins (rounds, are, happened) is says =
    let e : Event = started_as h in
    let end : Event = came_event how t.clone.progress in
    record {
      events = e ∷ rounds ++ end ∷ [];
      step = (
        clone_of s e rounds end (starts_as h) (subst (λ (n : ℕ). AreRounds n rounds) begins.tasks are) (finishes how t is),
        (u, begins, Events-append donor_of SystemStep u rounds (end ∷ []) t t happened (t, came_happens false how t is, refl)),
      );
      is = says ∙ came_said how t.clone.progress ∙ sym (said_last (e ∷ rounds) end);
    }

pub clone_answers : {A : Type 0} (bytes : A → Text) (s u t : State) (h : Begun) (how : Came) (result : Result A AllocError) → Happens s (started_as h) u → Rounds u t → CameTo false how t → IfOk result (λ a. bytes a ≡ came_answer how t.clone.progress) → IfOk result (λ a. Answers s lines.Clone (bytes a) t)
clone_answers bytes s u t h how (Err e) begins made is says = tt
clone_answers bytes s u t h how (Ok a) begins made is says = cloned s u t h how (bytes a) begins made is says
