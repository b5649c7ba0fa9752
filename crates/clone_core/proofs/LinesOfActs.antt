-- A LINE that asks something of a connection or of the session: it was done, and then its answer was
-- made, or there was no memory for that.
use Rattle.std.proofs.Common.{◌≡◌, List, refl, IfOk, OnErr, Result}
use Rattle.std.specs.declared.alloc.AllocError.{AllocError}
use Rattle.clone_plain.specs.Answers.{Text}
use Rattle.clone_script.specs.declared.lines.Line.{Line}
use Rattle.clone_events.specs.Events.{Event, acts}
use Rattle.clone_events.specs.Runs.{IsBy, MakesEvent}
use Rattle.clone_core.specs.CloneEvents.{Acts, ActsUntold}
use Rattle.clone_core.specs.Lines.{State, Answers, BreaksOff}
use Rattle.clone_core.proofs.NothingLemmas.{one_untold}
use Rattle.clone_core.proofs.UntoldLemmas.{AreOf, event_breaks_off, event_says, one_breaks}

module _ (s t : State) (line : Line) (makes : (events : List Event) → MakesEvent (IsBy line) events → AreOf s line events) where
  pub acts_says : {A : Type 0} (bytes : A → Text) (text : Text) (result : Result A AllocError) → Acts line s text t → IfOk result (λ a. bytes a ≡ text) → IfOk result (λ a. Answers s line (bytes a) t)
  acts_says bytes text result did says = event_says bytes s t line (acts line did.0 text) result (makes _ (acts line did.0 text, refl, refl)) did.1 says

  pub acts_breaks : {A : Type 0} (text : Text) (result : Result A AllocError) → Acts line s text t → OnErr result (BreaksOff s line t)
  acts_breaks text result did = event_breaks_off s t line (acts line did.0 text) result (makes _ (acts line did.0 text, refl, refl)) tt did.1

  pub untold_breaks_off : {A : Type 0} (result : Result A AllocError) → ActsUntold line s t → OnErr result (BreaksOff s line t)
  untold_breaks_off result did =
      let (text, changes, ends) = one_untold line s t did in
      one_breaks s t line (acts line changes text) result (makes _ (acts line changes text, refl, refl)) ends
