-- What a run of a world says, by the laws of plain runs.
use Rattle.std.proofs.Common.{◌≡◌, ◌≤◌, ℕ, List, [], ◌∷◌, length, ap, subst}
use Rattle.clone_outside.specs.Causes.{Rose}
use Rattle.clone_model.specs.declared.config.Config.{Config}
use Rattle.clone_script.specs.declared.lines.Line.{Line}
use Rattle.clone_script.specs.declared.terms.Terms.{Terms}
use Rattle.clone_plain.specs.Donor.{Donor}
use Rattle.clone_events.specs.BreaksOff as plain
use Rattle.clone_events.specs.Events.{Event, PlainEvent, Happens}
use Rattle.clone_events.specs.Events as plain_events
use Rattle.clone_events.specs.Headline.{all_events}
use Rattle.clone_events.specs.Runs as plain_runs
use Rattle.clone_events.specs.World.{IsWithin, opened}
use Rattle.clone_events.proofs.ReachedLemmas.{Runs-IsWithin}
use Rattle.clone_events.proofs.RunLemmas.{Runs-Events, Runs-tells}
use Rattle.clone_core.specs.Steps.{SystemStep}
use Rattle.clone_core.specs.System.{donor_of}
use Rattle.clone_core.specs.Lines.{State, BreaksOff, Events, IsNew, Runs, plain_of}
use Rattle.clone_core.proofs.StepLemmas.{refines}
use Rattle.clone_core.proofs.FaultLemmas.{MetFault, events_met, met_since}

-- ---- the plain donor's part of it

plain_happens : (s : State) (e : Event) (t : State) → Happens donor_of SystemStep s e t → Happens (λ d. d) PlainEvent (plain_of s) e (plain_of t)
plain_happens s e t is = record { step = refines s.donor t.donor e is.step; begun = is.begun; clone = is.clone; tells = is.tells; tasks = is.tasks; sees = is.sees }

plain_happen : (s : State) (es : List Event) (t : State) → Events s es t → plain_events.Events (λ d. d) PlainEvent (plain_of s) es (plain_of t)
plain_happen s [] t is = ap plain_of is
plain_happen s (e ∷ es) t is = (plain_of is.0, plain_happens s e is.0 is.1, plain_happen is.0 es t is.2)

pub plain_run : (s : State) (lines : List Line) (events : List (List Event)) (t : State) → Runs s lines events t → plain_runs.Runs (λ d. d) PlainEvent (plain_of s) lines events (plain_of t)
plain_run s [] [] t run = ap plain_of run
plain_run s [] (es ∷ more) t run = absurd run
plain_run s (l ∷ lines) [] t run = absurd run
plain_run s (l ∷ lines) (es ∷ more) t run = (plain_of run.0, (run.1.0, plain_happen s es run.0 run.1.1), plain_run run.0 lines more t run.2)

pub plain_breaks : (s : State) (line : Line) (t : State) → BreaksOff s line t → plain.BreaksOff (λ d. d) PlainEvent (plain_of s) line (plain_of t)
plain_breaks s line t off = record {
  front = off.front;
  next = off.next;
  rest = off.rest;
  makes = off.makes;
  carried = off.carried;
  then = plain_of off.then;
  happened = plain_happen s off.front off.then off.happened;
  donor = off.donor;
  begun = off.begun;
  tells = off.tells;
  tasks = off.tasks;
  clone = off.clone;
}

-- ---- the world's own

pub run_tells : (s : State) (lines : List Line) (events : List (List Event)) (t : State) → Runs s lines events t → t.tells ≡ s.tells
run_tells s lines events t run = Runs-tells donor_of SystemStep s lines events t run

pub run_within : (config : Config) (terms : Terms) (s : State) (lines : List Line) (events : List (List Event)) (t : State) (n : ℕ) → IsNew config terms s → Runs s lines events t → length lines ≤ n → IsWithin donor_of n t
run_within config terms s lines events t n new run le =
    let P : State → Type 0 = λ w. Runs w lines events t in
    let from : Runs (opened s.donor s.tasks s.tells) lines events t = subst P (λ i. record { donor = s.donor; begun = new.begun i; clone = new.clone i; tells = s.tells; tasks = s.tasks }) run in
    Runs-IsWithin donor_of SystemStep refines s.donor (ap (λ (d : Donor). d.binlog) new.donor.donor) s.tasks s.tells lines events t n from le

pub run_fault : (config : Config) (terms : Terms) (s : State) (lines : List Line) (events : List (List Event)) (t : State) → IsNew config terms s → Runs s lines events t → MetFault t.clone → Rose s.donor.recipient.failures t.donor.recipient.failures
run_fault config terms s lines events t new run met = met_since s t new.clone (events_met s (all_events events) t (Runs-Events donor_of SystemStep s lines events t run) met)
