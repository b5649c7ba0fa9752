-- A world as contracts see it, and what a line of a script does to it.
use Rattle.std.specs.Prelude.{◌≡◌, List, None}
use Rattle.std.specs.FinMap as finite
use Rattle.clone_model.specs.declared.config.Config.{Config}
use Rattle.clone_script.specs.declared.lines.Line.{Line}
use Rattle.clone_script.specs.declared.terms.Terms.{Terms}
use Rattle.clone_plain.specs.Answers.{Text}
use Rattle.clone_plain.specs.Donor.{Donor}
use Rattle.clone_events.specs.World.{World, no_clone}
use Rattle.clone_events.specs.Events.{Event, said}
use Rattle.clone_events.specs.Events as plain_events
use Rattle.clone_events.specs.Runs as plain
use Rattle.clone_events.specs.BreaksOff as broken
use Rattle.clone_engine.specs.Opened.{IsOpened}
use Rattle.clone_core.specs.declared.world.Course.TheVariants as course
use Rattle.clone_core.specs.System.{System, donor_of, tell}
use Rattle.clone_core.specs.Steps.{SystemStep}

-- a donor and a recipient with what is between them, the indexes of writers, and the clone
abbrev pub State : Type 0
State = World System

-- the plain donor of a world, with the indexes and the clone
abbrev pub plain_of : State → World Donor
plain_of s = record {
  donor = donor_of s.donor;
  begun = s.begun;
  clone = s.clone;
  tells = s.tells;
  tasks = s.tasks;
}

-- a world in which nothing has happened, over an engine of these sizes
pub record IsNew (config : Config) (terms : Terms) (s : State) : Type 0 where
  pub donor : IsOpened config s.donor.donor.engine
  pub session : s.donor.donor.cloning.session ≡ None
  pub terms_are : s.donor.terms ≡ terms
  pub course : s.donor.course ≡ course.Absent
  pub begun : s.begun ≡ finite.empty
  pub clone : s.clone ≡ no_clone
  pub tells : s.tells ≡ tell s.donor
  pub tasks : s.tasks ≡ terms.tasks

-- events happen, each a step of donor and recipient
abbrev pub Events : State → List Event → State → Type 0
Events s events t = plain_events.Events donor_of SystemStep s events t

-- one does
abbrev pub Happens : State → Event → State → Type 0
Happens s event t = plain_events.Happens donor_of SystemStep s event t

-- lines are carried out one after the other
abbrev pub Runs : State → List Line → List (List Event) → State → Type 0
Runs s lines events t = plain.Runs donor_of SystemStep s lines events t

-- a line is carried out, and answers so
pub record Answers (s : State) (line : Line) (text : Text) (t : State) : Type 0 where
  pub events : List Event
  pub step : plain.LineStep donor_of SystemStep s line events t
  pub is : text ≡ said events

-- memory ran out in a line
abbrev pub BreaksOff : State → Line → State → Type 0
BreaksOff s line t = broken.BreaksOff donor_of SystemStep s line t
