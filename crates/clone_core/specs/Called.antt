-- What a call leaves, by what it answered.
use Rattle.std.specs.Prelude.{ℕ, ◌≡◌, ◌+◌, ◌++◌, ◌∷◌, [], List, length, None, codes}
use Rattle.std.specs.Fmt.{decimal}
use Rattle.std.specs.List.{AllByRecursion, flat_map}
use Rattle.std.specs.declared.result.Result.{Result}
use Rattle.std.specs.declared.result.Result.TheVariants.{Ok, Err}
use Rattle.clone_script.specs.declared.lines.Line.TheVariants.{Set, Clean}
use Rattle.clone_plain.specs.declared.refusal.Cause.{Cause}
use Rattle.clone_plain.specs.declared.refusal.EngineRefusal.{EngineRefusal}
use Rattle.clone_plain.specs.declared.refusal.EngineRefusal.TheVariants.{Because, NoMemory}
use Rattle.clone_plain.specs.Answers.{Text, refusal_text}
use Rattle.clone_plain.specs.declared.call.EngineAnswer.{EngineAnswer}
use Rattle.clone_plain.specs.declared.call.EngineAnswer.TheVariants as answers
use Rattle.clone_plain.specs.declared.call.EngineCall.{EngineCall}
use Rattle.clone_plain.specs.declared.call.EngineCall.TheVariants as call
use Rattle.clone_events.specs.World.{index_in}
use Rattle.clone_events.specs.Events.{Event, event_text, made, said}
use Rattle.clone_events.specs.Runs.{MakesSet, flushed}
use Rattle.clone_events.specs.BreaksOff.{IsDone, Becomes}
use Rattle.clone_core.specs.System.{donor_of}
use Rattle.clone_core.specs.Lines.{State, Events, Happens, BreaksOff}

-- what the plain donor is stays, and so do the writers' indexes and the clone
pub record Stays (s t : State) : Type 0 where
  pub donor : donor_of t.donor ≡ donor_of s.donor
  pub begun : t.begun ≡ s.begun
  pub tells : t.tells ≡ s.tells
  pub tasks : t.tasks ≡ s.tasks
  pub clone : t.clone ≡ s.clone

-- the same, but that the clone became another by these events, which weren't told
pub record StaysUntold (s : State) (events : List Event) (t : State) : Type 0 where
  pub donor : donor_of t.donor ≡ donor_of s.donor
  pub begun : t.begun ≡ s.begun
  pub tells : t.tells ≡ s.tells
  pub tasks : t.tasks ≡ s.tasks
  pub clone : Becomes (donor_of s.donor) s.tells s.clone events t.clone

-- a call of the donor: it was carried out, or refused for a cause, or there was no memory for it
abbrev pub Called : {X : Type 0} → State → EngineCall → (X → EngineAnswer)
    → Result X EngineRefusal → State → Type 0
Called s asked did (Ok x) t = Happens s (made asked (Ok (did x))) t
Called s asked did (Err (Because cause)) t = Happens s (made asked (Err cause)) t
Called s asked did (Err NoMemory) t = Stays s t

-- the refusal is for a cause, and this is its text
pub record SaysCause (refusal : EngineRefusal) (text : Text) : Type 0 where
  pub cause : Cause
  pub is : refusal ≡ Because cause
  pub same : text ≡ refusal_text cause

-- one of the calls of a `set` was refused, and those before it were carried out
pub record RefusesSet (s : State) (writer table key : ℕ) (value : List ℕ) (cause : Cause)
    (t : State) : Type 0 where
  pub front : List Event
  pub asked : EngineCall
  pub makes : MakesSet writer (index_in s.begun writer) table key value
      (front ++ made asked (Err cause) ∷ [])
  pub carried : AllByRecursion IsDone front
  pub happened : Events s (front ++ made asked (Err cause) ∷ []) t

-- all calls of a `set` were carried out
pub record CommitsSet (s : State) (writer table key : ℕ) (value : List ℕ) (position : ℕ)
    (t : State) : Type 0 where
  pub events : List Event
  pub makes : MakesSet writer (index_in s.begun writer) table key value events
  pub happened : Events s events t
  pub is : said events ≡ codes "committed " ++ decimal position
  pub count : position ≡ length (donor_of s.donor).binlog + 1

-- a `set` by what it answered
abbrev pub Sets : State → ℕ → ℕ → ℕ → List ℕ → Result ℕ EngineRefusal → State → Type 0
Sets s writer table key value (Ok position) t = CommitsSet s writer table key value position t
Sets s writer table key value (Err (Because cause)) t = RefusesSet s writer table key value cause t
Sets s writer table key value (Err NoMemory) t = BreaksOff s (Set writer table key value) t

-- each dirty page was flushed, and so many landed
pub record CleansAll (s : State) (landed : ℕ) (t : State) : Type 0 where
  pub pages : List (ℕ × ℕ)
  pub count : landed ≡ length pages
  pub happened : Events s (flat_map flushed pages
      ++ made call.OldestDirty (Ok (answers.OldestDirty None)) ∷ []) t

-- a call of a flush was refused, after pages that landed
pub record StopsCleaning (s : State) (cause : Cause) (t : State) : Type 0 where
  pub pages : List (ℕ × ℕ)
  pub page : ℕ × ℕ
  pub front : List Event
  pub rest : List Event
  pub asked : EngineCall
  pub given : EngineAnswer
  pub split : flushed page ≡ front ++ made asked (Ok given) ∷ rest
  pub happened : Events s (flat_map flushed pages ++ front ++ made asked (Err cause) ∷ []) t

-- a `clean` by what it answered
abbrev pub Cleans : State → Result ℕ EngineRefusal → State → Type 0
Cleans s (Ok landed) t = CleansAll s landed t
Cleans s (Err (Because cause)) t = StopsCleaning s cause t
Cleans s (Err NoMemory) t = BreaksOff s Clean t

-- one event happened, and its text is the answer
pub record Notes (s : State) (event : Event) (text : Text) (t : State) : Type 0 where
  pub happened : Happens s event t
  pub is : text ≡ event_text event
