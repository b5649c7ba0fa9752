-- The turns of a task that fetches.
use Rattle.std.specs.Prelude.{ℕ, ◌≡◌, List, [], ⊤}
use Rattle.std.specs.declared.option.Option.{Option}
use Rattle.clone_fetching.specs.declared.machine.RecipientCall.TheVariants as call
use Rattle.clone_fetching.specs.declared.machine.RecipientAnswer.{RecipientAnswer}
use Rattle.clone_copying.specs.declared.fetch_end.FetchEnd.TheVariants as ending
use Rattle.clone_copying.specs.declared.turn.Turn.{Turn}
use Rattle.clone_copying.specs.declared.turn.Turn.TheVariants as turn
use Rattle.clone_copying.specs.Calling.{IsOne}
use Rattle.clone_copying.specs.Calls.{AreCalls, RecipientEntry, put, taken}
use Rattle.clone_copying.specs.Fetching.{AreApart, HasCause}
use Rattle.clone_copying.specs.Passing.{Acts, GoesOn}
use Rattle.clone_copying.specs.declared.talk.Talk.{Talk}
use Rattle.clone_outside.specs.declared.link.Link.{Ghosts as Link}

-- why a fetch ends in a turn
abbrev pub Because : {R : Type 0} → (halted : Type 0) → Turn → List (RecipientEntry R) → Type 0
Because halted turn.GoesOn made = ⊤
Because halted turn.Over made = ⊤
Because halted (turn.Ended why) made = HasCause ⊥ halted why made

-- it goes on, or the run was halted
abbrev pub GoesOnOrHalts : Type 0 → Turn → Type 0
GoesOnOrHalts halted turn.GoesOn = ⊤
GoesOnOrHalts halted turn.Over = ⊥
GoesOnOrHalts halted (turn.Ended how) = (how ≡ ending.Halted) × halted

module _ {R : Type 0} where
  -- how the clone ended was asked, and nothing else
  abbrev pub IsAsked : List (RecipientEntry R) → Type 0
  IsAsked made = (told : RecipientAnswer) × IsOne call.Ended told made

  -- calls of a task without a connection
  pub record Waits (task : ℕ) (looked : ℕ → Type 0) (core : Option ℕ)
      (made : List (RecipientEntry R)) (left : Option ℕ) : Type 0 where
    pub apart : AreApart made
    pub calls : AreCalls task looked core made left

module _ {L X R : Type 0} (link : Link L X) where
  -- A TURN over an end, after which the task goes on with it or not
  pub record IsTurn (task : ℕ) (looked : ℕ → Type 0) (core : Option ℕ) (halted : Type 0)
      (old new : Talk L) (result : Turn) (made : List (RecipientEntry R)) (left : Option ℕ)
      : Type 0 where
    pub acts : Acts link task looked core [] old new.end made left
    pub goes : result ≡ turn.GoesOn → GoesOn link old new (taken made) (put made)
    pub because : Because halted result made
