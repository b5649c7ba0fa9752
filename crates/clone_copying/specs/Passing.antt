-- What passes over an end of a connection.
use Rattle.std.specs.Prelude.{ℕ, ◌≡◌, ◌≤◌, ◌⊎◌, ◌++◌, Bool, true, false, List}
use Rattle.std.specs.List.{AllByRecursion}
use Rattle.std.specs.declared.option.Option.{Option}
use Rattle.clone_outside.specs.Bytes.{TakesSome, appended}
use Rattle.clone_outside.specs.Causes.{Rose}
use Rattle.clone_outside.specs.declared.link.Link.{Ghosts as Link}
use Rattle.clone_tasks.specs.declared.rule.Link.{Link as LinkState}
use Rattle.clone_tasks.specs.declared.rule.Link.TheVariants as state
use Rattle.clone_copying.specs.declared.talk.Talk.{Talk}
use Rattle.clone_copying.specs.Calls.{AreCalls, RecipientEntry, finds_loss, put, taken}

-- the state of a connection, as a step is given it
abbrev pub state_of : Bool → LinkState
state_of true = state.Lost
state_of false = state.Up

module _ {L X : Type 0} (link : Link L X) where
  -- nothing more passed over the end
  pub record Stays (old new : L) : Type 0 where
    pub name : ◌≡◌ (link.name new) (link.name old)
    pub side : link.side new ≡ link.side old
    pub sent : link.sent new ≡ link.sent old
    pub received : link.received new ≡ link.received old
    pub failures : link.failures new ≡ link.failures old

  -- the connection was found lost before, or was found lost since
  abbrev pub HasFound : Talk L → L → Type 0
  HasFound old new =
      (old.lost ≡ true) ⊎ Rose (link.failures old.end) (link.failures new)

  -- WHAT PASSED over an end while these bytes were taken and these were put out: what was taken
  -- came first, and some of what was put out was sent, none of it where the connection was lost
  -- before
  pub record Passes (old : Talk L) (new : L) (took put_out : List ℕ) : Type 0 where
    pub name : ◌≡◌ (link.name new) (link.name old.end)
    pub side : link.side new ≡ link.side old.end
    pub opened : link.is_open new ≡ link.is_open old.end
    pub some : TakesSome (link.sent old.end) (link.sent new) put_out
    pub none : old.lost ≡ true → link.sent new ≡ link.sent old.end
    pub came : List ℕ
    pub received : link.received new ≡ appended (link.received old.end) came
    pub rest : List ℕ
    pub takes : old.left.items ++ came ≡ took ++ rest
    pub later : link.failures old.end ≤ link.failures new

  -- IT GOES ON: what wasn't taken is kept, and all that was put out was sent, unless the connection
  -- is lost
  pub record GoesOn (old new : Talk L) (took put_out : List ℕ) : Type 0 where
    pub passes : Passes old new.end took put_out
    pub left : passes.rest ≡ new.left.items
    pub all : new.lost ≡ false → (old.lost ≡ false)
        × (link.sent new.end ≡ appended (link.sent old.end) put_out)
    pub lost : new.lost ≡ true → HasFound old new.end

  module _ {R : Type 0} where
    -- WHAT A TASK DID over an end after these bytes were put out. A step was made as over a lost
    -- connection only where the end had found the loss.
    pub record Acts (task : ℕ) (looked : ℕ → Type 0) (core : Option ℕ) (first : List ℕ)
        (old : Talk L) (new : L) (made : List (RecipientEntry R)) (left : Option ℕ)
        : Type 0 where
      pub passes : Passes old new (taken made) (first ++ put made)
      pub losses : AllByRecursion (λ (e : RecipientEntry R).
          finds_loss e.call ≡ true → HasFound old new) made
      pub calls : AreCalls task looked core made left
