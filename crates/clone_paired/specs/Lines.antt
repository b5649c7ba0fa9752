-- THE CONNECTIONS of the present incarnation, as the rounds see them.
use Rattle.std.specs.Prelude.{ℕ, ◌≡◌, ◌||◌, not, Bool, true, false, [], None, Some, slice_get}
use Rattle.std.specs.Prelude.{if◌then◌else◌, ⊤}
use Rattle.std.specs.List.{AllByRecursion}
use Rattle.std.specs.Option.{option_and_then}
use Rattle.std.specs.declared.option.Option.{Option}
use Rattle.clone_session.specs.Cloning.{Session}
use Rattle.clone_session.specs.declared.caller.Caller.{Caller}
use Rattle.clone_wire.specs.declared.frame.Side.TheVariants.{Answer, Command}
use Rattle.clone_serve.specs.declared.doing.Doing.{Doing}
use Rattle.clone_serve.specs.declared.doing.Doing.TheVariants as doing
use Rattle.clone_tasks.specs.Tables.{Table, incarnation_of}
use Rattle.clone_recipient.specs.Receptions.{Reception}
use Rattle.clone_network.specs.Connections.{Connection, is_open}
use Rattle.clone_network.specs.Networks.{Network, Seat}
use Rattle.clone_view.specs.Views.{Line}
use Rattle.clone_paired.specs.Unread.{Holds}
use Rattle.clone_paired.specs.Speaking.{IsAsked, IsGiven}

-- ---- one connection

-- what its donor's end does: nothing more, once it has found the connection lost
abbrev pub doing_at : Connection → Doing
doing_at at = if is_open at then at.doing else doing.Over

-- none comes any more: it was cut, or the loop of the donor's end has ended
abbrev pub is_lost : Connection → Bool
is_lost at = at.cut || not (is_open at)

-- the donor's end has bound this caller, if one
abbrev pub Binds : Caller → Doing → Type 0
Binds caller (doing.Ready bound) = bound ≡ caller
Binds caller (doing.Serving run work) = run.caller ≡ caller
Binds caller other = ⊤

-- a task, as it calls in the present incarnation
abbrev pub caller_of : Table → ℕ → Caller
caller_of t task = record {
  session = t.session;
  incarnation = incarnation_of t;
  task = task;
}

-- A CONNECTION of a task, and the frames that lie unread on it. What was sent to an end whose loop
-- has ended is no command any more.
pub record IsLineOf (session : Option Session) (r : Reception) (task : ℕ) (at : Connection)
    (l : Line) : Type 0 where
  pub held : at.held ≡ true
  pub cut : l.cut ≡ is_lost at
  pub doing : l.doing ≡ doing_at at
  pub binds : Binds (caller_of r.table task) l.doing
  pub live : is_open at ≡ true → Holds Command at.cut l.commands at.to_donor
  pub over : is_open at ≡ false → l.commands ≡ []
  pub answers : Holds Answer at.cut l.answers at.to_task
  pub asked : AllByRecursion (IsAsked r.table task) l.commands
  pub given : AllByRecursion (IsGiven session r) l.answers

-- ---- all of them

-- the connection that a task has
abbrev pub connection_of : Network → ℕ → Option ℕ
connection_of n task = option_and_then (λ (s : Seat). s.connection) (slice_get n.seats task)

-- the incarnation in which it connected last
abbrev pub made_of : Network → ℕ → Option ℕ
made_of n task = option_and_then (λ (s : Seat). s.made) (slice_get n.seats task)

-- the line of a task is that of its connection, which is of the present incarnation; or it has none
abbrev pub IsAt : Option Session → Reception → Network → ℕ → Option ℕ → Option Line → Type 0
IsAt session r n task None line = line ≡ None
IsAt session r n task (Some number) line =
    (made_of n task ≡ Some (incarnation_of r.table))
    × ((at : Connection) × (l : Line) × (slice_get n.connections number ≡ Some at)
    × (line ≡ Some l) × IsLineOf session r task at l)

-- no two tasks have one connection
abbrev pub AreApart : Network → Type 0
AreApart n = (j k number : ℕ) → connection_of n j ≡ Some number → connection_of n k ≡ Some number
    → j ≡ k
