-- A DONOR AND A RECIPIENT THAT TALK, while nobody but they and strangers who don't act in their
-- session say anything: who awaits what of whom is as the rounds have it.
use Rattle.std.specs.Prelude.{ℕ, ◌≡◌, ◌≤◌, ◌⊎◌, true, false, List, Some, length, IfSome}
use Rattle.std.specs.declared.option.Option.{Option}
use Rattle.clone_session.specs.Cloning.{Session}
use Rattle.clone_tasks.specs.Tables.{AreStandings, IsBounded, IsTable, awaits, incarnation_of}
use Rattle.clone_tasks.specs.Tables.{is_done, standing_of}
use Rattle.clone_marks.specs.Blocks.{partials_of}
use Rattle.clone_tasks.specs.Losing.{kept_in}
use Rattle.clone_recipient.specs.Receptions.{AreCounted, Reception}
use Rattle.clone_network.specs.Networks.{Network}
use Rattle.clone_view.specs.Views.{Line}
use Rattle.clone_paired.specs.Lines.{AreApart, IsAt, connection_of, made_of}
use Rattle.clone_paired.specs.Sessions.{HasComeTo, IsSessionOf}
use Rattle.clone_paired.specs.Seen.{IsKnown}

-- where a donor's end serves an EXECUTE of a task, the session is there to which it has come
abbrev pub HaveCome : Option Session → (ℕ → Option Line) → Type 0
HaveCome session lines = (task : ℕ) → IfSome (lines task)
    (λ l. IfSome session (λ s. HasComeTo s task l.doing))

-- WHILE STAGES ARE COPIED: the session of the clone, if it has one, what the tasks have and await,
-- and the rounds that are seen in all this.
pub record IsTalking (session : Option Session) (r : Reception) (n : Network) : Type 0 where
  pub own : IfSome session (IsSessionOf r)
  pub lines : ℕ → Option Line
  pub at : (task : ℕ) → IsAt session r n task (connection_of n task) (lines task)
  pub apart : AreApart n
  pub come : HaveCome session lines
  -- until task 0 took a STAGE no more blocks are marked than a loss leaves
  pub few : r.table.joined ≡ false
      → length (partials_of r.table.marks) ≤ kept_in r.table.version
  pub known : ℕ → List ℕ
  pub rounds : IsKnown r.table session n lines known

-- ONCE ALL WAS COPIED task 0 awaits nothing any more.
pub record HasCopied (r : Reception) (n : Network) : Type 0 where
  pub done : is_done r.table.phase ≡ true
  pub rests : awaits (standing_of r.table 0) ≡ false
  pub made : IfSome (connection_of n 0) (λ number. made_of n 0 ≡ Some (incarnation_of r.table))

pub record IsCopying (session : Option Session) (r : Reception) (n : Network) : Type 0 where
  pub going : is_done r.table.phase ≡ false
  pub talking : IsTalking session r n

-- WHILE THE CLONE GOES ON
pub record IsPaired (session : Option Session) (r : Reception) (n : Network) : Type 0 where
  pub tasks : length n.seats ≡ r.table.count
  pub goes : IsCopying session r n ⊎ HasCopied r n

-- what a reception keeps by itself
pub record IsReception (r : Reception) : Type 0 where
  pub table : IsTable r.table.count r.table.version r.table.limit r.table.losses r.table.ended
  pub standings : AreStandings r.table.standings r.table.marks
  pub bounded : IsBounded r.table
  pub counted : AreCounted r.table.phase r
