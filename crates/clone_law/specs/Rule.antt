-- The rule that every event of a page keeps: what its frame, its image in flight, the disk and the
-- clone have is the page as it is, or as it was late enough.
use Rattle.std.specs.Prelude.{ℕ, ◌≡◌, ◌≤◌, Bool, false, List, None, Some}
use Rattle.std.specs.declared.option.Option.{Option}
use Rattle.std.specs.List.{AllByRecursion}
use Rattle.clone_mtr.specs.declared.record.Record.{Record}
use Rattle.clone_image.specs.Redone.{Standing, stands, redone}
use Rattle.clone_law.specs.Touches.{Lax}
use Rattle.clone_law.specs.Since.{Since, IsAt, AllFit}
use Rattle.clone_law.specs.Machine.{Flight, PageEngine, Copy, Idle, Untracked, Tracked, Copied, Stopped, PageWorld, HasSpace, AtMost}

-- The page is this now, or it was so at a moment not before its oldest modification.
abbrev pub Held : ℕ → ℕ → Option ℕ → Standing → List (List Record) → Type 0
Held space number None s log = Lax s (redone space number log)
Held space number (Some o) s log = Since space number o s log

-- a frame has the page as it is
abbrev pub Framed : Option (List ℕ) → Standing → Type 0
Framed None v = Unit {0}
Framed (Some bytes) v = v ≡ stands bytes

-- an image in flight is the page as it is, or as it was not before its first later change
abbrev pub Flying : ℕ → ℕ → Option Flight → List (List Record) → Type 0
Flying space number None log = Unit {0}
Flying space number (Some i) log = Held space number i.later (stands i.image) log

-- without a frame the page is clean and its write isn't open
abbrev pub Bare : Option (List ℕ) → Bool → Option ℕ → Option Flight → Type 0
Bare None writing oldest flight = (writing ≡ false) × (oldest ≡ None) × (flight ≡ None)
Bare (Some bytes) writing oldest flight = Unit {0}

-- the first change since a flush began is no older than the oldest modification
abbrev pub IsLater : Option ℕ → Option ℕ → List (List Record) → Type 0
IsLater oldest None log = Unit {0}
IsLater None (Some l) log = ⊥
IsLater (Some o) (Some l) log = (o ≤ l) × IsAt l log

-- so in flight too
abbrev pub InOrder : Option ℕ → Option Flight → List (List Record) → Type 0
InOrder oldest None log = Unit {0}
InOrder oldest (Some i) log = IsLater oldest i.later log

-- Whatever the donor has of the page is the page now, or as it was late enough for redo from its
-- oldest modification. The checkpoint is before that.
pub record EngineRule (space number : ℕ) (e : PageEngine) : Type 0 where
  pub fits : AllFit space number e.log
  pub framed : Framed e.frame (redone space number e.log)
  pub quiet : e.writing ≡ false → HasSpace (redone space number e.log)
      → Held space number e.oldest e.disk e.log
  pub flying : Flying space number e.flight e.log
  pub order : InOrder e.oldest e.flight e.log
  pub bare : Bare e.frame e.writing e.oldest e.flight
  pub low : AtMost e.checkpoint e.oldest e.log
  pub aligned : IsAt e.checkpoint e.log

-- Whatever was answered is the page now, or as it was late enough for redo from where the archive
-- starts, or, in FILE COPY, from the oldest modification.
abbrev pub CopyRule : ℕ → ℕ → PageEngine → Copy → Type 0
CopyRule space number e Idle = Unit {0}
CopyRule space number e (Untracked starts) =
    (e.writing ≡ false) × (e.flight ≡ None)
    × AllByRecursion (λ s. Held space number e.oldest s e.log) starts
CopyRule space number e Tracked = Unit {0}
CopyRule space number e (Copied base starts) =
    IsAt base e.log × AllByRecursion (λ s. Since space number base s e.log) starts
CopyRule space number e (Stopped base log starts) =
    AllFit space number log × IsAt base log
    × AllByRecursion (λ s. Since space number base s log) starts

-- THE RULE
pub record Rule (space number : ℕ) (w : PageWorld) : Type 0 where
  pub engine : EngineRule space number w.engine
  pub copy : CopyRule space number w.engine w.copy
