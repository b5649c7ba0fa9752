-- The values from which redo of a page may start.
use Rattle.std.specs.Prelude.{ℕ, ◌≡◌, ◌⊎◌, ◌++◌, Bool, true, false, List, [], ◌∷◌}
use Rattle.clone_mtr.specs.declared.record.Record.{Record}
use Rattle.clone_image.specs.Redone.{Standing, redone, redone_from}
use Rattle.clone_law.specs.Touches.{Lax}
use Rattle.clone_law.specs.Since.{ends}
use Rattle.clone_law.specs.Machine.{Copy, Idle, Untracked, Tracked, Copied, Stopped, Event, Created, Opened, Begun, Failed, Started, Left}

-- Redo of a starting value by the archived log gives the page as it was at the stop.
abbrev pub Gives : ℕ → ℕ → ℕ → List (List Record) → Standing → Type 0
Gives space number base log s =
    (front rest : List (List Record)) → log ≡ front ++ rest → ends front ≡ base
    → Lax (redone_from base space number s rest) (redone space number log)

-- a value from which redo may start, or nothing or a zero page in place of one that is nothing
abbrev pub IsStart : List Standing → Standing → Type 0
IsStart [] u = ⊥
IsStart (s ∷ ss) u = Lax u s ⊎ IsStart ss u

-- redo may start from this
abbrev pub HasStart : Copy → Standing → Type 0
HasStart Idle u = ⊥
HasStart (Untracked starts) u = IsStart starts u
HasStart Tracked u = ⊥
HasStart (Copied base starts) u = IsStart starts u
HasStart (Stopped base log starts) u = IsStart starts u

-- the same, with FILE COPY over
abbrev pub HasCopied : Copy → Standing → Type 0
HasCopied Idle u = ⊥
HasCopied (Untracked starts) u = ⊥
HasCopied Tracked u = ⊥
HasCopied (Copied base starts) u = IsStart starts u
HasCopied (Stopped base log starts) u = IsStart starts u

-- no session begins or ends
abbrev pub InSession : Event → Bool
InSession (Started listed) = false
InSession Left = false
InSession _ = true

-- nor is the page's space made or the page tracked
abbrev pub InCalm : Event → Bool
InCalm (Started listed) = false
InCalm Left = false
InCalm (Created m) = false
InCalm (Opened m bytes) = false
InCalm (Begun bytes) = false
InCalm (Failed disk) = false
InCalm _ = true
