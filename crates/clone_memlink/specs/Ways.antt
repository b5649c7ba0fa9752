-- What is on the way to one end of a connection.
use Rattle.std.specs.Prelude.{ℕ, ◌≡◌, ◌-◌, min, List, ◌++◌, length, Some, None, option_map}
use Rattle.std.specs.declared.option.Option.{Option}
use Rattle.clone_memlink.specs.declared.way.TheConstants.{ROOM}

-- the bytes that were delivered and not yet received, and how many more are delivered before the
-- connection is cut
pub record WayModel : Type 0 where
  pub waiting : List ℕ
  pub left : Option ℕ

abbrev pub IsCut : WayModel → Type 0
IsCut w = w.left ≡ Some 0

-- at most so many, where a cut is planned
abbrev pub up_to_cut : Option ℕ → ℕ → ℕ
up_to_cut None n = n
up_to_cut (Some left) n = min n left

-- how many of n bytes are delivered
abbrev pub room_for : WayModel → ℕ → ℕ
room_for w n = up_to_cut w.left (min n (ROOM - length w.waiting))

-- these bytes were delivered
abbrev pub with_bytes : WayModel → List ℕ → WayModel
with_bytes w bytes = record {
  waiting = w.waiting ++ bytes;
  left = option_map (λ l. l - length bytes) w.left;
}
