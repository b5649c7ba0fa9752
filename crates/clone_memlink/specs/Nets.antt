-- What contracts see of a net in memory.
use Rattle.std.specs.Prelude.{ℕ, ◌≡◌, ◌⊎◌, nat_lt, min, true, false, List, [], ◌∷◌, None, Some, option_map, if◌then◌else◌}
use Rattle.std.specs.declared.option.Option.{Option}
use Rattle.std.specs.FinMap as finite
use Rattle.std.specs.Ordering.{nat_cmp}
use Rattle.clone_outside.specs.declared.link.Side.{Side}
use Rattle.clone_turn.specs.Seats.{CellModel}
use Rattle.clone_memlink.specs.declared.connection.Connection.{Connection}
use Rattle.clone_memlink.specs.declared.cut.Cut.{Cut}
use Rattle.clone_memlink.specs.declared.cut.TheConstants.{PLANNED_CUT}
use Rattle.clone_memlink.specs.Held.{EndModel}

-- the connections that it made, in order; how many of them were not settled; how many of the first
-- are to be cut, and which others; and the count of faults
pub record NetModel : Type 0 where
  pub made : List (CellModel Connection)
  pub unsettled : ℕ
  pub planned : ℕ
  pub cuts : List (ℕ × Cut)
  pub faults : ℕ

abbrev pub fresh_net : NetModel
fresh_net = record { made = []; unsettled = 0; planned = 0; cuts = []; faults = 0 }

-- it is one of those that were made
abbrev pub IsMade : List (CellModel Connection) → CellModel Connection → Type 0
IsMade [] name = ⊥
IsMade (x ∷ xs) name = (name ≡ x) ⊎ IsMade xs name

-- which connections are to be cut, by their numbers
abbrev pub Cuts : Type 0
Cuts = finite.FinMap nat_cmp Cut

abbrev pub cuts_of : List (ℕ × Cut) → Cuts
cuts_of entries = finite.from_entries entries

-- the lesser of two bounds, where none is no bound
abbrev pub lesser : Option ℕ → Option ℕ → Option ℕ
lesser None y = y
lesser (Some x) None = Some x
lesser (Some x) (Some y) = Some (min x y)

-- after how many bytes to the requester one of the first so many is cut
abbrev pub planned_here : ℕ → ℕ → Option ℕ
planned_here number planned = if nat_lt number planned then Some PLANNED_CUT else None

-- after how many bytes to the donor the connection of this number is cut
abbrev pub cut_to_donor : NetModel → ℕ → Option ℕ
cut_to_donor n number = option_map (λ (c : Cut). c.to_donor) (finite.get (cuts_of n.cuts) number)

-- and after how many to the requester
abbrev pub cut_to_requester : NetModel → ℕ → Option ℕ
cut_to_requester n number =
    lesser (option_map (λ (c : Cut). c.to_requester) (finite.get (cuts_of n.cuts) number))
    (planned_here number n.planned)

-- nothing is on the way, and no end is closed
abbrev pub unused : Option ℕ → Option ℕ → Connection
unused to_donor to_requester = record {
  to_donor = record { waiting = []; left = to_donor };
  to_requester = record { waiting = []; left = to_requester };
  donor_closed = false;
  requester_closed = false;
}

-- the connection of this number, as it begins
abbrev pub begun_as : NetModel → ℕ → Connection
begun_as n number = unused (cut_to_donor n number) (cut_to_requester n number)

-- an open end that made no call, of a connection that began so
pub record IsNewEnd (first : Connection) (side : Side) (v : EndModel) : Type 0 where
  pub begins : v.name.first ≡ first
  pub seen : v.seat.seen ≡ []
  pub side_is : v.side ≡ side
  pub opened : v.is_open ≡ true
  pub calm : v.faults ≡ 0
