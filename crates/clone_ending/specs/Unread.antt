-- HOW MUCH THE CONNECTIONS ALONE HAVE LEFT for a donor to do, as one number, while no task does
-- anything: the commands that it may read, and the ends whose loops go on.
use Rattle.std.specs.Prelude.{ℕ, ◌+◌, Bool, false, List, count_by, is_some, length, slice_get}
use Rattle.std.specs.Prelude.{if◌then◌else◌}
use Rattle.std.specs.List.{sum_by}
use Rattle.std.specs.Option.{option_map_or}
use Rattle.clone_network.specs.Connections.{Connection, is_open, is_serving}
use Rattle.clone_network.specs.Networks.{Network, Seat}

-- each byte that the donor's end may read, and that its loop goes on
abbrev pub end_left : Connection → ℕ
end_left at = if is_open at then length at.to_donor + 1 else 0

abbrev pub donor_left : Network → ℕ
donor_left n = sum_by end_left n.connections

-- an EXECUTE is in service on the connection with this number
abbrev pub is_serving_on : List Connection → ℕ → Bool
is_serving_on connections number =
    option_map_or (λ at. is_serving at.doing) (slice_get connections number) false

-- how many tasks have a connection
abbrev pub has_connection : Seat → Bool
has_connection seat = is_some seat.connection

abbrev pub seats_left : Network → ℕ
seats_left n = count_by has_connection n.seats
