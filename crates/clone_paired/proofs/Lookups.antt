-- The seats, connections and lines of a network.
use Rattle.std.proofs.Common.{ℕ, zero, suc, ◌≡◌, ◌<◌, List, [], ◌∷◌, Option, Some, length, refl, ap, arith}
use Rattle.std.specs.Prelude.{slice_get}
use Rattle.std.specs.Option.{option_and_then}
use Rattle.clone_network.specs.Networks.{Network, Seat}
use Rattle.clone_paired.specs.Lines.{connection_of, made_of}

pub seat_there : (seats : List Seat) (k : ℕ) → k < length seats → (seat : Seat) × (slice_get seats k ≡ Some seat)
seat_there [] k small = absurd (omega (arith, small))
seat_there (s ∷ seats) zero small = (s, refl)
seat_there (s ∷ seats) (suc k) small = seat_there seats k (omega (arith, small))

pub connection_is : (n : Network) (k : ℕ) (seat : Seat) → slice_get n.seats k ≡ Some seat → connection_of n k ≡ seat.connection
connection_is n k seat is = ap (λ (o : Option Seat). option_and_then (λ (s : Seat). s.connection) o) is

pub made_is : (n : Network) (k : ℕ) (seat : Seat) → slice_get n.seats k ≡ Some seat → made_of n k ≡ seat.made
made_is n k seat is = ap (λ (o : Option Seat). option_and_then (λ (s : Seat). s.made) o) is
