-- A task that is connected in the rounds has a connection, with its line.
use Rattle.std.proofs.Common.{ℕ, ◌≡◌, ◌∙◌, List, Bool, true, false, Option, None, Some, refl, sym, ap, subst}
use Rattle.std.specs.Prelude.{slice_get, not}
use Rattle.std.proofs.lemmas.Bool.{both_ways}
use Rattle.clone_session.specs.Cloning.{Session}
use Rattle.clone_tasks.specs.Tables.{incarnation_of, is_apart, standing_of}
use Rattle.clone_recipient.specs.Receptions.{Reception}
use Rattle.clone_network.specs.Connections.{Connection}
use Rattle.clone_network.specs.Networks as network
use Rattle.clone_network.specs.Networks.{Network}
use Rattle.clone_rounds.specs.World.{Seat, World}
use Rattle.clone_view.specs.Views.{IsLine, IsSeat, IsView, Line, list_in}
use Rattle.clone_paired.specs.Lines.{IsAt, IsLineOf, connection_of, made_of}
use Rattle.clone_paired.proofs.Lookups.{connection_is, made_is}

module _ (session : Option Session) (r : Reception) (n : Network) (lines : ℕ → Option Line) (counts : ℕ → List ℕ) (w : World) where
  pub record Linked (k : ℕ) : Type 0 where
    pub number : ℕ
    pub at : Connection
    pub l : Line
    pub has : connection_of n k ≡ Some number
    pub made : made_of n k ≡ Some (incarnation_of r.table)
    pub there : slice_get n.connections number ≡ Some at
    pub line : lines k ≡ Some l
    pub of : IsLineOf session r k at l
    pub seat : IsLine counts (list_in session) l (w.seats k)

  module _ (all_at : (task : ℕ) → IsAt session r n task (connection_of n task) (lines task)) (view : IsView counts r.table session lines w) where
    pub seat_of : (k : ℕ) (line : Option Line) → lines k ≡ line → IsSeat counts (list_in session) line (w.seats k)
    seat_of k line is = subst (λ (o : Option Line). IsSeat counts (list_in session) o (w.seats k)) is (view.seats k)

    pub unlinked : (k : ℕ) → lines k ≡ None → (w.seats k).connected ≡ false
    unlinked k none = ap (λ (s : Seat). s.connected) (seat_of k None none)

    linked_as : (k number : ℕ) → connection_of n k ≡ Some number → IsAt session r n k (Some number) (lines k) → Linked k
    linked_as k number has at = record {
      number = number;
      at = at.1.0;
      l = at.1.1;
      has = has;
      made = at.0;
      there = at.1.2;
      line = at.1.3;
      of = at.1.4;
      seat = seat_of k (Some at.1.1) at.1.3;
    }

    -- it has its connection
    pub linked_by : (k number : ℕ) → connection_of n k ≡ Some number → Linked k
    linked_by k number has = linked_as k number has (subst (λ (c : Option ℕ). IsAt session r n k c (lines k)) has (all_at k))

    linked_at : (k : ℕ) (connection : Option ℕ) → connection_of n k ≡ connection → IsAt session r n k connection (lines k) → (w.seats k).connected ≡ true → Linked k
    linked_at k None has at connected = absurd (both_ways (w.seats k).connected (unlinked k at) connected)
    linked_at k (Some number) has at connected = linked_as k number has at

    pub linked : (k : ℕ) → (w.seats k).connected ≡ true → Linked k
    linked k connected = linked_at k (connection_of n k) refl (all_at k) connected

    pub apart_is : (k : ℕ) (connected : Bool) → (w.seats k).connected ≡ connected → is_apart (standing_of r.table k) ≡ not connected
    apart_is k connected is = twice (is_apart (standing_of r.table k)) connected (sym (view.table.seats k).connected ∙ is)
      where
        twice : (a b : Bool) → not a ≡ b → a ≡ not b
        twice true b e = ap not e
        twice false b e = ap not e

    pub none_at : (k : ℕ) (seat : network.Seat) → slice_get n.seats k ≡ Some seat → seat.connection ≡ None → lines k ≡ None
    none_at k seat has is = subst (λ (o : Option ℕ). IsAt session r n k o (lines k)) (connection_is n k seat has ∙ is) (all_at k)

    -- the connection that a task's seat has is this one
    pub record Same (k : ℕ) (seat : network.Seat) (at : Connection) : Type 0 where
      pub x : Linked k
      pub at_is : at ≡ x.at
      pub made : seat.made ≡ Some (incarnation_of r.table)

    pub same_connection : (k : ℕ) (seat : network.Seat) (number : ℕ) (at : Connection) → slice_get n.seats k ≡ Some seat → seat.connection ≡ Some number → slice_get n.connections number ≡ Some at → Same k seat at
    same_connection k seat number at has is there =
        let x = linked_by k number (connection_is n k seat has ∙ is) in
        let one : number ≡ x.number = cc (connection_is n k seat has ∙ is, x.has) in
        record { x = x; at_is = cc (there, ap (slice_get n.connections) one, x.there); made = sym (made_is n k seat has) ∙ x.made }
