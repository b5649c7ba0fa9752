-- A donor's end of a task's connection takes a step that leaves the session: one seat of the rounds has changed.
use Rattle.std.proofs.Common.{ℕ, zero, suc, ◌≡◌, ◌≢◌, ◌∙◌, ◌⊎◌, ◌<◌, ◌≤◌, List, [], ◌∷◌, ◌++◌, Bool, true, false, if◌then◌else◌, Option, None, Some, length, refl, sym, ap, subst, inl, inr, arith}
use Rattle.std.specs.Prelude.{slice_get, slice_set, IfSome, not, ◌||◌}
use Rattle.std.specs.List.{AllByRecursion}
use Rattle.std.proofs.lemmas.Bool.{both_ways}
use Rattle.clone_session.specs.Cloning.{Session}
use Rattle.clone_snapshot.specs.StageLists.{StageList}
use Rattle.clone_wire.specs.declared.frame.Frame.{Frame}
use Rattle.clone_wire.specs.declared.frame.Side.TheVariants.{Answer as ofDonor, Command as ofTask}
use Rattle.clone_tasks.specs.Tables.{incarnation_of, standing_of}
use Rattle.clone_recipient.specs.Receptions.{Reception}
use Rattle.clone_network.specs.Connections.{Connection, is_open}
use Rattle.clone_network.specs.Networks.{Network, with_connection}
use Rattle.clone_rounds.specs.Awaiting.{Rule}
use Rattle.clone_rounds.specs.Steps.{Move}
use Rattle.clone_rounds.specs.World.{Seat, World, IsLinked, put, with_seat}
use Rattle.clone_rounds.proofs.Moving.{kept}
use Rattle.clone_view.specs.Views.{IsLine, IsSeat, IsView, Line, list_in}
use Rattle.clone_paired.specs.Lines.{IsLineOf, connection_of}
use Rattle.clone_paired.specs.Paired.{IsTalking}
use Rattle.clone_paired.specs.Seen.{IsKnown, IsSeen}
use Rattle.clone_paired.specs.Sessions.{HasComeTo}
use Rattle.clone_paired.proofs.Changing.{past_with, talks_on, view_seat}
use Rattle.clone_paired.proofs.Cuts.{had_small}
use Rattle.clone_paired.proofs.Linked.{Linked, linked_by}

pub slice_set_self : {X : Type 0} (xs : List X) (i : ℕ) (x : X) → slice_get xs i ≡ Some x → slice_set xs i x ≡ xs
slice_set_self [] i x is = refl
slice_set_self (y ∷ xs) zero x is = let same : y ≡ x = cc (is) in ap (λ z. z ∷ xs) (sym same)
slice_set_self (y ∷ xs) (suc i) x is = ap (λ z. y ∷ z) (slice_set_self xs i x is)

pub same_network : (n : Network) (number : ℕ) (at : Connection) → slice_get n.connections number ≡ Some at → with_connection number at n ≡ n
same_network n number at there = ap (λ (c : List Connection). record n { connections = c }) (slice_set_self n.connections number at there)

-- the seat of a task has changed by a step of the rounds, and not where the task stands
pub record Turns (counts : ℕ → List ℕ) (list : StageList) (w : World) (k : ℕ) (after : Line) : Type 0 where
  pub seat : Seat
  pub moves : Move w (with_seat w k seat)
  pub connected : seat.connected ≡ (w.seats k).connected
  pub awaits : seat.awaits ≡ (w.seats k).awaits
  pub ended : seat.ended ≡ (w.seats k).ended
  pub line : IsLine counts list after seat

module _ (session : Option Session) (r : Reception) (n : Network) (tasks : length n.seats ≡ r.table.count) (talks : IsTalking session r n) (k number : ℕ) (has : connection_of n k ≡ Some number) where
  pub first : IsSeen r.table session n talks.lines talks.known
  first = talks.rounds.seen talks.known (λ stage small. refl)

  -- its line
  pub x : Linked session r n talks.lines talks.known first.rounds k
  x = linked_by session r n talks.lines talks.known first.rounds talks.at first.view k number has

  one : number ≡ x.number
  one = cc (has, x.has)

  pub there_at : slice_get n.connections number ≡ Some x.at
  there_at = ap (slice_get n.connections) one ∙ x.there

  -- what is seen of it
  pub record Sees (counts : ℕ → List ℕ) (w : World) : Type 0 where
    pub rule : Rule w
    pub view : IsView counts r.table session talks.lines w
    pub linked : IsLinked w k
    pub line : IsLine counts (list_in session) x.l (w.seats k)

  pub sees : (counts : ℕ → List ℕ) (s : IsSeen r.table session n talks.lines counts) → Sees counts s.rounds
  sees counts s =
      let line : IsLine counts (list_in session) x.l (s.rounds.seats k) = subst (λ (o : Option Line). IsSeat counts (list_in session) o (s.rounds.seats k)) x.line (s.view.seats k) in
      record {
        rule = s.rule;
        view = s.view;
        linked = record { task = subst (λ (c : ℕ). k < c) (tasks ∙ sym s.view.table.tasks) (had_small n.seats k number has); connected = line.connected };
        line = line;
      }

  pub come_same : IfSome session (λ (s : Session). HasComeTo s k x.l.doing)
  come_same = subst (λ (o : Option Line). IfSome o (λ (l : Line). IfSome session (λ (s : Session). HasComeTo s k l.doing))) x.line (talks.come k)

  module _ (new : Connection) (after : Line) (turns : (counts : ℕ → List ℕ) (w : World) → Sees counts w → Turns counts (list_in session) w k after) where
    abbrev m : Network
    m = with_connection number new n

    seen_turned : (counts : ℕ → List ℕ) → IsSeen r.table session n talks.lines counts → IsSeen r.table session m (put talks.lines k (Some after)) counts
    seen_turned counts old =
        let w = old.rounds in
        let t = turns counts w (sees counts old) in
        let standing = old.view.table.seats k in
        record {
          rounds = with_seat w k t.seat;
          rule = kept w (with_seat w k t.seat) old.rule t.moves;
          view = view_seat counts r session talks.lines w k after t.seat old.view (record { connected = t.connected ∙ standing.connected; awaits = t.awaits ∙ standing.awaits; ended = t.ended ∙ standing.ended }) t.line;
          sizes = old.sizes;
          unsent = old.unsent;
          past = past_with session session r r n talks k number x.at new after has there_at r.table w.sides.acknowledged old.past;
        }

    pub turned_talks : IsLineOf session r k new after → IfSome session (λ (s : Session). HasComeTo s k after.doing) → IsTalking session r m
    turned_talks of come = talks_on session session r r n talks k number x.at new after has there_at refl (λ j c y other line own. own) talks.own talks.few of talks.come come talks.known (record { donor = talks.rounds.donor; recipient = talks.rounds.recipient; seen = λ counts agrees. seen_turned counts (talks.rounds.seen counts agrees) })
