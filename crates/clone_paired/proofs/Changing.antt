-- One connection of a task changes, and all else stays.
use Rattle.std.proofs.Common.{ℕ, ◌≡◌, ◌≢◌, ◌∙◌, ◌⊎◌, ◌≤◌, List, Bool, false, Option, None, Some, length, refl, sym, ap, subst, inl, inr}
use Rattle.std.specs.Prelude.{slice_get, IfSome}
use Rattle.std.proofs.lemmas.Bool.{cases_eq}
use Rattle.std.proofs.lemmas.Option.{slice_get_within}
use Rattle.clone_base.proofs.MapEntries.{slice_get-set_other, slice_get-set_same}
use Rattle.clone_session.specs.Cloning.{Session}
use Rattle.clone_tasks.specs.Tables.{Table, incarnation_of, standing_of}
use Rattle.clone_tasks.specs.Losing.{kept_in}
use Rattle.clone_marks.specs.Blocks.{partials_of}
use Rattle.clone_recipient.specs.Receptions.{Reception}
use Rattle.clone_network.specs.Connections.{Connection}
use Rattle.clone_network.specs.Networks.{Network, with_connection}
use Rattle.clone_rounds.specs.World.{Seat, World, put, with_seat}
use Rattle.clone_rounds.proofs.Puts.{put_all}
use Rattle.clone_view.specs.Tables.{IsStanding}
use Rattle.clone_view.specs.Views.{IsSeat, IsView, Line, list_in}
use Rattle.clone_view.proofs.ViewSteps.{donor_as, seats_put}
use Rattle.clone_paired.specs.Earlier.{IsPast}
use Rattle.clone_paired.specs.Lines.{IsAt, IsLineOf, connection_of, made_of}
use Rattle.clone_paired.specs.Paired.{HaveCome, IsTalking}
use Rattle.clone_paired.specs.Seen.{ArePast, IsKnown}
use Rattle.clone_paired.specs.Sessions.{HasComeTo, IsSessionOf}

-- a seat changes otherwise than by what its task awaits
pub view_seat : (counts : ℕ → List ℕ) (r : Reception) (session : Option Session) (lines : ℕ → Option Line) (w : World) (k : ℕ) (l : Line) (s : Seat) → IsView counts r.table session lines w → IsStanding (standing_of r.table k) s → IsSeat counts (list_in session) (Some l) s → IsView counts r.table session (put lines k (Some l)) (with_seat w k s)
view_seat counts r session lines w k l s v standing seat = record {
  table = record { some = v.table.some; tasks = v.table.tasks; limit = v.table.limit; losses = v.table.losses; stage = v.table.stage; joined = v.table.joined; chunks = v.table.chunks; size = v.table.size; taken = v.table.taken; seats = put_all (λ j y. IsStanding (standing_of r.table j) y) w.seats k s (λ j other. v.table.seats j) standing };
  donor = donor_as (incarnation_of r.table) session w (with_seat w k s) refl refl refl refl v.donor;
  seats = seats_put (IsSeat counts (list_in session)) lines w.seats k (Some l) s v.seats seat;
}

module _ (session now : Option Session) (r s : Reception) (n : Network) (talks : IsTalking session r n) (k number : ℕ) (at new : Connection) (l : Line) (has : connection_of n k ≡ Some number) (there : slice_get n.connections number ≡ Some at) where
  abbrev m : Network
  m = with_connection number new n

  -- the lines of the other tasks stay
  abbrev pub Stay : Type 0
  Stay = (j : ℕ) (c : Connection) (x : Line) → j ≢ k → talks.lines j ≡ Some x → IsLineOf session r j c x → IsLineOf now s j c x

  here_now : slice_get m.connections number ≡ Some new
  here_now = slice_get-set_same n.connections number new (slice_get_within n.connections number at there)

  module _ (same : incarnation_of s.table ≡ incarnation_of r.table) (stay : Stay) where
    others_at : (task : ℕ) → task ≢ k → (connection : Option ℕ) → connection_of n task ≡ connection → IsAt session r n task connection (talks.lines task) → IsAt now s m task connection (talks.lines task)
    others_at task other None is h = h
    others_at task other (Some own) is h = (h.0 ∙ ap (λ x. Some x) (sym same), (h.1.0, h.1.1, slice_get-set_other n.connections number own new away ∙ h.1.2, h.1.3, stay task h.1.0 h.1.1 other h.1.3 h.1.4))
      where
        away : own ≢ number
        away one = other (talks.apart task k own is (has ∙ ap (λ x. Some x) (sym one)))

    pub at_now : IsLineOf now s k new l → (task : ℕ) → IsAt now s m task (connection_of m task) (put talks.lines k (Some l) task)
    at_now of = put_all (λ j y. IsAt now s m j (connection_of m j) y) talks.lines k (Some l) (λ j other. others_at j other (connection_of n j) refl (talks.at j)) own
      where
        made : (connection : Option ℕ) → connection ≡ Some number → IsAt session r n k connection (talks.lines k) → made_of n k ≡ Some (incarnation_of r.table)
        made None is h = absurd (cc (is))
        made (Some x) is h = h.0

        own : IsAt now s m k (connection_of m k) (Some l)
        own = subst (λ (c : Option ℕ). IsAt now s m k c (Some l)) (sym has) (made (connection_of n k) has (talks.at k) ∙ ap (λ x. Some x) (sym same), (new, l, here_now, refl, of))

    come_now : HaveCome now talks.lines → IfSome now (λ x. HasComeTo x k l.doing) → HaveCome now (put talks.lines k (Some l))
    come_now others come = put_all (λ j (y : Option Line). IfSome y (λ x. IfSome now (λ z. HasComeTo z j x.doing))) talks.lines k (Some l) (λ j other. others j) come

    -- THE CONNECTION CHANGES, and the rounds with it.
    pub talks_on : IfSome now (IsSessionOf s) → (s.table.joined ≡ false → length (partials_of s.table.marks) ≤ kept_in s.table.version) → IsLineOf now s k new l → HaveCome now talks.lines → IfSome now (λ x. HasComeTo x k l.doing) → (known : ℕ → List ℕ) → IsKnown s.table now m (put talks.lines k (Some l)) known → IsTalking now s m
    talks_on own few of others come known rounds = record {
      own = own;
      lines = put talks.lines k (Some l);
      at = at_now of;
      apart = talks.apart;
      come = come_now others come;
      few = few;
      known = known;
      rounds = rounds;
    }

  pub past_with : (t : Table) (acknowledged : Bool) → ArePast t acknowledged n → ArePast t acknowledged m
  past_with t acknowledged past other c is away = by (cases_eq other number)
    where
      by : (other ≡ number) ⊎ (other ≢ number) → IsPast t acknowledged c
      by (inl one) = absurd (away k (has ∙ ap (λ x. Some x) (sym one)))
      by (inr apart) = past other c (sym (slice_get-set_other n.connections number other new apart) ∙ is) away
