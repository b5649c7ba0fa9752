-- A task connects: the command with which it does is the first on a new connection.
use Rattle.std.proofs.Common.{ℕ, ◌≡◌, ◌≢◌, ◌∙◌, ◌⊎◌, ◌<◌, ◌≤◌, List, [], ◌∷◌, ◌++◌, Bool, true, false, Option, None, Some, length, length-append, set, refl, sym, ap, subst, inl, inr, arith}
use Rattle.std.specs.Prelude.{slice_get, slice_set, ◌==◌, IfSome}
use Rattle.std.specs.Option.{option_and_then}
use Rattle.std.proofs.lemmas.Bool.{cases_eq, cases_lt}
use Rattle.std.proofs.lemmas.List.{append-nil}
use Rattle.std.proofs.lemmas.Option.{slice_get_within}
use Rattle.clone_base.proofs.MapEntries.{slice_get-pushed_front, slice_get-pushed_last, slice_get-set_other, slice_get-set_same}
use Rattle.clone_session.specs.Cloning.{Session}
use Rattle.clone_wire.specs.Spelling.{spelling}
use Rattle.clone_wire.specs.declared.frame.Frame.{Frame}
use Rattle.clone_wire.specs.declared.frame.Side.TheVariants.{Answer as ofDonor, Command as ofTask}
use Rattle.clone_stream.specs.Streams.{IsFrameOf}
use Rattle.clone_tasks.specs.Rules.{sending_rule}
use Rattle.clone_tasks.specs.Sending.{IsFirst, after_sending}
use Rattle.clone_tasks.specs.Tables.{Table, incarnation_of, is_running}
use Rattle.clone_tasks.specs.declared.rule.Rule.TheVariants as rule
use Rattle.clone_tasks.specs.declared.standing.Standing.{Standing}
use Rattle.clone_tasks.specs.declared.standing.Standing.TheVariants.{Joining}
use Rattle.clone_recipient.specs.Receptions.{Reception}
use Rattle.clone_network.specs.Connections.{Connection, opened}
use Rattle.clone_network.specs.Networks.{Network, Seat}
use Rattle.clone_rounds.specs.World.{put}
use Rattle.clone_rounds.proofs.Moving.{kept}
use Rattle.clone_rounds.proofs.Puts.{put_all}
use Rattle.clone_view.specs.Frames.{command_of}
use Rattle.clone_view.specs.Tables.{phase_number}
use Rattle.clone_view.specs.Views.{Follows, Line, line_sent}
use Rattle.clone_view.proofs.ViewSteps.{sent}
use Rattle.clone_paired.specs.Earlier.{IsPast}
use Rattle.clone_paired.specs.Lines.{AreApart, IsAt, IsLineOf, connection_of, made_of}
use Rattle.clone_paired.specs.Paired.{IsReception, IsTalking}
use Rattle.clone_paired.specs.Seen.{AreUnsent, ArePast, IsSeen}
use Rattle.clone_paired.specs.Sessions.{HasComeTo}
use Rattle.clone_paired.specs.Speaking.{IsAsked}
use Rattle.clone_paired.specs.Unread.{Holds}
use Rattle.clone_paired.proofs.Keeping.{KeepsOwners, acks_as, task_keeps}
use Rattle.clone_paired.proofs.Lookups.{connection_is, made_is}
use Rattle.clone_paired.proofs.Sends.{some_as}
use Rattle.clone_paired.proofs.Transports.{asked_as, line_as, past_as, restood, session_as}
use Rattle.clone_paired.proofs.UnreadLemmas.{holds_all, holds_none}

module _ (session : Option Session) (r : Reception) (n : Network) (own : IsReception r) (tasks : length n.seats ≡ r.table.count) (running : is_running r.table ≡ true) (talks : IsTalking session r n) (k floor : ℕ) (seat : Seat) (there : slice_get n.seats k ≡ Some seat) (none : seat.connection ≡ None) (rule_is : sending_rule r.table k ≡ rule.Connect) (next : Frame) (of : IsFrameOf ofTask next) (sent_is : IsFirst (k == 0) r.table k next) (command : command_of next ≡ None → ⊥) (asked : IsAsked r.table k next) where
  abbrev standings : List Standing
  standings = slice_set r.table.standings k Joining

  abbrev s : Reception
  s = restood r standings r.table.floor r.table.joined

  abbrev new : Connection
  new = opened (spelling next)

  abbrev seated : Seat
  seated = record { made = Some (incarnation_of r.table); connection = Some (length n.connections) }

  abbrev m : Network
  m = record { connections = n.connections ++ new ∷ []; seats = set n.seats k seated }

  abbrev after : Line
  after = line_sent None next

  small : k < length n.seats
  small = slice_get_within n.seats k seat there

  -- ---- the connections

  own_now : connection_of m k ≡ Some (length n.connections)
  own_now = connection_is m k seated (slice_get-set_same n.seats k seated small)

  made_now : made_of m k ≡ Some (incarnation_of r.table)
  made_now = made_is m k seated (slice_get-set_same n.seats k seated small)

  others_now : (j : ℕ) → j ≢ k → connection_of m j ≡ connection_of n j
  others_now j other = ap (λ (o : Option Seat). option_and_then (λ (x : Seat). x.connection) o) (slice_get-set_other n.seats k j seated other)

  others_made : (j : ℕ) → j ≢ k → made_of m j ≡ made_of n j
  others_made j other = ap (λ (o : Option Seat). option_and_then (λ (x : Seat). x.made) o) (slice_get-set_other n.seats k j seated other)

  had_none : connection_of n k ≡ None
  had_none = connection_is n k seat there ∙ none

  -- what a task had is there
  had_there : (j number : ℕ) → connection_of n j ≡ Some number → number < length n.connections
  had_there j number has = by (subst (λ (c : Option ℕ). IsAt session r n j c (talks.lines j)) has (talks.at j))
    where
      by : IsAt session r n j (Some number) (talks.lines j) → number < length n.connections
      by at = slice_get_within n.connections number at.1.0 at.1.2

  line_new : IsLineOf session s k new after
  line_new = record {
    held = refl;
    cut = refl;
    doing = refl;
    binds = tt;
    live = λ is. subst (Holds ofTask false (next ∷ [])) (append-nil (spelling next)) (holds_all ofTask false (next ∷ []) (of, tt));
    over = λ is. absurd (cc (is));
    answers = holds_none ofDonor false;
    asked = (asked_now, tt);
    given = tt;
  }
    where
      asked_now : IsAsked s.table k next
      asked_now = asked_as r standings r.table.floor r.table.joined (λ floor is. is) k next asked

  others_at : (j : ℕ) → j ≢ k → (connection : Option ℕ) → connection_of n j ≡ connection → IsAt session r n j connection (talks.lines j) → IsAt session s m j connection (talks.lines j)
  others_at j other None is h = h
  others_at j other (Some number) is h = (others_made j other ∙ h.0, (h.1.0, h.1.1, slice_get-pushed_front n.connections new number (had_there j number is) ∙ h.1.2, h.1.3, line_as r standings r.table.floor r.table.joined (λ floor is. is) session j h.1.0 h.1.1 h.1.4))

  at_now : (j : ℕ) → IsAt session s m j (connection_of m j) (put talks.lines k (Some after) j)
  at_now = put_all (λ j y. IsAt session s m j (connection_of m j) y) talks.lines k (Some after) (λ j other. subst (λ (c : Option ℕ). IsAt session s m j c (talks.lines j)) (sym (others_now j other)) (others_at j other (connection_of n j) refl (talks.at j))) (subst (λ (c : Option ℕ). IsAt session s m k c (Some after)) (sym own_now) (made_now, (new, after, slice_get-pushed_last n.connections new (length n.connections) refl, refl, line_new)))

  had_now : (j number : ℕ) → (j ≡ k) ⊎ (j ≢ k) → connection_of m j ≡ Some number → ((j ≡ k) × (number ≡ length n.connections)) ⊎ (connection_of n j ≡ Some number)
  had_now j number (inl same) has = inl (same, cc (ap (connection_of m) same, has, own_now))
  had_now j number (inr other) has = inr (sym (others_now j other) ∙ has)

  apart_now : AreApart m
  apart_now i j number has also = by (had_now i number (cases_eq i k) has) (had_now j number (cases_eq j k) also)
    where
      by : ((i ≡ k) × (number ≡ length n.connections)) ⊎ (connection_of n i ≡ Some number) → ((j ≡ k) × (number ≡ length n.connections)) ⊎ (connection_of n j ≡ Some number) → i ≡ j
      by (inl a) (inl b) = a.0 ∙ sym b.0
      by (inl a) (inr b) = (let less = had_there j number b in absurd (omega (arith, less, a.1)))
      by (inr a) (inl b) = (let less = had_there i number a in absurd (omega (arith, less, b.1)))
      by (inr a) (inr b) = talks.apart i j number a b

  past_now : (t : Table) (acknowledged : Bool) → ArePast t acknowledged n → ArePast t acknowledged m
  past_now t acknowledged past number c is away = by (cases_lt number (length n.connections))
    where
      nobody : (task : ℕ) → connection_of n task ≢ Some number
      nobody task has = at (cases_eq task k)
        where
          at : (task ≡ k) ⊎ (task ≢ k) → ⊥
          at (inl same) = cc (sym had_none ∙ ap (connection_of n) (sym same) ∙ has)
          at (inr other) = away task (others_now task other ∙ has)

      by : (number < length n.connections) ⊎ (length n.connections ≤ number) → IsPast t acknowledged c
      by (inl low) = past number c (sym (slice_get-pushed_front n.connections new number low) ∙ is) nobody
      by (inr high) = (
          let within : number < length (n.connections ++ new ∷ []) = slice_get_within (n.connections ++ new ∷ []) number c is in
          let last : number ≡ length n.connections = omega (arith, high, within, length-append n.connections (new ∷ [])) in
          absurd (away k (own_now ∙ ap (λ x. Some x) (sym last))))

  -- ---- the rounds

  within : k < length r.table.standings
  within = omega (arith, small, tasks, own.bounded.places, own.bounded.tasks)

  line_none : talks.lines k ≡ None
  line_none = subst (λ (c : Option ℕ). IsAt session r n k c (talks.lines k)) had_none (talks.at k)

  seen_now : (counts : ℕ → List ℕ) → IsSeen r.table session n talks.lines counts → IsSeen s.table session m (put talks.lines k (Some after)) counts
  seen_now counts old =
      let follows : Follows counts (after_sending rule.Connect r.table k floor) session (put talks.lines k (Some (line_sent (talks.lines k) next))) old.rounds = sent counts r.table session talks.lines old.rounds old.view running k within rule.Connect rule_is floor next sent_is command in
      let here : Follows counts s.table session (put talks.lines k (Some after)) old.rounds = subst (λ (o : Option Line). Follows counts s.table session (put talks.lines k (Some (line_sent o next))) old.rounds) line_none follows in
      let keep : KeepsOwners old.rounds here.0 = task_keeps old.rounds here.0 here.1 in
      record {
        rounds = here.0;
        rule = kept old.rounds here.0 old.rule (inl here.1);
        view = here.2;
        sizes = λ stage. ap (λ (f : ℕ → ℕ). f stage) keep.sides.size ∙ old.sizes stage;
        unsent = subst (AreUnsent session) (sym keep.owner) old.unsent;
        past = past_now s.table here.0.sides.acknowledged (λ other c is away. past_as r.table s.table old.rounds.sides.acknowledged here.0.sides.acknowledged refl refl refl (omega arith) (acks_as old.rounds here.0 (phase_number r.table.phase) (phase_number r.table.phase) old.view.table.stage here.2.table.stage keep.sides.acks) c (old.past other c is away));
      }

  come_now : IfSome session (λ (z : Session). HasComeTo z k after.doing)
  come_now = by session
    where
      by : (o : Option Session) → IfSome o (λ (z : Session). HasComeTo z k after.doing)
      by None = tt
      by (Some z) = tt

  pub talks_connected : IsTalking session s m
  talks_connected = record {
    own = some_as (session_as r standings r.table.floor r.table.joined (λ floor is. is)) session talks.own;
    lines = put talks.lines k (Some after);
    at = at_now;
    apart = apart_now;
    come = put_all (λ j (y : Option Line). IfSome y (λ (l : Line). IfSome session (λ (z : Session). HasComeTo z j l.doing))) talks.lines k (Some after) (λ j other. talks.come j) come_now;
    few = talks.few;
    known = talks.known;
    rounds = record { donor = talks.rounds.donor; recipient = talks.rounds.recipient; seen = λ counts agrees. seen_now counts (talks.rounds.seen counts agrees) };
  }
