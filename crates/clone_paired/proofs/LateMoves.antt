-- UNTIL THE DONOR HAS THE PRESENT INCARNATION its session may change, or come to the next stage: no task has been answered yet, and no EXECUTE of a task is served.
use Rattle.std.proofs.Common.{ℕ, ◌≡◌, ◌≢◌, ◌∙◌, ◌⊎◌, ◌<◌, ◌≤◌, List, [], ◌∷◌, true, false, Option, None, Some, refl, sym, ap, subst, inl, inr, arith}
use Rattle.std.specs.Prelude.{IfSome}
use Rattle.std.specs.List.{AllByRecursion}
use Rattle.std.proofs.lemmas.Bool.{both_ways, cases_eq, ne_eqb}
use Rattle.clone_chunk.specs.Stages.{copy_number}
use Rattle.clone_snapshot.specs.StageLists.{StageList}
use Rattle.clone_marks.specs.Counts.{block_counts}
use Rattle.clone_session.specs.Cloning.{Session}
use Rattle.clone_session.specs.CloneCauses.{donor_stage}
use Rattle.clone_serve.specs.declared.doing.Doing.{Doing}
use Rattle.clone_serve.specs.declared.doing.Doing.TheVariants as doing
use Rattle.clone_serve.specs.declared.doing.Work.TheVariants.{Archive, Claim, Read, Weigh}
use Rattle.clone_wire.specs.declared.frame.Frame.{Frame}
use Rattle.clone_tasks.specs.Tables.{incarnation_of}
use Rattle.clone_recipient.specs.Receptions.{Reception}
use Rattle.clone_network.specs.Connections.{Connection}
use Rattle.clone_network.specs.Networks.{Network}
use Rattle.clone_rounds.specs.Awaiting.{IsAt as IsInStep, Rule}
use Rattle.clone_rounds.specs.World.{Answer, Core, IsServing, New, Over, Ready, Seat, Serving, World, put}
use Rattle.clone_rounds.proofs.Fitting.{all_fit}
use Rattle.clone_rounds.proofs.Late.{keep_late}
use Rattle.clone_rounds.proofs.Puts.{put_cases, put_same}
use Rattle.clone_view.specs.Donors.{IsDonor, core_of, rest_at}
use Rattle.clone_view.specs.Frames.{AreAnswers}
use Rattle.clone_view.specs.Rows.{places}
use Rattle.clone_view.specs.Tables.{phase_number}
use Rattle.clone_view.specs.Views.{IsLine, IsSeat, IsView, Line, list_in}
use Rattle.clone_paired.specs.Lines.{IsAt, IsLineOf, connection_of}
use Rattle.clone_paired.specs.Paired.{HaveCome, IsTalking}
use Rattle.clone_paired.specs.Seen.{IsKnown, IsSeen, stage_at}
use Rattle.clone_paired.specs.Sessions.{HasComeTo, IsSessionOf}
use Rattle.clone_paired.specs.Speaking.{IsGiven}
use Rattle.clone_paired.proofs.LateOwner.{are_owned, are_unsent, owner_of}

-- ---- the donor, by its session

apart_of : (incarnation : ℕ) (session : Option Session) (w : World) → IfSome session (λ s. s.incarnation < incarnation) → IsDonor incarnation session w → w.sides.met ≡ false
apart_of incarnation None w behind d = d.0
apart_of incarnation (Some s) w behind d = d.met ∙ ne_eqb s.incarnation incarnation (λ same. absurd (omega (arith, behind, same)))

pub at_of : (incarnation : ℕ) (session : Option Session) (w : World) → IsDonor incarnation session w → w.sides.at ≡ stage_at session
at_of incarnation None w d = d.1
at_of incarnation (Some s) w d = d.at

-- ---- an end that serves no EXECUTE, whatever is copied

serves_not : (w : World) (k : ℕ) → Rule w → w.sides.met ≡ false → IsServing (w.seats k).core → ⊥
serves_not w k rule apart = by (w.seats k).core refl
  where
    by : (core : Core) → (w.seats k).core ≡ core → IsServing core → ⊥
    by (Serving stage rest) is serves = both_ways w.sides.met apart ((all_fit w rule).blocks k stage rest is).present.0
    by New is serves = serves
    by Ready is serves = serves
    by Over is serves = serves

core_any : (list now : StageList) (d : Doing) (core : Core) → core_of list d ≡ Some core → (IsServing core → ⊥) → core_of now d ≡ Some core
core_any list now doing.New core is idle = is
core_any list now (doing.Ready caller) core is idle = is
core_any list now (doing.Serving run Claim) core is idle = let e : core ≡ Serving (copy_number run.stage) [] = cc (is) in absurd (idle (subst IsServing (sym e) tt))
core_any list now (doing.Serving run (Weigh chunk)) core is idle = absurd (cc (is))
core_any list now (doing.Serving run (Read place again)) core is idle = let e : core ≡ Serving (copy_number run.stage) (rest_at list place) = cc (is) in absurd (idle (subst IsServing (sym e) tt))
core_any list now (doing.Serving run (Archive place limit)) core is idle = absurd (cc (is))
core_any list now doing.Over core is idle = is
core_any list now other core is idle = absurd (cc (is))

comes_to : (list : StageList) (s : Session) (k : ℕ) (d : Doing) (core : Core) → core_of list d ≡ Some core → (IsServing core → ⊥) → HasComeTo s k d
comes_to list s k (doing.Serving run Claim) core is idle = tt
comes_to list s k (doing.Serving run (Weigh chunk)) core is idle = tt
comes_to list s k (doing.Serving run (Read place again)) core is idle = let e : core ≡ Serving (copy_number run.stage) (rest_at list place) = cc (is) in absurd (idle (subst IsServing (sym e) tt))
comes_to list s k (doing.Serving run (Archive place limit)) core is idle = tt
comes_to list s k other core is idle = tt

none_told : (counts : ℕ → List ℕ) (frames : List Frame) (answers : List Answer) → AreAnswers counts frames answers → answers ≡ [] → frames ≡ []
none_told counts [] answers are none = refl
none_told counts (f ∷ frames) [] are none = absurd (cc (are))
none_told counts (f ∷ frames) (a ∷ answers) are none = absurd (cc (none))

-- until the donor has the incarnation only task 0 is connected, and it has heard nothing
hears_none : (w : World) (k : ℕ) → Rule w → w.sides.met ≡ false → (w.seats k).connected ≡ true → (w.seats k).answers ≡ []
hears_none w k rule apart connected = by (cases_eq k 0)
  where
    by : (k ≡ 0) ⊎ (k ≢ 0) → (w.seats k).answers ≡ []
    by (inl first) = (rule.seats k).unheard first apart
    by (inr other) = absurd (both_ways (w.seats k).connected ((rule.seats k).may.follows other (rule.sides.apart apart).0) connected)

-- the donor isn't before the recipient's stage
pub reached : (w : World) → Rule w → w.sides.stage ≤ w.sides.at
reached w rule = by rule.sides.at
  where
    by : IsInStep w.sides.at w.sides.stage w.sides.acknowledged → w.sides.stage ≤ w.sides.at
    by (inl same) = omega (arith, same)
    by (inr next) = omega (arith, next.0)

-- the donor hasn't the present incarnation
abbrev pub IsBehind : Option Session → Reception → Type 0
IsBehind session r = IfSome session (λ s. s.incarnation < incarnation_of r.table)

module _ (session : Option Session) (r : Reception) (n : Network) (talks : IsTalking session r n) where
  -- what is seen now
  pub seen_now : IsSeen r.table session n talks.lines talks.known
  seen_now = talks.rounds.seen talks.known (λ stage small. refl)

  -- the recipient isn't after the donor
  pub phase_reached : phase_number r.table.phase ≤ stage_at session
  phase_reached = let w = seen_now.rounds in omega (arith, seen_now.view.table.stage, at_of (incarnation_of r.table) session w seen_now.view.donor, reached w seen_now.rule)

  -- THE SESSION of the donor from now on
  pub record Moves (s : Session) : Type 0 where
    pub own : IsSessionOf r s
    pub behind : s.incarnation < incarnation_of r.table
    pub later : stage_at session ≤ donor_stage s
    pub same : donor_stage s ≡ stage_at session → block_counts s.snap.list ≡ talks.known (donor_stage s)
    pub step : (counts : ℕ → List ℕ) (seen : IsSeen r.table session n talks.lines counts) → IsInStep (donor_stage s) seen.rounds.sides.stage seen.rounds.sides.acknowledged

  module _ (behind : IsBehind session r) (s : Session) (moves : Moves s) where
    abbrev now : ℕ → List ℕ
    now = put talks.known (donor_stage s) (block_counts s.snap.list)

    apart : (counts : ℕ → List ℕ) (seen : IsSeen r.table session n talks.lines counts) → seen.rounds.sides.met ≡ false
    apart counts seen = apart_of (incarnation_of r.table) session seen.rounds behind seen.view.donor

    -- what is known of the stages to which it had come stays
    still : (stage : ℕ) → stage ≤ stage_at session → now stage ≡ talks.known stage
    still stage small = by (put_cases talks.known (donor_stage s) (block_counts s.snap.list) stage)
      where
        by : ((stage ≡ donor_stage s) × (now stage ≡ block_counts s.snap.list)) ⊎ ((stage ≢ donor_stage s) × (now stage ≡ talks.known stage)) → now stage ≡ talks.known stage
        by (inl own) = own.1 ∙ moves.same (omega (arith, own.0, small, moves.later)) ∙ ap talks.known (sym own.0)
        by (inr other) = other.1

    -- ---- the lines

    line_at : (k : ℕ) (l : Line) → talks.lines k ≡ Some l → IsLine talks.known (list_in session) l (seen_now.rounds.seats k)
    line_at k l is = subst (λ (o : Option Line). IsSeat talks.known (list_in session) o (seen_now.rounds.seats k)) is (seen_now.view.seats k)

    idle : (k : ℕ) → IsServing (seen_now.rounds.seats k).core → ⊥
    idle k = serves_not seen_now.rounds k seen_now.rule (apart talks.known seen_now)

    quiet : (k : ℕ) (l : Line) → talks.lines k ≡ Some l → l.answers ≡ []
    quiet k l is = let line = line_at k l is in none_told talks.known l.answers (seen_now.rounds.seats k).answers line.answers (hears_none seen_now.rounds k seen_now.rule (apart talks.known seen_now) line.connected)

    stays : (k : ℕ) (c : Connection) (l : Line) → talks.lines k ≡ Some l → IsLineOf session r k c l → IsLineOf (Some s) r k c l
    stays k c l is of = record {
      held = of.held;
      cut = of.cut;
      doing = of.doing;
      binds = of.binds;
      live = of.live;
      over = of.over;
      answers = of.answers;
      asked = of.asked;
      given = subst (AllByRecursion (IsGiven (Some s) r)) (sym (quiet k l is)) tt;
    }

    at_now : (k : ℕ) (connection : Option ℕ) → IsAt session r n k connection (talks.lines k) → IsAt (Some s) r n k connection (talks.lines k)
    at_now k None h = h
    at_now k (Some own) h = (h.0, (h.1.0, h.1.1, h.1.2, h.1.3, stays k h.1.0 h.1.1 h.1.3 h.1.4))

    come : HaveCome (Some s) talks.lines
    come k = by (talks.lines k) refl
      where
        by : (o : Option Line) → talks.lines k ≡ o → IfSome o (λ (l : Line). HasComeTo s k l.doing)
        by None is = tt
        by (Some l) is = comes_to (list_in session) s k l.doing (seen_now.rounds.seats k).core (line_at k l is).core (idle k)

    -- ---- the rounds

    seat_now : (counts : ℕ → List ℕ) (o : Option Line) (y : Seat) → (IsServing y.core → ⊥) → IsSeat counts (list_in session) o y → IsSeat counts s.snap.list o y
    seat_now counts None y none is = is
    seat_now counts (Some l) y none is = record { connected = is.connected; cut = is.cut; commands = is.commands; answers = is.answers; core = core_any (list_in session) s.snap.list l.doing y.core is.core none }

    abbrev moved : World → World
    moved w = record w { late = w.late; sides = record w.sides { at = donor_stage s; owner = owner_of s } }

    module _ (counts : ℕ → List ℕ) (agrees : (stage : ℕ) → stage ≤ donor_stage s → counts stage ≡ now stage) where
      agreed : (stage : ℕ) → stage ≤ stage_at session → counts stage ≡ talks.known stage
      agreed stage small = agrees stage (omega (arith, small, moves.later)) ∙ still stage small

      old : IsSeen r.table session n talks.lines counts
      old = talks.rounds.seen counts agreed

      view : IsView counts r.table (Some s) talks.lines (moved old.rounds)
      view =
          let w = old.rounds in
          let t = old.view.table in
          record {
            table = record { some = t.some; tasks = t.tasks; limit = t.limit; losses = t.losses; stage = t.stage; joined = t.joined; chunks = t.chunks; size = t.size; taken = t.taken; seats = t.seats };
            donor = record {
              met = apart counts old ∙ sym (ne_eqb s.incarnation (incarnation_of r.table) (λ same. absurd (omega (arith, moves.behind, same))));
              at = refl;
              size = old.sizes (donor_stage s) ∙ ap places (agrees (donor_stage s) (omega arith) ∙ put_same talks.known (donor_stage s) (block_counts s.snap.list));
              owner = are_owned s moves.own.chunks;
            };
            seats = λ k. seat_now counts (talks.lines k) (w.seats k) (serves_not w k old.rule (apart counts old)) (old.view.seats k);
          }

      seen : IsSeen r.table (Some s) n talks.lines counts
      seen =
          let w = old.rounds in
          record {
            rounds = moved w;
            rule = keep_late w (donor_stage s) (owner_of s) w.late old.rule (apart counts old) (moves.step counts old);
            view = view;
            sizes = old.sizes;
            unsent = are_unsent s moves.own.chunks;
            past = old.past;
          }

    known : IsKnown r.table (Some s) n talks.lines now
    known = record {
      donor = put_same talks.known (donor_stage s) (block_counts s.snap.list);
      recipient = still (phase_number r.table.phase) phase_reached ∙ talks.rounds.recipient;
      seen = seen;
    }

    -- THE CLONE TALKS ON.
    pub moved_talks : IsTalking (Some s) r n
    moved_talks = record {
      own = moves.own;
      lines = talks.lines;
      at = λ k. at_now k (connection_of n k) (talks.at k);
      apart = talks.apart;
      come = come;
      few = talks.few;
      known = now;
      rounds = known;
    }
