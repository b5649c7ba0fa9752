-- A donor's end of a task's connection closes it: to the rounds it is cut with no command, and its loop is over.
use Rattle.std.proofs.Common.{ℕ, ◌≡◌, ◌∙◌, ◌⊎◌, List, [], ◌++◌, Bool, true, false, if◌then◌else◌, Option, Some, length, refl, sym, ap, subst, inl, inr}
use Rattle.std.specs.Prelude.{not, ◌&&◌, ◌||◌}
use Rattle.std.specs.List.{AllByRecursion}
use Rattle.std.proofs.lemmas.Bool.{both_ways}
use Rattle.clone_chunk.specs.Stages.{copy_number}
use Rattle.clone_session.specs.Cloning.{Session}
use Rattle.clone_snapshot.specs.StageLists.{StageList}
use Rattle.clone_wire.specs.declared.frame.Frame.{Frame}
use Rattle.clone_wire.specs.declared.frame.Side.TheVariants.{Answer as ofDonor}
use Rattle.clone_serve.specs.Serving.{is_over}
use Rattle.clone_serve.specs.declared.doing.Doing.{Doing}
use Rattle.clone_serve.specs.declared.doing.Doing.TheVariants as doing
use Rattle.clone_serve.specs.declared.doing.Work.TheVariants.{Archive, Claim, Read, Weigh}
use Rattle.clone_recipient.specs.Receptions.{Reception}
use Rattle.clone_network.specs.Connections.{Connection, is_open}
use Rattle.clone_network.specs.Networks.{Network, with_connection}
use Rattle.clone_rounds.specs.Awaiting.{Rule, SeatRule}
use Rattle.clone_rounds.specs.Steps.{closing, cut_to}
use Rattle.clone_rounds.specs.World.{Answer, Core, IsLinked, IsLive, IsServing, New, Over, Ready, Seat, Serving, World, put, with_seat}
use Rattle.clone_rounds.proofs.Cutting.{keep_cuts}
use Rattle.clone_rounds.proofs.Puts.{put_same}
use Rattle.clone_rounds.proofs.Serving.{keep_fails, keep_finds_loss}
use Rattle.clone_rounds.proofs.TaskSteps.{keep}
use Rattle.clone_view.specs.Donors.{core_of, rest_at}
use Rattle.clone_view.specs.Frames.{AreAnswers, answer_of}
use Rattle.clone_view.specs.Views.{Line, list_in}
use Rattle.clone_paired.specs.Lines.{IsLineOf, connection_of}
use Rattle.clone_paired.specs.Paired.{IsTalking}
use Rattle.clone_paired.specs.Seen.{IsSeen}
use Rattle.clone_paired.specs.Sessions.{HasComeTo}
use Rattle.clone_paired.specs.Speaking.{IsGiven}
use Rattle.clone_paired.specs.Unread.{Holds}
use Rattle.clone_paired.proofs.Changing.{past_with, talks_on, view_seat}
use Rattle.clone_paired.proofs.Cuts.{Splits, all_front, split_seen}
use Rattle.clone_paired.proofs.DonorLosses.{for_some}
use Rattle.clone_paired.proofs.DonorTurns.{Sees, first, sees, there_at, x}
use Rattle.clone_paired.proofs.Linked.{Linked}

-- ---- in the rounds

serves_or : (core : Core) → IsServing core ⊎ (IsServing core → ⊥)
serves_or New = inr (λ h. h)
serves_or Ready = inr (λ h. h)
serves_or (Serving stage rest) = inl tt
serves_or Over = inr (λ h. h)

-- its loop is over, and these of its answers lie unread
abbrev pub shutting : Seat → List Answer → Seat
shutting s answers = record (closing s) { answers = answers }

module _ (w : World) (k : ℕ) (answers gone : List Answer) (rule : Rule w) (linked : IsLinked w k) (live : IsLive (w.seats k).core) (are : (w.seats k).answers ≡ answers ++ gone) where
  abbrev cut_seat : Seat
  cut_seat = cut_to (w.seats k) [] answers

  abbrev cut_world : World
  cut_world = with_seat w k cut_seat

  cut_rule : Rule cut_world
  cut_rule = keep_cuts w k [] answers (w.seats k).commands gone rule linked refl are

  there : cut_world.seats k ≡ cut_seat
  there = put_same w.seats k cut_seat

  cut_linked : IsLinked cut_world k
  cut_linked = record { task = linked.task; connected = ap (λ (s : Seat). s.connected) there ∙ linked.connected }

  -- it is over, whether an EXECUTE was served or not
  over_rule : IsServing (w.seats k).core ⊎ (IsServing (w.seats k).core → ⊥) → SeatRule w.sides k (shutting (w.seats k) answers)
  over_rule (inl serving) =
      let fails = keep_fails cut_world k cut_rule (record { linked = cut_linked; serving = subst (λ (s : Seat). IsServing s.core) (sym there) serving }) in
      subst (SeatRule w.sides k) (put_same cut_world.seats k (closing (cut_world.seats k)) ∙ ap closing there) (fails.seats k)
  over_rule (inr idle) =
      let finds = keep_finds_loss cut_world k cut_rule (record {
        linked = cut_linked;
        live = subst (λ (s : Seat). IsLive s.core) (sym there) live;
        idle = λ serves. idle (subst (λ (s : Seat). IsServing s.core) there serves);
        none = ap (λ (s : Seat). s.commands) there;
        cut = ap (λ (s : Seat). s.cut) there;
      }) in
      subst (SeatRule w.sides k) (put_same cut_world.seats k (record (cut_world.seats k) { core = Over }) ∙ ap (λ (s : Seat). record s { core = Over }) there) (finds.seats k)

  pub keep_shuts : Rule (with_seat w k (shutting (w.seats k) answers))
  keep_shuts = keep w k (shutting (w.seats k) answers) rule (over_rule (serves_or (w.seats k).core))

-- a loop that goes on goes on in the rounds too
pub live_core : (list : StageList) (d : Doing) (core : Core) → core_of list d ≡ Some core → is_over d ≡ false → IsLive core
live_core list doing.New core is on = let e : New ≡ core = cc (is) in subst IsLive e tt
live_core list (doing.Ready caller) core is on = let e : Ready ≡ core = cc (is) in subst IsLive e tt
live_core list (doing.Serving run Claim) core is on = let e : Serving (copy_number run.stage) [] ≡ core = cc (is) in subst IsLive e tt
live_core list (doing.Serving run (Read place again)) core is on = let e : Serving (copy_number run.stage) (rest_at list place) ≡ core = cc (is) in subst IsLive e tt
live_core list (doing.Serving run (Weigh chunk)) core is on = absurd (cc (is))
live_core list (doing.Serving run (Archive place limit)) core is on = absurd (cc (is))
live_core list doing.Over core is on = absurd (cc (on))
live_core list other core is on = absurd (cc (is))

goes_on : (lost over : Bool) → (not lost && not over) ≡ true → over ≡ false
goes_on false false is = refl
goes_on false true is = absurd (cc (is))
goes_on true over is = absurd (cc (is))

or_true : (a : Bool) → (a || true) ≡ true
or_true true = refl
or_true false = refl

-- ---- on the connection of a task

module _ (session : Option Session) (r : Reception) (n : Network) (tasks : length n.seats ≡ r.table.count) (talks : IsTalking session r n) (k number : ℕ) (has : connection_of n k ≡ Some number) where
  abbrev here : Linked session r n talks.lines talks.known (first session r n tasks talks k number has).rounds k
  here = x session r n tasks talks k number has

  -- THE END CLOSES IT, and these of the answers that were sent lie unread.
  module _ (live : is_open here.at ≡ true) (new : Connection) (held : new.held ≡ here.at.held) (over : is_open new ≡ false) (answers gone : List Frame) (are : here.l.answers ≡ answers ++ gone) (holds : Holds ofDonor new.cut answers new.to_task) where
    abbrev after : Line
    after = record { cut = true; commands = []; answers = answers; doing = doing.Over }

    doing_is : here.l.doing ≡ here.at.doing
    doing_is = here.of.doing ∙ ap (λ (b : Bool). if b then here.at.doing else doing.Over) live

    of_new : IsLineOf session r k new after
    of_new = record {
      held = held ∙ here.of.held;
      cut = sym (ap (λ (b : Bool). new.cut || not b) over ∙ or_true new.cut);
      doing = sym (ap (λ (b : Bool). if b then new.doing else doing.Over) over);
      binds = tt;
      live = λ is. absurd (both_ways (is_open new) over is);
      over = λ is. refl;
      answers = holds;
      asked = tt;
      given = all_front (IsGiven session r) answers gone (subst (AllByRecursion (IsGiven session r)) are here.of.given);
    }

    abbrev m : Network
    m = with_connection number new n

    seen_shut : (counts : ℕ → List ℕ) → IsSeen r.table session n talks.lines counts → IsSeen r.table session m (put talks.lines k (Some after)) counts
    seen_shut counts old = by (sees session r n tasks talks k number has counts old)
      where
        by : Sees session r n tasks talks k number has counts old.rounds → IsSeen r.table session m (put talks.lines k (Some after)) counts
        by s =
            let split : Splits (answer_of counts) answers (old.rounds.seats k).answers = split_seen (answer_of counts) answers gone (old.rounds.seats k).answers (subst (λ (f : List Frame). AreAnswers counts f (old.rounds.seats k).answers) are s.line.answers) in
            let core : core_of (list_in session) here.at.doing ≡ Some (old.rounds.seats k).core = ap (core_of (list_in session)) (sym doing_is) ∙ s.line.core in
            let standing = old.view.table.seats k in
            record {
              rounds = with_seat old.rounds k (shutting (old.rounds.seats k) split.kept);
              rule = keep_shuts old.rounds k split.kept split.lost old.rule s.linked (live_core (list_in session) here.at.doing (old.rounds.seats k).core core (goes_on here.at.found_lost (is_over here.at.doing) live)) split.are;
              view = view_seat counts r session talks.lines old.rounds k after (shutting (old.rounds.seats k) split.kept) old.view (record { connected = standing.connected; awaits = standing.awaits; ended = standing.ended }) (record { connected = s.line.connected; cut = refl; commands = refl; answers = split.of; core = refl });
              sizes = old.sizes;
              unsent = old.unsent;
              past = past_with session session r r n talks k number here.at new after has (there_at session r n tasks talks k number has) r.table old.rounds.sides.acknowledged old.past;
            }

    pub closed_talks : IsTalking session r m
    closed_talks = talks_on session session r r n talks k number here.at new after has (there_at session r n tasks talks k number has) refl (λ j c y other line own. own) talks.own talks.few of_new talks.come (for_some (λ (s : Session). HasComeTo s k doing.Over) (λ s. tt) session) talks.known (record { donor = talks.rounds.donor; recipient = talks.rounds.recipient; seen = λ counts agrees. seen_shut counts (talks.rounds.seen counts agrees) })
