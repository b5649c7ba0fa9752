-- A task takes the frame at the front of what lies unread, and the rounds go on with it.
use Rattle.std.proofs.Common.{ℕ, ◌≡◌, ◌∙◌, ◌+◌, ◌<◌, ◌≤◌, List, ◌∷◌, Bool, true, false, Option, Some, length, refl, sym, ap, subst, inl, arith}
use Rattle.std.specs.Prelude.{slice_get, slice_set, ◌==◌, ◌||◌, IfSome}
use Rattle.std.specs.List.{AllByRecursion}
use Rattle.clone_chunk.specs.Plans as plans
use Rattle.clone_chunk.specs.declared.copy_stage.CopyStage.{CopyStage}
use Rattle.clone_chunk.specs.declared.plan.StagePlan.{StagePlan}
use Rattle.clone_marks.specs.Blocks.{blocks_of, partials_of}
use Rattle.clone_session.specs.Cloning.{Session}
use Rattle.clone_wire.specs.declared.frame.Attempt.{Attempt}
use Rattle.clone_wire.specs.declared.frame.Frame.{Frame}
use Rattle.clone_wire.specs.declared.frame.Frame.TheVariants as frame
use Rattle.clone_wire.specs.declared.frame.Side.TheVariants.{Answer as ofDonor}
use Rattle.clone_tasks.specs.Awaiting.{awaits_end_of, awaits_stage, moves}
use Rattle.clone_tasks.specs.Losing.{kept_in}
use Rattle.clone_tasks.specs.Moves.{joined_by, served}
use Rattle.clone_tasks.specs.Rules.{sending_rule}
use Rattle.clone_tasks.specs.Tables.{is_running}
use Rattle.clone_tasks.specs.declared.rule.Rule.TheVariants.{Receive}
use Rattle.clone_tasks.specs.declared.standing.Standing.TheVariants.{Ready, Served}
use Rattle.clone_recipient.specs.Receptions.{Reception}
use Rattle.clone_network.specs.Connections.{Connection}
use Rattle.clone_network.specs.Networks.{Network, with_connection}
use Rattle.clone_rounds.specs.World.{put}
use Rattle.clone_rounds.proofs.Moving.{kept}
use Rattle.clone_view.specs.Frames.{answer_of}
use Rattle.clone_view.specs.Tables.{phase_number}
use Rattle.clone_view.specs.Views.{Follows, HasFront, Line, line_read}
use Rattle.clone_view.proofs.ViewSteps.{took_end, took_stage}
use Rattle.clone_paired.specs.Lines.{IsLineOf, connection_of}
use Rattle.clone_paired.specs.Paired.{IsReception, IsTalking}
use Rattle.clone_paired.specs.Seen.{AreUnsent, IsSeen, stage_at}
use Rattle.clone_paired.specs.Sessions.{HasComeTo, IsSessionOf}
use Rattle.clone_paired.specs.Speaking.{IsGiven}
use Rattle.clone_paired.specs.Unread.{Holds}
use Rattle.clone_paired.proofs.Changing.{past_with, talks_on}
use Rattle.clone_paired.proofs.Cuts.{had_small}
use Rattle.clone_paired.proofs.Keeping.{KeepsOwners, acks_as, task_keeps}
use Rattle.clone_paired.proofs.Sends.{some_as}
use Rattle.clone_paired.proofs.Transports.{line_as, past_as, session_as}

-- these bytes are left for the task
abbrev pub read_on : Connection → List ℕ → Connection
read_on at left = record at { to_task = left }

module _ (session : Option Session) (r : Reception) (n : Network) (own : IsReception r) (tasks : length n.seats ≡ r.table.count) (running : is_running r.table ≡ true) (talks : IsTalking session r n) (k number : ℕ) (at : Connection) (l : Line) (has : connection_of n k ≡ Some number) (there : slice_get n.connections number ≡ Some at) (line : talks.lines k ≡ Some l) (of : IsLineOf session r k at l) (receives : sending_rule r.table k ≡ Receive) (got : Frame) (more : List Frame) (left : List ℕ) (unread : l.answers ≡ got ∷ more) (holds : Holds ofDonor at.cut more left) where
  abbrev new : Connection
  new = read_on at left

  abbrev after : Line
  after = line_read l more

  abbrev m : Network
  m = with_connection number new n

  pub within : k < length r.table.standings
  within = let small : k < length n.seats = had_small n.seats k number has in omega (arith, small, tasks, own.bounded.places, own.bounded.tasks)

  -- the rounds have the frame at the front
  pub front : (counts : ℕ → List ℕ) (old : IsSeen r.table session n talks.lines counts) → HasFront counts r.table session talks.lines old.rounds k l got more
  front counts old = record { view = old.view; running = running; within = within; receives = receives; line = line; unread = unread }

  module _ (s : Reception) (session_is : s.table.session ≡ r.table.session) (version_is : s.table.version ≡ r.table.version) (count_is : s.table.count ≡ r.table.count) (losses_is : s.table.losses ≡ r.table.losses) (stay : (j : ℕ) (c : Connection) (y : Line) → talks.lines j ≡ Some y → IsLineOf session r j c y → IsLineOf session s j c y) (own_now : IfSome session (IsSessionOf s)) (few : s.table.joined ≡ false → length (partials_of s.table.marks) ≤ kept_in s.table.version) (recipient : talks.known (phase_number s.table.phase) ≡ blocks_of s.table.marks) (follows : (counts : ℕ → List ℕ) (old : IsSeen r.table session n talks.lines counts) → ((stage : ℕ) → stage ≤ stage_at session → counts stage ≡ talks.known stage) → Follows counts s.table session (put talks.lines k (Some after)) old.rounds) where
    line_new : IsLineOf session s k new after
    line_new =
        let old = stay k at l line of in
        record { held = old.held; cut = old.cut; doing = old.doing; binds = old.binds; live = old.live; over = old.over; answers = holds; asked = old.asked; given = (subst (AllByRecursion (IsGiven session s)) unread old.given).1 }

    seen_read : (counts : ℕ → List ℕ) → ((stage : ℕ) → stage ≤ stage_at session → counts stage ≡ talks.known stage) → IsSeen r.table session n talks.lines counts → IsSeen s.table session m (put talks.lines k (Some after)) counts
    seen_read counts agrees old =
        let here : Follows counts s.table session (put talks.lines k (Some after)) old.rounds = follows counts old agrees in
        let keep : KeepsOwners old.rounds here.0 = task_keeps old.rounds here.0 here.1 in
        record {
          rounds = here.0;
          rule = kept old.rounds here.0 old.rule (inl here.1);
          view = here.2;
          sizes = λ stage. ap (λ (f : ℕ → ℕ). f stage) keep.sides.size ∙ old.sizes stage;
          unsent = subst (AreUnsent session) (sym keep.owner) old.unsent;
          past = past_with session session r s n talks k number at new after has there s.table here.0.sides.acknowledged (λ other c is away. past_as r.table s.table old.rounds.sides.acknowledged here.0.sides.acknowledged session_is version_is count_is (omega (arith, losses_is)) (acks_as old.rounds here.0 (phase_number r.table.phase) (phase_number s.table.phase) old.view.table.stage here.2.table.stage keep.sides.acks) c (old.past other c is away));
        }

    come_read : IfSome session (λ (z : Session). HasComeTo z k l.doing)
    come_read = subst (λ (o : Option Line). IfSome o (λ (y : Line). IfSome session (λ (z : Session). HasComeTo z k y.doing))) line (talks.come k)

    -- THE FRAME WAS TAKEN.
    pub talks_read : IsTalking session s m
    talks_read = talks_on session session r s n talks k number at new after has there (ap (λ (x : ℕ). x + 1) losses_is) (λ j c y other at_j of_j. stay j c y at_j of_j) own_now few line_new talks.come come_read talks.known (record { donor = talks.rounds.donor; recipient = recipient; seen = λ counts agrees. seen_read counts agrees (talks.rounds.seen counts agrees) })

  -- ---- an END

  pub end_read : (attempt : Attempt) (stage : CopyStage) → got ≡ frame.End attempt stage → awaits_end_of r.table k stage ≡ true → IsTalking session (record r { table = served r.table k }) m
  end_read attempt stage is awaits = talks_read (record r { table = served r.table k }) refl refl refl refl (λ j c y at_j of_j. line_as r (slice_set r.table.standings k Served) r.table.floor r.table.joined (λ kept is. is) session j c y of_j) (some_as (session_as r (slice_set r.table.standings k Served) r.table.floor r.table.joined (λ kept is. is)) session talks.own) talks.few talks.rounds.recipient
      (λ counts old agrees. took_end counts r.table session talks.lines old.rounds k l got more (front counts old) stage (ap (answer_of counts) is) awaits)

  -- ---- a STAGE that leaves the recipient where it is

  joined_few : (r.table.joined || (k == 0)) ≡ false → r.table.joined ≡ false
  joined_few is = by r.table.joined (k == 0) is
    where
      by : (a b : Bool) → (a || b) ≡ false → a ≡ false
      by true b is = absurd (cc (is))
      by false b is = refl

  pub stage_read : (attempt : Attempt) (plan : StagePlan) → got ≡ frame.Stage attempt plan → awaits_stage r.table k (plans.stage_of plan) ≡ true → moves r.table k ≡ false → IsTalking session (record r { table = joined_by r.table k }) m
  stage_read attempt plan is awaits stays = talks_read (record r { table = joined_by r.table k }) refl refl refl refl (λ j c y at_j of_j. line_as r (slice_set r.table.standings k Ready) r.table.floor (r.table.joined || (k == 0)) (λ kept is. is) session j c y of_j) (some_as (session_as r (slice_set r.table.standings k Ready) r.table.floor (r.table.joined || (k == 0)) (λ kept is. is)) session talks.own) (λ joined. talks.few (joined_few joined)) talks.rounds.recipient
      (λ counts old agrees. took_stage counts r.table session talks.lines old.rounds k l got more (front counts old) (plans.stage_of plan) (ap (answer_of counts) is) awaits stays)
