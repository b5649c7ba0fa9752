-- A task sends a command over its connection.
use Rattle.std.proofs.Common.{ℕ, ◌≡◌, ◌∙◌, ◌<◌, List, ◌++◌, Bool, true, false, if◌then◌else◌, Option, None, Some, length, refl, sym, ap, subst, inl, arith}
use Rattle.std.specs.Prelude.{slice_get, not, ◌||◌, IfSome}
use Rattle.std.specs.List.{AllByRecursion}
use Rattle.clone_session.specs.Cloning.{Session}
use Rattle.clone_wire.specs.Spelling.{spelling}
use Rattle.clone_wire.specs.declared.frame.Frame.{Frame}
use Rattle.clone_wire.specs.declared.frame.Side.TheVariants.{Command as ofTask}
use Rattle.clone_stream.specs.Streams.{IsFrameOf}
use Rattle.clone_tasks.specs.Rules.{sending_rule}
use Rattle.clone_tasks.specs.Sending.{IsSent, after_sending}
use Rattle.clone_tasks.specs.Tables.{Table, is_running}
use Rattle.clone_tasks.specs.declared.rule.Rule.{Rule as TaskRule}
use Rattle.clone_tasks.specs.declared.standing.Standing.{Standing}
use Rattle.clone_recipient.specs.Receptions.{Reception}
use Rattle.clone_network.specs.Connections.{Connection, is_open, sent_behind, unread_then}
use Rattle.clone_network.specs.Networks.{Network, with_connection}
use Rattle.clone_rounds.specs.Steps.{sends}
use Rattle.clone_rounds.specs.World.{put}
use Rattle.clone_rounds.proofs.Moving.{kept}
use Rattle.clone_view.specs.Frames.{command_of}
use Rattle.clone_view.specs.Tables.{phase_number}
use Rattle.clone_view.specs.Views.{Follows, Line, line_sent}
use Rattle.clone_view.proofs.ViewSteps.{sent}
use Rattle.clone_paired.specs.Lines.{IsLineOf, connection_of, is_lost}
use Rattle.clone_paired.specs.Paired.{IsReception, IsTalking}
use Rattle.clone_paired.specs.Seen.{AreUnsent, IsSeen}
use Rattle.clone_paired.specs.Sessions.{HasComeTo}
use Rattle.clone_paired.specs.Speaking.{IsAsked}
use Rattle.clone_paired.specs.Unread.{Holds}
use Rattle.clone_paired.proofs.Changing.{past_with, talks_on}
use Rattle.clone_paired.proofs.Cuts.{had_small}
use Rattle.clone_paired.proofs.Keeping.{KeepsOwners, acks_as, task_keeps}
use Rattle.clone_paired.proofs.Linked.{Linked, linked_by}
use Rattle.clone_paired.proofs.Transports.{all_more, line_as, past_as, restood, session_as}
use Rattle.clone_paired.proofs.UnreadLemmas.{holds_sent}

pub some_as : {X : Type 0} {P Q : X → Type 0} → ((x : X) → P x → Q x) → (o : Option X) → IfSome o P → IfSome o Q
some_as so None h = h
some_as so (Some x) h = so x h

-- what a task sends is behind what its end hasn't read, or reaches nobody
abbrev pub sent_on : Connection → Frame → Connection
sent_on at next = record at { to_donor = if at.cut then at.to_donor else at.to_donor ++ spelling next }

live_sent : (cut : Bool) (frames : List Frame) (bytes : List ℕ) (next : Frame) → IsFrameOf ofTask next → Holds ofTask cut frames bytes → Holds ofTask cut (sends cut frames next) (if cut then bytes else bytes ++ spelling next)
live_sent true frames bytes next of h = h
live_sent false frames bytes next of h = holds_sent ofTask frames bytes next h of

all_sent : (P : Frame → Type 0) (cut : Bool) (frames : List Frame) (next : Frame) → AllByRecursion P frames → P next → AllByRecursion P (sends cut frames next)
all_sent P true frames next all own = all
all_sent P false frames next all own = all_more P frames next all own

or_none : (a : Bool) → (a || false) ≡ a
or_none true = refl
or_none false = refl

or_true : (a : Bool) → (a || true) ≡ true
or_true true = refl
or_true false = refl

cut_live : (at : Connection) → is_open at ≡ true → is_lost at ≡ at.cut
cut_live at is = ap (λ b. at.cut || not b) is ∙ or_none at.cut

cut_over : (at : Connection) → is_open at ≡ false → is_lost at ≡ true
cut_over at is = ap (λ b. at.cut || not b) is ∙ or_true at.cut

-- the bytes as the step has them
pub sent_bytes : (at : Connection) (next : Frame) (sent : List ℕ) → sent ≡ sent_behind (not at.cut) at.to_donor ++ spelling next → unread_then (not at.cut) at.to_donor sent ≡ (if at.cut then at.to_donor else at.to_donor ++ spelling next)
sent_bytes at next sent is = by at.cut is
  where
    by : (cut : Bool) → sent ≡ sent_behind (not cut) at.to_donor ++ spelling next → unread_then (not cut) at.to_donor sent ≡ (if cut then at.to_donor else at.to_donor ++ spelling next)
    by true is = refl
    by false is = is

module _ (session : Option Session) (r : Reception) (n : Network) (own : IsReception r) (tasks : length n.seats ≡ r.table.count) (running : is_running r.table ≡ true) (talks : IsTalking session r n) (k floor : ℕ) (which : TaskRule) (rule_is : sending_rule r.table k ≡ which) (next : Frame) (of : IsFrameOf ofTask next) (sent_is : IsSent which r.table k floor next) (command : command_of next ≡ None → ⊥) (standings : List Standing) (known_floor : Option ℕ) (keeps : (kept : ℕ) → r.table.floor ≡ Some kept → known_floor ≡ Some kept) (sets : after_sending which r.table k floor ≡ (restood r standings known_floor r.table.joined).table) (asked : IsAsked (restood r standings known_floor r.table.joined).table k next) where
  abbrev s : Reception
  s = restood r standings known_floor r.table.joined

  -- ---- over its connection
  module _ (number : ℕ) (has : connection_of n k ≡ Some number) where
    pub first : IsSeen r.table session n talks.lines talks.known
    first = talks.rounds.seen talks.known (λ stage small. refl)

    pub x : Linked session r n talks.lines talks.known first.rounds k
    x = linked_by session r n talks.lines talks.known first.rounds talks.at first.view k number has

    one : number ≡ x.number
    one = cc (has, x.has)

    pub there_at : slice_get n.connections number ≡ Some x.at
    there_at = ap (slice_get n.connections) one ∙ x.there

    abbrev new : Connection
    new = sent_on x.at next

    abbrev after : Line
    after = line_sent (Some x.l) next

    abbrev m : Network
    m = with_connection number new n

    old_line : IsLineOf session s k x.at x.l
    old_line = line_as r standings known_floor r.table.joined keeps session k x.at x.l x.of

    line_new : IsLineOf session s k new after
    line_new = record {
      held = x.of.held;
      cut = x.of.cut;
      doing = x.of.doing;
      binds = old_line.binds;
      live = λ is. subst (λ (c : Bool). Holds ofTask x.at.cut (sends c x.l.commands next) new.to_donor) (sym (x.of.cut ∙ cut_live x.at is)) (live_sent x.at.cut x.l.commands x.at.to_donor next of (x.of.live is));
      over = λ is. ap (λ (c : Bool). sends c x.l.commands next) (x.of.cut ∙ cut_over x.at is) ∙ x.of.over is;
      answers = x.of.answers;
      asked = all_sent (IsAsked s.table k) x.l.cut x.l.commands next old_line.asked asked;
      given = old_line.given;
    }

    within : k < length r.table.standings
    within = let small : k < length n.seats = had_small n.seats k number has in omega (arith, small, tasks, own.bounded.places, own.bounded.tasks)

    seen_sent : (counts : ℕ → List ℕ) → IsSeen r.table session n talks.lines counts → IsSeen s.table session m (put talks.lines k (Some after)) counts
    seen_sent counts old =
        let follows : Follows counts (after_sending which r.table k floor) session (put talks.lines k (Some (line_sent (talks.lines k) next))) old.rounds = sent counts r.table session talks.lines old.rounds old.view running k within which rule_is floor next sent_is command in
        let here : Follows counts s.table session (put talks.lines k (Some after)) old.rounds = subst (λ (t : Table). Follows counts t session (put talks.lines k (Some after)) old.rounds) sets (subst (λ (o : Option Line). Follows counts (after_sending which r.table k floor) session (put talks.lines k (Some (line_sent o next))) old.rounds) x.line follows) in
        let keep : KeepsOwners old.rounds here.0 = task_keeps old.rounds here.0 here.1 in
        record {
          rounds = here.0;
          rule = kept old.rounds here.0 old.rule (inl here.1);
          view = here.2;
          sizes = λ stage. ap (λ (f : ℕ → ℕ). f stage) keep.sides.size ∙ old.sizes stage;
          unsent = subst (AreUnsent session) (sym keep.owner) old.unsent;
          past = past_with session session r s n talks k number x.at new after has there_at s.table here.0.sides.acknowledged (λ other c is away. past_as r.table s.table old.rounds.sides.acknowledged here.0.sides.acknowledged refl refl refl (omega arith) (acks_as old.rounds here.0 (phase_number r.table.phase) (phase_number r.table.phase) old.view.table.stage here.2.table.stage keep.sides.acks) c (old.past other c is away));
        }

    come_sent : IfSome session (λ (z : Session). HasComeTo z k x.l.doing)
    come_sent = subst (λ (o : Option Line). IfSome o (λ (l : Line). IfSome session (λ (z : Session). HasComeTo z k l.doing))) x.line (talks.come k)

    pub talks_sent : IsTalking session s m
    talks_sent = talks_on session session r s n talks k number x.at new after has there_at refl (λ j c y other line of. line_as r standings known_floor r.table.joined keeps session j c y of) (some_as (session_as r standings known_floor r.table.joined keeps) session talks.own) talks.few line_new talks.come come_sent talks.known (record { donor = talks.rounds.donor; recipient = talks.rounds.recipient; seen = λ counts agrees. seen_sent counts (talks.rounds.seen counts agrees) })

    pub talks_sent_at : (at : Connection) → slice_get n.connections number ≡ Some at → IsTalking session s (with_connection number (sent_on at next) n)
    talks_sent_at at there = let same : x.at ≡ at = cc (there_at, there) in subst (λ (c : Connection). IsTalking session s (with_connection number (sent_on c next) n)) same talks_sent
