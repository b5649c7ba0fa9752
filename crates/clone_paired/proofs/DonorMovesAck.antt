-- A donor's end of task 0's connection answers an acknowledgement by the next stage.
use Rattle.std.proofs.Common.{ℕ, suc, ◌≡◌, ◌≢◌, ◌∙◌, ◌⊎◌, ◌+◌, ◌<◌, ◌≤◌, List, [], Bool, true, false, if◌then◌else◌, Option, None, Some, Ok, Err, length, nat_le, nat_lt, refl, sym, ap, subst, inl, inr, arith}
use Rattle.std.specs.Prelude.{not, ◌==◌, ◌&&◌, ◌||◌, IfSome, ⊤}
use Rattle.std.specs.Option.{option_map_or, option_or}
use Rattle.std.specs.List.{AllByRecursion}
use Rattle.std.proofs.lemmas.Bool.{both_ways, eq-eqb, le-ltb}
use Rattle.clone_chunk.specs.Chunks.{left_of}
use Rattle.clone_chunk.specs.Plans as plans
use Rattle.clone_chunk.specs.Stages.{copy_number, stage_number}
use Rattle.clone_chunk.specs.declared.cause.CloneCause.{CloneCause}
use Rattle.clone_chunk.specs.declared.cause.CloneCause.TheVariants.{ChunksLeft, FloorAhead, NoSuchSession, StageMismatch}
use Rattle.clone_chunk.specs.declared.copy_stage.CopyStage.{CopyStage}
use Rattle.clone_chunk.specs.declared.copy_stage.CopyStage.TheVariants as copy
use Rattle.clone_snapshot.specs.Resets.{IsReset}
use Rattle.clone_snapshot.specs.Snaps.{Snap}
use Rattle.clone_session.specs.Cloning.{Cloning, IsCloning, Session}
use Rattle.clone_session.specs.CloneCauses.{acknowledgement_cause, chunks_left, donor_stage, floor_ahead, is_acknowledged, out_of_stage, session_of, stale, whether}
use Rattle.clone_session.specs.Effects.{Becomes, Tells as TellsInfo, advanced}
use Rattle.clone_session.specs.declared.caller.Caller.{Caller}
use Rattle.clone_session.specs.declared.info.StageInfo.{StageInfo}
use Rattle.clone_session.specs.declared.refusal.CloneRefusal.TheVariants.{Because, NoMemory}
use Rattle.clone_wire.specs.declared.frame.Frame.{Frame}
use Rattle.clone_wire.specs.declared.frame.Frame.TheVariants as frame
use Rattle.clone_wire.specs.declared.frame.Side.TheVariants.{Answer as ofDonor}
use Rattle.clone_stream.specs.Streams.{IsFrameOf}
use Rattle.clone_calls.specs.declared.answer.DonorAnswer.{DonorAnswer}
use Rattle.clone_calls.specs.declared.answer.DonorAnswer.TheVariants as reply
use Rattle.clone_calls.specs.declared.call.DonorCall.TheVariants as call
use Rattle.clone_serve.specs.Following as following
use Rattle.clone_serve.specs.Telling.{stage_frame}
use Rattle.clone_serve.specs.declared.after.After.TheVariants.{Ends}
use Rattle.clone_serve.specs.declared.doing.Doing.{Doing}
use Rattle.clone_serve.specs.declared.doing.Doing.TheVariants as doing
use Rattle.clone_serve.specs.declared.turn.ServeAnswer.{ServeAnswer}
use Rattle.clone_serve.specs.declared.turn.ServeAnswer.TheVariants as says
use Rattle.clone_tasks.specs.Tables.{incarnation_of}
use Rattle.clone_recipient.specs.Expecting.{fits}
use Rattle.clone_recipient.specs.Receptions.{Reception}
use Rattle.clone_network.specs.Connections.{Connection, is_open}
use Rattle.clone_network.specs.Networks.{Network, with_connection}
use Rattle.clone_engine.specs.Answering.{Answered}
use Rattle.clone_engine.specs.Copying.{moment_of}
use Rattle.clone_engine.specs.Donor.{Donor, known_files}
use Rattle.clone_rounds.specs.World.{Acknowledge, Free, NoneLeft, Stage as StageAnswer, World}
use Rattle.clone_rounds.proofs.Talks.{Unread, asked_of, idle_of}
use Rattle.clone_view.specs.Donors.{AreOwned, IsDonor, IsSession}
use Rattle.clone_view.specs.Frames.{answer_of}
use Rattle.clone_view.specs.Tables.{phase_number}
use Rattle.clone_view.specs.Views.{IsLine, IsView, Line, list_in}
use Rattle.clone_view.proofs.Meets.{agreed, begun_owned}
use Rattle.clone_paired.specs.Lines.{IsLineOf, caller_of, connection_of}
use Rattle.clone_paired.specs.Own.{own_session}
use Rattle.clone_paired.specs.Paired.{HaveCome, IsTalking}
use Rattle.clone_paired.specs.Seen.{AreUnsent, stage_at}
use Rattle.clone_paired.specs.Sessions.{HasComeTo, IsSessionOf}
use Rattle.clone_paired.specs.Speaking.{IsAsked, IsGiven}
use Rattle.clone_paired.proofs.Changing.{Stay}
use Rattle.clone_paired.proofs.DonorAnswers.{after, answered_on, told_line}
use Rattle.clone_paired.proofs.DonorExecutes.{Present, not_stale}
use Rattle.clone_paired.proofs.DonorMoves.{AreUnclaimed, Extends, Moves, come_idle, moved_talks, none_answered}
use Rattle.clone_paired.proofs.DonorMovesBlocks.{begun_reset, reset_unclaimed}
use Rattle.clone_paired.proofs.DonorMovesOn.{IsNextOf, MovesOn, moves_on, next_is, none_left}
use Rattle.clone_paired.proofs.DonorReads.{Asks, HasRead, Stands, bare, stands}
use Rattle.clone_paired.proofs.DonorRepeats.{caller_is, here_now}
use Rattle.clone_paired.proofs.DonorStages.{stage_answered, stage_given}
use Rattle.clone_paired.proofs.DonorTurns.{Sees, first, sees, there_at, x}
use Rattle.clone_paired.proofs.Linked.{Linked, seat_of}
use Rattle.clone_paired.proofs.Transports.{all_as}

-- ---- nothing is against it

copy_within : (stage : CopyStage) (b : Bool) → (nat_le 1 (copy_number stage) && nat_le (copy_number stage) 3 && b) ≡ b
copy_within copy.FileCopy b = refl
copy_within copy.PageCopy b = refl
copy_within copy.RedoCopy b = refl

copy_few : (stage : CopyStage) → copy_number stage ≤ 3
copy_few copy.FileCopy = omega arith
copy_few copy.PageCopy = omega arith
copy_few copy.RedoCopy = omega arith

-- the floor of the copy of pages isn't past the position
abbrev pub IsBehind : CopyStage → (floor position : ℕ) → Type 0
IsBehind copy.FileCopy floor position = ⊤
IsBehind copy.PageCopy floor position = floor ≤ position
IsBehind copy.RedoCopy floor position = ⊤

none_ahead : (stage : CopyStage) (s : Session) (floor position : ℕ) → IsBehind stage floor position → floor_ahead s (copy_number stage) floor position ≡ None
none_ahead copy.FileCopy s floor position behind = refl
none_ahead copy.RedoCopy s floor position behind = refl
none_ahead copy.PageCopy s floor position behind = by (donor_stage s == 2) (nat_lt position floor) (le-ltb position floor behind)
  where
    by : (a b : Bool) → b ≡ false → whether (a && b) (FloorAhead floor position) ≡ None
    by true b is = ap (λ (y : Bool). whether y (FloorAhead floor position)) is
    by false b is = refl

agree_fine : (stage : CopyStage) (number incarnation task floor position : ℕ) (c : Cloning) (s : Session) → Stands number c s → s.incarnation ≡ incarnation → copy_number stage ≡ donor_stage s → left_of s.snap.chunks ≡ 0 → IsBehind stage floor position → acknowledgement_cause c (record { session = number; incarnation = incarnation; task = task }) (copy_number stage) floor position ≡ None
agree_fine stage number incarnation task floor position c s st own level none behind =
    ap (λ (o : Option Session). option_map_or (λ (y : Session). option_or (stale y incarnation) (option_or (out_of_stage y n) (option_or (chunks_left y n) (floor_ahead y n floor position)))) o (Some NoSuchSession)) st.found
    ∙ ap (λ (o : Option CloneCause). option_or o (option_or (out_of_stage f n) (option_or (chunks_left f n) (floor_ahead f n floor position)))) (not_stale f incarnation (sym (ap (λ (y : Session). y.incarnation) st.is) ∙ own))
    ∙ ap (λ (b : Bool). option_or (whether (not b) (StageMismatch (donor_stage f) n)) (option_or (chunks_left f n) (floor_ahead f n floor position))) acknowledged
    ∙ ap (λ (b : Bool). option_or (whether b (ChunksLeft (left_of f.snap.chunks))) (floor_ahead f n floor position)) all
    ∙ none_ahead stage f floor position behind
  where
    n : ℕ
    n = copy_number stage

    f : Session
    f = st.full

    same : (n == donor_stage f) ≡ true
    same = eq-eqb n (donor_stage f) (level ∙ ap donor_stage st.is)

    acknowledged : is_acknowledged f n ≡ true
    acknowledged = copy_within stage ((n == donor_stage f) || (n + 1 == donor_stage f)) ∙ ap (λ (b : Bool). b || (n + 1 == donor_stage f)) same

    all : ((n == donor_stage f) && not (left_of f.snap.chunks == 0)) ≡ false
    all = ap (λ (b : Bool). b && not (left_of f.snap.chunks == 0)) same ∙ ap not (eq-eqb (left_of f.snap.chunks) 0 (sym (ap (λ (y : Session). left_of y.snap.chunks) st.is) ∙ none))

-- ---- what the donor answers

pub record Agreed (d t : Donor) (number : ℕ) (caller : Caller) (s : Session) (next : Doing) (sends : Option Frame) : Type 0 where
  pub moves : MovesOn number t.cloning s
  pub info : StageInfo
  pub tells : TellsInfo t.cloning info
  pub next_is : next ≡ doing.Ready caller
  pub sends_is : sends ≡ Some (stage_frame info)

module _ (d t : Donor) (number : ℕ) (caller : Caller) (stage : CopyStage) (floor : ℕ) (full : Session) (found : session_of d.cloning number ≡ Some full) (there : d.cloning.session ≡ Some full) (own : full.number ≡ number) (same : caller.session ≡ number) (level : copy_number stage ≡ donor_stage full) (cloning : IsCloning d.cloning) where
  advanced_by : (b : Bool) → (copy_number stage == donor_stage full) ≡ b → Becomes t.cloning (if b then advanced (moment_of d.engine) (known_files d.engine) full full.snap.list d.cloning else d.cloning) → MovesOn number t.cloning (bare full)
  advanced_by true is becomes = moves_on number (moment_of d.engine) (known_files d.engine) full d.cloning t.cloning there own cloning (let few = copy_few stage in omega (arith, few, level)) becomes
  advanced_by false is becomes = absurd (both_ways (copy_number stage == donor_stage full) is (eq-eqb (copy_number stage) (donor_stage full) level))

  pub agreed_as : acknowledgement_cause d.cloning caller (copy_number stage) floor (moment_of d.engine).position ≡ None → (next : Doing) (sends : Option Frame) (spoke : ServeAnswer) → spoke ≢ says.NoMemory → (given : DonorAnswer) → Answered (call.Ack caller (copy_number stage) floor) given d t → following.after (doing.Telling caller) given ≡ Some (Ends next sends spoke) → Agreed d t number caller (bare full) next sends
  agreed_as fine next sends spoke fit (reply.Ack (Ok info)) did is =
      let a = did.1.acknowledges in
      let one : a.0 ≡ full = cc (a.1, ap (session_of d.cloning) same, found) in
      record {
        moves = advanced_by (copy_number stage == donor_stage full) refl (subst (λ (y : Session). Becomes t.cloning (if copy_number stage == donor_stage y then advanced (moment_of d.engine) (known_files d.engine) y y.snap.list d.cloning else d.cloning)) one a.2);
        info = info;
        tells = a.3;
        next_is = sym (cc (is));
        sends_is = sym (cc (is));
      }
  agreed_as fine next sends spoke fit (reply.Ack (Err (Because why))) did is = absurd (cc (fine, did.0))
  agreed_as fine next sends spoke fit (reply.Ack (Err NoMemory)) did is = absurd (fit (sym (cc (is))))
  agreed_as fine next sends spoke fit given did is = absurd did

-- ---- what was given before is given still

given_later : (r : Reception) (s now : Session) → donor_stage s < donor_stage now → (f : Frame) → IsGiven (Some s) r f → IsGiven (Some now) r f
given_later r s now less (frame.Stage attempt plan) is =
    let small : stage_number (plans.stage_of plan) ≤ donor_stage s = is.3 in
    (is.0, is.1, (λ same. absurd (omega (arith, small, less, same))), omega (arith, small, less))
given_later r s now less (frame.Pages attempt stage chunk block pages) is = is
given_later r s now less (frame.Redo attempt chunk block from bytes) is = is
given_later r s now less (frame.End attempt stage) is = is
given_later r s now less other is = absurd is

pub line_later : (r : Reception) (s now : Session) → donor_stage s < donor_stage now → (j : ℕ) (at : Connection) (l : Line) → IsLineOf (Some s) r j at l → IsLineOf (Some now) r j at l
line_later r s now less j at l is = record { held = is.held; cut = is.cut; doing = is.doing; binds = is.binds; live = is.live; over = is.over; answers = is.answers; asked = is.asked; given = all_as (given_later r s now less) l.answers is.given }

-- ---- task 0's connection

module _ (d t : Donor) (r : Reception) (n : Network) (tasks : length n.seats ≡ r.table.count) where
  abbrev session : Option Session
  session = own_session r.table.session d.cloning

  module _ (talks : IsTalking session r n) (number : ℕ) (has : connection_of n 0 ≡ Some number) where
    abbrev here : Linked session r n talks.lines talks.known (first session r n tasks talks 0 number has).rounds 0
    here = x session r n tasks talks 0 number has

    abbrev world : World
    world = (first session r n tasks talks 0 number has).rounds

    module _ (live : is_open here.at ≡ true) (caller : Caller) (bound : here.at.doing ≡ doing.Ready caller) (stage : CopyStage) (floor : ℕ) (left : List ℕ) (read : HasRead session r n tasks talks 0 number has (frame.Ack stage floor) left) where
      abbrev p : Present session r.table world
      p = here_now d t r n tasks talks 0 number has live caller bound stage floor left read

      pub caller_so : caller ≡ caller_of r.table 0
      caller_so = caller_is d t r n tasks talks 0 number has live caller bound stage floor left read

      see : Sees session r n tasks talks 0 number has talks.known world
      see = sees session r n tasks talks 0 number has talks.known (first session r n tasks talks 0 number has)

      asks : Asks world 0 (Acknowledge (copy_number stage))
      asks = read.sees talks.known world (Acknowledge (copy_number stage)) see refl

      st : Stands r.table.session d.cloning p.s
      st = stands r.table.session d.cloning p.s p.is

      own : IsSessionOf r p.s
      own = subst (λ (o : Option Session). IfSome o (IsSessionOf r)) p.is talks.own

      of : IsSession (incarnation_of r.table) p.s world
      of = subst (λ (o : Option Session). IsDonor (incarnation_of r.table) o world) p.is see.view.donor

      unread : Unread world.sides (world.seats 0) (Acknowledge (copy_number stage)) []
      unread = asked_of world.sides 0 (world.seats 0) (Acknowledge (copy_number stage)) [] ((see.rule.seats 0).talk see.linked.connected) asks.front

      acknowledged : world.sides.acknowledged ≡ true
      acknowledged = ((see.rule.seats 0).may.acknowledges unread.2.0).1

      -- the donor's stage
      module _ (same : copy_number stage ≡ donor_stage p.s) where
        level : phase_number r.table.phase ≡ donor_stage p.s
        level = sym see.view.table.stage ∙ sym unread.2.2 ∙ same

        none : NoneLeft world.sides
        none = by asks.accepts.2
          where
            by : ((copy_number stage ≡ world.sides.at) × NoneLeft world.sides) ⊎ (suc (copy_number stage) ≡ world.sides.at) → NoneLeft world.sides
            by (inl e) = e.1
            by (inr e) = absurd (omega (arith, e, p.at, same))

        finished : left_of p.s.snap.chunks ≡ 0
        finished = none_left p.s (incarnation_of r.table) world of own.chunks (subst (λ (o : Option Session). AreUnsent o world.sides.owner) p.is (first session r n tasks talks 0 number has).unsent) none

        behind_by : (at : CopyStage) → at ≡ stage → (position : ℕ) → ((kept : ℕ) → r.table.floor ≡ Some kept → kept ≤ position) → IsBehind at floor position
        behind_by copy.FileCopy is position low = tt
        behind_by copy.RedoCopy is position low = tt
        behind_by copy.PageCopy is position low = low floor (asked_floor stage (sym is) read.asked)
          where
            asked_floor : (at : CopyStage) → at ≡ copy.PageCopy → IsAsked r.table 0 (frame.Ack at floor) → r.table.floor ≡ Some floor
            asked_floor copy.PageCopy is asked = asked
            asked_floor copy.FileCopy is asked = absurd (cc (is))
            asked_floor copy.RedoCopy is asked = absurd (cc (is))

        pub agree_is_fine : ((kept : ℕ) → r.table.floor ≡ Some kept → kept ≤ (moment_of d.engine).position) → acknowledgement_cause d.cloning caller (copy_number stage) floor (moment_of d.engine).position ≡ None
        agree_is_fine low = ap (λ (y : Caller). acknowledgement_cause d.cloning y (copy_number stage) floor (moment_of d.engine).position) caller_so ∙ agree_fine stage r.table.session (incarnation_of r.table) 0 floor (moment_of d.engine).position d.cloning p.s st p.incarnation same finished (behind_by stage refl (moment_of d.engine).position low)

        -- THE DONOR IS IN THE NEXT STAGE, and its STAGE is sent.
        module _ (now : Session) (next : IsNextOf p.s now) (is : own_session r.table.session t.cloning ≡ Some now) (info : StageInfo) (tells : TellsInfo t.cloning info) (fit : fits info.plan ≡ true) (of_told : IsFrameOf ofDonor (stage_frame info)) where
          abbrev told : Frame
          told = stage_frame info

          abbrev pub agreed_on : Connection
          agreed_on = answered_on session r n tasks talks 0 number has live (frame.Ack stage floor) left read caller caller_so told of_told

          abbrev line : Line
          line = after session r n tasks talks 0 number has live (frame.Ack stage floor) left read caller caller_so told of_told

          own_now : IsSessionOf r now
          own_now = next_is r p.s now next own level

          present_now : now.incarnation ≡ incarnation_of r.table
          present_now = next.incarnation ∙ p.incarnation

          so : Stands r.table.session t.cloning now
          so = stands r.table.session t.cloning now is

          given : IsGiven (Some now) r told
          given = stage_given t.cloning so.full now so.there so.is r own_now present_now info tells fit

          answered : (counts : ℕ → List ℕ) → answer_of counts told ≡ Some (StageAnswer (donor_stage now))
          answered counts = stage_answered t.cloning so.full now so.there so.is r own_now present_now info tells fit counts

          quiet : here.l.answers ≡ []
          quiet = none_answered talks.known here.l.answers (world.seats 0).answers see.line.answers asks.quiet

          stay : Stay session (Some now) r r n talks 0 number here.at agreed_on line has (there_at session r n tasks talks 0 number has)
          stay j c y other is_line of_line = line_later r p.s now (omega (arith, next.next)) j c y (subst (λ (o : Option Session). IsLineOf o r j c y) p.is of_line)

          come : HaveCome (Some now) talks.lines
          come task = by (talks.lines task) refl
            where
              by : (o : Option Line) → talks.lines task ≡ o → IfSome o (λ l. HasComeTo now task l.doing)
              by None none = tt
              by (Some l) some =
                  let e : IsLine talks.known (list_in session) l (world.seats task) = seat_of session r n talks.lines talks.known world talks.at see.view task (Some l) some in
                  come_idle (list_in session) now task l.doing (world.seats task).core e.core (idle_of world.sides task (world.seats task) ((see.rule.seats task).talk e.connected) ((see.rule.seats task).may.endless acknowledged))

          moves : Moves session now r n tasks talks 0 number has agreed_on line
          moves counts w s size =
              agreed counts r.table p.s now talks.lines w here.l (frame.Ack stage floor) told caller
              (record { view = subst (λ (o : Option Session). IsView counts r.table o talks.lines w) p.is s.view; task = s.view.table.some; line = here.line; doing = doing_so; commands = read.is })
              s.rule (ap (λ (y : ℕ). Some (Acknowledge y)) same) next.incarnation next.next size owned (answered counts)
            where
              doing_so : here.l.doing ≡ doing.Ready caller
              doing_so = here.of.doing ∙ ap (λ (b : Bool). if b then here.at.doing else doing.Over) live ∙ bound

              owned : AreOwned now (λ place. Free)
              owned = begun_owned now next.list next.snap

          extends : Extends talks.known (stage_at session) (phase_number r.table.phase) now
          extends = subst (λ (o : Option Session). Extends talks.known (stage_at o) (phase_number r.table.phase) now) (sym p.is) (omega (arith, next.next), inr (omega (arith, next.next), λ same. omega (arith, same, level, next.next)))

          unclaimed : AreUnclaimed now
          unclaimed = reset_unclaimed next.list [] [] now (ap (λ (y : Snap). y.list) next.snap) (subst (λ (y : Snap). IsReset next.list [] [] y.chunks y.kept) (sym next.snap) (begun_reset next.list))

          pub agreed_talks : IsTalking (Some now) r (with_connection number agreed_on n)
          agreed_talks =
              moved_talks session now r n tasks talks 0 number has agreed_on line unclaimed moves extends stay own_now
              (told_line session r n tasks talks 0 number has live (frame.Ack stage floor) left read caller caller_so told of_told (Some now) (subst (AllByRecursion (IsGiven (Some now) r)) (sym quiet) tt) given)
              come tt
