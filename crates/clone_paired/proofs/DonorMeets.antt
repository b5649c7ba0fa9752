-- A donor's end of task 0's connection takes up an incarnation, in the recipient's stage or in the next one.
use Rattle.std.proofs.Common.{ℕ, suc, ◌≡◌, ◌≢◌, ◌∙◌, ◌⊎◌, ◌<◌, List, [], Bool, true, false, if◌then◌else◌, Option, None, Some, length, refl, sym, ap, subst, inl, inr, arith}
use Rattle.std.specs.Prelude.{◌==◌, IfSome}
use Rattle.std.specs.List.{All, AllByRecursion}
use Rattle.std.proofs.lemmas.Bool.{both_ways, cases_eq, eq-eqb}
use Rattle.clone_marks.specs.Blocks.{IsChunk}
use Rattle.clone_marks.specs.Counts.{block_counts}
use Rattle.clone_session.specs.Cloning.{Cloning, Session}
use Rattle.clone_session.specs.CloneCauses.{donor_stage}
use Rattle.clone_session.specs.Effects.{Tells as TellsInfo}
use Rattle.clone_session.specs.declared.caller.Caller.{Caller}
use Rattle.clone_session.specs.declared.info.StageInfo.{StageInfo}
use Rattle.clone_wire.specs.declared.frame.Frame.{Frame}
use Rattle.clone_wire.specs.declared.frame.Side.TheVariants.{Answer as ofDonor}
use Rattle.clone_stream.specs.Streams.{IsFrameOf}
use Rattle.clone_serve.specs.Telling.{stage_frame}
use Rattle.clone_serve.specs.declared.doing.Doing.TheVariants as doing
use Rattle.clone_tasks.specs.Tables.{incarnation_of}
use Rattle.clone_recipient.specs.Expecting.{fits}
use Rattle.clone_recipient.specs.Receptions.{Reception}
use Rattle.clone_network.specs.Connections.{Connection, is_open}
use Rattle.clone_network.specs.Networks.{Network, with_connection}
use Rattle.clone_rounds.specs.Fitting.{Renews}
use Rattle.clone_rounds.specs.Steps.{kept_of}
use Rattle.clone_rounds.specs.World.{First, Free, IsServing, Stage as StageAnswer, World, put}
use Rattle.clone_rounds.proofs.Talks.{Unread, asked_of, idle_of}
use Rattle.clone_view.specs.Donors.{AreOwned, IsDonor, IsSession}
use Rattle.clone_view.specs.Frames.{answer_of, command_of}
use Rattle.clone_view.specs.Rows.{places, taken_at}
use Rattle.clone_view.specs.Tables.{phase_number}
use Rattle.clone_view.specs.Views.{IsLine, Leads, Line, list_in}
use Rattle.clone_view.proofs.Meets.{met_here, met_next}
use Rattle.clone_paired.specs.Lines.{caller_of, connection_of}
use Rattle.clone_paired.specs.Own.{own_session}
use Rattle.clone_paired.specs.Paired.{HaveCome, IsTalking}
use Rattle.clone_paired.specs.Seen.{stage_at}
use Rattle.clone_paired.specs.Sessions.{HasComeTo, IsSessionOf}
use Rattle.clone_paired.specs.Speaking.{IsGiven}
use Rattle.clone_paired.proofs.Changing.{Stay}
use Rattle.clone_paired.proofs.DonorAnswers.{after, answered_on, told_line}
use Rattle.clone_paired.proofs.DonorMoves.{AreUnclaimed, Extends, Moves, come_idle, moved_talks, none_answered}
use Rattle.clone_paired.proofs.DonorReads.{Asks, HasRead, Stands, stands}
use Rattle.clone_paired.proofs.DonorStages.{stage_answered, stage_given}
use Rattle.clone_paired.proofs.DonorTurns.{Sees, first, sees, there_at, x}
use Rattle.clone_paired.proofs.Linked.{Linked, seat_of}

pub at_of : (incarnation : ℕ) (session : Option Session) (w : World) → IsDonor incarnation session w → w.sides.at ≡ stage_at session
at_of incarnation None w is = is.1
at_of incarnation (Some s) w is = is.at

-- WHAT THE SESSION HAS: in the recipient's stage what was taken, and in the next one nothing.
pub data Takes (r : Reception) (before : ℕ) (now : Session) : Type 0 where
  level : 0 < before → before ≡ phase_number r.table.phase → donor_stage now ≡ before → ((taken : ℕ → Bool) → ((place : ℕ) → place < places (block_counts now.snap.list) → taken place ≡ taken_at r.table.marks place) → AreOwned now (λ place. kept_of (taken place))) → Takes r before now
  ahead : (before ≡ suc (phase_number r.table.phase)) ⊎ ((before ≡ 0) × (phase_number r.table.phase ≡ 0)) → donor_stage now ≡ suc (phase_number r.table.phase) → AreOwned now (λ place. Free) → Takes r before now

-- THE SESSION IS OF THE PRESENT INCARNATION.
pub record IsRenewed (r : Reception) (known : ℕ → List ℕ) (session : Option Session) (now : Session) : Type 0 where
  pub own : IsSessionOf r now
  pub incarnation : now.incarnation ≡ incarnation_of r.table
  pub unclaimed : AreUnclaimed now
  pub extends : Extends known (stage_at session) (phase_number r.table.phase) now
  pub takes : Takes r (stage_at session) now

-- the donor has such a session
pub record Renewed (r : Reception) (known : ℕ → List ℕ) (session : Option Session) (c : Cloning) : Type 0 where
  pub now : Session
  pub is : own_session r.table.session c ≡ Some now
  pub of : IsRenewed r known session now

module _ (session : Option Session) (e : Cloning) (r : Reception) (n : Network) (tasks : length n.seats ≡ r.table.count) (talks : IsTalking session r n) (number : ℕ) (has : connection_of n 0 ≡ Some number) where
  abbrev here : Linked session r n talks.lines talks.known (first session r n tasks talks 0 number has).rounds 0
  here = x session r n tasks talks 0 number has

  abbrev world : World
  world = (first session r n tasks talks 0 number has).rounds

  module _ (live : is_open here.at ≡ true) (bound : here.at.doing ≡ doing.New) (command : Frame) (is_first : command_of command ≡ Some First) (left : List ℕ) (read : HasRead session r n tasks talks 0 number has command left) where
    see : Sees session r n tasks talks 0 number has talks.known world
    see = sees session r n tasks talks 0 number has talks.known (first session r n tasks talks 0 number has)

    asks : Asks world 0 First
    asks = read.sees talks.known world First see is_first

    renews : (counts : ℕ → List ℕ) (w : World) → Sees session r n tasks talks 0 number has counts w → Renews w.sides
    renews counts w s = (read.sees counts w First s is_first).accepts.0 refl

    -- the donor hasn't the incarnation yet
    pub apart : world.sides.met ≡ false
    apart = (renews talks.known world see).0

    -- it is in the recipient's stage, or in the next one
    pub levels : (stage_at session ≡ phase_number r.table.phase) ⊎ (stage_at session ≡ suc (phase_number r.table.phase))
    levels = by (renews talks.known world see).1
      where
        at_is : world.sides.at ≡ stage_at session
        at_is = at_of (incarnation_of r.table) session world see.view.donor

        by : (world.sides.at ≡ world.sides.stage) ⊎ (world.sides.at ≡ suc world.sides.stage) → (stage_at session ≡ phase_number r.table.phase) ⊎ (stage_at session ≡ suc (phase_number r.table.phase))
        by (inl same) = inl (sym at_is ∙ same ∙ see.view.table.stage)
        by (inr next) = inr (sym at_is ∙ next ∙ ap suc see.view.table.stage)

    -- what it has is of an earlier incarnation
    pub earlier : (s : Session) → session ≡ Some s → s.incarnation < incarnation_of r.table
    earlier s is =
        let own : IsSessionOf r s = subst (λ (o : Option Session). IfSome o (IsSessionOf r)) is talks.own in
        let of : IsSession (incarnation_of r.table) s world = subst (λ (o : Option Session). IsDonor (incarnation_of r.table) o world) is see.view.donor in
        let other : s.incarnation ≢ incarnation_of r.table = λ same. both_ways (s.incarnation == incarnation_of r.table) (sym of.met ∙ apart) (eq-eqb s.incarnation (incarnation_of r.table) same) in
        omega (arith, own.before, other)

    pub chunks_are : All IsChunk r.table.marks
    chunks_are = see.view.table.chunks

    pub copying : phase_number r.table.phase < 4
    copying = subst (λ (y : ℕ). y < 4) see.view.table.stage (see.rule.sides.apart apart).1

    pub unjoined : r.table.joined ≡ false
    unjoined = sym see.view.table.joined ∙ (see.rule.sides.apart apart).0

    -- no other task is connected
    none_else : (j : ℕ) (y : Line) → j ≢ 0 → talks.lines j ≡ Some y → ⊥
    none_else j y other is =
        let y_is : IsLine talks.known (list_in session) y (world.seats j) = seat_of session r n talks.lines talks.known world talks.at see.view j (Some y) is in
        both_ways (world.seats j).connected ((see.rule.seats j).may.follows other (see.rule.sides.apart apart).0) y_is.connected

    pub quiet : here.l.answers ≡ []
    quiet = none_answered talks.known here.l.answers (world.seats 0).answers see.line.answers asks.quiet

    idle : IsServing (world.seats 0).core → ⊥
    idle =
        let unread : Unread world.sides (world.seats 0) First [] = asked_of world.sides 0 (world.seats 0) First [] ((see.rule.seats 0).talk see.linked.connected) asks.front in
        idle_of world.sides 0 (world.seats 0) ((see.rule.seats 0).talk see.linked.connected) (λ is. cc (is, unread.2.0))

    module _ (caller : Caller) (caller_is : caller ≡ caller_of r.table 0) (now : Session) (new : IsRenewed r talks.known session now) (is : own_session r.table.session e ≡ Some now) (info : StageInfo) (tells : TellsInfo e info) (fit : fits info.plan ≡ true) (of_told : IsFrameOf ofDonor (stage_frame info)) where
      abbrev told : Frame
      told = stage_frame info

      abbrev pub met_on : Connection
      met_on = answered_on session r n tasks talks 0 number has live command left read caller caller_is told of_told

      abbrev line : Line
      line = after session r n tasks talks 0 number has live command left read caller caller_is told of_told

      so : Stands r.table.session e now
      so = stands r.table.session e now is

      given : IsGiven (Some now) r told
      given = stage_given e so.full now so.there so.is r new.own new.incarnation info tells fit

      answered : (counts : ℕ → List ℕ) → answer_of counts told ≡ Some (StageAnswer (donor_stage now))
      answered counts = stage_answered e so.full now so.there so.is r new.own new.incarnation info tells fit counts

      doing_so : here.l.doing ≡ doing.New
      doing_so = here.of.doing ∙ ap (λ (b : Bool). if b then here.at.doing else doing.Over) live ∙ bound

      stay : Stay session (Some now) r r n talks 0 number here.at met_on line has (there_at session r n tasks talks 0 number has)
      stay j c y other is_line of_line = absurd (none_else j y other is_line)

      come : HaveCome (Some now) talks.lines
      come task = by (talks.lines task) refl (cases_eq task 0)
        where
          by : (o : Option Line) → talks.lines task ≡ o → (task ≡ 0) ⊎ (task ≢ 0) → IfSome o (λ l. HasComeTo now task l.doing)
          by None none which = tt
          by (Some l) some (inr other) = absurd (none_else task l other some)
          by (Some l) some (inl zero_is) =
              let l_is : IsLine talks.known (list_in session) l (world.seats task) = seat_of session r n talks.lines talks.known world talks.at see.view task (Some l) some in
              come_idle (list_in session) now task l.doing (world.seats task).core l_is.core (subst (λ (i : ℕ). IsServing (world.seats i).core → ⊥) (sym zero_is) idle)

      moves : Moves session now r n tasks talks 0 number has met_on line
      moves counts w s size = by new.takes
        where
          at_is : w.sides.at ≡ stage_at session
          at_is = at_of (incarnation_of r.table) session w s.view.donor

          stage_is : w.sides.stage ≡ phase_number r.table.phase
          stage_is = s.view.table.stage

          by : Takes r (stage_at session) now → Leads counts r.table now (put talks.lines 0 (Some line)) w
          by (level some same stays owned) =
              let here_is : w.sides.at ≡ w.sides.stage = at_is ∙ same ∙ sym stage_is in
              let now_is : donor_stage now ≡ w.sides.at = stays ∙ sym at_is in
              let sized : w.sides.size w.sides.stage ≡ places (block_counts now.snap.list) = ap w.sides.size (sym here_is ∙ sym now_is) ∙ size in
              met_here counts r.table session now talks.lines w here.l command told caller s.view s.rule (renews counts w s).0 here.line doing_so read.is is_first new.incarnation here_is (omega (arith, some, at_is)) now_is size
              (owned w.sides.taken (λ place small. s.view.table.taken place (subst (λ (y : ℕ). place < y) (sym sized) small))) (answered counts)
          by (ahead which goes owned) =
              met_next counts r.table session now talks.lines w here.l command told caller s.view s.rule (renews counts w s).0 here.line doing_so read.is is_first new.incarnation (where_is which) (goes ∙ ap suc (sym stage_is)) size owned (answered counts)
            where
              where_is : (stage_at session ≡ suc (phase_number r.table.phase)) ⊎ ((stage_at session ≡ 0) × (phase_number r.table.phase ≡ 0)) → (w.sides.at ≡ suc w.sides.stage) ⊎ ((w.sides.at ≡ 0) × (w.sides.stage ≡ 0))
              where_is (inl next) = inl (at_is ∙ next ∙ ap suc (sym stage_is))
              where_is (inr none) = inr (at_is ∙ none.0, stage_is ∙ none.1)

      -- THE DONOR HAS THE INCARNATION, and its STAGE is sent.
      pub met_talks : IsTalking (Some now) r (with_connection number met_on n)
      met_talks =
          moved_talks session now r n tasks talks 0 number has met_on line new.unclaimed moves new.extends stay new.own
          (told_line session r n tasks talks 0 number has live command left read caller caller_is told of_told (Some now) (subst (AllByRecursion (IsGiven (Some now) r)) (sym quiet) tt) given)
          come tt
