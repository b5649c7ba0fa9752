-- A donor's end of a task's connection answers a repeated acknowledgement by its stage.
use Rattle.std.proofs.Common.{ℕ, suc, ◌≡◌, ◌≢◌, ◌∙◌, ◌⊎◌, ◌+◌, ◌<◌, List, [], ◌∷◌, Bool, true, false, if◌then◌else◌, Option, None, Some, Ok, Err, length, nat_le, nat_lt, refl, sym, ap, subst, inl, inr, arith}
use Rattle.std.specs.Prelude.{slice_get, not, ◌==◌, ◌&&◌, ◌||◌, IfSome}
use Rattle.std.specs.Option.{option_map_or, option_or}
use Rattle.std.proofs.lemmas.Bool.{both_ways, eq-eqb, eqb-true, ne_eqb}
use Rattle.clone_chunk.specs.Chunks.{left_of}
use Rattle.clone_chunk.specs.Stages.{copy_number}
use Rattle.clone_chunk.specs.declared.cause.CloneCause.{CloneCause}
use Rattle.clone_chunk.specs.declared.cause.CloneCause.TheVariants.{ChunksLeft, FloorAhead, NoSuchSession, StageMismatch}
use Rattle.clone_chunk.specs.declared.copy_stage.CopyStage.{CopyStage}
use Rattle.clone_chunk.specs.declared.copy_stage.CopyStage.TheVariants as copy
use Rattle.clone_session.specs.Cloning.{Cloning, Session}
use Rattle.clone_session.specs.CloneCauses.{acknowledgement_cause, chunks_left, donor_stage, floor_ahead, is_acknowledged, out_of_stage, session_of, stale, whether}
use Rattle.clone_session.specs.Effects.{Becomes, Tells as TellsInfo, advanced}
use Rattle.clone_session.specs.declared.caller.Caller.{Caller}
use Rattle.clone_session.specs.declared.info.StageInfo.{StageInfo}
use Rattle.clone_session.specs.declared.refusal.CloneRefusal.TheVariants.{Because, NoMemory}
use Rattle.clone_wire.specs.declared.frame.Frame.{Frame}
use Rattle.clone_wire.specs.declared.frame.Frame.TheVariants as frame
use Rattle.clone_wire.specs.declared.frame.Side.TheVariants.{Answer as ofDonor}
use Rattle.clone_stream.specs.Streams.{IsFrameOf}
use Rattle.clone_calls.specs.declared.answer.DonorAnswer.{DonorAnswer}
use Rattle.clone_calls.specs.declared.answer.DonorAnswer.TheVariants as reply
use Rattle.clone_calls.specs.declared.call.DonorCall.TheVariants as call
use Rattle.clone_serve.specs.Following as following
use Rattle.clone_serve.specs.Telling.{stage_frame}
use Rattle.clone_serve.specs.declared.after.After.TheVariants.{Ends}
use Rattle.clone_serve.specs.declared.doing.Doing.{Doing}
use Rattle.clone_serve.specs.declared.doing.Doing.TheVariants as doing
use Rattle.clone_serve.specs.declared.turn.ServeAnswer.{ServeAnswer}
use Rattle.clone_serve.specs.declared.turn.ServeAnswer.TheVariants as says
use Rattle.clone_tasks.specs.Tables.{Table, incarnation_of}
use Rattle.clone_recipient.specs.Expecting.{fits}
use Rattle.clone_recipient.specs.Receptions.{Reception}
use Rattle.clone_network.specs.Connections.{Connection, is_open}
use Rattle.clone_network.specs.Networks.{Network, with_connection}
use Rattle.clone_engine.specs.Answering.{Answered}
use Rattle.clone_engine.specs.Copying.{moment_of}
use Rattle.clone_engine.specs.Donor.{Donor, known_files}
use Rattle.clone_session.specs.declared.ending.Moment.{Moment}
use Rattle.clone_paired.proofs.DonorOthers.{becomes_own}
use Rattle.clone_rounds.specs.Steps.{DonorStep, Reads, answering, repeats}
use Rattle.clone_rounds.specs.World.{Acknowledge, Ready, World, with_seat}
use Rattle.clone_view.specs.Donors.{core_of}
use Rattle.clone_view.specs.Views.{list_in}
use Rattle.clone_paired.specs.Lines.{Binds, caller_of, connection_of}
use Rattle.clone_paired.specs.Own.{own_session}
use Rattle.clone_paired.specs.Paired.{IsTalking}
use Rattle.clone_paired.specs.Sessions.{IsSessionOf}
use Rattle.clone_paired.specs.Speaking.{IsGiven}
use Rattle.clone_paired.proofs.DonorAnswers.{answered_on, answered_talks}
use Rattle.clone_paired.proofs.DonorExecutes.{Present, not_stale, present}
use Rattle.clone_paired.proofs.DonorReads.{Asks, HasRead, Stands, stands}
use Rattle.clone_paired.proofs.DonorStages.{stage_answered, stage_given}
use Rattle.clone_paired.proofs.DonorTurns.{Sees, first, sees, x}
use Rattle.clone_paired.proofs.Linked.{Linked}

copy_first : (stage : CopyStage) → nat_le 1 (copy_number stage) ≡ true
copy_first copy.FileCopy = refl
copy_first copy.PageCopy = refl
copy_first copy.RedoCopy = refl

copy_last : (stage : CopyStage) → nat_le (copy_number stage) 3 ≡ true
copy_last copy.FileCopy = refl
copy_last copy.PageCopy = refl
copy_last copy.RedoCopy = refl

next_of : (a b : Bool) → b ≡ true → (a || b) ≡ true
next_of true b is = refl
next_of false b is = is

-- nothing is against an acknowledgement of the stage before the donor's
repeat_fine : (stage : CopyStage) (number incarnation task floor position : ℕ) (c : Cloning) (s : Session) → Stands number c s → s.incarnation ≡ incarnation → suc (copy_number stage) ≡ donor_stage s → acknowledgement_cause c (record { session = number; incarnation = incarnation; task = task }) (copy_number stage) floor position ≡ None
repeat_fine stage number incarnation task floor position c s st own before =
    ap (λ (o : Option Session). option_map_or (λ (y : Session). option_or (stale y incarnation) (option_or (out_of_stage y n) (option_or (chunks_left y n) (floor_ahead y n floor position)))) o (Some NoSuchSession)) st.found
    ∙ ap (λ (o : Option CloneCause). option_or o (option_or (out_of_stage f n) (option_or (chunks_left f n) (floor_ahead f n floor position)))) (not_stale f incarnation (sym (ap (λ (y : Session). y.incarnation) st.is) ∙ own))
    ∙ ap (λ (b : Bool). option_or (whether (not b) (StageMismatch (donor_stage f) n)) (option_or (chunks_left f n) (floor_ahead f n floor position))) acknowledged
    ∙ ap (λ (b : Bool). option_or (whether (b && not (left_of f.snap.chunks == 0)) (ChunksLeft (left_of f.snap.chunks))) (floor_ahead f n floor position)) other
    ∙ ahead (n == 2) refl
  where
    n : ℕ
    n = copy_number stage

    f : Session
    f = st.full

    is_next : suc (copy_number stage) ≡ donor_stage f
    is_next = before ∙ ap donor_stage st.is

    other : (n == donor_stage f) ≡ false
    other = ne_eqb n (donor_stage f) (λ same. omega (arith, same, is_next))

    acknowledged : is_acknowledged f n ≡ true
    acknowledged =
        ap (λ (b : Bool). b && nat_le n 3 && ((n == donor_stage f) || (n + 1 == donor_stage f))) (copy_first stage)
        ∙ ap (λ (b : Bool). b && ((n == donor_stage f) || (n + 1 == donor_stage f))) (copy_last stage)
        ∙ next_of (n == donor_stage f) (n + 1 == donor_stage f) (eq-eqb (n + 1) (donor_stage f) (omega (arith, is_next)))

    -- it isn't the copy of pages in which the donor is
    ahead : (b : Bool) → (n == 2) ≡ b → whether (b && (donor_stage f == 2) && nat_lt position floor) (FloorAhead floor position) ≡ None
    ahead false is = refl
    ahead true is = ap (λ (x : Bool). whether (x && nat_lt position floor) (FloorAhead floor position)) (ne_eqb (donor_stage f) 2 (λ same. omega (arith, same, is_next, eqb-true n 2 is)))

-- what the donor answers
pub record Repeated (d t : Donor) (number : ℕ) (caller : Caller) (next : Doing) (sends : Option Frame) : Type 0 where
  pub same : own_session number t.cloning ≡ own_session number d.cloning
  pub info : StageInfo
  pub tells : TellsInfo t.cloning info
  pub next_is : next ≡ doing.Ready caller
  pub sends_is : sends ≡ Some (stage_frame info)

own_number : (number stage : ℕ) (now : Moment) (files : List (ℕ × ℕ)) (c e : Cloning) (s : Session) → (stage == donor_stage s) ≡ false → Becomes e (if stage == donor_stage s then advanced now files s s.snap.list c else c) → own_session number e ≡ own_session number c
own_number number stage now files c e s other becomes = becomes_own number c e (subst (λ (b : Bool). Becomes e (if b then advanced now files s s.snap.list c else c)) other becomes)

pub repeated : (d t : Donor) (number : ℕ) (caller : Caller) (stage floor : ℕ) (next : Doing) (sends : Option Frame) (spoke : ServeAnswer) (full : Session) → session_of d.cloning caller.session ≡ Some full → (stage == donor_stage full) ≡ false → acknowledgement_cause d.cloning caller stage floor (moment_of d.engine).position ≡ None → spoke ≢ says.NoMemory → (given : DonorAnswer) → Answered (call.Ack caller stage floor) given d t → following.after (doing.Telling caller) given ≡ Some (Ends next sends spoke) → Repeated d t number caller next sends
repeated d t number caller stage floor next sends spoke full found other fine fit (reply.Ack (Ok info)) did is =
    let a = did.1.acknowledges in
    let same : a.0 ≡ full = cc (a.1, found) in
    record {
      same = own_number number stage (moment_of d.engine) (known_files d.engine) d.cloning t.cloning a.0 (ap (λ (y : Session). stage == donor_stage y) same ∙ other) a.2;
      info = info;
      tells = a.3;
      next_is = sym (cc (is));
      sends_is = sym (cc (is));
    }
repeated d t number caller stage floor next sends spoke full found other fine fit (reply.Ack (Err (Because why))) did is = absurd (cc (fine, did.0))
repeated d t number caller stage floor next sends spoke full found other fine fit (reply.Ack (Err NoMemory)) did is = absurd (fit (sym (cc (is))))
repeated d t number caller stage floor next sends spoke full found other fine fit given did is = absurd did

module _ (d t : Donor) (r : Reception) (n : Network) (tasks : length n.seats ≡ r.table.count) where
  abbrev session : Option Session
  session = own_session r.table.session d.cloning

  module _ (talks : IsTalking session r n) (k number : ℕ) (has : connection_of n k ≡ Some number) where
    abbrev here : Linked session r n talks.lines talks.known (first session r n tasks talks k number has).rounds k
    here = x session r n tasks talks k number has

    abbrev world : World
    world = (first session r n tasks talks k number has).rounds

    module _ (live : is_open here.at ≡ true) (caller : Caller) (bound : here.at.doing ≡ doing.Ready caller) (stage : CopyStage) (floor : ℕ) (left : List ℕ) (read : HasRead session r n tasks talks k number has (frame.Ack stage floor) left) where
      see : Sees session r n tasks talks k number has talks.known world
      see = sees session r n tasks talks k number has talks.known (first session r n tasks talks k number has)

      asks : Asks world k (Acknowledge (copy_number stage))
      asks = read.sees talks.known world (Acknowledge (copy_number stage)) see refl

      -- task 0 alone acknowledges
      zero_is : k ≡ 0
      zero_is = asks.accepts.0

      pub here_now : Present session r.table world
      here_now = present session r.table world see.view.donor asks.accepts.1

      st : Stands r.table.session d.cloning here_now.s
      st = stands r.table.session d.cloning here_now.s here_now.is

      own : IsSessionOf r here_now.s
      own = subst (λ (o : Option Session). IfSome o (IsSessionOf r)) here_now.is talks.own

      doing_is : here.l.doing ≡ doing.Ready caller
      doing_is = here.of.doing ∙ ap (λ (b : Bool). if b then here.at.doing else doing.Over) live ∙ bound

      pub caller_is : caller ≡ caller_of r.table k
      caller_is = subst (Binds (caller_of r.table k)) doing_is here.of.binds

      -- the stage before the donor's
      module _ (before : suc (copy_number stage) ≡ donor_stage here_now.s) where
        pub repeat_is_fine : (position : ℕ) → acknowledgement_cause d.cloning caller (copy_number stage) floor position ≡ None
        repeat_is_fine position = ap (λ (y : Caller). acknowledgement_cause d.cloning y (copy_number stage) floor position) caller_is ∙ repeat_fine stage r.table.session (incarnation_of r.table) k floor position d.cloning here_now.s st here_now.incarnation before

        moves : (counts : ℕ → List ℕ) (w : World) → Sees session r n tasks talks k number has counts w → DonorStep w (with_seat w k (answering (w.seats k) (donor_stage here_now.s)))
        moves counts w s =
            let a = read.sees counts w (Acknowledge (copy_number stage)) s refl in
            let p = present session r.table w s.view.donor a.accepts.1 in
            let same : Some p.s ≡ Some here_now.s = sym p.is ∙ here_now.is in
            let e : p.s ≡ here_now.s = cc (same) in
            let at_is : w.sides.at ≡ donor_stage here_now.s = p.at ∙ ap donor_stage e in
            let core : core_of (list_in session) (doing.Ready caller) ≡ Some (w.seats k).core = ap (core_of (list_in session)) (sym doing_is) ∙ s.line.core in
            let reads : Reads w k (Acknowledge (copy_number stage)) Ready = record { linked = s.linked; front = a.front; core = sym (cc (core)) } in
            let at_zero : DonorStep w (with_seat w 0 (answering (w.seats 0) w.sides.at)) = repeats (copy_number stage) (subst (λ (i : ℕ). Reads w i (Acknowledge (copy_number stage)) Ready) zero_is reads) (before ∙ sym at_is) in
            subst (λ (y : ℕ). DonorStep w (with_seat w k (answering (w.seats k) y))) at_is
            (subst (λ (i : ℕ). DonorStep w (with_seat w i (answering (w.seats i) w.sides.at))) (sym zero_is) at_zero)

        -- A REPEATED ACKNOWLEDGEMENT is answered by the stage.
        pub repeated_talks : (c : Cloning) → own_session r.table.session c ≡ session → (info : StageInfo) → TellsInfo c info → fits info.plan ≡ true → (of_told : IsFrameOf ofDonor (stage_frame info)) → IsTalking session r (with_connection number (answered_on session r n tasks talks k number has live (frame.Ack stage floor) left read caller caller_is (stage_frame info) of_told) n)
        repeated_talks c same info tells fit of_told =
            let so = stands r.table.session c here_now.s (same ∙ here_now.is) in
            let given : IsGiven session r (stage_frame info) = subst (λ (o : Option Session). IsGiven o r (stage_frame info)) (sym here_now.is) (stage_given c so.full here_now.s so.there so.is r own here_now.incarnation info tells fit) in
            answered_talks session r n tasks talks k number has live (frame.Ack stage floor) left read caller caller_is (stage_frame info) of_told given (donor_stage here_now.s)
            (stage_answered c so.full here_now.s so.there so.is r own here_now.incarnation info tells fit) moves
