-- A donor's end of a task's connection answers ATTACH by its stage.
use Rattle.std.proofs.Common.{ℕ, ◌≡◌, ◌≢◌, ◌∙◌, ◌<◌, List, [], ◌∷◌, Bool, true, false, if◌then◌else◌, Option, None, Some, Ok, Err, length, nat_le, refl, sym, ap, subst, arith}
use Rattle.std.specs.Prelude.{slice_get, not, ◌==◌, IfSome}
use Rattle.std.specs.Option.{option_map_or, option_or}
use Rattle.std.proofs.lemmas.Bool.{both_ways, eq-eqb, leb-true}
use Rattle.clone_chunk.specs.declared.cause.CloneCause.{CloneCause}
use Rattle.clone_chunk.specs.declared.cause.CloneCause.TheVariants.{NoSuchSession, Stale, TasksOutOfRange}
use Rattle.clone_chunk.specs.declared.copy_stage.CopyStage.{CopyStage}
use Rattle.clone_session.specs.Cloning.{Cloning, Session}
use Rattle.clone_session.specs.CloneCauses.{attach_cause, donor_stage, whether}
use Rattle.clone_session.specs.Effects.{Tells as TellsInfo}
use Rattle.clone_session.specs.declared.caller.Caller.{Caller}
use Rattle.clone_session.specs.declared.info.StageInfo.{StageInfo}
use Rattle.clone_session.specs.declared.refusal.CloneRefusal.TheVariants.{Because, NoMemory}
use Rattle.clone_wire.specs.declared.frame.Attempt.{Attempt}
use Rattle.clone_wire.specs.declared.frame.Frame.{Frame}
use Rattle.clone_wire.specs.declared.frame.Frame.TheVariants as frame
use Rattle.clone_wire.specs.declared.frame.Side.TheVariants.{Answer as ofDonor}
use Rattle.clone_stream.specs.Streams.{IsFrameOf}
use Rattle.clone_calls.specs.declared.answer.DonorAnswer.{DonorAnswer}
use Rattle.clone_calls.specs.declared.answer.DonorAnswer.TheVariants as reply
use Rattle.clone_calls.specs.declared.call.DonorCall.TheVariants as call
use Rattle.clone_serve.specs.Commands as commands
use Rattle.clone_serve.specs.Following as following
use Rattle.clone_serve.specs.Telling.{stage_frame}
use Rattle.clone_serve.specs.declared.after.After.TheVariants.{Ends}
use Rattle.clone_serve.specs.declared.doing.Doing.{Doing}
use Rattle.clone_serve.specs.declared.doing.Doing.TheVariants as doing
use Rattle.clone_serve.specs.declared.turn.ServeAnswer.{ServeAnswer}
use Rattle.clone_serve.specs.declared.turn.ServeAnswer.TheVariants as says
use Rattle.clone_tasks.specs.Sending.{IsFirst, Opens, Reattaches}
use Rattle.clone_tasks.specs.Tables.{Table, attempt_of, incarnation_of}
use Rattle.clone_tasks.specs.declared.standing.Phase.{Phase}
use Rattle.clone_tasks.specs.declared.standing.Phase.TheVariants.{Copying, Done, Opening}
use Rattle.clone_recipient.specs.Expecting.{fits}
use Rattle.clone_recipient.specs.Receptions.{Reception}
use Rattle.clone_network.specs.Connections.{Connection, is_open}
use Rattle.clone_network.specs.Networks.{Network, with_connection}
use Rattle.clone_engine.specs.Answering.{Answered}
use Rattle.clone_engine.specs.Donor.{Donor}
use Rattle.clone_rounds.specs.Steps.{DonorStep, answering, welcomes}
use Rattle.clone_rounds.specs.World.{First, New, World, with_seat}
use Rattle.clone_view.specs.Donors.{core_of}
use Rattle.clone_view.specs.Views.{list_in}
use Rattle.clone_paired.specs.Lines.{caller_of, connection_of}
use Rattle.clone_paired.specs.Own.{own_session}
use Rattle.clone_paired.specs.Paired.{IsTalking}
use Rattle.clone_paired.specs.Sessions.{IsSessionOf}
use Rattle.clone_paired.specs.Speaking.{IsGiven}
use Rattle.clone_paired.proofs.DonorAnswers.{answered_on, answered_talks}
use Rattle.clone_paired.proofs.DonorExecutes.{Present, present}
use Rattle.clone_paired.proofs.DonorReads.{Asks, HasRead, Stands, stands}
use Rattle.clone_paired.proofs.DonorStages.{stage_answered, stage_given}
use Rattle.clone_paired.proofs.DonorTurns.{Sees, first, sees, x}
use Rattle.clone_paired.proofs.Linked.{Linked}

-- task 0 never sends one
reattaches_not : (one : Bool) (stage : CopyStage) (t : Table) (attempt : Attempt) (task : ℕ) → Reattaches one stage t (frame.Attach attempt task) → ⊥
reattaches_not true stage t attempt task is = cc (is.1)
reattaches_not false stage t attempt task is = cc (is.1)

opens_not : (phase : Phase) (t : Table) (attempt : Attempt) (task : ℕ) → Opens phase t (frame.Attach attempt task) → ⊥
opens_not Opening t attempt task is = cc (is)
opens_not (Copying stage) t attempt task is = reattaches_not (t.version == 1) stage t attempt task is
opens_not Done t attempt task is = cc (is)

attach_asked : (zero_is : Bool) (t : Table) (k : ℕ) (attempt : Attempt) (task : ℕ) → IsFirst zero_is t k (frame.Attach attempt task) → (zero_is ≡ false) × (attempt ≡ attempt_of t) × (task ≡ k)
attach_asked true t k attempt task is = absurd (opens_not t.phase t attempt task is)
attach_asked false t k attempt task is = (refl, cc (is), cc (is))

pub within_tasks : (count task : ℕ) → task < count → nat_le count task ≡ false
within_tasks count task small = by (nat_le count task) refl
  where
    by : (b : Bool) → nat_le count task ≡ b → b ≡ false
    by false is = refl
    by true is = absurd (let most = leb-true count task is in omega (arith, most, small))

-- nothing is against it
attach_fine : (number incarnation task : ℕ) (c : Cloning) (s : Session) → Stands number c s → s.incarnation ≡ incarnation → task < s.tasks → attach_cause c (record { session = number; incarnation = incarnation; task = task }) ≡ None
attach_fine number incarnation task c s st present small =
    let f = st.full in
    let own : incarnation ≡ f.incarnation = sym present ∙ ap (λ (y : Session). y.incarnation) st.is in
    let less : task < f.tasks = subst (λ (y : ℕ). task < y) (ap (λ (y : Session). y.tasks) st.is) small in
    ap (λ (o : Option Session). option_map_or (λ (y : Session). option_or (whether (not (incarnation == y.incarnation)) (Stale y.incarnation)) (whether (nat_le y.tasks task) (TasksOutOfRange task))) o (Some NoSuchSession)) st.found
    ∙ ap (λ (b : Bool). option_or (whether (not b) (Stale f.incarnation)) (whether (nat_le f.tasks task) (TasksOutOfRange task))) (eq-eqb incarnation f.incarnation own)
    ∙ ap (λ (b : Bool). whether b (TasksOutOfRange task)) (within_tasks f.tasks task less)

-- what the donor answers
pub record Welcomed (d t : Donor) (caller : Caller) (next : Doing) (sends : Option Frame) : Type 0 where
  pub same : t ≡ d
  pub info : StageInfo
  pub tells : TellsInfo d.cloning info
  pub next_is : next ≡ doing.Ready caller
  pub sends_is : sends ≡ Some (stage_frame info)

pub welcomed : (d t : Donor) (caller : Caller) (next : Doing) (sends : Option Frame) (spoke : ServeAnswer) → attach_cause d.cloning caller ≡ None → spoke ≢ says.NoMemory → (given : DonorAnswer) → Answered (call.Attach caller) given d t → following.after (doing.Telling caller) given ≡ Some (Ends next sends spoke) → Welcomed d t caller next sends
welcomed d t caller next sends spoke fine fit (reply.Attach (Ok info)) did is = record { same = did.1; info = info; tells = did.0.1; next_is = sym (cc (is)); sends_is = sym (cc (is)) }
welcomed d t caller next sends spoke fine fit (reply.Attach (Err (Because why))) did is = absurd (cc (fine, did.0.0))
welcomed d t caller next sends spoke fine fit (reply.Attach (Err NoMemory)) did is = absurd (fit (sym (cc (is))))
welcomed d t caller next sends spoke fine fit given did is = absurd did

module _ (d t : Donor) (r : Reception) (n : Network) (tasks : length n.seats ≡ r.table.count) (fit : (info : StageInfo) → TellsInfo d.cloning info → fits info.plan ≡ true) where
  abbrev session : Option Session
  session = own_session r.table.session d.cloning

  module _ (talks : IsTalking session r n) (k number : ℕ) (has : connection_of n k ≡ Some number) where
    abbrev here : Linked session r n talks.lines talks.known (first session r n tasks talks k number has).rounds k
    here = x session r n tasks talks k number has

    module _ (live : is_open here.at ≡ true) (bound : here.at.doing ≡ doing.New) (attempt : Attempt) (task : ℕ) (left : List ℕ) (read : HasRead session r n tasks talks k number has (frame.Attach attempt task) left) where
      asked : ((k == 0) ≡ false) × (attempt ≡ attempt_of r.table) × (task ≡ k)
      asked = attach_asked (k == 0) r.table k attempt task read.asked

      other : k ≢ 0
      other zero_is = both_ways (k == 0) asked.0 (eq-eqb k 0 zero_is)

      pub caller_is : commands.caller_of attempt task ≡ caller_of r.table k
      caller_is = (λ i. commands.caller_of (asked.1 i) (asked.2 i))

      doing_is : here.l.doing ≡ doing.New
      doing_is = here.of.doing ∙ ap (λ (b : Bool). if b then here.at.doing else doing.Over) live ∙ bound

      abbrev world : World
      world = (first session r n tasks talks k number has).rounds

      see : Sees session r n tasks talks k number has talks.known world
      see = sees session r n tasks talks k number has talks.known (first session r n tasks talks k number has)

      asks : Asks world k First
      asks = read.sees talks.known world First see refl

      here_now : Present session r.table world
      here_now = present session r.table world see.view.donor (asks.accepts.1 other)

      st : Stands r.table.session d.cloning here_now.s
      st = stands r.table.session d.cloning here_now.s here_now.is

      own : IsSessionOf r here_now.s
      own = subst (λ (o : Option Session). IfSome o (IsSessionOf r)) here_now.is talks.own

      small : k < here_now.s.tasks
      small = subst (λ (c : ℕ). k < c) (see.view.table.tasks ∙ sym own.tasks) see.linked.task

      pub attach_is_fine : attach_cause d.cloning (commands.caller_of attempt task) ≡ None
      attach_is_fine = ap (λ (y : Caller). attach_cause d.cloning y) caller_is ∙ attach_fine r.table.session (incarnation_of r.table) k d.cloning here_now.s st here_now.incarnation small

      moves : (counts : ℕ → List ℕ) (w : World) → Sees session r n tasks talks k number has counts w → DonorStep w (with_seat w k (answering (w.seats k) (donor_stage here_now.s)))
      moves counts w s =
          let a = read.sees counts w First s refl in
          let p = present session r.table w s.view.donor (a.accepts.1 other) in
          let same : Some p.s ≡ Some here_now.s = sym p.is ∙ here_now.is in
          let stage : w.sides.at ≡ donor_stage here_now.s = (let e : p.s ≡ here_now.s = cc (same) in p.at ∙ ap donor_stage e) in
          let core : core_of (list_in session) doing.New ≡ Some (w.seats k).core = ap (core_of (list_in session)) (sym doing_is) ∙ s.line.core in
          subst (λ (y : ℕ). DonorStep w (with_seat w k (answering (w.seats k) y))) stage
          (welcomes k other (record { linked = s.linked; front = a.front; core = sym (cc (core)) }) (a.accepts.1 other).0)

      pub welcomed_talks : (info : StageInfo) → TellsInfo d.cloning info → (of_told : IsFrameOf ofDonor (stage_frame info)) → IsTalking session r (with_connection number (answered_on session r n tasks talks k number has live (frame.Attach attempt task) left read (commands.caller_of attempt task) caller_is (stage_frame info) of_told) n)
      welcomed_talks info tells of_told =
          let given : IsGiven session r (stage_frame info) = subst (λ (o : Option Session). IsGiven o r (stage_frame info)) (sym here_now.is) (stage_given d.cloning st.full here_now.s st.there st.is r own here_now.incarnation info tells (fit info tells)) in
          answered_talks session r n tasks talks k number has live (frame.Attach attempt task) left read (commands.caller_of attempt task) caller_is (stage_frame info) of_told given (donor_stage here_now.s)
          (stage_answered d.cloning st.full here_now.s st.there st.is r own here_now.incarnation info tells (fit info tells)) moves
