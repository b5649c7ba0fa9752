-- A donor's end of a task's connection begins to serve an EXECUTE.
use Rattle.std.proofs.Common.{ℕ, ◌≡◌, ◌≢◌, ◌∙◌, ◌⊎◌, ◌<◌, List, [], ◌∷◌, Bool, true, false, if◌then◌else◌, Option, None, Some, Ok, Err, length, nat_lt, refl, sym, ap, subst, inl, inr, arith}
use Rattle.std.specs.Prelude.{slice_get, IfSome, not, ◌||◌, ◌==◌, ◌&&◌}
use Rattle.clone_serve.specs.Serving.{is_over}
use Rattle.std.specs.Option.{option_map_or, option_or}
use Rattle.std.proofs.lemmas.Bool.{both_ways, eqb-true, eq-eqb, ltb-true}
use Rattle.clone_chunk.specs.Stages.{copy_number}
use Rattle.clone_chunk.specs.declared.copy_stage.CopyStage.{CopyStage}
use Rattle.clone_chunk.specs.declared.cause.CloneCause.{CloneCause}
use Rattle.clone_chunk.specs.declared.cause.CloneCause.TheVariants.{NoSuchSession, Stale, StageMismatch}
use Rattle.clone_snapshot.specs.StageLists.{StageList}
use Rattle.clone_session.specs.Cloning.{Cloning, Session}
use Rattle.clone_session.specs.CloneCauses.{claim_cause, donor_stage, other_stage, stale, whether}
use Rattle.clone_session.specs.declared.caller.Caller.{Caller}
use Rattle.clone_wire.specs.declared.frame.Frame.{Frame}
use Rattle.clone_wire.specs.declared.frame.Frame.TheVariants as frame
use Rattle.clone_calls.specs.declared.answer.DonorAnswer.{DonorAnswer}
use Rattle.clone_calls.specs.declared.answer.DonorAnswer.TheVariants as answer
use Rattle.clone_calls.specs.declared.call.DonorCall.{DonorCall}
use Rattle.clone_calls.specs.declared.call.DonorCall.TheVariants as call
use Rattle.clone_serve.specs.Following as following
use Rattle.clone_serve.specs.declared.after.After.TheVariants.{Ends}
use Rattle.clone_serve.specs.declared.doing.Doing.{Doing}
use Rattle.clone_serve.specs.declared.doing.Doing.TheVariants as doing
use Rattle.clone_serve.specs.declared.doing.Execution.{Execution}
use Rattle.clone_serve.specs.declared.doing.Work.TheVariants.{Claim}
use Rattle.clone_serve.specs.declared.turn.ServeAnswer.{ServeAnswer}
use Rattle.clone_tasks.specs.Tables.{Table, incarnation_of}
use Rattle.clone_recipient.specs.Receptions.{Reception}
use Rattle.clone_network.specs.Connections.{Connection, is_open}
use Rattle.clone_network.specs.Networks.{Network, with_connection}
use Rattle.clone_engine.specs.Answering.{Answered}
use Rattle.clone_engine.specs.Donor.{Donor}
use Rattle.clone_rounds.specs.Fitting.{IsPresent}
use Rattle.clone_rounds.specs.Steps.{starting, starts}
use Rattle.clone_rounds.specs.World.{Execute, Ready, Serving as ServingCore, World}
use Rattle.clone_view.specs.Donors.{IsDonor, core_of}
use Rattle.clone_view.specs.Frames.{command_of}
use Rattle.clone_view.specs.Views.{Line, line_started, list_in}
use Rattle.clone_paired.specs.Lines.{Binds, IsLineOf, caller_of, connection_of}
use Rattle.clone_paired.specs.Paired.{IsTalking}
use Rattle.clone_paired.specs.Sessions.{HasComeTo}
use Rattle.clone_paired.specs.Unread.{Holds}
use Rattle.clone_paired.specs.Own.{own_session}
use Rattle.clone_paired.proofs.DonorReads.{Asks, HasRead, Stands, bare, lost_live, stands}
use Rattle.clone_paired.proofs.DonorLosses.{for_some}
use Rattle.clone_paired.proofs.DonorTurns.{Sees, Turns, first, sees, turned_talks, x}
use Rattle.clone_paired.proofs.Linked.{Linked}

-- ---- the session of the present incarnation

pub record Present (session : Option Session) (t : Table) (w : World) : Type 0 where
  pub s : Session
  pub is : session ≡ Some s
  pub incarnation : s.incarnation ≡ incarnation_of t
  pub at : w.sides.at ≡ donor_stage s

pub present : (session : Option Session) (t : Table) (w : World) → IsDonor (incarnation_of t) session w → IsPresent w.sides → Present session t w
present None t w donor is = absurd (both_ways w.sides.met donor.0 is.0)
present (Some s) t w donor is = record { s = s; is = refl; incarnation = eqb-true s.incarnation (incarnation_of t) (sym donor.met ∙ is.0); at = donor.at }

pub not_stale : (s : Session) (incarnation : ℕ) → s.incarnation ≡ incarnation → stale s incarnation ≡ None
not_stale s incarnation same = by (nat_lt incarnation s.incarnation) refl
  where
    by : (b : Bool) → nat_lt incarnation s.incarnation ≡ b → whether b (Stale s.incarnation) ≡ None
    by false is = refl
    by true is = absurd (let less = ltb-true incarnation s.incarnation is in omega (arith, less, same))

pub same_stage : (s : Session) (stage : ℕ) → stage ≡ donor_stage s → other_stage s stage ≡ None
same_stage s stage same = ap (λ (b : Bool). whether (not b) (StageMismatch (donor_stage s) stage)) (eq-eqb stage (donor_stage s) same)

-- nothing is against a call of such a caller in the donor's stage
pub claim_fine : (number incarnation task stage : ℕ) (c : Cloning) (s : Session) → Stands number c s → s.incarnation ≡ incarnation → stage ≡ donor_stage s → claim_cause c (record { session = number; incarnation = incarnation; task = task }) stage ≡ None
claim_fine number incarnation task stage c s st own same =
    ap (λ (o : Option Session). option_map_or (λ (y : Session). option_or (stale y incarnation) (other_stage y stage)) o (Some NoSuchSession)) st.found
    ∙ ap (λ (o : Option CloneCause). option_or o (other_stage st.full stage)) (not_stale st.full incarnation (sym (ap (λ (y : Session). y.incarnation) st.is) ∙ own))
    ∙ same_stage st.full stage (same ∙ ap donor_stage st.is)

-- ---- what the donor answers

module _ (d t : Donor) (run : Execution) (stage : ℕ) (fine : claim_cause d.cloning run.caller stage ≡ None) (next : Doing) (sends : Option Frame) (spoke : ServeAnswer) where
  pub started_as : (given : DonorAnswer) → Answered (call.Execute run.caller stage) given d t → following.after (doing.Starting run) given ≡ Some (Ends next sends spoke) → (t ≡ d) × (next ≡ doing.Serving run Claim) × (sends ≡ None)
  started_as (answer.Execute (Ok x)) did is = (did.1, sym (cc (is)), sym (cc (is)))
  started_as (answer.Execute (Err why)) did is = absurd (cc (fine, did.0))
  started_as given did is = absurd did

module _ (session : Option Session) (r : Reception) (n : Network) (tasks : length n.seats ≡ r.table.count) (talks : IsTalking session r n) (k number : ℕ) (has : connection_of n k ≡ Some number) where
  abbrev here : Linked session r n talks.lines talks.known (first session r n tasks talks k number has).rounds k
  here = x session r n tasks talks k number has

  module _ (live : is_open here.at ≡ true) (caller : Caller) (bound : here.at.doing ≡ doing.Ready caller) (stage : CopyStage) (left : List ℕ) (read : HasRead session r n tasks talks k number has (frame.Execute stage) left) where
    abbrev run : Execution
    run = record { caller = caller; stage = stage }

    abbrev new : Connection
    new = record here.at { to_donor = left; doing = doing.Serving run Claim }

    abbrev after : Line
    after = line_started here.l (doing.Serving run Claim)

    doing_is : here.l.doing ≡ doing.Ready caller
    doing_is = here.of.doing ∙ ap (λ (b : Bool). if b then here.at.doing else doing.Over) live ∙ bound

    -- it is the task's
    pub caller_is : caller ≡ caller_of r.table k
    caller_is = subst (Binds (caller_of r.table k)) doing_is here.of.binds

    live_new : is_open new ≡ true
    live_new = by here.at.found_lost live
      where
        by : (lost : Bool) → (not lost && not (is_over here.at.doing)) ≡ true → (not lost && true) ≡ true
        by false is = refl
        by true is = absurd (cc (is))

    of_new : IsLineOf session r k new after
    of_new = record {
      held = here.of.held;
      cut = here.of.cut ∙ lost_live here.at live ∙ sym (lost_live new live_new);
      doing = sym (ap (λ (b : Bool). if b then doing.Serving run Claim else doing.Over) live_new);
      binds = caller_is;
      live = λ is. read.empty;
      over = λ is. refl;
      answers = here.of.answers;
      asked = tt;
      given = here.of.given;
    }

    turns : (counts : ℕ → List ℕ) (w : World) → Sees session r n tasks talks k number has counts w → Turns counts (list_in session) w k after
    turns counts w s =
        let asks = read.sees counts w (Execute (copy_number stage)) s refl in
        let at_is : copy_number stage ≡ w.sides.at = asks.accepts.1 in
        let core : core_of (list_in session) (doing.Ready caller) ≡ Some (w.seats k).core = ap (core_of (list_in session)) (sym doing_is) ∙ s.line.core in
        record {
          seat = starting (w.seats k) w.sides.at;
          moves = inr (inl (starts k (record { linked = s.linked; front = asks.front ∙ ap (λ (y : ℕ). Execute y ∷ []) at_is; core = sym (cc (core)) })));
          connected = refl;
          awaits = refl;
          ended = refl;
          line = record { connected = s.line.connected; cut = s.line.cut; commands = refl; answers = s.line.answers; core = ap (λ (y : ℕ). Some (ServingCore y [])) at_is };
        }

    pub executed_talks : IsTalking session r (with_connection number new n)
    executed_talks = turned_talks session r n tasks talks k number has new after turns of_new (for_some (λ (s : Session). HasComeTo s k (doing.Serving run Claim)) (λ s. tt) session)

    -- nothing is against it
    pub execute_fine : (c : Cloning) → own_session r.table.session c ≡ session → claim_cause c caller (copy_number stage) ≡ None
    execute_fine c own =
        let s0 = first session r n tasks talks k number has in
        let asks = read.sees talks.known s0.rounds (Execute (copy_number stage)) (sees session r n tasks talks k number has talks.known s0) refl in
        let p = present session r.table s0.rounds s0.view.donor asks.accepts.0 in
        let st = stands r.table.session c p.s (own ∙ p.is) in
        ap (λ (y : Caller). claim_cause c y (copy_number stage)) caller_is ∙ claim_fine r.table.session (incarnation_of r.table) k (copy_number stage) c p.s st p.incarnation (asks.accepts.1 ∙ p.at)
