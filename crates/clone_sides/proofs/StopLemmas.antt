-- The stop of a session in a donor's run: it comes by an acknowledgement of the copy of pages.
use Rattle.std.proofs.Common.{◌≡◌, ◌≤◌, ◌∙◌, ◌++◌, ◌∷◌, ◌==◌, ◌&&◌, ◌⊎◌, [], ℕ, Bool, true, false, if◌then◌else◌, List, Option, None, Some, Ok, option_map, refl, sym, ap, subst, inl, inr, append_assoc}
use Rattle.std.specs.Prelude.{nat_lt}
use Rattle.std.specs.Option.{option_map_or, option_or}
use Rattle.std.proofs.lemmas.Bool.{cases_lt, eq-eqb, eqb-true, lt-ltb}
use Rattle.std.proofs.lemmas.List.{append-nil}
use Rattle.clone_archive.specs.Archived.{Archived}
use Rattle.clone_snapshot.specs.StageLists as lists
use Rattle.clone_snapshot.specs.StageLists.{StageList, stage_of}
use Rattle.clone_chunk.specs.Stages.{stage_number}
use Rattle.clone_chunk.specs.declared.cause.CloneCause.{CloneCause}
use Rattle.clone_chunk.specs.declared.cause.CloneCause.TheVariants.{FloorAhead, NoSuchSession}
use Rattle.clone_calls.specs.declared.answer.DonorAnswer.TheVariants as answer
use Rattle.clone_calls.specs.declared.call.DonorCall.TheVariants as call
use Rattle.clone_session.specs.declared.caller.Caller.{Caller}
use Rattle.clone_session.specs.declared.ending.Moment.{Moment}
use Rattle.clone_session.specs.declared.info.Stop.{Stop}
use Rattle.clone_session.specs.declared.info.StageInfo.{StageInfo}
use Rattle.clone_session.specs.Cloning.{Cloning, Session}
use Rattle.clone_session.specs.CloneCalls.{Acknowledges}
use Rattle.clone_session.specs.CloneCauses.{acknowledgement_cause, chunks_left, donor_stage, floor_ahead, out_of_stage, session_of, stale, whether}
use Rattle.clone_session.specs.Effects.{Becomes, advanced, in_stage, stopped_at}
use Rattle.clone_session.proofs.PartLemmas.{stands_as}
use Rattle.clone_engine.specs.Acts as act
use Rattle.clone_engine.specs.Acts.{Act}
use Rattle.clone_engine.specs.Engine.{Engine}
use Rattle.clone_engine.specs.Copying.{moment_of}
use Rattle.clone_engine.specs.Donor.{Donor, known_files}
use Rattle.clone_sides.specs.Trace.{Entry, Runs, end_of}
use Rattle.clone_sides.specs.Facts.{Kept}
use Rattle.clone_sides.specs.Moment.{StopsAt, first_stop, own_stop}
use Rattle.clone_sides.proofs.KeptLemmas.{becomes_kept, block_leaves, number_in, number_is, number_there}
use Rattle.clone_sides.proofs.OptionLemmas.{two_none}
use Rattle.clone_sides.proofs.WayLemmas.{Acking, Giving, IsAcking, Leaving, Opening, Quiet, Telling, Way, went}

pub end_more : (d : Donor) (done : List Entry) (e : Entry) → end_of d (done ++ e ∷ []) ≡ e.after
end_more d [] e = refl
end_more d (x ∷ xs) e = end_more x.after xs e

-- THE FIRST STOP stays the first.

or_none : (o : Option Stop) → option_or o None ≡ o
or_none None = refl
or_none (Some x) = refl

or_later : (a b c : Option Stop) → option_or a (option_or b c) ≡ option_or (option_or a b) c
or_later None b c = refl
or_later (Some x) b c = refl

pub first_more : (number : ℕ) (done : List Entry) (e : Entry) → first_stop number (done ++ e ∷ []) ≡ option_or (first_stop number done) (own_stop number e.after.cloning.stop)
first_more number [] e = or_none (own_stop number e.after.cloning.stop)
first_more number (x ∷ xs) e =
    ap (option_or (own_stop number x.after.cloning.stop)) (first_more number xs e)
    ∙ or_later (own_stop number x.after.cloning.stop) (first_stop number xs) (own_stop number e.after.cloning.stop)

-- no stop of the session comes
pub none_more : (number : ℕ) (done : List Entry) (e : Entry) → first_stop number done ≡ None → own_stop number e.after.cloning.stop ≡ None → first_stop number (done ++ e ∷ []) ≡ None
none_more number done e first own = first_more number done e ∙ ap (λ (o : Option Stop). option_or o (own_stop number e.after.cloning.stop)) first ∙ own

-- the moment of the stop stays in the run
pub moment_more : (number : ℕ) (d : Donor) (done : List Entry) (e : Entry) (at : Engine) (stop : Stop) → StopsAt number d done at stop → StopsAt number d (done ++ e ∷ []) at stop
moment_more number d done e at stop is = record {
  before = is.before;
  entry = is.entry;
  after = is.after ++ e ∷ [];
  split = ap (λ (x : List Entry). x ++ e ∷ []) is.split ∙ append_assoc is.before (is.entry ∷ is.after) (e ∷ []);
  here = is.here;
  acknowledges = is.acknowledges;
  is = is.is;
  stops = is.stops;
  new = is.new;
  first = first_more number done e ∙ ap (λ (o : Option Stop). option_or o (own_stop number e.after.cloning.stop)) is.first;
}

-- however long the run goes on
moment_on : (number : ℕ) (d : Donor) (done more : List Entry) (at : Engine) (stop : Stop) → StopsAt number d done at stop → StopsAt number d (done ++ more) at stop
moment_on number d done [] at stop is = subst (λ (run : List Entry). StopsAt number d run at stop) (sym (append-nil done)) is
moment_on number d done (e ∷ es) at stop is =
    subst (λ (run : List Entry). StopsAt number d run at stop) (append_assoc done (e ∷ []) es) (moment_on number d (done ++ e ∷ []) es at stop (moment_more number d done e at stop is))

-- THE FLOOR of an acknowledgement that was answered isn't ahead.

both_none : (a b : Option CloneCause) → option_or a b ≡ None → (a ≡ None) × (b ≡ None)
both_none None b none = (refl, none)
both_none (Some cause) b none = absurd (let e = none in cc)

acked_floor : (c : Cloning) (caller : Caller) (stage floor position : ℕ) (s : Session) → session_of c caller.session ≡ Some s → acknowledgement_cause c caller stage floor position ≡ None → floor_ahead s stage floor position ≡ None
acked_floor c caller stage floor position s stands none =
    let last : Option CloneCause = option_or (chunks_left s stage) (floor_ahead s stage floor position) in
    let rest : Option CloneCause = option_or (out_of_stage s stage) last in
    let whole : option_or (stale s caller.incarnation) rest ≡ None =
    subst (λ (o : Option Session). option_map_or (λ s. option_or (stale s caller.incarnation) (option_or (out_of_stage s stage) (option_or (chunks_left s stage) (floor_ahead s stage floor position)))) o (Some NoSuchSession) ≡ None) stands none in
    (both_none (chunks_left s stage) (floor_ahead s stage floor position) (both_none (out_of_stage s stage) last (both_none (stale s caller.incarnation) rest whole).1).1).1

floor_within : (s : Session) (stage floor position : ℕ) → stage ≡ 2 → donor_stage s ≡ 2 → floor_ahead s stage floor position ≡ None → floor ≤ position
floor_within s stage floor position two own none = elim (cases_lt position floor) [
  | inl above ↦ absurd (let wrong : whether ((2 == 2) && (2 == 2) && true) (FloorAhead floor position) ≡ None =
      sym (ap (λ (b : Bool). whether ((2 == 2) && (2 == 2) && b) (FloorAhead floor position)) (lt-ltb position floor above))
      ∙ sym (ap (λ (n : ℕ). whether ((2 == 2) && (n == 2) && nat_lt position floor) (FloorAhead floor position)) own)
      ∙ sym (ap (λ (n : ℕ). whether ((n == 2) && (donor_stage s == 2) && nat_lt position floor) (FloorAhead floor position)) two) ∙ none in cc)
  | inr within ↦ within
]

-- WHAT AN ACKNOWLEDGEMENT LEAVES: the session's number, and the last stop but where pages were copied

-- the stop of a session now
abbrev pub stop_at : Donor → Session → Stop
stop_at v s = record { session = s.number; position = (moment_of v.engine).position; drops = (moment_of v.engine).drops }

-- the copy of pages is over
pub record Stopping (v t : Donor) (s : Session) (stage : ℕ) : Type 0 where
  pub pages : List (ℕ × ℕ)
  pub list_is : s.snap.list ≡ lists.Pages pages
  pub own : stage ≡ donor_stage s
  pub archive : Archived
  pub becomes : Becomes t.cloning (stopped_at (moment_of v.engine) s archive v.cloning)

pub record AckLeaves (v t : Donor) (s : Session) (stage : ℕ) : Type 0 where
  pub number : number_in t.cloning ≡ number_in v.cloning
  pub stop : (t.cloning.stop ≡ v.cloning.stop) ⊎ Stopping v t s stage

module _ (v t : Donor) (caller : Caller) (stage : ℕ) (info : StageInfo) (did : Acknowledges (moment_of v.engine) (known_files v.engine) caller.session stage v.cloning t.cloning info) where
  abbrev s : Session
  s = did.0

  abbrev Left : Type 0
  Left = AckLeaves v t s stage

  as_number : (c : Cloning) → Becomes t.cloning c → number_in c ≡ number_in v.cloning → number_in t.cloning ≡ number_in v.cloning
  as_number c becomes same = ap (option_map (λ (k : Kept). k.0)) (becomes_kept t.cloning c becomes) ∙ same

  number_now : Some s.number ≡ number_in v.cloning
  number_now = sym (number_there v.cloning s (stands_as v.cloning.session caller.session s did.1))

  stays_left : Becomes t.cloning v.cloning → Left
  stays_left becomes = record { number = as_number v.cloning becomes refl; stop = inl (ap (λ (c : Cloning). c.stop) becomes) }

  by_list : (list : StageList) → s.snap.list ≡ list → stage ≡ donor_stage s → Becomes t.cloning (advanced (moment_of v.engine) (known_files v.engine) s list v.cloning) → Left
  by_list (lists.Files spaces) is own becomes = record { number = as_number (advanced (moment_of v.engine) (known_files v.engine) s (lists.Files spaces) v.cloning) becomes number_now; stop = inl (ap (λ (c : Cloning). c.stop) becomes) }
  by_list (lists.Pages pages) is own becomes = by v.cloning.archive becomes
    where
      by : (o : Option Archived) → Becomes t.cloning (option_map_or (λ a. stopped_at (moment_of v.engine) s a v.cloning) o v.cloning) → Left
      by None same = stays_left same
      by (Some a) stops = record { number = as_number (stopped_at (moment_of v.engine) s a v.cloning) stops number_now; stop = inr (record { pages = pages; list_is = is; own = own; archive = a; becomes = stops }) }
  by_list (lists.Redo start end) is own becomes = record { number = as_number (in_stage lists.Nothing s v.cloning) becomes number_now; stop = inl (ap (λ (c : Cloning). c.stop) becomes) }
  by_list lists.Nothing is own becomes = stays_left becomes

  pub ack_leaves : Left
  ack_leaves = by (stage == donor_stage s) refl did.2
    where
      by : (own : Bool) → (stage == donor_stage s) ≡ own → Becomes t.cloning (if own then advanced (moment_of v.engine) (known_files v.engine) s s.snap.list v.cloning else v.cloning) → Left
      by true own becomes = by_list s.snap.list refl (eqb-true stage (donor_stage s) own) becomes
      by false own becomes = stays_left becomes

-- THE STOP COMES.
module _ (number : ℕ) (d : Donor) (done : List Entry) (v : Donor) (e : Entry) (here : end_of d done ≡ v) (none : first_stop number done ≡ None) where
  abbrev t : Donor
  t = e.after

  module _ (caller : Caller) (stage floor : ℕ) (info : StageInfo) (acking : IsAcking e.act v t caller stage floor info) where
    abbrev did : Acknowledges (moment_of v.engine) (known_files v.engine) caller.session stage v.cloning t.cloning info
    did = acking.acks.acknowledges

    abbrev now : Moment
    now = moment_of v.engine

    abbrev stop_now : Stop
    stop_now = stop_at v did.0

    pub stops_here : (pages : List (ℕ × ℕ)) → did.0.snap.list ≡ lists.Pages pages → stage ≡ donor_stage did.0 → did.0.number ≡ number → (a : Archived) → Becomes t.cloning (stopped_at now did.0 a v.cloning) → StopsAt number d (done ++ e ∷ []) v.engine stop_now
    stops_here pages list_is own own_number a became =
        let stopped : t.cloning.stop ≡ Some stop_now = ap (λ (c : Cloning). c.stop) became in
        let donor_at : donor_stage did.0 ≡ 2 = ap (λ (x : StageList). stage_number (stage_of x)) list_is in
        let at_two : stage ≡ 2 = own ∙ donor_at in
        record {
          before = done;
          entry = e;
          after = [];
          split = refl;
          here = sym (ap (λ (x : Donor). x.engine) here);
          acknowledges = record {
            caller = caller;
            session = sym (number_is v.cloning caller.session did.0 did.1) ∙ own_number;
            floor = floor;
            reached = floor_within did.0 stage floor now.position at_two donor_at (acked_floor v.cloning caller stage floor now.position did.0 did.1 acking.none);
            info = info;
            is = acking.is ∙ ap (λ (n : ℕ). act.Calls (call.Ack caller n floor) (answer.Ack (Ok info))) at_two;
          };
          is = record { session = own_number; commits = refl; drops = refl };
          stops = stopped;
          new = none;
          first = first_more number done e ∙ ap (λ (o : Option Stop). option_or o (own_stop number t.cloning.stop)) none ∙ ap (own_stop number) stopped ∙ ap (λ (b : Bool). if b then Some stop_now else None) (eq-eqb did.0.number number own_number);
        }

  abbrev Found : Stop → Type 0
  Found stop = (at : Engine) × StopsAt number d (done ++ e ∷ []) at stop

  -- where the session had come to none
  found : Way e.act v t → own_stop number v.cloning.stop ≡ None → (stop : Stop) → own_stop number t.cloning.stop ≡ Some stop → Found stop
  found way unstopped stop some = by way
    where
      not_same : t.cloning.stop ≡ v.cloning.stop → Found stop
      not_same same = absurd (two_none (own_stop number t.cloning.stop) stop (ap (own_stop number) same ∙ unstopped) some)

      acked_found : (caller : Caller) (stage floor : ℕ) (info : StageInfo) (acking : IsAcking e.act v t caller stage floor info) → (t.cloning.stop ≡ v.cloning.stop) ⊎ Stopping v t acking.acks.acknowledges.0 stage → Found stop
      acked_found caller stage floor info acking (inl same) = not_same same
      acked_found caller stage floor info acking (inr stopping) =
          own_found (acking.acks.acknowledges.0.number == number) refl (sym (ap (λ (c : Cloning). own_stop number c.stop) stopping.becomes) ∙ some)
        where
          own_found : (b : Bool) → (acking.acks.acknowledges.0.number == number) ≡ b → (if b then Some (stop_at v acking.acks.acknowledges.0) else None) ≡ Some stop → Found stop
          own_found true own is =
              let same : stop_at v acking.acks.acknowledges.0 ≡ stop = cc in
              (v.engine, subst (StopsAt number d (done ++ e ∷ []) v.engine) same (stops_here caller stage floor info acking stopping.pages stopping.list_is stopping.own (eqb-true acking.acks.acknowledges.0.number number own) stopping.archive stopping.becomes))
          own_found false other is = absurd (cc)

      by : Way e.act v t → Found stop
      by (Quiet q) = not_same q.leaves.stop
      by (Telling info q) = not_same q.leaves.stop
      by (Opening hello info q) = not_same (ap (λ (c : Cloning). c.stop) q.becomes)
      by (Giving caller stage chunk block read last q) = not_same (block_leaves v.cloning t.cloning caller chunk block last q.gives.answers).0.stop
      by (Acking caller stage floor info q) = acked_found caller stage floor info q (ack_leaves v t caller stage info q.acks.acknowledges).stop
      by (Leaving q) = not_same (ap (λ (c : Cloning). c.stop) q.becomes)

-- THE FIRST STOP of a session is such a moment.
stops_from : (number : ℕ) (d : Donor) (trace done : List Entry) (v : Donor) → end_of d done ≡ v → Runs v trace → own_stop number v.cloning.stop ≡ None → first_stop number done ≡ None → (stop : Stop) → first_stop number trace ≡ Some stop → (at : Engine) × StopsAt number d (done ++ trace) at stop
stops_from number d [] done v here run unstopped none stop is = absurd (cc)
stops_from number d (e ∷ es) done v here run unstopped none stop is =
    let (at, stops) = by (own_stop number e.after.cloning.stop) refl is (λ own later. stops_from number d es (done ++ e ∷ []) e.after (end_more d done e) run.1 own (none_more number done e none own) stop later) in
    (at, subst (λ (run : List Entry). StopsAt number d run at stop) (append_assoc done (e ∷ []) es) stops)
  where
    by : (o : Option Stop) → own_stop number e.after.cloning.stop ≡ o → option_or o (first_stop number es) ≡ Some stop → (own_stop number e.after.cloning.stop ≡ None → first_stop number es ≡ Some stop → (at : Engine) × StopsAt number d ((done ++ e ∷ []) ++ es) at stop)
        → (at : Engine) × StopsAt number d ((done ++ e ∷ []) ++ es) at stop
    by (Some x) own some later =
        let same : x ≡ stop = cc in
        let (at, stops) = found number d done v e here none (went v e.after e.act run.0.does).way unstopped stop (own ∙ ap (λ (y : Stop). Some y) same) in
        (at, moment_on number d (done ++ e ∷ []) es at stop stops)
    by None own some later = later own some

pub first_stops : (number : ℕ) (d : Donor) (trace : List Entry) (stop : Stop) → own_stop number d.cloning.stop ≡ None → Runs d trace → first_stop number trace ≡ Some stop → (at : Engine) × StopsAt number d trace at stop
first_stops number d trace stop unstopped run is = stops_from number d trace [] d refl run unstopped refl stop is
