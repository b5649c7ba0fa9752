-- A donor's run goes on, and its session isn't ended by that.
use Rattle.std.proofs.Common.{ℕ, ◌≡◌, ◌∙◌, ◌++◌, ◌∷◌, [], List, Bool, true, false, if◌then◌else◌, Option, None, Some, Ok, refl, sym, ap, subst, arith, length, length-append}
use Rattle.std.specs.Bool.{⊤}
use Rattle.std.specs.Prelude.{IfSome}
use Rattle.std.specs.Option.{option_or}
use Rattle.std.specs.List.{Contains}
use Rattle.std.proofs.lemmas.Bool.{eq-eqb, true≢false}
use Rattle.std.proofs.lemmas.List.Elements.{Contains-append_left}
use Rattle.clone_accepted.specs.Answers.{Answer}
use Rattle.clone_calls.specs.declared.answer.DonorAnswer.{DonorAnswer}
use Rattle.clone_calls.specs.declared.answer.DonorAnswer.TheVariants as answer
use Rattle.clone_calls.specs.declared.call.DonorCall.{DonorCall}
use Rattle.clone_calls.specs.declared.call.DonorCall.TheVariants as call
use Rattle.clone_session.specs.declared.info.Stop.{Stop}
use Rattle.clone_engine.specs.Acts.{Act, Acts, Calls}
use Rattle.clone_engine.specs.Answering.{Answered}
use Rattle.clone_engine.specs.Donor.{Donor}
use Rattle.clone_engine.specs.Engine.{Engine}
use Rattle.clone_sides.specs.Answered.{Again, Gone, Open, Phase, Unopened, answered_by, answers, ends, opens, phase_after, phase_with}
use Rattle.clone_sides.specs.Moment.{StopsAt, first_stop, own_stop}
use Rattle.clone_sides.specs.Trace.{Entry, Runs, end_of}
use Rattle.clone_sides.proofs.KnownLemmas.{answers_more}
use Rattle.clone_sides.proofs.MoreLemmas.{phase_more, runs_more}
use Rattle.clone_sides.proofs.StopLemmas.{end_more, first_more, first_stops}
use Rattle.clone_joined.specs.Runs.{HasCome, HasFloor, HasRun, IsFresh, IsUnended, MayAct, stands, stop_by}
use Rattle.clone_joined.proofs.StandsLemmas.{open_stands}

-- THE SESSION isn't ended.

act_not_ends : (number : ℕ) (floor : Option ℕ) (d : Donor) (act : Act) → stands number d ≡ true → MayAct number floor d act → ends act ≡ false
act_not_ends number floor d (Calls asked (answer.Exit (Ok gone))) is may = absurd (true≢false (sym is ∙ may))
act_not_ends number floor d (Calls asked (answer.Abandon (Ok gone))) is may = absurd (true≢false (sym is ∙ may))
act_not_ends number floor d other is may = refl

-- a call that ends no session, and acknowledges the copy of pages with this floor alone
abbrev pub MayCall : Option ℕ → DonorCall → Type 0
MayCall floor (call.Exit caller) = ⊥
MayCall floor (call.Abandon session) = ⊥
MayCall floor (call.Ack caller stage given) = stage ≡ 2 → floor ≡ Some given
MayCall floor other = ⊤

-- it is such an act, whatever its answer
pub call_may : (number : ℕ) (floor : Option ℕ) (asked : DonorCall) (given : DonorAnswer) (d t : Donor) → Answered asked given d t → MayCall floor asked → MayAct number floor d (Calls asked given)
call_may number floor (call.Exit caller) given d t does may = absurd may
call_may number floor (call.Abandon session) given d t does may = absurd may
call_may number floor (call.Ack caller stage kept) (answer.Ack (Ok info)) d t does may = λ own. may
call_may number floor asked (answer.Exit gone) d t does may = absurd does
call_may number floor asked (answer.Abandon gone) d t does may = absurd does
call_may number floor asked given d t does may = tt

unended_with : (number : ℕ) (phase : Phase) (act : Act) → IsUnended phase → (phase ≡ Open → ends act ≡ false) → IsUnended (phase_with number phase act)
unended_with number Unopened act un goes = by (opens number act)
  where
    by : (b : Bool) → IsUnended (if b then Open else Unopened)
    by true = tt
    by false = tt
unended_with number Open act un goes = subst (λ (b : Bool). IsUnended (if b then Gone else Open)) (sym (goes refl)) tt
unended_with number Gone act un goes = absurd un
unended_with number Again act un goes = absurd un

-- ITS FIRST STOP comes by the last act, if it came by none before.

none_first : (a b : Option Stop) → option_or a b ≡ None → a ≡ None
none_first None b none = refl
none_first (Some x) b none = absurd (cc)

none_second : (a b : Option Stop) → option_or a b ≡ None → b ≡ None
none_second None b none = none
none_second (Some x) b none = absurd (cc)

came_last : (number : ℕ) (xs ys zs : List Entry) (e y : Entry) (stop : Stop) → first_stop number xs ≡ None → own_stop number y.after.cloning.stop ≡ Some stop → xs ++ e ∷ [] ≡ ys ++ y ∷ zs → e ≡ y
came_last number [] [] zs e y stop none own is = cc
came_last number [] (k ∷ ys) zs e y stop none own is = absurd (let long = ap (length {A = Entry}) is in omega (arith, length-append ys (y ∷ zs)))
came_last number (x ∷ xs) [] zs e y stop none own is =
    absurd (let same : x ≡ y = cc in let no : own_stop number x.after.cloning.stop ≡ None = none_first (own_stop number x.after.cloning.stop) (first_stop number xs) none in
    let both : None ≡ Some stop = sym no ∙ ap (λ (z : Entry). own_stop number z.after.cloning.stop) same ∙ own in cc)
came_last number (x ∷ xs) (k ∷ ys) zs e y stop none own is =
    came_last number xs ys zs e y stop (none_second (own_stop number x.after.cloning.stop) (first_stop number xs) none) own (cc)

own_of : (number : ℕ) (stop : Stop) (last : Option Stop) → last ≡ Some stop → stop.session ≡ number → own_stop number last ≡ Some stop
own_of number stop last is own = ap (own_stop number) is ∙ ap (λ (b : Bool). if b then Some stop else None) (eq-eqb stop.session number own)

-- the floor isn't past a stop
abbrev pub Behind : Option ℕ → Option Stop → Type 0
Behind floor stop = IfSome stop (λ (first : Stop). HasFloor floor first.position)

module _ (number : ℕ) (floor : Option ℕ) (trace : List Entry) (d : Donor) (e : Entry) (may : MayAct number floor d e.act) where
  floor_by_act : (start : Donor) (at : Engine) (stop : Stop) → StopsAt number start (trace ++ e ∷ []) at stop → first_stop number trace ≡ None → HasFloor floor stop.position
  floor_by_act start at stop s none =
      let last : e ≡ s.entry = came_last number trace s.before s.after e s.entry stop none (own_of number stop s.entry.after.cloning.stop s.stops s.is.session) s.split in
      let a = s.acknowledges in
      let is : e.act ≡ Calls (call.Ack a.caller 2 a.floor) (answer.Ack (Ok a.info)) = ap (λ (x : Entry). x.act) last ∙ a.is in
      (a.floor, subst (MayAct number floor d) is may a.session refl, a.reached)

  behind_still : (start : Donor) → Runs start (trace ++ e ∷ []) → own_stop number start.cloning.stop ≡ None → (stop : Option Stop) → first_stop number trace ≡ stop → Behind floor stop → Behind floor (stop_by number stop e.after)
  behind_still start run unstopped (Some x) first behind = behind
  behind_still start run unstopped None first behind = by (own_stop number e.after.cloning.stop) refl
    where
      by : (o : Option Stop) → own_stop number e.after.cloning.stop ≡ o → Behind floor o
      by None own = tt
      by (Some stop) own =
          let now : first_stop number (trace ++ e ∷ []) ≡ Some stop = first_more number trace e ∙ ap (λ (o : Option Stop). option_or o (own_stop number e.after.cloning.stop)) first ∙ own in
          let (at, s) = first_stops number start (trace ++ e ∷ []) stop unstopped run now in
          floor_by_act start at stop s first

-- THE RUN goes on by an act.
pub run_on : (number : ℕ) (floor : Option ℕ) (stop : Option Stop) (trace : List Entry) (d t : Donor) (act : Act) → HasRun number floor stop trace d → Acts act d t → MayAct number floor d act
    → HasRun number floor (stop_by number stop t) (trace ++ record { act = act; after = t } ∷ []) t
run_on number floor stop trace d t act r acts may =
    let e : Entry = record { act = act; after = t } in
    let runs : Runs r.start (trace ++ e ∷ []) = runs_more r.start trace e r.runs (subst (λ (x : Donor). Acts act x t) (sym r.reaches) acts) in
    let standing : phase_after number Unopened trace ≡ Open → stands number d ≡ true = λ is. subst (λ (x : Donor). stands number x ≡ true) r.reaches (open_stands number trace r.start r.fresh.session r.runs is) in
    record {
      start = r.start;
      fresh = r.fresh;
      runs = runs;
      reaches = end_more r.start trace e;
      unended = subst IsUnended (sym (phase_more number Unopened trace e)) (unended_with number (phase_after number Unopened trace) act r.unended (λ is. act_not_ends number floor d act (standing is) may));
      first = first_more number trace e ∙ ap (λ (o : Option Stop). option_or o (own_stop number t.cloning.stop)) r.first;
      behind = behind_still number floor trace d e may r.start runs r.fresh.stop stop r.first r.behind;
    }

pub run_begins : (number : ℕ) (d : Donor) → IsFresh number d → HasCome number None None d
run_begins number d fresh = ([], record { start = d; fresh = fresh; runs = tt; reaches = refl; unended = tt; first = refl; behind = tt })

pub run_comes : (number : ℕ) (floor : Option ℕ) (stop : Option Stop) (d t : Donor) (act : Act) → HasCome number floor stop d → Acts act d t → MayAct number floor d act → HasCome number floor (stop_by number stop t) t
run_comes number floor stop d t act (trace, run) acts may = (trace ++ record { act = act; after = t } ∷ [], run_on number floor stop trace d t act run acts may)

-- while the donor stays, so does the first stop
own_none : (number : ℕ) (trace : List Entry) (d : Donor) → own_stop number d.cloning.stop ≡ None → first_stop number trace ≡ None → own_stop number (end_of d trace).cloning.stop ≡ None
own_none number [] d own first = own
own_none number (e ∷ es) d own first =
    own_none number es e.after (none_first (own_stop number e.after.cloning.stop) (first_stop number es) first) (none_second (own_stop number e.after.cloning.stop) (first_stop number es) first)

pub stop_here : (number : ℕ) (floor : Option ℕ) (stop : Option Stop) (trace : List Entry) (d : Donor) → HasRun number floor stop trace d → stop_by number stop d ≡ stop
stop_here number floor stop trace d r = by stop r.first
  where
    by : (o : Option Stop) → first_stop number trace ≡ o → stop_by number o d ≡ o
    by (Some x) first = refl
    by None first = subst (λ (x : Donor). own_stop number x.cloning.stop ≡ None) r.reaches (own_none number trace r.start r.fresh.stop first)

-- with a floor that is known where this one is
pub behind_as : (floor other : Option ℕ) (stop : Option Stop) → ((kept : ℕ) → floor ≡ Some kept → other ≡ Some kept) → Behind floor stop → Behind other stop
behind_as floor other None so behind = tt
behind_as floor other (Some stop) so (kept, here, reached) = (kept, so kept here, reached)

abbrev pub run_as : (number : ℕ) (floor other : Option ℕ) (stop : Option Stop) (trace : List Entry) (d : Donor) → ((kept : ℕ) → floor ≡ Some kept → other ≡ Some kept) → HasRun number floor stop trace d → HasRun number other stop trace d
run_as number floor other stop trace d so r = record {
  start = r.start;
  fresh = r.fresh;
  runs = r.runs;
  reaches = r.reaches;
  unended = r.unended;
  first = r.first;
  behind = behind_as floor other stop so r.behind;
}

-- what was answered stays so
abbrev pub StaysSaid : ℕ → List Entry → List Entry → Type 0
StaysSaid number trace on = (said : Answer) → Contains (answers number trace) said → Contains (answers number on) said

pub said_on : (number : ℕ) (trace : List Entry) (e : Entry) → StaysSaid number trace (trace ++ e ∷ [])
said_on number trace e said has = subst (λ (all : List Answer). Contains all said) (sym (answers_more number trace e)) (Contains-append_left (answers number trace) (answered_by number e.act) said has)
