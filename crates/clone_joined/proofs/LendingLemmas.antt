-- What a clone's calls leave of a donor, one by one and over a step of a donor's end.
use Rattle.std.proofs.Common.{ℕ, ◌≡◌, ◌∙◌, ◌++◌, ◌∷◌, [], List, Option, None, Some, Ok, Err, is_some, sym, ap, subst, arith, length, length-append}
use Rattle.std.specs.Bool.{⊤}
use Rattle.std.specs.List.{AllByRecursion}
use Rattle.std.specs.Option.{option_or}
use Rattle.clone_chunk.specs.declared.cause.CloneCause.{CloneCause}
use Rattle.clone_session.specs.declared.caller.Caller.{Caller}
use Rattle.clone_session.specs.declared.info.Stop.{Stop}
use Rattle.clone_session.specs.declared.refusal.CloneRefusal.{CloneRefusal}
use Rattle.clone_session.specs.declared.refusal.CloneRefusal.TheVariants.{Because, NoMemory}
use Rattle.clone_plain.specs.declared.refusal.EngineRefusal.TheVariants as engine
use Rattle.clone_wire.specs.declared.frame.Frame.{Frame}
use Rattle.clone_wire.specs.declared.frame.Frame.TheVariants as frame
use Rattle.clone_calls.specs.declared.answer.DonorAnswer.{DonorAnswer}
use Rattle.clone_calls.specs.declared.answer.DonorAnswer.TheVariants as answer
use Rattle.clone_calls.specs.declared.block.BlockRefusal.{BlockRefusal}
use Rattle.clone_calls.specs.declared.block.BlockRefusal.TheVariants as unread
use Rattle.clone_calls.specs.declared.call.DonorCall.{DonorCall}
use Rattle.clone_calls.specs.declared.call.DonorCall.TheVariants as call
use Rattle.clone_serve.specs.Commands.{command_of}
use Rattle.clone_serve.specs.Stepping.{GivesAll}
use Rattle.clone_serve.specs.Telling.{Exchange}
use Rattle.clone_serve.specs.declared.commands.Command.{Command}
use Rattle.clone_serve.specs.declared.doing.Doing.{Doing}
use Rattle.clone_network.specs.Connections.{Connection, StepsEnd, reaches_task, sent_behind}
use Rattle.clone_network.specs.declared.donor_step.DonorStep.{DonorStep}
use Rattle.clone_engine.specs.Acts.{Act, Acts, Calls, CloneActs}
use Rattle.clone_engine.specs.Answering.{Answered, CarriesOut}
use Rattle.clone_engine.specs.Copying.{RefusesBlock, Settles}
use Rattle.clone_engine.specs.Donor.{Donor}
use Rattle.clone_engine.specs.Engine.{Engine}
use Rattle.clone_engine.specs.Reading.{OnlyVisits}
use Rattle.clone_sides.specs.Moment.{IsStopOf, first_stop, own_stop}
use Rattle.clone_sides.specs.Trace.{Entry, end_of}
use Rattle.clone_sides.proofs.OptionLemmas.{two_none}
use Rattle.clone_sides.proofs.StopLemmas.{first_stops}
use Rattle.clone_sides.proofs.WayLemmas.{went}
use Rattle.clone_told.specs.Told.{gives}
use Rattle.clone_joined.specs.Lending.{IsOfClone, Lends, StopsNow}
use Rattle.clone_joined.proofs.AskedLemmas.{AreWithin, AsksAll, BeginsBy, IsWithin, commanded, inside, step_asks}
use Rattle.clone_joined.proofs.GivenLemmas.{all_within_stop}

-- ---- WHAT A CALL LEAVES

module _ (d t : Donor) where
  lends_engine : t.engine ≡ d.engine → Lends d t
  lends_engine same = record {
    donor = ap (λ (e : Engine). e.donor) same;
    told = ap (λ (e : Engine). e.disk.told) same;
    disk = record {
      later = omega (arith, ap (λ (e : Engine). e.disk.failures) same);
      orders = ap (λ (e : Engine). e.disk.orders) same;
      tells = ap (λ (e : Engine). is_some e.disk.told) same;
    };
  }

  lends_same : t ≡ d → Lends d t
  lends_same same = lends_engine (ap (λ (x : Donor). x.engine) same)

  lends_settled : Settles d t → Lends d t
  lends_settled settles = record {
    donor = ap (λ (e : Engine). e.donor) settles;
    told = ap (λ (e : Engine). e.disk.told) settles;
    disk = record {
      later = omega (arith, ap (λ (e : Engine). e.disk.failures) settles);
      orders = ap (λ (e : Engine). e.disk.orders) settles;
      tells = ap (λ (e : Engine). is_some e.disk.told) settles;
    };
  }

  lends_visited : OnlyVisits d.engine t.engine → Lends d t
  lends_visited visits = record {
    donor = ap (λ (e : Engine). e.donor) visits.same;
    told = ap (λ (e : Engine). e.disk.told) visits.same;
    disk = record {
      later = visits.later;
      orders = ap (λ (e : Engine). e.disk.orders) visits.same;
      tells = ap (λ (e : Engine). is_some e.disk.told) visits.same;
    };
  }

  -- where it is refused
  refused_lends : {X : Type 0} (cause : Option CloneCause) (why : CloneRefusal) (Did : X → Type 0) → CarriesOut {X = X} cause (Err why) d t Did → Lends d t
  refused_lends cause (Because why) Did did = lends_same did.1
  refused_lends cause NoMemory Did did = lends_engine did.1.1

  unread_lends : (caller : Caller) (stage chunk number : ℕ) (why : BlockRefusal) → RefusesBlock caller stage chunk number d t why → Lends d t
  unread_lends caller stage chunk number (unread.Clone (Because cause)) did = lends_same did.1
  unread_lends caller stage chunk number (unread.Clone NoMemory) did = lends_visited did.0
  unread_lends caller stage chunk number (unread.Engine (engine.Because cause)) did = lends_visited did.2
  unread_lends caller stage chunk number (unread.Engine engine.NoMemory) did = absurd did

  pub call_lends : (asked : DonorCall) (given : DonorAnswer) → IsOfClone asked → Answered asked given d t → Lends d t
  call_lends (call.Engine asked) given own did = absurd own
  call_lends (call.Init hello) (answer.Init (Ok info)) own did = lends_engine did.1.engine
  call_lends (call.Init hello) (answer.Init (Err why)) own did = refused_lends _ why _ did
  call_lends (call.Attach caller) (answer.Attach result) own did = lends_same did.1
  call_lends (call.Reinit caller stage finished) (answer.Reinit (Ok info)) own did = lends_engine did.1.1
  call_lends (call.Reinit caller stage finished) (answer.Reinit (Err why)) own did = refused_lends _ why _ did
  call_lends (call.ReinitBlocks caller stage has) (answer.ReinitBlocks (Ok info)) own did = lends_engine did.1.1
  call_lends (call.ReinitBlocks caller stage has) (answer.ReinitBlocks (Err why)) own did = refused_lends _ why _ did
  call_lends (call.Kept caller stage chunk) (answer.Kept (Ok mask)) own did = lends_same did.1.1
  call_lends (call.Kept caller stage chunk) (answer.Kept (Err why)) own did = lends_same did.1
  call_lends (call.Execute caller stage) (answer.Execute (Ok done)) own did = lends_same did.1
  call_lends (call.Execute caller stage) (answer.Execute (Err why)) own did = lends_same did.1
  call_lends (call.Claim caller stage) (answer.Claim result) own did = lends_engine did.1
  call_lends (call.ReadBlock caller stage chunk number) (answer.ReadBlock (Ok (read, last))) own did = lends_visited did.1.visits
  call_lends (call.ReadBlock caller stage chunk number) (answer.ReadBlock (Err why)) own did = unread_lends caller stage chunk number why did
  call_lends (call.Ack caller stage floor) (answer.Ack (Ok info)) own did = lends_settled did.1.settles
  call_lends (call.Ack caller stage floor) (answer.Ack (Err why)) own did = refused_lends _ why _ did
  call_lends (call.Exit caller) (answer.Exit (Ok gone)) own did = lends_settled did.1.1
  call_lends (call.Exit caller) (answer.Exit (Err why)) own did = lends_same did.1
  call_lends (call.Abandon session) (answer.Abandon (Ok gone)) own did = lends_settled did.1.1
  call_lends (call.Abandon session) (answer.Abandon (Err why)) own did = lends_same did.1
  call_lends (call.Archive limit) (answer.Archive (Ok reached)) own did = lends_settled did.1
  call_lends (call.Archive limit) (answer.Archive (Err e)) own did = lends_engine did.1
  call_lends asked given own did = absurd did

lends_then : (d u t : Donor) → Lends d u → Lends u t → Lends d t
lends_then d u t first second = record {
  donor = second.donor ∙ first.donor;
  told = second.told ∙ first.told;
  disk = record {
    later = omega (arith, first.disk.later, second.disk.later);
    orders = second.disk.orders ∙ first.disk.orders;
    tells = second.disk.tells ∙ first.disk.tells;
  };
}

-- ---- THE CALLS OF A STEP are calls of a clone

abbrev pub AreOfClone : List Exchange → Type 0
AreOfClone exchanges = AllByRecursion (λ (x : Exchange). IsOfClone x.0) exchanges

within_of : (asked : DonorCall) → IsWithin asked → IsOfClone asked
within_of (call.Engine asked) within = absurd within
within_of other within = tt

all_within_of : (exchanges : List Exchange) → AreWithin exchanges → AreOfClone exchanges
all_within_of [] within = tt
all_within_of (x ∷ xs) within = (within_of x.0 within.0, all_within_of xs within.1)

abbrev FindsOfClone : Option Command → Type 0
FindsOfClone None = ⊤
FindsOfClone (Some found) = IsOfClone found.call

command_found : (bound : Option Caller) (command : Frame) → FindsOfClone (command_of bound command)
command_found None (frame.Init attempt version size compressed tasks) = tt
command_found None (frame.Attach attempt task) = tt
command_found None (frame.Reinit attempt stage finished) = tt
command_found None (frame.Reinit2 attempt stage taken) = tt
command_found None other = tt
command_found (Some caller) (frame.Execute stage) = tt
command_found (Some caller) (frame.Ack stage given) = tt
command_found (Some caller) frame.Exit = tt
command_found (Some caller) other = tt

begins_of : (d begun : Doing) (received left : List ℕ) (asked : DonorCall) → BeginsBy d received left begun asked → IsOfClone asked
begins_of d begun received left asked (commanded bound idle takes) = subst FindsOfClone takes.asks (command_found bound takes.command)
begins_of d begun received left asked (inside is same) = within_of asked is

asked_of : (d begun : Doing) (received left : List ℕ) (exchanges : List Exchange) → AsksAll d received left begun exchanges → AreOfClone exchanges
asked_of d begun received left [] asks = tt
asked_of d begun received left (x ∷ xs) asks = (begins_of d begun received left x.0 asks.0, all_within_of xs asks.1)

all_lend : (exchanges : List Exchange) (d t : Donor) → AreOfClone exchanges → GivesAll gives d exchanges t → Lends d t
all_lend [] d t own is = lends_same d t is
all_lend (x ∷ xs) d t own (mid, acts, rest) = lends_then d mid t (call_lends d mid x.0 x.1 own.0 acts.does) (all_lend xs mid t own.1 rest)

-- ---- A STOP is one of the moment of its act

first_here : (number : ℕ) (d : Donor) (e entry : Entry) (before after : List Entry) (at : Engine) (stop : Stop) → e ∷ [] ≡ before ++ entry ∷ after → at ≡ (end_of d before).engine → IsStopOf number at stop → IsStopOf number d.engine stop
first_here number d e entry [] after at stop split here is = subst (λ (x : Engine). IsStopOf number x stop) here is
first_here number d e entry (k ∷ ks) after at stop split here is = absurd (let long = ap (length {A = Entry}) split in omega (arith, length-append ks (entry ∷ after)))

pub stop_by_act : (number : ℕ) (d t : Donor) (act : Act) → Acts act d t → StopsNow number d t
stop_by_act number d t act acts stop none some =
    let e : Entry = record { act = act; after = t } in
    let first : first_stop number (e ∷ []) ≡ Some stop = ap (λ (o : Option Stop). option_or o None) some in
    let (at, s) = first_stops number d (e ∷ []) stop none (acts, tt) first in
    first_here number d e s.entry s.before s.after at stop s.split s.here s.is

stop_by_calls : (number : ℕ) (d t : Donor) (begun : Doing) (received left : List ℕ) (doing : Doing) (exchanges : List Exchange) → AsksAll doing received left begun exchanges → GivesAll gives d exchanges t → StopsNow number d t
stop_by_calls number d t begun received left doing [] asks is stop none some =
    absurd (two_none (own_stop number t.cloning.stop) stop (ap (λ (x : Donor). own_stop number x.cloning.stop) is ∙ none) some)
stop_by_calls number d t begun received left doing (x ∷ xs) asks (mid, acts, rest) stop none some =
    stop_by_act number d mid (Calls x.0 x.1) acts stop none (ap (own_stop number) (sym (all_within_stop xs mid t asks.1 rest)) ∙ some)

-- ---- A STEP OF A DONOR'S END

step_calls : (d t : Donor) (at after : Connection) (says : DonorStep) (e : StepsEnd gives d t at after says) → AsksAll at.doing at.to_donor e.serves.left e.serves.steps.is.begun e.serves.steps.exchanges
step_calls d t at after says e =
    let s = e.serves.steps in
    step_asks s.exchanges at.doing e.serves.doing at.to_donor e.serves.left (sent_behind (reaches_task at) at.to_task) e.serves.sent e.says s.is

pub end_lends : (d t : Donor) (at after : Connection) (says : DonorStep) → StepsEnd gives d t at after says → Lends d t
end_lends d t at after says e =
    let s = e.serves.steps in
    all_lend s.exchanges d t (asked_of at.doing s.is.begun at.to_donor e.serves.left s.exchanges (step_calls d t at after says e)) s.answers

pub end_stops : (number : ℕ) (d t : Donor) (at after : Connection) (says : DonorStep) → StepsEnd gives d t at after says → StopsNow number d t
end_stops number d t at after says e =
    let s = e.serves.steps in
    stop_by_calls number d t s.is.begun at.to_donor e.serves.left at.doing s.exchanges (step_calls d t at after says e) s.answers

pub end_calls : (d t : Donor) (at after : Connection) (says : DonorStep) (e : StepsEnd gives d t at after says) → AreOfClone e.serves.steps.exchanges
end_calls d t at after says e =
    asked_of at.doing e.serves.steps.is.begun at.to_donor e.serves.left e.serves.steps.exchanges (step_calls d t at after says e)

-- ---- ONE ACT

pub act_lends : (d t : Donor) (asked : DonorCall) (given : DonorAnswer) → IsOfClone asked → CloneActs asked given d t → Lends d t
act_lends d t asked given own acts = call_lends d t asked given own acts.does

pub act_tells : (d t : Donor) (act : Act) → Acts act d t → is_some t.engine.disk.told ≡ is_some d.engine.disk.told
act_tells d t act acts = (went d t act acts.does).tells
