-- A donor and a recipient stay joined, whatever either does and becomes of a connection.
use Rattle.std.proofs.Common.{ℕ, ◌≡◌, ◌++◌, ◌∷◌, [], List, Bool, true, false, if◌then◌else◌, Option, None, Some, MatchOption, slice_get, refl, sym, ap, subst, arith}
use Rattle.std.specs.Prelude.{not}
use Rattle.std.specs.List.{AllByRecursion}
use Rattle.clone_outside.specs.Disk.{DiskImage, ForTold, Steps, blank}
use Rattle.clone_outside.specs.DiskCalls.{DiskState}
use Rattle.clone_outside.specs.declared.mark.Mark.TheVariants.{InProgress}
use Rattle.clone_lay.specs.Marked.{marked}
use Rattle.clone_session.specs.declared.info.Stop.{Stop}
use Rattle.clone_wire.specs.declared.frame.Side.TheVariants.{Answer, Command}
use Rattle.clone_tasks.specs.Rules.{rule_at}
use Rattle.clone_tasks.specs.Tables.{is_running}
use Rattle.clone_tasks.specs.declared.rule.Link.TheVariants.{Absent}
use Rattle.clone_recipient.specs.Receptions.{AreCounted, Reception, begun}
use Rattle.clone_recipient.proofs.RecordLemmas.{record_begins}
use Rattle.clone_fetch.specs.Fetching.{Requester, requester}
use Rattle.clone_fetch.specs.declared.answer.TaskAnswer.{TaskAnswer}
use Rattle.clone_fetch.specs.declared.answer.TaskAnswer.TheVariants as says
use Rattle.clone_network.specs.Connections.{Connection, StepsBy, StepsEnd, cut_at, is_open, link_over, opened, reaches_task, sent_behind}
use Rattle.clone_network.specs.Networks as network
use Rattle.clone_network.specs.Networks.{Connects, Fetches, Network, Seat, StepsDonor, StepsTask, after_answer, on_connected, sends, unconnected, with_connection, with_seat}
use Rattle.clone_network.specs.declared.donor_step.DonorStep.{DonorStep}
use Rattle.clone_network.specs.declared.donor_step.DonorStep.TheVariants as step
use Rattle.clone_serve.specs.declared.turn.ServeAnswer.TheVariants as served
use Rattle.clone_engine.specs.Acts.{Act, Acts}
use Rattle.clone_engine.specs.Donor.{Donor}
use Rattle.clone_sides.specs.Trace.{Entry}
use Rattle.clone_told.specs.Told.{gives}
use Rattle.clone_joined.specs.Carried.{IsCarried, MayAsk, WasSaid}
use Rattle.clone_joined.specs.Joined.{IsJoined}
use Rattle.clone_joined.specs.Runs.{HasCome, HasRun, MayAct, stop_by}
use Rattle.clone_joined.specs.Strangers.{acts_in}
use Rattle.clone_joined.proofs.CarriedLemmas.{all_append, all_as, carries_none}
use Rattle.clone_joined.proofs.ConnectionLemmas.{EndStep, KeepsFloor, carried_as, carried_cut, carried_given_up, carries_sent, end_step}
use Rattle.clone_joined.proofs.NetworkLemmas.{all_after, all_connected, all_set, one_of}
use Rattle.clone_joined.proofs.RunLemmas.{StaysSaid, run_as, run_on, said_on, stop_here}
use Rattle.clone_joined.proofs.StrangerLemmas.{StrangerStep, stranger_step}
use Rattle.clone_joined.proofs.TaskLemmas.{GoesOn, IsReceiver, TaskStep, task_step}

-- THEY BEGIN.
marked_told : (number : ℕ) (told now : Option DiskImage) → ForTold told (λ m. m ≡ blank) → Steps told now (marked (InProgress number)) → ForTold now (λ m. m ≡ marked (InProgress number) blank)
marked_told number None now is steps = subst (λ (o : Option DiskImage). ForTold o (λ m. m ≡ marked (InProgress number) blank)) (sym steps) tt
marked_told number (Some m) now is steps = subst (λ (o : Option DiskImage). ForTold o (λ m. m ≡ marked (InProgress number) blank)) (sym steps) (ap (marked (InProgress number)) is)

pub joined_begins : (number count limit version tasks : ℕ) (stop : Option Stop) (d : Donor) (told now : Option DiskImage) → HasCome number None stop d → ForTold told (λ m. m ≡ blank) → Steps told now (marked (InProgress number))
    → IsJoined number stop d (begun number count limit version) now (unconnected tasks)
joined_begins number count limit version tasks stop d told now (trace, run) is steps = record {
  trace = trace;
  run = run;
  items = [];
  first = marked (InProgress number) blank;
  blank = refl;
  unfinished = refl;
  accepted = record_begins number count limit version (marked (InProgress number) blank) now (marked_told number told now is steps);
  answered = λ item (i, within, same). absurd (omega (arith, within));
  session = refl;
  bounded = omega arith;
  carried = tt;
}

module _ (number : ℕ) (r : Reception) (told : Option DiskImage) where
  -- THE DONOR GOES ON, and what was answered stays so.
  goes_on : (stop next : Option Stop) (d t : Donor) (n m : Network) (j : IsJoined number stop d r told n) (on : List Entry) → HasRun number r.table.floor next on t → StaysSaid number j.trace on → AllByRecursion (IsCarried number r.table.floor on) m.connections → IsJoined number next t r told m
  goes_on stop next d t n m j on run still carried = record {
    trace = on;
    run = run;
    items = j.items;
    first = j.first;
    blank = j.blank;
    unfinished = j.unfinished;
    accepted = j.accepted;
    answered = λ item has. still _ (j.answered item has);
    session = j.session;
    bounded = j.bounded;
    carried = carried;
  }

  module _ (stop : Option Stop) where
    -- what is on its way is so while the donor goes on
    all_still : (d : Donor) (n : Network) (j : IsJoined number stop d r told n) (on : List Entry) → StaysSaid number j.trace on → AllByRecursion (IsCarried number r.table.floor on) n.connections
    all_still d n j on still = all_as (carried_as number r.table.floor r.table.floor j.trace on (λ kept is. is) still) n.connections j.carried

    pub joined_acts : (d t : Donor) (act : Act) (n : Network) → IsJoined number stop d r told n → Acts act d t → MayAct number r.table.floor d act → IsJoined number (stop_by number stop t) t r told n
    joined_acts d t act n j acts may =
        let e : Entry = record { act = act; after = t } in
        let on : List Entry = j.trace ++ e ∷ [] in
        let still : StaysSaid number j.trace on = said_on number j.trace e in
        goes_on stop (stop_by number stop t) d t n n j on (run_on number r.table.floor stop j.trace d t act j.run acts may) still (all_still d n j on still)

    pub joined_strangers : (d t : Donor) (n : Network) (at after : Connection) (says : DonorStep) → IsJoined number stop d r told n → StepsEnd gives d t at after says → acts_in number d t at says ≡ false → IsJoined number (stop_by number stop t) t r told n
    joined_strangers d t n at after says j e none =
        let more : StrangerStep number r.table.floor (stop_by number stop t) j.trace t = stranger_step number r.table.floor stop j.trace d t at after says j.run e none in
        goes_on stop (stop_by number stop t) d t n n j more.on more.run more.still (all_still d n j more.on more.still)

    -- it stays where it is
    joined_here : (d : Donor) (n : Network) → IsJoined number stop d r told n → IsJoined number (stop_by number stop d) d r told n
    joined_here d n j = subst (λ (s : Option Stop). IsJoined number s d r told n) (sym (stop_here number r.table.floor stop j.trace d j.run)) j

    pub joined_donor : (d t : Donor) (n m : Network) (connection : ℕ) (answer : DonorStep) → IsJoined number stop d r told n → StepsDonor gives d t connection n m answer → IsJoined number (stop_by number stop t) t r told m
    joined_donor d t n m connection answer j steps = by (slice_get n.connections connection) refl steps
      where
        same : (t : Donor) (m x : Network) → t ≡ d → m ≡ x → IsJoined number stop d r told x → IsJoined number (stop_by number stop t) t r told m
        same t m x donor network joined = subst (λ (v : Donor). IsJoined number (stop_by number stop v) v r told m) (sym donor) (subst (IsJoined number (stop_by number stop d) d r told) (sym network) (joined_here d x joined))

        changed : (at after : Connection) → slice_get n.connections connection ≡ Some at → (e : EndStep number r.table.floor j.trace (stop_by number stop t) t after) → m ≡ with_connection connection after n → IsJoined number (stop_by number stop t) t r told m
        changed at after here e is =
            subst (IsJoined number (stop_by number stop t) t r told) (sym is)
            (goes_on stop (stop_by number stop t) d t n (with_connection connection after n) j e.on e.run e.still (all_set (IsCarried number r.table.floor e.on) n.connections connection after e.carried (all_still d n j e.on e.still)))

        at_open : (at after : Connection) → slice_get n.connections connection ≡ Some at → (b : Bool) → StepsBy b gives d t at after answer → m ≡ with_connection connection after n → IsJoined number (stop_by number stop t) t r told m
        at_open at after here true e is = changed at after here (end_step number r.table.floor j.trace stop d t at after answer j.run (one_of (IsCarried number r.table.floor j.trace) n.connections connection at here j.carried) e) is
        at_open at after here false e is =
            same t m (with_connection connection after n) e.donor is
            (goes_on stop stop d d n (with_connection connection after n) j j.trace j.run (λ said has. has) (all_set (IsCarried number r.table.floor j.trace) n.connections connection after (subst (IsCarried number r.table.floor j.trace) (sym e.is) (one_of (IsCarried number r.table.floor j.trace) n.connections connection at here j.carried)) j.carried))

        by : (found : Option Connection) → slice_get n.connections connection ≡ found
            → MatchOption found ((t ≡ d) × (m ≡ n) × (answer ≡ step.Served served.Idle)) (λ (at : Connection). (after : Connection) × StepsBy (is_open at) gives d t at after answer × (m ≡ with_connection connection after n)) → IsJoined number (stop_by number stop t) t r told m
        by None here steps = same t m n steps.0 steps.1 j
        by (Some at) here (after, e, is) = at_open at after here (is_open at) e is

    pub joined_cuts : (d : Donor) (n : Network) (connection to_donor to_task : ℕ) → IsJoined number stop d r told n → IsJoined number stop d r told (on_connected connection (cut_at to_donor to_task) n)
    joined_cuts d n connection to_donor to_task j =
        goes_on stop stop d d n (on_connected connection (cut_at to_donor to_task) n) j j.trace j.run (λ said has. has)
        (all_connected (IsCarried number r.table.floor j.trace) connection (cut_at to_donor to_task) n (carried_cut number r.table.floor j.trace to_donor to_task) j.carried)

-- A TASK GOES ON.
module _ (number : ℕ) (stop : Option Stop) (d : Donor) (r s : Reception) (disk after : DiskState) (n m : Network) (task floor : ℕ) (answer : TaskAnswer) (counted : AreCounted r.table.phase r) (j : IsJoined number stop d r disk.told n) (on : GoesOn s answer) where
  abbrev Ways : List Connection → Type 0
  Ways cs = AllByRecursion (IsCarried number s.table.floor j.trace) cs

  abbrev Step : Bool → Requester → Requester → Type 0
  Step whole old new = TaskStep number j.trace j.first whole old new

  receiver : IsReceiver number j.trace j.first r disk.told
  receiver = record { items = j.items; accepted = j.accepted; answered = j.answered; session = j.session; bounded = j.bounded }

  came : (k : IsReceiver number j.trace j.first s after.told) → KeepsFloor r.table.floor s.table.floor → Ways m.connections → IsJoined number stop d s after.told m
  came k keeps carried = record {
    trace = j.trace;
    run = run_as number r.table.floor s.table.floor stop j.trace d keeps j.run;
    items = k.items;
    first = j.first;
    blank = j.blank;
    unfinished = j.unfinished;
    accepted = k.accepted;
    answered = k.answered;
    session = k.session;
    bounded = k.bounded;
    carried = carried;
  }

  ways_as : KeepsFloor r.table.floor s.table.floor → Ways n.connections
  ways_as keeps = all_as (carried_as number r.table.floor s.table.floor j.trace j.trace keeps (λ said has. has)) n.connections j.carried

  rested : network.Rests r s disk after n m → IsJoined number stop d s after.told m
  rested rests =
      subst (IsJoined number stop d s after.told) (sym rests.network)
      (subst (λ (e : DiskState). IsJoined number stop d s e.told n) (sym rests.disk)
      (subst (λ (x : Reception). IsJoined number stop d x disk.told n) (sym rests.reception) j))

  over_one : (seat : Seat) (connection : ℕ) (at new : Connection) (made : Option ℕ) → slice_get n.connections connection ≡ Some at → Fetches task floor seat.made made at new r s disk after answer
      → m ≡ after_answer answer (with_seat task (record { made = made; connection = Some connection }) (with_connection connection new n)) → IsJoined number stop d s after.told m
  over_one seat connection at new made here f is =
      let c : IsCarried number r.table.floor j.trace at = one_of (IsCarried number r.table.floor j.trace) n.connections connection at here j.carried in
      let reaches : Bool = not at.cut in
      let behind : List ℕ = sent_behind reaches at.to_donor in
      let stepped : Step (reaches_task at) (requester r disk at.to_task behind) (requester s after f.received f.sent) =
      task_step number j.trace j.first (reaches_task at) (rule_at seat.made r.table task (link_over at)) (link_over at) task floor (requester r disk at.to_task behind) (requester s after f.received f.sent) answer receiver counted c.to_task on f.steps in
      let now : IsCarried number s.table.floor j.trace at = carried_as number r.table.floor s.table.floor j.trace j.trace stepped.floor (λ said has. has) at c in
      let later : IsCarried number s.table.floor j.trace new = subst (IsCarried number s.table.floor j.trace) (sym f.is) (record {
        to_task = stepped.left;
        to_donor = carries_sent Command (MayAsk s.table.floor) reaches at.to_donor f.sent stepped.puts.frames stepped.puts.are stepped.puts.may stepped.puts.is now.to_donor;
      }) in
      let placed : Network = with_seat task (record { made = made; connection = Some connection }) (with_connection connection new n) in
      came stepped.receiver stepped.floor (subst (λ (x : Network). Ways x.connections) (sym is) (all_after (IsCarried number s.table.floor j.trace) (carried_given_up number s.table.floor j.trace) answer placed (all_set (IsCarried number s.table.floor j.trace) n.connections connection new later (ways_as stepped.floor))))

  apart_one : (seat next : Seat) (connections : List Connection) → Connects task floor seat next r s disk after n.connections connections answer → m ≡ after_answer answer (with_seat task next (record n { connections = connections })) → IsJoined number stop d s after.told m
  apart_one seat next connections c is =
      let stepped : Step true (requester r disk [] []) (requester s after c.received c.sent) =
      task_step number j.trace j.first true (rule_at seat.made r.table task Absent) Absent task floor (requester r disk [] []) (requester s after c.received c.sent) answer receiver counted (carries_none Answer (WasSaid number j.trace) true) on c.steps in
      let new : IsCarried number s.table.floor j.trace (opened c.sent) = record {
        to_task = carries_none Answer (WasSaid number j.trace) true;
        to_donor = carries_sent Command (MayAsk s.table.floor) true [] c.sent stepped.puts.frames stepped.puts.are stepped.puts.may stepped.puts.is (carries_none Command (MayAsk s.table.floor) true);
      } in
      let all : Ways connections = subst Ways (sym c.connections) (chosen (sends answer) (opened c.sent) new (ways_as stepped.floor)) in
      came stepped.receiver stepped.floor (subst (λ (x : Network). Ways x.connections) (sym is) (all_after (IsCarried number s.table.floor j.trace) (carried_given_up number s.table.floor j.trace) answer (with_seat task next (record n { connections = connections })) all))
    where
      chosen : (b : Bool) (one : Connection) → IsCarried number s.table.floor j.trace one → Ways n.connections → Ways (if b then n.connections ++ one ∷ [] else n.connections)
      chosen true one new all = all_append (IsCarried number s.table.floor j.trace) n.connections (one ∷ []) all (new, tt)
      chosen false one new all = all

  pub joined_on : StepsTask task floor r s disk after n m answer → IsJoined number stop d s after.told m
  joined_on (network.over seat connection at new made sits has here f is) = over_one seat connection at new made here f is
  joined_on (network.apart seat next connections sits none c is) = apart_one seat next connections c is
  joined_on (network.absent none rests idle) = rested rests
  joined_on (network.no_room rests heard) = absurd (on.memory heard)

pub joined_task : (number : ℕ) (stop : Option Stop) (d : Donor) (r s : Reception) (disk after : DiskState) (n m : Network) (task floor : ℕ) (answer : TaskAnswer) → AreCounted r.table.phase r → IsJoined number stop d r disk.told n → StepsTask task floor r s disk after n m answer
    → (answer ≡ says.NoMemory → ⊥) → is_running s.table ≡ true → IsJoined number stop d s after.told m
joined_task number stop d r s disk after n m task floor answer counted j steps memory running =
    joined_on number stop d r s disk after n m task floor answer counted j (record { running = running; memory = memory }) steps
