-- While the clone goes on some task or some end of the donor's finds something to do.
use Rattle.std.proofs.Common.{ℕ, ◌≡◌, ◌≢◌, ◌∙◌, ◌⊎◌, ◌<◌, ◌≤◌, List, [], ◌∷◌, Bool, true, false, Option, None, Some, length, map, if◌then◌else◌, refl, sym, ap, subst, inl, inr, arith}
use Rattle.std.specs.Prelude.{slice_get, not, ◌||◌, MatchOption, IfSome}
use Rattle.std.proofs.lemmas.Bool.{both_ways}
use Rattle.clone_outside.specs.DiskCalls.{DiskState}
use Rattle.clone_snapshot.specs.StageLists.{StageList}
use Rattle.clone_session.specs.Cloning.{Session}
use Rattle.clone_wire.specs.Answers.{BeginsNone}
use Rattle.clone_wire.specs.declared.frame.Frame.{Frame}
use Rattle.clone_wire.specs.declared.frame.Side.TheVariants.{Answer as ofDonor, Command as ofTask}
use Rattle.clone_calls.specs.declared.answer.DonorAnswer.{DonorAnswer}
use Rattle.clone_calls.specs.declared.call.DonorCall.{DonorCall}
use Rattle.clone_serve.specs.declared.doing.Doing.{Doing}
use Rattle.clone_serve.specs.declared.doing.Doing.TheVariants as doing
use Rattle.clone_serve.specs.declared.turn.ServeAnswer.TheVariants as says
use Rattle.clone_tasks.specs.Rules.{is_absent, rule_at, sending_rule}
use Rattle.clone_tasks.specs.Tables.{incarnation_of, is_running}
use Rattle.clone_tasks.specs.declared.rule.Link.TheVariants as link
use Rattle.clone_tasks.specs.declared.rule.Rule.{Rule as TaskRule}
use Rattle.clone_tasks.specs.declared.rule.Rule.TheVariants as rule
use Rattle.clone_recipient.specs.Receptions.{Reception}
use Rattle.clone_fetch.specs.Fetching as fetch
use Rattle.clone_fetch.specs.Fetching.{requester}
use Rattle.clone_fetch.specs.declared.answer.TaskAnswer.{TaskAnswer}
use Rattle.clone_fetch.specs.declared.answer.TaskAnswer.TheVariants as told
use Rattle.clone_network.specs.Connections.{Connection, StepsBy, is_open, is_serving, link_over, sent_behind}
use Rattle.clone_network.specs.Networks as network
use Rattle.clone_network.specs.Networks.{Network, StepsTask}
use Rattle.clone_network.specs.declared.donor_step.DonorStep.TheVariants as step
use Rattle.clone_rounds.specs.World.{Answer, Command, Core, Nothing, Seat, World, IsLinked, IsLive, IsServing, fresh}
use Rattle.clone_rounds.specs.World as rounds
use Rattle.clone_rounds.specs.Idle.{Acknowledges, Completes, Connects, Executes, IsStuck, Loses, Takes}
use Rattle.clone_rounds.proofs.Stuck.{never_stuck}
use Rattle.clone_view.specs.Applying.{Applies, Receives, Rests}
use Rattle.clone_view.specs.Donors.{core_of}
use Rattle.clone_view.specs.Frames.{AreAnswers, AreCommands, answer_of, command_of}
use Rattle.clone_view.specs.Views.{IsView, list_in}
use Rattle.clone_view.proofs.Applying.{applies}
use Rattle.clone_paired.specs.Lines.{connection_of, doing_at, is_lost, made_of}
use Rattle.clone_paired.specs.Paired.{HasCopied, IsCopying, IsPaired, IsReception, IsTalking}
use Rattle.clone_paired.specs.Quiet.{EndRests, GoesOn, IsQuiet, TaskRests}
use Rattle.clone_paired.proofs.Linked.{Linked, apart_is, linked, none_at, same_connection, unlinked}
use Rattle.clone_paired.proofs.Lookups.{connection_is, made_is, seat_there}
use Rattle.clone_paired.proofs.QuietEnds.{Awaits, IsAwaiting, end_awaits}
use Rattle.clone_paired.proofs.QuietTasks.{IsQuiet as SaysIdle, RestsBy, complete_apart, complete_over, rule_apart, rule_over, steps_rests}
use Rattle.clone_paired.proofs.UnreadLemmas.{holds_partial}

-- ---- of frames

no_answers : (counts : ℕ → List ℕ) (frames : List Frame) (answers : List Answer) → AreAnswers counts frames answers → frames ≡ [] → answers ≡ []
no_answers counts frames [] are none = refl
no_answers counts frames (x ∷ answers) are none = absurd (cc (are, ap (map (answer_of counts)) none))

pub no_commands : (frames : List Frame) (commands : List Command) → AreCommands frames commands → frames ≡ [] → commands ≡ []
no_commands frames [] are none = refl
no_commands frames (x ∷ commands) are none = absurd (cc (are, ap (map command_of) none))

-- ---- of a connection's end

pub link_there : (at : Connection) → is_absent (link_over at) ≡ false
link_there at = by (at.cut || not (is_open at))
  where
    by : (b : Bool) → is_absent (if b then link.Lost else link.Up) ≡ false
    by true = refl
    by false = refl

pub link_lost : (at : Connection) → fetch.is_lost (link_over at) ≡ is_lost at
link_lost at = by (at.cut || not (is_open at))
  where
    by : (b : Bool) → fetch.is_lost (if b then link.Lost else link.Up) ≡ b
    by true = refl
    by false = refl

-- what is told of a connection whose end finds nothing to do
pub end_of : {A : Type 0} (gives : A → DonorCall → DonorAnswer → A → Type 0) (a : A) (n : Network) (number : ℕ) (at : Connection) → slice_get n.connections number ≡ Some at → EndRests gives a number n → (after : Connection) × StepsBy (is_open at) gives a a at after (step.Served says.Idle)
end_of gives a n number at there rests =
    let s = subst (λ (o : Option Connection). MatchOption o ((a ≡ a) × (n ≡ n) × (step.Served says.Idle ≡ step.Served says.Idle)) (λ (x : Connection). (after : Connection) × StepsBy (is_open x) gives a a x after (step.Served says.Idle) × (n ≡ network.with_connection number after n))) there rests in
    (s.0, s.1)

-- ---- what an end does, by the core that the rounds have of it

pub serving_core : (list : StageList) (d : Doing) (core : Core) → core_of list d ≡ Some core → IsServing core → is_serving d ≡ true
serving_core list doing.New core is serves = let same : rounds.New ≡ core = cc (is) in absurd (subst IsServing (sym same) serves)
serving_core list (doing.Ready caller) core is serves = let same : rounds.Ready ≡ core = cc (is) in absurd (subst IsServing (sym same) serves)
serving_core list (doing.Telling caller) core is serves = absurd (cc (is))
serving_core list (doing.Starting run) core is serves = absurd (cc (is))
serving_core list doing.Leaving core is serves = absurd (cc (is))
serving_core list (doing.Serving run at) core is serves = refl
serving_core list doing.Over core is serves = let same : rounds.Over ≡ core = cc (is) in absurd (subst IsServing (sym same) serves)

pub awaiting_core : (list : StageList) (d : Doing) (core : Core) → core_of list d ≡ Some core → IsLive core → is_serving d ≡ false → IsAwaiting d
awaiting_core list doing.New core is live idle = tt
awaiting_core list (doing.Ready caller) core is live idle = tt
awaiting_core list (doing.Telling caller) core is live idle = absurd (cc (is))
awaiting_core list (doing.Starting run) core is live idle = absurd (cc (is))
awaiting_core list doing.Leaving core is live idle = absurd (cc (is))
awaiting_core list (doing.Serving run at) core is live idle = absurd (cc (idle))
awaiting_core list doing.Over core is live idle = let same : rounds.Over ≡ core = cc (is) in absurd (subst IsLive (sym same) live)

pub live_open : (list : StageList) (at : Connection) (core : Core) → core_of list (doing_at at) ≡ Some core → IsLive core → is_open at ≡ true
live_open list at core is live = by (is_open at) refl
  where
    by : (b : Bool) → is_open at ≡ b → is_open at ≡ true
    by true e = e
    by false e =
        let same : rounds.Over ≡ core = cc (is, ap (λ (b : Bool). core_of list (if b then at.doing else doing.Over)) e) in
        absurd (subst IsLive (sym same) live)

serving_live : (core : Core) → IsServing core → IsLive core
serving_live rounds.New serves = tt
serving_live rounds.Ready serves = tt
serving_live (rounds.Serving stage rest) serves = tt
serving_live rounds.Over serves = serves

-- ---- NOTHING IS DONE, and the clone goes on

first_none : (a b : Bool) → (a || b) ≡ false → a ≡ false
first_none true b is = absurd (cc (is))
first_none false b is = refl

module _ {A : Type 0} (gives : A → DonorCall → DonorAnswer → A → Type 0) (a : A) (session : Option Session) (r : Reception) (d : DiskState) (n : Network) (tasks : length n.seats ≡ r.table.count) (running : is_running r.table ≡ true) (quiet : IsQuiet gives a r d n) (on : GoesOn gives a n) where
  module _ (talks : IsTalking session r n) (w : World) (view : IsView talks.known r.table session talks.lines w) where
    abbrev Here : ℕ → Type 0
    Here k = Linked session r n talks.lines talks.known w k

    here : (k : ℕ) → (w.seats k).connected ≡ true → Here k
    here = linked session r n talks.lines talks.known w talks.at view

    -- ---- its end
    module _ (k : ℕ) (x : Here k) where
      core_at : core_of (list_in session) (doing_at x.at) ≡ Some (w.seats k).core
      core_at = ap (core_of (list_in session)) (sym x.of.doing) ∙ x.seat.core

      alive : IsLive (w.seats k).core → is_open x.at ≡ true
      alive live = live_open (list_in session) x.at (w.seats k).core core_at live

      core_open : IsLive (w.seats k).core → core_of (list_in session) x.at.doing ≡ Some (w.seats k).core
      core_open live = ap (λ (b : Bool). core_of (list_in session) (if b then x.at.doing else doing.Over)) (sym (alive live)) ∙ core_at

      unserved : IsServing (w.seats k).core → ⊥
      unserved serves = on x.number x.at x.there (alive (serving_live (w.seats k).core serves)) (serving_core (list_in session) x.at.doing (w.seats k).core (core_open (serving_live (w.seats k).core serves)) serves) (quiet.ends x.number)

      idle_end : is_open x.at ≡ true → (serves : Bool) → is_serving x.at.doing ≡ serves → is_serving x.at.doing ≡ false
      idle_end opens false is = is
      idle_end opens true is = absurd (on x.number x.at x.there opens is (quiet.ends x.number))

      end_at : IsLive (w.seats k).core → Awaits x.at
      end_at live =
          let rests = end_of gives a n x.number x.at x.there (quiet.ends x.number) in
          let s = subst (λ (b : Bool). StepsBy b gives a a x.at rests.0 (step.Served says.Idle)) (alive live) rests.1 in
          end_awaits gives a a x.at rests.0 (awaiting_core (list_in session) x.at.doing (w.seats k).core (core_open live) live (idle_end (alive live) (is_serving x.at.doing) refl)) s

      uncarried : IsLive (w.seats k).core → (w.seats k).commands ≢ [] → ⊥
      uncarried live there = there (no_commands x.l.commands (w.seats k).commands x.seat.commands (holds_partial ofTask x.at.cut x.l.commands x.at.to_donor (x.of.live (alive live)) (end_at live).none))

      unfound : IsLive (w.seats k).core → (w.seats k).cut ≡ true → ⊥
      unfound live cut =
          let lost : is_lost x.at ≡ true = sym x.of.cut ∙ sym x.seat.cut ∙ cut in
          both_ways (is_lost x.at) (rw (first_none x.at.cut (not x.at.held) (end_at live).uncut, alive live) refl) lost

    -- ---- a task

    -- no rule applies, or an answer is awaited that isn't there yet
    data Rested (k : ℕ) : Type 0 where
      idle : Rests w k → Rested k
      waits : Receives w k → (w.seats k).answers ≡ [] → (w.seats k).cut ≡ false → Rested k

    waits_at : (k : ℕ) (x : Here k) → Receives w k → fetch.is_lost (link_over x.at) ≡ false → BeginsNone ofDonor x.at.to_task → Rested k
    waits_at k x receives up none = waits receives (no_answers talks.known x.l.answers (w.seats k).answers x.seat.answers (holds_partial ofDonor x.at.cut x.l.answers x.at.to_task x.of.answers none)) (x.seat.cut ∙ x.of.cut ∙ sym (link_lost x.at) ∙ up)

    over_rests : (k : ℕ) (x : Here k) (which : TaskRule) → Applies which w k → RestsBy which (link_over x.at) x.at.to_task → Rested k
    over_rests k x rule.Nothing applied rests = idle applied
    over_rests k x rule.Receive applied rests = waits_at k x applied rests.0 rests.1
    over_rests k x rule.Stale applied rests = absurd applied
    over_rests k x other applied rests = absurd rests

    apart_rests : (k : ℕ) (which : TaskRule) → (w.seats k).connected ≡ false → Applies which w k → RestsBy which link.Absent [] → Rested k
    apart_rests k rule.Nothing off applied rests = idle applied
    apart_rests k rule.Receive off applied rests = absurd (both_ways (w.seats k).connected off applied.linked.connected)
    apart_rests k rule.Stale off applied rests = absurd applied
    apart_rests k other off applied rests = absurd rests

    applied : (k : ℕ) → Applies (sending_rule r.table k) w k
    applied k = applies r.table w k view.table running

    task_rests : (k floor : ℕ) (answer : TaskAnswer) → SaysIdle answer → k < r.table.count → StepsTask k floor r r d d n n answer → Rested k
    task_rests k floor answer says small (network.over seat number at after made has is there f next) =
        let same = same_connection session r n talks.lines talks.known w talks.at view k seat number at has is there in
        let y : Here k = same.x in
        let by : rule_at seat.made r.table k (link_over at) ≡ sending_rule r.table k = rule_over r.table k (link_over at) seat.made same.made (link_there at) (apart_is session r n talks.lines talks.known w talks.at view k true y.seat.connected) in
        let rests : RestsBy (rule_at seat.made r.table k (link_over at)) (link_over at) at.to_task = steps_rests (rule_at seat.made r.table k (link_over at)) (link_over at) k floor (requester r d at.to_task (sent_behind (not at.cut) at.to_donor)) (requester r d f.received f.sent) answer f.steps says in
        over_rests k y (sending_rule r.table k) (applied k) (subst (λ (c : Connection). RestsBy (sending_rule r.table k) (link_over c) c.to_task) same.at_is (subst (λ (t : TaskRule). RestsBy t (link_over at) at.to_task) by rests))
    task_rests k floor answer says small (network.apart seat after connections has is c next) =
        let off : (w.seats k).connected ≡ false = unlinked session r n talks.lines talks.known w talks.at view k (none_at session r n talks.lines talks.known w talks.at view k seat has is) in
        let rests : RestsBy (rule_at seat.made r.table k link.Absent) link.Absent [] = steps_rests (rule_at seat.made r.table k link.Absent) link.Absent k floor (requester r d [] []) (requester r d c.received c.sent) answer c.steps says in
        apart_rests k (sending_rule r.table k) off (applied k) (subst (λ (t : TaskRule). RestsBy t link.Absent []) (rule_apart r.table k seat.made (apart_is session r n talks.lines talks.known w talks.at view k false off)) rests)
    task_rests k floor answer says small (network.absent none same idle_is) =
        let seat = seat_there n.seats k (subst (λ (c : ℕ). k < c) (sym tasks) small) in
        absurd (cc (sym none ∙ seat.1))
    task_rests k floor answer says small (network.no_room same heard) = absurd (subst SaysIdle heard says)

    rested : (k : ℕ) → k < r.table.count → Rested k
    rested k small = by (quiet.tasks k small)
      where
        by : TaskRests k r d n → Rested k
        by (floor, inl s) = task_rests k floor told.Idle tt small s
        by (floor, inr s) = task_rests k floor told.Stale tt small s

    small_of : (k : ℕ) → IsLinked w k → k < r.table.count
    small_of k l = subst (λ (c : ℕ). k < c) view.table.tasks l.task

    some : 0 < r.table.count
    some = omega (arith, view.table.some)

    never_so : IsStuck w
    never_so = record {
      connects = λ k c. connects_not k c (rested k (subst (λ (x : ℕ). k < x) view.table.tasks c.task));
      takes = λ k c. takes_not k c (rested k (small_of k c.linked));
      loses = λ k c. loses_not k c (rested k (small_of k c.linked));
      completes = λ c. completes_not c (rested 0 some);
      acknowledges = λ c. acknowledges_not c (rested 0 some);
      executes = λ k c. executes_not k c (rested k (small_of k c.linked));
      serves = λ k c. unserved k (here k c.linked.connected) c.serving;
      carries = λ k c. uncarried k (here k c.linked.connected) c.live c.there;
      finds = λ k c. unfound k (here k c.linked.connected) c.live c.cut;
    }
      where
        connects_not : (k : ℕ) → Connects w k → Rested k → ⊥
        connects_not k c (idle rests) = rests.connects c
        connects_not k c (waits receives none up) = both_ways (w.seats k).connected c.absent receives.linked.connected

        takes_not : (k : ℕ) → Takes w k → Rested k → ⊥
        takes_not k c (idle rests) = rests.receives (record { linked = c.linked; part = c.part; awaits = c.awaits })
        takes_not k c (waits receives none up) = c.there none

        loses_not : (k : ℕ) → Loses w k → Rested k → ⊥
        loses_not k c (idle rests) = rests.receives (record { linked = c.linked; part = c.part; awaits = c.awaits })
        loses_not k c (waits receives none up) = both_ways (w.seats k).cut up c.cut

        completes_not : Completes w → Rested 0 → ⊥
        completes_not c (idle rests) = rests.completes refl c
        completes_not c (waits receives none up) = receives.awaits c.awaits

        acknowledges_not : Acknowledges w → Rested 0 → ⊥
        acknowledges_not c (idle rests) = rests.acknowledges refl c
        acknowledges_not c (waits receives none up) = receives.awaits c.awaits

        executes_not : (k : ℕ) → Executes w k → Rested k → ⊥
        executes_not k c (idle rests) = rests.executes c
        executes_not k c (waits receives none up) = receives.awaits c.awaits

  -- ---- both ways in which the clone goes on

  copying_moves : IsTalking session r n → ⊥
  copying_moves talks =
      let seen = talks.rounds.seen talks.known (λ stage small. refl) in
      never_stuck seen.rounds seen.rule (never_so talks seen.rounds seen.view)

  copied_moves : 1 ≤ r.table.count → HasCopied r n → ⊥
  copied_moves some copied = by (quiet.tasks 0 (omega (arith, some)))
    where
      made_here : (connection : Option ℕ) → IfSome connection (λ number. made_of n 0 ≡ Some (incarnation_of r.table)) → (number : ℕ) → connection ≡ Some number → made_of n 0 ≡ Some (incarnation_of r.table)
      made_here None made number is = absurd (cc (is))
      made_here (Some other) made number is = made

      never : (answer : TaskAnswer) (floor : ℕ) → SaysIdle answer → StepsTask 0 floor r r d d n n answer → ⊥
      never answer floor says (network.over seat number at after made has is there f next) =
          let own : seat.made ≡ Some (incarnation_of r.table) = sym (made_is n 0 seat has) ∙ made_here (connection_of n 0) copied.made number (connection_is n 0 seat has ∙ is) in
          let rests : RestsBy (rule_at seat.made r.table 0 (link_over at)) (link_over at) at.to_task = steps_rests (rule_at seat.made r.table 0 (link_over at)) (link_over at) 0 floor (requester r d at.to_task (sent_behind (not at.cut) at.to_donor)) (requester r d f.received f.sent) answer f.steps says in
          subst (λ (t : TaskRule). RestsBy t (link_over at) at.to_task) (complete_over r.table (link_over at) seat.made some running copied.done copied.rests own) rests
      never answer floor says (network.apart seat after connections has is c next) =
          let rests : RestsBy (rule_at seat.made r.table 0 link.Absent) link.Absent [] = steps_rests (rule_at seat.made r.table 0 link.Absent) link.Absent 0 floor (requester r d [] []) (requester r d c.received c.sent) answer c.steps says in
          subst (λ (t : TaskRule). RestsBy t link.Absent []) (complete_apart r.table seat.made some running copied.done copied.rests) rests
      never answer floor says (network.absent none same idle_is) = let seat = seat_there n.seats 0 (omega (arith, some, tasks)) in cc (sym none ∙ seat.1)
      never answer floor says (network.no_room same heard) = subst SaysIdle heard says

      by : TaskRests 0 r d n → ⊥
      by (floor, inl s) = never told.Idle floor tt s
      by (floor, inr s) = never told.Stale floor tt s

-- NEVER STUCK
pub some_moves : {A : Type 0} (gives : A → DonorCall → DonorAnswer → A → Type 0) (a : A) (session : Option Session) (r : Reception) (d : DiskState) (n : Network) → IsReception r → IsPaired session r n → is_running r.table ≡ true → IsQuiet gives a r d n → GoesOn gives a n → ⊥
some_moves gives a session r d n own paired running quiet on = by paired.goes
  where
    by : IsCopying session r n ⊎ HasCopied r n → ⊥
    by (inl copying) = copying_moves gives a session r d n paired.tasks running quiet on copying.talking
    by (inr copied) = copied_moves gives a session r d n paired.tasks running quiet on own.table.some copied
