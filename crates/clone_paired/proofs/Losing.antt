-- A task finds a loss that the clone outlasts: each task gives its connection up.
use Rattle.std.proofs.Common.{ℕ, ◌≡◌, ◌∙◌, ◌≤◌, List, [], ◌∷◌, Bool, true, false, Option, None, Some, refl, sym, ap, subst, inl, inr, arith}
use Rattle.std.specs.Prelude.{slice_get, option_map, ◌==◌, IfSome}
use Rattle.std.specs.List.{AllByRecursion}
use Rattle.clone_chunk.specs.Stages.{copy_number}
use Rattle.clone_chunk.specs.declared.copy_stage.CopyStage.{CopyStage}
use Rattle.clone_chunk.specs.declared.copy_stage.CopyStage.TheVariants as copy
use Rattle.clone_marks.proofs.ForgetLemmas.{forgotten_blocks}
use Rattle.clone_snapshot.specs.StageLists.{StageList}
use Rattle.clone_session.specs.Cloning.{Session}
use Rattle.clone_session.specs.declared.caller.Caller.{Caller}
use Rattle.clone_wire.specs.declared.frame.Frame.{Frame}
use Rattle.clone_wire.specs.declared.frame.Frame.TheVariants as frame
use Rattle.clone_serve.specs.declared.doing.Doing.{Doing}
use Rattle.clone_serve.specs.declared.doing.Doing.TheVariants as doing
use Rattle.clone_tasks.specs.Losing.{after_loss, is_spent, kept_in}
use Rattle.clone_tasks.specs.Rules.{sending_rule}
use Rattle.clone_tasks.specs.Sending.{IsFirst, Opens, Reattaches}
use Rattle.clone_tasks.specs.Tables.{Table, incarnation_of, is_running}
use Rattle.clone_tasks.specs.declared.rule.Rule.TheVariants.{Receive}
use Rattle.clone_tasks.specs.declared.standing.Phase.{Phase}
use Rattle.clone_tasks.specs.declared.standing.Phase.TheVariants.{Opening, Copying, Done}
use Rattle.clone_recipient.specs.Receptions.{Reception}
use Rattle.clone_network.specs.Connections.{Connection, given_up}
use Rattle.clone_network.specs.Networks.{Network, hung_up}
use Rattle.clone_rounds.specs.World.{Acknowledge, Command, Core, World}
use Rattle.clone_rounds.proofs.Moving.{kept}
use Rattle.clone_rounds.proofs.Talks.{asked_of}
use Rattle.clone_view.specs.Donors.{core_of}
use Rattle.clone_view.specs.Frames.{AreCommands, command_of}
use Rattle.clone_view.specs.Tables.{phase_number}
use Rattle.clone_view.specs.Views.{list_in}
use Rattle.clone_view.proofs.ViewSteps.{found_loss}
use Rattle.clone_paired.specs.Earlier.{BindsEarlier, IsPast, WasAsked}
use Rattle.clone_paired.specs.Lines.{Binds, IsAt, caller_of}
use Rattle.clone_paired.specs.Paired.{IsReception, IsTalking}
use Rattle.clone_paired.specs.Seen.{AreUnsent, ArePast, IsSeen}
use Rattle.clone_paired.specs.Sessions.{Copies, IsSessionOf}
use Rattle.clone_paired.specs.Speaking.{IsAsked}
use Rattle.clone_paired.proofs.GivingUp.{all_given, forgotten_few, given_up_if, has_seat, seat_has, seat_none, vacated_none}
use Rattle.clone_paired.proofs.Keeping.{KeepsOwners, acks_as, task_keeps}
use Rattle.clone_paired.proofs.Linked.{Linked, linked_by}
use Rattle.clone_paired.proofs.Sends.{some_as}
use Rattle.clone_paired.proofs.TaskSends.{opening_of}
use Rattle.clone_paired.proofs.Transports.{WasAcknowledged, past_as}

-- ---- a connection of the present incarnation becomes one of an earlier

module _ (t : Table) (acknowledged : Bool) where
  abbrev u : Table
  u = after_loss t

  first_was : (first : Bool) (j : ℕ) (f : Frame) → IsFirst first t j f → WasAsked u acknowledged f
  first_was true j f is = at t.phase is
    where
      reattaches : (first : Bool) (stage : CopyStage) → Reattaches first stage t f → WasAsked u acknowledged f
      reattaches true stage g = subst (WasAsked u acknowledged) (sym g.1) (refl, omega arith)
      reattaches false stage g = subst (WasAsked u acknowledged) (sym g.1) (refl, omega arith)

      at : (phase : Phase) → Opens phase t f → WasAsked u acknowledged f
      at Opening g = subst (WasAsked u acknowledged) (sym g) ((refl, omega arith), refl, refl)
      at (Copying stage) g = reattaches (t.version == 1) stage g
      at Done g = subst (WasAsked u acknowledged) (sym g) ((refl, omega arith), refl, refl)
  first_was false j f is = subst (WasAsked u acknowledged) (sym is) (refl, omega arith)

  was_now : (j : ℕ) (f : Frame) → IsAsked t j f → ((stage : CopyStage) (floor : ℕ) → f ≡ frame.Ack stage floor → WasAcknowledged (phase_number t.phase) acknowledged (copy_number stage)) → WasAsked u acknowledged f
  was_now j (frame.Execute stage) is acks = tt
  was_now j (frame.Ack stage floor) is acks = acks stage floor refl
  was_now j (frame.Init attempt version size compressed tasks) is acks = first_was (j == 0) j (frame.Init attempt version size compressed tasks) is
  was_now j (frame.Attach attempt task) is acks = first_was (j == 0) j (frame.Attach attempt task) is
  was_now j (frame.Reinit attempt stage finished) is acks = first_was (j == 0) j (frame.Reinit attempt stage finished) is
  was_now j (frame.Reinit2 attempt stage taken) is acks = first_was (j == 0) j (frame.Reinit2 attempt stage taken) is
  was_now j other is acks = absurd (never is)
    where
      never : IsFirst (j == 0) t j other → ⊥
      never h = opening_of (j == 0) t j other h

  binds_past : (list : StageList) (j : ℕ) (d : Doing) (core : Core) → core_of list d ≡ Some core → Binds (caller_of t j) d → BindsEarlier u d
  binds_past list j doing.New core is binds = tt
  binds_past list j (doing.Ready caller) core is binds = (ap (λ (c : Caller). c.session) binds, let own = ap (λ (c : Caller). c.incarnation) binds in omega (arith, own))
  binds_past list j (doing.Telling caller) core is binds = absurd (cc (is))
  binds_past list j (doing.Starting run) core is binds = absurd (cc (is))
  binds_past list j doing.Leaving core is binds = absurd (cc (is))
  binds_past list j (doing.Serving run work) core is binds = (ap (λ (c : Caller). c.session) binds, let own = ap (λ (c : Caller). c.incarnation) binds in omega (arith, own))
  binds_past list j doing.Over core is binds = tt

module _ (session : Option Session) (r : Reception) (n : Network) (own : IsReception r) (running : is_running r.table ≡ true) (talks : IsTalking session r n) (k : ℕ) (receives : sending_rule r.table k ≡ Receive) (outlasts : is_spent (after_loss r.table) ≡ false) where
  abbrev s : Reception
  s = record r { table = after_loss r.table }

  abbrev m : Network
  m = hung_up n

  before_now : (z : Session) → session ≡ Some z → z.incarnation ≤ incarnation_of r.table
  before_now z e = (subst (λ (o : Option Session). IfSome o (IsSessionOf r)) e talks.own).before

  copies_as : (phase : Phase) (list : StageList) → Copies phase r list → Copies phase s list
  copies_as Opening list is = tt
  copies_as (Copying copy.FileCopy) list is = is
  copies_as (Copying copy.PageCopy) list is = is
  copies_as (Copying copy.RedoCopy) list is = is
  copies_as Done list is = tt

  session_as : (z : Session) → IsSessionOf r z → IsSessionOf s z
  session_as z is = record { number = is.number; tasks = is.tasks; version = is.version; before = omega (arith, is.before); chunks = is.chunks; copies = λ same. copies_as r.table.phase z.snap.list (is.copies same) }

  module _ (w : World) (x : Linked session r n talks.lines talks.known w k) (lost : (x.l.answers ≡ []) × (x.l.cut ≡ true)) where
    seen_lost : (counts : ℕ → List ℕ) → IsSeen r.table session n talks.lines counts → IsSeen s.table session m (λ j. None) counts
    seen_lost counts old =
        let found = found_loss counts r.table session talks.lines old.rounds k 0 x.l old.view running receives x.line lost.0 lost.1 outlasts before_now in
        let keep : KeepsOwners old.rounds found.0 = task_keeps old.rounds found.0 found.1 in
        let acks : (stage : ℕ) → WasAcknowledged (phase_number r.table.phase) old.rounds.sides.acknowledged stage → WasAcknowledged (phase_number r.table.phase) found.0.sides.acknowledged stage = acks_as old.rounds found.0 (phase_number r.table.phase) (phase_number r.table.phase) old.view.table.stage found.2.table.stage keep.sides.acks in
        record {
          rounds = found.0;
          rule = kept old.rounds found.0 old.rule (inl found.1);
          view = found.2;
          sizes = λ stage. ap (λ (f : ℕ → ℕ). f stage) keep.sides.size ∙ old.sizes stage;
          unsent = subst (AreUnsent session) (sym keep.owner) old.unsent;
          past = past_lost counts old found.0.sides.acknowledged acks;
        }
      where
        -- what was acknowledged by a command that lies unread
        line_past : (counts : ℕ → List ℕ) (old : IsSeen r.table session n talks.lines counts) (acknowledged : Bool) → ((stage : ℕ) → WasAcknowledged (phase_number r.table.phase) old.rounds.sides.acknowledged stage → WasAcknowledged (phase_number r.table.phase) acknowledged stage) → (j : ℕ) → (y : Linked session r n talks.lines counts old.rounds j) → IsPast s.table acknowledged (given_up y.at)
        line_past counts old acknowledged acks j y = record {
          held = refl;
          binds = subst (BindsEarlier s.table) y.of.doing (binds_past r.table acknowledged (list_in session) j y.l.doing (old.rounds.seats j).core y.seat.core y.of.binds);
          commands = y.l.commands;
          live = y.of.live;
          asked = by y.l.commands (old.rounds.seats j).commands refl y.seat.commands y.of.asked;
        }
          where
            acked : (f : Frame) (c : Command) (cs : List Command) → (old.rounds.seats j).commands ≡ c ∷ cs → command_of f ≡ Some c → (stage : CopyStage) (floor : ℕ) → f ≡ frame.Ack stage floor → WasAcknowledged (phase_number r.table.phase) acknowledged (copy_number stage)
            acked f c cs here is stage floor ack =
                let same : c ≡ Acknowledge (copy_number stage) = cc (is, ap command_of ack) in
                let asked = asked_of old.rounds.sides j (old.rounds.seats j) (Acknowledge (copy_number stage)) cs ((old.rule.seats j).talk y.seat.connected) (here ∙ ap (λ (z : Command). z ∷ cs) same) in
                acks (copy_number stage) (inr (asked.2.2 ∙ old.view.table.stage, ((old.rule.seats j).may.acknowledges asked.2.0).1))

            empty : (fs : List Frame) (cs : List Command) → AreCommands fs cs → cs ≡ [] → fs ≡ []
            empty [] cs are none = refl
            empty (f ∷ fs) cs are none = absurd (cc (are, none))

            by : (fs : List Frame) (cs : List Command) → (old.rounds.seats j).commands ≡ cs → AreCommands fs cs → AllByRecursion (IsAsked r.table j) fs → AllByRecursion (WasAsked s.table acknowledged) fs
            by [] cs here are asked = tt
            by (f ∷ fs) [] here are asked = absurd (cc (are))
            by (f ∷ fs) (c ∷ cs) here are asked =
                let alone : cs ≡ [] = (asked_of old.rounds.sides j (old.rounds.seats j) c cs ((old.rule.seats j).talk y.seat.connected) here).0 in
                let none : fs ≡ [] = empty fs cs (cc (are)) alone in
                (was_now r.table acknowledged j f asked.0 (acked f c cs here (cc (are))), subst (AllByRecursion (WasAsked s.table acknowledged)) (sym none) tt)

        past_lost : (counts : ℕ → List ℕ) (old : IsSeen r.table session n talks.lines counts) (acknowledged : Bool) → ((stage : ℕ) → WasAcknowledged (phase_number r.table.phase) old.rounds.sides.acknowledged stage → WasAcknowledged (phase_number r.table.phase) acknowledged stage) → ArePast s.table acknowledged m
        past_lost counts old acknowledged acks number c is away = by (slice_get n.connections number) refl (has_seat n.seats number) refl
          where
            given : slice_get m.connections number ≡ option_map (given_up_if (has_seat n.seats number)) (slice_get n.connections number)
            given = all_given n.seats n.connections number

            by : (found : Option Connection) → slice_get n.connections number ≡ found → (b : Bool) → has_seat n.seats number ≡ b → IsPast s.table acknowledged c
            by None there b had = absurd (cc (is, given, ap (option_map (given_up_if (has_seat n.seats number))) there))
            by (Some c0) there true had =
                let who = seat_has n.seats number had in
                let y : Linked session r n talks.lines counts old.rounds who.0 = linked_by session r n talks.lines counts old.rounds talks.at old.view who.0 number who.1 in
                let number_is : number ≡ y.number = cc (who.1, y.has) in
                let at_is : c0 ≡ y.at = cc (there, ap (slice_get n.connections) number_is, y.there) in
                let c_is : c ≡ given_up y.at = cc (is, given ∙ ap (λ (b : Bool). option_map (given_up_if b) (slice_get n.connections number)) had ∙ ap (option_map (given_up_if true)) there, ap given_up at_is) in
                subst (IsPast s.table acknowledged) (sym c_is) (line_past counts old acknowledged acks who.0 y)
            by (Some c0) there false had =
                let c_is : c ≡ c0 = cc (is, given ∙ ap (λ (b : Bool). option_map (given_up_if b) (slice_get n.connections number)) had ∙ ap (option_map (given_up_if false)) there) in
                subst (IsPast s.table acknowledged) (sym c_is) (past_as r.table s.table old.rounds.sides.acknowledged acknowledged refl refl refl (omega arith) acks c0 (old.past number c0 there (seat_none n.seats number had)))

    -- NOBODY HAS A CONNECTION, and the next incarnation begins.
    pub talks_lost : IsTalking session s m
    talks_lost = record {
      own = some_as session_as session talks.own;
      lines = λ j. None;
      at = λ task. subst (λ (c : Option ℕ). IsAt session s m task c None) (sym (vacated_none n.seats task)) refl;
      apart = λ i j number has also. absurd (cc (vacated_none n.seats i, has));
      come = λ task. tt;
      few = λ joined. forgotten_few (kept_in r.table.version) r.table.marks;
      known = talks.known;
      rounds = record { donor = talks.rounds.donor; recipient = talks.rounds.recipient ∙ sym (forgotten_blocks (kept_in r.table.version) r.table.marks); seen = λ counts agrees. seen_lost counts (talks.rounds.seen counts agrees) };
    }
