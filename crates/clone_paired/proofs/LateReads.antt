-- A donor's end of a connection of an earlier incarnation reads a command, by which the session stays.
use Rattle.std.proofs.Common.{ℕ, ◌≡◌, ◌≢◌, ◌∙◌, ◌<◌, List, [], ◌∷◌, ◌++◌, Bool, true, false, if◌then◌else◌, Option, None, Some, Ok, Err, Result, option_map, length, refl, sym, ap, subst}
use Rattle.std.specs.Bool.{⊤}
use Rattle.std.specs.Prelude.{slice_get}
use Rattle.std.specs.List.{AllByRecursion}
use Rattle.clone_chunk.specs.declared.cause.CloneCause.{CloneCause}
use Rattle.clone_session.specs.declared.caller.Caller.{Caller}
use Rattle.clone_session.specs.declared.info.StageInfo.{StageInfo}
use Rattle.clone_session.specs.declared.refusal.CloneRefusal.{CloneRefusal}
use Rattle.clone_session.specs.declared.refusal.CloneRefusal.TheVariants.{Because, NoMemory}
use Rattle.clone_wire.specs.declared.frame.Frame.{Frame}
use Rattle.clone_wire.specs.declared.frame.Frame.TheVariants as frame
use Rattle.clone_wire.specs.declared.frame.Side.TheVariants.{Command as ofTask}
use Rattle.clone_calls.specs.Answering.{execute_in, exit_in, stage_in}
use Rattle.clone_calls.specs.declared.answer.DonorAnswer.{DonorAnswer}
use Rattle.clone_calls.specs.declared.call.DonorCall.{DonorCall}
use Rattle.clone_serve.specs.Commands.{caller_of, command_of}
use Rattle.clone_serve.specs.Following as following
use Rattle.clone_serve.specs.Following.{left, started, told}
use Rattle.clone_serve.specs.declared.after.After.{After}
use Rattle.clone_serve.specs.declared.after.After.TheVariants.{Asks, Ends}
use Rattle.clone_serve.specs.declared.doing.Doing.{Doing}
use Rattle.clone_serve.specs.declared.doing.Doing.TheVariants as doing
use Rattle.clone_serve.specs.declared.doing.Execution.{Execution}
use Rattle.clone_serve.specs.declared.turn.ServeAnswer.{ServeAnswer}
use Rattle.clone_tasks.specs.Tables.{Table, incarnation_of}
use Rattle.clone_network.specs.Connections.{Connection, is_open, reaches_task}
use Rattle.clone_network.specs.declared.donor_step.DonorStep.{DonorStep}
use Rattle.clone_network.specs.declared.donor_step.DonorStep.TheVariants as step
use Rattle.clone_serve.specs.declared.turn.ServeAnswer.TheVariants as says
use Rattle.clone_paired.specs.Earlier.{BindsEarlier, IsPast, WasAsked}
use Rattle.clone_paired.specs.Lines.{doing_at}
use Rattle.clone_paired.proofs.DonorAwaiting.{Awaited, Bound, Carries, asks_is, carries, garbles, loses, rests, told_on, unfit}
use Rattle.clone_paired.proofs.LateSteps.{binds_if, past_lost, past_over}
use Rattle.clone_paired.proofs.UnreadLemmas.{Reads, holds_read}

-- a caller of an earlier incarnation
abbrev pub IsOf : Table → Caller → Type 0
IsOf t caller = (caller.session ≡ t.session) × (caller.incarnation < incarnation_of t)

-- so is the one for whom an answer is awaited
abbrev BegunBy : Table → Doing → Type 0
BegunBy t (doing.Telling caller) = IsOf t caller
BegunBy t (doing.Starting run) = IsOf t run.caller
BegunBy t doing.Leaving = ⊤
BegunBy t other = ⊥

begun_by : (t : Table) (acknowledged : Bool) (d : Doing) (bound : Option Caller) (command : Frame) (asked : DonorCall) (begun : Doing) → Bound d bound → BindsEarlier t d → WasAsked t acknowledged command → command_of bound command ≡ Some (record { call = asked; doing = begun }) → BegunBy t begun
begun_by t acknowledged doing.New bound command asked begun of binds was is = first command was (sym (ap (λ (b : Option Caller). command_of b command) of) ∙ is)
  where
    first : (command : Frame) → WasAsked t acknowledged command → command_of None command ≡ Some (record { call = asked; doing = begun }) → BegunBy t begun
    first (frame.Init attempt version size compressed count) was is = let e : doing.Telling (caller_of attempt 0) ≡ begun = sym (asks_is is).1 in subst (BegunBy t) e was.0
    first (frame.Attach attempt task) was is = let e : doing.Telling (caller_of attempt task) ≡ begun = sym (asks_is is).1 in subst (BegunBy t) e was
    first (frame.Reinit attempt stage finished) was is = let e : doing.Telling (caller_of attempt 0) ≡ begun = sym (asks_is is).1 in subst (BegunBy t) e was
    first (frame.Reinit2 attempt stage taken) was is = let e : doing.Telling (caller_of attempt 0) ≡ begun = sym (asks_is is).1 in subst (BegunBy t) e was
    first other was is = absurd (cc (is))
begun_by t acknowledged (doing.Ready caller) bound command asked begun of binds was is = later command was (sym (ap (λ (b : Option Caller). command_of b command) of) ∙ is)
  where
    later : (command : Frame) → WasAsked t acknowledged command → command_of (Some caller) command ≡ Some (record { call = asked; doing = begun }) → BegunBy t begun
    later (frame.Execute stage) was is = let e : doing.Starting (record { caller = caller; stage = stage }) ≡ begun = sym (asks_is is).1 in subst (BegunBy t) e binds
    later (frame.Ack stage floor) was is = let e : doing.Telling caller ≡ begun = sym (asks_is is).1 in subst (BegunBy t) e binds
    later frame.Exit was is = absurd was
    later other was is = absurd (cc (is))
begun_by t acknowledged other bound command asked begun of binds was is = absurd of

-- what its end does then
abbrev NextBy : Table → Option After → Type 0
NextBy t None = ⊤
NextBy t (Some (Asks run what)) = ⊤
NextBy t (Some (Ends next sends spoke)) = BindsEarlier t next

refused_next : (t : Table) (caller : Caller) (why : CloneRefusal) → NextBy t (Some (told caller (Err why)))
refused_next t caller (Because why) = tt
refused_next t caller NoMemory = tt

told_next : (t : Table) (caller : Caller) (stage : Option (Result StageInfo CloneRefusal)) → IsOf t caller → NextBy t (option_map (told caller) stage)
told_next t caller None of = tt
told_next t caller (Some (Ok info)) of = of
told_next t caller (Some (Err why)) of = refused_next t caller why

started_next : (t : Table) (run : Execution) (done : Option (Result ⊤ CloneCause)) → IsOf t run.caller → NextBy t (option_map (started run) done)
started_next t run None of = tt
started_next t run (Some (Ok z)) of = of
started_next t run (Some (Err why)) of = tt

left_next : (t : Table) (done : Option (Result ⊤ CloneCause)) → NextBy t (option_map left done)
left_next t None = tt
left_next t (Some (Ok z)) = tt
left_next t (Some (Err why)) = tt

next_by : (t : Table) (begun : Doing) (given : DonorAnswer) → BegunBy t begun → NextBy t (following.after begun given)
next_by t (doing.Telling caller) given of = told_next t caller (stage_in given) of
next_by t (doing.Starting run) given of = started_next t run (execute_in given) of
next_by t doing.Leaving given of = left_next t (exit_in given)
next_by t other given of = absurd of

pub binds_live : (t : Table) (at : Connection) → is_open at ≡ true → BindsEarlier t (doing_at at) → BindsEarlier t at.doing
binds_live t at live binds = subst (λ (b : Bool). BindsEarlier t (if b then at.doing else doing.Over)) live binds

module _ {A : Type 0} (gives : A → DonorCall → DonorAnswer → A → Type 0) (a b : A) (at after : Connection) (answer : DonorStep) (bound : Option Caller) (of : Bound at.doing bound) (live : is_open at ≡ true) where
  -- THE COMMAND was carried out or refused, and the connection is one of an earlier incarnation still.
  pub past_carried : (t : Table) (acknowledged : Bool) → Carries gives a b at after answer bound → IsPast t acknowledged at → IsPast t acknowledged after
  past_carried t acknowledged c p = subst (IsPast t acknowledged) (sym c.is) (by (holds_read ofTask at.cut p.commands at.to_donor c.left c.command (p.live live) c.of c.taken))
    where
      by : Reads ofTask at.cut p.commands c.command c.left → IsPast t acknowledged (record at { to_donor = c.left; to_task = told_on (reaches_task at) c.sends at.to_task; doing = c.next })
      by reads =
          let asked : AllByRecursion (WasAsked t acknowledged) (c.command ∷ reads.more) = subst (AllByRecursion (WasAsked t acknowledged)) reads.are p.asked in
          let begun = begun_by t acknowledged at.doing bound c.command c.asked c.begun of (binds_live t at live p.binds) asked.0 c.asks in
          record {
            held = p.held;
            binds = binds_if t c.next (is_open (record at { doing = c.next })) (subst (NextBy t) c.follows (next_by t c.begun c.given begun));
            commands = reads.more;
            live = λ is. reads.holds;
            asked = asked.1;
          }

  -- so it is whatever its end does while it awaits a command
  pub past_awaited : (t : Table) (acknowledged : Bool) → answer ≢ step.Served says.NoMemory → Awaited gives a b at after answer bound → IsPast t acknowledged at → IsPast t acknowledged after
  past_awaited t acknowledged fit (rests same is) p = subst (IsPast t acknowledged) (sym is) p
  past_awaited t acknowledged fit (loses same none lost is) p = subst (IsPast t acknowledged) (sym is) (past_lost t acknowledged at p)
  past_awaited t acknowledged fit (garbles bytes wrong same is says_it) p = subst (IsPast t acknowledged) (sym is) (past_over t acknowledged at p)
  past_awaited t acknowledged fit (unfit says_it over tried) p = absurd (fit says_it)
  past_awaited t acknowledged fit (carries c) p = past_carried t acknowledged c p
