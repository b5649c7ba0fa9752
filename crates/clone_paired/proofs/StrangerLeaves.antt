-- A step on a stranger's connection, by which nobody acts in the session, leaves the session, and serves no EXECUTE of it.
use Rattle.std.proofs.Common.{ℕ, ◌≡◌, ◌≢◌, ◌∙◌, ◌==◌, ◌&&◌, ◌||◌, ◌++◌, List, Bool, true, false, if◌then◌else◌, Option, None, Some, Ok, Err, Result, option_and_then, option_map, refl, sym, ap, subst, inl, inr}
use Rattle.std.specs.Bool.{⊤}
use Rattle.std.specs.Prelude.{not}
use Rattle.std.specs.Option.{option_map_or, option_or}
use Rattle.std.proofs.lemmas.Bool.{both_ways, or_parts}
use Rattle.clone_chunk.specs.Stages.{copy_number}
use Rattle.clone_chunk.specs.declared.cause.CloneCause.{CloneCause}
use Rattle.clone_chunk.specs.declared.copy_stage.CopyStage.{CopyStage}
use Rattle.clone_session.specs.Cloning.{Session}
use Rattle.clone_session.specs.CloneCauses.{claim_cause, other_stage, session_of, stale}
use Rattle.clone_session.specs.declared.caller.Caller.{Caller}
use Rattle.clone_session.specs.declared.info.StageInfo.{StageInfo}
use Rattle.clone_session.specs.declared.refusal.CloneRefusal.{CloneRefusal}
use Rattle.clone_session.specs.declared.refusal.CloneRefusal.TheVariants.{Because, NoMemory}
use Rattle.clone_wire.specs.Spelling.{spelling}
use Rattle.clone_wire.specs.declared.frame.Frame.{Frame}
use Rattle.clone_wire.specs.declared.frame.Frame.TheVariants as frame
use Rattle.clone_calls.specs.Answering.{execute_in, exit_in, stage_in}
use Rattle.clone_calls.specs.declared.answer.DonorAnswer.{DonorAnswer}
use Rattle.clone_calls.specs.declared.answer.DonorAnswer.TheVariants as reply
use Rattle.clone_calls.specs.declared.call.DonorCall.{DonorCall}
use Rattle.clone_calls.specs.declared.call.DonorCall.TheVariants as call
use Rattle.clone_serve.specs.Commands as commands
use Rattle.clone_serve.specs.Commands.{command_of}
use Rattle.clone_serve.specs.Following as following
use Rattle.clone_serve.specs.Following.{left, started, told}
use Rattle.clone_serve.specs.declared.after.After.{After}
use Rattle.clone_serve.specs.declared.after.After.TheVariants.{Asks, Ends}
use Rattle.clone_serve.specs.declared.doing.Doing.{Doing}
use Rattle.clone_serve.specs.declared.doing.Doing.TheVariants as doing
use Rattle.clone_serve.specs.declared.doing.Execution.{Execution}
use Rattle.clone_serve.specs.declared.turn.ServeAnswer.{ServeAnswer}
use Rattle.clone_serve.specs.declared.turn.ServeAnswer.TheVariants as says
use Rattle.clone_recipient.specs.Receptions.{Reception}
use Rattle.clone_network.specs.Connections.{Connection, StepsEnd, finds_loss, is_open, is_serving}
use Rattle.clone_network.specs.Networks.{Network}
use Rattle.clone_network.specs.declared.donor_step.DonorStep.{DonorStep}
use Rattle.clone_network.specs.declared.donor_step.DonorStep.TheVariants as step
use Rattle.clone_engine.specs.Answering.{Answered}
use Rattle.clone_engine.specs.Donor.{Donor}
use Rattle.clone_told.specs.Told.{gives}
use Rattle.clone_joined.specs.Runs.{stands}
use Rattle.clone_joined.specs.Strangers.{acts_in, attaches, carries_out}
use Rattle.clone_paired.specs.Own.{own_session}
use Rattle.clone_paired.specs.Paired.{IsPaired}
use Rattle.clone_paired.specs.Strangers.{IsBetween, ServesOther}
use Rattle.clone_paired.proofs.DonorAttaches.{attach_by, attach_same, code_is}
use Rattle.clone_paired.proofs.DonorAwaiting.{Awaited, Bound, Carries, Tried, asks_is, awaited, bound_free, carries, garbles, loses, rests, unfit}
use Rattle.clone_paired.proofs.DonorOthers.{found_one}
use Rattle.clone_paired.proofs.StrangerCommands.{is_told, none_stands, refuses_own}
use Rattle.clone_paired.proofs.StrangerSteps.{serving_leaves}

-- an EXECUTE is served only for one
starting_is : (bound : Option Caller) (command : Frame) (asked : DonorCall) (begun : Doing) (run : Execution) → command_of bound command ≡ Some (record { call = asked; doing = begun }) → begun ≡ doing.Starting run → (caller : Caller) × (stage : CopyStage) × (asked ≡ call.Execute caller (copy_number stage)) × (run.caller ≡ caller)
starting_is (Some caller) (frame.Execute stage) asked begun run asks is = (caller, stage, (asks_is asks).0, (let e : doing.Starting run ≡ doing.Starting (record { caller = caller; stage = stage }) = sym is ∙ (asks_is asks).1 in let one : run ≡ record { caller = caller; stage = stage } = cc in ap (λ (y : Execution). y.caller) one))
starting_is (Some caller) (frame.Ack stage floor) asked begun run asks is = absurd (let e : doing.Starting run ≡ doing.Telling caller = sym is ∙ (asks_is asks).1 in cc)
starting_is (Some caller) frame.Exit asked begun run asks is = absurd (let e : doing.Starting run ≡ doing.Leaving = sym is ∙ (asks_is asks).1 in cc)
starting_is (Some caller) other asked begun run asks is = absurd (cc (asks))
starting_is None (frame.Init attempt version size compressed count) asked begun run asks is = absurd (let e : doing.Starting run ≡ doing.Telling (commands.caller_of attempt 0) = sym is ∙ (asks_is asks).1 in cc)
starting_is None (frame.Attach attempt task) asked begun run asks is = absurd (let e : doing.Starting run ≡ doing.Telling (commands.caller_of attempt task) = sym is ∙ (asks_is asks).1 in cc)
starting_is None (frame.Reinit attempt stage finished) asked begun run asks is = absurd (let e : doing.Starting run ≡ doing.Telling (commands.caller_of attempt 0) = sym is ∙ (asks_is asks).1 in cc)
starting_is None (frame.Reinit2 attempt stage taken) asked begun run asks is = absurd (let e : doing.Starting run ≡ doing.Telling (commands.caller_of attempt 0) = sym is ∙ (asks_is asks).1 in cc)
starting_is None other asked begun run asks is = absurd (cc (asks))

-- while a command's call is asked no EXECUTE is in service
asks_free : (bound : Option Caller) (command : Frame) (asked : DonorCall) (begun : Doing) → command_of bound command ≡ Some (record { call = asked; doing = begun }) → is_serving begun ≡ false
asks_free (Some caller) (frame.Execute stage) asked begun asks = ap is_serving (asks_is asks).1
asks_free (Some caller) (frame.Ack stage floor) asked begun asks = ap is_serving (asks_is asks).1
asks_free (Some caller) frame.Exit asked begun asks = ap is_serving (asks_is asks).1
asks_free (Some caller) other asked begun asks = absurd (cc (asks))
asks_free None (frame.Init attempt version size compressed count) asked begun asks = ap is_serving (asks_is asks).1
asks_free None (frame.Attach attempt task) asked begun asks = ap is_serving (asks_is asks).1
asks_free None (frame.Reinit attempt stage finished) asked begun asks = ap is_serving (asks_is asks).1
asks_free None (frame.Reinit2 attempt stage taken) asked begun asks = ap is_serving (asks_is asks).1
asks_free None other asked begun asks = absurd (cc (asks))

module _ (number : ℕ) where
  abbrev Own : Donor → Option Session
  Own d = own_session number d.cloning

  -- a session that was found stands
  stands_of : (d : Donor) (s : Session) → session_of d.cloning number ≡ Some s → stands number d ≡ true
  stands_of d s is = by d.cloning.session is
    where
      at : (full : Session) (b : Bool) → (full.number == number) ≡ b → (if b then Some full else None) ≡ Some s → (full.number == number) ≡ true
      at full true same is = same
      at full false same is = absurd (cc (is))

      by : (o : Option Session) → option_and_then (λ (t : Session). if t.number == number then Some t else None) o ≡ Some s → option_map_or (λ (y : Session). y.number == number) o false ≡ true
      by None is = absurd (cc (is))
      by (Some full) is = at full (full.number == number) refl is

  -- ---- what its end does then

  abbrev Serves : Option After → Type 0
  Serves None = ⊤
  Serves (Some (Asks run what)) = ⊤
  Serves (Some (Ends next sends spoke)) = ServesOther number next

  refused_serves : (caller : Caller) (why : CloneRefusal) → Serves (Some (told caller (Err why)))
  refused_serves caller (Because why) = tt
  refused_serves caller NoMemory = tt

  told_serves : (caller : Caller) (got : Option (Result StageInfo CloneRefusal)) → Serves (option_map (told caller) got)
  told_serves caller None = tt
  told_serves caller (Some (Ok info)) = tt
  told_serves caller (Some (Err why)) = refused_serves caller why

  left_serves : (got : Option (Result ⊤ CloneCause)) → Serves (option_map left got)
  left_serves None = tt
  left_serves (Some (Ok gone)) = tt
  left_serves (Some (Err why)) = tt

  started_serves : (run : Execution) (got : Option (Result ⊤ CloneCause)) → (got ≡ Some (Ok tt) → run.caller.session ≢ number) → Serves (option_map (started run) got)
  started_serves run None other = tt
  started_serves run (Some (Ok done)) other = other refl
  started_serves run (Some (Err why)) other = tt

  begun_serves : (begun : Doing) (given : DonorAnswer) → is_serving begun ≡ false → ((run : Execution) → begun ≡ doing.Starting run → execute_in given ≡ Some (Ok tt) → run.caller.session ≢ number) → Serves (following.after begun given)
  begun_serves (doing.Telling caller) given free other = told_serves caller (stage_in given)
  begun_serves (doing.Starting run) given free other = started_serves run (execute_in given) (other run refl)
  begun_serves doing.Leaving given free other = left_serves (exit_in given)
  begun_serves (doing.Serving run what) given free other = absurd (cc (free))
  begun_serves waiting given free other = tt

  module _ (d t : Donor) (at after : Connection) (answer : DonorStep) (none : acts_in number d t at answer ≡ false) (live : is_open at ≡ true) (serves : ServesOther number at.doing) (e : StepsEnd gives d t at after answer) where
    abbrev Leaves : Type 0
    Leaves = (Own t ≡ Own d) × ServesOther number after.doing

    same_own : t ≡ d → Own t ≡ Own d
    same_own is = ap Own is

    -- what is carried out is of another session
    neither : carries_out at answer ≡ true → (stands number d ≡ false) × (stands number t ≡ false)
    neither out = or_parts (stands number d) (stands number t) (sym (ap (λ (b : Bool). b && (stands number d || stands number t)) out) ∙ none)

    apart_own : carries_out at answer ≡ true → Own t ≡ Own d
    apart_own out = none_stands number t (neither out).1 ∙ sym (none_stands number d (neither out).0)

    module _ (bound : Option Caller) (of : Bound at.doing bound) where
      told_out : (spoke : ServeAnswer) → answer ≡ step.Served spoke → attaches at ≡ false → is_told number spoke ≡ true → carries_out at answer ≡ true
      told_out (says.Answered stage lsn position) is apart told_so = ap (carries_out at) is ∙ ap not apart
      told_out says.Execute is apart told_so = ap (carries_out at) is
      told_out says.Exit is apart told_so = ap (carries_out at) is
      told_out other is apart told_so = absurd (cc (told_so))

      by_attach : (command : Frame) (left : List ℕ) (asked : DonorCall) (begun : Doing) (given : DonorAnswer) → at.to_donor ≡ spelling command ++ left → command_of bound command ≡ Some (record { call = asked; doing = begun }) → gives d asked given t → attaches at ≡ true → Own t ≡ Own d
      by_attach command left asked begun given taken asks gave attach =
          let a = attach_by bound command asked begun (code_is at command left taken attach) asks in
          same_own (attach_same d t (commands.caller_of a.attempt a.task) given (subst (λ (q : DonorCall). Answered q given d t) a.asked_is gave.does))

      carried_own : (c : Carries gives d t at after answer bound) → Own t ≡ Own d
      carried_own c = by (attaches at) refl
        where
          apart : attaches at ≡ false → (b : Bool) → is_told number c.says ≡ b → Own t ≡ Own d
          apart other true told_so = apart_own (told_out c.says c.answers other told_so)
          apart other false quiet = refuses_own number d t c.next c.sends c.says quiet bound c.command c.asked c.begun c.asks c.given c.gave.does c.follows

          by : (b : Bool) → attaches at ≡ b → Own t ≡ Own d
          by true attach = by_attach c.command c.left c.asked c.begun c.given c.taken c.asks c.gave attach
          by false other = apart other (is_told number c.says) refl

      -- an EXECUTE that is served now is of another session
      carried_serves : (c : Carries gives d t at after answer bound) → ServesOther number c.next
      carried_serves c = subst Serves c.follows (begun_serves c.begun c.given (asks_free bound c.command c.asked c.begun c.asks) other)
        where
          other : (run : Execution) → c.begun ≡ doing.Starting run → execute_in c.given ≡ Some (Ok tt) → run.caller.session ≢ number
          other run is done own = absurd (both_ways (stands number d) (neither out).0 (stands_of d found.0 here))
            where
              s : (caller : Caller) × (stage : CopyStage) × (c.asked ≡ call.Execute caller (copy_number stage)) × (run.caller ≡ caller)
              s = starting_is bound c.command c.asked c.begun run c.asks is

              did : (given : DonorAnswer) → execute_in given ≡ Some (Ok tt) → Answered (call.Execute s.0 (copy_number s.1)) given d t → claim_cause d.cloning s.0 (copy_number s.1) ≡ None
              did (reply.Execute (Ok x)) is gave = gave.0
              did (reply.Execute (Err why)) is gave = absurd (cc (is))
              did given is gave = absurd gave

              fine : claim_cause d.cloning s.0 (copy_number s.1) ≡ None
              fine = did c.given done (subst (λ (q : DonorCall). Answered q c.given d t) s.2 c.gave.does)

              found : (y : Session) × (session_of d.cloning s.0.session ≡ Some y)
              found = found_one number d t s.0.session (λ y. option_or (stale y s.0.incarnation) (other_stage y (copy_number s.1))) fine

              here : session_of d.cloning number ≡ Some found.0
              here = subst (λ (z : ℕ). session_of d.cloning z ≡ Some found.0) (ap (λ (y : Caller). y.session) (sym s.3) ∙ own) found.1

              executes : (given : DonorAnswer) (spoke : ServeAnswer) (next : Doing) (sends : Option Frame) → execute_in given ≡ Some (Ok tt) → following.after (doing.Starting run) given ≡ Some (Ends next sends spoke) → spoke ≡ says.Execute
              executes given spoke next sends got follows = (let e : Some (started run (Ok tt)) ≡ Some (Ends next sends spoke) = sym (ap (option_map (started run)) got) ∙ follows in sym (cc))

              out : carries_out at answer ≡ true
              out = ap (carries_out at) (c.answers ∙ ap step.Served (executes c.given c.says c.next c.sends done (subst (λ (y : Doing). following.after y c.given ≡ Some (Ends c.next c.sends c.says)) is c.follows)))

      tried_own : answer ≡ step.Served says.NoMemory → Tried gives d t at after answer bound → Own t ≡ Own d
      tried_own is tried = by (attaches at) refl
        where
          by : (b : Bool) → attaches at ≡ b → Own t ≡ Own d
          by true attach = by_attach tried.command tried.left tried.asked tried.begun tried.given tried.taken tried.asks tried.gave attach
          by false other = apart_own (ap (carries_out at) is ∙ ap (λ (b : Bool). not b && not (attaches at)) (bound_free at.doing bound of) ∙ ap not other)

      pub command_leaves : Awaited gives d t at after answer bound → Leaves
      command_leaves (rests same is) = (same_own same, subst (λ (c : Connection). ServesOther number c.doing) (sym is) serves)
      command_leaves (loses same nothing lost is) = (same_own same, subst (λ (c : Connection). ServesOther number c.doing) (sym is) serves)
      command_leaves (garbles bytes wrong same is says_it) = (same_own same, subst (λ (c : Connection). ServesOther number c.doing) (sym is) tt)
      command_leaves (unfit says_it shut (inl same)) = (same_own same, subst (ServesOther number) (sym shut) tt)
      command_leaves (unfit says_it shut (inr tried)) = (tried_own says_it tried, subst (ServesOther number) (sym shut) tt)
      command_leaves (carries c) = (carried_own c, subst (λ (x : Connection). ServesOther number x.doing) (sym c.is) (carried_serves c))

    -- it isn't within a step
    by_doing : (now : Doing) → at.doing ≡ now → IsBetween now → Leaves
    by_doing doing.New is between = command_leaves None (subst (λ (y : Doing). Bound y None) (sym is) refl) (awaited gives d t at after answer None (subst (λ (y : Doing). Bound y None) (sym is) refl) live e)
    by_doing (doing.Ready caller) is between = command_leaves (Some caller) (subst (λ (y : Doing). Bound y (Some caller)) (sym is) refl) (awaited gives d t at after answer (Some caller) (subst (λ (y : Doing). Bound y (Some caller)) (sym is) refl) live e)
    by_doing (doing.Serving run what) is between =
        let l = serving_leaves number d t at after answer e run what is (subst (ServesOther number) is serves) in
        (l.0, subst (ServesOther number) (sym (ap (λ (c : Connection). c.doing) (e.is ∙ ap (λ (c : Connection). record c { found_lost = finds_loss at e.says }) e.serves.is))) l.1)
    by_doing other is between = absurd between

    pub leaves : IsBetween at.doing → Leaves
    leaves between = by_doing at.doing refl between

pub stranger_leaves : (number : ℕ) (d t : Donor) (at after : Connection) (answer : DonorStep) → StepsEnd gives d t at after answer → acts_in number d t at answer ≡ false → is_open at ≡ true → IsBetween at.doing → ServesOther number at.doing → (own_session number t.cloning ≡ own_session number d.cloning) × ServesOther number after.doing
stranger_leaves number d t at after answer e none live between serves = leaves number d t at after answer none live serves e between

-- so it keeps a clone paired
pub stranger_pairs : (d t : Donor) (r : Reception) (n : Network) (at after : Connection) (answer : DonorStep) → StepsEnd gives d t at after answer → acts_in r.table.session d t at answer ≡ false → is_open at ≡ true → IsBetween at.doing → ServesOther r.table.session at.doing → IsPaired (own_session r.table.session d.cloning) r n → IsPaired (own_session r.table.session t.cloning) r n
stranger_pairs d t r n at after answer e none live between serves = subst (λ (o : Option Session). IsPaired o r n) (sym (stranger_leaves r.table.session d t at after answer e none live between serves).0)
