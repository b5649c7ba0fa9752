-- A command of a stranger, by which nobody acts in the session, leaves it.
use Rattle.std.proofs.Common.{ℕ, ◌≡◌, ◌∙◌, ◌==◌, Bool, true, false, if◌then◌else◌, Option, None, Some, Ok, Err, option_and_then, option_map, refl, sym, ap, subst}
use Rattle.std.specs.Option.{option_map_or}
use Rattle.std.proofs.lemmas.Bool.{both_ways}
use Rattle.clone_chunk.specs.Bitmaps.{Bits}
use Rattle.clone_chunk.specs.Partials.{Taken}
use Rattle.clone_chunk.specs.Stages.{copy_number}
use Rattle.clone_session.specs.Cloning.{Session}
use Rattle.clone_session.specs.declared.caller.Caller.{Caller}
use Rattle.clone_session.specs.declared.caller.Hello.{Hello}
use Rattle.clone_wire.specs.declared.frame.Frame.{Frame}
use Rattle.clone_wire.specs.declared.frame.Frame.TheVariants as frame
use Rattle.clone_calls.specs.declared.answer.DonorAnswer.{DonorAnswer}
use Rattle.clone_calls.specs.declared.answer.DonorAnswer.TheVariants as reply
use Rattle.clone_calls.specs.declared.call.DonorCall.{DonorCall}
use Rattle.clone_calls.specs.declared.call.DonorCall.TheVariants as call
use Rattle.clone_serve.specs.Commands as commands
use Rattle.clone_serve.specs.Commands.{command_of}
use Rattle.clone_serve.specs.Following as following
use Rattle.clone_serve.specs.declared.after.After.{After}
use Rattle.clone_serve.specs.declared.after.After.TheVariants.{Asks, Ends}
use Rattle.clone_serve.specs.declared.doing.Doing.{Doing}
use Rattle.clone_serve.specs.declared.doing.Doing.TheVariants as doing
use Rattle.clone_serve.specs.declared.doing.Execution.{Execution}
use Rattle.clone_serve.specs.declared.turn.ServeAnswer.{ServeAnswer}
use Rattle.clone_serve.specs.declared.turn.ServeAnswer.TheVariants as says
use Rattle.clone_engine.specs.Answering.{Answered}
use Rattle.clone_engine.specs.Donor.{Donor}
use Rattle.clone_joined.specs.Runs.{stands}
use Rattle.clone_paired.specs.Own.{own_session}
use Rattle.clone_paired.proofs.DonorAwaiting.{asks_is}
use Rattle.clone_paired.proofs.DonorOthers.{refused_own, same_donor}

module _ (number : ℕ) where
  abbrev Own : Donor → Option Session
  Own d = own_session number d.cloning

  -- the session doesn't stand
  pub none_stands : (d : Donor) → stands number d ≡ false → Own d ≡ None
  none_stands d none = by d.cloning.session none
    where
      by : (o : Option Session) → option_map_or (λ (s : Session). s.number == number) o false ≡ false → option_and_then (λ (t : Session). if t.number == number then Some t else None) (option_map (λ (t : Session). record t { snap = record t.snap { room = 0 } }) o) ≡ None
      by None none = refl
      by (Some s) none = ap (λ (b : Bool). if b then Some (record s { snap = record s.snap { room = 0 } }) else None) none

  -- it is told that a command was carried out
  abbrev pub is_told : ServeAnswer → Bool
  is_told (says.Answered stage lsn position) = true
  is_told says.Execute = true
  is_told says.Exit = true
  is_told other = false

  module _ (d t : Donor) (next : Doing) (sends : Option Frame) (spoke : ServeAnswer) (quiet : is_told spoke ≡ false) where
    abbrev Says : Doing → DonorAnswer → Type 0
    Says begun given = following.after begun given ≡ Some (Ends next sends spoke)

    abbrev told_of : Option After → Bool
    told_of None = false
    told_of (Some (Asks run what)) = false
    told_of (Some (Ends n s w)) = is_told w

    -- it isn't told
    never : (begun : Doing) (given : DonorAnswer) → Says begun given → told_of (following.after begun given) ≡ true → ⊥
    never begun given is told_so = both_ways (is_told spoke) quiet (sym (ap told_of is) ∙ told_so)

    -- what isn't told to be carried out was refused
    pub refuses_own : (bound : Option Caller) (command : Frame) (asked : DonorCall) (begun : Doing) → command_of bound command ≡ Some (record { call = asked; doing = begun }) → (given : DonorAnswer) → Answered asked given d t → Says begun given → Own t ≡ Own d
    refuses_own bound command asked begun asks given did is = by bound command asks
      where
        at : (q : DonorCall) (b : Doing) → asked ≡ q → begun ≡ b → ((given : DonorAnswer) → Answered q given d t → Says b given → Own t ≡ Own d) → Own t ≡ Own d
        at q b asked_is begun_is so = so given (subst (λ (y : DonorCall). Answered y given d t) asked_is did) (subst (λ (y : Doing). Says y given) begun_is is)

        inits : (hello : Hello) (caller : Caller) (given : DonorAnswer) → Answered (call.Init hello) given d t → Says (doing.Telling caller) given → Own t ≡ Own d
        inits hello caller (reply.Init (Ok info)) did is = absurd (never (doing.Telling caller) (reply.Init (Ok info)) is refl)
        inits hello caller (reply.Init (Err why)) did is = refused_own number d t _ why _ did
        inits hello caller other did is = absurd did

        attaches : (caller : Caller) (given : DonorAnswer) → Answered (call.Attach caller) given d t → Says (doing.Telling caller) given → Own t ≡ Own d
        attaches caller (reply.Attach result) did is = same_donor number d t did.1
        attaches caller other did is = absurd did

        reinits : (caller : Caller) (stage : ℕ) (bits : Bits) (given : DonorAnswer) → Answered (call.Reinit caller stage bits) given d t → Says (doing.Telling caller) given → Own t ≡ Own d
        reinits caller stage bits (reply.Reinit (Ok info)) did is = absurd (never (doing.Telling caller) (reply.Reinit (Ok info)) is refl)
        reinits caller stage bits (reply.Reinit (Err why)) did is = refused_own number d t _ why _ did
        reinits caller stage bits other did is = absurd did

        rejoins : (caller : Caller) (stage : ℕ) (taken : Taken) (given : DonorAnswer) → Answered (call.ReinitBlocks caller stage taken) given d t → Says (doing.Telling caller) given → Own t ≡ Own d
        rejoins caller stage taken (reply.ReinitBlocks (Ok info)) did is = absurd (never (doing.Telling caller) (reply.ReinitBlocks (Ok info)) is refl)
        rejoins caller stage taken (reply.ReinitBlocks (Err why)) did is = refused_own number d t _ why _ did
        rejoins caller stage taken other did is = absurd did

        executes : (run : Execution) (caller : Caller) (stage : ℕ) (given : DonorAnswer) → Answered (call.Execute caller stage) given d t → Says (doing.Starting run) given → Own t ≡ Own d
        executes run caller stage (reply.Execute (Ok done)) did is = same_donor number d t did.1
        executes run caller stage (reply.Execute (Err why)) did is = same_donor number d t did.1
        executes run caller stage other did is = absurd did

        acks : (caller : Caller) (stage floor : ℕ) (given : DonorAnswer) → Answered (call.Ack caller stage floor) given d t → Says (doing.Telling caller) given → Own t ≡ Own d
        acks caller stage floor (reply.Ack (Ok info)) did is = absurd (never (doing.Telling caller) (reply.Ack (Ok info)) is refl)
        acks caller stage floor (reply.Ack (Err why)) did is = refused_own number d t _ why _ did
        acks caller stage floor other did is = absurd did

        exits : (caller : Caller) (given : DonorAnswer) → Answered (call.Exit caller) given d t → Says doing.Leaving given → Own t ≡ Own d
        exits caller (reply.Exit (Ok gone)) did is = absurd (never doing.Leaving (reply.Exit (Ok gone)) is refl)
        exits caller (reply.Exit (Err why)) did is = same_donor number d t did.1
        exits caller other did is = absurd did

        by : (bound : Option Caller) (command : Frame) → command_of bound command ≡ Some (record { call = asked; doing = begun }) → Own t ≡ Own d
        by None (frame.Init attempt version size compressed count) asks = at _ _ (asks_is asks).0 (asks_is asks).1 (inits (commands.hello_of attempt version size compressed count) (commands.caller_of attempt 0))
        by None (frame.Attach attempt task) asks = at _ _ (asks_is asks).0 (asks_is asks).1 (attaches (commands.caller_of attempt task))
        by None (frame.Reinit attempt stage finished) asks = at _ _ (asks_is asks).0 (asks_is asks).1 (reinits (commands.caller_of attempt 0) (copy_number stage) finished)
        by None (frame.Reinit2 attempt stage taken) asks = at _ _ (asks_is asks).0 (asks_is asks).1 (rejoins (commands.caller_of attempt 0) (copy_number stage) taken)
        by None other asks = absurd (cc (asks))
        by (Some caller) (frame.Execute stage) asks = at _ _ (asks_is asks).0 (asks_is asks).1 (executes (record { caller = caller; stage = stage }) caller (copy_number stage))
        by (Some caller) (frame.Ack stage floor) asks = at _ _ (asks_is asks).0 (asks_is asks).1 (acks caller (copy_number stage) floor)
        by (Some caller) frame.Exit asks = at _ _ (asks_is asks).0 (asks_is asks).1 (exits caller)
        by (Some caller) other asks = absurd (cc (asks))
