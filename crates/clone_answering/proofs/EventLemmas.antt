-- The calls of a server: those of commands, and those within an EXECUTE.
use Rattle.std.proofs.Common.{◌≡◌, ◌<◌, ◌^◌, ℕ, Bool, true, false, List, [], ◌∷◌, ◌++◌, Some, None, Ok, refl, sym, ap, ◌∙◌, subst, append-nil, append_assoc, arith}
use Rattle.std.specs.Prelude.{◌==◌, slice_get}
use Rattle.std.specs.List.{AllByRecursion}
use Rattle.std.specs.Option.{option_map_or}
use Rattle.std.specs.declared.option.Option.{Option}
use Rattle.std.proofs.lemmas.Option.{same_Some}
use Rattle.clone_chunk.specs.Stages.{copy_number}
use Rattle.clone_chunk.specs.declared.copy_stage.CopyStage.{CopyStage}
use Rattle.clone_chunk.specs.declared.copy_stage.CopyStage.TheVariants as copy
use Rattle.clone_session.specs.declared.caller.Caller.{Caller}
use Rattle.clone_wire.specs.Spelling.{code_of, spelling}
use Rattle.clone_wire.specs.declared.frame.Frame.{Frame}
use Rattle.clone_wire.specs.declared.frame.Frame.TheVariants as frame
use Rattle.clone_wire.specs.declared.frame.Side.TheVariants.{Command as OfCommand}
use Rattle.clone_stream.specs.Streams.{AreFramesOf, IsFrameOf, spellings}
use Rattle.clone_calls.specs.Answering.{answers}
use Rattle.clone_calls.specs.declared.answer.DonorAnswer.{DonorAnswer}
use Rattle.clone_calls.specs.declared.answer.DonorAnswer.TheVariants as answer
use Rattle.clone_calls.specs.declared.call.DonorCall.{DonorCall}
use Rattle.clone_calls.specs.declared.call.DonorCall.TheVariants as call
use Rattle.clone_serve.specs.Commands.{command_of}
use Rattle.clone_serve.specs.Following.{call_in}
use Rattle.clone_serve.specs.Runs.{Event, Makes, Runs, asks, commands, commands_of, exchange_of, exchanges_of, serves}
use Rattle.clone_serve.specs.Serving.{Commands, doing_after}
use Rattle.clone_serve.specs.Telling.{Exchange}
use Rattle.clone_serve.specs.declared.after.After.{After}
use Rattle.clone_serve.specs.declared.commands.Command.{Command}
use Rattle.clone_serve.specs.declared.doing.Doing.{Doing}
use Rattle.clone_serve.specs.declared.doing.Doing.TheVariants.{New, Ready, Serving}
use Rattle.clone_serve.specs.declared.doing.Execution.{Execution}
use Rattle.clone_serve.specs.declared.doing.Work.{Work}
use Rattle.clone_serve.specs.declared.doing.Work.TheVariants.{Archive, Claim, Read, Weigh}
use Rattle.clone_serve.specs.declared.turn.ServeTurn.TheVariants.{Ask}
use Rattle.clone_engine.specs.Acts.{Calls}
use Rattle.clone_sides.specs.Answered.{ends, opens}
use Rattle.clone_links.specs.Serving.{AsksNext, IsUntold}
use Rattle.clone_reading.specs.Reading.{has_code, is_exit, is_init}
use Rattle.clone_answering.proofs.MarkLemmas.{not_both}

-- ---- which calls open a session, and which end one

abbrev pub opening : DonorCall → Bool
opening (call.Init hello) = true
opening other = false

abbrev pub ending : DonorCall → Bool
ending (call.Exit caller) = true
ending (call.Abandon session) = true
ending other = false

pub never_opens : (number : ℕ) (asked : DonorCall) (given : DonorAnswer) → answers asked given ≡ true → opening asked ≡ false → opens number (Calls asked given) ≡ false
never_opens number asked (answer.Init (Ok info)) kind none = absurd (by asked kind none)
  where
    by : (asked : DonorCall) → answers asked (answer.Init (Ok info)) ≡ true → opening asked ≡ false → ⊥
    by (call.Init hello) kind none = not_both refl none
    by _ kind none = not_both kind refl
never_opens number asked _ kind none = refl

pub never_ends : (asked : DonorCall) (given : DonorAnswer) → answers asked given ≡ true → ending asked ≡ false → ends (Calls asked given) ≡ false
never_ends asked (answer.Exit (Ok gone)) kind none = absurd (by asked kind none)
  where
    by : (asked : DonorCall) → answers asked (answer.Exit (Ok gone)) ≡ true → ending asked ≡ false → ⊥
    by (call.Exit caller) kind none = not_both refl none
    by _ kind none = not_both kind refl
never_ends asked (answer.Abandon (Ok gone)) kind none = absurd (by asked kind none)
  where
    by : (asked : DonorCall) → answers asked (answer.Abandon (Ok gone)) ≡ true → ending asked ≡ false → ⊥
    by (call.Abandon session) kind none = not_both refl none
    by _ kind none = not_both kind refl
never_ends asked _ kind none = refl

-- ---- the call of a command

-- the frame acknowledges the copy of pages with this floor
abbrev pub Acknowledges : Frame → ℕ → Type 0
Acknowledges command floor = (floor < 2 ^ 64) × (command ≡ frame.Ack copy.PageCopy floor)

pub record IsCallOf (command : Frame) (asked : DonorCall) : Type 0 where
  pub opened : is_init (spelling command) ≡ false → opening asked ≡ false
  pub left : is_exit (spelling command) ≡ false → ending asked ≡ false
  pub acknowledged : (caller : Caller) (floor : ℕ) → asked ≡ call.Ack caller 2 floor → Acknowledges command floor

first_code : (f : Frame) → slice_get (spelling f) 0 ≡ Some (code_of f)
unfolding spelling
first_code frame.Exit = refl
first_code _ = refl

coded : (code : ℕ) (f : Frame) → has_code code (spelling f) ≡ (code_of f == code)
coded code f = ap (λ o. option_map_or (λ first. first == code) o false) (first_code f)

same_call : (a b : DonorCall) (d e : Doing) → ◌≡◌ {A = Option Command} (Some (record { call = a; doing = d })) (Some (record { call = b; doing = e })) → a ≡ b
same_call a b d e is = ap (λ (c : Command). c.call) (same_Some _ _ is)

abbrev stage_in : DonorCall → ℕ
stage_in (call.Ack caller stage floor) = stage
stage_in other = 0

abbrev floor_in : DonorCall → ℕ
floor_in (call.Ack caller stage floor) = floor
floor_in other = 0

acknowledges : (stage : CopyStage) (a b : Caller) (floor to : ℕ) → IsFrameOf OfCommand (frame.Ack stage floor) → call.Ack a (copy_number stage) floor ≡ call.Ack b 2 to → Acknowledges (frame.Ack stage floor) to
acknowledges copy.FileCopy a b floor to is same = absurd (let two : ◌≡◌ {A = ℕ} 1 2 = ap stage_in same in omega (arith, two))
acknowledges copy.PageCopy a b floor to is same =
    let floors : floor ≡ to = ap floor_in same in (subst (λ n. n < 2 ^ 64) floors is.is, ap (λ n. frame.Ack copy.PageCopy n) floors)
acknowledges copy.RedoCopy a b floor to is same = absurd (let two : ◌≡◌ {A = ℕ} 3 2 = ap stage_in same in omega (arith, two))

-- a call that is no acknowledgement
abbrev NoAck : DonorCall → Type 0
NoAck asked = (caller : Caller) (floor : ℕ) → asked ≡ call.Ack caller 2 floor → ⊥

-- the call of a command that isn't INIT, EXIT or ACK
other_call : (command : Frame) (asked : DonorCall) → opening asked ≡ false → ending asked ≡ false → NoAck asked → IsCallOf command asked
other_call command asked o l none = record { opened = λ _. o; left = λ _. l; acknowledged = λ caller floor is. absurd (none caller floor is) }

command_call : (bound : Option Caller) (command : Frame) (asked : DonorCall) (doing : Doing) → IsFrameOf OfCommand command → command_of bound command ≡ Some (record { call = asked; doing = doing }) → IsCallOf command asked
command_call None (frame.Init attempt version size compressed tasks) asked doing is of =
    let command = frame.Init attempt version size compressed tasks in
    subst (IsCallOf command) (same_call _ asked _ doing of) (record { opened = λ none. absurd (not_both (coded 1 command) none); left = λ _. refl; acknowledged = λ caller floor same. absurd (cc (same)) })
command_call None (frame.Attach attempt task) asked doing is of = subst (IsCallOf (frame.Attach attempt task)) (same_call _ asked _ doing of) (other_call _ _ refl refl (λ caller floor same. cc))
command_call None (frame.Reinit attempt stage finished) asked doing is of = subst (IsCallOf (frame.Reinit attempt stage finished)) (same_call _ asked _ doing of) (other_call _ _ refl refl (λ caller floor same. cc))
command_call None (frame.Reinit2 attempt stage taken) asked doing is of = subst (IsCallOf (frame.Reinit2 attempt stage taken)) (same_call _ asked _ doing of) (other_call _ _ refl refl (λ caller floor same. cc))
command_call (Some caller) (frame.Execute stage) asked doing is of = subst (IsCallOf (frame.Execute stage)) (same_call _ asked _ doing of) (other_call _ _ refl refl (λ caller floor same. cc))
command_call (Some caller) (frame.Ack stage floor) asked doing is of =
    subst (IsCallOf (frame.Ack stage floor)) (same_call _ asked _ doing of) (record { opened = λ _. refl; left = λ _. refl; acknowledged = λ b to same. acknowledges stage caller b floor to is same })
command_call (Some caller) frame.Exit asked doing is of =
    subst (IsCallOf frame.Exit) (same_call _ asked _ doing of) (record { opened = λ _. refl; left = λ none. absurd (not_both (coded 6 frame.Exit) none); acknowledged = λ caller floor same. absurd (cc (same)) })
command_call _ _ asked doing is of = absurd (cc (of))

-- ---- a call within an EXECUTE

pub record IsWithin (asked : DonorCall) : Type 0 where
  pub opened : opening asked ≡ false
  pub left : ending asked ≡ false
  pub acknowledged : NoAck asked

work_call : (run : Execution) (work : Work) → IsWithin (call_in run work)
work_call run Claim = record { opened = refl; left = refl; acknowledged = λ caller floor same. cc }
work_call run (Weigh chunk) = record { opened = refl; left = refl; acknowledged = λ caller floor same. cc }
work_call run (Read place again) = record { opened = refl; left = refl; acknowledged = λ caller floor same. cc }
work_call run (Archive place limit) = record { opened = refl; left = refl; acknowledged = λ caller floor same. cc }

within : (d : Doing) (asked : DonorCall) → asks d ≡ Some asked → IsWithin asked
within (Serving run work) asked is = subst IsWithin (same_Some (call_in run work) asked is) (work_call run work)
within _ asked is = absurd (cc (is))

-- ---- the events of a server

abbrev pub IsEvent : Event → Type 0
IsEvent (commands command x) = IsCallOf command x.0
IsEvent (serves x) = IsWithin x.0

one_event : (d : Doing) (event : Event) (next : After) → AreFramesOf OfCommand (commands_of (event ∷ [])) → Makes d event next → IsEvent event
one_event d (commands command x) next are makes = command_call makes.bound command x.0 makes.meanwhile are.0 makes.call
one_event d (serves x) next are makes = within d x.0 makes.call

first_frames : (event : Event) (events : List Event) → AreFramesOf OfCommand (commands_of (event ∷ events)) → AreFramesOf OfCommand (commands_of (event ∷ [])) × AreFramesOf OfCommand (commands_of events)
first_frames (commands command x) events are = ((are.0, tt), are.1)
first_frames (serves x) events are = (tt, are)

pub run_events : (d t : Doing) (events : List Event) (sent : List Frame) → AreFramesOf OfCommand (commands_of events) → Runs d events sent t → AllByRecursion IsEvent events
run_events d t [] sent are run = tt
run_events d t (event ∷ events) sent are run =
    let frames = first_frames event events are in
    (one_event d event run.0 frames.0 run.2, run_events (doing_after run.0) t events run.1 frames.1 run.4)

-- ---- the one call more

pub record More (left : List ℕ) (untold : List Exchange) : Type 0 where
  pub events : List Event
  pub are : untold ≡ exchanges_of events
  pub is : AllByRecursion IsEvent events
  pub frames : AreFramesOf OfCommand (commands_of events)
  pub rest : List ℕ
  pub taken : left ≡ spellings (commands_of events) ++ rest

command_more : (bound : Option Caller) (left rest : List ℕ) (t : Doing) (x : Exchange) → Commands bound left rest t x.0 → More left (x ∷ [])
command_more bound left rest t x c = record {
  events = commands c.command x ∷ [];
  are = refl;
  is = (command_call bound c.command x.0 t c.is c.asks, tt);
  frames = (c.is, tt);
  rest = rest;
  taken = c.taken ∙ ap (λ bytes. bytes ++ rest) (sym (append-nil (spelling c.command)));
}

same_ask : (a b : DonorCall) → Ask a ≡ Ask b → a ≡ b
same_ask a b e = cc

next_more : (d : Doing) (left : List ℕ) (x : Exchange) → AsksNext d left x.0 → More left (x ∷ [])
next_more New left x next = command_more None left next.0 next.1 x next.2
next_more (Ready caller) left x next = command_more (Some caller) left next.0 next.1 x next.2
next_more (Serving run work) left x next = record {
  events = serves x ∷ [];
  are = refl;
  is = (subst IsWithin (sym (same_ask x.0 (call_in run work) next.2.0)) (work_call run work), tt);
  frames = tt;
  rest = left;
  taken = refl;
}
next_more _ left x next = absurd (cc (next.2.0))

pub more : (d : Doing) (left : List ℕ) (untold : List Exchange) → IsUntold d left untold → More left untold
more d left [] none = record { events = []; are = refl; is = tt; frames = tt; rest = left; taken = refl }
more d left (x ∷ []) next = next_more d left x next
more d left (x ∷ y ∷ xs) none = absurd none

-- ---- events, and then others

pub spellings-append : (xs ys : List Frame) → spellings (xs ++ ys) ≡ spellings xs ++ spellings ys
spellings-append [] ys = refl
spellings-append (x ∷ xs) ys = ap (λ l. spelling x ++ l) (spellings-append xs ys) ∙ sym (append_assoc (spelling x) (spellings xs) (spellings ys))

pub commands-append : (xs ys : List Event) → commands_of (xs ++ ys) ≡ commands_of xs ++ commands_of ys
commands-append [] ys = refl
commands-append (commands f x ∷ xs) ys = ap (λ l. f ∷ l) (commands-append xs ys)
commands-append (serves x ∷ xs) ys = commands-append xs ys

pub exchanges-append : (xs ys : List Event) → exchanges_of (xs ++ ys) ≡ exchanges_of xs ++ exchanges_of ys
exchanges-append [] ys = refl
exchanges-append (x ∷ xs) ys = ap (λ l. exchange_of x ∷ l) (exchanges-append xs ys)

pub frames-append : (xs ys : List Frame) → AreFramesOf OfCommand xs → AreFramesOf OfCommand ys → AreFramesOf OfCommand (xs ++ ys)
frames-append [] ys p q = q
frames-append (x ∷ xs) ys p q = (p.0, frames-append xs ys p.1 q)
