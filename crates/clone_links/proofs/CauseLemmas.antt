-- Why a step ends the serving: by how its last call was answered, or by the bytes.
use Rattle.std.proofs.Common.{◌≡◌, ◌∙◌, ℕ, ◌≤◌, Bool, true, false, List, [], ◌∷◌, ◌++◌, Result, Ok, Err, Some, None, refl, sym, ap, subst, inl, inr, append_assoc, arith, ◌⊎◌}
use Rattle.std.specs.Prelude.{⊤}
use Rattle.std.proofs.lemmas.Option.{same_Some}
use Rattle.std.specs.declared.alloc.AllocError.{AllocError}
use Rattle.std.specs.declared.option.Option.{Option}
use Rattle.clone_outside.specs.Causes.{Rose}
use Rattle.clone_chunk.specs.Stages.{copy_number}
use Rattle.clone_chunk.specs.declared.cause.CloneCause.{CloneCause}
use Rattle.clone_chunk.specs.declared.cause.CloneCause.TheVariants.{ArchiveBehind}
use Rattle.clone_plain.specs.declared.refusal.Cause.TheVariants.{DiskFault}
use Rattle.clone_plain.specs.declared.refusal.EngineRefusal.{EngineRefusal}
use Rattle.clone_plain.specs.declared.refusal.EngineRefusal.TheVariants as engine
use Rattle.clone_session.specs.declared.caller.Caller.{Caller}
use Rattle.clone_session.specs.declared.info.StageInfo.{StageInfo}
use Rattle.clone_session.specs.declared.refusal.CloneRefusal.{CloneRefusal}
use Rattle.clone_session.specs.declared.refusal.CloneRefusal.TheVariants.{Because, NoMemory}
use Rattle.clone_wire.specs.declared.frame.Frame.{Frame}
use Rattle.clone_wire.specs.declared.frame.Frame.TheVariants as frame
use Rattle.clone_calls.specs.Answering.{IsAnswerTo, answers}
use Rattle.clone_calls.specs.declared.answer.DonorAnswer.{DonorAnswer}
use Rattle.clone_calls.specs.declared.answer.DonorAnswer.TheVariants as answer
use Rattle.clone_calls.specs.declared.block.Block.{Block}
use Rattle.clone_calls.specs.declared.block.Block.TheVariants as block
use Rattle.clone_calls.specs.declared.block.BlockRefusal.{BlockRefusal}
use Rattle.clone_calls.specs.declared.block.BlockRefusal.TheVariants.{Clone, Engine}
use Rattle.clone_calls.specs.declared.call.DonorCall.{DonorCall}
use Rattle.clone_calls.specs.declared.call.DonorCall.TheVariants as call
use Rattle.clone_serve.specs.Following.{after, archived, claimed, failing, left, read, says_sent, started, told, unread, weighed, work_after}
use Rattle.clone_serve.specs.Runs.{awaits_of}
use Rattle.clone_serve.specs.Serving.{Begins, GoesOn, TakesCommand, sends_of, turn_after}
use Rattle.clone_serve.specs.Stepping.{Goes, IsStep}
use Rattle.clone_serve.specs.Telling.{Exchange, block_frame, frame_for}
use Rattle.clone_serve.specs.declared.after.After.{After}
use Rattle.clone_serve.specs.declared.after.After.TheVariants.{Asks, Ends}
use Rattle.clone_serve.specs.declared.doing.Doing.{Doing}
use Rattle.clone_serve.specs.declared.doing.Doing.TheVariants.{Leaving, New, Ready, Serving, Starting, Telling}
use Rattle.clone_serve.specs.declared.doing.Execution.{Execution}
use Rattle.clone_serve.specs.declared.doing.Place.{Place}
use Rattle.clone_serve.specs.declared.doing.Work.TheVariants.{Archive, Claim, Read, Weigh}
use Rattle.clone_serve.specs.declared.turn.ServeAnswer.{ServeAnswer}
use Rattle.clone_serve.specs.declared.turn.ServeAnswer.TheVariants as served
use Rattle.clone_serve.specs.declared.turn.ServeTurn.{ServeTurn}
use Rattle.clone_serve.specs.declared.turn.ServeTurn.TheVariants.{Done}
use Rattle.clone_serve.proofs.AnswerLemmas.{Fits}
use Rattle.clone_serve.proofs.StepLemmas.{FitsTurn, begun_fits, gone_fits}
use Rattle.clone_machine.specs.Running.{JobEntry}
use Rattle.clone_links.specs.Calling.{AreAnswered}
use Rattle.clone_links.specs.Ending.{EndsWith, IsCause, IsCauseIn, IsDiskFault, IsExit, IsHalt, IsNoCommand, IsOfLink, IsRefusal, RoseIfLost, end_after}
use Rattle.clone_links.specs.declared.end.ServeEnd.{ServeEnd}
use Rattle.clone_links.specs.declared.end.ServeEnd.TheVariants as end

-- ---- what follows an answer

abbrev IsBrought : DonorAnswer → After → Type 0
IsBrought given (Ends doing sends served.Exit) = given ≡ answer.Exit (Ok tt)
IsBrought given (Ends doing sends (served.Refused why)) = sends ≡ Some (frame.Refused why)
IsBrought given (Ends doing sends served.DiskFault) = (why : EngineRefusal) × (given ≡ answer.ReadBlock (Err (Engine why)))
IsBrought given (Ends doing sends (served.Garbled kept)) = ⊥
IsBrought given next = ⊤

failing_brings : (given : DonorAnswer) (why : CloneRefusal) → IsBrought given (failing why)
failing_brings given (Because why) = refl
failing_brings given NoMemory = tt

told_brings : (given : DonorAnswer) (caller : Caller) (r : Result StageInfo CloneRefusal) → IsBrought given (told caller r)
told_brings given caller (Ok info) = tt
told_brings given caller (Err why) = failing_brings given why

started_brings : (given : DonorAnswer) (run : Execution) (r : Result (Unit {0}) CloneCause) → IsBrought given (started run r)
started_brings given run (Ok x) = tt
started_brings given run (Err why) = refl

left_brings : (r : Result (Unit {0}) CloneCause) → IsBrought (answer.Exit r) (left r)
left_brings (Ok x) = refl
left_brings (Err why) = refl

claimed_brings : (given : DonorAnswer) (run : Execution) (r : Result (Option ℕ) CloneCause) → IsBrought given (claimed run r)
claimed_brings given run (Ok (Some chunk)) = tt
claimed_brings given run (Ok None) = tt
claimed_brings given run (Err why) = refl

weighed_brings : (given : DonorAnswer) (run : Execution) (chunk : ℕ) (r : Result ℕ CloneCause) → IsBrought given (weighed run chunk r)
weighed_brings given run chunk (Ok kept) = tt
weighed_brings given run chunk (Err why) = refl

unread_brings : (run : Execution) (place : Place) (again : Bool) (why : BlockRefusal) → IsBrought (answer.ReadBlock (Err why)) (unread run place again why)
unread_brings run place true (Clone (Because (ArchiveBehind a u))) = tt
unread_brings run place false (Clone (Because (ArchiveBehind a u))) = tt
unread_brings run place again (Engine why) = (why, refl)
unread_brings run place again (Clone why) = failing_brings (answer.ReadBlock (Err (Clone why))) why

sent_brings : (given : DonorAnswer) (doing : Doing) (sends : Option Frame) (chunk number : ℕ) (found : Block) → IsBrought given (Ends doing sends (says_sent chunk number found))
sent_brings given doing sends chunk number (block.Pages pages) = tt
sent_brings given doing sends chunk number (block.Redo from bytes) = tt

read_brings : (run : Execution) (place : Place) (again : Bool) (r : Result (Block × Bool) BlockRefusal) → IsBrought (answer.ReadBlock r) (read run place again r)
read_brings run place again (Ok given) = sent_brings (answer.ReadBlock (Ok given)) (Serving run (work_after place given.1)) (Some (block_frame run.caller (copy_number run.stage) place.chunk place.block given.0)) place.chunk place.block given.0
read_brings run place again (Err why) = unread_brings run place again why

archived_brings : (given : DonorAnswer) (run : Execution) (place : Place) (r : Result (Option ℕ) AllocError) → IsBrought given (archived run place r)
archived_brings given run place (Ok reached) = tt
archived_brings given run place (Err e) = tt

moved : (given : DonorAnswer) (x next : After) → IsBrought given x → Some x ≡ Some next → IsBrought given next
moved given x next brought e = subst (IsBrought given) (same_Some x next e) brought

brings : (d : Doing) (given : DonorAnswer) (next : After) → after d given ≡ Some next → IsBrought given next
brings (Telling caller) (answer.Init r) next e = moved _ _ next (told_brings (answer.Init r) caller r) e
brings (Telling caller) (answer.Attach r) next e = moved _ _ next (told_brings (answer.Attach r) caller r) e
brings (Telling caller) (answer.Reinit r) next e = moved _ _ next (told_brings (answer.Reinit r) caller r) e
brings (Telling caller) (answer.ReinitBlocks r) next e = moved _ _ next (told_brings (answer.ReinitBlocks r) caller r) e
brings (Telling caller) (answer.Ack r) next e = moved _ _ next (told_brings (answer.Ack r) caller r) e
brings (Starting run) (answer.Execute r) next e = moved _ _ next (started_brings (answer.Execute r) run r) e
brings Leaving (answer.Exit r) next e = moved _ _ next (left_brings r) e
brings (Serving run Claim) (answer.Claim r) next e = moved _ _ next (claimed_brings (answer.Claim r) run r) e
brings (Serving run (Weigh chunk)) (answer.Kept r) next e = moved _ _ next (weighed_brings (answer.Kept r) run chunk r) e
brings (Serving run (Read place again)) (answer.ReadBlock r) next e = moved _ _ next (read_brings run place again r) e
brings (Serving run (Archive place limit)) (answer.Archive r) next e = moved _ _ next (archived_brings (answer.Archive r) run place r) e
brings _ _ next e = absurd (cc)

-- ---- the last call of a step

-- why the step ended with this, by the last call
abbrev Why : ServeAnswer → Exchange → Type 0
Why served.Exit x = IsExit x
Why (served.Refused why) x = IsRefusal why x
Why served.DiskFault x = IsDiskFault x
Why (served.Garbled kept) x = ⊥
Why other x = ⊤

exit_asked : (asked : DonorCall) → answers asked (answer.Exit (Ok tt)) ≡ true → (caller : Caller) × (asked ≡ call.Exit caller)
exit_asked (call.Exit caller) e = (caller, refl)
exit_asked _ e = absurd (cc)

unread_why : (asked : DonorCall) (why : EngineRefusal) → IsAnswerTo asked (answer.ReadBlock (Err (Engine why))) → why ≡ engine.Because DiskFault
unread_why (call.ReadBlock caller stage chunk number) why fits = fits.block
unread_why _ why fits = absurd (cc (fits.kind))

why_ended : (said : ServeAnswer) (doing : Doing) (sends : Option Frame) (asked : DonorCall) (given : DonorAnswer) → sends ≡ frame_for asked given → IsAnswerTo asked given → IsBrought given (Ends doing sends said) → Why said (asked, given)
why_ended served.Exit doing sends asked given same fits brought =
    let exit = exit_asked asked (subst (λ (a : DonorAnswer). answers asked a ≡ true) brought fits.kind) in
    (exit.0, exit.1, brought)
why_ended (served.Refused why) doing sends asked given same fits brought = sym same ∙ brought
why_ended served.DiskFault doing sends asked given same fits brought =
    brought.1 ∙ ap (λ (why : EngineRefusal). answer.ReadBlock (Err (Engine why))) (unread_why asked brought.0 (subst (IsAnswerTo asked) brought.1 fits))
why_ended (served.Garbled kept) doing sends asked given same fits brought = brought
why_ended _ doing sends asked given same fits brought = tt

same_done : (a b : ServeAnswer) → Done a ≡ Done b → a ≡ b
same_done a b e = cc

why_next : (next : After) (asked : DonorCall) (given : DonorAnswer) (says : ServeAnswer) → sends_of next ≡ frame_for asked given → IsAnswerTo asked given → IsBrought given next → turn_after next ≡ Done says → Why says (asked, given)
why_next (Asks run work) asked given says same fits brought e = absurd (cc (e))
why_next (Ends doing sends said) asked given says same fits brought e =
    subst (λ (a : ServeAnswer). Why a (asked, given)) (same_done said says e) (why_ended said doing sends asked given same fits brought)

-- the call is the last, or the rest says why
why_here : (x : Exchange) (xs : List Exchange) (d f : Doing) (sent mid : List ℕ) (turn : ServeTurn) (says : ServeAnswer) → Fits d x.0 → IsAnswerTo x.0 x.1 → GoesOn d x.1 sent mid f turn
    → ((xs ≡ []) × (turn ≡ Done says)) ⊎ EndsWith (Why says) xs → EndsWith (Why says) (x ∷ xs)
why_here x xs d f sent mid turn says fits answered gone (inr later) = (x ∷ later.0, later.1, ap (λ (l : List Exchange). x ∷ l) later.2, later.3)
why_here x xs d f sent mid turn says fits answered (inl went) (inl last) = (
  [],
  x,
  ap (λ (l : List Exchange). x ∷ l) last.0,
  why_next went.0 x.0 x.1 says (fits.right x.1 went.0 went.1).sends answered (brings d x.1 went.0 went.1) (sym went.2.turns ∙ last.1),
)
why_here x xs d f sent mid turn says fits answered (inr fails) (inl last) = (
  [],
  x,
  ap (λ (l : List Exchange). x ∷ l) last.0,
  subst (λ (a : ServeAnswer). Why a x) (same_done served.NoMemory says (sym fails.says ∙ last.1)) tt,
)

why_from : (exchanges : List Exchange) (d t : Doing) (turn : ServeTurn) (sent after_sent : List ℕ) (says : ServeAnswer) → FitsTurn d turn → AreAnswered exchanges → Goes exchanges d turn sent after_sent t says
    → ((exchanges ≡ []) × (turn ≡ Done says)) ⊎ EndsWith (Why says) exchanges
why_from [] d t turn sent after_sent says fits answered goes = inl (refl, goes.0)
why_from (x ∷ xs) d t turn sent after_sent says fits answered goes =
    inr (why_here x xs d goes.1.0 sent goes.1.1 goes.1.2 says (subst (FitsTurn d) goes.0 fits) answered.0 goes.1.3
    (why_from xs goes.1.0 t goes.1.2 goes.1.1 after_sent says (gone_fits d goes.1.0 x.1 sent goes.1.1 goes.1.2 goes.1.3) answered.1 goes.1.4))

-- ---- a step that asks for nothing

abbrev MayBegin : Doing → List ℕ → ServeAnswer → Type 0
MayBegin d left served.Idle = ⊤
MayBegin d left (served.Garbled kept) = IsNoCommand d left kept
MayBegin d left served.NoMemory = ⊤
MayBegin d left other = ⊥

may_take : (bound : Option Caller) (d t : Doing) (received rest : List ℕ) (says : ServeAnswer) → awaits_of d ≡ Some bound → TakesCommand bound received rest d t (Done says) → MayBegin d received says
may_take bound d t received rest served.Idle awaits takes = tt
may_take bound d t received rest (served.Garbled kept) awaits takes = (bound, awaits, takes.0)
may_take bound d t received rest served.NoMemory awaits takes = tt
may_take bound d t received rest _ awaits takes = takes

idle : (d : Doing) (received : List ℕ) (says : ServeAnswer) → Done says ≡ Done served.Idle → MayBegin d received says
idle d received says e = subst (MayBegin d received) (sym (same_done says served.Idle e)) tt

may_begin : (d t : Doing) (received rest : List ℕ) (says : ServeAnswer) → Begins d received rest t (Done says) → MayBegin d received says
may_begin New t received rest says begins = may_take None New t received rest says refl begins
may_begin (Ready caller) t received rest says begins = may_take (Some caller) (Ready caller) t received rest says refl begins
may_begin (Serving run work) t received rest says begins = absurd (cc (begins.0))
may_begin d t received rest says begins = idle d received says begins.0

-- ---- the causes of an end

-- the end is that of the step, or one of the connection
abbrev pub IsEndOf : ServeAnswer → ServeEnd → Type 0
IsEndOf says e = (end_after says ≡ Some e) ⊎ IsOfLink e

-- it comes at once for the bytes, or not for any
abbrev pub IsByBytes : ServeEnd → List Exchange → Doing → List ℕ → Type 0
IsByBytes e exchanges d left = ((exchanges ≡ []) × IsCauseIn e d left) ⊎ ((f : Doing) (l : List ℕ) → IsCauseIn e f l)

pub link_cause : (e : ServeEnd) (exchanges : List Exchange) (made : List JobEntry) → IsOfLink e → IsCause e exchanges made
link_cause end.Lost exchanges made of = tt
link_cause end.NoMemory exchanges made of = tt
link_cause _ exchanges made of = absurd of

pub link_cause_in : (e : ServeEnd) (d : Doing) (left : List ℕ) → IsOfLink e → IsCauseIn e d left
link_cause_in end.Lost d left of = tt
link_cause_in end.NoMemory d left of = tt
link_cause_in _ d left of = absurd of

abbrev Found : ServeAnswer → List Exchange → Doing → List ℕ → Type 0
Found says exchanges d left = ((exchanges ≡ []) × MayBegin d left says) ⊎ EndsWith (Why says) exchanges

found_cause : (says : ServeAnswer) (exchanges : List Exchange) (d : Doing) (left : List ℕ) (made : List JobEntry) (e : ServeEnd) → Found says exchanges d left → end_after says ≡ Some e → IsCause e exchanges made
found_cause served.Exit exchanges d left made e (inr why) is = subst (λ (x : ServeEnd). IsCause x exchanges made) (same_Some end.Exit e is) why
found_cause (served.Refused cause) exchanges d left made e (inr why) is = subst (λ (x : ServeEnd). IsCause x exchanges made) (same_Some (end.Refused cause) e is) why
found_cause served.DiskFault exchanges d left made e (inr why) is = subst (λ (x : ServeEnd). IsCause x exchanges made) (same_Some end.DiskFault e is) why
found_cause (served.Garbled kept) exchanges d left made e found is = subst (λ (x : ServeEnd). IsCause x exchanges made) (same_Some (end.Garbled kept) e is) tt
found_cause served.NoMemory exchanges d left made e found is = subst (λ (x : ServeEnd). IsCause x exchanges made) (same_Some end.NoMemory e is) tt
found_cause served.Exit exchanges d left made e (inl none) is = absurd none.1
found_cause (served.Refused cause) exchanges d left made e (inl none) is = absurd none.1
found_cause served.DiskFault exchanges d left made e (inl none) is = absurd none.1
found_cause _ exchanges d left made e found is = absurd (cc (is))

found_in : (says : ServeAnswer) (exchanges : List Exchange) (d : Doing) (left : List ℕ) (e : ServeEnd) → Found says exchanges d left → end_after says ≡ Some e → IsByBytes e exchanges d left
found_in (served.Garbled kept) exchanges d left e (inl none) is = inl (none.0, subst (λ (x : ServeEnd). IsCauseIn x d left) (same_Some (end.Garbled kept) e is) none.1)
found_in (served.Garbled kept) exchanges d left e (inr why) is = absurd why.3
found_in served.Exit exchanges d left e found is = inr (λ f l. subst (λ (x : ServeEnd). IsCauseIn x f l) (same_Some end.Exit e is) tt)
found_in (served.Refused cause) exchanges d left e found is = inr (λ f l. subst (λ (x : ServeEnd). IsCauseIn x f l) (same_Some (end.Refused cause) e is) tt)
found_in served.DiskFault exchanges d left e found is = inr (λ f l. subst (λ (x : ServeEnd). IsCauseIn x f l) (same_Some end.DiskFault e is) tt)
found_in served.NoMemory exchanges d left e found is = inr (λ f l. subst (λ (x : ServeEnd). IsCauseIn x f l) (same_Some end.NoMemory e is) tt)
found_in _ exchanges d left e found is = absurd (cc (is))

module _ (exchanges : List Exchange) (d t : Doing) (received rest sent after_sent : List ℕ) (says : ServeAnswer) (step : IsStep exchanges d received rest sent after_sent t says) (answered : AreAnswered exchanges) where
  abbrev Why' : Type 0
  Why' = ((exchanges ≡ []) × (step.turn ≡ Done says)) ⊎ EndsWith (Why says) exchanges

  found_from : Why' → Found says exchanges d received
  found_from (inl none) = inl (none.0, may_begin d step.begun received rest says (subst (Begins d received rest step.begun) none.1 step.begins))
  found_from (inr why) = inr why

  found : Found says exchanges d received
  found = found_from (why_from exchanges step.begun t step.turn sent after_sent says (begun_fits d step.begun received rest step.turn step.begins) answered step.goes)

  pub step_cause : (e : ServeEnd) (made : List JobEntry) → IsEndOf says e → IsCause e exchanges made
  step_cause e made (inl is) = found_cause says exchanges d received made e found is
  step_cause e made (inr of) = link_cause e exchanges made of

  pub step_cause_in : (e : ServeEnd) → IsEndOf says e → IsByBytes e exchanges d received
  step_cause_in e (inl is) = found_in says exchanges d received e found is
  step_cause_in e (inr of) = inr (λ f l. link_cause_in e f l of)

-- no step says that the connection is lost
pub step_loss : (says : ServeAnswer) (e : ServeEnd) (a b : ℕ) → end_after says ≡ Some e → RoseIfLost e a b
step_loss served.Exit e a b is = subst (λ (x : ServeEnd). RoseIfLost x a b) (same_Some end.Exit e is) tt
step_loss (served.Refused cause) e a b is = subst (λ (x : ServeEnd). RoseIfLost x a b) (same_Some (end.Refused cause) e is) tt
step_loss (served.Garbled kept) e a b is = subst (λ (x : ServeEnd). RoseIfLost x a b) (same_Some (end.Garbled kept) e is) tt
step_loss served.DiskFault e a b is = subst (λ (x : ServeEnd). RoseIfLost x a b) (same_Some end.DiskFault e is) tt
step_loss served.NoMemory e a b is = subst (λ (x : ServeEnd). RoseIfLost x a b) (same_Some end.NoMemory e is) tt
step_loss _ e a b is = absurd (cc (is))

-- ---- causes stay while turns came before

pub ends_later : {X : Type 0} (P : X → Type 0) (xs ys : List X) → EndsWith P ys → EndsWith P (xs ++ ys)
ends_later P xs ys last = (xs ++ last.0, last.1, ap (λ l. xs ++ l) last.2 ∙ sym (append_assoc xs last.0 (last.1 ∷ [])), last.3)

pub cause_later : (e : ServeEnd) (before exchanges : List Exchange) (made more : List JobEntry) → IsCause e exchanges more → IsCause e (before ++ exchanges) (made ++ more)
cause_later end.Exit before exchanges made more cause = ends_later IsExit before exchanges cause
cause_later (end.Refused why) before exchanges made more cause = ends_later (IsRefusal why) before exchanges cause
cause_later end.DiskFault before exchanges made more cause = ends_later IsDiskFault before exchanges cause
cause_later end.Halted before exchanges made more cause = ends_later IsHalt made more cause
cause_later _ before exchanges made more cause = tt

rose_later : (a b c : ℕ) → a ≤ b → Rose b c → Rose a c
rose_later a b c low rose = omega arith

pub loss_later : (e : ServeEnd) (a b c : ℕ) → a ≤ b → RoseIfLost e b c → RoseIfLost e a c
loss_later end.Lost a b c low rose = rose_later a b c low rose
loss_later _ a b c low rose = tt
