-- What follows an answer sends the frame that tells it, and asks for fewer calls.
use Rattle.std.proofs.Common.{◌≡◌, ℕ, ◌<◌, Bool, true, false, Some, None, Ok, Err, Result, refl, sym, subst, arith}
use Rattle.std.proofs.lemmas.Option.{same_Some}
use Rattle.std.specs.declared.alloc.AllocError.{AllocError}
use Rattle.std.specs.declared.option.Option.{Option}
use Rattle.clone_chunk.specs.Stages.{copy_number}
use Rattle.clone_chunk.specs.declared.cause.CloneCause.{CloneCause}
use Rattle.clone_chunk.specs.declared.cause.CloneCause.TheVariants.{ArchiveBehind}
use Rattle.clone_session.specs.declared.caller.Caller.{Caller}
use Rattle.clone_session.specs.declared.info.StageInfo.{StageInfo}
use Rattle.clone_session.specs.declared.refusal.CloneRefusal.{CloneRefusal}
use Rattle.clone_session.specs.declared.refusal.CloneRefusal.TheVariants.{Because, NoMemory}
use Rattle.clone_wire.specs.declared.frame.Frame.{Frame}
use Rattle.clone_calls.specs.Answering.{answers}
use Rattle.clone_calls.specs.declared.answer.DonorAnswer.{DonorAnswer}
use Rattle.clone_calls.specs.declared.answer.DonorAnswer.TheVariants as answer
use Rattle.clone_calls.specs.declared.block.Block.{Block}
use Rattle.clone_calls.specs.declared.block.Block.TheVariants as block
use Rattle.clone_calls.specs.declared.block.BlockRefusal.{BlockRefusal}
use Rattle.clone_calls.specs.declared.block.BlockRefusal.TheVariants.{Clone, Engine}
use Rattle.clone_calls.specs.declared.call.DonorCall.{DonorCall}
use Rattle.clone_calls.specs.declared.call.DonorCall.TheVariants as call
use Rattle.clone_serve.specs.Following.{after, archived, call_in, claimed, failing, left, read, started, told, unread, weighed, work_done}
use Rattle.clone_serve.specs.Serving.{Awaits, IsOfDonor, sends_of}
use Rattle.clone_serve.specs.Telling.{block_frame, block_told, claim_told, frame_for, if_refused, refusal_told, stage_told, unread_told}
use Rattle.clone_serve.specs.declared.after.After.{After}
use Rattle.clone_serve.specs.declared.after.After.TheVariants.{Asks, Ends}
use Rattle.clone_serve.specs.declared.doing.Doing.{Doing}
use Rattle.clone_serve.specs.declared.doing.Doing.TheVariants.{Leaving, Serving, Starting, Telling}
use Rattle.clone_serve.specs.declared.doing.Execution.{Execution}
use Rattle.clone_serve.specs.declared.doing.Place.{Place}
use Rattle.clone_serve.specs.declared.doing.Work.{Work}
use Rattle.clone_serve.specs.declared.doing.Work.TheVariants.{Archive, Claim, Read, Weigh}

-- how many calls an EXECUTE may ask for in a step, from this one on
abbrev pub work_left : Work → ℕ
work_left Claim = 5
work_left (Weigh chunk) = 4
work_left (Read place false) = 3
work_left (Archive place limit) = 2
work_left (Read place true) = 1

-- the call of a command is the only one
abbrev pub calls_left : Doing → ℕ
calls_left (Serving run work) = work_left work
calls_left other = 1

abbrev pub left_after : After → ℕ
left_after (Asks run work) = work_left work
left_after (Ends doing sends says) = 0

-- what follows sends this frame and asks for fewer calls
pub record Right (told : Option Frame) (n : ℕ) (next : After) : Type 0 where
  pub sends : sends_of next ≡ told
  pub side : IsOfDonor told
  pub fewer : left_after next < n

is : (f : Option Frame) (n : ℕ) (x next : After) → Right f n x → Some x ≡ Some next → Right f n next
is f n x next right e = subst (Right f n) (same_Some x next e) right

pub some_left : (work : Work) → 0 < work_left work
some_left Claim = omega arith
some_left (Read place true) = omega arith
some_left (Read place false) = omega arith
some_left _ = omega arith

failing_right : (why : CloneRefusal) (n : ℕ) → 0 < n → Right (refusal_told why) n (failing why)
failing_right (Because why) n some = record { sends = refl; side = refl; fewer = some }
failing_right NoMemory n some = record { sends = refl; side = tt; fewer = some }

told_right : (caller : Caller) (r : Result StageInfo CloneRefusal) → Right (stage_told r) 1 (told caller r)
told_right caller (Ok info) = record { sends = refl; side = refl; fewer = omega arith }
told_right caller (Err why) = failing_right why 1 (omega arith)

started_right : (run : Execution) (r : Result (Unit {0}) CloneCause) → Right (if_refused r) 1 (started run r)
started_right run (Ok x) = record { sends = refl; side = tt; fewer = omega arith }
started_right run (Err why) = record { sends = refl; side = refl; fewer = omega arith }

left_right : (r : Result (Unit {0}) CloneCause) → Right (if_refused r) 1 (left r)
left_right (Ok x) = record { sends = refl; side = tt; fewer = omega arith }
left_right (Err why) = record { sends = refl; side = refl; fewer = omega arith }

claimed_right : (run : Execution) (r : Result (Option ℕ) CloneCause) → Right (claim_told (call_in run Claim) r) 5 (claimed run r)
claimed_right run (Ok (Some chunk)) = record { sends = refl; side = tt; fewer = omega arith }
claimed_right run (Ok None) = record { sends = refl; side = refl; fewer = omega arith }
claimed_right run (Err why) = record { sends = refl; side = refl; fewer = omega arith }

weighed_right : (run : Execution) (chunk : ℕ) (r : Result ℕ CloneCause) → Right (if_refused r) 4 (weighed run chunk r)
weighed_right run chunk (Ok kept) = record { sends = refl; side = tt; fewer = omega arith }
weighed_right run chunk (Err why) = record { sends = refl; side = refl; fewer = omega arith }

unread_right : (run : Execution) (place : Place) (again : Bool) (why : BlockRefusal) → Right (unread_told why) (work_left (Read place again)) (unread run place again why)
unread_right run place true (Clone (Because (ArchiveBehind a u))) = record { sends = refl; side = tt; fewer = omega arith }
unread_right run place false (Clone (Because (ArchiveBehind a u))) = record { sends = refl; side = tt; fewer = omega arith }
unread_right run place again (Engine why) = record { sends = refl; side = tt; fewer = some_left (Read place again) }
unread_right run place again (Clone why) = failing_right why (work_left (Read place again)) (some_left (Read place again))

block_side : (caller : Caller) (stage chunk number : ℕ) (found : Block) → IsOfDonor (Some (block_frame caller stage chunk number found))
block_side caller stage chunk number (block.Pages pages) = refl
block_side caller stage chunk number (block.Redo from bytes) = refl

read_right : (run : Execution) (place : Place) (again : Bool) (r : Result (Block × Bool) BlockRefusal) → Right (block_told (call_in run (Read place again)) r) (work_left (Read place again)) (read run place again r)
read_right run place again (Ok given) = record { sends = refl; side = block_side run.caller (copy_number run.stage) place.chunk place.block given.0; fewer = some_left (Read place again) }
read_right run place again (Err why) = unread_right run place again why

archived_right : (run : Execution) (place : Place) (r : Result (Option ℕ) AllocError) → Right None 2 (archived run place r)
archived_right run place (Ok reached) = record { sends = refl; side = tt; fewer = omega arith }
archived_right run place (Err e) = record { sends = refl; side = tt; fewer = omega arith }

-- ---- by what was asked

-- each answer to the call is awaited, and what follows it is right
pub record Fits (d : Doing) (asked : DonorCall) : Type 0 where
  pub awaits : (given : DonorAnswer) → answers asked given ≡ true → Awaits d given
  pub right : (given : DonorAnswer) (next : After) → after d given ≡ Some next → Right (frame_for asked given) (calls_left d) next

work_awaits : (run : Execution) (work : Work) (given : DonorAnswer) → answers (call_in run work) given ≡ true → Awaits (Serving run work) given
work_awaits run Claim (answer.Claim r) e = refl
work_awaits run (Weigh chunk) (answer.Kept r) e = refl
work_awaits run (Read place again) (answer.ReadBlock r) e = refl
work_awaits run (Archive place limit) (answer.Archive r) e = refl
work_awaits run _ _ e = absurd (cc)

work_right : (run : Execution) (work : Work) (given : DonorAnswer) (next : After) → work_done run work given ≡ Some next → Right (frame_for (call_in run work) given) (work_left work) next
work_right run Claim (answer.Claim r) next e = is _ _ _ next (claimed_right run r) e
work_right run (Weigh chunk) (answer.Kept r) next e = is _ _ _ next (weighed_right run chunk r) e
work_right run (Read place again) (answer.ReadBlock r) next e = is _ _ _ next (read_right run place again r) e
work_right run (Archive place limit) (answer.Archive r) next e = is _ _ _ next (archived_right run place r) e
work_right run _ _ next e = absurd (cc)

pub serving_fits : (run : Execution) (work : Work) → Fits (Serving run work) (call_in run work)
serving_fits run work = record { awaits = work_awaits run work; right = work_right run work }

pub telling_right : (caller : Caller) (asked : DonorCall) (given : DonorAnswer) (next : After) → after (Telling caller) given ≡ Some next → Right (frame_for asked given) 1 next
telling_right caller asked (answer.Init r) next e = is _ _ _ next (told_right caller r) e
telling_right caller asked (answer.Attach r) next e = is _ _ _ next (told_right caller r) e
telling_right caller asked (answer.Reinit r) next e = is _ _ _ next (told_right caller r) e
telling_right caller asked (answer.ReinitBlocks r) next e = is _ _ _ next (told_right caller r) e
telling_right caller asked (answer.Ack r) next e = is _ _ _ next (told_right caller r) e
telling_right caller asked _ next e = absurd (cc)

pub starting_right : (run : Execution) (asked : DonorCall) (given : DonorAnswer) (next : After) → after (Starting run) given ≡ Some next → Right (frame_for asked given) 1 next
starting_right run asked (answer.Execute r) next e = is _ _ _ next (started_right run r) e
starting_right run asked _ next e = absurd (cc)

pub leaving_right : (asked : DonorCall) (given : DonorAnswer) (next : After) → after Leaving given ≡ Some next → Right (frame_for asked given) 1 next
leaving_right asked (answer.Exit r) next e = is _ _ _ next (left_right r) e
leaving_right asked _ next e = absurd (cc)

its_side : (told : Option Frame) (n : ℕ) (next : After) → Right told n next → IsOfDonor (sends_of next)
its_side told n next right = subst IsOfDonor (sym right.sends) right.side

-- what is sent is the donor's
pub after_side : (d : Doing) (given : DonorAnswer) (next : After) → after d given ≡ Some next → IsOfDonor (sends_of next)
after_side (Telling caller) given next e = its_side _ _ next (telling_right caller (call.Archive 0) given next e)
after_side (Starting run) given next e = its_side _ _ next (starting_right run (call.Archive 0) given next e)
after_side Leaving given next e = its_side _ _ next (leaving_right (call.Archive 0) given next e)
after_side (Serving run work) given next e = its_side _ _ next (work_right run work given next e)
after_side _ given next e = absurd (cc)
