-- WITHIN AN EXECUTE each call is one of the caller that its end has bound, and so is what its end does then.
use Rattle.std.proofs.Common.{ℕ, Bool, true, false, Option, None, Some, Ok, Err, Result, option_map}
use Rattle.std.specs.Bool.{⊤}
use Rattle.std.specs.declared.alloc.AllocError.{AllocError}
use Rattle.clone_chunk.specs.declared.cause.CloneCause.{CloneCause}
use Rattle.clone_chunk.specs.declared.cause.CloneCause.TheVariants.{ArchiveBehind}
use Rattle.clone_session.specs.declared.caller.Caller.{Caller}
use Rattle.clone_session.specs.declared.refusal.CloneRefusal.TheVariants.{Because, NoMemory}
use Rattle.clone_calls.specs.Answering.{archive_in, block_in, claim_in, kept_in}
use Rattle.clone_calls.specs.declared.answer.DonorAnswer.{DonorAnswer}
use Rattle.clone_calls.specs.declared.block.Block.{Block}
use Rattle.clone_calls.specs.declared.block.BlockRefusal.{BlockRefusal}
use Rattle.clone_calls.specs.declared.block.BlockRefusal.TheVariants as unread
use Rattle.clone_serve.specs.Following as following
use Rattle.clone_serve.specs.Following.{archived, claimed, read, weighed}
use Rattle.clone_serve.specs.declared.after.After.{After}
use Rattle.clone_serve.specs.declared.after.After.TheVariants.{Asks, Ends}
use Rattle.clone_serve.specs.declared.doing.Doing.{Doing}
use Rattle.clone_serve.specs.declared.doing.Doing.TheVariants.{Over, Ready, Serving}
use Rattle.clone_serve.specs.declared.doing.Execution.{Execution}
use Rattle.clone_serve.specs.declared.doing.Place.{Place}
use Rattle.clone_serve.specs.declared.doing.Work.{Work}
use Rattle.clone_serve.specs.declared.doing.Work.TheVariants.{Archive, Claim, Read, Weigh}

-- what is said of a caller, and of what an end does that has bound one
pub record IsBound (Of : Caller → Type 0) (Does : Doing → Type 0) : Type 0 where
  pub ready : (caller : Caller) → Of caller → Does (Ready caller)
  pub serving : (run : Execution) (what : Work) → Of run.caller → Does (Serving run what)
  pub over : Does Over

module _ (Of : Caller → Type 0) (Does : Doing → Type 0) (is : IsBound Of Does) where
  abbrev pub Next : After → Type 0
  Next (Asks run what) = Of run.caller
  Next (Ends next sends spoke) = Does next

  abbrev pub NextOf : Option After → Type 0
  NextOf None = ⊤
  NextOf (Some next) = Next next

  claimed_by : (run : Execution) (got : Option (Result (Option ℕ) CloneCause)) → Of run.caller → NextOf (option_map (claimed run) got)
  claimed_by run None of = tt
  claimed_by run (Some (Ok (Some chunk))) of = of
  claimed_by run (Some (Ok None)) of = is.ready run.caller of
  claimed_by run (Some (Err why)) of = is.over

  weighed_by : (run : Execution) (chunk : ℕ) (got : Option (Result ℕ CloneCause)) → Of run.caller → NextOf (option_map (weighed run chunk) got)
  weighed_by run chunk None of = tt
  weighed_by run chunk (Some (Ok kept)) of = of
  weighed_by run chunk (Some (Err why)) of = is.over

  unread_by : (run : Execution) (place : Place) (again : Bool) (why : BlockRefusal) → Of run.caller → Next (read run place again (Err why))
  unread_by run place true (unread.Clone (Because (ArchiveBehind reached until))) of = is.serving run (Read place false) of
  unread_by run place false (unread.Clone (Because (ArchiveBehind reached until))) of = of
  unread_by run place again (unread.Clone (Because why)) of = is.over
  unread_by run place again (unread.Clone NoMemory) of = is.over
  unread_by run place again (unread.Engine why) of = is.over

  read_by : (run : Execution) (place : Place) (again : Bool) (got : Option (Result (Block × Bool) BlockRefusal)) → Of run.caller → NextOf (option_map (read run place again) got)
  read_by run place again None of = tt
  read_by run place again (Some (Ok got)) of = is.serving run (following.work_after place got.1) of
  read_by run place again (Some (Err why)) of = unread_by run place again why of

  archived_by : (run : Execution) (place : Place) (got : Option (Result (Option ℕ) AllocError)) → Of run.caller → NextOf (option_map (archived run place) got)
  archived_by run place None of = tt
  archived_by run place (Some (Ok reached)) of = of
  archived_by run place (Some (Err e)) of = is.over

  -- WHAT FOLLOWS
  pub work_by : (run : Execution) (what : Work) (given : DonorAnswer) → Of run.caller → NextOf (following.work_done run what given)
  work_by run Claim given of = claimed_by run (claim_in given) of
  work_by run (Weigh chunk) given of = weighed_by run chunk (kept_in given) of
  work_by run (Read place again) given of = read_by run place again (block_in given) of
  work_by run (Archive place limit) given of = archived_by run place (archive_in given) of
