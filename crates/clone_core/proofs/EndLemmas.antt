-- A donor's end of a connection is between two steps after each step, if it was before.
use Rattle.std.proofs.Common.{ℕ, ◌∷◌, [], List, Bool, true, false, Option, Some, None, Result, Ok, Err, option_map, inl, inr, subst, sym}
use Rattle.std.specs.Prelude.{⊤}
use Rattle.std.specs.declared.alloc.AllocError.{AllocError}
use Rattle.clone_chunk.specs.declared.cause.CloneCause.{CloneCause}
use Rattle.clone_chunk.specs.declared.cause.CloneCause.TheVariants.{ArchiveBehind}
use Rattle.clone_session.specs.declared.caller.Caller.{Caller}
use Rattle.clone_session.specs.declared.info.StageInfo.{StageInfo}
use Rattle.clone_session.specs.declared.refusal.CloneRefusal.{CloneRefusal}
use Rattle.clone_session.specs.declared.refusal.CloneRefusal.TheVariants.{Because, NoMemory}
use Rattle.clone_calls.specs.Answering.{archive_in, block_in, claim_in, execute_in, exit_in, kept_in, stage_in}
use Rattle.clone_calls.specs.declared.answer.DonorAnswer.{DonorAnswer}
use Rattle.clone_calls.specs.declared.block.Block.{Block}
use Rattle.clone_calls.specs.declared.block.BlockRefusal.{BlockRefusal}
use Rattle.clone_calls.specs.declared.block.BlockRefusal.TheVariants as unread
use Rattle.clone_serve.specs.Following.{after, archived, claimed, left, read, started, told, weighed, work_after, work_done}
use Rattle.clone_serve.specs.Serving.{Begins, GoesOn, TakesCommand, doing_after, turn_after}
use Rattle.clone_serve.specs.Stepping.{Goes}
use Rattle.clone_serve.specs.Telling.{Exchange}
use Rattle.clone_serve.specs.declared.after.After.{After}
use Rattle.clone_serve.specs.declared.after.After.TheVariants.{Asks, Ends}
use Rattle.clone_serve.specs.declared.doing.Doing.{Doing}
use Rattle.clone_serve.specs.declared.doing.Doing.TheVariants.{New, Ready, Serving, Over, Telling, Starting, Leaving}
use Rattle.clone_serve.specs.declared.doing.Execution.{Execution}
use Rattle.clone_serve.specs.declared.doing.Place.{Place}
use Rattle.clone_serve.specs.declared.doing.Work.{Work}
use Rattle.clone_serve.specs.declared.doing.Work.TheVariants.{Archive, Claim, Read, Weigh}
use Rattle.clone_serve.specs.declared.turn.ServeAnswer.{ServeAnswer}
use Rattle.clone_serve.specs.declared.turn.ServeAnswer.TheVariants as says_as
use Rattle.clone_serve.specs.declared.turn.ServeTurn.{ServeTurn}
use Rattle.clone_serve.specs.declared.turn.ServeTurn.TheVariants.{Ask, Done}
use Rattle.clone_network.specs.Connections.{Connection, StepsBy}
use Rattle.clone_network.specs.declared.donor_step.DonorStep.{DonorStep}
use Rattle.clone_engine.specs.Donor.{Donor}
use Rattle.clone_told.specs.Told.{gives}
use Rattle.clone_ending.proofs.UnreadLemmas.{doing_is}
use Rattle.clone_core.specs.Parts.{IsBetween}

-- ---- what follows an answer

abbrev EndsBetween : After → Type 0
EndsBetween (Asks run work) = Unit {0}
EndsBetween (Ends doing sends says) = IsBetween doing

abbrev MayEnd : Option After → Type 0
MayEnd None = Unit {0}
MayEnd (Some next) = EndsBetween next

mapped : {X : Type 0} (follows : X → After) (o : Option X) → ((x : X) → EndsBetween (follows x)) → MayEnd (option_map follows o)
mapped follows None is = tt
mapped follows (Some x) is = is x

told_between : (caller : Caller) (stage : Result StageInfo CloneRefusal) → EndsBetween (told caller stage)
told_between caller (Ok info) = tt
told_between caller (Err (Because why)) = tt
told_between caller (Err NoMemory) = tt

started_between : (run : Execution) (done : Result ⊤ CloneCause) → EndsBetween (started run done)
started_between run (Ok x) = tt
started_between run (Err why) = tt

left_between : (done : Result ⊤ CloneCause) → EndsBetween (left done)
left_between (Ok x) = tt
left_between (Err why) = tt

claimed_between : (run : Execution) (got : Result (Option ℕ) CloneCause) → EndsBetween (claimed run got)
claimed_between run (Ok (Some chunk)) = tt
claimed_between run (Ok None) = tt
claimed_between run (Err why) = tt

weighed_between : (run : Execution) (chunk : ℕ) (got : Result ℕ CloneCause) → EndsBetween (weighed run chunk got)
weighed_between run chunk (Ok kept) = tt
weighed_between run chunk (Err why) = tt

next_between : (run : Execution) (place : Place) (last : Bool) → IsBetween (Serving run (work_after place last))
next_between run place true = tt
next_between run place false = tt

refused_between : (run : Execution) (place : Place) (again : Bool) (why : BlockRefusal) → EndsBetween (read run place again (Err why))
refused_between run place true (unread.Clone (Because (ArchiveBehind reached until))) = tt
refused_between run place false (unread.Clone (Because (ArchiveBehind reached until))) = tt
refused_between run place again (unread.Clone (Because why)) = tt
refused_between run place again (unread.Clone NoMemory) = tt
refused_between run place again (unread.Engine why) = tt

read_between : (run : Execution) (place : Place) (again : Bool) (got : Result (Block × Bool) BlockRefusal) → EndsBetween (read run place again got)
read_between run place again (Ok given) = next_between run place given.1
read_between run place again (Err why) = refused_between run place again why

archived_between : (run : Execution) (place : Place) (got : Result (Option ℕ) AllocError) → EndsBetween (archived run place got)
archived_between run place (Ok reached) = tt
archived_between run place (Err e) = tt

work_between : (run : Execution) (work : Work) (given : DonorAnswer) → MayEnd (work_done run work given)
work_between run Claim given = mapped (claimed run) (claim_in given) (claimed_between run)
work_between run (Weigh chunk) given = mapped (weighed run chunk) (kept_in given) (weighed_between run chunk)
work_between run (Read place again) given = mapped (read run place again) (block_in given) (read_between run place again)
work_between run (Archive place limit) given = mapped (archived run place) (archive_in given) (archived_between run place)

after_between : (d : Doing) (given : DonorAnswer) → MayEnd (after d given)
after_between (Telling caller) given = mapped (told caller) (stage_in given) (told_between caller)
after_between (Starting run) given = mapped (started run) (execute_in given) (started_between run)
after_between Leaving given = mapped left (exit_in given) left_between
after_between (Serving run work) given = work_between run work given
after_between New given = tt
after_between (Ready caller) given = tt
after_between Over given = tt

-- ---- a step

-- where a turn ends the step, the end is between two steps
abbrev Stands : ServeTurn → Doing → Type 0
Stands (Ask asked) d = Unit {0}
Stands (Done says) d = IsBetween d

turn_stands : (next : After) → EndsBetween next → Stands (turn_after next) (doing_after next)
turn_stands (Asks run work) is = tt
turn_stands (Ends doing sends says) is = is

on_stands : (d mid : Doing) (given : DonorAnswer) (old new : List ℕ) (turn : ServeTurn) → GoesOn d given old new mid turn → Stands turn mid
on_stands d mid given old new turn (inl (next, is, follows)) =
    subst (λ (x : ServeTurn). Stands x mid) (sym follows.turns) (subst (λ (x : Doing). Stands (turn_after next) x) (sym follows.doing) (turn_stands next (subst MayEnd is (after_between d given))))
on_stands d mid given old new turn (inr fails) =
    subst (λ (x : ServeTurn). Stands x mid) (sym fails.says) (subst IsBetween (sym fails.doing) tt)

goes_between : (exchanges : List Exchange) (d t : Doing) (turn : ServeTurn) (old new : List ℕ) (says : ServeAnswer) → Stands turn d → Goes exchanges d turn old new t says → IsBetween t
goes_between [] d t turn old new says stands goes = subst IsBetween (sym goes.2) (subst (λ (x : ServeTurn). Stands x d) goes.0 stands)
goes_between (exchange ∷ more) d t turn old new says stands (ask, (mid, sent, next, goes, rest)) =
    goes_between more mid t next sent new says (on_stands d mid exchange.1 old sent next goes) rest

takes_stands : (bound : Option Caller) (received left : List ℕ) (d begun : Doing) (turn : ServeTurn) → IsBetween d → TakesCommand bound received left d begun turn → Stands turn begun
takes_stands bound received left d begun (Ask asked) is takes = tt
takes_stands bound received left d begun (Done says_as.Idle) is takes = subst IsBetween (sym takes.3) is
takes_stands bound received left d begun (Done (says_as.Garbled kept)) is takes = subst IsBetween (sym takes.2) tt
takes_stands bound received left d begun (Done says_as.NoMemory) is takes = subst IsBetween (sym takes.1) tt
takes_stands bound received left d begun (Done other) is takes = absurd takes

begins_stands : (d : Doing) (received left : List ℕ) (begun : Doing) (turn : ServeTurn) → IsBetween d → Begins d received left begun turn → Stands turn begun
begins_stands New received left begun turn is begins = takes_stands None received left New begun turn tt begins
begins_stands (Ready caller) received left begun turn is begins = takes_stands (Some caller) received left (Ready caller) begun turn tt begins
begins_stands (Serving run work) received left begun turn is begins = subst (λ (x : ServeTurn). Stands x begun) (sym begins.0) tt
begins_stands Over received left begun turn is begins = subst (λ (x : ServeTurn). Stands x begun) (sym begins.0) (subst IsBetween (sym begins.2) tt)
begins_stands (Telling caller) received left begun turn is begins = absurd is
begins_stands (Starting run) received left begun turn is begins = absurd is
begins_stands Leaving received left begun turn is begins = absurd is

pub end_between : (on : Bool) (d t : Donor) (at new : Connection) (says : DonorStep) → StepsBy on gives d t at new says → IsBetween at.doing → IsBetween new.doing
end_between true d t at new says e is =
    let s = e.serves.steps.is in
    subst IsBetween (sym (doing_is gives d t at new says e))
    (goes_between e.serves.steps.exchanges s.begun e.serves.doing s.turn _ _ e.says (begins_stands at.doing at.to_donor e.serves.left s.begun s.turn is s.begins) s.goes)
end_between false d t at new says rests is = subst (λ (x : Connection). IsBetween x.doing) (sym rests.is) is
