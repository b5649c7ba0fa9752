-- A step of a donor's end says that the donor's disk failed only where its count of faults rose.
use Rattle.std.proofs.Common.{ℕ, ◌≡◌, ◌≤◌, ◌∙◌, ◌∷◌, [], List, Bool, true, false, Option, None, Some, Result, Ok, Err, option_map, refl, sym, ap, subst, arith, inl, inr}
use Rattle.std.specs.Bool.{⊤}
use Rattle.std.proofs.lemmas.Bool.{true≢false}
use Rattle.std.specs.declared.alloc.AllocError.{AllocError}
use Rattle.clone_outside.specs.Causes.{Rose}
use Rattle.clone_chunk.specs.declared.cause.CloneCause.{CloneCause}
use Rattle.clone_chunk.specs.declared.cause.CloneCause.TheVariants.{ArchiveBehind}
use Rattle.clone_session.specs.declared.caller.Caller.{Caller}
use Rattle.clone_session.specs.declared.info.StageInfo.{StageInfo}
use Rattle.clone_session.specs.declared.refusal.CloneRefusal.{CloneRefusal}
use Rattle.clone_session.specs.declared.refusal.CloneRefusal.TheVariants.{Because, NoMemory}
use Rattle.clone_plain.specs.declared.refusal.EngineRefusal.TheVariants as engine
use Rattle.clone_calls.specs.Answering.{archive_in, block_in, claim_in, execute_in, exit_in, kept_in, stage_in}
use Rattle.clone_calls.specs.declared.answer.DonorAnswer.{DonorAnswer}
use Rattle.clone_calls.specs.declared.answer.DonorAnswer.TheVariants as answer
use Rattle.clone_calls.specs.declared.block.Block.{Block}
use Rattle.clone_calls.specs.declared.block.Block.TheVariants as block
use Rattle.clone_calls.specs.declared.block.BlockRefusal.TheVariants as unread
use Rattle.clone_calls.specs.declared.call.DonorCall.{DonorCall}
use Rattle.clone_calls.specs.declared.call.DonorCall.TheVariants as call
use Rattle.clone_serve.specs.Following.{after, archived, claimed, left, read, started, told, weighed}
use Rattle.clone_serve.specs.Serving.{Begins, GoesOn, TakesCommand, turn_after}
use Rattle.clone_serve.specs.Stepping.{GivesAll, Goes}
use Rattle.clone_serve.specs.Telling.{Exchange}
use Rattle.clone_serve.specs.declared.after.After.{After}
use Rattle.clone_serve.specs.declared.after.After.TheVariants.{Asks, Ends}
use Rattle.clone_serve.specs.declared.doing.Doing.{Doing}
use Rattle.clone_serve.specs.declared.doing.Doing.TheVariants as doing
use Rattle.clone_serve.specs.declared.doing.Execution.{Execution}
use Rattle.clone_serve.specs.declared.doing.Place.{Place}
use Rattle.clone_serve.specs.declared.doing.Work.{Work}
use Rattle.clone_serve.specs.declared.doing.Work.TheVariants as work
use Rattle.clone_serve.specs.declared.turn.ServeAnswer.{ServeAnswer}
use Rattle.clone_serve.specs.declared.turn.ServeAnswer.TheVariants as served
use Rattle.clone_serve.specs.declared.turn.ServeTurn.{ServeTurn}
use Rattle.clone_serve.specs.declared.turn.ServeTurn.TheVariants.{Ask, Done}
use Rattle.clone_network.specs.Connections.{Connection, StepsEnd, finds_loss, reaches_task, said_as, sent_behind}
use Rattle.clone_network.specs.declared.donor_step.DonorStep.{DonorStep}
use Rattle.clone_network.specs.declared.donor_step.DonorStep.TheVariants as step
use Rattle.clone_engine.specs.Answering.{Answered}
use Rattle.clone_engine.specs.Donor.{Donor}
use Rattle.clone_told.specs.Told.{gives}
use Rattle.clone_joined.proofs.LendingLemmas.{AreOfClone, call_lends, end_calls}

-- ---- WHAT FOLLOWS AN ANSWER is a fault of the disk only where a block couldn't be read

abbrev is_fault : After → Bool
is_fault (Ends next sends served.DiskFault) = true
is_fault other = false

-- the engine couldn't read a block
abbrev IsUnread : DonorAnswer → Type 0
IsUnread (answer.ReadBlock (Err (unread.Engine why))) = ⊤
IsUnread other = ⊥

abbrev May : Option After → DonorAnswer → Type 0
May None given = ⊤
May (Some next) given = is_fault next ≡ true → IsUnread given

told_may : (caller : Caller) (given : DonorAnswer) (o : Option (Result StageInfo CloneRefusal)) → May (option_map (told caller) o) given
told_may caller given None = tt
told_may caller given (Some (Ok info)) = λ is. absurd (true≢false (sym is))
told_may caller given (Some (Err (Because why))) = λ is. absurd (true≢false (sym is))
told_may caller given (Some (Err NoMemory)) = λ is. absurd (true≢false (sym is))

started_may : (run : Execution) (given : DonorAnswer) (o : Option (Result ⊤ CloneCause)) → May (option_map (started run) o) given
started_may run given None = tt
started_may run given (Some (Ok x)) = λ is. absurd (true≢false (sym is))
started_may run given (Some (Err why)) = λ is. absurd (true≢false (sym is))

left_may : (given : DonorAnswer) (o : Option (Result ⊤ CloneCause)) → May (option_map left o) given
left_may given None = tt
left_may given (Some (Ok x)) = λ is. absurd (true≢false (sym is))
left_may given (Some (Err why)) = λ is. absurd (true≢false (sym is))

claimed_may : (run : Execution) (given : DonorAnswer) (o : Option (Result (Option ℕ) CloneCause)) → May (option_map (claimed run) o) given
claimed_may run given None = tt
claimed_may run given (Some (Ok (Some chunk))) = λ is. absurd (true≢false (sym is))
claimed_may run given (Some (Ok None)) = λ is. absurd (true≢false (sym is))
claimed_may run given (Some (Err why)) = λ is. absurd (true≢false (sym is))

weighed_may : (run : Execution) (chunk : ℕ) (given : DonorAnswer) (o : Option (Result ℕ CloneCause)) → May (option_map (weighed run chunk) o) given
weighed_may run chunk given None = tt
weighed_may run chunk given (Some (Ok kept)) = λ is. absurd (true≢false (sym is))
weighed_may run chunk given (Some (Err why)) = λ is. absurd (true≢false (sym is))

archived_may : (run : Execution) (place : Place) (given : DonorAnswer) (o : Option (Result (Option ℕ) AllocError)) → May (option_map (archived run place) o) given
archived_may run place given None = tt
archived_may run place given (Some (Ok reached)) = λ is. absurd (true≢false (sym is))
archived_may run place given (Some (Err e)) = λ is. absurd (true≢false (sym is))

says_served : (place : Place) (given : Block × Bool) (run : Execution) (again : Bool) → is_fault (read run place again (Ok given)) ≡ false
says_served place (block.Pages pages, last) run again = refl
says_served place (block.Redo from bytes, last) run again = refl

refused_may : (run : Execution) (place : Place) (again : Bool) (why : CloneRefusal) → is_fault (read run place again (Err (unread.Clone why))) ≡ false
refused_may run place true (Because (ArchiveBehind reached until)) = refl
refused_may run place false (Because (ArchiveBehind reached until)) = refl
refused_may run place again (Because other) = refl
refused_may run place again NoMemory = refl

read_may : (run : Execution) (place : Place) (again : Bool) (given : DonorAnswer) → May (option_map (read run place again) (block_in given)) given
read_may run place again (answer.ReadBlock (Ok given)) = λ is. absurd (true≢false (sym is ∙ says_served place given run again))
read_may run place again (answer.ReadBlock (Err (unread.Clone why))) = λ is. absurd (true≢false (sym is ∙ refused_may run place again why))
read_may run place again (answer.ReadBlock (Err (unread.Engine why))) = λ is. tt
read_may run place again other = tt

work_may : (run : Execution) (w : Work) (given : DonorAnswer) → May (after (doing.Serving run w) given) given
work_may run work.Claim given = claimed_may run given (claim_in given)
work_may run (work.Weigh chunk) given = weighed_may run chunk given (kept_in given)
work_may run (work.Read place again) given = read_may run place again given
work_may run (work.Archive place limit) given = archived_may run place given (archive_in given)

after_may : (d : Doing) (given : DonorAnswer) → May (after d given) given
after_may (doing.Telling caller) given = told_may caller given (stage_in given)
after_may (doing.Starting run) given = started_may run given (execute_in given)
after_may doing.Leaving given = left_may given (exit_in given)
after_may (doing.Serving run w) given = work_may run w given
after_may other given = tt

-- so is the turn that follows
abbrev faults : ServeTurn → Bool
faults (Ask asked) = false
faults (Done served.DiskFault) = true
faults (Done other) = false

turn_faults : (next : After) → faults (turn_after next) ≡ is_fault next
turn_faults (Asks run w) = refl
turn_faults (Ends d sends served.DiskFault) = refl
turn_faults (Ends d sends other) = refl

next_unread : (d t : Doing) (given : DonorAnswer) (old new : List ℕ) (turn : ServeTurn) → GoesOn d given old new t turn → faults turn ≡ true → IsUnread given
next_unread d t given old new turn (inl (next, is, follows)) fault =
    subst (λ (o : Option After). May o given) is (after_may d given) (sym (turn_faults next) ∙ sym (ap faults follows.turns) ∙ fault)
next_unread d t given old new turn (inr fails) fault = absurd (true≢false (sym fault ∙ ap faults fails.says))

-- a step doesn't begin by one
takes_none : (bound : Option Caller) (received rest : List ℕ) (d t : Doing) (turn : ServeTurn) → TakesCommand bound received rest d t turn → faults turn ≡ false
takes_none bound received rest d t (Ask asked) takes = refl
takes_none bound received rest d t (Done served.Idle) takes = refl
takes_none bound received rest d t (Done (served.Garbled kept)) takes = refl
takes_none bound received rest d t (Done served.NoMemory) takes = refl
takes_none bound received rest d t (Done other) takes = absurd takes

begins_none : (d : Doing) (received rest : List ℕ) (t : Doing) (turn : ServeTurn) → Begins d received rest t turn → faults turn ≡ false
begins_none doing.New received rest t turn begins = takes_none None received rest doing.New t turn begins
begins_none (doing.Ready caller) received rest t turn begins = takes_none (Some caller) received rest (doing.Ready caller) t turn begins
begins_none (doing.Serving run w) received rest t turn begins = ap faults begins.0
begins_none d received rest t turn begins = ap faults begins.0

-- ---- THE COUNT ROSE

unread_rose : (asked : DonorCall) (given : DonorAnswer) (d t : Donor) → IsUnread given → Answered asked given d t → Rose d.engine.disk.failures t.engine.disk.failures
unread_rose (call.ReadBlock caller stage chunk number) (answer.ReadBlock (Err (unread.Engine (engine.Because cause)))) d t is did = did.1
unread_rose (call.ReadBlock caller stage chunk number) (answer.ReadBlock (Err (unread.Engine engine.NoMemory))) d t is did = absurd did
unread_rose (call.ReadBlock caller stage chunk number) given d t is did = absurd is
unread_rose asked (answer.ReadBlock given) d t is did = absurd did
unread_rose asked given d t is did = absurd is

rose_wider : (a b c : ℕ) → a ≤ b → Rose b c → Rose a c
rose_wider a b c before rose = omega (arith, before, rose)

over_now : (exchanges : List Exchange) (d t : Doing) (turn : ServeTurn) (old new : List ℕ) → faults turn ≡ true → Goes exchanges d turn old new t served.DiskFault → exchanges ≡ []
over_now [] d t turn old new fault goes = refl
over_now (x ∷ xs) d t turn old new fault goes = absurd (true≢false (sym fault ∙ ap faults goes.0))

calls_rose : (exchanges : List Exchange) (begun last : Doing) (turn : ServeTurn) (old new : List ℕ) (d t : Donor) → faults turn ≡ false → AreOfClone exchanges → Goes exchanges begun turn old new last served.DiskFault → GivesAll gives d exchanges t
    → Rose d.engine.disk.failures t.engine.disk.failures
calls_rose [] begun last turn old new d t none own goes answers = absurd (true≢false (sym (ap faults goes.0) ∙ none))
calls_rose (x ∷ xs) begun last turn old new d t none own (is, (mid, sent, next, on, rest)) (u, acts, answers) =
    by (faults next) refl (λ more. calls_rose xs mid last next sent new u t more own.1 rest answers)
  where
    by : (b : Bool) → faults next ≡ b → (faults next ≡ false → Rose u.engine.disk.failures t.engine.disk.failures) → Rose d.engine.disk.failures t.engine.disk.failures
    by true fault later =
        let ended : u ≡ t = sym (subst (λ (l : List Exchange). GivesAll gives u l t) (over_now xs mid last next sent new fault rest) answers) in
        subst (λ (v : Donor). Rose d.engine.disk.failures v.engine.disk.failures) ended (unread_rose x.0 x.1 d u (next_unread begun mid x.1 old sent next on fault) acts.does)
    by false more later = rose_wider d.engine.disk.failures u.engine.disk.failures t.engine.disk.failures (call_lends d u x.0 x.1 own.0 acts.does).disk.later (later more)

-- what a step serves is its answer, where it finds no loss
said_served : (lost : Bool) (says : ServeAnswer) (given : ServeAnswer) → said_as lost says ≡ step.Served given → says ≡ given
said_served true says given is = absurd (cc)
said_served false says given is = cc

pub end_fault : (d t : Donor) (at after_at : Connection) (says : DonorStep) → StepsEnd gives d t at after_at says → says ≡ step.Served served.DiskFault → Rose d.engine.disk.failures t.engine.disk.failures
end_fault d t at after_at says e fault =
    let s = e.serves.steps in
    let is : e.says ≡ served.DiskFault = said_served (finds_loss at e.says) e.says served.DiskFault (sym e.answers ∙ fault) in
    calls_rose s.exchanges s.is.begun e.serves.doing s.is.turn (sent_behind (reaches_task at) at.to_task) e.serves.sent d t (begins_none at.doing at.to_donor e.serves.left s.is.begun s.is.turn s.is.begins) (end_calls d t at after_at says e)
    (subst (λ (x : ServeAnswer). Goes s.exchanges s.is.begun s.is.turn (sent_behind (reaches_task at) at.to_task) e.serves.sent e.serves.doing x) is s.is.goes) s.answers
