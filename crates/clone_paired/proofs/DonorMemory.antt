-- AFTER A FAULT OR A LOSS a donor's end has sent nothing that reaches the task, and its loop is over.
use Rattle.std.proofs.Common.{ℕ, ◌≡◌, ◌∙◌, List, [], ◌∷◌, Bool, true, false, if◌then◌else◌, Option, None, Some, Ok, Err, Result, option_map, refl, sym, ap, subst, inl, inr}
use Rattle.std.specs.Bool.{⊤}
use Rattle.std.specs.Prelude.{not, ◌&&◌, ◌||◌}
use Rattle.std.specs.declared.alloc.AllocError.{AllocError}
use Rattle.clone_chunk.specs.declared.cause.CloneCause.{CloneCause}
use Rattle.clone_chunk.specs.declared.cause.CloneCause.TheVariants.{ArchiveBehind}
use Rattle.clone_session.specs.declared.caller.Caller.{Caller}
use Rattle.clone_session.specs.declared.info.StageInfo.{StageInfo}
use Rattle.clone_session.specs.declared.refusal.CloneRefusal.{CloneRefusal}
use Rattle.clone_session.specs.declared.refusal.CloneRefusal.TheVariants.{Because, NoMemory}
use Rattle.clone_wire.specs.declared.frame.Frame.{Frame}
use Rattle.clone_calls.specs.Answering.{archive_in, block_in, claim_in, execute_in, exit_in, kept_in, stage_in}
use Rattle.clone_calls.specs.declared.answer.DonorAnswer.{DonorAnswer}
use Rattle.clone_calls.specs.declared.block.Block.{Block}
use Rattle.clone_calls.specs.declared.block.Block.TheVariants as block
use Rattle.clone_calls.specs.declared.block.BlockRefusal.{BlockRefusal}
use Rattle.clone_calls.specs.declared.block.BlockRefusal.TheVariants as unread
use Rattle.clone_calls.specs.declared.call.DonorCall.{DonorCall}
use Rattle.clone_serve.specs.Following as following
use Rattle.clone_serve.specs.Following.{archived, call_in, claimed, left, read, says_sent, started, told, weighed}
use Rattle.clone_serve.specs.Serving.{Begins, Follows, GoesOn, TakesCommand, is_over, with_frame}
use Rattle.clone_serve.specs.Stepping.{Goes}
use Rattle.clone_serve.specs.Telling.{Exchange}
use Rattle.clone_serve.specs.declared.after.After.{After}
use Rattle.clone_serve.specs.declared.after.After.TheVariants.{Asks, Ends}
use Rattle.clone_serve.specs.declared.doing.Doing.{Doing}
use Rattle.clone_serve.specs.declared.doing.Doing.TheVariants as doing
use Rattle.clone_serve.specs.declared.doing.Execution.{Execution}
use Rattle.clone_serve.specs.declared.doing.Place.{Place}
use Rattle.clone_serve.specs.declared.doing.Work.{Work}
use Rattle.clone_serve.specs.declared.doing.Work.TheVariants.{Archive, Claim, Read, Weigh}
use Rattle.clone_serve.specs.declared.turn.ServeAnswer.{ServeAnswer}
use Rattle.clone_serve.specs.declared.turn.ServeAnswer.TheVariants as says
use Rattle.clone_serve.specs.declared.turn.ServeTurn.{ServeTurn}
use Rattle.clone_serve.specs.declared.turn.ServeTurn.TheVariants.{Ask, Done}
use Rattle.clone_network.specs.Connections.{Connection, StepsEnd, finds_loss, is_idle, is_open, is_serving, reaches_task, said_as, sent_behind, unread_then, was_refused}
use Rattle.clone_network.specs.declared.donor_step.DonorStep.{DonorStep}
use Rattle.clone_paired.specs.Closing.{Closes, IsFault}
use Rattle.clone_paired.proofs.DonorAwaiting.{unread_told}
use Rattle.clone_paired.proofs.DonorReads.{told_none}

-- ---- what follows an answer

-- after a fault nothing is sent, and it is over
abbrev Closed : After → Type 0
Closed (Asks run what) = ⊤
Closed (Ends next sends spoke) = IsFault spoke → (next ≡ doing.Over) × (sends ≡ None)

abbrev ClosedOf : Option After → Type 0
ClosedOf None = ⊤
ClosedOf (Some next) = Closed next

refused_closed : (caller : Caller) (why : CloneRefusal) → Closed (told caller (Err why))
refused_closed caller (Because why) = λ fault. absurd fault
refused_closed caller NoMemory = λ fault. (refl, refl)

told_closed : (caller : Caller) (got : Option (Result StageInfo CloneRefusal)) → ClosedOf (option_map (told caller) got)
told_closed caller None = tt
told_closed caller (Some (Ok info)) = λ fault. absurd fault
told_closed caller (Some (Err why)) = refused_closed caller why

started_closed : (run : Execution) (got : Option (Result ⊤ CloneCause)) → ClosedOf (option_map (started run) got)
started_closed run None = tt
started_closed run (Some (Ok done)) = λ fault. absurd fault
started_closed run (Some (Err why)) = λ fault. absurd fault

left_closed : (got : Option (Result ⊤ CloneCause)) → ClosedOf (option_map left got)
left_closed None = tt
left_closed (Some (Ok gone)) = λ fault. absurd fault
left_closed (Some (Err why)) = λ fault. absurd fault

claimed_closed : (run : Execution) (got : Option (Result (Option ℕ) CloneCause)) → ClosedOf (option_map (claimed run) got)
claimed_closed run None = tt
claimed_closed run (Some (Ok (Some chunk))) = tt
claimed_closed run (Some (Ok None)) = λ fault. absurd fault
claimed_closed run (Some (Err why)) = λ fault. absurd fault

weighed_closed : (run : Execution) (chunk : ℕ) (got : Option (Result ℕ CloneCause)) → ClosedOf (option_map (weighed run chunk) got)
weighed_closed run chunk None = tt
weighed_closed run chunk (Some (Ok kept)) = tt
weighed_closed run chunk (Some (Err why)) = λ fault. absurd fault

sent_faultless : (chunk number : ℕ) (b : Block) → IsFault (says_sent chunk number b) → ⊥
sent_faultless chunk number (block.Pages pages) fault = fault
sent_faultless chunk number (block.Redo from bytes) fault = fault

unread_closed : (run : Execution) (place : Place) (again : Bool) (why : BlockRefusal) → Closed (read run place again (Err why))
unread_closed run place true (unread.Clone (Because (ArchiveBehind reached until))) = λ fault. absurd fault
unread_closed run place false (unread.Clone (Because (ArchiveBehind reached until))) = tt
unread_closed run place again (unread.Clone (Because why)) = λ fault. absurd fault
unread_closed run place again (unread.Clone NoMemory) = λ fault. (refl, refl)
unread_closed run place again (unread.Engine why) = λ fault. (refl, refl)

read_closed : (run : Execution) (place : Place) (again : Bool) (got : Option (Result (Block × Bool) BlockRefusal)) → ClosedOf (option_map (read run place again) got)
read_closed run place again None = tt
read_closed run place again (Some (Ok got)) = λ fault. absurd (sent_faultless place.chunk place.block got.0 fault)
read_closed run place again (Some (Err why)) = unread_closed run place again why

archived_closed : (run : Execution) (place : Place) (got : Option (Result (Option ℕ) AllocError)) → ClosedOf (option_map (archived run place) got)
archived_closed run place None = tt
archived_closed run place (Some (Ok reached)) = tt
archived_closed run place (Some (Err e)) = λ fault. (refl, refl)

work_closed : (run : Execution) (what : Work) (given : DonorAnswer) → ClosedOf (following.work_done run what given)
work_closed run Claim given = claimed_closed run (claim_in given)
work_closed run (Weigh chunk) given = weighed_closed run chunk (kept_in given)
work_closed run (Read place again) given = read_closed run place again (block_in given)
work_closed run (Archive place limit) given = archived_closed run place (archive_in given)

after_closed : (d : Doing) (given : DonorAnswer) → ClosedOf (following.after d given)
after_closed (doing.Telling caller) given = told_closed caller (stage_in given)
after_closed (doing.Starting run) given = started_closed run (execute_in given)
after_closed doing.Leaving given = left_closed (exit_in given)
after_closed (doing.Serving run what) given = work_closed run what given
after_closed other given = tt

-- ---- a whole step

-- where it has ended with a fault it is over
abbrev Ended : Doing → ServeTurn → Type 0
Ended d turn = (given : ServeAnswer) → turn ≡ Done given → IsFault given → d ≡ doing.Over

last_says : (xs : List Exchange) (d after : Doing) (turn : ServeTurn) (so sn : List ℕ) (given spoke : ServeAnswer) → turn ≡ Done given → Goes xs d turn so sn after spoke → spoke ≡ given
last_says [] d after turn so sn given spoke is goes = let same : Done spoke ≡ Done given = sym goes.0 ∙ is in cc
last_says (x ∷ xs) d after turn so sn given spoke is goes = let wrong : Ask x.0 ≡ Done given = sym goes.0 ∙ is in absurd (cc)

module _ (sn : List ℕ) (after : Doing) (spoke : ServeAnswer) (fault : IsFault spoke) where
  abbrev Rest : List Exchange → Type 0
  Rest xs = (d : Doing) (turn : ServeTurn) (so : List ℕ) → Ended d turn → Goes xs d turn so sn after spoke → (sn ≡ so) × (after ≡ doing.Over)

  on_next : (xs : List Exchange) → Rest xs → (so sent : List ℕ) (mid : Doing) (turn : ServeTurn) (next : After) → Closed next → Follows next so sent mid turn → Goes xs mid turn sent sn after spoke → (sn ≡ so) × (after ≡ doing.Over)
  on_next xs rest so sent mid turn (Asks run what) closed f goes =
      let r = rest mid turn sent (λ given is bad. (let wrong : Ask (call_in run what) ≡ Done given = sym f.turns ∙ is in absurd (cc))) goes in
      (r.0 ∙ f.sends, r.1)
  on_next xs rest so sent mid turn (Ends next sends given) closed f goes =
      let same : spoke ≡ given = last_says xs mid after turn sent sn given spoke f.turns goes in
      let c : (next ≡ doing.Over) × (sends ≡ None) = closed (subst IsFault same fault) in
      let r = rest mid turn sent (λ other is bad. f.doing ∙ c.0) goes in
      (r.0 ∙ f.sends ∙ unsent sends c.1, r.1)
    where
      unsent : (sends : Option Frame) → sends ≡ None → with_frame sends so ≡ so
      unsent None is = refl
      unsent (Some frame) is = absurd (cc (is))

  goes_closed : (xs : List Exchange) → Rest xs
  goes_closed [] d turn so ended goes = (goes.1, goes.2 ∙ ended spoke goes.0 fault)
  goes_closed (x ∷ xs) d turn so ended (ask, (mid, sent, next, on, more)) = by (goes_closed xs) on
    where
      by : Rest xs → GoesOn d x.1 so sent mid next → (sn ≡ so) × (after ≡ doing.Over)
      by rest (inl (found, is, f)) = on_next xs rest so sent mid next found (subst ClosedOf is (after_closed d x.1)) f more
      by rest (inr fails) = let r = rest mid next sent (λ given e bad. fails.doing) more in (r.0 ∙ fails.sends, r.1)

takes_ended : (bound : Option Caller) (received rest : List ℕ) (d begun : Doing) (turn : ServeTurn) → TakesCommand bound received rest d begun turn → Ended begun turn
takes_ended bound received rest d begun (Ask asked) takes given is fault = absurd (cc (is))
takes_ended bound received rest d begun (Done says.Idle) takes given is fault = let e : given ≡ says.Idle = cc (is) in absurd (subst IsFault e fault)
takes_ended bound received rest d begun (Done (says.Garbled kept)) takes given is fault = let e : given ≡ says.Garbled kept = cc (is) in absurd (subst IsFault e fault)
takes_ended bound received rest d begun (Done says.NoMemory) takes given is fault = takes.1
takes_ended bound received rest d begun (Done other) takes given is fault = absurd takes

begins_ended : (d : Doing) (received rest : List ℕ) (begun : Doing) (turn : ServeTurn) → Begins d received rest begun turn → Ended begun turn
begins_ended doing.New received rest begun turn begins given is fault = takes_ended None received rest doing.New begun turn begins given is fault
begins_ended (doing.Ready caller) received rest begun turn begins given is fault = takes_ended (Some caller) received rest (doing.Ready caller) begun turn begins given is fault
begins_ended (doing.Serving run what) received rest begun turn begins given is fault = let wrong : Ask (call_in run what) ≡ Done given = sym begins.0 ∙ is in absurd (cc)
begins_ended other received rest begun turn begins given is fault = let same : Done says.Idle ≡ Done given = sym begins.0 ∙ is in let e : given ≡ says.Idle = cc in absurd (subst IsFault e fault)

pub shut : (lost : Bool) (d : Doing) → d ≡ doing.Over → (not lost && not (is_over d)) ≡ false
shut true d is = refl
shut false d is = ap (λ (y : Doing). not (is_over y)) is

-- where a loss is found nothing reaches the task
unreached : (serving cut held refused idle : Bool) → (if serving then cut && not refused else idle && (cut || not held)) ≡ true → (held && not cut) ≡ false
unreached serving true true refused idle is = refl
unreached serving true false refused idle is = refl
unreached serving false false refused idle is = refl
unreached true false true refused idle is = absurd (cc (is))
unreached false false true refused true is = absurd (cc (is))
unreached false false true refused false is = absurd (cc (is))

-- THE CONNECTION is closed, and what was sent lies unread still.
pub record Shuts (at after : Connection) : Type 0 where
  pub held : after.held ≡ at.held
  pub cut : after.cut ≡ at.cut
  pub to_task : after.to_task ≡ at.to_task
  pub over : is_open after ≡ false

module _ {A : Type 0} (gives : A → DonorCall → DonorAnswer → A → Type 0) (a b : A) (at after : Connection) (answer : DonorStep) (e : StepsEnd gives a b at after answer) where
  pub after_is : after ≡ record at { to_donor = e.serves.left; to_task = unread_then (reaches_task at) at.to_task e.serves.sent; doing = e.serves.doing; found_lost = finds_loss at e.says }
  after_is = e.is ∙ ap (λ (c : Connection). record c { found_lost = finds_loss at e.says }) e.serves.is

  -- a fault
  module _ (fault : IsFault e.says) where
    closed : (e.serves.sent ≡ sent_behind (reaches_task at) at.to_task) × (e.serves.doing ≡ doing.Over)
    closed =
        let s = e.serves.steps.is in
        goes_closed e.serves.sent e.serves.doing e.says fault e.serves.steps.exchanges s.begun s.turn (sent_behind (reaches_task at) at.to_task) (begins_ended at.doing at.to_donor e.serves.left s.begun s.turn s.begins) s.goes

    fault_shuts : Shuts at after
    fault_shuts = record {
      held = ap (λ (c : Connection). c.held) after_is;
      cut = ap (λ (c : Connection). c.cut) after_is;
      to_task = ap (λ (c : Connection). c.to_task) after_is ∙ ap (unread_then (reaches_task at) at.to_task) closed.0 ∙ unread_told (reaches_task at) None at.to_task ∙ told_none (reaches_task at) at.to_task;
      over = shut after.found_lost after.doing (ap (λ (c : Connection). c.doing) after_is ∙ closed.1);
    }

  -- a loss
  lost_shuts : finds_loss at e.says ≡ true → Shuts at after
  lost_shuts lost = record {
    held = ap (λ (c : Connection). c.held) after_is;
    cut = ap (λ (c : Connection). c.cut) after_is;
    to_task = ap (λ (c : Connection). c.to_task) after_is ∙ ap (λ (b : Bool). unread_then b at.to_task e.serves.sent) (unreached (is_serving at.doing) at.cut at.held (was_refused e.says) (is_idle e.says) lost);
    over = ap (λ (b : Bool). not b && not (is_over after.doing)) (ap (λ (c : Connection). c.found_lost) after_is ∙ lost);
  }

  pub shuts : Closes answer → Shuts at after
  shuts closes = by (finds_loss at e.says) refl (subst Closes e.answers closes)
    where
      by : (lost : Bool) → finds_loss at e.says ≡ lost → Closes (said_as lost e.says) → Shuts at after
      by true lost is = lost_shuts lost
      by false lost is = fault_shuts is
