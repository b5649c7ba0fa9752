-- A step of a task leaves less to do, or it changes nothing.
use Rattle.std.proofs.Common.{ℕ, ◌≡◌, ◌≢◌, ◌∙◌, ◌+◌, ◌<◌, ◌≤◌, Bool, true, false, List, Option, None, Some, ◌⊎◌, inl, inr, refl, ap, subst, sym, arith}
use Rattle.std.proofs.lemmas.Bool.{cases_Bool, both_ways, ltb-false}
use Rattle.clone_outside.specs.Disk.{DiskImage}
use Rattle.clone_outside.specs.DiskCalls.{DiskState}
use Rattle.clone_chunk.specs.declared.cause.CloneCause.{CloneCause}
use Rattle.clone_wire.specs.declared.frame.Frame.{Frame}
use Rattle.clone_wire.specs.Spelling.{spelling}
use Rattle.clone_tasks.specs.Losing.{after_loss, counted_table, is_spent}
use Rattle.clone_tasks.specs.Rules.{rule_at}
use Rattle.clone_tasks.specs.Sending.{after_sending}
use Rattle.clone_tasks.specs.Tables.{IsBounded, Table, awaits, is_apart, is_done, is_ready, is_running, standing_of}
use Rattle.clone_tasks.specs.declared.end.CloneEnd.{CloneEnd}
use Rattle.clone_tasks.specs.declared.rule.Link.{Link}
use Rattle.clone_tasks.specs.declared.rule.Link.TheVariants.{Absent}
use Rattle.clone_tasks.specs.declared.rule.Rule.{Rule}
use Rattle.clone_tasks.specs.declared.rule.Rule.TheVariants as rule
use Rattle.clone_tasks.specs.declared.standing.Phase.{Phase}
use Rattle.clone_tasks.specs.declared.standing.Phase.TheVariants.{Opening, Copying, Done}
use Rattle.clone_tasks.specs.declared.standing.Standing.{Standing}
use Rattle.clone_tasks.specs.declared.standing.Standing.TheVariants.{Apart, Joining, Ready, Fetching, Served, Acknowledging}
use Rattle.clone_recipient.specs.Receptions.{Reception}
use Rattle.clone_fetch.specs.Fetching as fetch
use Rattle.clone_fetch.specs.Fetching.{Breaks, Completes, PutsOut, Receives, Requester, StepsBy, TakesFrame, ended_as, loss_says, refusal_in, requester, says_of, with_loss, with_sent}
use Rattle.clone_fetch.specs.declared.answer.TaskAnswer.{TaskAnswer}
use Rattle.clone_fetch.specs.declared.answer.TaskAnswer.TheVariants as says
use Rattle.clone_network.specs.Connections.{link_over}
use Rattle.clone_network.specs.Networks.{Network, StepsTask}
use Rattle.clone_network.specs.Networks as network
use Rattle.clone_ending.specs.Left.{left_in, rounds_left, work_left}
use Rattle.clone_ending.proofs.RuleLemmas.{Applies, HasPart, applies}
use Rattle.clone_ending.proofs.TakenLemmas.{stands_less, takes_less}
use Rattle.clone_ending.proofs.WorkLemmas.{ended_less, is_there, rounds_less}

-- nothing was to be done
abbrev pub is_quiet : TaskAnswer → Bool
is_quiet says.Idle = true
is_quiet says.Stale = true
is_quiet (says.Sent code) = false
is_quiet (says.Took took) = false
is_quiet (says.Lost losses) = false
is_quiet (says.Ended how) = false
is_quiet says.NoMemory = false

-- WHAT COMES OF A STEP
pub data Outcome (r s : Reception) (answer : TaskAnswer) : Type 0 where
  less : (IsBounded r.table → IsBounded s.table → work_left s.table < work_left r.table) → is_quiet answer ≡ false → Outcome r s answer
  rests : s ≡ r → is_quiet answer ≡ true → Outcome r s answer
  lacks : s.table ≡ r.table → answer ≡ says.NoMemory → Outcome r s answer

-- ---- the clone ends

ends : (r s x : Reception) (answer : TaskAnswer) (how : CloneEnd) → is_running r.table ≡ true → s ≡ ended_as how x → answer ≡ says.Ended how → Outcome r s answer
ends r s x answer how runs is heard =
    less (λ b c. ended_less r.table s.table runs (ap (λ (y : Reception). is_running y.table) is)) (ap is_quiet heard)

breaks_off : (bytes : List ℕ) (r s : Reception) (answer : TaskAnswer) → is_running r.table ≡ true → Breaks bytes r s answer → Outcome r s answer
breaks_off bytes r s answer runs (fetch.breaks kept is ended heard) = ends r s r answer _ runs ended heard
breaks_off bytes r s answer runs (fetch.not_kept same heard) = lacks (ap (λ (x : Reception). x.table) same) heard

completes_so : (r s : Reception) (told now : Option DiskImage) (sent put : List ℕ) (answer : TaskAnswer) → is_running r.table ≡ true → Completes r s told now sent put answer → Outcome r s answer
completes_so r s told now sent put answer runs (fetch.completes last is steps ended puts heard) = ends r s (record r { synced = true }) answer _ runs ended heard
completes_so r s told now sent put answer runs (fetch.not_completed last is steps ended puts heard) = ends r s r answer _ runs ended heard
completes_so r s told now sent put answer runs (fetch.not_marked last is steps same puts heard) = lacks (ap (λ (x : Reception). x.table) same) heard
completes_so r s told now sent put answer runs (fetch.not_left last is steps same puts heard) = lacks (ap (λ (x : Reception). x.table) same) heard

-- ---- a frame is put out

apart_is : (standing : Standing) → is_apart standing ≡ true → standing ≡ Apart
apart_is Apart apart = refl
apart_is Joining apart = absurd (cc)
apart_is Ready apart = absurd (cc)
apart_is Fetching apart = absurd (cc)
apart_is Served apart = absurd (cc)
apart_is Acknowledging apart = absurd (cc)

ready_is : (standing : Standing) → is_ready standing ≡ true → standing ≡ Ready
ready_is Apart ready = absurd (cc)
ready_is Joining ready = absurd (cc)
ready_is Ready ready = refl
ready_is Fetching ready = absurd (cc)
ready_is Served ready = absurd (cc)
ready_is Acknowledging ready = absurd (cc)

connects_less : (phase : Phase) → is_done phase ≡ false → left_in phase Joining < left_in phase Apart
connects_less Opening on = omega arith
connects_less (Copying stage) on = omega arith
connects_less Done on = absurd (cc)

asks_less : (phase : Phase) → is_done phase ≡ false → left_in phase Fetching < left_in phase Ready
asks_less Opening on = omega arith
asks_less (Copying stage) on = omega arith
asks_less Done on = absurd (cc)

acknowledges_in : (standing : Standing) (phase : Phase) → is_done phase ≡ false → is_apart standing ≡ false → awaits standing ≡ false → left_in phase Acknowledging < left_in phase standing
acknowledges_in standing Done on stands still = absurd (cc)
acknowledges_in Apart Opening on stands still = absurd (cc)
acknowledges_in Joining Opening on stands still = absurd (cc)
acknowledges_in Ready Opening on stands still = omega arith
acknowledges_in Fetching Opening on stands still = absurd (cc)
acknowledges_in Served Opening on stands still = omega arith
acknowledges_in Acknowledging Opening on stands still = absurd (cc)
acknowledges_in Apart (Copying stage) on stands still = absurd (cc)
acknowledges_in Joining (Copying stage) on stands still = absurd (cc)
acknowledges_in Ready (Copying stage) on stands still = omega arith
acknowledges_in Fetching (Copying stage) on stands still = absurd (cc)
acknowledges_in Served (Copying stage) on stands still = omega arith
acknowledges_in Acknowledging (Copying stage) on stands still = absurd (cc)

-- the rules by which a task only sends
abbrev is_sending : Rule → Bool
is_sending rule.Nothing = false
is_sending rule.Stale = false
is_sending rule.Receive = false
is_sending rule.Complete = false
is_sending rule.Connect = true
is_sending (rule.Acknowledge stage) = true
is_sending (rule.Execute stage) = true

sending_less : (which : Rule) (t : Table) (task floor : ℕ) → is_sending which ≡ true → Applies which t task → IsBounded t → work_left (after_sending which t task floor) < work_left t
sending_less rule.Nothing t task floor is known b = absurd (cc)
sending_less rule.Stale t task floor is known b = absurd (cc)
sending_less rule.Receive t task floor is known b = absurd (cc)
sending_less rule.Complete t task floor is known b = absurd (cc)
sending_less rule.Connect t task floor is (part, on, apart) b =
    let places = b.places in
    let tasks = b.tasks in
    let there = part.there in
    let from = apart_is (standing_of t task) apart in
    let one : left_in t.phase Joining < left_in t.phase (standing_of t task) = rw from (connects_less t.phase on) in
    stands_less t (after_sending rule.Connect t task floor) task Joining part.runs refl refl refl refl refl (omega (arith, places, tasks, there)) one
sending_less (rule.Acknowledge stage) t task floor is (part, on, stands, still) b =
    stands_less t (after_sending (rule.Acknowledge stage) t task floor) task Acknowledging part.runs refl refl refl refl refl (is_there t.standings task stands) (acknowledges_in (standing_of t task) t.phase on stands still)
sending_less (rule.Execute stage) t task floor is (part, on, ready) b =
    let from = ready_is (standing_of t task) ready in
    let one : left_in t.phase Fetching < left_in t.phase (standing_of t task) = rw from (asks_less t.phase on) in
    stands_less t (after_sending (rule.Execute stage) t task floor) task Fetching part.runs refl refl refl refl refl (is_there t.standings task (ap is_apart from)) one

sent_less : (which : Rule) (r s : Reception) (task floor : ℕ) → is_sending which ≡ true → Applies which r.table task → s ≡ with_sent which task floor r → IsBounded r.table → work_left s.table < work_left r.table
sent_less which r s task floor is known after b =
    let same : s.table ≡ after_sending which r.table task floor = ap (λ (x : Reception). x.table) after in
    subst (λ (x : Table). work_left x < work_left r.table) (sym same) (sending_less which r.table task floor is known b)

puts_out : (which : Rule) (task floor : ℕ) (r s : Reception) (sent put : List ℕ) (answer : TaskAnswer) → is_sending which ≡ true → Applies which r.table task → PutsOut which task floor r s sent put answer → Outcome r s answer
puts_out which task floor r s sent put answer is known (fetch.puts next of sends after out heard) = less (λ b c. sent_less which r s task floor is known after b) (ap is_quiet heard)
puts_out which task floor r s sent put answer is known (fetch.no_frame same out heard) = lacks (ap (λ (x : Reception). x.table) same) heard
puts_out which task floor r s sent put answer is known (fetch.no_bytes after out heard) = less (λ b c. sent_less which r s task floor is known after b) (ap is_quiet heard)

-- ---- an answer is awaited

took_says : (cause : Option CloneCause) (got : Frame) → is_quiet (says_of cause got) ≡ false
took_says None got = refl
took_says (Some cause) got = refl

loss_heard : (t : Table) → is_quiet (loss_says t) ≡ false
loss_heard t =
    elim (cases_Bool (is_spent t)) [
      | inl spent ↦ rw spent refl
      | inr more ↦ rw more refl
    ]

loss_less : (t : Table) → is_running t ≡ true → IsBounded (counted_table (after_loss t)) → work_left (counted_table (after_loss t)) < work_left t
loss_less t runs b =
    let after = after_loss t in
    elim (cases_Bool (is_spent after)) [
      | inl spent ↦
          let ended : is_running (counted_table after) ≡ false = rw spent refl in
          ended_less t (counted_table after) runs ended
      | inr more ↦
          let same : counted_table after ≡ after = rw more refl in
          let within : t.losses + 1 ≤ t.limit = ltb-false t.limit (t.losses + 1) more in
          let fewer : rounds_left after < rounds_left t = omega (arith, within) in
          subst (λ (x : Table). work_left x < work_left t) (sym same) (rounds_less t after runs (λ on. fewer) (subst IsBounded same b))
    ]

takes_frame : (task : ℕ) (got : Frame) (r s : Reception) (before after : DiskState) (answer : TaskAnswer) → HasPart r.table task → TakesFrame task got r s before after answer → Outcome r s answer
takes_frame task got r s before after answer part (fetch.accepts expected takes heard) =
    less (λ b c. takes_less r s task got before.told after.told part c expected takes) (ap is_quiet heard ∙ took_says (refusal_in got) got)
takes_frame task got r s before after answer part (fetch.rejects other broke same) = breaks_off (spelling got) r s answer part.runs broke
takes_frame task got r s before after answer part (fetch.not_laid expected keeps ended heard) = ends r s (record r { sizes = s.sizes }) answer _ part.runs ended heard
takes_frame task got r s before after answer part (fetch.no_room expected keeps same heard) = lacks (ap (λ (x : Reception). x.table) same) heard

receives : (task : ℕ) (at : Link) (r s : Reception) (before after : DiskState) (received left : List ℕ) (answer : TaskAnswer) → HasPart r.table task → Receives task at r s before after received left answer → Outcome r s answer
receives task at r s before after received left answer part (fetch.takes got of is takes) = takes_frame task got r s before after answer part takes
receives task at r s before after received left answer part (fetch.garbled lost broke disk same) = breaks_off received r s answer part.runs broke
receives task at r s before after received left answer part (fetch.loses is partial lost disk same heard) =
    let table : s.table ≡ counted_table (after_loss r.table) = ap (λ (x : Reception). x.table) lost in
    less (λ b c. subst (λ (x : Table). work_left x < work_left r.table) (sym table) (loss_less r.table part.runs (subst IsBounded table c))) (ap is_quiet heard ∙ loss_heard (after_loss r.table))
receives task at r s before after received left answer part (fetch.waits is partial same disk left_same heard) = rests same (ap is_quiet heard)
receives task at r s before after received left answer part (fetch.not_read same disk left_same heard) = lacks (ap (λ (x : Reception). x.table) same) heard

-- ---- by the rule
steps_so : (which : Rule) (at : Link) (task floor : ℕ) (old new : Requester) (answer : TaskAnswer) → Applies which old.reception.table task → StepsBy which at task floor old new answer → Outcome old.reception new.reception answer
steps_so rule.Nothing at task floor old new answer known (same, heard) = rests (ap (λ (x : Requester). x.reception) same) (ap is_quiet heard)
steps_so rule.Stale at task floor old new answer known (same, heard) = rests (ap (λ (x : Requester). x.reception) same) (ap is_quiet heard)
steps_so rule.Connect at task floor old new answer known steps = puts_out rule.Connect task floor old.reception new.reception old.sent new.sent answer refl known steps.0
steps_so (rule.Acknowledge stage) at task floor old new answer known steps = puts_out (rule.Acknowledge stage) task floor old.reception new.reception old.sent new.sent answer refl known steps.0
steps_so (rule.Execute stage) at task floor old new answer known steps = puts_out (rule.Execute stage) task floor old.reception new.reception old.sent new.sent answer refl known steps.0
steps_so rule.Receive at task floor old new answer known steps = receives task at old.reception new.reception old.disk new.disk old.received new.received answer known steps.0
steps_so rule.Complete at task floor old new answer known steps = completes_so old.reception new.reception old.disk.told new.disk.told old.sent new.sent answer known.runs steps.0

pub step_outcome : (r s : Reception) (d e : DiskState) (n m : Network) (task floor : ℕ) (answer : TaskAnswer) → StepsTask task floor r s d e n m answer → Outcome r s answer
step_outcome r s d e n m task floor answer (network.over seat number at after made here has there f is) =
    steps_so (rule_at seat.made r.table task (link_over at)) (link_over at) task floor _ _ answer (applies seat.made r.table task (link_over at)) f.steps
step_outcome r s d e n m task floor answer (network.apart seat after connections here has c is) =
    steps_so (rule_at seat.made r.table task Absent) Absent task floor _ _ answer (applies seat.made r.table task Absent) c.steps
step_outcome r s d e n m task floor answer (network.absent here same heard) = rests same.reception (ap is_quiet heard)
step_outcome r s d e n m task floor answer (network.no_room same heard) = lacks (ap (λ (x : Reception). x.table) same.reception) heard

-- ---- the laws

quiet_is : (answer : TaskAnswer) → is_quiet answer ≡ true → (answer ≡ says.Idle) ⊎ (answer ≡ says.Stale)
quiet_is says.Idle quiet = inl refl
quiet_is says.Stale quiet = inr refl
quiet_is (says.Sent code) quiet = absurd (cc)
quiet_is (says.Took took) quiet = absurd (cc)
quiet_is (says.Lost losses) quiet = absurd (cc)
quiet_is (says.Ended how) quiet = absurd (cc)
quiet_is says.NoMemory quiet = absurd (cc)

pub outcome_less : (r s : Reception) (answer : TaskAnswer) → IsBounded r.table → IsBounded s.table → Outcome r s answer → answer ≢ says.Idle → answer ≢ says.Stale → answer ≢ says.NoMemory → work_left s.table < work_left r.table
outcome_less r s answer b c (less now loud) idle stale memory = now b c
outcome_less r s answer b c (rests same quiet) idle stale memory =
    elim (quiet_is answer quiet) [
      | inl none ↦ absurd (idle none)
      | inr old ↦ absurd (stale old)
    ]
outcome_less r s answer b c (lacks same heard) idle stale memory = absurd (memory heard)

pub outcome_same : (r s : Reception) (answer : TaskAnswer) → is_quiet answer ≡ true → Outcome r s answer → s ≡ r
outcome_same r s answer quiet (less now loud) = absurd (both_ways (is_quiet answer) loud quiet)
outcome_same r s answer quiet (rests same holds) = same
outcome_same r s answer quiet (lacks same heard) = absurd (both_ways (is_quiet answer) (ap is_quiet heard) quiet)

pub outcome_most : (r s : Reception) (answer : TaskAnswer) → IsBounded r.table → IsBounded s.table → Outcome r s answer → work_left s.table ≤ work_left r.table
outcome_most r s answer b c (less now loud) = omega (arith, now b c)
outcome_most r s answer b c (rests same quiet) = subst (λ (x : Reception). work_left x.table ≤ work_left r.table) (sym same) (omega arith)
outcome_most r s answer b c (lacks same heard) = subst (λ (x : Table). work_left x ≤ work_left r.table) (sym same) (omega arith)
