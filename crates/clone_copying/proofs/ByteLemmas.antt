-- The bytes that a step takes and puts out.
use Rattle.std.proofs.Common.{ℕ, ◌≡◌, ◌∙◌, ◌-◌, List, [], ◌++◌, length, take, drop, true, false, refl, ap, sym, arith, Bool}
use Rattle.std.proofs.lemmas.List.{append-nil, length-append}
use Rattle.std.proofs.Math.Seq.{take-append_seam, drop-append_seam}
use Rattle.clone_wire.specs.Spelling.{spelling}
use Rattle.clone_wire.specs.declared.frame.Frame.TheVariants as frame
use Rattle.clone_tasks.specs.declared.rule.Link.{Link}
use Rattle.clone_tasks.specs.declared.rule.Rule.{Rule}
use Rattle.clone_tasks.specs.declared.rule.Rule.TheVariants as rule
use Rattle.clone_recipient.specs.Receptions.{Reception}
use Rattle.clone_outside.specs.DiskCalls.{DiskState}
use Rattle.clone_fetch.specs.declared.answer.TaskAnswer.{TaskAnswer}
use Rattle.clone_fetch.specs.Fetching.{Completes, PutsOut, Receives, Requester, StepsBy, completes, garbled, loses, no_bytes, no_frame, not_completed, not_left, not_marked, not_read, puts, takes, waits}
use Rattle.clone_fetching.specs.declared.recipient.TaskStep.{TaskStep}
use Rattle.clone_fetching.specs.declared.recipient.TaskStepped.{TaskStepped}
use Rattle.clone_fetching.specs.Recipients.{RecipientModel, Steps, rule_in}

-- these were before what is left, and these were put behind what was there
abbrev Fed : (old_received new_received old_sent new_sent : List ℕ) → Type 0
Fed old_received new_received old_sent new_sent =
    ((xs : List ℕ) × (old_received ≡ xs ++ new_received)) × ((ys : List ℕ) × (new_sent ≡ old_sent ++ ys))

received_by : {task : ℕ} {at : Link} {old new : Reception} {before after : DiskState} (received left : List ℕ) {answer : TaskAnswer} → Receives task at old new before after received left answer
    → (xs : List ℕ) × (received ≡ xs ++ left)
received_by received left (takes got fits is more) = (spelling got, is)
received_by received left (garbled lost breaks same none) = ([], sym none)
received_by received left (loses lost more new same none says) = ([], sym none)
received_by received left (waits sound more new same none says) = ([], sym none)
received_by received left (not_read new same none says) = ([], sym none)

sent_by : {which : Rule} {task floor : ℕ} {old new : Reception} (sent put : List ℕ) {answer : TaskAnswer} → PutsOut which task floor old new sent put answer → (ys : List ℕ) × (put ≡ sent ++ ys)
sent_by sent put (puts next of is new put_is says) = (spelling next, put_is)
sent_by sent put (no_frame new none says) = ([], none ∙ sym (append-nil sent))
sent_by sent put (no_bytes new none says) = ([], none ∙ sym (append-nil sent))

left_by : {old new : Reception} {told now : _} (sent put : List ℕ) {answer : TaskAnswer} → Completes old new told now sent put answer → (ys : List ℕ) × (put ≡ sent ++ ys)
left_by sent put (completes last end steps new put_is says) = (spelling frame.Exit, put_is)
left_by sent put (not_completed last end steps new none says) = ([], none ∙ sym (append-nil sent))
left_by sent put (not_marked last end steps new none says) = ([], none ∙ sym (append-nil sent))
left_by sent put (not_left last end steps new none says) = ([], none ∙ sym (append-nil sent))

kept : (xs ys : List ℕ) → ys ≡ xs → (zs : List ℕ) × (ys ≡ xs ++ zs)
kept xs ys same = ([], same ∙ sym (append-nil xs))

fed_by : (which : Rule) (at : Link) (task floor : ℕ) (old new : Requester) (answer : TaskAnswer) → StepsBy which at task floor old new answer → Fed old.received new.received old.sent new.sent
fed_by rule.Nothing at task floor old new answer steps =
    (([], sym (ap (λ (r : Requester). r.received) steps.0)), kept old.sent new.sent (ap (λ (r : Requester). r.sent) steps.0))
fed_by rule.Stale at task floor old new answer steps =
    (([], sym (ap (λ (r : Requester). r.received) steps.0)), kept old.sent new.sent (ap (λ (r : Requester). r.sent) steps.0))
fed_by rule.Connect at task floor old new answer steps = (([], sym steps.2), sent_by old.sent new.sent steps.0)
fed_by (rule.Acknowledge stage) at task floor old new answer steps = (([], sym steps.2), sent_by old.sent new.sent steps.0)
fed_by (rule.Execute stage) at task floor old new answer steps = (([], sym steps.2), sent_by old.sent new.sent steps.0)
fed_by rule.Receive at task floor old new answer steps = (received_by old.received new.received steps.0, kept old.sent new.sent steps.1)
fed_by rule.Complete at task floor old new answer steps = (([], sym steps.1), left_by old.sent new.sent steps.0)

module _ {R : Type 0} (state : R → DiskState) where
  fed_in : (given_up : Bool) (s : RecipientModel R) (c : TaskStep) (a : TaskStepped) (t : RecipientModel R) → s.given_up ≡ given_up → Steps state s c a t → Fed c.received.items a.received.items c.sent.items a.sent.items
  fed_in false s c a t is steps = let f = steps.0 is in fed_by (rule_in s c) c.link c.task c.floor _ _ a.answer f.steps
  fed_in true s c a t is steps = let g = steps.1 is in (([], sym g.received), kept c.sent.items a.sent.items g.sent)

front_of : (xs ys zs : List ℕ) → zs ≡ xs ++ ys → zs ≡ take (length zs - length ys) zs ++ ys
front_of xs ys zs is =
    let n : length zs - length ys ≡ length xs = (let l = length-append xs ys in let m = ap length is in omega (arith, l, m)) in
    is ∙ ap (λ us. us ++ ys) (sym (ap (λ k. take k zs) n ∙ (ap (take (length xs)) is ∙ take-append_seam xs ys)))

behind_of : (xs ys zs : List ℕ) → zs ≡ xs ++ ys → zs ≡ xs ++ drop (length xs) zs
behind_of xs ys zs is = is ∙ ap (λ us. xs ++ us) (sym (ap (drop (length xs)) is ∙ drop-append_seam xs ys))

module _ {R : Type 0} (state : R → DiskState) where
  -- what a step took stands before what it left, and what it put after what was there
  pub step_took : (s : RecipientModel R) (c : TaskStep) (a : TaskStepped) (t : RecipientModel R) → Steps state s c a t
      → c.received.items ≡ take (length c.received.items - length a.received.items) c.received.items ++ a.received.items
  step_took s c a t steps = let f = fed_in state s.given_up s c a t refl steps in front_of f.0.0 a.received.items c.received.items f.0.1

  pub step_put : (s : RecipientModel R) (c : TaskStep) (a : TaskStepped) (t : RecipientModel R) → Steps state s c a t → a.sent.items ≡ c.sent.items ++ drop (length c.sent.items) a.sent.items
  step_put s c a t steps = let f = fed_in state s.given_up s c a t refl steps in behind_of c.sent.items f.1.0 a.sent.items f.1.1
