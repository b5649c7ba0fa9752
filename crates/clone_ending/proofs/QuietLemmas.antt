-- A task that finds nothing to do, or an old connection, leaves all as it was.
use Rattle.std.proofs.Common.{ℕ, ◌≡◌, ◌∙◌, Bool, true, false, set, List, Option, None, Some, refl, ap, sym, if◌then◌else◌}
use Rattle.std.specs.Prelude.{not}
use Rattle.std.specs.List.{slice_get}
use Rattle.std.proofs.lemmas.Bool.{both_ways}
use Rattle.std.proofs.lemmas.List.{set-get_or}
use Rattle.std.proofs.lemmas.Option.{get_or_from_slice_get}
use Rattle.clone_outside.specs.Disk.{DiskImage}
use Rattle.clone_outside.specs.DiskCalls.{DiskState}
use Rattle.clone_chunk.specs.declared.cause.CloneCause.{CloneCause}
use Rattle.clone_wire.specs.declared.frame.Frame.{Frame}
use Rattle.clone_tasks.specs.Losing.{after_loss, is_spent}
use Rattle.clone_tasks.specs.Tables.{Table}
use Rattle.clone_tasks.specs.declared.end.CloneEnd.TheVariants as end
use Rattle.clone_tasks.specs.declared.rule.Link.{Link}
use Rattle.clone_tasks.specs.declared.rule.Rule.{Rule}
use Rattle.clone_tasks.specs.declared.rule.Rule.TheVariants as rule
use Rattle.clone_recipient.specs.Receptions.{Reception}
use Rattle.clone_fetch.specs.Fetching as fetch
use Rattle.clone_fetch.specs.Fetching.{Breaks, Completes, PutsOut, Receives, Requester, StepsBy, TakesFrame, loss_says, made_by, refusal_in, says_of}
use Rattle.clone_fetch.specs.declared.answer.TaskAnswer.{TaskAnswer}
use Rattle.clone_fetch.specs.declared.answer.TaskAnswer.TheVariants as says
use Rattle.clone_network.specs.Connections.{sent_behind, unread_then}
use Rattle.clone_network.specs.Networks as network
use Rattle.clone_network.specs.Networks.{Seat, Network, StepsTask, after_answer, sends, with_connection, with_seat}
use Rattle.clone_ending.proofs.StepLemmas.{is_quiet}

-- ---- which steps are quiet

loud : {X : Type 0} (answer given : TaskAnswer) → is_quiet answer ≡ true → answer ≡ given → is_quiet given ≡ false → X
loud answer given quiet is heard = absurd (both_ways (is_quiet given) heard (sym (ap is_quiet is) ∙ quiet))

says_loud : (why : Option CloneCause) (got : Frame) → is_quiet (says_of why got) ≡ false
says_loud None got = refl
says_loud (Some cause) got = refl

loss_loud : (t : Table) → is_quiet (loss_says t) ≡ false
loss_loud t = by (is_spent t)
  where
    by : (b : Bool) → is_quiet (if b then says.Ended (end.Spent t.losses) else says.Lost t.losses) ≡ false
    by true = refl
    by false = refl

module _ (X : Type 0) (answer : TaskAnswer) (quiet : is_quiet answer ≡ true) where
  quiet_puts : (which : Rule) (task floor : ℕ) (r s : Reception) (sent put : List ℕ) → PutsOut which task floor r s sent put answer → X
  quiet_puts which task floor r s sent put (fetch.puts next of sends after out heard) = loud answer _ quiet heard refl
  quiet_puts which task floor r s sent put (fetch.no_frame same out heard) = loud answer _ quiet heard refl
  quiet_puts which task floor r s sent put (fetch.no_bytes after out heard) = loud answer _ quiet heard refl

  quiet_breaks : (bytes : List ℕ) (r s : Reception) → Breaks bytes r s answer → X
  quiet_breaks bytes r s (fetch.breaks kept is ended heard) = loud answer _ quiet heard refl
  quiet_breaks bytes r s (fetch.not_kept same heard) = loud answer _ quiet heard refl

  quiet_takes : (task : ℕ) (got : Frame) (r s : Reception) (d e : DiskState) → TakesFrame task got r s d e answer → X
  quiet_takes task got r s d e (fetch.accepts is takes heard) = loud answer _ quiet heard (says_loud (refusal_in got) got)
  quiet_takes task got r s d e (fetch.rejects is broken same) = quiet_breaks _ r s broken
  quiet_takes task got r s d e (fetch.not_laid is keeps ended heard) = loud answer _ quiet heard refl
  quiet_takes task got r s d e (fetch.no_room is keeps same heard) = loud answer _ quiet heard refl

  quiet_completes : (r s : Reception) (told now : Option DiskImage) (sent put : List ℕ) → Completes r s told now sent put answer → X
  quiet_completes r s told now sent put (fetch.completes last is steps ended puts heard) = loud answer _ quiet heard refl
  quiet_completes r s told now sent put (fetch.not_completed last is steps ended puts heard) = loud answer _ quiet heard refl
  quiet_completes r s told now sent put (fetch.not_marked last is steps same puts heard) = loud answer _ quiet heard refl
  quiet_completes r s told now sent put (fetch.not_left last is steps same puts heard) = loud answer _ quiet heard refl

-- ---- what they leave

record Same (which : Rule) (old new : Requester) : Type 0 where
  disk : new.disk ≡ old.disk
  received : new.received ≡ old.received
  sent : new.sent ≡ old.sent
  made : (incarnation : ℕ) (made : Option ℕ) → made_by which incarnation made ≡ made

module _ (answer : TaskAnswer) (quiet : is_quiet answer ≡ true) where
  waits_same : (at : Link) (task floor : ℕ) (old new : Requester) → Receives task at old.reception new.reception old.disk new.disk old.received new.received answer → new.sent ≡ old.sent → Same rule.Receive old new
  waits_same at task floor old new (fetch.takes got is taken took) sent = quiet_takes (Same rule.Receive old new) answer quiet task got _ _ _ _ took
  waits_same at task floor old new (fetch.garbled lost broken disk left) sent = quiet_breaks (Same rule.Receive old new) answer quiet _ _ _ broken
  waits_same at task floor old new (fetch.loses lost partial is disk left heard) sent = loud answer _ quiet heard (loss_loud (after_loss old.reception.table))
  waits_same at task floor old new (fetch.waits up partial is disk left heard) sent = record { disk = disk; received = left; sent = sent; made = λ incarnation made. refl }
  waits_same at task floor old new (fetch.not_read is disk left heard) sent = loud answer _ quiet heard refl

  all_same : (which : Rule) (old new : Requester) → ((incarnation : ℕ) (made : Option ℕ) → made_by which incarnation made ≡ made) → new ≡ old → Same which old new
  all_same which old new made same = record { disk = ap (λ (x : Requester). x.disk) same; received = ap (λ (x : Requester). x.received) same; sent = ap (λ (x : Requester). x.sent) same; made = made }

  quiet_same : (which : Rule) (at : Link) (task floor : ℕ) (old new : Requester) → StepsBy which at task floor old new answer → Same which old new
  quiet_same rule.Nothing at task floor old new steps = all_same rule.Nothing old new (λ incarnation made. refl) steps.0
  quiet_same rule.Stale at task floor old new steps = all_same rule.Stale old new (λ incarnation made. refl) steps.0
  quiet_same rule.Connect at task floor old new steps = quiet_puts (Same rule.Connect old new) answer quiet rule.Connect task floor _ _ _ _ steps.0
  quiet_same (rule.Acknowledge stage) at task floor old new steps = quiet_puts (Same (rule.Acknowledge stage) old new) answer quiet (rule.Acknowledge stage) task floor _ _ _ _ steps.0
  quiet_same (rule.Execute stage) at task floor old new steps = quiet_puts (Same (rule.Execute stage) old new) answer quiet (rule.Execute stage) task floor _ _ _ _ steps.0
  quiet_same rule.Receive at task floor old new steps = waits_same at task floor old new steps.0 steps.1
  quiet_same rule.Complete at task floor old new steps = quiet_completes (Same rule.Complete old new) answer quiet _ _ _ _ _ _ steps.0

-- ---- the connections

unread_same : (reaches : Bool) (unread sent : List ℕ) → sent ≡ sent_behind reaches unread → unread_then reaches unread sent ≡ unread
unread_same true unread sent same = same
unread_same false unread sent same = refl

quiet_after : (answer : TaskAnswer) (n : Network) → is_quiet answer ≡ true → after_answer answer n ≡ n
quiet_after says.Idle n quiet = refl
quiet_after says.Stale n quiet = refl
quiet_after (says.Sent code) n quiet = absurd (cc)
quiet_after (says.Took took) n quiet = absurd (cc)
quiet_after (says.Lost losses) n quiet = absurd (cc)
quiet_after (says.Ended how) n quiet = absurd (cc)
quiet_after says.NoMemory n quiet = absurd (cc)

quiet_sends : (answer : TaskAnswer) → is_quiet answer ≡ true → sends answer ≡ false
quiet_sends says.Idle quiet = refl
quiet_sends says.Stale quiet = refl
quiet_sends (says.Sent code) quiet = absurd (cc)
quiet_sends (says.Took took) quiet = refl
quiet_sends (says.Lost losses) quiet = refl
quiet_sends (says.Ended how) quiet = refl
quiet_sends says.NoMemory quiet = refl

-- what stands at a place is put there again
put_same : {X : Type 0} (xs : List X) (i : ℕ) (x y : X) → slice_get xs i ≡ Some x → y ≡ x → set xs i y ≡ xs
put_same xs i x y here same = ap (set xs i) (same ∙ sym (get_or_from_slice_get xs i x x here)) ∙ set-get_or xs i x

pub quiet_network : (r s : Reception) (d e : DiskState) (n m : Network) (task floor : ℕ) (answer : TaskAnswer) → is_quiet answer ≡ true → StepsTask task floor r s d e n m answer → (e ≡ d) × (m ≡ n)
quiet_network r s d e n m task floor answer quiet (network.over seat number at after made here has there f is) =
    let same = quiet_same answer quiet _ _ task floor _ _ f.steps in
    let unread = unread_same (not at.cut) at.to_donor f.sent same.sent in
    let kept : after ≡ at = f.is ∙ (λ i. record at { to_donor = unread i; to_task = same.received i }) in
    let own : made ≡ seat.made = f.made_is ∙ same.made _ seat.made in
    let place : record { made = made; connection = Some number } ≡ seat = λ i. record { made = own i; connection = sym has i } in
    let ends : set n.connections number after ≡ n.connections = put_same n.connections number at after there kept in
    let seats : set n.seats task (record { made = made; connection = Some number }) ≡ n.seats = put_same n.seats task seat _ here place in
    (same.disk, is ∙ quiet_after answer _ quiet ∙ (λ i. record { connections = ends i; seats = seats i }))
quiet_network r s d e n m task floor answer quiet (network.apart seat after connections here has c is) =
    let same = quiet_same answer quiet _ _ task floor _ _ c.steps in
    let none : connections ≡ n.connections = c.connections ∙ rw (quiet_sends answer quiet) refl in
    let own = same.made _ seat.made in
    let place : after ≡ seat = c.is ∙ rw (quiet_sends answer quiet) (λ i. record { made = own i; connection = sym has i }) in
    let seats : set n.seats task after ≡ n.seats = put_same n.seats task seat after here place in
    (same.disk, is ∙ quiet_after answer _ quiet ∙ (λ i. record { connections = none i; seats = seats i }))
quiet_network r s d e n m task floor answer quiet (network.absent here same heard) = (same.disk, same.network)
quiet_network r s d e n m task floor answer quiet (network.no_room same heard) = (same.disk, same.network)
