-- A step by which a task sends a command, and one by which it does nothing, keep the clone paired.
use Rattle.std.proofs.Common.{ℕ, zero, suc, ◌≡◌, ◌≢◌, ◌∙◌, ◌⊎◌, ◌≤◌, List, [], ◌∷◌, ◌++◌, Bool, true, false, if◌then◌else◌, Option, None, Some, length, set, refl, sym, ap, subst, inl, inr, length-set}
use Rattle.std.specs.Prelude.{slice_get, slice_set, nat_lt, not, ◌==◌, ◌&&◌, IfSome}
use Rattle.std.specs.Option.{unwrap_or}
use Rattle.std.proofs.lemmas.Bool.{both_ways, cases_eq, ne_eqb}
use Rattle.std.proofs.lemmas.List.{length-map}
use Rattle.clone_outside.specs.Disk.{DiskImage}
use Rattle.clone_outside.specs.DiskCalls.{DiskState}
use Rattle.clone_chunk.specs.declared.copy_stage.CopyStage.{CopyStage}
use Rattle.clone_chunk.specs.declared.copy_stage.CopyStage.TheVariants as copy
use Rattle.clone_chunk.specs.declared.cause.CloneCause.{CloneCause}
use Rattle.clone_session.specs.Cloning.{Session}
use Rattle.clone_wire.specs.Spelling.{spelling}
use Rattle.clone_wire.specs.declared.frame.Frame.{Frame}
use Rattle.clone_wire.specs.declared.frame.Frame.TheVariants as frame
use Rattle.clone_wire.specs.declared.frame.Side.TheVariants.{Command as ofTask}
use Rattle.clone_stream.specs.Streams.{IsFrameOf}
use Rattle.clone_tasks.specs.Losing.{after_loss, is_spent}
use Rattle.clone_tasks.specs.Rules.{is_stale, rule_at, rule_of, sending_rule, takes_part}
use Rattle.clone_tasks.specs.Sending.{IsFirst, IsSent, Opens, Reattaches, kept_floor, sent_floor}
use Rattle.clone_tasks.specs.Tables.{Table, incarnation_of, is_done, is_running}
use Rattle.clone_tasks.specs.declared.end.CloneEnd.TheVariants as end
use Rattle.clone_tasks.specs.declared.rule.Link.{Link}
use Rattle.clone_tasks.specs.declared.rule.Link.TheVariants as link
use Rattle.clone_tasks.specs.declared.rule.Rule.{Rule as TaskRule}
use Rattle.clone_tasks.specs.declared.rule.Rule.TheVariants as rule
use Rattle.clone_tasks.specs.declared.standing.Phase.{Phase}
use Rattle.clone_tasks.specs.declared.standing.Phase.TheVariants.{Opening, Copying, Done}
use Rattle.clone_tasks.specs.declared.standing.Standing.TheVariants.{Acknowledging, Fetching}
use Rattle.clone_recipient.specs.Receptions.{Reception}
use Rattle.clone_fetch.specs.Fetching as fetch
use Rattle.clone_fetch.specs.Fetching.{Breaks, Completes, PutsOut, Receives, Requester, StepsBy, TakesFrame, made_by, refusal_in, requester, says_of, with_sent}
use Rattle.clone_fetch.specs.declared.answer.TaskAnswer.{TaskAnswer}
use Rattle.clone_fetch.specs.declared.answer.TaskAnswer.TheVariants as told
use Rattle.clone_network.specs.Connections.{Connection, link_over, opened, sent_behind}
use Rattle.clone_network.specs.Networks as network
use Rattle.clone_network.specs.Networks.{Fetches, Network, Seat, StepsTask, with_connection}
use Rattle.clone_network.proofs.CourseLemmas.{Terms, course}
use Rattle.clone_view.specs.Applying.{Applies}
use Rattle.clone_view.specs.Frames.{command_of}
use Rattle.clone_view.proofs.Applying.{applies}
use Rattle.clone_paired.specs.Lines.{connection_of, made_of}
use Rattle.clone_paired.specs.Paired.{HasCopied, IsCopying, IsPaired, IsReception, IsTalking}
use Rattle.clone_paired.specs.Seen.{IsSeen}
use Rattle.clone_paired.specs.Speaking.{IsAsked}
use Rattle.clone_paired.proofs.Connecting.{talks_connected}
use Rattle.clone_paired.proofs.Linked.{Same, apart_is, none_at, same_connection, unlinked}
use Rattle.clone_paired.proofs.Lookups.{connection_is, made_is}
use Rattle.clone_paired.proofs.QuietTasks.{complete_apart, complete_over, no_way, rule_apart, rule_over}
use Rattle.clone_paired.proofs.Sends.{sent_bytes, sent_on, talks_sent_at}
use Rattle.clone_paired.proofs.Stuck.{link_there}
use Rattle.clone_paired.proofs.Transports.{restood}

-- ---- a step that sends

abbrev IsSending : TaskAnswer → Type 0
IsSending (told.Sent code) = Unit {0}
IsSending other = ⊥

-- what was sent by the rule
pub record HasSent (which : TaskRule) (task floor : ℕ) (old new : Requester) : Type 0 where
  pub next : Frame
  pub of : IsFrameOf ofTask next
  pub sent : IsSent which old.reception.table task floor next
  pub sets : new.reception ≡ with_sent which task floor old.reception
  pub bytes : new.sent ≡ old.sent ++ spelling next
  pub received : new.received ≡ old.received

silent : {X : Type 0} (answer other : TaskAnswer) → IsSending answer → answer ≡ other → (IsSending other → ⊥) → X
silent answer other sends is never = absurd (never (subst IsSending is sends))

puts_send : (which : TaskRule) (task floor : ℕ) (old new : Requester) (answer : TaskAnswer) → PutsOut which task floor old.reception new.reception old.sent new.sent answer → IsSending answer → new.received ≡ old.received → HasSent which task floor old new
puts_send which task floor old new answer (fetch.puts next of is sets bytes says) sends same = record { next = next; of = of; sent = is; sets = sets; bytes = bytes; received = same }
puts_send which task floor old new answer (fetch.no_frame sets bytes says) sends same = silent answer _ sends says (λ q. q)
puts_send which task floor old new answer (fetch.no_bytes sets bytes says) sends same = silent answer _ sends says (λ q. q)

breaks_silent : {X : Type 0} (bytes : List ℕ) (old new : Reception) (answer : TaskAnswer) → Breaks bytes old new answer → IsSending answer → X
breaks_silent bytes old new answer (fetch.breaks kept is sets says) sends = silent answer _ sends says (λ q. q)
breaks_silent bytes old new answer (fetch.not_kept sets says) sends = silent answer _ sends says (λ q. q)

takes_silent : {X : Type 0} (task : ℕ) (got : Frame) (old new : Reception) (before after : DiskState) (answer : TaskAnswer) → TakesFrame task got old new before after answer → IsSending answer → X
takes_silent task got old new before after answer (fetch.accepts is takes says) sends = silent answer _ sends says (never (refusal_in got))
  where
    never : (cause : Option CloneCause) → IsSending (says_of cause got) → ⊥
    never None q = q
    never (Some cause) q = q
takes_silent task got old new before after answer (fetch.rejects is broken same) sends = breaks_silent (spelling got) old new answer broken sends
takes_silent task got old new before after answer (fetch.not_laid is keeps sets says) sends = silent answer _ sends says (λ q. q)
takes_silent task got old new before after answer (fetch.no_room is keeps sets says) sends = silent answer _ sends says (λ q. q)

receives_silent : {X : Type 0} (task : ℕ) (at : Link) (old new : Reception) (before after : DiskState) (received left : List ℕ) (answer : TaskAnswer) → Receives task at old new before after received left answer → IsSending answer → X
receives_silent task at old new before after received left answer (fetch.takes got of is takes) sends = takes_silent task got old new before after answer takes sends
receives_silent task at old new before after received left answer (fetch.garbled lost broken same keeps) sends = breaks_silent received old new answer broken sends
receives_silent task at old new before after received left answer (fetch.loses lost part sets same keeps says) sends = silent answer _ sends says (never (is_spent (after_loss old.table)))
  where
    never : (b : Bool) → IsSending (if b then told.Ended (end.Spent (after_loss old.table).losses) else told.Lost (after_loss old.table).losses) → ⊥
    never true q = q
    never false q = q
receives_silent task at old new before after received left answer (fetch.waits up part sets same keeps says) sends = silent answer _ sends says (λ q. q)
receives_silent task at old new before after received left answer (fetch.not_read sets same keeps says) sends = silent answer _ sends says (λ q. q)

completes_silent : {X : Type 0} (old new : Reception) (told_old now : Option DiskImage) (sent put : List ℕ) (answer : TaskAnswer) → Completes old new told_old now sent put answer → IsSending answer → X
completes_silent old new told_old now sent put answer (fetch.completes last is steps sets bytes says) sends = silent answer _ sends says (λ q. q)
completes_silent old new told_old now sent put answer (fetch.not_completed last is steps sets bytes says) sends = silent answer _ sends says (λ q. q)
completes_silent old new told_old now sent put answer (fetch.not_marked last is steps sets bytes says) sends = silent answer _ sends says (λ q. q)
completes_silent old new told_old now sent put answer (fetch.not_left last is steps sets bytes says) sends = silent answer _ sends says (λ q. q)

-- so it is by its rule
abbrev SendsBy : TaskRule → ℕ → ℕ → Requester → Requester → Type 0
SendsBy rule.Connect task floor old new = HasSent rule.Connect task floor old new
SendsBy (rule.Acknowledge stage) task floor old new = HasSent (rule.Acknowledge stage) task floor old new
SendsBy (rule.Execute stage) task floor old new = HasSent (rule.Execute stage) task floor old new
SendsBy other task floor old new = ⊥

steps_send : (which : TaskRule) (at : Link) (task floor : ℕ) (old new : Requester) (answer : TaskAnswer) → StepsBy which at task floor old new answer → IsSending answer → SendsBy which task floor old new
steps_send rule.Nothing at task floor old new answer s sends = silent answer _ sends s.1 (λ q. q)
steps_send rule.Stale at task floor old new answer s sends = silent answer _ sends s.1 (λ q. q)
steps_send rule.Connect at task floor old new answer s sends = puts_send rule.Connect task floor old new answer s.0 sends s.2
steps_send (rule.Acknowledge stage) at task floor old new answer s sends = puts_send (rule.Acknowledge stage) task floor old new answer s.0 sends s.2
steps_send (rule.Execute stage) at task floor old new answer s sends = puts_send (rule.Execute stage) task floor old new answer s.0 sends s.2
steps_send rule.Receive at task floor old new answer s sends = receives_silent task at old.reception new.reception old.disk new.disk old.received new.received answer s.0 sends
steps_send rule.Complete at task floor old new answer s sends = completes_silent old.reception new.reception old.disk.told new.disk.told old.sent new.sent answer s.0 sends

-- ---- of what is sent

ack_keeps : (floor : ℕ) (known : Option ℕ) (stage : CopyStage) (kept : ℕ) → known ≡ Some kept → kept_floor stage known floor ≡ Some kept
ack_keeps floor known copy.FileCopy kept is = is
ack_keeps floor known copy.PageCopy kept is = ap (λ (o : Option ℕ). Some (unwrap_or o floor)) is
ack_keeps floor known copy.RedoCopy kept is = is

ack_asked : (t : Table) (task floor : ℕ) (stage : CopyStage) (known : Option ℕ) → t.floor ≡ kept_floor stage known floor → IsAsked t task (frame.Ack stage (sent_floor stage known floor))
ack_asked t task floor copy.FileCopy known is = tt
ack_asked t task floor copy.PageCopy known is = is
ack_asked t task floor copy.RedoCopy known is = tt

-- the first command of a task is one that it would send, and is one of the rounds
abbrev pub IsOpening : Frame → Type 0
IsOpening (frame.Init attempt version size compressed tasks) = Unit {0}
IsOpening (frame.Attach attempt task) = Unit {0}
IsOpening (frame.Reinit attempt stage finished) = Unit {0}
IsOpening (frame.Reinit2 attempt stage taken) = Unit {0}
IsOpening other = ⊥

pub opening_of : (first : Bool) (t : Table) (task : ℕ) (next : Frame) → IsFirst first t task next → IsOpening next
opening_of true t task next is = at t.phase is
  where
    reattaches : (first : Bool) (stage : CopyStage) → Reattaches first stage t next → IsOpening next
    reattaches true stage g = subst IsOpening (sym g.1) tt
    reattaches false stage g = subst IsOpening (sym g.1) tt

    at : (phase : Phase) → Opens phase t next → IsOpening next
    at Opening g = subst IsOpening (sym g) tt
    at (Copying stage) g = reattaches (t.version == 1) stage g
    at Done g = subst IsOpening (sym g) tt
opening_of false t task next is = subst IsOpening (sym is) tt

opening_asked : (t : Table) (task : ℕ) (next : Frame) → IsOpening next → IsFirst (task == 0) t task next → IsAsked t task next
opening_asked t task (frame.Init attempt version size compressed tasks) opens is = is
opening_asked t task (frame.Attach attempt other) opens is = is
opening_asked t task (frame.Reinit attempt stage finished) opens is = is
opening_asked t task (frame.Reinit2 attempt stage taken) opens is = is
opening_asked t task other opens is = absurd opens

pub opening_command : (next : Frame) → IsOpening next → command_of next ≡ None → ⊥
opening_command (frame.Init attempt version size compressed tasks) opens is = cc (is)
opening_command (frame.Attach attempt other) opens is = cc (is)
opening_command (frame.Reinit attempt stage finished) opens is = cc (is)
opening_command (frame.Reinit2 attempt stage taken) opens is = cc (is)
opening_command other opens is = opens

-- ---- the network

pub set_same : {X : Type 0} (xs : List X) (i : ℕ) (x : X) → slice_get xs i ≡ Some x → set xs i x ≡ xs
set_same [] i x is = refl
set_same (y ∷ xs) zero x is = let same : x ≡ y = cc (is) in ap (λ z. z ∷ xs) same
set_same (y ∷ xs) (suc i) x is = ap (λ l. y ∷ l) (set_same xs i x is)

pub net_over : (n : Network) (task number : ℕ) (seat : Seat) (made : Option ℕ) (after : Connection) → slice_get n.seats task ≡ Some seat → seat.connection ≡ Some number → made ≡ seat.made → network.with_seat task (record { made = made; connection = Some number }) (with_connection number after n) ≡ with_connection number after n
net_over n task number seat made after has is own =
    let same : set n.seats task (record { made = made; connection = Some number }) ≡ n.seats = ap (λ (s : Seat). set n.seats task s) (cc_seat) ∙ set_same n.seats task seat has in
    ap (λ (seats : List Seat). record (with_connection number after n) { seats = seats }) same
  where
    cc_seat : record { made = made; connection = Some number } ≡ seat
    cc_seat = ap (λ (m : Option ℕ). record { made = m; connection = Some number }) own ∙ ap (λ (c : Option ℕ). record { made = seat.made; connection = c }) (sym is)

module _ (session : Option Session) (r s : Reception) (d e : DiskState) (n m : Network) (task floor code : ℕ) (own : IsReception r) (running : is_running r.table ≡ true) (tasks : length n.seats ≡ r.table.count) (talks : IsTalking session r n) where
  first : IsSeen r.table session n talks.lines talks.known
  first = talks.rounds.seen talks.known (λ stage small. refl)

  applied : Applies (sending_rule r.table task) first.rounds task
  applied = applies r.table first.rounds task first.view.table running

  module _ (seat : Seat) (number : ℕ) (at after : Connection) (made : Option ℕ) (has : slice_get n.seats task ≡ Some seat) (is : seat.connection ≡ Some number) (there : slice_get n.connections number ≡ Some at) (f : Fetches task floor seat.made made at after r s d e (told.Sent code)) (net : m ≡ network.with_seat task (record { made = made; connection = Some number }) (with_connection number after n)) where
    same : Same session r n talks.lines talks.known first.rounds talks.at first.view task seat at
    same = same_connection session r n talks.lines talks.known first.rounds talks.at first.view task seat number at has is there

    rule_is : rule_at seat.made r.table task (link_over at) ≡ sending_rule r.table task
    rule_is = rule_over r.table task (link_over at) seat.made same.made (link_there at) (apart_is session r n talks.lines talks.known first.rounds talks.at first.view task true same.x.seat.connected)

    abbrev old : Requester
    old = requester r d at.to_task (sent_behind (not at.cut) at.to_donor)

    abbrev now : Requester
    now = requester s e f.received f.sent

    sent_now : SendsBy (sending_rule r.table task) task floor old now
    sent_now = subst (λ (w : TaskRule). SendsBy w task floor old now) rule_is (steps_send (rule_at seat.made r.table task (link_over at)) (link_over at) task floor old now (told.Sent code) f.steps tt)

    made_now : made ≡ made_by (sending_rule r.table task) (incarnation_of r.table) seat.made
    made_now = f.made_is ∙ ap (λ (w : TaskRule). made_by w (incarnation_of r.table) seat.made) rule_is

    task_has : connection_of n task ≡ Some number
    task_has = connection_is n task seat has ∙ is

    -- the connection has the frame behind what its end hasn't read
    sent_is : (which : TaskRule) (h : HasSent which task floor old now) → after ≡ sent_on at h.next
    sent_is which h = f.is ∙ ap (λ (b : List ℕ). record at { to_donor = b; to_task = f.received }) (sent_bytes at h.next f.sent h.bytes) ∙ ap (λ (b : List ℕ). record (sent_on at h.next) { to_task = b }) h.received

    ends_so : (which : TaskRule) (h : HasSent which task floor old now) → made ≡ seat.made → IsTalking session (with_sent which task floor r) (with_connection number (sent_on at h.next) n) → IsTalking session s m
    ends_so which h own_made t =
        let net_is : m ≡ with_connection number (sent_on at h.next) n = net ∙ net_over n task number seat made after has is own_made ∙ ap (λ (c : Connection). with_connection number c n) (sent_is which h) in
        subst (λ (z : Reception). IsTalking session z m) (sym h.sets) (subst (IsTalking session (with_sent which task floor r)) (sym net_is) t)

    by_rule : (which : TaskRule) → sending_rule r.table task ≡ which → Applies which first.rounds task → SendsBy which task floor old now → made ≡ made_by which (incarnation_of r.table) seat.made → IsTalking session s m
    by_rule (rule.Execute stage) which applied h made_is = ends_so (rule.Execute stage) h made_is (talks_sent_at session r n own tasks running talks task floor (rule.Execute stage) which h.next h.of h.sent (λ none. cc (sym (ap command_of h.sent) ∙ none)) (slice_set r.table.standings task Fetching) r.table.floor (λ kept is. is) refl (subst (IsAsked (restood r (slice_set r.table.standings task Fetching) r.table.floor r.table.joined).table task) (sym h.sent) tt) number task_has at there)
    by_rule (rule.Acknowledge stage) which applied h made_is = ends_so (rule.Acknowledge stage) h made_is (talks_sent_at session r n own tasks running talks task floor (rule.Acknowledge stage) which h.next h.of h.sent (λ none. cc (sym (ap command_of h.sent) ∙ none)) (slice_set r.table.standings task Acknowledging) (kept_floor stage r.table.floor floor) (ack_keeps floor r.table.floor stage) refl (subst (IsAsked acked.table task) (sym h.sent) (ack_asked acked.table task floor stage r.table.floor refl)) number task_has at there)
      where
        acked : Reception
        acked = restood r (slice_set r.table.standings task Acknowledging) (kept_floor stage r.table.floor floor) r.table.joined
    by_rule rule.Connect which applied h made_is = absurd (both_ways (first.rounds.seats task).connected applied.absent same.x.seat.connected)
    by_rule other which applied h made_is = absurd h

    over_sends : IsTalking session s m
    over_sends = by_rule (sending_rule r.table task) refl applied sent_now made_now

  -- ---- without a connection
  module _ (seat after : Seat) (connections : List Connection) (has : slice_get n.seats task ≡ Some seat) (is : seat.connection ≡ None) (c : network.Connects task floor seat after r s d e n.connections connections (told.Sent code)) (net : m ≡ network.with_seat task after (record n { connections = connections })) where
    off : (first.rounds.seats task).connected ≡ false
    off = unlinked session r n talks.lines talks.known first.rounds talks.at first.view task (none_at session r n talks.lines talks.known first.rounds talks.at first.view task seat has is)

    rule_apart_is : rule_at seat.made r.table task link.Absent ≡ sending_rule r.table task
    rule_apart_is = rule_apart r.table task seat.made (apart_is session r n talks.lines talks.known first.rounds talks.at first.view task false off)

    abbrev empty : Requester
    empty = requester r d [] []

    abbrev put : Requester
    put = requester s e c.received c.sent

    sent_apart : SendsBy (sending_rule r.table task) task floor empty put
    sent_apart = subst (λ (w : TaskRule). SendsBy w task floor empty put) rule_apart_is (steps_send (rule_at seat.made r.table task link.Absent) link.Absent task floor empty put (told.Sent code) c.steps tt)

    by_apart : (which : TaskRule) → sending_rule r.table task ≡ which → Applies which first.rounds task → SendsBy which task floor empty put → IsTalking session s m
    by_apart rule.Connect which there h =
        let opens : IsOpening h.next = opening_of (task == 0) r.table task h.next h.sent in
        let connected = talks_connected session r n own tasks running talks task floor seat has is which h.next h.of h.sent (opening_command h.next opens) (opening_asked r.table task h.next opens h.sent) in
        let made_is : made_by (rule_at seat.made r.table task link.Absent) (incarnation_of r.table) seat.made ≡ Some (incarnation_of r.table) = ap (λ (w : TaskRule). made_by w (incarnation_of r.table) seat.made) (rule_apart_is ∙ which) in
        let after_is : after ≡ record { made = Some (incarnation_of r.table); connection = Some (length n.connections) } = c.is ∙ ap (λ (o : Option ℕ). record { made = o; connection = Some (length n.connections) }) made_is in
        let connections_are : connections ≡ n.connections ++ opened (spelling h.next) ∷ [] = c.connections ∙ ap (λ (b : List ℕ). n.connections ++ opened b ∷ []) h.bytes in
        let net_is : m ≡ record { connections = n.connections ++ opened (spelling h.next) ∷ []; seats = set n.seats task (record { made = Some (incarnation_of r.table); connection = Some (length n.connections) }) } = net ∙ ap (λ (x : Seat). network.with_seat task x (record n { connections = connections })) after_is ∙ ap (λ (cs : List Connection). record { connections = cs; seats = set n.seats task (record { made = Some (incarnation_of r.table); connection = Some (length n.connections) }) }) connections_are in
        subst (λ (z : Reception). IsTalking session z m) (sym h.sets) (subst (IsTalking session (with_sent rule.Connect task floor r)) (sym net_is) connected)
    by_apart (rule.Execute stage) which there h = absurd (both_ways (first.rounds.seats task).connected off there.0.linked.connected)
    by_apart (rule.Acknowledge stage) which there h = absurd (both_ways (first.rounds.seats task).connected off (subst (λ (j : ℕ). (first.rounds.seats j).connected ≡ true) (sym there.0) there.1.linked.connected))
    by_apart other which there h = absurd h

    apart_sends : IsTalking session s m
    apart_sends = by_apart (sending_rule r.table task) refl applied sent_apart

-- ---- once all was copied nobody sends anything

abbrev pub IsLast : TaskRule → Type 0
IsLast rule.Nothing = Unit {0}
IsLast rule.Stale = Unit {0}
IsLast rule.Complete = Unit {0}
IsLast other = ⊥

module _ (r : Reception) (n : Network) (some : 1 ≤ r.table.count) (running : is_running r.table ≡ true) (c : HasCopied r n) (task : ℕ) (seat : Seat) (has : slice_get n.seats task ≡ Some seat) where
  idle_last : (at : Link) (stale : Bool) → is_stale seat.made (incarnation_of r.table) at ≡ stale → takes_part r.table task ≡ false → IsLast (rule_at seat.made r.table task at)
  idle_last at true is none = subst IsLast (sym (ap (λ (b : Bool). if b then rule.Stale else rule_of r.table task at) is)) tt
  idle_last at false is none =
      let idle : rule_of r.table task at ≡ rule.Nothing = rw none refl in
      subst IsLast (sym (ap (λ (b : Bool). if b then rule.Stale else rule_of r.table task at) is ∙ idle)) tt

  no_part : task ≢ 0 → takes_part r.table task ≡ false
  no_part other = rw (c.done, ne_eqb task 0 other) (no_way (nat_lt task r.table.count && is_running r.table))

  pub last_over : (number : ℕ) (at : Link) → seat.connection ≡ Some number → IsLast (rule_at seat.made r.table task at)
  last_over number at is = by (cases_eq task 0)
    where
      own : (connection : Option ℕ) → connection ≡ Some number → IfSome connection (λ number. made_of n 0 ≡ Some (incarnation_of r.table)) → made_of n 0 ≡ Some (incarnation_of r.table)
      own None is made = absurd (cc (is))
      own (Some other) is made = made

      by : (task ≡ 0) ⊎ (task ≢ 0) → IsLast (rule_at seat.made r.table task at)
      by (inr other) = idle_last at (is_stale seat.made (incarnation_of r.table) at) refl (no_part other)
      by (inl first) =
          let here : slice_get n.seats 0 ≡ Some seat = ap (slice_get n.seats) (sym first) ∙ has in
          let made_own : seat.made ≡ Some (incarnation_of r.table) = sym (made_is n 0 seat here) ∙ own (connection_of n 0) (connection_is n 0 seat here ∙ is) c.made in
          subst IsLast (sym (ap (λ (t : ℕ). rule_at seat.made r.table t at) first ∙ complete_over r.table at seat.made some running c.done c.rests made_own)) tt

  pub last_apart : IsLast (rule_at seat.made r.table task link.Absent)
  last_apart = by (cases_eq task 0)
    where
      by : (task ≡ 0) ⊎ (task ≢ 0) → IsLast (rule_at seat.made r.table task link.Absent)
      by (inr other) = idle_last link.Absent (is_stale seat.made (incarnation_of r.table) link.Absent) refl (no_part other)
      by (inl first) = subst IsLast (sym (ap (λ (t : ℕ). rule_at seat.made r.table t link.Absent) first ∙ complete_apart r.table seat.made some running c.done c.rests)) tt

last_silent : (which : TaskRule) (task floor : ℕ) (before later : Requester) → IsLast which → SendsBy which task floor before later → ⊥
last_silent rule.Nothing task floor before later last sends = sends
last_silent rule.Stale task floor before later last sends = sends
last_silent rule.Complete task floor before later last sends = sends
last_silent other task floor before later last sends = last

sends_phase : (which : TaskRule) (task floor : ℕ) (before later : Requester) → SendsBy which task floor before later → later.reception.table.phase ≡ before.reception.table.phase
sends_phase rule.Connect task floor before later h = ap (λ (x : Reception). x.table.phase) h.sets
sends_phase (rule.Acknowledge stage) task floor before later h = ap (λ (x : Reception). x.table.phase) h.sets
sends_phase (rule.Execute stage) task floor before later h = ap (λ (x : Reception). x.table.phase) h.sets
sends_phase other task floor before later h = absurd h

-- ---- as many tasks as before

pub seats_long : (r s : Reception) (d e : DiskState) (n m : Network) (task floor : ℕ) (answer : TaskAnswer) → StepsTask task floor r s d e n m answer → length m.seats ≡ length n.seats
seats_long r s d e n m task floor answer step = by step
  where
    after_long : (answer : TaskAnswer) (x : Network) → length (network.after_answer answer x).seats ≡ length x.seats
    after_long (told.Lost losses) x = length-map x.seats network.vacated
    after_long other x = refl

    by : StepsTask task floor r s d e n m answer → length m.seats ≡ length n.seats
    by (network.over seat number at after made has is there f net) = ap (λ (x : Network). length x.seats) net ∙ after_long answer (network.with_seat task (record { made = made; connection = Some number }) (with_connection number after n)) ∙ length-set n.seats task (record { made = made; connection = Some number })
    by (network.apart seat after connections has is c net) = ap (λ (x : Network). length x.seats) net ∙ after_long answer (network.with_seat task after (record n { connections = connections })) ∙ length-set n.seats task after
    by (network.absent none rests heard) = ap (λ (x : Network). length x.seats) rests.network
    by (network.no_room rests heard) = ap (λ (x : Network). length x.seats) rests.network

-- A STEP THAT SENDS
pub sends_paired : (session : Option Session) (r s : Reception) (d e : DiskState) (n m : Network) (task floor code : ℕ) → IsReception r → IsPaired session r n → is_running r.table ≡ true → StepsTask task floor r s d e n m (told.Sent code) → IsPaired session s m
sends_paired session r s d e n m task floor code own p running step = record { tasks = seats_long r s d e n m task floor (told.Sent code) step ∙ p.tasks ∙ sym (ap (λ (t : Terms). t.count) (course r s d e n m task floor (told.Sent code) step).terms); goes = by p.goes step }
  where
    phase_is : (seat_made : Option ℕ) (at : Link) (old new : Requester) → StepsBy (rule_at seat_made r.table task at) at task floor old new (told.Sent code) → new.reception.table.phase ≡ old.reception.table.phase
    phase_is seat_made at old new steps = sends_phase (rule_at seat_made r.table task at) task floor old new (steps_send (rule_at seat_made r.table task at) at task floor old new (told.Sent code) steps tt)

    by : IsCopying session r n ⊎ HasCopied r n → StepsTask task floor r s d e n m (told.Sent code) → IsCopying session s m ⊎ HasCopied s m
    by (inl c) (network.over seat number at after made has is there f net) = inl (record { going = ap is_done (phase_is seat.made (link_over at) (requester r d at.to_task (sent_behind (not at.cut) at.to_donor)) (requester s e f.received f.sent) f.steps) ∙ c.going; talking = over_sends session r s d e n m task floor code own running p.tasks c.talking seat number at after made has is there f net })
    by (inl c) (network.apart seat after connections has is f net) = inl (record { going = ap is_done (phase_is seat.made link.Absent (requester r d [] []) (requester s e f.received f.sent) f.steps) ∙ c.going; talking = apart_sends session r s d e n m task floor code own running p.tasks c.talking seat after connections has is f net })
    by (inr c) (network.over seat number at after made has is there f net) = absurd (last_silent (rule_at seat.made r.table task (link_over at)) task floor (requester r d at.to_task (sent_behind (not at.cut) at.to_donor)) (requester s e f.received f.sent) (last_over r n own.table.some running c task seat has number (link_over at) is) (steps_send (rule_at seat.made r.table task (link_over at)) (link_over at) task floor (requester r d at.to_task (sent_behind (not at.cut) at.to_donor)) (requester s e f.received f.sent) (told.Sent code) f.steps tt))
    by (inr c) (network.apart seat after connections has is f net) = absurd (last_silent (rule_at seat.made r.table task link.Absent) task floor (requester r d [] []) (requester s e f.received f.sent) (last_apart r n own.table.some running c task seat has) (steps_send (rule_at seat.made r.table task link.Absent) link.Absent task floor (requester r d [] []) (requester s e f.received f.sent) (told.Sent code) f.steps tt))
    by copies (network.absent none rests heard) = absurd (cc (heard))
    by copies (network.no_room rests heard) = absurd (cc (heard))
