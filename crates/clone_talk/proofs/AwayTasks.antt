-- A step of a task, where a clone is turned away: it is what it is without what lies unread for
-- task 0, or task 0 takes a refusal.
use Rattle.std.proofs.Common.{ℕ, suc, ◌≡◌, ◌≢◌, ◌∙◌, ◌⊎◌, ◌<◌, ◌++◌, Bool, true, false, if◌then◌else◌, Option, None, Some, List, [], ◌∷◌, length, set, refl, sym, ap, subst, inl, inr, arith, length-append, length-set}
use Rattle.std.specs.Prelude.{slice_get, not, ◌||◌, option_map}
use Rattle.std.specs.List.{AllByRecursion}
use Rattle.std.specs.Option.{option_and_then}
use Rattle.std.proofs.lemmas.Bool.{both_ways, cases_Bool, cases_eq}
use Rattle.std.proofs.lemmas.List.{set-append_left}
use Rattle.std.proofs.lemmas.Option.{slice_get_within}
use Rattle.clone_base.proofs.MapEntries.{slice_get-pushed_front, slice_get-set_other, slice_get-set_same}
use Rattle.clone_outside.specs.DiskCalls.{DiskState}
use Rattle.clone_session.specs.Cloning.{Session}
use Rattle.clone_stream.specs.Taking.{IsPartial}
use Rattle.clone_wire.specs.Answers.{BeginsNone}
use Rattle.clone_wire.specs.declared.frame.Frame.{Frame}
use Rattle.clone_wire.specs.declared.frame.Frame.TheVariants as frame
use Rattle.clone_wire.specs.declared.frame.Side.TheVariants.{Answer}
use Rattle.clone_tasks.specs.Rules.{acknowledges, asks, is_stale, next_in, rule_at, takes_part}
use Rattle.clone_tasks.specs.Tables.{Table, awaits, incarnation_of, standing_of}
use Rattle.clone_tasks.specs.declared.rule.Link.{Link}
use Rattle.clone_tasks.specs.declared.rule.Link.TheVariants as link
use Rattle.clone_tasks.specs.declared.rule.Rule.{Rule}
use Rattle.clone_tasks.specs.declared.rule.Rule.TheVariants as rule
use Rattle.clone_tasks.specs.declared.standing.Phase.{Phase}
use Rattle.clone_tasks.specs.declared.standing.Phase.TheVariants.{Copying, Done, Opening}
use Rattle.clone_tasks.specs.declared.standing.Standing.{Standing}
use Rattle.clone_recipient.specs.Expecting.{is_expected}
use Rattle.clone_recipient.specs.Receptions.{Reception}
use Rattle.clone_fetch.specs.Fetching as fetch
use Rattle.clone_fetch.specs.Fetching.{Receives, Requester, StepsBy, TakesFrame, made_by, refusal_in, requester, says_of}
use Rattle.clone_fetch.specs.declared.answer.TaskAnswer.{TaskAnswer}
use Rattle.clone_fetch.specs.declared.answer.TaskAnswer.TheVariants as told
use Rattle.clone_network.specs.Connections.{Connection, is_open, link_over, opened, sent_behind}
use Rattle.clone_network.specs.Networks as network
use Rattle.clone_network.specs.Networks.{Connects, Fetches, Network, Seat, StepsTask, after_answer, all_given_up, hung_up, sends, with_connection, with_seat}
use Rattle.clone_paired.specs.Lines.{AreApart, connection_of}
use Rattle.clone_paired.specs.Paired.{IsPaired}
use Rattle.clone_paired.specs.Unread.{Holds}
use Rattle.clone_paired.proofs.GivingUp.{all_given, given_up_if, has_seat, seat_none}
use Rattle.clone_paired.proofs.Lookups.{connection_is}
use Rattle.clone_paired.proofs.UnreadLemmas.{Reads, holds_found, holds_read}
use Rattle.clone_talk.specs.Talking.{EndsFairly, IsRefusal, IsTurnedAway}
use Rattle.clone_talk.proofs.Away.{emptied, there_other, there_same, with_both, with_last}

-- ---- task 0 receives what a refusal is

-- the clone ended, not since it got what is garbled, or there was no memory
abbrev pub Turned : TaskAnswer → Type 0
Turned (told.Ended how) = EndsFairly false how
Turned told.NoMemory = Unit {0}
Turned other = ⊥

turned_by : (answer other : TaskAnswer) → answer ≡ other → Turned other → Turned answer
turned_by answer other is t = subst Turned (sym is) t

-- so it steps where nothing lies unread
pub record Less (which : Rule) (at : Link) (task floor : ℕ) (old new : Requester) (answer : TaskAnswer) : Type 0 where
  pub received : new.received ≡ old.received
  pub steps : StepsBy which at task floor (record old { received = [] }) (record new { received = [] }) answer

none_begun : (bytes : List ℕ) → BeginsNone Answer bytes → BeginsNone Answer []
none_begun bytes none [] rest f is s = none [] bytes f refl s
none_begun bytes none (x ∷ front) rest f is s = absurd (cc (is))

none_partial : (bytes : List ℕ) → IsPartial Answer bytes → IsPartial Answer []
none_partial bytes part = (none_begun bytes part.0, (part.1.0, record { more = bytes ++ part.1.1.more; frame = part.1.1.frame; some = omega (arith, part.1.1.some, length-append bytes part.1.1.more); spelled = part.1.1.spelled; whole = part.1.1.whole }))

refused_is : (got : Frame) → IsRefusal got → Turned (says_of (refusal_in got) got)
refused_is (frame.Refused cause) refusal = refl
refused_is other refusal = absurd refusal

expected_is : (r : Reception) (task : ℕ) (got : Frame) → IsRefusal got → awaits (standing_of r.table task) ≡ true → is_expected r task got ≡ true
expected_is r task (frame.Refused cause) refusal waits = waits
expected_is r task other refusal waits = absurd refusal

takes_turned : (task : ℕ) (got : Frame) (old new : Reception) (before after : DiskState) (answer : TaskAnswer) → IsRefusal got → awaits (standing_of old.table task) ≡ true → TakesFrame task got old new before after answer → Turned answer
takes_turned task got old new before after answer refusal waits (fetch.accepts ok takes says) = turned_by answer _ says (refused_is got refusal)
takes_turned task got old new before after answer refusal waits (fetch.rejects not_ok broken same) = absurd (both_ways (is_expected old task got) not_ok (expected_is old task got refusal waits))
takes_turned task got old new before after answer refusal waits (fetch.not_laid ok keeps sets says) = turned_by answer _ says tt
takes_turned task got old new before after answer refusal waits (fetch.no_room ok keeps sets says) = turned_by answer _ says tt

module _ (cut : Bool) (frames : List Frame) (refusals : AllByRecursion IsRefusal frames) (at : Link) (lost : fetch.is_lost at ≡ true) (task floor : ℕ) (old new : Requester) (holds : Holds Answer cut frames old.received) (answer : TaskAnswer) where
  receives_less : awaits (standing_of old.reception.table task) ≡ true → Receives task at old.reception new.reception old.disk new.disk old.received new.received answer → new.sent ≡ old.sent → Less rule.Receive at task floor old new answer ⊎ Turned answer
  receives_less waits (fetch.takes got of is takes) sent =
      let read : Reads Answer cut frames got new.received = holds_read Answer cut frames old.received new.received got holds of is in
      inr (takes_turned task got old.reception new.reception old.disk new.disk answer (subst (AllByRecursion IsRefusal) read.are refusals).0 waits takes)
  receives_less waits (fetch.garbled garbled broken same keeps) sent = absurd (holds_found Answer cut frames old.received holds garbled)
  receives_less waits (fetch.loses down part sets same keeps says) sent = inl (record { received = keeps; steps = (fetch.loses down (none_partial old.received part) sets same refl says, sent) })
  receives_less waits (fetch.waits up part sets same keeps says) sent = absurd (both_ways (fetch.is_lost at) up lost)
  receives_less waits (fetch.not_read sets same keeps says) sent = inr (turned_by answer _ says tt)

  steps_less : (which : Rule) → (which ≡ rule.Receive → awaits (standing_of old.reception.table task) ≡ true) → StepsBy which at task floor old new answer → Less which at task floor old new answer ⊎ Turned answer
  steps_less rule.Nothing waits s = inl (record { received = ap (λ (q : Requester). q.received) s.0; steps = (ap (λ (q : Requester). record q { received = [] }) s.0, s.1) })
  steps_less rule.Stale waits s = inl (record { received = ap (λ (q : Requester). q.received) s.0; steps = (ap (λ (q : Requester). record q { received = [] }) s.0, s.1) })
  steps_less rule.Connect waits s = inl (record { received = s.2; steps = (s.0, s.1, refl) })
  steps_less (rule.Acknowledge stage) waits s = inl (record { received = s.2; steps = (s.0, s.1, refl) })
  steps_less (rule.Execute stage) waits s = inl (record { received = s.2; steps = (s.0, s.1, refl) })
  steps_less rule.Receive waits s = receives_less (waits refl) s.0 s.1
  steps_less rule.Complete waits s = inl (record { received = s.1; steps = (s.0, refl) })

-- a task that receives over a connection that is lost awaits an answer
next_not : (phase : Phase) (t : Table) (task : ℕ) (standing : Standing) → next_in phase t task standing ≢ rule.Receive
next_not Opening t task standing is = cc (is)
next_not Done t task standing is = cc (is)
next_not (Copying stage) t task standing is = by (acknowledges t task standing) (asks t standing) is
  where
    by : (a b : Bool) → (if a then rule.Acknowledge stage else (if b then rule.Execute stage else rule.Nothing)) ≡ rule.Receive → ⊥
    by true b e = cc (e)
    by false true e = cc (e)
    by false false e = cc (e)

awaits_lost : (made : Option ℕ) (t : Table) (task : ℕ) → rule_at made t task link.Lost ≡ rule.Receive → awaits (standing_of t task) ≡ true
awaits_lost made t task is = by (is_stale made (incarnation_of t) link.Lost) (takes_part t task) (awaits (standing_of t task)) is
  where
    by : (stale part waits : Bool) → (if stale then rule.Stale else (if not part then rule.Nothing else (if waits then rule.Receive else next_in t.phase t task (standing_of t task)))) ≡ rule.Receive → waits ≡ true
    by true part waits e = absurd (cc (e))
    by false false waits e = absurd (cc (e))
    by false true true e = refl
    by false true false e = absurd (next_not t.phase t task (standing_of t task) e)

over_lost : (at : Connection) → is_open at ≡ false → link_over at ≡ link.Lost
over_lost at over = ap (λ (b : Bool). if at.cut || not b then link.Lost else link.Up) over ∙ by at.cut
  where
    by : (cut : Bool) → (if cut || true then link.Lost else link.Up) ≡ link.Lost
    by true = refl
    by false = refl

-- ---- each task gives its connection up

same_list : {X : Type 0} (xs ys : List X) → ((i : ℕ) → slice_get xs i ≡ slice_get ys i) → xs ≡ ys
same_list [] [] same = refl
same_list [] (y ∷ ys) same = absurd (cc (same 0))
same_list (x ∷ xs) [] same = absurd (cc (same 0))
same_list (x ∷ xs) (y ∷ ys) same =
    let first : x ≡ y = cc (same 0) in
    let rest : xs ≡ ys = same_list xs ys (λ i. same (suc i)) in
    cc (first, rest)

-- then nothing lies unread for the tasks
hung_less : (n : Network) (number : ℕ) (at : Connection) → connection_of n 0 ≡ Some number → slice_get n.connections number ≡ Some at → hung_up (with_connection number (emptied at) n) ≡ hung_up n
hung_less n number at has there = ap (λ (cs : List Connection). record (hung_up n) { connections = cs }) (same_list (all_given_up n.seats (set n.connections number (emptied at))) (all_given_up n.seats n.connections) each)
  where
    had : has_seat n.seats number ≡ true
    had = by (cases_Bool (has_seat n.seats number))
      where
        by : (has_seat n.seats number ≡ true) ⊎ (has_seat n.seats number ≡ false) → has_seat n.seats number ≡ true
        by (inl is) = is
        by (inr none) = absurd (seat_none n.seats number none 0 has)

    at_number : option_map (given_up_if (has_seat n.seats number)) (slice_get (set n.connections number (emptied at)) number) ≡ option_map (given_up_if (has_seat n.seats number)) (slice_get n.connections number)
    at_number = ap (option_map (given_up_if (has_seat n.seats number))) (slice_get-set_same n.connections number (emptied at) (slice_get_within n.connections number at there))
        ∙ ap (λ (b : Bool). option_map (given_up_if b) (Some (emptied at))) had
        ∙ sym (ap (λ (b : Bool). option_map (given_up_if b) (Some at)) had)
        ∙ sym (ap (option_map (given_up_if (has_seat n.seats number))) there)

    which : (i : ℕ) → (i ≡ number) ⊎ (i ≢ number) → option_map (given_up_if (has_seat n.seats i)) (slice_get (set n.connections number (emptied at)) i) ≡ option_map (given_up_if (has_seat n.seats i)) (slice_get n.connections i)
    which i (inl same) = subst (λ (j : ℕ). option_map (given_up_if (has_seat n.seats j)) (slice_get (set n.connections number (emptied at)) j) ≡ option_map (given_up_if (has_seat n.seats j)) (slice_get n.connections j)) (sym same) at_number
    which i (inr other) = ap (option_map (given_up_if (has_seat n.seats i))) (slice_get-set_other n.connections number i (emptied at) other)

    each : (i : ℕ) → slice_get (all_given_up n.seats (set n.connections number (emptied at))) i ≡ slice_get (all_given_up n.seats n.connections) i
    each i = all_given n.seats (set n.connections number (emptied at)) i ∙ which i (cases_eq i number) ∙ sym (all_given n.seats n.connections i)

-- a loss was found, after which each task gives its connection up
abbrev pub IsLoss : TaskAnswer → Type 0
IsLoss (told.Lost losses) = Unit {0}
IsLoss other = ⊥

after_is : (answer : TaskAnswer) → (IsLoss answer × ((x : Network) → after_answer answer x ≡ hung_up x)) ⊎ ((x : Network) → after_answer answer x ≡ x)
after_is (told.Lost losses) = inl (tt, λ x. refl)
after_is other = inr (λ x. refl)

-- ---- the step

module _ (session : Option Session) (r : Reception) (n : Network) (w : IsTurnedAway session r n) where
  abbrev pub less : Network
  less = with_connection w.number (emptied w.at) n

  -- the connection of task 0 is as it was there, and here nothing lies unread on it
  pub record Stays (there_now here_now : Network) : Type 0 where
    pub at : Connection
    pub has : connection_of there_now 0 ≡ Some w.number
    pub there : slice_get there_now.connections w.number ≡ Some at
    pub over : is_open at ≡ false
    pub cut : at.cut ≡ w.at.cut
    pub unread : at.to_task ≡ w.at.to_task
    pub is : here_now ≡ with_connection w.number (emptied at) there_now

  pub stays_away : (now : Option Session) (s : Reception) (x y : Network) → Stays x y → IsPaired now s y → IsTurnedAway now s x
  stays_away now s x y stays paired = record {
    number = w.number;
    at = stays.at;
    has = stays.has;
    there = stays.there;
    over = stays.over;
    frames = w.frames;
    refusals = w.refusals;
    unread = subst (λ (b : Bool). Holds Answer b w.frames stays.at.to_task) (sym stays.cut) (subst (Holds Answer w.at.cut w.frames) (sym stays.unread) w.unread);
    but = subst (IsPaired now s) stays.is paired;
  }

  after_less : (answer : TaskAnswer) (x y m : Network) → Stays x y → m ≡ after_answer answer x → (IsLoss answer × (after_answer answer y ≡ m)) ⊎ Stays m (after_answer answer y)
  after_less answer x y m stays is = by (after_is answer)
    where
      by : (IsLoss answer × ((z : Network) → after_answer answer z ≡ hung_up z)) ⊎ ((z : Network) → after_answer answer z ≡ z) → (IsLoss answer × (after_answer answer y ≡ m)) ⊎ Stays m (after_answer answer y)
      by (inl hangs) = inl (hangs.0, hangs.1 y ∙ ap hung_up stays.is ∙ hung_less x w.number stays.at stays.has stays.there ∙ sym (hangs.1 x) ∙ sym is)
      by (inr same) = inr (subst (λ (z : Network). Stays z (after_answer answer y)) (sym (is ∙ same x)) (subst (Stays x) (sym (same y)) stays))

  module _ (s : Reception) (d e : DiskState) (m : Network) (task floor : ℕ) (answer : TaskAnswer) where
    -- so it steps where nothing lies unread for task 0
    pub record Goes : Type 0 where
      pub to : Network
      pub steps : StepsTask task floor r s d e less to answer
      pub left : (IsLoss answer × (to ≡ m)) ⊎ Stays m to

    rests : StepsTask task floor r s d e less less answer → m ≡ n → Goes
    rests steps is = record {
      to = less;
      steps = steps;
      left = inr (subst (λ (z : Network). Stays z less) (sym is) (record { at = w.at; has = w.has; there = w.there; over = w.over; cut = refl; unread = refl; is = refl }));
    }

    goes : (x y : Network) → Stays x y → m ≡ after_answer answer x → StepsTask task floor r s d e less (after_answer answer y) answer → Goes
    goes x y stays is steps = record { to = after_answer answer y; steps = steps; left = after_less answer x y m stays is }

    seat_zero : (seat : Seat) → task ≢ 0 → connection_of (with_seat task seat n) 0 ≡ Some w.number
    seat_zero seat other = ap (option_and_then (λ (z : Seat). z.connection)) (slice_get-set_other n.seats task 0 seat (λ same. other (sym same))) ∙ w.has

    -- ---- of another task
    module _ (other : task ≢ 0) where
      another_over : AreApart n → (seat : Seat) (number : ℕ) (at after : Connection) (made : Option ℕ) → slice_get n.seats task ≡ Some seat → seat.connection ≡ Some number → slice_get n.connections number ≡ Some at → Fetches task floor seat.made made at after r s d e answer → m ≡ after_answer answer (with_seat task (record { made = made; connection = Some number }) (with_connection number after n)) → Goes
      another_over apart seat number at after made has is there f net = goes (with_seat task (record { made = made; connection = Some number }) (with_connection number after n)) (with_seat task (record { made = made; connection = Some number }) (with_connection number after less)) stays net (network.over seat number at after made has is (there_other n w.number number (emptied w.at) away ∙ there) f refl)
        where
          away : number ≢ w.number
          away same = other (apart task 0 number (connection_is n task seat has ∙ is) (w.has ∙ ap (λ x. Some x) (sym same)))

          stays : Stays (with_seat task (record { made = made; connection = Some number }) (with_connection number after n)) (with_seat task (record { made = made; connection = Some number }) (with_connection number after less))
          stays = record {
            at = w.at;
            has = seat_zero (record { made = made; connection = Some number }) other;
            there = there_other n number w.number after (λ same. away (sym same)) ∙ w.there;
            over = w.over;
            cut = refl;
            unread = refl;
            is = ap (with_seat task (record { made = made; connection = Some number })) (with_both n w.number number (emptied w.at) after away);
          }

      another_apart : (seat after : Seat) (connections : List Connection) → slice_get n.seats task ≡ Some seat → seat.connection ≡ None → Connects task floor seat after r s d e n.connections connections answer → m ≡ after_answer answer (with_seat task after (record n { connections = connections })) → Goes
      another_apart seat after connections has is c net = goes (with_seat task after (record n { connections = connections })) (with_seat task after (record less { connections = (if sends answer then less.connections ++ opened c.sent ∷ [] else less.connections) })) stays net (network.apart seat after (if sends answer then less.connections ++ opened c.sent ∷ [] else less.connections) has is (record { received = c.received; sent = c.sent; steps = c.steps; connections = refl; is = c.is ∙ ap (λ (k : ℕ). record { made = made_by (rule_at seat.made r.table task link.Absent) (incarnation_of r.table) seat.made; connection = if sends answer then Some k else None }) (sym (length-set n.connections w.number (emptied w.at))) }) refl)
        where
          within : w.number < length n.connections
          within = slice_get_within n.connections w.number w.at w.there

          there_added : (b : Bool) → slice_get (if b then n.connections ++ opened c.sent ∷ [] else n.connections) w.number ≡ Some w.at
          there_added true = slice_get-pushed_front n.connections (opened c.sent) w.number within ∙ w.there
          there_added false = w.there

          set_added : (b : Bool) → (if b then less.connections ++ opened c.sent ∷ [] else less.connections) ≡ set (if b then n.connections ++ opened c.sent ∷ [] else n.connections) w.number (emptied w.at)
          set_added true = sym (set-append_left n.connections (opened c.sent ∷ []) w.number (emptied w.at) within)
          set_added false = refl

          stays : Stays (with_seat task after (record n { connections = connections })) (with_seat task after (record less { connections = (if sends answer then less.connections ++ opened c.sent ∷ [] else less.connections) }))
          stays = record {
            at = w.at;
            has = seat_zero after other;
            there = ap (λ (cs : List Connection). slice_get cs w.number) c.connections ∙ there_added (sends answer);
            over = w.over;
            cut = refl;
            unread = refl;
            is = ap (λ (cs : List Connection). with_seat task after (record n { connections = cs })) (set_added (sends answer) ∙ ap (λ (cs : List Connection). set cs w.number (emptied w.at)) (sym c.connections));
          }

      pub another_goes : AreApart n → StepsTask task floor r s d e n m answer → Goes
      another_goes apart (network.over seat number at after made has is there f net) = another_over apart seat number at after made has is there f net
      another_goes apart (network.apart seat after connections has is c net) = another_apart seat after connections has is c net
      another_goes apart (network.absent none same idle) = rests (network.absent none (record { reception = same.reception; disk = same.disk; network = refl }) idle) same.network
      another_goes apart (network.no_room same full) = rests (network.no_room (record { reception = same.reception; disk = same.disk; network = refl }) full) same.network

  -- ---- of task 0
  module _ (s : Reception) (d e : DiskState) (m : Network) (floor : ℕ) (answer : TaskAnswer) where
    own_over : (seat : Seat) (after : Connection) (made : Option ℕ) → slice_get n.seats 0 ≡ Some seat → seat.connection ≡ Some w.number → Fetches 0 floor seat.made made w.at after r s d e answer → m ≡ after_answer answer (with_seat 0 (record { made = made; connection = Some w.number }) (with_connection w.number after n)) → Goes s d e m 0 floor answer ⊎ Turned answer
    own_over seat after made has is f net = by (steps_less w.at.cut w.frames w.refusals (link_over w.at) lost 0 floor (requester r d w.at.to_task (sent_behind (not w.at.cut) w.at.to_donor)) (requester s e f.received f.sent) w.unread answer (rule_at seat.made r.table 0 (link_over w.at)) (λ receives. awaits_lost seat.made r.table 0 (ap (rule_at seat.made r.table 0) (sym (over_lost w.at w.over)) ∙ receives)) f.steps)
      where
        lost : fetch.is_lost (link_over w.at) ≡ true
        lost = ap fetch.is_lost (over_lost w.at w.over)

        stays : f.received ≡ w.at.to_task → Stays (with_seat 0 (record { made = made; connection = Some w.number }) (with_connection w.number after n)) (with_seat 0 (record { made = made; connection = Some w.number }) (with_connection w.number (emptied after) less))
        stays keeps = record {
          at = after;
          has = ap (option_and_then (λ (z : Seat). z.connection)) (slice_get-set_same n.seats 0 (record { made = made; connection = Some w.number }) (slice_get_within n.seats 0 seat has));
          there = there_same n w.number after w.at w.there;
          over = ap is_open f.is ∙ w.over;
          cut = ap (λ (c : Connection). c.cut) f.is;
          unread = ap (λ (c : Connection). c.to_task) f.is ∙ keeps;
          is = ap (with_seat 0 (record { made = made; connection = Some w.number })) (with_last n w.number (emptied w.at) (emptied after) ∙ sym (with_last n w.number after (emptied after)));
        }

        by : Less (rule_at seat.made r.table 0 (link_over w.at)) (link_over w.at) 0 floor (requester r d w.at.to_task (sent_behind (not w.at.cut) w.at.to_donor)) (requester s e f.received f.sent) answer ⊎ Turned answer → Goes s d e m 0 floor answer ⊎ Turned answer
        by (inl l) = inl (goes s d e m 0 floor answer (with_seat 0 (record { made = made; connection = Some w.number }) (with_connection w.number after n)) (with_seat 0 (record { made = made; connection = Some w.number }) (with_connection w.number (emptied after) less)) (stays l.received) net (network.over seat w.number (emptied w.at) (emptied after) made has is (there_same n w.number (emptied w.at) w.at w.there) (record { received = []; sent = f.sent; steps = l.steps; is = ap emptied f.is; made_is = f.made_is }) refl))
        by (inr turned) = inr turned

    pub own_goes : StepsTask 0 floor r s d e n m answer → Goes s d e m 0 floor answer ⊎ Turned answer
    own_goes (network.over seat number at after made has is there f net) =
        let one : number ≡ w.number = cc (sym is ∙ sym (connection_is n 0 seat has) ∙ w.has) in
        let at_is : at ≡ w.at = cc (sym there ∙ ap (slice_get n.connections) one ∙ w.there) in
        own_over seat after made has (is ∙ ap (λ x. Some x) one) (subst (λ (c : Connection). Fetches 0 floor seat.made made c after r s d e answer) at_is f) (net ∙ ap (λ (i : ℕ). after_answer answer (with_seat 0 (record { made = made; connection = Some i }) (with_connection i after n))) one)
    own_goes (network.apart seat after connections has is c net) = absurd (cc (sym is ∙ sym (connection_is n 0 seat has) ∙ w.has))
    own_goes (network.absent none same idle) = inl (rests s d e m 0 floor answer (network.absent none (record { reception = same.reception; disk = same.disk; network = refl }) idle) same.network)
    own_goes (network.no_room same full) = inl (rests s d e m 0 floor answer (network.no_room (record { reception = same.reception; disk = same.disk; network = refl }) full) same.network)

  -- A STEP OF A TASK
  pub task_goes : (s : Reception) (d e : DiskState) (m : Network) (task floor : ℕ) (answer : TaskAnswer) → AreApart n → StepsTask task floor r s d e n m answer → Goes s d e m task floor answer ⊎ Turned answer
  task_goes s d e m task floor answer apart step = by (cases_eq task 0)
    where
      by : (task ≡ 0) ⊎ (task ≢ 0) → Goes s d e m task floor answer ⊎ Turned answer
      by (inl zero_is) = subst (λ (k : ℕ). Goes s d e m k floor answer ⊎ Turned answer) (sym zero_is) (own_goes s d e m floor answer (subst (λ (k : ℕ). StepsTask k floor r s d e n m answer) zero_is step))
      by (inr other) = inl (another_goes s d e m task floor answer other apart step)
