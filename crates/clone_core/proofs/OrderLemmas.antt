-- Each disk gets the orders of the lines that are for it, and no others.
use Rattle.std.proofs.Common.{◌≡◌, ◌≤◌, ◌+◌, ℕ, zero, suc, List, [], ◌∷◌, ◌++◌, refl, sym, ap, ◌∙◌, subst, arith, Option, None, Some, append_assoc, append-nil, filter_map, flat_map, Ok, Err}
use Rattle.std.specs.List.{AllByRecursion, cons_option}
use Rattle.clone_outside.specs.declared.disk.DiskOrder.{DiskOrder}
use Rattle.clone_script.specs.declared.lines.Line.{Line}
use Rattle.clone_script.specs.declared.lines.Line.TheVariants as lines
use Rattle.clone_plain.specs.declared.call.EngineCall.{EngineCall}
use Rattle.clone_events.specs.Events.{Side, to_donor, to_recipient, Event, made, cleaned, looked, archived, started, unbegun, occupied, acts, readied, sticks, again, showed, incomplete, hidden, damaged, ordered, opened_follower, sent, taken, lost, set_to_lose, repeated, replicated, unasked, replica_after, Events}
use Rattle.clone_events.specs.Headline.{donor_order, recipient_order}
use Rattle.clone_events.specs.Runs.{Makes, MakesOne, MakesSet, not_begun, not_changed, set, MakesClean, all_clean, not_flushed, flushed, MakesEvent, IsBy, AreOfTasks, AreOfDonor, IsRound, AreRounds, no_round, next_round, GoesOn, MakesClone, Starts, Advances, Finishes, Archives, Looks, ShowsOrNot, HidesRows, IsExchange, loses, comes, MakesFollow, asks_nothing, hides, asks, first_asks, Repeats, ShowsReplica}
use Rattle.clone_engine.specs.Disks.{Visits}
use Rattle.clone_outside.specs.DiskCalls.{DiskState}
use Rattle.clone_engine.specs.Engine.{Engine}
use Rattle.clone_engine.specs.Donor as staged
use Rattle.clone_core.specs.Steps.{StepsReplica, SystemStep}
use Rattle.clone_core.specs.System.{System, VisitsRecipient, donor_of}
use Rattle.clone_core.specs.Lines.{State, Runs}
use Rattle.clone_core.proofs.ActingLemmas.{acts_leave, same_visits}
use Rattle.clone_core.proofs.StepLemmas.{made_visits}

-- the disk of a side
abbrev pub disk_of : Side → System → DiskState
disk_of to_donor s = s.donor.engine.disk
disk_of to_recipient s = s.recipient

-- the order that goes to a side, of one that goes to another
abbrev order_for : Side → Side → DiskOrder → Option DiskOrder
order_for to_donor to_donor order = Some order
order_for to_donor to_recipient order = None
order_for to_recipient to_donor order = None
order_for to_recipient to_recipient order = Some order

-- the order that an event gives to the disk of a side
abbrev pub order_in : Side → Event → Option DiskOrder
order_in side (ordered to order) = order_for side to order
order_in side event = None

-- the order that a line gives to it
abbrev pub order_of : Side → Line → Option DiskOrder
order_of to_donor line = donor_order line
order_of to_recipient line = recipient_order line

-- the disk got the order that there is, and its count of faults doesn't fall
pub record Gets (side : Side) (s t : System) (order : Option DiskOrder) : Type 0 where
  pub later : (disk_of side s).failures ≤ (disk_of side t).failures
  pub orders : (disk_of side t).orders ≡ (disk_of side s).orders ++ cons_option order []

visits_get : (side : Side) (s t : System) → Visits (disk_of side s) (disk_of side t) → Gets side s t None
visits_get side s t is = record { later = is.later; orders = is.orders ∙ sym (append-nil (disk_of side s).orders) }

-- both disks are visited
both_get : (side : Side) (s t : System) → Visits s.donor.engine.disk t.donor.engine.disk → Visits s.recipient t.recipient → Gets side s t None
both_get to_donor s t donor recipient = visits_get to_donor s t donor
both_get to_recipient s t donor recipient = visits_get to_recipient s t recipient

same_gets : (side : Side) (s t : System) → t ≡ s → Gets side s t None
same_gets side s t is = visits_get side s t (same_visits _ _ (ap (disk_of side) is))

-- all but the recipient's disk stays of them
beside_gets : (side : Side) (s t : System) → t.donor ≡ s.donor → Visits s.recipient t.recipient → Gets side s t None
beside_gets side s t same visits = both_get side s t (same_visits _ _ (ap (λ (d : staged.Donor). d.engine.disk) same)) visits

recipient_gets : (side : Side) (s t : System) → VisitsRecipient s t → Gets side s t None
recipient_gets side s t is = beside_gets side s t (ap (λ (w : System). w.donor) is.others) is.recipient

-- all but the donor stays
lent_gets : (side : Side) (s t : System) → Visits s.donor.engine.disk t.donor.engine.disk → t ≡ record s { donor = t.donor } → Gets side s t None
lent_gets side s t visits is = both_get side s t visits (same_visits _ _ (ap (λ (w : System). w.recipient) is))

donor_gets : (side : Side) (s t : System) (order : DiskOrder) → SystemStep s (ordered to_donor order) t → Gets side s t (order_for side to_donor order)
donor_gets to_donor s t order is = record { later = omega (arith, ap (λ (w : System). w.donor.engine.disk.failures) is); orders = ap (λ (w : System). w.donor.engine.disk.orders) is }
donor_gets to_recipient s t order is = visits_get to_recipient s t (same_visits _ _ (ap (λ (w : System). w.recipient) is))

for_recipient_gets : (side : Side) (s t : System) (order : DiskOrder) → SystemStep s (ordered to_recipient order) t → Gets side s t (order_for side to_recipient order)
for_recipient_gets to_donor s t order is = visits_get to_donor s t (same_visits _ _ (ap (λ (w : System). w.donor.engine.disk) is))
for_recipient_gets to_recipient s t order is = record { later = omega (arith, ap (λ (w : System). w.recipient.failures) is); orders = ap (λ (w : System). w.recipient.orders) is }

-- what follows the clone is no disk
replica_gets : (side : Side) (s : System) (e : Event) (t : System) → StepsReplica s e t → Gets side s t None
replica_gets side s e t is = beside_gets side s t (ap (λ (w : System). w.donor) is) (same_visits _ _ (ap (λ (w : System). w.recipient) is))

pub event_gets : (side : Side) (s : System) (e : Event) (t : System) → SystemStep s e t → Gets side s t (order_in side e)
event_gets side s (made asked answer) t is = lent_gets side s t (made_visits s.donor t.donor asked answer is.0) is.1
event_gets side s (cleaned landed) t is = same_gets side s t is
event_gets side s (looked position) t is = beside_gets side s t (ap (λ (w : System). w.donor) is) (same_visits _ _ (ap (λ (w : System). w.recipient) is))
event_gets side s (archived limit reached) t is = lent_gets side s t (same_visits _ _ (ap (λ (e : Engine). e.disk) is.0.does.1)) is.1
event_gets side s (started alone) t is = beside_gets side s t (ap (λ (w : System). w.donor) is.is) is.visits
event_gets side s unbegun t is = beside_gets side s t (ap (λ (w : System). w.donor) is.is) is.visits
event_gets side s occupied t is = recipient_gets side s t is
event_gets side s (acts by changes answer) t is = let leaves = acts_leave by s t changes answer is in both_get side s t leaves.lends.disk leaves.recipient
event_gets side s (readied stage) t is = same_gets side s t is.0
event_gets side s sticks t is = same_gets side s t is.0
event_gets side s (again wish answer) t is = same_gets side s t is
event_gets side s (showed rows) t is = beside_gets side s t (ap (λ (w : System). w.donor) is.is) is.visits
event_gets side s incomplete t is = recipient_gets side s t is.0
event_gets side s hidden t is = recipient_gets side s t is.visits
event_gets side s (damaged space page why) t is = recipient_gets side s t is.0
event_gets side s (ordered to_donor order) t is = donor_gets side s t order is
event_gets side s (ordered to_recipient order) t is = for_recipient_gets side s t order is
event_gets side s (opened_follower rows position) t is = replica_gets side s (opened_follower rows position) t is
event_gets side s (sent want frame) t is = replica_gets side s (sent want frame) t is
event_gets side s (taken frame result) t is = replica_gets side s (taken frame result) t is
event_gets side s (lost position) t is = replica_gets side s (lost position) t is
event_gets side s set_to_lose t is = replica_gets side s set_to_lose t is
event_gets side s (repeated number frame result) t is = replica_gets side s (repeated number frame result) t is
event_gets side s (replicated rows) t is = same_gets side s t is
event_gets side s (unasked by) t is = same_gets side s t is

cons-append : {X : Type 0} (o : Option X) (xs : List X) → cons_option o xs ≡ cons_option o [] ++ xs
cons-append None xs = refl
cons-append (Some x) xs = refl

-- what the disk got by events
abbrev GetsAll : Side → State → State → List DiskOrder → Type 0
GetsAll side s t orders = (disk_of side t.donor).orders ≡ (disk_of side s.donor).orders ++ orders

-- what it got by the first of them
abbrev GetsOne : Side → State → State → Option DiskOrder → Type 0
GetsOne side s u first = GetsAll side s u (cons_option first [])

gets_behind : (side : Side) (s u t : State) (first : Option DiskOrder) (rest : List DiskOrder) → GetsOne side s u first → GetsAll side u t rest → GetsAll side s t (cons_option first rest)
gets_behind side s u t first rest one more =
    more ∙ ap (λ os. os ++ rest) one ∙ append_assoc (disk_of side s.donor).orders (cons_option first []) rest ∙ ap (λ os. (disk_of side s.donor).orders ++ os) (sym (cons-append first rest))

events_get : (side : Side) (s : State) (es : List Event) (t : State) → Events donor_of SystemStep s es t → GetsAll side s t (filter_map (order_in side) es)
events_get side s [] t is = ap (λ (w : State). (disk_of side w.donor).orders) (sym is) ∙ sym (append-nil (disk_of side s.donor).orders)
events_get side s (e ∷ es) t is = gets_behind side s is.0 t (order_in side e) (filter_map (order_in side) es) (event_gets side s.donor e is.0.donor is.1.step).orders (events_get side is.0 es t is.2)

-- ---- the orders of a line

abbrev NoOrder : Side → Event → Type 0
NoOrder side e = order_in side e ≡ None

none_in : (side : Side) (es : List Event) → AllByRecursion (NoOrder side) es → filter_map (order_in side) es ≡ []
none_in side [] all = refl
none_in side (e ∷ es) all = ap (λ o. cons_option o (filter_map (order_in side) es)) all.0 ∙ none_in side es all.1

pages_none : (side : Side) (pages : List (ℕ × ℕ)) (rest : List Event) → AllByRecursion (NoOrder side) rest → AllByRecursion (NoOrder side) (flat_map flushed pages ++ rest)
pages_none side [] rest is = is
pages_none side (page ∷ pages) rest is = (refl, (refl, (refl, (refl, pages_none side pages rest is))))

front_none : (side : Side) (front rest : List Event) (e : Event) → AllByRecursion (NoOrder side) (front ++ rest) → NoOrder side e → AllByRecursion (NoOrder side) (front ++ e ∷ [])
front_none side [] rest e all is = (is, tt)
front_none side (f ∷ front) rest e all is = (all.0, front_none side front rest e all.1 is)

clean_none : (side : Side) (es : List Event) → MakesClean es → AllByRecursion (NoOrder side) es
clean_none side es (all_clean pages is) = subst (AllByRecursion (NoOrder side)) (sym is) (pages_none side pages _ (refl, (refl, tt)))
clean_none side es (not_flushed pages page front rest asked given cause split is) =
    let last : Event = made asked (Err cause) in
    let all = subst (AllByRecursion (NoOrder side)) split (refl, (refl, (refl, (refl, tt)))) in
    subst (AllByRecursion (NoOrder side)) (sym (is ∙ append_assoc (flat_map flushed pages) front (last ∷ []))) (pages_none side pages (front ++ last ∷ []) (front_none side front (made asked (Ok given) ∷ rest) last all refl))

set_none : (side : Side) (writer index table key : ℕ) (value : List ℕ) (es : List Event) → MakesSet writer index table key value es → filter_map (order_in side) es ≡ []
set_none side writer index table key value es (not_begun cause is) = ap (filter_map (order_in side)) is
set_none side writer index table key value es (not_changed trx cause is) = ap (filter_map (order_in side)) is
set_none side writer index table key value es (set trx last is) = ap (filter_map (order_in side)) is

call_none : (side : Side) (asked : EngineCall) (es : List Event) → MakesOne asked es → filter_map (order_in side) es ≡ []
call_none side asked es is = ap (filter_map (order_in side)) is.1

-- no event of these kinds is an order
starts_none : (side : Side) (e : Event) → Starts e → order_in side e ≡ None
starts_none side (ordered to order) is = absurd is
starts_none side e is = refl

advances_none : (side : Side) (e : Event) → Advances e → order_in side e ≡ None
advances_none side (ordered to order) is = absurd is
advances_none side e is = refl

finishes_none : (side : Side) (e : Event) → Finishes e → order_in side e ≡ None
finishes_none side (ordered to order) is = absurd is
finishes_none side e is = refl

archives_none : (side : Side) (bytes : ℕ) (e : Event) → Archives bytes e → order_in side e ≡ None
archives_none side bytes (ordered to order) is = absurd is
archives_none side bytes e is = refl

looks_none : (side : Side) (e : Event) → Looks e → order_in side e ≡ None
looks_none side (ordered to order) is = absurd is
looks_none side e is = refl

one_none : (side : Side) (Kind : Event → Type 0) (es : List Event) → ((e : Event) → Kind e → order_in side e ≡ None) → MakesEvent Kind es → filter_map (order_in side) es ≡ []
one_none side Kind es none is = ap (filter_map (order_in side)) is.2 ∙ ap (λ o. cons_option o []) (none is.0 is.1)

-- nor is a step of a task or of the donor, or what else a line asks of a clone
by_none : (side : Side) (line : Line) (e : Event) → IsBy line e → order_in side e ≡ None
by_none side line (ordered to order) is = absurd is
by_none side line e is = refl

none_append : (side : Side) (xs ys : List Event) → AllByRecursion (NoOrder side) xs → AllByRecursion (NoOrder side) ys → AllByRecursion (NoOrder side) (xs ++ ys)
none_append side [] ys first second = second
none_append side (x ∷ xs) ys first second = (first.0, none_append side xs ys first.1 second)

tasks_none : (side : Side) (first count : ℕ) (events : List Event) → AreOfTasks first count events → AllByRecursion (NoOrder side) events
tasks_none side first zero events is = subst (AllByRecursion (NoOrder side)) (sym is) tt
tasks_none side first (suc count) [] is = absurd is
tasks_none side first (suc count) (e ∷ events) is = (by_none side _ e is.0, tasks_none side (first + 1) count events is.1)

donor_none : (side : Side) (least : ℕ) (events : List Event) → AreOfDonor least events → AllByRecursion (NoOrder side) events
donor_none side least [] is = tt
donor_none side least (e ∷ events) is = (by_none side _ e is.2, donor_none side (is.0 + 1) events is.3)

round_none : (side : Side) (tasks : ℕ) (events : List Event) → IsRound tasks events → AllByRecursion (NoOrder side) events
round_none side tasks events is = subst (AllByRecursion (NoOrder side)) (sym is.split) (none_append side is.by_tasks is.by_donor (tasks_none side 0 tasks is.by_tasks is.of_tasks) (donor_none side 0 is.by_donor is.of_donor))

rounds_none : (side : Side) (tasks : ℕ) (events : List Event) → AreRounds tasks events → AllByRecursion (NoOrder side) events
rounds_none side tasks [] no_round = tt
rounds_none side tasks events (next_round round rest is are) = none_append side round rest (round_none side tasks round is) (rounds_none side tasks rest are)

goes_none : (side : Side) (tasks : ℕ) (Kind : Event → Type 0) (es : List Event) → ((e : Event) → Kind e → order_in side e ≡ None) → GoesOn tasks Kind es → AllByRecursion (NoOrder side) es
goes_none side tasks Kind es none is = subst (AllByRecursion (NoOrder side)) (sym is.is) (none_append side is.rounds (is.last ∷ []) (rounds_none side tasks is.rounds is.are) (none is.last is.kind, tt))

clone_none : (side : Side) (tasks : ℕ) (es : List Event) → MakesClone tasks es → AllByRecursion (NoOrder side) es
clone_none side tasks es is = subst (AllByRecursion (NoOrder side)) (sym is.4) (starts_none side is.0 is.2, goes_none side tasks Finishes is.1 (finishes_none side) is.3)

rows_none : (side : Side) (e : Event) → ShowsOrNot e → order_in side e ≡ None
rows_none side (ordered to order) is = absurd is
rows_none side e is = refl

hides_none : (side : Side) (e : Event) → HidesRows e → order_in side e ≡ None
hides_none side (ordered to order) is = absurd is
hides_none side e is = refl

exchange_none : (side : Side) (es : List Event) → IsExchange es → filter_map (order_in side) es ≡ []
exchange_none side es (loses want frame is) = ap (filter_map (order_in side)) is
exchange_none side es (comes want frame result is) = ap (filter_map (order_in side)) is

follow_none : (side : Side) (es : List Event) → MakesFollow es → filter_map (order_in side) es ≡ []
follow_none side es (asks_nothing is) = ap (filter_map (order_in side)) is
follow_none side es (hides e kind is) = one_none side HidesRows es (hides_none side) (e, kind, is)
follow_none side es (asks is) = exchange_none side es is
follow_none side es (first_asks rows position rest exchange is) = ap (filter_map (order_in side)) is ∙ exchange_none side rest exchange

repeats_none : (side : Side) (number : ℕ) (e : Event) → Repeats number e → order_in side e ≡ None
repeats_none side number (ordered to order) is = absurd is
repeats_none side number e is = refl

replica_none : (side : Side) (e : Event) → ShowsReplica e → order_in side e ≡ None
replica_none side (ordered to order) is = absurd is
replica_none side e is = refl

-- the orders of a line's events are the line's
abbrev OfLine : Side → Line → List Event → Type 0
OfLine side line es = filter_map (order_in side) es ≡ cons_option (order_of side line) []

no_order : (side : Side) (line : Line) (es : List Event) → donor_order line ≡ None → recipient_order line ≡ None → filter_map (order_in side) es ≡ [] → OfLine side line es
no_order to_donor line es donor recipient is = is ∙ ap (λ o. cons_option o []) (sym donor)
no_order to_recipient line es donor recipient is = is ∙ ap (λ o. cons_option o []) (sym recipient)

to_donor_line : (side : Side) (line : Line) (order : DiskOrder) (es : List Event) → donor_order line ≡ Some order → recipient_order line ≡ None → es ≡ ordered to_donor order ∷ [] → OfLine side line es
to_donor_line to_donor line order es donor recipient is = ap (filter_map (order_in to_donor)) is ∙ ap (λ o. cons_option o []) (sym donor)
to_donor_line to_recipient line order es donor recipient is = ap (filter_map (order_in to_recipient)) is ∙ ap (λ o. cons_option o []) (sym recipient)

to_recipient_line : (side : Side) (line : Line) (order : DiskOrder) (es : List Event) → donor_order line ≡ None → recipient_order line ≡ Some order → es ≡ ordered to_recipient order ∷ [] → OfLine side line es
to_recipient_line to_donor line order es donor recipient is = ap (filter_map (order_in to_donor)) is ∙ ap (λ o. cons_option o []) (sym donor)
to_recipient_line to_recipient line order es donor recipient is = ap (filter_map (order_in to_recipient)) is ∙ ap (λ o. cons_option o []) (sym recipient)

line_orders : (side : Side) (tasks : ℕ) (next : ℕ → ℕ) (line : Line) (es : List Event) → Makes tasks next line es → OfLine side line es
line_orders side tasks next (lines.Create table buckets) es is = no_order side _ es refl refl (call_none side _ es is)
line_orders side tasks next (lines.Drop table) es is = no_order side _ es refl refl (call_none side _ es is)
line_orders side tasks next (lines.Begin writer) es is = no_order side _ es refl refl (call_none side _ es is)
line_orders side tasks next (lines.Put trx table key value) es is = no_order side _ es refl refl (call_none side _ es is)
line_orders side tasks next (lines.Delete trx table key) es is = no_order side _ es refl refl (call_none side _ es is)
line_orders side tasks next (lines.Get trx table key) es is = no_order side _ es refl refl (call_none side _ es is)
line_orders side tasks next (lines.Undo trx) es is = no_order side _ es refl refl (call_none side _ es is)
line_orders side tasks next (lines.Commit trx) es is = no_order side _ es refl refl (call_none side _ es is)
line_orders side tasks next (lines.Set writer table key value) es is = no_order side _ es refl refl (set_none side writer _ table key value es is)
line_orders side tasks next (lines.Flush space page) es is = no_order side _ es refl refl (call_none side _ es is)
line_orders side tasks next (lines.Half space page) es is = no_order side _ es refl refl (call_none side _ es is)
line_orders side tasks next (lines.Land space page) es is = no_order side _ es refl refl (call_none side _ es is)
line_orders side tasks next lines.Clean es is = no_order side _ es refl refl (none_in side es (clean_none side es is))
line_orders side tasks next lines.Checkpoint es is = no_order side _ es refl refl (call_none side _ es is)
line_orders side tasks next lines.Lsn es is = no_order side _ es refl refl (call_none side _ es is)
line_orders side tasks next (lines.Tear byte) es is = to_donor_line side _ _ es refl refl is
line_orders side tasks next (lines.FailDonor number) es is = to_donor_line side _ _ es refl refl is
line_orders side tasks next (lines.FailRecipient number) es is = to_recipient_line side _ _ es refl refl is
line_orders side tasks next lines.Start es is = no_order side _ es refl refl (one_none side Starts es (starts_none side) is)
line_orders side tasks next (lines.Task number) es is = no_order side _ es refl refl (one_none side (IsBy (lines.Task number)) es (by_none side (lines.Task number)) is)
line_orders side tasks next (lines.Serve connection) es is = no_order side _ es refl refl (one_none side (IsBy (lines.Serve connection)) es (by_none side (lines.Serve connection)) is)
line_orders side tasks next (lines.Cut connection near far) es is = no_order side _ es refl refl (one_none side (IsBy (lines.Cut connection near far)) es (by_none side (lines.Cut connection near far)) is)
line_orders side tasks next lines.Status es is = no_order side _ es refl refl (one_none side (IsBy lines.Status) es (by_none side lines.Status) is)
line_orders side tasks next (lines.Raw bytes) es is = no_order side _ es refl refl (one_none side (IsBy (lines.Raw bytes)) es (by_none side (lines.Raw bytes)) is)
line_orders side tasks next (lines.Feed connection bytes) es is = no_order side _ es refl refl (one_none side (IsBy (lines.Feed connection bytes)) es (by_none side (lines.Feed connection bytes)) is)
line_orders side tasks next lines.Abandon es is = no_order side _ es refl refl (one_none side (IsBy lines.Abandon) es (by_none side lines.Abandon) is)
line_orders side tasks next lines.Advance es is = no_order side _ es refl refl (none_in side es (goes_none side tasks Advances es (advances_none side) is))
line_orders side tasks next lines.Finish es is = no_order side _ es refl refl (none_in side es (goes_none side tasks Finishes es (finishes_none side) is))
line_orders side tasks next lines.Look es is = no_order side _ es refl refl (one_none side Looks es (looks_none side) is)
line_orders side tasks next (lines.Archive bytes) es is = no_order side _ es refl refl (one_none side (Archives bytes) es (archives_none side bytes) is)
line_orders side tasks next lines.Follow es is = no_order side _ es refl refl (follow_none side es is)
line_orders side tasks next lines.Lose es is = no_order side _ es refl refl (ap (filter_map (order_in side)) is)
line_orders side tasks next (lines.Repeat number) es is = no_order side _ es refl refl (one_none side (Repeats number) es (repeats_none side number) is)
line_orders side tasks next lines.Replica es is = no_order side _ es refl refl (one_none side ShowsReplica es (replica_none side) is)
line_orders side tasks next lines.Clone es is = no_order side _ es refl refl (none_in side es (clone_none side tasks es is))
line_orders side tasks next lines.Rows es is = no_order side _ es refl refl (one_none side ShowsOrNot es (rows_none side) is)

-- THE ORDERS OF A RUN
pub run_orders : (side : Side) (s : State) (ls : List Line) (events : List (List Event)) (t : State) → Runs s ls events t → (disk_of side t.donor).orders ≡ (disk_of side s.donor).orders ++ filter_map (order_of side) ls
run_orders side s [] [] t run = ap (λ (w : State). (disk_of side w.donor).orders) (sym run) ∙ sym (append-nil (disk_of side s.donor).orders)
run_orders side s [] (es ∷ more) t run = absurd run
run_orders side s (l ∷ ls) [] t run = absurd run
run_orders side s (l ∷ ls) (es ∷ more) t run =
    let first : GetsAll side s run.0 (cons_option (order_of side l) []) = events_get side s es run.0 run.1.1 ∙ ap (λ os. (disk_of side s.donor).orders ++ os) (line_orders side s.tasks _ l es run.1.0) in
    gets_behind side s run.0 t (order_of side l) (filter_map (order_of side) ls) first (run_orders side run.0 ls more t run.2)
