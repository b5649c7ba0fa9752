-- A step of a donor and the disk of a recipient is one of the plain donor, and its disks stay
-- theirs.
use Rattle.std.proofs.Common.{◌==◌, ◌≡◌, ◌-◌, ◌⊎◌, inl, inr, ℕ, List, Bool, true, false, nat_le, not, unwrap_or, if◌then◌else◌, refl, sym, ap, ◌∙◌, subst, Option, None, Some, Result, Ok, Err, nat_cmp}
use Rattle.std.specs.FinMap as finite
use Rattle.std.specs.Option.{option_map, option_or}
use Rattle.clone_model.specs.declared.change.Change.{Change}
use Rattle.clone_model.specs.declared.line.TheConstants.{MOST_PAGES}
use Rattle.clone_buffer.specs.Buffered.{Buffered}
use Rattle.clone_plain.specs.declared.refusal.Cause.{Cause}
use Rattle.clone_plain.specs.declared.refusal.Cause.TheVariants as causes
use Rattle.clone_plain.specs.declared.refusal.EngineRefusal.{EngineRefusal}
use Rattle.clone_plain.specs.declared.refusal.EngineRefusal.TheVariants.{Because, NoMemory}
use Rattle.clone_plain.specs.Causes.{create_cause, drop_cause, least_holder, no_table, whether}
use Rattle.clone_base.specs.declared.limits.TheConstants.{TABLE_LIMIT}
use Rattle.std.proofs.lemmas.Bool.{true≢false}
use Rattle.clone_plain.specs.Donor.{Donor}
use Rattle.clone_plain.specs.Effects.{dropped, put_of, delete_of}
use Rattle.clone_plain.specs.Calls as calls
use Rattle.clone_plain.specs.Calls.{cause_of, is_below, AfterRefusal, IsRefused, PlainStep}
use Rattle.clone_plain.specs.declared.call.EngineAnswer.{EngineAnswer}
use Rattle.clone_plain.specs.declared.call.EngineAnswer.TheVariants as answers
use Rattle.clone_plain.specs.declared.call.EngineCall.{EngineCall}
use Rattle.clone_plain.specs.declared.call.EngineCall.TheVariants as call
use Rattle.clone_events.specs.Events.{to_donor, to_recipient, Event, made, cleaned, looked, archived, started, unbegun, occupied, acts, readied, sticks, again, showed, incomplete, hidden, damaged, ordered, opened_follower, sent, taken, lost, set_to_lose, repeated, replicated, unasked, counted, PlainEvent, Sees}
use Rattle.clone_trx.proofs.WalkLemmas.{walk_missed}
use Rattle.clone_trx.specs.Ways.{Way, reads, walks, stops, writes, freshens, lengthens, makes, drops, ends, CarriesDrop, Goes, Writes, Misses, Answers, held, page_in}
use Rattle.clone_trx.specs.Ways as ways
use Rattle.clone_trx.specs.Calls.{undo_last, change_at, number_of_entry, grown_way, pages_told, slot_way}
use Rattle.clone_buffer.specs.Writing.{written}
use Rattle.clone_space.specs.Records.{records_of_growth}
use Rattle.clone_flush.specs.declared.refusal.FlushRefusal.{FlushRefusal}
use Rattle.clone_flush.specs.declared.refusal.FlushRefusal.TheVariants as flush
use Rattle.clone_pool.specs.declared.pool.FetchRefusal.{FetchRefusal}
use Rattle.clone_pool.specs.declared.pool.FetchRefusal.TheVariants as fetch
use Rattle.clone_engine.specs.Disks.{Visits}
use Rattle.clone_engine.specs.Engine.{Engine}
use Rattle.clone_engine.specs.Steps as steps
use Rattle.clone_engine.specs.Steps.{AnswersDrop, Looks, Ends, Flushes, Transacts, Did, way_of, refusal_of}
use Rattle.clone_session.specs.Cloning.{Session}
use Rattle.clone_engine.specs.Donor as staged
use Rattle.clone_engine.specs.Serving.{AnswersCall, Drops, Serves, ServesAs}
use Rattle.clone_core.specs.Steps.{SystemStep}
use Rattle.clone_core.specs.System.{System, CallStep, donor_of}
use Rattle.clone_core.proofs.ActingLemmas.{acts_leave, same_visits}

-- whatever is read, the way stops for a cause below alone
abbrev pub StopsBelow : Way → Type 0
StopsBelow (reads page rest) = (bytes : List ℕ) → StopsBelow (rest bytes)
StopsBelow (walks course rest) = (page : ℕ) (slot : Option ℕ) (bytes : List ℕ) → StopsBelow (rest page slot bytes)
StopsBelow (stops cause) = is_below cause ≡ true
StopsBelow (writes records) = Unit {0}
StopsBelow (freshens page rest) = StopsBelow rest
StopsBelow (lengthens records rest) = StopsBelow rest
StopsBelow (makes records) = Unit {0}
StopsBelow (drops space pages records) = Unit {0}
StopsBelow ends = Unit {0}

because : {a b : Cause} → ◌≡◌ {A = EngineRefusal} (Because a) (Because b) → a ≡ b
because is = cc

same_because : {X : Type 0} {a b : Cause} → ◌≡◌ {A = Result X EngineRefusal} (Err (Because a)) (Err (Because b)) → a ≡ b
same_because is = cc

missed_below : (refusal : FetchRefusal) → is_below (ways.cause_of refusal) ≡ true
missed_below (fetch.PoolFull frames) = refl
missed_below fetch.DiskFault = refl

below_of : (a b : Cause) → a ≡ b → is_below b ≡ true → is_below a ≡ true
below_of a b is below = ap is_below is ∙ below

-- a way that is gone up to a cause stopped for one below
goes_below : (X : Type 0) (way : Way) (old new : Buffered) (cause : Cause) → StopsBelow way → Goes {X = X} way old new (Err (Because cause)) → is_below cause ≡ true
goes_below X (reads page rest) old new cause stops_below (inl miss) = below_of cause miss.0 (same_because miss.1) (below_of miss.0 _ miss.2.is (missed_below miss.2.refusal))
goes_below X (reads page rest) old new cause stops_below (inr on) = goes_below X (rest (page_in on.0 on.1)) (held on.0 on.1) on.2 cause (stops_below (page_in on.0 on.1)) on.4
goes_below X (walks course rest) old new cause stops_below (inl miss) =
    let m = walk_missed course (MOST_PAGES - 1) course.first None old new (Err (Because miss.0)) miss.2 in
    below_of cause miss.0 (same_because miss.1) (below_of miss.0 m.3.0 (because m.3.1) (below_of m.3.0 _ m.3.2.is (missed_below m.3.2.refusal)))
goes_below X (walks course rest) old new cause stops_below (inr on) = goes_below X (rest on.0.page on.0.slot (page_in on.0.at on.1)) on.1 on.2 cause (stops_below on.0.page on.0.slot (page_in on.0.at on.1)) on.4
goes_below X (stops c) old new cause stops_below is = below_of cause c (same_because is.0) stops_below
goes_below X (writes records) old new cause stops_below is = below_of cause _ is.0.is refl
goes_below X (freshens page rest) old new cause stops_below (inl none) = below_of cause none.0 (same_because none.1) (below_of none.0 _ none.2.is refl)
goes_below X (freshens page rest) old new cause stops_below (inr on) = goes_below X rest on.1 on.2 cause stops_below on.4
goes_below X (lengthens records rest) old new cause stops_below (inl full) = below_of cause full.0 (same_because full.1) (below_of full.0 _ full.2.is refl)
goes_below X (lengthens records rest) old new cause stops_below (inr on) = goes_below X rest (written records old) new cause stops_below on.1
goes_below X (makes records) old new cause stops_below (inl is) = below_of cause _ is.0.is refl
goes_below X (makes records) old new cause stops_below (inr is) = below_of cause causes.DiskFault (same_because is.1) refl
goes_below X (drops space pages records) old new cause stops_below (inl full) = below_of cause _ full.0.is refl
goes_below X (drops space pages records) old new cause stops_below (inr failed) = below_of cause causes.DiskFault failed.0 refl
goes_below X ends old new cause stops_below is = absurd (let e = is.0 in cc)

-- a space that gets a page more
grown_below : (d : Donor) (trx : ℕ) (change : Change) (last entry_number pages : ℕ) → StopsBelow (grown_way d trx change last entry_number pages)
grown_below d trx change last entry_number pages = by (nat_le MOST_PAGES pages)
  where
    by : (b : Bool) → StopsBelow (if b then stops causes.SpaceFull else lengthens (records_of_growth entry_number change.table pages last) (slot_way d trx change pages 0 false None))
    by true = refl
    by false = λ header page. tt

change_below : (d : Donor) (trx : ℕ) (change : Change) (number : ℕ) (slot : Option ℕ) (row : List ℕ) → StopsBelow (change_at d trx change number slot row)
change_below d trx change number None row = λ page. let entry_number = number_of_entry change.table page in grown_below d trx change number entry_number (pages_told page entry_number)
change_below d trx change number (Some slot_number) row = λ header page. tt

undo_below : (d : Donor) (trx : ℕ) (change : Option Change) → StopsBelow (undo_last d trx change)
undo_below d trx None = tt
undo_below d trx (Some change) = λ page row. tt

-- each stop of the way of a call is a cause below
pub way_below : (d : Donor) (asked : EngineCall) → StopsBelow (way_of d asked)
way_below d (call.Create table buckets) = λ page. tt
way_below d (call.Drop table) = λ page. tt
way_below d (call.Begin writer index) = λ page. tt
way_below d (call.Put trx table key value) = λ number slot row. change_below d trx (put_of table key value) number slot row
way_below d (call.Delete trx table key) = λ number slot row. change_below d trx (delete_of table key) number slot row
way_below d (call.Get trx table key) = λ number slot row. tt
way_below d (call.UndoOne trx) = λ header. undo_below d trx _
way_below d (call.Commit trx) = λ header page. tt
way_below d (call.FlushBegin space page) = tt
way_below d (call.FlushHalf space page) = tt
way_below d (call.FlushLand space page) = tt
way_below d call.OldestDirty = tt
way_below d call.Checkpoint = tt
way_below d call.End = tt

not_ok : {X E : Type 0} {x : X} {e : E} → ◌≡◌ {A = Result X E} (Ok x) (Err e) → ⊥
not_ok is = cc

-- a call that was carried out had no cause against it
pub answered_done : {X : Type 0} (o : Option Cause) (way : Way) (d e : Donor) (old new : Buffered) (did : X) (P : X → Type 0) → Answers o way d e old new (Ok did) P → (o ≡ None) × P did
answered_done (Some cause) way d e old new did P is = absurd (not_ok is.0)
answered_done None way d e old new did P is = (refl, is.1)

answered_refused : {X : Type 0} (o : Option Cause) (way : Way) (d e : Donor) (old new : Buffered) (cause : Cause) (P : X → Type 0) → StopsBelow way → Answers o way d e old new (Err (Because cause)) P
    → ((o ≡ Some cause) ⊎ ((o ≡ None) × (is_below cause ≡ true))) × (e ≡ d)
answered_refused (Some c) way d e old new cause P below is = (inl (ap (λ x. Some x) (sym (same_because is.0))), is.1)
answered_refused None way d e old new cause P below is = (inr (refl, goes_below _ way old new cause below is.0), is.1)

-- a call of transactions
pub transacted : (asked : EngineCall) (s t : Engine) (did : EngineAnswer) → Transacts asked s t (Ok did) → (cause_of s.donor asked ≡ None) × Did asked s t did
transacted asked s t did is = answered_done (cause_of s.donor asked) (way_of s.donor asked) s.donor t.donor s.buffer t.buffer did (Did asked s t) is.goes

-- a session isn't what the plain donor has against a drop
running_drop : (d : Donor) (table session : ℕ) → (drop_cause d table ≡ Some (causes.CloneRunning session)) ⊎ ((drop_cause d table ≡ None) × (is_below (causes.CloneRunning session) ≡ true)) → no_table d table ≡ None
running_drop d table session (inl is) = absurd (by (not (finite.contains_key d.tables table)) (least_holder d.locks table) is)
  where
    by : (none : Bool) (holder : Option ℕ) → option_or (whether none causes.NoSuchTable) (option_map causes.TableInUse holder) ≡ Some (causes.CloneRunning session) → ⊥
    by true holder is = cc
    by false None is = cc
    by false (Some trx) is = cc
running_drop d table session (inr none) = absurd (true≢false (sym none.1))

-- nor is it against a table that is to be made
running_create : (d : Donor) (table session : ℕ) → (create_cause d table ≡ Some (causes.CloneRunning session)) ⊎ ((create_cause d table ≡ None) × (is_below (causes.CloneRunning session) ≡ true)) → ⊥
running_create d table session (inl is) = by (finite.contains_key d.tables table) (finite.len d.tables == TABLE_LIMIT) is
  where
    by : (there full : Bool) → option_or (whether there causes.TableExists) (whether full causes.TooManyTables) ≡ Some (causes.CloneRunning session) → ⊥
    by true full is = cc
    by false true is = cc
    by false false is = cc
running_create d table session (inr none) = true≢false (sym none.1)

-- what is against a call refuses it
is_refused : (d : Donor) (asked : EngineCall) (cause : Cause) → (cause_of d asked ≡ Some cause) ⊎ ((cause_of d asked ≡ None) × (is_below cause ≡ true)) → IsRefused d asked cause
is_refused d (call.Create table buckets) (causes.CloneRunning session) why = running_create d table session why
is_refused d (call.Drop table) (causes.CloneRunning session) why = running_drop d table session why
is_refused d asked cause why = why

-- and then nothing has changed
after_same : (d : Donor) (asked : EngineCall) (cause : Cause) (after : Donor) → after ≡ d → AfterRefusal d asked cause after
after_same d (call.Drop table) causes.DiskFault after same = inl same
after_same d asked cause after same = same

not_transacted : (asked : EngineCall) (s t : Engine) (cause : Cause) → Transacts asked s t (Err (Because cause)) → PlainStep s.donor asked (Err cause) t.donor
not_transacted asked s t cause is =
    let at = answered_refused (cause_of s.donor asked) (way_of s.donor asked) s.donor t.donor s.buffer t.buffer cause (Did asked s t) (way_below s.donor asked) is.goes in
    (is_refused s.donor asked cause at.0, after_same s.donor asked cause t.donor at.1)

not_memory : {a : Cause} → ◌≡◌ {A = EngineRefusal} (Because a) NoMemory → ⊥
not_memory is = cc

-- a flush
flush_below : (cause : Cause) (refusal : FlushRefusal) → Because cause ≡ refusal_of refusal → is_below cause ≡ true
flush_below cause flush.NotDirty is = below_of cause _ (because is) refl
flush_below cause flush.InFlight is = below_of cause _ (because is) refl
flush_below cause flush.NoFlush is = below_of cause _ (because is) refl
flush_below cause flush.DiskFault is = below_of cause _ (because is) refl
flush_below cause flush.NoMemory is = absurd (not_memory is)

not_flushed : (did : EngineAnswer) (asked : EngineCall) (s t : Engine) (cause : Cause) (Does : Result (Unit {0}) FlushRefusal → Type 0) → cause_of s.donor asked ≡ None → Flushes did s t (Err (Because cause)) Does → PlainStep s.donor asked (Err cause) t.donor
not_flushed did asked s t cause Does none is = (is_refused s.donor asked cause (inr (none, flush_below cause is.does.0 is.does.1)), after_same s.donor asked cause t.donor is.donor)

-- a drop
record HasDropped (o : Option Cause) (table : ℕ) (s t : Engine) (did : EngineAnswer) : Type 0 where
  free : o ≡ None
  is : did ≡ answers.Drop
  donor : t.donor ≡ dropped table s.donor

has_dropped : (o : Option Cause) (table : ℕ) (s t : Engine) (did : EngineAnswer) → AnswersDrop o table s t (Ok did) → HasDropped o table s t did
has_dropped (Some why) table s t did is = absurd (not_ok is.0)
has_dropped None table s t did (inl flies) = absurd (not_ok flies.1)
has_dropped None table s t did (inr goes) = record { free = refl; is = goes.did; donor = goes.donor }

-- one that was refused: the table may be gone only where the disk failed
abbrev MayBeGone : ℕ → Donor → Donor → Cause → Type 0
MayBeGone table d after cause = (after ≡ d) ⊎ ((cause ≡ causes.DiskFault) × (after ≡ dropped table d))

may_be_gone : (table : ℕ) (d after : Donor) (old new : Buffered) (cause : Cause) → CarriesDrop {X = EngineAnswer} table d after old new (Err (Because cause)) → MayBeGone table d after cause
may_be_gone table d after old new cause (inl left) = inl left.1
may_be_gone table d after old new cause (inr failed) = inr (because failed.0, failed.2)

refused_drop : (o : Option Cause) (table : ℕ) (s t : Engine) (cause : Cause) → AnswersDrop o table s t (Err (Because cause)) → ((o ≡ Some cause) ⊎ ((o ≡ None) × (is_below cause ≡ true))) × MayBeGone table s.donor t.donor cause
refused_drop (Some why) table s t cause is = (inl (ap (λ x. Some x) (sym (same_because is.0))), inl (ap (λ (e : Engine). e.donor) is.1))
refused_drop None table s t cause (inl flies) = (inr (refl, below_of cause causes.InFlight (same_because flies.1) refl), inl (ap (λ (e : Engine). e.donor) flies.2))
refused_drop None table s t cause (inr goes) = (inr (refl, goes_below EngineAnswer (way_of s.donor (call.Drop table)) s.buffer t.buffer cause (way_below s.donor (call.Drop table)) goes.way), may_be_gone table s.donor t.donor s.buffer t.buffer cause goes.donor)

after_drop : (table : ℕ) (d after : Donor) (cause : Cause) → MayBeGone table d after cause → AfterRefusal d (call.Drop table) cause after
after_drop table d after cause (inl same) = after_same d (call.Drop table) cause after same
after_drop table d after cause (inr gone) = subst (λ (c : Cause). AfterRefusal d (call.Drop table) c after) (sym gone.0) (inr gone.1)

not_dropped : (table : ℕ) (s t : Engine) (cause : Cause) → AnswersDrop (drop_cause s.donor table) table s t (Err (Because cause)) → PlainStep s.donor (call.Drop table) (Err cause) t.donor
not_dropped table s t cause is =
    let at = refused_drop (drop_cause s.donor table) table s t cause is in
    (is_refused s.donor (call.Drop table) cause at.0, after_drop table s.donor t.donor cause at.1)

drop_wants : (o : Option Cause) (table : ℕ) (s t : Engine) → AnswersDrop o table s t (Err NoMemory) → t.donor ≡ s.donor
drop_wants (Some why) table s t is = ap (λ (e : Engine). e.donor) is.1
drop_wants None table s t (inl flies) = ap (λ (e : Engine). e.donor) flies.2
drop_wants None table s t (inr goes) = by goes.donor
  where
    by : CarriesDrop {X = EngineAnswer} table s.donor t.donor s.buffer t.buffer (Err NoMemory) → t.donor ≡ s.donor
    by (inl left) = left.1
    by (inr failed) = absurd (not_memory (sym failed.0))

-- a look for the oldest dirty page, and the log's end
looks_same : (s t : Engine) (did : EngineAnswer) → Looks s t did → t ≡ s
looks_same s t (answers.OldestDirty page) is = is.1
looks_same s t did is = absurd is

ends_same : (s t : Engine) (did : EngineAnswer) → Ends s t did → t ≡ s
ends_same s t (answers.End lsn) is = is.1
ends_same s t did is = absurd is

-- THE PLAIN DONOR'S STEP

-- an answer that is this one
does_so : (d e : Donor) (asked : EngineCall) (did given : EngineAnswer) → did ≡ given → calls.Does d asked given e → calls.Does d asked did e
does_so d e asked did given is does = subst (λ (a : EngineAnswer). calls.Does d asked a e) (sym is) does

-- the engine's step
served_done : (d : staged.Donor) (e : Engine) (asked : EngineCall) (did : EngineAnswer) → ServesAs asked d e (Ok did) → PlainStep d.engine.donor asked (Ok did) e.donor
served_done d e (call.Create table buckets) did is = let at = transacted _ d.engine e _ is in (at.0, at.1.does)
served_done d e (call.Drop table) did is = let at = has_dropped (drop_cause d.engine.donor table) table d.engine e _ is.answers in (at.free, does_so d.engine.donor e.donor (call.Drop table) did answers.Drop at.is at.donor)
served_done d e (call.Begin writer index) did is = let at = transacted _ d.engine e _ is in (at.0, at.1.does)
served_done d e (call.Put trx table key value) did is = let at = transacted _ d.engine e _ is in (at.0, at.1.does)
served_done d e (call.Delete trx table key) did is = let at = transacted _ d.engine e _ is in (at.0, at.1.does)
served_done d e (call.Get trx table key) did is = let at = transacted _ d.engine e _ is in (at.0, at.1.does)
served_done d e (call.UndoOne trx) did is = let at = transacted _ d.engine e _ is in (at.0, at.1.does)
served_done d e (call.Commit trx) did is = let at = transacted _ d.engine e _ is in (at.0, at.1.does)
served_done d e (call.FlushBegin space page) did is = (refl, does_so d.engine.donor e.donor (call.FlushBegin space page) did answers.FlushBegin is.does.0 is.donor)
served_done d e (call.FlushHalf space page) did is = (refl, does_so d.engine.donor e.donor (call.FlushHalf space page) did answers.FlushHalf is.does.0 is.donor)
served_done d e (call.FlushLand space page) did is = (refl, does_so d.engine.donor e.donor (call.FlushLand space page) did answers.FlushLand is.does.0 is.donor)
served_done d e call.OldestDirty (answers.OldestDirty page) is = (refl, ap (λ (x : Engine). x.donor) is.1)
served_done d e call.OldestDirty did is = absurd is
served_done d e call.Checkpoint (answers.Checkpoint lsn) is = (refl, is.donor)
served_done d e call.Checkpoint did is = absurd is
served_done d e call.End (answers.End lsn) is = (refl, ap (λ (x : Engine). x.donor) is.1)
served_done d e call.End did is = absurd is

served_refused : (d : staged.Donor) (e : Engine) (asked : EngineCall) (cause : Cause) → ServesAs asked d e (Err (Because cause)) → PlainStep d.engine.donor asked (Err cause) e.donor
served_refused d e (call.Create table buckets) cause is = not_transacted _ d.engine e cause is
served_refused d e (call.Drop table) cause is = not_dropped table d.engine e cause is.answers
served_refused d e (call.Begin writer index) cause is = not_transacted _ d.engine e cause is
served_refused d e (call.Put trx table key value) cause is = not_transacted _ d.engine e cause is
served_refused d e (call.Delete trx table key) cause is = not_transacted _ d.engine e cause is
served_refused d e (call.Get trx table key) cause is = not_transacted _ d.engine e cause is
served_refused d e (call.UndoOne trx) cause is = not_transacted _ d.engine e cause is
served_refused d e (call.Commit trx) cause is = not_transacted _ d.engine e cause is
served_refused d e (call.FlushBegin space page) cause is = not_flushed _ (call.FlushBegin space page) d.engine e cause _ refl is
served_refused d e (call.FlushHalf space page) cause is = not_flushed _ (call.FlushHalf space page) d.engine e cause _ refl is
served_refused d e (call.FlushLand space page) cause is = not_flushed _ (call.FlushLand space page) d.engine e cause _ refl is
served_refused d e call.OldestDirty cause is = absurd is
served_refused d e call.Checkpoint cause is = absurd is
served_refused d e call.End cause is = absurd is

-- no table is dropped while a clone runs
pub record IsRunning (asked : EngineCall) (d t : staged.Donor) (answer : Result EngineAnswer EngineRefusal) : Type 0 where
  pub cause : Cause
  pub refused : answer ≡ Err (Because cause)
  pub plain : IsRefused d.engine.donor asked cause
  pub same : t ≡ d

kept : (o : Option Session) (table : ℕ) (d t : staged.Donor) (answer : Result EngineAnswer EngineRefusal) → Drops o table d t answer → Serves (call.Drop table) d t answer ⊎ IsRunning (call.Drop table) d t answer
kept None table d t answer is = inl is
kept (Some s) table d t answer is = inr (by (no_table d.engine.donor table) refl is.0)
  where
    by : (o : Option Cause) → no_table d.engine.donor table ≡ o → answer ≡ Err (Because (unwrap_or o (causes.CloneRunning s.number))) → IsRunning (call.Drop table) d t answer
    by None there says = record { cause = causes.CloneRunning s.number; refused = says; plain = there; same = is.1 }
    by (Some why) none says = record { cause = why; refused = says; plain = is_refused d.engine.donor (call.Drop table) why (inl (ap (λ (o : Option Cause). option_or o (option_map causes.TableInUse (least_holder d.engine.donor.locks table))) none)); same = is.1 }

-- else a call is the engine's
pub served : (asked : EngineCall) (d t : staged.Donor) (answer : Result EngineAnswer EngineRefusal) → AnswersCall asked d t answer → Serves asked d t answer ⊎ IsRunning asked d t answer
served (call.Drop table) d t answer is = kept d.cloning.session table d t answer is
served asked d t answer is = inl is

pub done_refines : (d t : staged.Donor) (asked : EngineCall) (did : EngineAnswer) → AnswersCall asked d t (Ok did) → PlainStep d.engine.donor asked (Ok did) t.engine.donor
done_refines d t asked did is = elim (served asked d t (Ok did) is) [
  | inl serves ↦ served_done d t.engine asked did serves.steps
  | inr running ↦ absurd (not_ok running.refused)
]

pub refused_refines : (d t : staged.Donor) (asked : EngineCall) (cause : Cause) → AnswersCall asked d t (Err (Because cause)) → PlainStep d.engine.donor asked (Err cause) t.engine.donor
refused_refines d t asked cause is = elim (served asked d t (Err (Because cause)) is) [
  | inl serves ↦ served_refused d t.engine asked cause serves.steps
  | inr running ↦ (subst (IsRefused d.engine.donor asked) (sym (same_because running.refused)) running.plain, after_same d.engine.donor asked cause t.engine.donor (ap (λ (x : staged.Donor). x.engine.donor) running.same))
]

pub made_refines : (d t : staged.Donor) (asked : EngineCall) (answer : Result EngineAnswer Cause) → CallStep d asked answer t → PlainStep d.engine.donor asked answer t.engine.donor
made_refines d t asked (Ok did) is = done_refines d t asked did is.does
made_refines d t asked (Err cause) is = refused_refines d t asked cause is.does

same_donor : (s t : System) → t ≡ s → donor_of t ≡ donor_of s
same_donor s t is = ap donor_of is

pub refines : (s t : System) (e : Event) → SystemStep s e t → PlainEvent (donor_of s) e (donor_of t)
refines s t (made asked answer) is = made_refines s.donor t.donor asked answer is.0
refines s t (cleaned landed) is = same_donor s t is
refines s t (looked position) is = ap donor_of is
refines s t (archived limit reached) is = ap (λ (e : Engine). e.donor) is.0.does.1
refines s t (started alone) is = ap donor_of is.is
refines s t unbegun is = ap donor_of is.is
refines s t occupied is = ap donor_of is.others
refines s t (acts by changes answer) is = (acts_leave by s t changes answer is).lends.donor
refines s t (readied stage) is = same_donor s t is.0
refines s t sticks is = same_donor s t is.0
refines s t (again wish answer) is = same_donor s t is
refines s t (showed rows) is = ap donor_of is.is
refines s t incomplete is = ap donor_of is.0.others
refines s t hidden is = ap donor_of is.visits.others
refines s t (damaged space page why) is = ap donor_of is.0.others
refines s t (ordered to_donor order) is = ap donor_of is
refines s t (ordered to_recipient order) is = ap donor_of is
refines s t (opened_follower rows position) is = ap donor_of is
refines s t (sent want frame) is = ap donor_of is
refines s t (taken frame result) is = ap donor_of is
refines s t (lost position) is = ap donor_of is
refines s t set_to_lose is = ap donor_of is
refines s t (repeated number frame result) is = ap donor_of is
refines s t (replicated rows) is = same_donor s t is
refines s t (unasked by) is = same_donor s t is

-- WHAT A CALL DOES TO THE DONOR'S DISK

engine_visits : (s t : Engine) → t ≡ s → Visits s.disk t.disk
engine_visits s t is = same_visits s.disk t.disk (ap (λ (e : Engine). e.disk) is)

served_visits : (asked : EngineCall) (d : staged.Donor) (e : Engine) (answer : Result EngineAnswer EngineRefusal) → ServesAs asked d e answer → Visits d.engine.disk e.disk
served_visits (call.Create table buckets) d e answer is = is.disk.visits
served_visits (call.Drop table) d e answer is = is.disk.visits
served_visits (call.Begin writer index) d e answer is = is.disk.visits
served_visits (call.Put trx table key value) d e answer is = is.disk.visits
served_visits (call.Delete trx table key) d e answer is = is.disk.visits
served_visits (call.Get trx table key) d e answer is = is.disk.visits
served_visits (call.UndoOne trx) d e answer is = is.disk.visits
served_visits (call.Commit trx) d e answer is = is.disk.visits
served_visits (call.FlushBegin space page) d e answer is = is.disk.visits
served_visits (call.FlushHalf space page) d e answer is = is.disk.visits
served_visits (call.FlushLand space page) d e answer is = is.disk.visits
served_visits call.OldestDirty d e (Ok did) is = engine_visits d.engine e (looks_same d.engine e did is)
served_visits call.OldestDirty d e (Err refusal) is = absurd is
served_visits call.Checkpoint d e (Ok (answers.Checkpoint lsn)) is = same_visits d.engine.disk e.disk is.disk
served_visits call.Checkpoint d e answer is = absurd is
served_visits call.End d e (Ok did) is = engine_visits d.engine e (ends_same d.engine e did is)
served_visits call.End d e (Err refusal) is = absurd is

pub answered_visits : (asked : EngineCall) (d t : staged.Donor) (answer : Result EngineAnswer EngineRefusal) → AnswersCall asked d t answer → Visits d.engine.disk t.engine.disk
answered_visits asked d t answer is = elim (served asked d t answer is) [
  | inl serves ↦ served_visits asked d t.engine answer serves.steps
  | inr running ↦ engine_visits d.engine t.engine (ap (λ (x : staged.Donor). x.engine) running.same)
]

pub made_visits : (d t : staged.Donor) (asked : EngineCall) (answer : Result EngineAnswer Cause) → CallStep d asked answer t → Visits d.engine.disk t.engine.disk
made_visits d t asked (Ok did) is = answered_visits asked d t (Ok did) is.does
made_visits d t asked (Err cause) is = answered_visits asked d t (Err (Because cause)) is.does

-- WHERE MEMORY RAN OUT the plain donor is as before

wants_donor : (asked : EngineCall) (s t : Engine) → steps.Goes asked s t (Err NoMemory) → t.donor ≡ s.donor
wants_donor asked s t (inl same) = ap (λ (e : Engine). e.donor) same
wants_donor asked s t (inr follows) = by (cause_of s.donor asked) follows
  where
    by : (o : Option Cause) → Answers o (way_of s.donor asked) s.donor t.donor s.buffer t.buffer (Err NoMemory) (Did asked s t) → t.donor ≡ s.donor
    by (Some why) is = is.1
    by None is = is.1

served_wants : (asked : EngineCall) (d : staged.Donor) (e : Engine) → ServesAs asked d e (Err NoMemory) → e.donor ≡ d.engine.donor
served_wants (call.Create table buckets) d e is = wants_donor (call.Create table buckets) d.engine e is.goes
served_wants (call.Drop table) d e is = drop_wants (drop_cause d.engine.donor table) table d.engine e is.answers
served_wants (call.Begin writer index) d e is = wants_donor (call.Begin writer index) d.engine e is.goes
served_wants (call.Put trx table key value) d e is = wants_donor (call.Put trx table key value) d.engine e is.goes
served_wants (call.Delete trx table key) d e is = wants_donor (call.Delete trx table key) d.engine e is.goes
served_wants (call.Get trx table key) d e is = wants_donor (call.Get trx table key) d.engine e is.goes
served_wants (call.UndoOne trx) d e is = wants_donor (call.UndoOne trx) d.engine e is.goes
served_wants (call.Commit trx) d e is = wants_donor (call.Commit trx) d.engine e is.goes
served_wants (call.FlushBegin space page) d e is = is.donor
served_wants (call.FlushHalf space page) d e is = is.donor
served_wants (call.FlushLand space page) d e is = is.donor
served_wants call.OldestDirty d e is = absurd is
served_wants call.Checkpoint d e is = absurd is
served_wants call.End d e is = absurd is

pub answered_wants : (asked : EngineCall) (d t : staged.Donor) → AnswersCall asked d t (Err NoMemory) → t.engine.donor ≡ d.engine.donor
answered_wants asked d t is = elim (served asked d t (Err NoMemory) is) [
  | inl serves ↦ served_wants asked d t.engine serves.steps
  | inr running ↦ ap (λ (x : staged.Donor). x.engine.donor) running.same
]

-- A CALL THAT WAS REFUSED counts no transaction, and shows no value

pub refused_counts : (asked : EngineCall) (cause : Cause) (begun : finite.FinMap nat_cmp ℕ) → counted (made asked (Err cause)) begun ≡ begun
refused_counts (call.Begin writer index) cause begun = refl
refused_counts asked cause begun = refl

pub refused_sees : (asked : EngineCall) (cause : Cause) (d : Donor) → Sees d (made asked (Err cause))
refused_sees (call.Get trx table key) cause d = tt
refused_sees asked cause d = tt
