-- What a call of the engine leaves of a donor: its clone, its history, and its files.
use Rattle.std.proofs.Common.{◌≡◌, ◌+◌, ℕ, Bool, true, false, if◌then◌else◌, Option, None, Some, Result, Ok, Err, is_some, nat_lt, refl, sym, ap, subst, arith, inl, inr, ◌∙◌, ◌⊎◌}
use Rattle.std.specs.FinMap as finite
use Rattle.std.proofs.lemmas.Bool.{and_parts, cases_eq, leb-true, true≢false}
use Rattle.clone_image.proofs.Images.{get-put_other, get-put_same}
use Rattle.clone_model.specs.declared.line.TheConstants.{MOST_PAGES}
use Rattle.clone_pool.specs.declared.frame.PageName.{PageName}
use Rattle.clone_flush.specs.Calls.{Begins, Halves, Lands, State, ends_short, lengthened, new_write, with_write}
use Rattle.clone_flush.specs.Flights.{Flights, ends_before}
use Rattle.clone_flush.specs.declared.flusher.PageWrite.{PageWrite}
use Rattle.clone_flush.specs.declared.refusal.FlushRefusal.{FlushRefusal}
use Rattle.clone_flush.specs.declared.refusal.FlushRefusal.TheVariants as flush
use Rattle.clone_plain.specs.Calls.{Does, cause_of}
use Rattle.clone_plain.specs.Causes.{drop_cause}
use Rattle.clone_plain.specs.declared.call.EngineAnswer.{EngineAnswer}
use Rattle.clone_plain.specs.declared.call.EngineAnswer.TheVariants as answers
use Rattle.clone_plain.specs.declared.call.EngineCall.{EngineCall}
use Rattle.clone_plain.specs.declared.call.EngineCall.TheVariants as call
use Rattle.clone_plain.specs.declared.refusal.Cause.{Cause}
use Rattle.clone_plain.specs.declared.refusal.EngineRefusal.{EngineRefusal}
use Rattle.clone_plain.specs.declared.refusal.EngineRefusal.TheVariants as engine
use Rattle.clone_trx.specs.Calls.{create_way}
use Rattle.clone_trx.specs.Ways.{Answers, CarriesDrop, Way}
use Rattle.clone_session.specs.Cloning.{Cloning, Session}
use Rattle.clone_session.specs.Effects.{Becomes, with_noted}
use Rattle.clone_outside.specs.DiskCalls.{DiskState}
use Rattle.clone_engine.specs.Engine.{Engine, state_of}
use Rattle.clone_engine.specs.Growth.{KeepsFiles}
use Rattle.clone_engine.specs.Steps.{AnswersDrop, AnswersFlush, Did, Ends, Goes, Looks, Transacts, has_begun, way_of}
use Rattle.clone_engine.specs.Steps as steps
use Rattle.clone_engine.specs.Donor.{Donor, HasPages}
use Rattle.clone_engine.specs.Serving.{AnswersCall, Drops as DropsOn, Serves, ServesAs, noted_by, taken_by}
use Rattle.clone_engine.specs.Taken.{Taken}
use Rattle.clone_engine.proofs.GoingLemmas.{same_files}
use Rattle.clone_sides.proofs.CountLemmas.{begun_counts}
use Rattle.clone_sides.proofs.KeptLemmas.{Leaves, leaves_as, leaves_becomes, leaves_same}
use Rattle.clone_sides.proofs.HistoryLemmas.{Lengthens, does_lengthens, drop_lengthens, lengthens_none}
use Rattle.clone_sides.proofs.MadeLemmas.{Follows, Spares}

looks : (s t : Engine) (did : EngineAnswer) → Looks s t did → t ≡ s
looks s t (answers.OldestDirty page) is = is.1
looks s t did is = absurd is

ends : (s t : Engine) (did : EngineAnswer) → Ends s t did → t ≡ s
ends s t (answers.End lsn) is = is.1
ends s t did is = absurd is

-- whether the disk tells what it holds
abbrev pub Tells : Engine → Engine → Type 0
Tells s t = is_some t.disk.told ≡ is_some s.disk.told

-- WHAT A STEP LEAVES of an engine
record StepLeaves (s t : Engine) : Type 0 where
  tells : Tells s t
  lengthens : Lengthens s.donor t.donor

step_none : (s t : Engine) → t ≡ s → StepLeaves s t
step_none s t same = record { tells = ap (λ (e : Engine). is_some e.disk.told) same; lengthens = lengthens_none s.donor t.donor (ap (λ (e : Engine). e.donor) same) }

-- a call that goes its way
transacts_leave : (asked : EngineCall) (s t : Engine) (answer : Result EngineAnswer EngineRefusal) → Transacts asked s t answer → StepLeaves s t
transacts_leave asked s t answer transacts = record { tells = transacts.disk.visits.tells; lengthens = by answer transacts.goes }
  where
    way : (o : Option Cause) (w : Way) (answer : Result EngineAnswer EngineRefusal) → Answers o w s.donor t.donor s.buffer t.buffer answer (Did asked s t) → Lengthens s.donor t.donor
    way (Some cause) w answer (is, same, rest) = lengthens_none s.donor t.donor same
    way None w (Ok did) (goes, done) = does_lengthens asked did s.donor t.donor done.does
    way None w (Err refusal) (goes, same) = lengthens_none s.donor t.donor same

    by : (answer : Result EngineAnswer EngineRefusal) → Goes asked s t answer → Lengthens s.donor t.donor
    by (Ok did) goes = way (cause_of s.donor asked) (way_of s.donor asked) (Ok did) goes
    by (Err (engine.Because cause)) goes = way (cause_of s.donor asked) (way_of s.donor asked) (Err (engine.Because cause)) goes
    by (Err engine.NoMemory) (inl same) = lengthens_none s.donor t.donor (ap (λ (e : Engine). e.donor) same)
    by (Err engine.NoMemory) (inr goes) = way (cause_of s.donor asked) (way_of s.donor asked) (Err engine.NoMemory) goes

drops_leave : (table : ℕ) (s t : Engine) (answer : Result EngineAnswer EngineRefusal) → steps.Drops table s t answer → StepLeaves s t
drops_leave table s t answer drops = record { tells = drops.disk.visits.tells; lengthens = by (drop_cause s.donor table) drops.answers }
  where
    gone : (answer : Result EngineAnswer EngineRefusal) → CarriesDrop table s.donor t.donor s.buffer t.buffer answer → Lengthens s.donor t.donor
    gone (Ok did) is = drop_lengthens s.donor t.donor table is
    gone (Err refusal) (inl (log, same)) = lengthens_none s.donor t.donor same
    gone (Err refusal) (inr (fault, log, is)) = drop_lengthens s.donor t.donor table is

    by : (o : Option Cause) → AnswersDrop o table s t answer → Lengthens s.donor t.donor
    by (Some why) (is, same) = lengthens_none s.donor t.donor (ap (λ (e : Engine). e.donor) same)
    by None (inl (flies, is, same)) = lengthens_none s.donor t.donor (ap (λ (e : Engine). e.donor) same)
    by None (inr goes) = gone answer goes.donor

flushes_leave : (did : EngineAnswer) (s t : Engine) (answer : Result EngineAnswer EngineRefusal) (Flies : Result (Unit {0}) FlushRefusal → Type 0) → steps.Flushes did s t answer Flies → StepLeaves s t
flushes_leave did s t answer Flies flushes = record { tells = flushes.disk.visits.tells; lengthens = lengthens_none s.donor t.donor flushes.donor }

steps_leave : (asked : EngineCall) (d : Donor) (e : Engine) (answer : Result EngineAnswer EngineRefusal) → ServesAs asked d e answer → StepLeaves d.engine e
steps_leave (call.Create table buckets) d e answer is = transacts_leave (call.Create table buckets) d.engine e answer is
steps_leave (call.Drop table) d e answer is = drops_leave table d.engine e answer is
steps_leave (call.Begin writer index) d e answer is = transacts_leave (call.Begin writer index) d.engine e answer is
steps_leave (call.Put trx table key value) d e answer is = transacts_leave (call.Put trx table key value) d.engine e answer is
steps_leave (call.Delete trx table key) d e answer is = transacts_leave (call.Delete trx table key) d.engine e answer is
steps_leave (call.Get trx table key) d e answer is = transacts_leave (call.Get trx table key) d.engine e answer is
steps_leave (call.UndoOne trx) d e answer is = transacts_leave (call.UndoOne trx) d.engine e answer is
steps_leave (call.Commit trx) d e answer is = transacts_leave (call.Commit trx) d.engine e answer is
steps_leave (call.FlushBegin space page) d e answer is = flushes_leave answers.FlushBegin d.engine e answer _ is
steps_leave (call.FlushHalf space page) d e answer is = flushes_leave answers.FlushHalf d.engine e answer _ is
steps_leave (call.FlushLand space page) d e answer is = flushes_leave answers.FlushLand d.engine e answer _ is
steps_leave call.OldestDirty d e (Ok did) is = step_none d.engine e (looks d.engine e did is)
steps_leave call.OldestDirty d e (Err refusal) is = absurd is
steps_leave call.Checkpoint d e (Ok (answers.Checkpoint lsn)) is = record { tells = ap (λ (k : DiskState). is_some k.told) is.disk; lengthens = lengthens_none d.engine.donor e.donor is.donor }
steps_leave call.Checkpoint d e answer is = absurd is
steps_leave call.End d e (Ok did) is = step_none d.engine e (ends d.engine e did is)
steps_leave call.End d e (Err refusal) is = absurd is

-- THE FILES, and what counts of their pages

spares_same : (d t : Donor) (taken : Taken) → t.engine.flights.files ≡ d.engine.flights.files → Spares d t taken taken
spares_same d t taken files = record { stop = refl; files = same_files d.engine.flights.files t.engine.flights.files files; counts = λ s n u counts. counts }

pub follows_engine : (d t : Donor) (taken : Taken) → t.engine ≡ d.engine → Follows d t taken taken
follows_engine d t taken same = inl (spares_same d t taken (ap (λ (e : Engine). e.flights.files) same))

pub follows_same : (d t : Donor) (taken : Taken) → t.engine.flights.files ≡ d.engine.flights.files → Follows d t taken taken
follows_same d t taken files = inl (spares_same d t taken files)

-- a flush that begins may lengthen the page's file
begun_files : (page : PageName) (f : Flights) (w : PageWrite) → KeepsFiles f.files (with_write page w (lengthened (ends_short page f) page f)).files
begun_files page f w = by (ends_short page f) refl
  where
    longer : (pages : ℕ) → finite.get f.files page.space ≡ Some pages → ends_before (Some pages) page.number ≡ true → KeepsFiles f.files (finite.insert f.files page.space (page.number + 1))
    longer pages is short space had known = at (cases_eq space page.space)
      where
        at : (space ≡ page.space) ⊎ (space ≡ page.space → ⊥) → HasPages (finite.insert f.files page.space (page.number + 1)) (space, had)
        at (inl same) =
            let one : had ≡ pages = (let both : Some had ≡ Some pages = sym known ∙ ap (finite.get f.files) same ∙ is in cc) in
            record { pages = page.number + 1; known = ap (finite.get (finite.insert f.files page.space (page.number + 1))) same ∙ get-put_same f.files page.space (page.number + 1); enough = omega (arith, leb-true pages page.number short, one) }
        at (inr other) = record { pages = had; known = get-put_other f.files page.space space (page.number + 1) other ∙ known; enough = omega arith }

    more : (o : Option ℕ) → finite.get f.files page.space ≡ o → ends_before o page.number ≡ true → KeepsFiles f.files (finite.insert f.files page.space (page.number + 1))
    more None is short = absurd (true≢false (sym short))
    more (Some pages) is short = longer pages is short

    by : (short : Bool) → ends_short page f ≡ short → KeepsFiles f.files (with_write page w (lengthened short page f)).files
    by false is = same_files f.files f.files refl
    by true is = more (finite.get f.files page.space) refl (and_parts (ends_before (finite.get f.files page.space) page.number) (nat_lt page.number MOST_PAGES) is).0

module _ (page : PageName) (s t : Engine) where
  still : (x : State) → state_of t ≡ x → x.flights.files ≡ s.flights.files → KeepsFiles s.flights.files t.flights.files
  still x is files = same_files s.flights.files t.flights.files (ap (λ (y : State). y.flights.files) is ∙ files)

  begins_files : (r : Result (Unit {0}) FlushRefusal) → Begins page (state_of s) (state_of t) s.disk.told t.disk.told r → KeepsFiles s.flights.files t.flights.files
  begins_files (Ok x) (at, waits, state, disk) = subst (KeepsFiles s.flights.files) (sym (ap (λ (y : State). y.flights.files) state)) (begun_files page s.flights (new_write at s.buffer))
  begins_files (Err flush.NotDirty) (none, same, told) = still _ same refl
  begins_files (Err flush.InFlight) (at, dirty, flies, same, told) = still _ same refl
  begins_files (Err flush.NoFlush) none = absurd none
  begins_files (Err flush.DiskFault) fails = still _ fails.state refl
  begins_files (Err flush.NoMemory) (same, told) = still _ same refl

  halves_files : (r : Result (Unit {0}) FlushRefusal) → Halves page (state_of s) (state_of t) s.disk.told t.disk.told r → KeepsFiles s.flights.files t.flights.files
  halves_files (Ok x) (w, at, under, state, disk) = still _ state refl
  halves_files (Err flush.NotDirty) none = absurd none
  halves_files (Err flush.InFlight) none = absurd none
  halves_files (Err flush.NoFlush) (none, same, told) = still _ same refl
  halves_files (Err flush.DiskFault) (w, at, under, state, disk) = still _ state refl
  halves_files (Err flush.NoMemory) (same, told) = still _ same refl

  lands_files : (r : Result (Unit {0}) FlushRefusal) → Lands page (state_of s) (state_of t) s.disk.told t.disk.told r → KeepsFiles s.flights.files t.flights.files
  lands_files (Ok x) (w, at, under, state, disk) = still _ state refl
  lands_files (Err flush.NotDirty) none = absurd none
  lands_files (Err flush.InFlight) none = absurd none
  lands_files (Err flush.NoFlush) (none, same, told) = still _ same refl
  lands_files (Err flush.DiskFault) (w, at, under, state, disk) = still _ state refl
  lands_files (Err flush.NoMemory) (same, told) = still _ same refl

-- by what a call of a flush answers
flushed_files : (did : EngineAnswer) (s t : Engine) (answer : Result EngineAnswer EngineRefusal) (Does : Result (Unit {0}) FlushRefusal → Type 0) → ((r : Result (Unit {0}) FlushRefusal) → Does r → KeepsFiles s.flights.files t.flights.files) → AnswersFlush did Does answer → KeepsFiles s.flights.files t.flights.files
flushed_files did s t (Ok x) Does to (is, does) = to (Ok tt) does
flushed_files did s t (Err e) Does to (refusal, is, does) = to (Err refusal) does

-- a table is made only where no file of it is known
made_fresh : (d t : Donor) (table buckets : ℕ) (did : EngineAnswer) → Serves (call.Create table buckets) d t (Ok did) → finite.get d.engine.flights.files table ≡ None
made_fresh d t table buckets did serves = by (cause_of d.engine.donor (call.Create table buckets)) serves.steps.goes
  where
    by : (o : Option Cause) → Answers o (create_way table buckets) d.engine.donor t.engine.donor d.engine.buffer t.engine.buffer (Ok did) (Did (call.Create table buckets) d.engine t.engine) → finite.get d.engine.flights.files table ≡ None
    by (Some cause) (wrong, rest, more) = absurd (cc)
    by None (goes, done) = done.fresh

module _ (d t : Donor) (taken : Taken) (s : Session) (stands : d.cloning.session ≡ Some s) where
  flies_same : (f : Flights) → t.engine.flights ≡ f → f.files ≡ d.engine.flights.files → Follows d t taken taken
  flies_same f is files = follows_same d t taken (ap (λ (x : Flights). x.files) is ∙ files)

  pub follows_call : (asked : EngineCall) (answer : Result EngineAnswer EngineRefusal) → AnswersCall asked d t answer → Follows d t taken (taken_by asked answer taken)
  follows_call (call.Create table buckets) (Ok did) serves = inr (record {
    table = table;
    buckets = buckets;
    unknown = made_fresh d t table buckets did serves;
    files = ap (λ (f : Flights). f.files) serves.steps.flights;
    is = refl;
  })
  follows_call (call.Create table buckets) (Err refusal) serves = flies_same _ serves.steps.flights refl
  follows_call (call.Drop table) answer drops = by d.cloning.session stands drops
    where
      by : (o : Option Session) → o ≡ Some s → DropsOn o table d t answer → Follows d t taken taken
      by None none did = absurd (cc)
      by (Some x) some did = follows_engine d t taken (ap (λ (y : Donor). y.engine) did.1)
  follows_call (call.Begin writer index) answer serves = flies_same _ serves.steps.flights refl
  follows_call (call.Put trx table key value) answer serves = flies_same _ serves.steps.flights refl
  follows_call (call.Delete trx table key) answer serves = flies_same _ serves.steps.flights refl
  follows_call (call.Get trx table key) answer serves = flies_same _ serves.steps.flights refl
  follows_call (call.UndoOne trx) answer serves = flies_same _ serves.steps.flights refl
  follows_call (call.Commit trx) answer serves = flies_same _ serves.steps.flights refl
  follows_call (call.FlushBegin space page) answer serves =
      let name : PageName = record { space = space; number = page } in
      inl (record {
        stop = refl;
        files = flushed_files answers.FlushBegin d.engine t.engine answer _ (begins_files name d.engine t.engine) serves.steps.does;
        counts = begun_counts name (has_begun answer) taken.copies;
      })
  follows_call (call.FlushHalf space page) answer serves = inl (record {
    stop = refl;
    files = flushed_files answers.FlushHalf d.engine t.engine answer _ (halves_files (record { space = space; number = page }) d.engine t.engine) serves.steps.does;
    counts = λ x n u counts. counts;
  })
  follows_call (call.FlushLand space page) answer serves = inl (record {
    stop = refl;
    files = flushed_files answers.FlushLand d.engine t.engine answer _ (lands_files (record { space = space; number = page }) d.engine t.engine) serves.steps.does;
    counts = λ x n u counts. counts;
  })
  follows_call call.OldestDirty (Ok did) serves = follows_engine d t taken (looks d.engine t.engine did serves.steps)
  follows_call call.OldestDirty (Err refusal) serves = absurd serves.steps
  follows_call call.Checkpoint (Ok (answers.Checkpoint lsn)) serves = follows_same d t taken (ap (λ (x : State). x.flights.files) serves.steps.state)
  follows_call call.Checkpoint answer serves = absurd serves.steps
  follows_call call.End (Ok did) serves = follows_engine d t taken (ends d.engine t.engine did serves.steps)
  follows_call call.End (Err refusal) serves = absurd serves.steps

-- ITS CLONE: a page may be noted

leaves_noted : (asked : EngineCall) (answer : Result EngineAnswer EngineRefusal) (old new : Cloning) → Becomes new (noted_by asked answer old) → Leaves old new
leaves_noted (call.FlushBegin space page) answer old new is = by (has_begun answer) is
  where
    by : (begun : Bool) → Becomes new (if begun then with_noted (space, page) old else old) → Leaves old new
    by true is = leaves_as old (with_noted (space, page) old) new refl refl refl is
    by false is = leaves_becomes old new is
leaves_noted asked answer old new is = leaves_becomes old new is

-- WHAT A CALL OF THE ENGINE LEAVES
pub record CallLeaves (d t : Donor) : Type 0 where
  pub leaves : Leaves d.cloning t.cloning
  pub tells : Tells d.engine t.engine
  pub lengthens : Lengthens d.engine.donor t.engine.donor

module _ (d t : Donor) where
  pub leaves_same_donor : t ≡ d → CallLeaves d t
  leaves_same_donor same = record {
    leaves = leaves_same d.cloning t.cloning (ap (λ (x : Donor). x.cloning) same);
    tells = ap (λ (x : Donor). is_some x.engine.disk.told) same;
    lengthens = lengthens_none d.engine.donor t.engine.donor (ap (λ (x : Donor). x.engine.donor) same);
  }

  serves_leave : (asked : EngineCall) (answer : Result EngineAnswer EngineRefusal) → Serves asked d t answer → CallLeaves d t
  serves_leave asked answer did = record {
    leaves = leaves_noted asked answer d.cloning t.cloning did.cloning;
    tells = (steps_leave asked d t.engine answer did.steps).tells;
    lengthens = (steps_leave asked d t.engine answer did.steps).lengthens;
  }

  pub call_leaves : (asked : EngineCall) (answer : Result EngineAnswer EngineRefusal) → AnswersCall asked d t answer → CallLeaves d t
  call_leaves (call.Drop table) answer did = by d.cloning.session did
    where
      by : (o : Option Session) → DropsOn o table d t answer → CallLeaves d t
      by None serves = serves_leave (call.Drop table) answer serves
      by (Some s) refused = leaves_same_donor refused.1
  call_leaves asked answer did = serves_leave asked answer did
