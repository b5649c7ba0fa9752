-- The rows of a clone that has ended: what reading them makes happen, and what the recipient's disk
-- holds then.
use Rattle.std.proofs.Common.{◌≡◌, ◌<◌, ◌^◌, ◌&&◌, ◌⊎◌, inl, inr, ℕ, List, Bool, true, false, refl, sym, ap, ◌∙◌, subst, Option, Some, None, is_none, is_some, MatchOption, Result, Ok, Err, IfOk, IfErr, Vec, nat_cmp}
use Rattle.std.specs.FinMap as finite
use Rattle.std.specs.Prelude.{IsErrOf}
use Rattle.std.specs.declared.alloc.Global.{Global}
use Rattle.clone_outside.specs.Causes.{Rose}
use Rattle.clone_outside.specs.Disk.{DiskImage, ForTold}
use Rattle.clone_outside.specs.DiskCalls.{Alters, DiskState}
use Rattle.clone_outside.specs.declared.mark.CloneEnd.{CloneEnd}
use Rattle.clone_outside.specs.declared.mark.Mark.TheVariants as mark
use Rattle.clone_model.specs.History.{Row, Rows, fold, rows_in}
use Rattle.clone_plain.specs.Donor.{Donor}
use Rattle.clone_recover.specs.Listing.{ListsRows}
use Rattle.clone_recover.specs.Restores.{Answers, again, anew, ForStep, HasMark, IsCause}
use Rattle.clone_recover.specs.declared.recovery.Recovered.{Recovered}
use Rattle.clone_recover.specs.declared.refusal.Why.{Why}
use Rattle.clone_recover.specs.declared.refusal.RecoverRefusal.{RecoverRefusal}
use Rattle.clone_recover.specs.declared.refusal.RecoverRefusal.TheVariants.{Incomplete, Damaged, DiskFault, NoMemory}
use Rattle.clone_staged.specs.Holds.{HoldsCopy}
use Rattle.clone_staged.proofs.EndMarks.{not_numbered, not_under_way, recovered_not_numbered, recovered_not_under_way}
use Rattle.clone_tasks.specs.declared.end.CloneEnd as tasks
use Rattle.clone_engine.specs.Disks.{Visits}
use Rattle.clone_events.specs.World.{Stop, Progress, absent, Clone, HasEnded, IsSure, before_stop}
use Rattle.clone_events.specs.Events.{IsComplete}
use Rattle.clone_recipient.specs.Receptions.{Reception}
use Rattle.clone_script.specs.declared.terms.Terms.{Terms}
use Rattle.clone_core.specs.declared.world.Copying.{Copying}
use Rattle.clone_core.specs.declared.world.Course.{Course}
use Rattle.clone_core.specs.declared.world.Course.TheVariants as course
use Rattle.clone_core.specs.declared.world.TheConstants.{SESSION}
use Rattle.clone_core.specs.System.{System, donor_of, recovered_course, tell}
use Rattle.clone_core.specs.Lines.{State}
use Rattle.clone_core.specs.Parts.{OnTerms}
use Rattle.clone_dump.specs.Shown.{ShowsRecovered}
use Rattle.clone_core.specs.Showing.{ShowsList, Reads}
use Rattle.clone_core.specs.Copied.{GoOnTalking, GoesOn, Holds, HoldsEnded, HoldsStop, IsIncomplete, KnowsItsSizes, SaysInProgress, floor_of, progress_by, progress_of, world_of}
use Rattle.clone_core.proofs.CallLemmas.{told_is, both_right}

-- a disk that is recovered holds the same clone as before, and what is listed of it are its rows
abbrev pub AgainHolds : Type 0
AgainHolds = (m n : DiskImage) (numbers : Recovered) (rows : Rows) (position : ℕ) → HoldsCopy m rows position → numbers.position < 2 ^ 64 → Answers m n numbers → HoldsCopy n rows position

abbrev pub ListedRows : Type 0
ListedRows = (m n : DiskImage) (numbers : Recovered) (rows : Rows) (position : ℕ) (list : List Row) → HoldsCopy m rows position → numbers.position < 2 ^ 64 → Answers m n numbers → ListsRows n list → list ≡ rows_in rows

abbrev pub RowsRead : Type 0
RowsRead = Result (Vec Row Global) RecoverRefusal

-- what came of recovering a disk and reading its rows
pub record Read (old new : DiskState) (result : RowsRead) : Type 0 where
  pub rows : IfOk result (λ list. ForStep old.told new.told (λ m n. ShowsRecovered m n list.items))
  pub ascending : IfOk result (λ list. (rows : Rows) × (list.items ≡ rows_in rows))
  pub cause : IfErr result (λ refusal. ForTold old.told (λ m. IsCause m refusal))
  pub fault : IsErrOf result DiskFault → Rose old.failures new.failures
  pub incomplete : IsErrOf result Incomplete → new.told ≡ old.told
  pub damaged : (space page : ℕ) (why : Why) → IsErrOf result (Damaged space page why) → new.told ≡ old.told
  pub visits : Visits old new

pub read_by : (old new : DiskState) (result : RowsRead) → IfOk result (λ list. ForStep old.told new.told (λ m n. ShowsRecovered m n list.items)) → IfOk result (λ list. (rows : Rows) × (list.items ≡ rows_in rows)) → IfErr result (λ refusal. ForTold old.told (λ m. IsCause m refusal))
    → Alters (IsErrOf result DiskFault) old new → (IsErrOf result Incomplete → new.told ≡ old.told) → ((space page : ℕ) (why : Why) → IsErrOf result (Damaged space page why) → new.told ≡ old.told) → Read old new result
read_by old new result rows ascending cause works incomplete damaged = record {
  rows = rows;
  ascending = ascending;
  cause = cause;
  fault = works.fault;
  incomplete = incomplete;
  damaged = damaged;
  visits = record { later = works.later; orders = works.orders; tells = works.tells };
}

-- what is noted of the clone then
abbrev pub doubted_by : RowsRead → Bool → Bool
doubted_by (Ok list) doubted = doubted
doubted_by (Err Incomplete) doubted = doubted
doubted_by (Err (Damaged space page why)) doubted = doubted
doubted_by (Err DiskFault) doubted = true
doubted_by (Err NoMemory) doubted = true

abbrev pub shown_by : RowsRead → Bool → Bool
shown_by (Ok list) shown = true
shown_by (Err refusal) shown = shown

abbrev pub noted : RowsRead → Clone → Clone
noted result clone = record clone { doubted = doubted_by result clone.doubted; shown = shown_by result clone.shown }

-- ---- a clone that has ended

-- what the disk holds of it, where that is known
abbrev Known : Donor → Bool → Clone → Option DiskImage → Type 0
Known d tells clone told = IsSure tells clone → ForTold told (HoldsEnded d clone)

-- the disk, and what it holds
held : (d : Donor) (donor : Bool) (clone : Clone) (told : Option DiskImage) → Known d (donor && is_some told) clone told → IsSure (donor && is_some told) clone → (m : DiskImage) × (told ≡ Some m) × HoldsEnded d clone m
held d donor clone told known sure = told_is told _ (both_right donor (is_some told) sure.told) (known sure)

-- the disk holds the clone up to its stop
abbrev HoldsAt : Donor → Option Stop → DiskImage → Type 0
HoldsAt d stop m = MatchOption stop ⊥ (λ (s : Stop). HoldsStop d s m)

-- a disk that has the mark of an end does
marked : (d : Donor) (clone : Clone) (m : DiskImage) → HoldsEnded d clone m → (IsIncomplete m → ⊥) → HoldsAt d clone.stop m
marked d clone m is there = elim is.other [
  | inl unfinished ↦ absurd (there unfinished)
  | inr holds ↦ holds
]

no_mark : (bytes : List ℕ) (m : DiskImage) → m.mark ≡ Some bytes → m.mark ≡ None → ⊥
no_mark bytes m has none = let e : Some bytes ≡ None = sym has ∙ none in cc

complete_marked : (m : DiskImage) (end : CloneEnd) → HasMark m (mark.Complete end) → IsIncomplete m → ⊥
complete_marked m end has (inl none) = no_mark _ m has none
complete_marked m end has (inr (inl begun)) = not_under_way m end SESSION has begun
complete_marked m end has (inr (inr numbered)) = not_numbered m end numbered.0 has numbered.2

answers_marked : (m n : DiskImage) (numbers : Recovered) → Answers m n numbers → IsIncomplete m → ⊥
answers_marked m n numbers (again end has told same) (inl none) = no_mark _ m has none
answers_marked m n numbers (again end has told same) (inr (inl begun)) = recovered_not_under_way m end SESSION has begun
answers_marked m n numbers (again end has told same) (inr (inr numbered)) = recovered_not_numbered m end numbered.0 has numbered.2
answers_marked m n numbers (anew end has told restores) is = complete_marked m end has is

step_at : (old new : Option DiskImage) (P : DiskImage → DiskImage → Type 0) (m : DiskImage) → old ≡ Some m → ForStep old new P → (n : DiskImage) × (new ≡ Some n) × P m n
step_at old new P m is step = let Q : Option DiskImage → Type 0 = λ o. ForStep o new P in let at = subst Q is step in (at.0, at.1.0, at.1.1)

cause_at : (old : Option DiskImage) (P : DiskImage → Type 0) (m : DiskImage) → old ≡ Some m → ForTold old P → P m
cause_at old P m is told = let Q : Option DiskImage → Type 0 = λ o. ForTold o P in subst Q is told

-- ---- a clone at its stop

-- its rows are those of the history before that
rows_at : ListedRows → (d : Donor) (stop : Option Stop) (m n : DiskImage) (list : List Row) → HoldsAt d stop m → ShowsRecovered m n list → (rows : Rows) × (list ≡ rows_in rows) × MatchOption stop ⊥ (λ (s : Stop). rows ≡ fold (before_stop s d))
rows_at listed d None m n list holds shows = absurd holds
rows_at listed d (Some s) m n list holds shows = (fold (before_stop s d), listed m n shows.numbers _ s.position list holds shows.range shows.recovers shows.lists, refl)

again_at : AgainHolds → (d : Donor) (stop : Option Stop) (m n : DiskImage) (list : List Row) → HoldsAt d stop m → ShowsRecovered m n list → HoldsAt d stop n
again_at again_holds d None m n list holds shows = holds
again_at again_holds d (Some s) m n list holds shows = again_holds m n shows.numbers _ s.position holds shows.range shows.recovers

complete_at : (d : Donor) (stop : Option Stop) (m : DiskImage) → HoldsAt d stop m → IsCause m Incomplete → ⊥
complete_at d None m holds cause = holds
complete_at d (Some s) m holds cause = holds.complete cause

sound_at : (d : Donor) (stop : Option Stop) (m : DiskImage) (space page : ℕ) (why : Why) → HoldsAt d stop m → IsCause m (Damaged space page why) → ⊥
sound_at d None m space page why holds cause = holds
sound_at d (Some s) m space page why holds cause = holds.sound space page why cause

-- ---- what happens

-- what its rows leave of how far the clone has come
abbrev pub course_by : RowsRead → Course → Course
course_by (Ok list) way = recovered_course way
course_by (Err refusal) way = way

-- the world in which that came of reading the rows
abbrev pub read_world : System → finite.FinMap nat_cmp ℕ → (disturbed doubted shown : Bool) → DiskState → Course → RowsRead → State
read_world s begun disturbed doubted shown new way came = world_of (record s { recipient = new; course = way }) begun disturbed (doubted_by came doubted) (shown_by came shown)

-- a clone that was begun is noted as recovered
pub begun_recovered : (way : Course) (c : Copying) (r : Reception) → way ≡ course.Begun c → r ≡ record c.reception { recovered = true } → course.Begun (record c { reception = r }) ≡ recovered_course way
begun_recovered way c r is noted_so = ap (λ (x : Reception). course.Begun (record c { reception = x })) noted_so ∙ sym (ap recovered_course is)

pub none_recovered : (way : Course) → ((c : Copying) → way ≡ course.Begun c → ⊥) → way ≡ recovered_course way
none_recovered course.Absent not = refl
none_recovered course.Unbegun not = refl
none_recovered (course.Begun c) not = absurd (not c refl)

recovered_progress : (way : Course) → progress_of (recovered_course way) ≡ progress_of way
recovered_progress course.Absent = refl
recovered_progress course.Unbegun = refl
recovered_progress (course.Begun c) = refl

recovered_floor : (way : Course) → floor_of (recovered_course way) ≡ floor_of way
recovered_floor course.Absent = refl
recovered_floor course.Unbegun = refl
recovered_floor (course.Begun c) = refl

same_progress : (came : RowsRead) (way : Course) → progress_of (course_by came way) ≡ progress_of way
same_progress (Ok list) way = recovered_progress way
same_progress (Err refusal) way = refl

same_floor : (came : RowsRead) (way : Course) → floor_of (course_by came way) ≡ floor_of way
same_floor (Ok list) way = recovered_floor way
same_floor (Err refusal) way = refl

sure_or_not : (tells : Bool) (clone : Clone) → IsSure tells clone ⊎ (IsSure tells clone → ⊥)
sure_or_not tells clone = by tells clone.disturbed clone.doubted refl refl refl
  where
    by : (t h d : Bool) → tells ≡ t → clone.disturbed ≡ h → clone.doubted ≡ d → IsSure tells clone ⊎ (IsSure tells clone → ⊥)
    by true false false told honest steady = inl (record { told = told; honest = honest; steady = steady })
    by true false true told honest doubted = inr (λ sure. let e : true ≡ false = sym doubted ∙ sure.steady in cc)
    by true true d told disturbed steady = inr (λ sure. let e : true ≡ false = sym disturbed ∙ sure.honest in cc)
    by false h d silent honest steady = inr (λ sure. let e : false ≡ true = sym silent ∙ sure.told in cc)

module _ (s : System) (begun : finite.FinMap nat_cmp ℕ) (disturbed doubted shown : Bool) (new : DiskState) where
  abbrev Before : State
  Before = world_of s begun disturbed doubted shown

  abbrev After : RowsRead → State
  After came = read_world s begun disturbed doubted shown new (course_by came s.course) came

  clone_noted : (came : RowsRead) → (After came).clone ≡ noted came Before.clone
  clone_noted came = λ i. record {
    progress = same_progress came s.course i;
    stop = Before.clone.stop;
    looked = s.looked;
    floor = same_floor came s.course i;
    disturbed = disturbed;
    alone = s.alone;
    doubted = doubted_by came doubted;
    shown = shown_by came shown;
    replica = s.replica;
  }

  abbrev KnownNow : Type 0
  KnownNow = Known (donor_of s) (tell s) Before.clone s.recipient.told

  told_same : Visits s.recipient new → (is_some s.donor.engine.disk.told && is_some new.told) ≡ tell s
  told_same visits = ap (λ b. is_some s.donor.engine.disk.told && b) visits.tells

  -- the rows are the clone's, where that is sure
  rows_shown : ListedRows → (list : Vec Row Global) → HasEnded Before.clone.progress → KnownNow → Visits s.recipient new → ForStep s.recipient.told new.told (λ m n. ShowsRecovered m n list.items)
      → ((rows : Rows) × (list.items ≡ rows_in rows)) → IsSure (tell s) Before.clone ⊎ (IsSure (tell s) Before.clone → ⊥) → ShowsList Before list.items (After (Ok list))
  rows_shown listed list ended known visits step ascending (inl sure) =
      let at = held (donor_of s) (is_some s.donor.engine.disk.told) Before.clone s.recipient.told known sure in
      let shows = step_at s.recipient.told new.told _ at.0 at.1 step in
      let copy = marked (donor_of s) Before.clone at.0 at.2 (answers_marked at.0 shows.0 shows.2.numbers shows.2.recovers) in
      let rows = rows_at listed (donor_of s) Before.clone.stop at.0 shows.0 list.items copy shows.2 in
      record {
        rows = rows.0;
        is = rows.1;
        happened = record { step = record { visits = visits; is = refl }; begun = refl; clone = record { now = tt; shows = record { ended = ended; are = λ _. rows.2 }; is = clone_noted (Ok list) }; tells = told_same visits; tasks = refl; sees = λ _. tt };
      }
  rows_shown listed list ended known visits step ascending (inr unsure) = record {
    rows = ascending.0;
    is = ascending.1;
    happened = record { step = record { visits = visits; is = refl }; begun = refl; clone = record { now = tt; shows = record { ended = ended; are = λ sure. absurd (unsure sure) }; is = clone_noted (Ok list) }; tells = told_same visits; tasks = refl; sees = λ _. tt };
  }

  -- a complete clone that is sure isn't found incomplete
  never_incomplete : KnownNow → ForTold s.recipient.told (λ m. IsCause m Incomplete) → IsSure (tell s) Before.clone → IsComplete Before.clone.progress → ⊥
  never_incomplete known cause sure whole =
      let at = held (donor_of s) (is_some s.donor.engine.disk.told) Before.clone s.recipient.told known sure in
      complete_at (donor_of s) Before.clone.stop at.0 (at.2.whole whole) (cause_at s.recipient.told _ at.0 at.1 cause)

  -- and none is found damaged
  never_damaged : (space page : ℕ) (why : Why) → KnownNow → ForTold s.recipient.told (λ m. IsCause m (Damaged space page why)) → IsSure (tell s) Before.clone → ⊥
  never_damaged space page why known cause sure =
      let at = held (donor_of s) (is_some s.donor.engine.disk.told) Before.clone s.recipient.told known sure in
      let found = cause_at s.recipient.told _ at.0 at.1 cause in
      sound_at (donor_of s) Before.clone.stop at.0 space page why (marked (donor_of s) Before.clone at.0 at.2 (complete_marked at.0 found.0 found.1)) found

  reads_at : ListedRows → (came : RowsRead) → HasEnded Before.clone.progress → KnownNow → Read s.recipient new came → Reads Before came (After came)
  reads_at listed (Ok list) ended known read = rows_shown listed list ended known read.visits read.rows read.ascending (sure_or_not (tell s) Before.clone)
  reads_at listed (Err Incomplete) ended known read = record {
    step = (record { others = refl; recipient = read.visits }, read.cause);
    begun = refl;
    clone = record { now = tt; shows = λ sure whole. never_incomplete known read.cause sure whole; is = refl };
    tells = told_same read.visits;
    tasks = refl;
    sees = λ _. tt;
  }
  reads_at listed (Err (Damaged space page why)) ended known read = record {
    step = (record { others = refl; recipient = read.visits }, record { why = why; word = refl; damage = read.cause });
    begun = refl;
    clone = record { now = tt; shows = (ended, λ sure. never_damaged space page why known read.cause sure); is = refl };
    tells = told_same read.visits;
    tasks = refl;
    sees = λ _. tt;
  }
  reads_at listed (Err DiskFault) ended known read = record {
    step = record { visits = record { others = refl; recipient = read.visits }; rose = read.fault refl };
    begun = refl;
    clone = record { now = tt; shows = ended; is = refl };
    tells = told_same read.visits;
    tasks = refl;
    sees = λ _. tt;
  }
  reads_at listed (Err NoMemory) ended known read = record { donor = refl; begun = refl; tells = told_same read.visits; tasks = refl; clone = (record { now = tt; shows = ended; is = refl }, refl) }

  -- WHAT HAPPENS: w is the world before it
  pub reads : ListedRows → (w : State) (way : Course) (result came : RowsRead) → Before ≡ w → way ≡ course_by came s.course → result ≡ came → HasEnded w.clone.progress → Holds Before → Read s.recipient new result
      → Reads w result (read_world s begun disturbed doubted shown new way came)
  reads listed w way result came is goes read_as ended holds read =
      let here : HasEnded Before.clone.progress = subst HasEnded (ap (λ (v : State). v.clone.progress) (sym is)) ended in
      let P : State → Type 0 = λ v. Reads v result (read_world s begun disturbed doubted shown new way came) in
      let Q : Course → Type 0 = λ c. Reads Before result (read_world s begun disturbed doubted shown new c came) in
      let R : RowsRead → Type 0 = λ o. Reads Before result (read_world s begun disturbed doubted shown new (course_by o s.course) o) in
      subst P is (subst Q (sym goes) (subst R read_as (reads_at listed result here (holds.keeps.holds here) read)))

-- ---- what the disk holds then

-- nothing is known of a clone that is doubted
doubted_known : (d : Donor) (tells : Bool) (clone : Clone) (told : Option DiskImage) → Known d tells (record clone { doubted = true }) told
doubted_known d tells clone told sure = absurd (let e : true ≡ false = sure.steady in cc)

-- the same disk holds the same
same_known : (d : Donor) (donor : Bool) (clone : Clone) (old new : Option DiskImage) → new ≡ old → Known d (donor && is_some old) clone old → Known d (donor && is_some new) clone new
same_known d donor clone old new same known = let P : Option DiskImage → Type 0 = λ o. Known d (donor && is_some o) clone o in subst P (sym same) known

-- the disk was recovered
recovered_known : AgainHolds → (d : Donor) (donor : Bool) (clone : Clone) (old new : Option DiskImage) (list : List Row) → is_some new ≡ is_some old → Known d (donor && is_some old) clone old → ForStep old new (λ m n. ShowsRecovered m n list) → Known d (donor && is_some new) (record clone { shown = true }) new
recovered_known again_holds d donor clone old new list tells known step sure =
    let here = held d donor clone old known (record { told = sym (ap (λ b. donor && b) tells) ∙ sure.told; honest = sure.honest; steady = sure.steady }) in
    let shows = step_at old new _ here.0 here.1 step in
    let copy = marked d clone here.0 here.2 (answers_marked here.0 shows.0 shows.2.numbers shows.2.recovers) in
    let still = again_at again_holds d clone.stop here.0 shows.0 list copy shows.2 in
    let P : Option DiskImage → Type 0 = λ o. ForTold o (HoldsEnded d (record clone { shown = true })) in
    subst P (sym shows.1) (record { whole = λ _. still; other = inr still; shown = λ _. shows.2.lists.mark })

noted_known : AgainHolds → (d : Donor) (donor : Bool) (clone : Clone) (old new : DiskState) (result : RowsRead) → Known d (donor && is_some old.told) clone old.told → Read old new result → Known d (donor && is_some new.told) (noted result clone) new.told
noted_known again_holds d donor clone old new (Ok list) known read = recovered_known again_holds d donor clone old.told new.told list.items read.visits.tells known read.rows
noted_known again_holds d donor clone old new (Err Incomplete) known read = same_known d donor clone old.told new.told (read.incomplete refl) known
noted_known again_holds d donor clone old new (Err (Damaged space page why)) known read = same_known d donor clone old.told new.told (read.damaged space page why refl) known
noted_known again_holds d donor clone old new (Err DiskFault) known read = doubted_known d (donor && is_some new.told) clone new.told
noted_known again_holds d donor clone old new (Err NoMemory) known read = doubted_known d (donor && is_some new.told) clone new.told

-- nothing is asked of a clone that has ended but what its disk holds
ended_stopped : (how : Option tasks.CloneEnd) → HasEnded (progress_by how) → is_none how ≡ true → ⊥
ended_stopped None ended running = ended
ended_stopped (Some how) ended running = let e : false ≡ true = running in cc

ended_sizes : (s : System) (way : Course) → HasEnded (progress_of way) → KnowsItsSizes s way
ended_sizes s course.Absent ended = absurd ended
ended_sizes s course.Unbegun ended = tt
ended_sizes s (course.Begun c) ended = λ running. absurd (ended_stopped c.reception.table.ended ended running)

ended_marked : (told : Option DiskImage) (way : Course) → HasEnded (progress_of way) → SaysInProgress way told
ended_marked told course.Absent ended = absurd ended
ended_marked told course.Unbegun ended = tt
ended_marked told (course.Begun c) ended = λ running. absurd (ended_stopped c.reception.table.ended ended running)

ended_goes : (s : System) (way : Course) → HasEnded (progress_of way) → GoesOn s way
ended_goes s course.Absent ended = absurd ended
ended_goes s course.Unbegun ended = tt
ended_goes s (course.Begun c) ended = λ running. absurd (ended_stopped c.reception.table.ended ended running)

ended_talks : (s : System) (way : Course) → HasEnded (progress_of way) → GoOnTalking s way
ended_talks s course.Absent ended = absurd ended
ended_talks s course.Unbegun ended = tt
ended_talks s (course.Begun c) ended = λ running. absurd (ended_stopped c.reception.table.ended ended running)

-- rows that are shown change nothing of its terms
course_on : (terms : Terms) (came : RowsRead) (way : Course) → OnTerms terms way → OnTerms terms (course_by came way)
course_on terms (Err refusal) way on = on
course_on terms (Ok list) course.Absent on = tt
course_on terms (Ok list) course.Unbegun on = tt
course_on terms (Ok list) (course.Begun c) on = record { count = on.count; limit = on.limit; seats = on.seats; ends = on.ends; few = on.few }

never_absent : (progress : Progress) → HasEnded progress → progress ≡ absent → ⊥
never_absent progress ended none = subst HasEnded none ended

-- WHAT HOLDS THEN
pub read_holds : AgainHolds → (s : System) (begun : finite.FinMap nat_cmp ℕ) (disturbed doubted shown : Bool) (new : DiskState) (w : State) (way : Course) (result came : RowsRead) → world_of s begun disturbed doubted shown ≡ w → way ≡ course_by came s.course → result ≡ came
    → HasEnded w.clone.progress → Holds (world_of s begun disturbed doubted shown) → Read s.recipient new result → Holds (read_world s begun disturbed doubted shown new way came)
read_holds again_holds s begun disturbed doubted shown new w way result came is goes read_as ended holds read =
    let old = world_of s begun disturbed doubted shown in
    let here : HasEnded old.clone.progress = subst HasEnded (ap (λ (v : State). v.clone.progress) (sym is)) ended in
    let behind : HasEnded (progress_of (course_by came s.course)) = subst HasEnded (sym (same_progress came s.course)) here in
    let tells = is_some s.donor.engine.disk.told in
    let known : Known (donor_of s) (tells && is_some new.told) (noted came old.clone) new.told =
    subst (λ (o : RowsRead). Known (donor_of s) (tells && is_some new.told) (noted o old.clone) new.told) read_as (noted_known again_holds (donor_of s) tells old.clone s.recipient new result (holds.keeps.holds here) read) in
    let still : Known (donor_of s) (tells && is_some new.told) (read_world s begun disturbed doubted shown new (course_by came s.course) came).clone new.told =
    subst (λ (c : Clone). Known (donor_of s) (tells && is_some new.told) c new.told) (sym (clone_noted s begun disturbed doubted shown new came)) known in
    subst (λ (c : Course). Holds (read_world s begun disturbed doubted shown new c came)) (sym goes) (record {
      terms = holds.terms;
      parts = course_on s.terms came s.course holds.parts;
      looked = holds.looked;
      short = holds.short;
      unstopped = holds.unstopped;
      sizes = ended_sizes (record s { recipient = new; course = course_by came s.course }) (course_by came s.course) behind;
      marked = ended_marked new.told (course_by came s.course) behind;
      goes_on = λ honest. ended_goes (record s { recipient = new; course = course_by came s.course }) (course_by came s.course) behind;
      talks = λ told honest. ended_talks (record s { recipient = new; course = course_by came s.course }) (course_by came s.course) behind;
      steady = λ not. absurd (not behind);
      keeps = record {
        blank_before = λ none. absurd (never_absent (progress_of (course_by came s.course)) behind none);
        commits = holds.keeps.commits;
        drops = holds.keeps.drops;
        holds = λ _. still;
      };
    })

-- ---- what came of it

-- it is told by the refusal
pub read_as : (s t : State) (result : RowsRead) (refusal : RecoverRefusal) → result ≡ Err refusal → Reads s result t → Reads s (Err refusal) t
read_as s t result refusal is reads = let P : RowsRead → Type 0 = λ r. Reads s r t in subst P is reads
