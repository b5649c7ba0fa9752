-- A disk that was recovered just now: its rows, and why they weren't read.
use Rattle.std.proofs.Common.{◌≡◌, ◌<◌, ◌^◌, ℕ, true, false, refl, sym, ap, ◌∙◌, subst, List, Option, Some, None, is_some, Result, Ok, Err, IfOk, IfErr, Vec}
use Rattle.std.specs.Prelude.{IsErrOf}
use Rattle.std.specs.declared.alloc.Global.{Global}
use Rattle.clone_outside.specs.Disk.{DiskImage, ForTold}
use Rattle.clone_model.specs.History.{Row, Rows, rows_in}
use Rattle.clone_model.specs.Texts.{ended}
use Rattle.clone_plain.specs.Answers.{Text, rows_answer}
use Rattle.clone_recover.specs.Listing.{ListsRowsOn}
use Rattle.clone_recover.specs.Restores.{Answers, ForStep, HasRecovered, IsCause, IsRowsCause}
use Rattle.clone_recover.specs.declared.recovery.Recovered.{Recovered}
use Rattle.clone_recover.specs.declared.refusal.RecoverRefusal.{RecoverRefusal}
use Rattle.clone_recover.specs.declared.refusal.RecoverRefusal.TheVariants.{Incomplete, Damaged, DiskFault, NoMemory}
use Rattle.clone_dump.specs.Shown.{SaysRows, ShowsRecovered}
use Rattle.clone_dump.proofs.MarkLemmas.{not_unrecovered}

abbrev RowsRead : Type 0
RowsRead = Result (Vec Row Global) RecoverRefusal

-- the rows are those of the recovered disk
pub recovered_shows : (result : RowsRead) (old mid new : Option DiskImage) (numbers : Recovered) → numbers.position < 2 ^ 64 → ForStep old mid (λ m n. Answers m n numbers) → new ≡ mid → IfOk result (λ list. ListsRowsOn mid list.items)
    → IfOk result (λ list. ForStep old new (λ m n. ShowsRecovered m n list.items))
recovered_shows (Err e) old mid new numbers range step same lists = tt
recovered_shows (Ok list) None mid new numbers range step same lists = tt
recovered_shows (Ok list) (Some m) mid new numbers range step same lists =
    let P : Option DiskImage → Type 0 = λ o. ListsRowsOn o list.items in
    (step.0, (same ∙ step.1.0, record { numbers = numbers; range = range; recovers = step.1.1; lists = subst P step.1.0 lists }))

not_told : {X : Type 0} → false ≡ true → X
not_told is = absurd (let e = is in cc)

pub nothing : (told : Option DiskImage) → ForTold told (λ m. Unit {0})
nothing None = tt
nothing (Some m) = tt

-- a disk that tells what it holds isn't found without its mark
known : (old mid : Option DiskImage) → ForTold mid HasRecovered → is_some mid ≡ is_some old → ForTold mid (λ m. IsRowsCause m Incomplete) → ForTold old (λ m. ⊥)
known None mid has tells cause = tt
known (Some m) None has tells cause = not_told tells
known (Some m) (Some n) has tells cause = not_unrecovered n has cause

absurd_cause : (old : Option DiskImage) (P : DiskImage → Type 0) → ForTold old (λ m. ⊥) → ForTold old P
absurd_cause None P is = tt
absurd_cause (Some m) P is = absurd is

undamaged : (old mid : Option DiskImage) → is_some mid ≡ is_some old → ForTold mid (λ m. ⊥) → ForTold old (λ m. ⊥)
undamaged None mid tells is = tt
undamaged (Some m) None tells is = not_told tells
undamaged (Some m) (Some n) tells is = is

pub recovered_cause : (result : RowsRead) (old mid : Option DiskImage) → ForTold mid HasRecovered → is_some mid ≡ is_some old → IfErr result (λ refusal. ForTold mid (λ m. IsRowsCause m refusal)) → IfErr result (λ refusal. ForTold old (λ m. IsCause m refusal))
recovered_cause (Ok list) old mid has tells cause = tt
recovered_cause (Err Incomplete) old mid has tells cause = absurd_cause old _ (known old mid has tells cause)
recovered_cause (Err (Damaged space page why)) old mid has tells cause = absurd_cause old _ (undamaged old mid tells cause)
recovered_cause (Err DiskFault) old mid has tells cause = nothing old
recovered_cause (Err NoMemory) old mid has tells cause = nothing old

-- the disk is as before: it tells nothing
same_none : (old new : Option DiskImage) → ForTold old (λ m. ⊥) → is_some new ≡ is_some old → new ≡ old
same_none None None is tells = refl
same_none None (Some n) is tells = not_told (sym tells)
same_none (Some m) new is tells = absurd is

pub recovered_same : (result : RowsRead) (old mid new : Option DiskImage) → ForTold mid HasRecovered → is_some mid ≡ is_some old → new ≡ mid → IfErr result (λ refusal. ForTold mid (λ m. IsRowsCause m refusal)) → IsErrOf result Incomplete → new ≡ old
recovered_same (Ok list) old mid new has tells same cause is = absurd (let e = is in cc)
recovered_same (Err refusal) old mid new has tells same cause is =
    let is_incomplete : refusal ≡ Incomplete = cc in
    let P : RecoverRefusal → Type 0 = λ r. ForTold mid (λ m. IsRowsCause m r) in
    same ∙ same_none old mid (known old mid has tells (subst P is_incomplete cause)) tells

-- the lines of these rows
pub says_rows : (old new : Option DiskImage) (list : List Row) (text : Text) → ForStep old new (λ m n. ShowsRecovered m n list) → (rows : Rows) × (list ≡ rows_in rows) → text ≡ ended (rows_answer list) → SaysRows old new text
says_rows old new list text shows rows is =
    let P : List Row → Type 0 = λ l. ForStep old new (λ m n. ShowsRecovered m n l) in
    record { rows = rows.0; shows = subst P rows.1 shows; is = is ∙ ap (λ (l : List Row). ended (rows_answer l)) rows.1 }
