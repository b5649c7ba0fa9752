-- A change that was made at its target, and one that was taken away at once.
use Rattle.clone_trx.proofs.Common.{◌≡◌, ◌≤◌, ◌-◌, ◌==◌, ℕ, Bool, true, false, List, [], ◌∷◌, ◌++◌, length, take, replicate, sym, ap, subst, ◌∙◌, arith, inl, inr, Option, Some, None, IfSome, IsTrue, MatchOption, if◌then◌else◌, nat_cmp, length-append, nat_cmp-IsAntisymmetric, same_map, nat_cmp_total, take-append_seam, cases_eq, length-replicate, big_bytes, length-bytes_high_first, get-set_same, get-set_other, Change, Commit, Record, UndoEntry, IsEntry, record_page, records_of_change, Image, page_of, after_records, all_pages-is, contents_of, kind_of, is_unused, Donor, Changes, with_change, Locks, Opened, value_of, IsKept, IsTargetFor, told, front_of, TakesLast, Pops, Buffered, image_of, is_new}
use Rattle.std.specs.FinMap as finite
use Rattle.clone_row.specs.Slots as rows
use Rattle.clone_trx.proofs.CauseLemmas.{MayChange}
use Rattle.clone_trx.proofs.SoundChangeLemmas.{Puts}
use Rattle.clone_trx.proofs.KeptLemmas.{change_of, put_keeps}

-- a value whose slot has 80 bytes is short
pub short_value : (key : ℕ) (value : Option (List ℕ)) → length (rows.image key value) ≡ 80 → IfSome value (λ v. length v ≤ 64)
short_value key None eighty = tt
short_value key (Some v) eighty =
    let padding = length-replicate (64 - length v) (let zero : ℕ = 0 in zero) in
    let eight = length-bytes_high_first 8 key in
    let body = length-append v (replicate (64 - length v) 0) in
    let rest = length-append (big_bytes 8 key) (v ++ replicate (64 - length v) 0) in
    omega arith

-- whether the page of the undo record is made, by the number of the first record
pub made_by : (first : ℕ) (unused : Bool) → first ≡ (if unused then 0 else 1) → (first == 0) ≡ unused
made_by first true is = ap (λ n. n == 0) is
made_by first false is = ap (λ n. n == 0) is

-- so it is by the page that was read
pub first_made : (image : Image) (number first : ℕ) (page : List ℕ) → page_of image 0 number ≡ Some page → first ≡ (if is_new page then 0 else 1) → (first == 0) ≡ is_unused image 0 number
first_made image number first page there is = made_by first (is_new page) is ∙ sym (ap (λ (p : List ℕ). kind_of p == 0) (all_pages-is image 0 number page there))

-- A change that was made at its target, where all that was read is right.
pub record IsMade (d after : Donor) (b : Buffered) (trx : ℕ) (change : Change) (entry : UndoEntry) (new_page is_new : Bool) (count : ℕ) : Type 0 where
  pub right : IsTrue b.right
  pub kept : IsKept d (image_of b)
  pub may : MayChange d trx change.table change.key
  pub target : IsTargetFor d trx change b entry is_new count
  pub short : IfSome change.value (λ v. length v ≤ 64)
  pub new : new_page ≡ is_unused (image_of b) 0 (record_page trx count)
  pub made : Changes d trx change after

module _ (d after : Donor) (b : Buffered) (trx : ℕ) (change : Change) (entry : UndoEntry) (new_page is_new : Bool) (count : ℕ) (g : IsMade d after b trx change entry new_page is_new count) where
  abbrev image : Image
  image = image_of b

  abbrev bytes : List ℕ
  bytes = rows.image change.key change.value

  told_is : entry ≡ told change.table entry.page change.key entry.slot (value_of d change.table change.key)
  told_is = g.target.told g.right

  puts : Puts d after (contents_of image) trx change entry.page entry.slot
  puts = record { made = g.made; lock = g.may.lock; room = g.may.few; short = g.short; row_slot = g.target.row_slot g.right; in_range = subst IsEntry told_is g.target.in_range }

  same_records : records_of_change new_page is_new trx count entry bytes ≡ change_of d image trx change entry.page entry.slot
  same_records = λ i. records_of_change
      ((g.new ∙ ap (λ n. is_unused image 0 (record_page trx n)) g.target.count) i)
      ((g.target.unused g.right ∙ ap (λ (u : UndoEntry). is_unused image u.table u.page) told_is) i) trx (g.target.count i) (told_is i) bytes

  -- the pages are those of the donor after the change
  pub made_kept : (lsn : ℕ) → IsKept after (after_records lsn image (records_of_change new_page is_new trx count entry bytes))
  made_kept lsn = subst (λ (records : List Record). IsKept after (after_records lsn image records)) (sym same_records) (put_keeps lsn trx entry.page entry.slot d after image change g.kept puts)

-- what joined the others of its transaction, with the row's lock, is a change
pub made_change : (d : Donor) (trx : ℕ) (change : Change) (active : Opened) (locks : Locks) → MayChange d trx change.table change.key → IfSome (finite.get d.active trx) (λ c. active ≡ finite.insert d.active trx (with_change change c)) → locks ≡ finite.insert d.locks (change.table, change.key) trx
    → Changes d trx change (record d { active = active; locks = locks })
made_change d trx change active locks m joined locked =
    let with_it : active ≡ finite.insert d.active trx (with_change change m.commit) = subst (λ (o : Option Commit). IfSome o (λ c. active ≡ finite.insert d.active trx (with_change change c))) m.was_active joined in
    record { commit = m.commit; buckets = m.buckets; was_active = m.was_active; was_table = m.was_table; is = λ i. record d { active = with_it i; locks = locked i } }

-- A change that joined those of its transaction and left them at once.

-- a key that gets back the value that it had
twice : {X : Type 0} (m : finite.FinMap nat_cmp X) (k : ℕ) (x y : X) → finite.get m k ≡ Some y → finite.insert (finite.insert m k x) k y ≡ m
twice m k x y is =
    same_map nat_cmp_total nat_cmp-IsAntisymmetric (finite.insert (finite.insert m k x) k y) m
    (λ q. elim (cases_eq q k) [
      | inl same ↦ ap (finite.get (finite.insert (finite.insert m k x) k y)) same ∙ get-set_same nat_cmp_total nat_cmp-IsAntisymmetric (finite.insert m k x) k y ∙ sym is ∙ ap (finite.get m) (sym same)
      | inr other ↦ get-set_other nat_cmp_total nat_cmp-IsAntisymmetric (finite.insert m k x) k y q other ∙ get-set_other nat_cmp_total nat_cmp-IsAntisymmetric m k x q other
    ])

front_of-pushed : (changes : List Change) (change : Change) → front_of (changes ++ change ∷ []) ≡ changes
front_of-pushed changes change =
    let one : length (changes ++ change ∷ []) - 1 ≡ length changes = omega (arith, length-append changes (change ∷ [])) in
    ap (λ n. take n (changes ++ change ∷ [])) one ∙ take-append_seam changes (change ∷ [])

pub left_again : (old pushed popped : Opened) (trx : ℕ) (commit : Commit) (change : Change) (last : Option Change) → finite.get old trx ≡ Some commit → IfSome (finite.get old trx) (λ c. pushed ≡ finite.insert old trx (with_change change c)) → Pops trx pushed popped last → popped ≡ old
left_again old pushed popped trx commit change last was joined left =
    let with_it : pushed ≡ finite.insert old trx (with_change change commit) = subst (λ (o : Option Commit). IfSome o (λ c. pushed ≡ finite.insert old trx (with_change change c))) was joined in
    let there : finite.get pushed trx ≡ Some (with_change change commit) = ap (λ (m : Opened). finite.get m trx) with_it ∙ get-set_same nat_cmp_total nat_cmp-IsAntisymmetric old trx (with_change change commit) in
    let taken : TakesLast trx (with_change change commit) pushed popped last = subst (λ (o : Option Commit). MatchOption o ((last ≡ None) × (popped ≡ pushed)) (λ c. TakesLast trx c pushed popped last)) there left in
    taken.is
    ∙ (λ i. finite.insert (with_it i) trx (record commit { changes = front_of-pushed commit.changes change i }))
    ∙ twice old trx (with_change change commit) commit was
