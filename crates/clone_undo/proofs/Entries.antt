-- What the bytes of an undo record tell is the record.
use Rattle.std.proofs.Common.{◌≡◌, ◌≤◌, ◌<◌, ◌+◌, ◌-◌, ◌*◌, ℕ, zero, suc, List, [], ◌∷◌, ◌++◌, length, take, replicate, arith, refl, ap, ◌∙◌, inl, inr}
use Rattle.std.proofs.lemmas.List.{take_at, length-append, length-replicate}
use Rattle.byteorder.specs.Endian.{big_bytes}
use Rattle.byteorder.specs.Numbers.{big_number-reads_back}
use Rattle.clone_undo.specs.Entries.{UndoEntry, IsEntry, IsBefore, entry_bytes, entry_of}
use Rattle.clone_undo.specs.Places.{record_page}
use Rattle.clone_undo.specs.Slots.{entry_on, entries}

short : (state : ℕ) (value : List ℕ) → IsBefore state value → length value ≤ 64
short state value is = elim is [ inl present ↦ present.1 | inr absent ↦ omega (arith, ap length absent.1) ]

pub length-entry_bytes : (e : UndoEntry) → IsEntry e → length (entry_bytes e) ≡ 96
length-entry_bytes e is =
    let fits = short e.state e.value is.before in
    let padding = length-replicate (72 - length e.value) (let zero : ℕ = 0 in zero) in
    let rest = length-append e.value (replicate (72 - length e.value) 0) in
    omega arith

same_entry : {t u p q s r a b k l : ℕ} {v w : List ℕ} → t ≡ u → p ≡ q → s ≡ r → a ≡ b → k ≡ l → v ≡ w
    → ◌≡◌ {A = UndoEntry} (record { table = t; page = p; slot = s; state = a; key = k; value = v }) (record { table = u; page = q; slot = r; state = b; key = l; value = w })
same_entry et ep es ea ek ev = λ i. record { table = et i; page = ep i; slot = es i; state = ea i; key = ek i; value = ev i }

one : (x : ℕ) → x * 1 + 0 ≡ x
one x = omega arith

pub reads_back : (e : UndoEntry) → IsEntry e → entry_of (entry_bytes e) ≡ e
reads_back e is =
    let tail : List ℕ = e.value ++ replicate (72 - length e.value) 0 in
    let behind_slot : List ℕ = e.state ∷ length e.value ∷ (replicate 4 0 ++ (big_bytes 8 e.key ++ tail)) in
    let behind_page : List ℕ = big_bytes 2 e.slot ++ behind_slot in
    same_entry
    (big_number-reads_back 4 e.table (big_bytes 4 e.page ++ behind_page) (omega (arith, is.row_slot.1)))
    (big_number-reads_back 4 e.page behind_page (omega (arith, is.row_slot.2)))
    (big_number-reads_back 2 e.slot behind_slot (omega (arith, is.row_slot.3)))
    (one e.state)
    (big_number-reads_back 8 e.key tail is.key)
    (ap (λ n. take n tail) (one (length e.value)) ∙ take_at e.value (replicate (72 - length e.value) 0) (length e.value) refl)

pub length-entries : (s : ℕ) (pages : ℕ → List ℕ) (n : ℕ) → length (entries s pages n) ≡ n
length-entries s pages zero = refl
length-entries s pages (suc n) = let before = length-entries s pages n in simp length-append (omega arith)

-- entries of two lists of pages that tell the same, one by one
pub entries-same : (s : ℕ) (p q : ℕ → List ℕ) (n : ℕ) → ((i : ℕ) → i < n → entry_on i (p (record_page s i)) ≡ entry_on i (q (record_page s i))) → entries s p n ≡ entries s q n
entries-same s p q zero each = refl
entries-same s p q (suc n) each =
    let before = entries-same s p q n (λ i lt. each i (omega arith)) in
    let last = each n (omega arith) in
    λ i. before i ++ last i ∷ []
