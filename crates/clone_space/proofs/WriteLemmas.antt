-- What a write of a record leaves of its page, and what is read where it wrote.
use Rattle.std.proofs.Common.{◌≡◌, ◌≤◌, ◌<◌, ◌+◌, ◌^◌, ◌⊎◌, ℕ, List, length, arith, sym, ap, ◌∙◌, inl, inr}
use Rattle.byteorder.specs.Endian.{big_bytes}
use Rattle.clone_page.specs.Bytes.{field, put_at}
use Rattle.clone_page.specs.Header.{next_of, with_lsn, IsAllowed}
use Rattle.clone_page.proofs.Parts.{length-put_allowed, length-with_lsn, part-put_at_other, part-put_at_inside, part-with_lsn, field-part, field-same, field-put_at_same, kind_of-put_allowed, kind_of-with_lsn, next_of-with_lsn, well_formed-put_allowed, well_formed-with_lsn}
use Rattle.clone_space.specs.Writes.{Keeps, KeepsSystem}

-- an allowed write leaves its page whole, of its kind and well formed
pub keeps : (lsn at : ℕ) (piece page : List ℕ) → IsAllowed at (length piece) → length page ≡ 4096 → Keeps page (with_lsn lsn (put_at at piece page))
keeps lsn at piece page allowed long =
    let written = put_at at piece page in
    let still = length-put_allowed at piece page allowed long in
    record {
      long = length-with_lsn lsn written still;
      kind = kind_of-with_lsn lsn written still ∙ kind_of-put_allowed at piece page allowed long;
      well_formed = λ space number was. well_formed-with_lsn space number lsn written still (well_formed-put_allowed space number at piece page allowed long was);
    }

-- a field of the body stays where other bytes are written
pub field-kept : (a n lsn at : ℕ) (piece page : List ℕ) → 38 ≤ a → a + n ≤ 4088 → (a + n ≤ at) ⊎ (at + length piece ≤ a) → at ≤ 4096 → IsAllowed at (length piece) → length page ≡ 4096 → field a n (with_lsn lsn (put_at at piece page)) ≡ field a n page
field-kept a n lsn at piece page body below apart fits allowed long =
    let written = put_at at piece page in
    let still = length-put_allowed at piece page allowed long in
    field-same a n (with_lsn lsn written) page
    (part-with_lsn a n lsn written (inr (omega arith)) (omega arith) still ∙ part-put_at_other a n at piece page apart (omega arith))

-- a field of what was written is read
pub field-written : (i n lsn at : ℕ) (piece page : List ℕ) → i + n ≤ length piece → 38 ≤ at → at + length piece ≤ 4088 → IsAllowed at (length piece) → length page ≡ 4096 → field (at + i) n (with_lsn lsn (put_at at piece page)) ≡ field i n piece
field-written i n lsn at piece page inside body below allowed long =
    let written = put_at at piece page in
    let still = length-put_allowed at piece page allowed long in
    field-part (at + i) n n (with_lsn lsn written) (omega arith)
    ∙ ap (field 0 n) (part-with_lsn (at + i) n lsn written (inr (omega arith)) (omega arith) still ∙ part-put_at_inside i n at piece page inside (omega arith))
    ∙ sym (field-part i n n piece (omega arith))

-- so is the first one
pub field-first : (n lsn at : ℕ) (piece page : List ℕ) → n ≤ length piece → 38 ≤ at → at + length piece ≤ 4088 → IsAllowed at (length piece) → length page ≡ 4096 → field at n (with_lsn lsn (put_at at piece page)) ≡ field 0 n piece
field-first n lsn at piece page inside body below allowed long =
    let there : at ≡ at + 0 = omega arith in
    ap (λ (a : ℕ). field a n (with_lsn lsn (put_at at piece page))) there ∙ field-written 0 n lsn at piece page (omega arith) body below allowed long

-- a write of the entries leaves the number of commits, too
pub keeps_system : (lsn at : ℕ) (piece page : List ℕ) → 48 ≤ at → at ≤ 4096 → IsAllowed at (length piece) → length page ≡ 4096 → KeepsSystem page (with_lsn lsn (put_at at piece page))
keeps_system lsn at piece page behind fits allowed long =
    record {
      page = keeps lsn at piece page allowed long;
      position = field-kept 40 8 lsn at piece page (omega arith) (omega arith) (inl (omega arith)) fits allowed long;
    }

-- the next page of a page is the one that was written
pub next-written : (lsn next : ℕ) (page : List ℕ) → next < 2 ^ 32 → length page ≡ 4096 → next_of (with_lsn lsn (put_at 12 (big_bytes 4 next) page)) ≡ next
next-written lsn next page small long =
    let still = length-put_allowed 12 (big_bytes 4 next) page (omega arith, inl (omega arith, omega arith)) long in
    next_of-with_lsn lsn (put_at 12 (big_bytes 4 next) page) still ∙ field-put_at_same 12 4 next page (omega arith) small
