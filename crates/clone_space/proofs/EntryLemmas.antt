-- The entries of the system page, one by one, and after a write.
use Rattle.std.proofs.Common.{◌≡◌, ◌≢◌, ◌≤◌, ◌<◌, ◌+◌, ◌-◌, ◌^◌, ◌⊎◌, ℕ, List, [], ◌++◌, length, set, get_or, take, replicate, arith, sym, ap, ◌∙◌, inl, inr}
use Rattle.std.proofs.lemmas.List.{ext_get_or, get_or-set_same, get_or-set_other, get_or-replicate, length-replicate, drop-replicate, take-replicate}
use Rattle.std.proofs.Math.ListN.{length-set}
use Rattle.std.proofs.lemmas.List.FromFn.{length-map-range_with_len, get_or-map-range_with_len}
use Rattle.std.proofs.lemmas.Bool.Decides.{eqb_tells}
use Rattle.byteorder.specs.Endian.{big_bytes}
use Rattle.byteorder.specs.Numbers.{big_number-reads_back}
use Rattle.clone_page.specs.Bytes.{field, put_at}
use Rattle.clone_page.specs.Header.{zero_page, header, trailer, with_lsn, initialised, IsAllowed}
use Rattle.clone_page.specs.declared.kind.PageKind.{PageKind}
use Rattle.clone_page.proofs.Parts.{part-zeros, field-part}
use Rattle.clone_mtr.specs.Patches.{Patched}
use Rattle.clone_space.specs.declared.entry.TableEntry.{TableEntry}
use Rattle.clone_space.specs.Entries.{entry_at_offset, pages_at, entry_on, dictionary, entry_in, free, IsEntry}
use Rattle.clone_space.specs.Records.{entry_bytes}
use Rattle.clone_space.specs.Writes.{WritesBefore}
use Rattle.clone_space.proofs.WriteLemmas.{field-kept, field-written, field-first}

-- The entries as a list.

pub length-dictionary : (page : List ℕ) → length (dictionary page) ≡ 62
unfolding dictionary
length-dictionary page = length-map-range_with_len (λ j. entry_on j page) 0 62

pub entry_in-dictionary : (j : ℕ) (page : List ℕ) → j < 62 → entry_in (dictionary page) j ≡ entry_on j page
unfolding dictionary
entry_in-dictionary j page within = get_or-map-range_with_len (λ k. entry_on k page) 0 62 j j free within (omega arith)

pub entry_is : {t b p : ℕ} (e : TableEntry) → t ≡ e.table → b ≡ e.buckets → p ≡ e.pages → ◌≡◌ {A = TableEntry} (record { table = t; buckets = b; pages = p }) e
entry_is e table buckets pages = λ i. record { table = table i; buckets = buckets i; pages = pages i }

-- Pages with the same entries, but for one.

pub dictionary-same : (before after : List ℕ) → ((k : ℕ) → k < 62 → entry_on k after ≡ entry_on k before) → dictionary after ≡ dictionary before
dictionary-same before after same =
    let long = length-dictionary after in
    ext_get_or free (dictionary after) (dictionary before) (long ∙ sym (length-dictionary before))
    (λ k h. let within : k < 62 = omega arith in entry_in-dictionary k after within ∙ same k within ∙ sym (entry_in-dictionary k before within))

set_at : (j : ℕ) (e : TableEntry) (before after : List ℕ) → j < 62 → entry_on j after ≡ e → ((k : ℕ) → k < 62 → k ≢ j → entry_on k after ≡ entry_on k before) → (k : ℕ) → k < 62 → get_or (dictionary after) k free ≡ get_or (set (dictionary before) j e) k free
set_at j e before after within is same k here =
    let short = length-dictionary before in
    elim (eqb_tells k j) [
      | inl it ↦ ap (λ (m : ℕ). get_or (dictionary after) m free) it.1 ∙ entry_in-dictionary j after within ∙ is
          ∙ sym (get_or-set_same (dictionary before) j e free (omega arith)) ∙ sym (ap (λ (m : ℕ). get_or (set (dictionary before) j e) m free) it.1)
      | inr other ↦ entry_in-dictionary k after here ∙ same k here other.1 ∙ sym (entry_in-dictionary k before here)
          ∙ sym (get_or-set_other (dictionary before) j k e free other.1)
    ]

pub dictionary-set : (j : ℕ) (e : TableEntry) (before after : List ℕ) → j < 62 → entry_on j after ≡ e → ((k : ℕ) → k < 62 → k ≢ j → entry_on k after ≡ entry_on k before) → dictionary after ≡ set (dictionary before) j e
dictionary-set j e before after within is same =
    let long = length-dictionary after in
    let short = length-dictionary before in
    let kept : length (set (dictionary before) j e) ≡ 62 = simp length-set short in
    ext_get_or free (dictionary after) (set (dictionary before) j e) (long ∙ sym kept)
    (λ k h. set_at j e before after within is same k (omega arith))

-- Bytes are written.

-- an entry stays where the bytes are written elsewhere
pub entry_on-kept : (k lsn at : ℕ) (piece page : List ℕ) → k < 62 → (entry_at_offset k + 16 ≤ at) ⊎ (at + length piece ≤ entry_at_offset k) → at ≤ 4096 → IsAllowed at (length piece) → length page ≡ 4096 → entry_on k (with_lsn lsn (put_at at piece page)) ≡ entry_on k page
entry_on-kept k lsn at piece page within apart fits allowed long =
    let kept = λ (a : ℕ) (low : entry_at_offset k ≤ a) (high : a + 4 ≤ entry_at_offset k + 16). field-kept a 4 lsn at piece page (omega arith) (omega arith)
    (elim apart [ inl before ↦ inl (omega arith) | inr behind ↦ inr (omega arith) ]) fits allowed long in
    entry_is (entry_on k page) (kept (entry_at_offset k) (omega arith) (omega arith)) (kept (entry_at_offset k + 4) (omega arith) (omega arith)) (kept (entry_at_offset k + 8) (omega arith) (omega arith))

-- two entries of the dictionary lie apart
apart_from : (j k at n : ℕ) → k ≢ j → entry_at_offset j ≤ at → at + n ≤ entry_at_offset j + 16 → (entry_at_offset k + 16 ≤ at) ⊎ (at + n ≤ entry_at_offset k)
apart_from j k at n other low high = let side : (k < j) ⊎ (j < k) = grind arith in elim side [ inl below ↦ inl (omega arith) | inr above ↦ inr (omega arith) ]

in_body : (at n : ℕ) → 1 ≤ n → 38 ≤ at → at + n ≤ 4088 → IsAllowed at n
in_body at n some low high = (some, inr (low, high))

pub dictionary-entry : (lsn j : ℕ) (e : TableEntry) (page : List ℕ) → j < 62 → IsEntry e → length page ≡ 4096 → dictionary (with_lsn lsn (put_at (entry_at_offset j) (entry_bytes e) page)) ≡ set (dictionary page) j e
dictionary-entry lsn j e page within is long =
    let allowed = in_body (entry_at_offset j) 16 (omega arith) (omega arith) (omega arith) in
    let there = λ (i : ℕ) (inside : i + 4 ≤ 16). field-written i 4 lsn (entry_at_offset j) (entry_bytes e) page inside (omega arith) (omega arith) allowed long in
    dictionary-set j e page (with_lsn lsn (put_at (entry_at_offset j) (entry_bytes e) page)) within
    (entry_is e
    (field-first 4 lsn (entry_at_offset j) (entry_bytes e) page (omega arith) (omega arith) (omega arith) allowed long ∙ big_number-reads_back 4 e.table (big_bytes 4 e.buckets ++ big_bytes 4 e.pages ++ big_bytes 4 0) is.0)
    (there 4 (omega arith) ∙ big_number-reads_back 4 e.buckets (big_bytes 4 e.pages ++ big_bytes 4 0) is.1)
    (there 8 (omega arith) ∙ big_number-reads_back 4 e.pages (big_bytes 4 0) is.2))
    (λ k here other. entry_on-kept k lsn (entry_at_offset j) (entry_bytes e) page here (apart_from j k (entry_at_offset j) 16 other (omega arith) (omega arith)) (omega arith) allowed long)

pub dictionary-size : (lsn j pages : ℕ) (page : List ℕ) → j < 62 → pages < 2 ^ 32 → length page ≡ 4096 → dictionary (with_lsn lsn (put_at (pages_at j) (big_bytes 4 pages) page)) ≡ set (dictionary page) j (record (entry_in (dictionary page) j) { pages = pages })
dictionary-size lsn j pages page within small long =
    let was : TableEntry = entry_in (dictionary page) j in
    let piece : List ℕ = big_bytes 4 pages in
    let allowed = in_body (pages_at j) 4 (omega arith) (omega arith) (omega arith) in
    let kept = λ (a : ℕ) (low : entry_at_offset j ≤ a) (high : a + 4 ≤ pages_at j). field-kept a 4 lsn (pages_at j) piece page (omega arith) (omega arith) (inl high) (omega arith) allowed long in
    let told = sym (entry_in-dictionary j page within) in
    dictionary-set j (record was { pages = pages }) page (with_lsn lsn (put_at (pages_at j) piece page)) within
    (entry_is (record was { pages = pages })
    (kept (entry_at_offset j) (omega arith) (omega arith) ∙ ap (λ (e : TableEntry). e.table) told)
    (kept (entry_at_offset j + 4) (omega arith) (omega arith) ∙ ap (λ (e : TableEntry). e.buckets) told)
    (field-first 4 lsn (pages_at j) piece page (omega arith) (omega arith) (omega arith) allowed long ∙ big_number-reads_back 4 pages [] small))
    (λ k here other. entry_on-kept k lsn (pages_at j) piece page here (apart_from j k (pages_at j) 4 other (omega arith) (omega arith)) (omega arith) allowed long)

pub dictionary-free : (lsn j : ℕ) (page : List ℕ) → j < 62 → length page ≡ 4096 → dictionary (with_lsn lsn (put_at (entry_at_offset j) (replicate 16 0) page)) ≡ set (dictionary page) j free
dictionary-free lsn j page within long = dictionary-entry lsn j free page within (omega arith, omega arith, omega arith) long

pub dictionary-before : (lsn : ℕ) (patch : Patched) (page : List ℕ) → WritesBefore patch → length page ≡ 4096 → dictionary (with_lsn lsn (put_at patch.offset patch.bytes page)) ≡ dictionary page
dictionary-before lsn patch page writes long =
    let before = writes.before in
    dictionary-same page (with_lsn lsn (put_at patch.offset patch.bytes page))
    (λ k here. entry_on-kept k lsn patch.offset patch.bytes page here (inr (omega arith)) (omega arith) writes.allowed long)

-- Pages that are made.

all_free : (page : List ℕ) → ((a : ℕ) → 64 ≤ a → a + 4 ≤ 4088 → field a 4 page ≡ 0) → dictionary page ≡ replicate 62 free
all_free page zeros =
    let long = length-dictionary page in
    ext_get_or free (dictionary page) (replicate 62 free) (long ∙ sym (length-replicate 62 free))
    (λ k h. let within : k < 62 = omega arith in
    entry_in-dictionary k page within
    ∙ entry_is free (zeros (entry_at_offset k) (omega arith) (omega arith)) (zeros (entry_at_offset k + 4) (omega arith) (omega arith)) (zeros (entry_at_offset k + 8) (omega arith) (omega arith))
    ∙ sym (get_or-replicate 62 k free free within))

pub dictionary-initialised : (space number lsn : ℕ) (kind : PageKind) → dictionary (initialised space number kind lsn) ≡ replicate 62 free
dictionary-initialised space number lsn kind =
    all_free (initialised space number kind lsn)
    (λ a low high. field-part a 4 4 (initialised space number kind lsn) (omega arith) ∙ ap (field 0 4) (part-zeros a 4 4050 (header space number kind lsn) (trailer lsn) (omega arith) (omega arith)))

pub dictionary-zero : dictionary zero_page ≡ replicate 62 free
dictionary-zero =
    all_free zero_page
    (λ a low high. field-part a 4 4 zero_page (omega arith) ∙ ap (field 0 4) (ap (take 4) (drop-replicate a 4096 0) ∙ take-replicate 4 (4096 - a) 0 (omega arith)))
