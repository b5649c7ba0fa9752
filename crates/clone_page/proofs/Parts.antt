-- What a part of a list of bytes is after a write, and what is read there.
use Rattle.std.proofs.Common.{◌≡◌, ◌≢◌, ◌≤◌, ◌<◌, ◌+◌, ◌-◌, ◌*◌, ◌/◌, ◌%◌, ◌^◌, ◌⊎◌, ◌==◌, ◌&&◌, ℕ, nat_le, Bool, cond, Option, Some, None, List, [], ◌++◌, length, take, drop, replicate, arith, refl, sym, ap, ◌∙◌, inl, inr}
use Rattle.std.proofs.lemmas.List.{append_assoc, take_at, drop_at, drop-drop, drop-take, take-take, take-append-le, drop-replicate, take-replicate, length-append, length-drop, length-take, length-take-le, length-replicate}
use Rattle.std.proofs.lemmas.Bool.{le-leb}
use Rattle.std.proofs.lemmas.Bool.Decides.{eqb_tells}
use Rattle.byteorder.specs.Endian.{big_bytes, big_number}
use Rattle.byteorder.specs.Numbers.{big_from-take, big_number-reads_back, length-bytes_high_first}
use Rattle.clone_page.specs.Bytes.{part, field, put_at}
use Rattle.clone_page.specs.Kinds.{kind_number}
use Rattle.clone_page.specs.declared.kind.PageKind.{PageKind}
use Rattle.clone_page.specs.declared.kind.PageKind.TheVariants.{System, Undo, Bucket, Overflow}
use Rattle.clone_page.specs.Header.{zero_page, number_of, next_of, lsn_of, kind_of, space_of, with_lsn, header, trailer, initialised, IsAllowed, IsWellFormed}
use Rattle.clone_page.specs.Slots.{slot, slot_at, state_of, length_of, key_of, value_of, row_of, present_slot}
use Rattle.clone_page.specs.Dictionary.{entry, entry_at, entry_space, position_at}

pub length-put_at : (at : ℕ) (piece bytes : List ℕ) → at + length piece ≤ length bytes → length (put_at at piece bytes) ≡ length bytes
length-put_at at piece bytes fits = simp (length-append, length-take, length-drop) (omega arith)

-- what was written is there
pub part-put_at_same : (at : ℕ) (piece bytes : List ℕ) → at ≤ length bytes → part at (length piece) (put_at at piece bytes) ≡ piece
part-put_at_same at piece bytes fits =
    let front = drop_at (take at bytes) (piece ++ drop (at + length piece) bytes) at (length-take-le at bytes fits) in
    rw front (take_at piece (drop (at + length piece) bytes) (length piece) refl)

-- a part is the end of a front
part_is : (a n : ℕ) (bytes : List ℕ) → part a n bytes ≡ drop a (take (a + n) bytes)
part_is a n bytes = sym (drop-take a n bytes)

-- a part of the first of two lists
pub part-append_left : (a n : ℕ) (xs ys : List ℕ) → a + n ≤ length xs → part a n (xs ++ ys) ≡ part a n xs
part-append_left a n xs ys fits =
    part_is a n (xs ++ ys) ∙ ap (drop a) (take-append-le (a + n) xs ys fits) ∙ sym (part_is a n xs)

-- a part of the second of two lists
pub part-append_right : (a n : ℕ) (xs ys : List ℕ) → length xs ≤ a → part a n (xs ++ ys) ≡ part (a - length xs) n ys
part-append_right a n xs ys behind =
    let split : length xs + (a - length xs) ≡ a = omega arith in
    let moved : drop a (xs ++ ys) ≡ drop (a - length xs) ys =
    ap (λ m. drop m (xs ++ ys)) (sym split) ∙ sym (drop-drop (a - length xs) (length xs) (xs ++ ys)) ∙ ap (drop (a - length xs)) (drop_at xs ys (length xs) refl) in
    ap (take n) moved

-- what stands before a write stays
pub part-put_at_before : (a n at : ℕ) (piece bytes : List ℕ) → a + n ≤ at → at ≤ length bytes → part a n (put_at at piece bytes) ≡ part a n bytes
part-put_at_before a n at piece bytes before fits =
    let long = length-take-le at bytes fits in
    part-append_left a n (take at bytes) (piece ++ drop (at + length piece) bytes) (omega arith)
    ∙ part_is a n (take at bytes) ∙ ap (drop a) (take-take (a + n) at bytes before) ∙ sym (part_is a n bytes)

-- what stands behind a write stays
pub part-put_at_behind : (a n at : ℕ) (piece bytes : List ℕ) → at + length piece ≤ a → at ≤ length bytes → part a n (put_at at piece bytes) ≡ part a n bytes
part-put_at_behind a n at piece bytes behind fits =
    let front = take at bytes ++ piece in
    let rest = drop (at + length piece) bytes in
    let long : length front ≡ at + length piece = simp (length-append) (ap (λ m. m + length piece) (length-take-le at bytes fits)) in
    let split : at + length piece + (a - length front) ≡ a = omega arith in
    ap (part a n) (sym (append_assoc (take at bytes) piece rest))
    ∙ part-append_right a n front rest (omega arith)
    ∙ ap (take n) (drop-drop (a - length front) (at + length piece) bytes ∙ ap (λ m. drop m bytes) split)

-- a part is the same after a write elsewhere
pub part-put_at_other : (a n at : ℕ) (piece bytes : List ℕ) → (a + n ≤ at) ⊎ (at + length piece ≤ a) → at ≤ length bytes → part a n (put_at at piece bytes) ≡ part a n bytes
part-put_at_other a n at piece bytes apart fits =
    elim apart [ inl before ↦ part-put_at_before a n at piece bytes before fits | inr behind ↦ part-put_at_behind a n at piece bytes behind fits ]

-- a part of what was written
pub part-put_at_inside : (i n at : ℕ) (piece bytes : List ℕ) → i + n ≤ length piece → at ≤ length bytes → part (at + i) n (put_at at piece bytes) ≡ part i n piece
part-put_at_inside i n at piece bytes fits within =
    let front = length-take-le at bytes within in
    let moved : at + i - length (take at bytes) ≡ i = omega arith in
    part-append_right (at + i) n (take at bytes) (piece ++ drop (at + length piece) bytes) (omega arith)
    ∙ ap (λ k. part k n (piece ++ drop (at + length piece) bytes)) moved
    ∙ part-append_left i n piece (drop (at + length piece) bytes) fits

-- a field reads its own part
pub field-part : (at n m : ℕ) (bytes : List ℕ) → n ≤ m → field at n bytes ≡ field 0 n (part at m bytes)
field-part at n m bytes le = sym (big_from-take 0 n m (drop at bytes) (omega arith))

-- fields of two lists that have one part there
pub field-same : (at n : ℕ) (xs ys : List ℕ) → part at n xs ≡ part at n ys → field at n xs ≡ field at n ys
field-same at n xs ys same = field-part at n n xs (omega arith) ∙ ap (field 0 n) same ∙ sym (field-part at n n ys (omega arith))

-- a field is the same after a write elsewhere
pub field-put_at_other : (a n at : ℕ) (piece bytes : List ℕ) → (a + n ≤ at) ⊎ (at + length piece ≤ a) → at ≤ length bytes → field a n (put_at at piece bytes) ≡ field a n bytes
field-put_at_other a n at piece bytes apart fits = field-same a n _ _ (part-put_at_other a n at piece bytes apart fits)

-- the number at the front of what was written is read
pub field-put_front : (at n x : ℕ) (rest bytes : List ℕ) → at ≤ length bytes → x < 256 ^ n → field at n (put_at at (big_bytes n x ++ rest) bytes) ≡ x
field-put_front at n x rest bytes fits small =
    let behind = drop (at + length (big_bytes n x ++ rest)) bytes in
    ap (big_number n) (drop_at (take at bytes) (big_bytes n x ++ rest ++ behind) at (length-take-le at bytes fits) ∙ append_assoc (big_bytes n x) rest behind)
    ∙ big_number-reads_back n x (rest ++ behind) small

-- the number that was written is read
pub field-put_at_same : (at n x : ℕ) (bytes : List ℕ) → at ≤ length bytes → x < 256 ^ n → field at n (put_at at (big_bytes n x) bytes) ≡ x
field-put_at_same at n x bytes fits small =
    let rest = drop (at + length (big_bytes n x)) bytes in
    ap (big_number n) (drop_at (take at bytes) (big_bytes n x ++ rest) at (length-take-le at bytes fits))
    ∙ big_number-reads_back n x rest small

-- zeros behind a head
pub part-zeros : (a n m : ℕ) (head tail : List ℕ) → length head ≤ a → a + n ≤ length head + m → part a n (head ++ replicate m 0 ++ tail) ≡ replicate n 0
part-zeros a n m head tail behind fits =
    let long = length-replicate m (let zero : ℕ = 0 in zero) in
    let whole = length-append head (replicate m (let zero : ℕ = 0 in zero)) in
    part-append_left a n (head ++ replicate m 0) tail (omega arith)
    ∙ part-append_right a n head (replicate m 0) behind
    ∙ ap (take n) (drop-replicate (a - length head) m 0)
    ∙ take-replicate n (m - (a - length head)) 0 (omega arith)

-- two numbers that differ
apart : (j k : ℕ) → j ≢ k → (j < k) ⊎ (k < j)
apart j k other = grind arith

-- three lists, of which zeros are the middle
three : (head : List ℕ) (m : ℕ) (tail : List ℕ) → length (head ++ replicate m 0 ++ tail) ≡ length head + m + length tail
three head m tail = simp (length-append, length-replicate)

field-front : (a n : ℕ) (head middle tail : List ℕ) → a + n ≤ length head → field a n (head ++ middle ++ tail) ≡ field a n head
field-front a n head middle tail fits =
    let whole = length-append head middle in
    field-same a n (head ++ middle ++ tail) head (part-append_left a n (head ++ middle) tail (omega arith) ∙ part-append_left a n head middle fits)

kind_again : (kind : PageKind) → kind_number kind / 256 % 256 * 256 + (kind_number kind % 256 * 1 + 0) ≡ kind_number kind
kind_again System = refl
kind_again Undo = refl
kind_again Bucket = refl
kind_again Overflow = refl

kind_bounds : (kind : PageKind) → (1 ≤ kind_number kind) × (kind_number kind ≤ 4)
kind_bounds System = (omega arith, omega arith)
kind_bounds Undo = (omega arith, omega arith)
kind_bounds Bucket = (omega arith, omega arith)
kind_bounds Overflow = (omega arith, omega arith)

-- The page LSN.

length-bytes : (n x : ℕ) → length (big_bytes n x) ≡ n
length-bytes n x = length-bytes_high_first n x

pub length-with_lsn : (lsn : ℕ) (page : List ℕ) → length page ≡ 4096 → length (with_lsn lsn page) ≡ 4096
length-with_lsn lsn page long =
    let eight = length-bytes 8 lsn in
    let four = length-bytes 4 lsn in
    let inner = length-put_at 16 (big_bytes 8 lsn) page (omega arith) in
    length-put_at 4092 (big_bytes 4 lsn) (put_at 16 (big_bytes 8 lsn) page) (omega arith) ∙ inner ∙ long

-- the page LSN stands at 16 to 23 and at 4092 to 4095 alone
pub part-with_lsn : (a n lsn : ℕ) (page : List ℕ) → (a + n ≤ 16) ⊎ (24 ≤ a) → a + n ≤ 4092 → length page ≡ 4096 → part a n (with_lsn lsn page) ≡ part a n page
part-with_lsn a n lsn page apart below long =
    let eight = length-bytes 8 lsn in
    let inner = length-put_at 16 (big_bytes 8 lsn) page (omega arith) in
    let elsewhere : (a + n ≤ 16) ⊎ (16 + length (big_bytes 8 lsn) ≤ a) = elim apart [ inl before ↦ inl before | inr behind ↦ inr (omega arith) ] in
    part-put_at_before a n 4092 (big_bytes 4 lsn) (put_at 16 (big_bytes 8 lsn) page) below (omega arith)
    ∙ part-put_at_other a n 16 (big_bytes 8 lsn) page elsewhere (omega arith)

pub lsn_of-with_lsn : (lsn : ℕ) (page : List ℕ) → lsn < 2 ^ 64 → length page ≡ 4096 → lsn_of (with_lsn lsn page) ≡ lsn
lsn_of-with_lsn lsn page small long =
    let eight = length-bytes 8 lsn in
    let inner = length-put_at 16 (big_bytes 8 lsn) page (omega arith) in
    field-put_at_other 16 8 4092 (big_bytes 4 lsn) (put_at 16 (big_bytes 8 lsn) page) (inl (omega arith)) (omega arith)
    ∙ field-put_at_same 16 8 lsn page (omega arith) small

pub kind_of-with_lsn : (lsn : ℕ) (page : List ℕ) → length page ≡ 4096 → kind_of (with_lsn lsn page) ≡ kind_of page
kind_of-with_lsn lsn page long = field-same 24 2 (with_lsn lsn page) page (part-with_lsn 24 2 lsn page (inr (omega arith)) (omega arith) long)

pub space_of-with_lsn : (lsn : ℕ) (page : List ℕ) → length page ≡ 4096 → space_of (with_lsn lsn page) ≡ space_of page
space_of-with_lsn lsn page long = field-same 34 4 (with_lsn lsn page) page (part-with_lsn 34 4 lsn page (inr (omega arith)) (omega arith) long)

pub number_of-with_lsn : (lsn : ℕ) (page : List ℕ) → length page ≡ 4096 → number_of (with_lsn lsn page) ≡ number_of page
number_of-with_lsn lsn page long = field-same 4 4 (with_lsn lsn page) page (part-with_lsn 4 4 lsn page (inl (omega arith)) (omega arith) long)

pub next_of-with_lsn : (lsn : ℕ) (page : List ℕ) → length page ≡ 4096 → next_of (with_lsn lsn page) ≡ next_of page
next_of-with_lsn lsn page long = field-same 12 4 (with_lsn lsn page) page (part-with_lsn 12 4 lsn page (inl (omega arith)) (omega arith) long)

-- Writes that a record of redo may ask for.

-- a write to the neighbours or the body leaves what lies in neither
pub part-put_allowed : (a n at : ℕ) (piece page : List ℕ) → (a + n ≤ 8) ⊎ (((16 ≤ a) × (a + n ≤ 38)) ⊎ (4088 ≤ a)) → IsAllowed at (length piece) → length page ≡ 4096 → part a n (put_at at piece page) ≡ part a n page
part-put_allowed a n at piece page apart allowed long =
    let far : (a + n ≤ at) ⊎ (at + length piece ≤ a) =
    elim allowed.1 [
      | inl neighbours ↦ elim apart [ inl front ↦ inl (omega arith) | inr back ↦ elim back [ inl header ↦ inr (omega arith) | inr trailer ↦ inr (omega arith) ] ]
      | inr body ↦ elim apart [ inl front ↦ inl (omega arith) | inr back ↦ elim back [ inl header ↦ inl (omega arith) | inr trailer ↦ inr (omega arith) ] ]
    ] in
    let fits : at ≤ length page = elim allowed.1 [ inl neighbours ↦ omega arith | inr body ↦ omega arith ] in
    part-put_at_other a n at piece page far fits

pub length-put_allowed : (at : ℕ) (piece page : List ℕ) → IsAllowed at (length piece) → length page ≡ 4096 → length (put_at at piece page) ≡ 4096
length-put_allowed at piece page allowed long =
    let fits : at + length piece ≤ length page = elim allowed.1 [ inl neighbours ↦ omega arith | inr body ↦ omega arith ] in
    length-put_at at piece page fits ∙ long

pub kind_of-put_allowed : (at : ℕ) (piece page : List ℕ) → IsAllowed at (length piece) → length page ≡ 4096 → kind_of (put_at at piece page) ≡ kind_of page
kind_of-put_allowed at piece page allowed long =
    field-same 24 2 (put_at at piece page) page (part-put_allowed 24 2 at piece page (inr (inl (omega arith, omega arith))) allowed long)

-- a write to the body leaves the kind
pub kind_of-put_body : (at : ℕ) (piece page : List ℕ) → 38 ≤ at → at ≤ length page → kind_of (put_at at piece page) ≡ kind_of page
kind_of-put_body at piece page body fits = field-put_at_other 24 2 at piece page (inl (omega arith)) fits

-- Slots.

pub slot-put_same : (j : ℕ) (bytes page : List ℕ) → length bytes ≡ 80 → slot_at j ≤ length page → slot j (put_at (slot_at j) bytes page) ≡ bytes
slot-put_same j bytes page long fits =
    ap (λ n. part (slot_at j) n (put_at (slot_at j) bytes page)) (sym long) ∙ part-put_at_same (slot_at j) bytes page fits

-- a write that lies elsewhere leaves a slot
pub slot-put_elsewhere : (j at : ℕ) (piece page : List ℕ) → (slot_at j + 80 ≤ at) ⊎ (at + length piece ≤ slot_at j) → at ≤ length page → slot j (put_at at piece page) ≡ slot j page
slot-put_elsewhere j at piece page apart fits = part-put_at_other (slot_at j) 80 at piece page apart fits

pub slot-put_other : (j k : ℕ) (bytes page : List ℕ) → j ≢ k → length bytes ≡ 80 → slot_at k ≤ length page → slot j (put_at (slot_at k) bytes page) ≡ slot j page
slot-put_other j k bytes page other long fits =
    slot-put_elsewhere j (slot_at k) bytes page (elim (apart j k other) [ inl below ↦ inl (omega arith) | inr above ↦ inr (omega arith) ]) fits

pub slot-with_lsn : (j lsn : ℕ) (page : List ℕ) → j < 50 → length page ≡ 4096 → slot j (with_lsn lsn page) ≡ slot j page
slot-with_lsn j lsn page within long = part-with_lsn (slot_at j) 80 lsn page (inr (omega arith)) (omega arith) long

pub slot-zero : (j : ℕ) → j < 50 → slot j zero_page ≡ replicate 80 0
slot-zero j within = ap (take 80) (drop-replicate (slot_at j) 4096 0) ∙ take-replicate 80 (4096 - slot_at j) 0 (omega arith)

pub slot-initialised : (j space number : ℕ) (kind : PageKind) (lsn : ℕ) → j < 50 → slot j (initialised space number kind lsn) ≡ replicate 80 0
slot-initialised j space number kind lsn within =
    part-zeros (slot_at j) 80 4050 (header space number kind lsn) (trailer lsn) (omega arith) (omega arith)

-- A page that was made.

pub length-initialised : (space number : ℕ) (kind : PageKind) (lsn : ℕ) → length (initialised space number kind lsn) ≡ 4096
length-initialised space number kind lsn = three (header space number kind lsn) 4050 (trailer lsn)

-- a field of the header
in_header : (a n space number : ℕ) (kind : PageKind) (lsn : ℕ) → a + n ≤ 38 → field a n (initialised space number kind lsn) ≡ field a n (header space number kind lsn)
in_header a n space number kind lsn fits =
    field-front a n (header space number kind lsn) (replicate 4050 0) (trailer lsn) fits

pub kind_of-initialised : (space number : ℕ) (kind : PageKind) (lsn : ℕ) → kind_of (initialised space number kind lsn) ≡ kind_number kind
kind_of-initialised space number kind lsn = in_header 24 2 space number kind lsn (omega arith) ∙ kind_again kind

pub number_of-initialised : (space number : ℕ) (kind : PageKind) (lsn : ℕ) → number < 2 ^ 32 → number_of (initialised space number kind lsn) ≡ number
number_of-initialised space number kind lsn small = in_header 4 4 space number kind lsn (omega arith) ∙ big_number-reads_back 4 number (drop 8 (header space number kind lsn)) small

pub space_of-initialised : (space number : ℕ) (kind : PageKind) (lsn : ℕ) → space < 2 ^ 32 → space_of (initialised space number kind lsn) ≡ space
space_of-initialised space number kind lsn small = in_header 34 4 space number kind lsn (omega arith) ∙ big_number-reads_back 4 space [] small

pub lsn_of-initialised : (space number : ℕ) (kind : PageKind) (lsn : ℕ) → lsn < 2 ^ 64 → lsn_of (initialised space number kind lsn) ≡ lsn
lsn_of-initialised space number kind lsn small = in_header 16 8 space number kind lsn (omega arith) ∙ big_number-reads_back 8 lsn (drop 24 (header space number kind lsn)) small

-- Pages that stand in their place.

-- a field of the trailer
in_trailer : (a n m : ℕ) (front tail : List ℕ) → length front ≡ m → m ≤ a → field a n (front ++ tail) ≡ field (a - m) n tail
in_trailer a n m front tail long behind =
    field-part a n n (front ++ tail) (omega arith)
    ∙ ap (field 0 n) (part-append_right a n front tail (omega arith) ∙ ap (λ k. part (a - k) n tail) long)
    ∙ sym (field-part (a - m) n n tail (omega arith))

pub well_formed-initialised : (space number : ℕ) (kind : PageKind) (lsn : ℕ) → space < 2 ^ 32 → number < 2 ^ 32 → IsWellFormed space number (initialised space number kind lsn)
well_formed-initialised space number kind lsn space_fits number_fits =
    let front = header space number kind lsn ++ replicate 4050 0 in
    let long : length front ≡ 4088 = length-append (header space number kind lsn) (replicate 4050 0) in
    let kind_is = kind_of-initialised space number kind lsn in
    record {
      front = in_header 0 4 space number kind lsn (omega arith);
      back = in_trailer 4088 4 4088 front (trailer lsn) long (omega arith);
      place = number_of-initialised space number kind lsn number_fits;
      owner = space_of-initialised space number kind lsn space_fits;
      kind_low = rw kind_is (kind_bounds kind).0;
      kind_high = rw kind_is (kind_bounds kind).1;
      end = in_trailer 4092 4 4088 front (trailer lsn) long (omega arith) ∙ sym (in_header 20 4 space number kind lsn (omega arith));
    }

pub well_formed-put_allowed : (space number at : ℕ) (piece page : List ℕ) → IsAllowed at (length piece) → length page ≡ 4096 → IsWellFormed space number page → IsWellFormed space number (put_at at piece page)
well_formed-put_allowed space number at piece page allowed long was =
    let kept = λ (a n : ℕ) (apart : (a + n ≤ 8) ⊎ (((16 ≤ a) × (a + n ≤ 38)) ⊎ (4088 ≤ a))).
    field-same a n (put_at at piece page) page (part-put_allowed a n at piece page apart allowed long) in
    let kind_is = kind_of-put_allowed at piece page allowed long in
    record {
      front = kept 0 4 (inl (omega arith)) ∙ was.front;
      back = kept 4088 4 (inr (inr (omega arith))) ∙ was.back;
      place = kept 4 4 (inl (omega arith)) ∙ was.place;
      owner = kept 34 4 (inr (inl (omega arith, omega arith))) ∙ was.owner;
      kind_low = rw kind_is was.kind_low;
      kind_high = rw kind_is was.kind_high;
      end = kept 4092 4 (inr (inr (omega arith))) ∙ was.end ∙ sym (kept 20 4 (inr (inl (omega arith, omega arith))));
    }

pub well_formed-with_lsn : (space number lsn : ℕ) (page : List ℕ) → length page ≡ 4096 → IsWellFormed space number page → IsWellFormed space number (with_lsn lsn page)
well_formed-with_lsn space number lsn page long was =
    let eight = length-bytes 8 lsn in
    let four = length-bytes 4 lsn in
    let stamped = put_at 16 (big_bytes 8 lsn) page in
    let still = length-put_at 16 (big_bytes 8 lsn) page (omega arith) in
    let kept = λ (a n : ℕ) (apart : (a + n ≤ 16) ⊎ (24 ≤ a)) (below : a + n ≤ 4092).
    field-same a n (with_lsn lsn page) page (part-with_lsn a n lsn page apart below long) in
    let kind_is = kind_of-with_lsn lsn page long in
    let behind : part 4092 4 (with_lsn lsn page) ≡ big_bytes 4 lsn = part-put_at_same 4092 (big_bytes 4 lsn) stamped (omega arith) in
    let before : part 20 4 (with_lsn lsn page) ≡ big_bytes 4 lsn =
    part-put_at_before 20 4 4092 (big_bytes 4 lsn) stamped (omega arith) (omega arith)
    ∙ part-put_at_inside 4 4 16 (big_bytes 8 lsn) page (omega arith) (omega arith) in
    record {
      front = kept 0 4 (inl (omega arith)) (omega arith) ∙ was.front;
      back = kept 4088 4 (inr (omega arith)) (omega arith) ∙ was.back;
      place = number_of-with_lsn lsn page long ∙ was.place;
      owner = space_of-with_lsn lsn page long ∙ was.owner;
      kind_low = rw kind_is was.kind_low;
      kind_high = rw kind_is was.kind_high;
      end = field-part 4092 4 4 (with_lsn lsn page) (omega arith) ∙ ap (field 0 4) (behind ∙ sym before) ∙ sym (field-part 20 4 4 (with_lsn lsn page) (omega arith));
    }

-- The dictionary.

pub entry_space-with_lsn : (j lsn : ℕ) (page : List ℕ) → j < 62 → length page ≡ 4096 → entry_space j (with_lsn lsn page) ≡ entry_space j page
entry_space-with_lsn j lsn page within long =
    field-same (entry_at j) 4 (with_lsn lsn page) page (part-with_lsn (entry_at j) 4 lsn page (inr (omega arith)) (omega arith) long)

-- the position stands before the entries
pub entry_space-put_position : (j : ℕ) (piece page : List ℕ) → length piece ≡ 8 → position_at ≤ length page → entry_space j (put_at position_at piece page) ≡ entry_space j page
entry_space-put_position j piece page long fits = field-put_at_other (entry_at j) 4 position_at piece page (inr (omega arith)) fits

pub entry_space-put_entry_same : (j space buckets pages : ℕ) (page : List ℕ) → space < 2 ^ 32 → entry_at j ≤ length page → entry_space j (put_at (entry_at j) (entry space buckets pages) page) ≡ space
entry_space-put_entry_same j space buckets pages page small fits =
    field-put_front (entry_at j) 4 space (big_bytes 4 buckets ++ big_bytes 4 pages ++ big_bytes 4 0) page fits small

pub entry_space-put_entry_other : (j k : ℕ) (piece page : List ℕ) → j ≢ k → length piece ≡ 16 → entry_at k ≤ length page → entry_space j (put_at (entry_at k) piece page) ≡ entry_space j page
entry_space-put_entry_other j k piece page other long fits =
    field-put_at_other (entry_at j) 4 (entry_at k) piece page (elim (apart j k other) [ inl below ↦ inl (omega arith) | inr above ↦ inr (omega arith) ]) fits

pub entry_space-initialised : (j space number : ℕ) (kind : PageKind) (lsn : ℕ) → j < 62 → entry_space j (initialised space number kind lsn) ≡ 0
entry_space-initialised j space number kind lsn within =
    field-part (entry_at j) 4 4 (initialised space number kind lsn) (omega arith)
    ∙ ap (field 0 4) (part-zeros (entry_at j) 4 4050 (header space number kind lsn) (trailer lsn) (omega arith) (omega arith))

-- The rows of slots.

some_pair : {k l : ℕ} {v w : List ℕ} → k ≡ l → v ≡ w → ◌≡◌ {A = Option (ℕ × List ℕ)} (Some (k, v)) (Some (l, w))
some_pair p q = cc

pub length-present_slot : (key : ℕ) (value : List ℕ) → length value ≤ 64 → length (present_slot key value) ≡ 80
length-present_slot key value short =
    let padding = length-replicate (64 - length value) (let zero : ℕ = 0 in zero) in
    let eight = length-bytes 8 key in
    let body = length-append value (replicate (64 - length value) 0) in
    let rest = length-append (big_bytes 8 key) (value ++ replicate (64 - length value) 0) in
    omega arith

pub key_of-present_slot : (key : ℕ) (value : List ℕ) → key < 2 ^ 64 → key_of (present_slot key value) ≡ key
key_of-present_slot key value small = big_number-reads_back 8 key (value ++ replicate (64 - length value) 0) small

pub value_of-present_slot : (key : ℕ) (value : List ℕ) → value_of (present_slot key value) ≡ value
value_of-present_slot key value = take_at value (replicate (64 - length value) 0) (length value) refl

pub row_of-present_slot : (key : ℕ) (value : List ℕ) → key < 2 ^ 64 → length value ≤ 64 → row_of (present_slot key value) ≡ Some (key, value)
row_of-present_slot key value small short =
    ap (λ fits. cond fits (Some (key_of (present_slot key value), value_of (present_slot key value))) None) (le-leb (length value) 64 short)
    ∙ some_pair (key_of-present_slot key value small) (value_of-present_slot key value)

pub row_of-unused : row_of (replicate 80 0) ≡ None
row_of-unused = refl

untaken : (state : ℕ) (fits : Bool) (row : Option (ℕ × List ℕ)) → state ≢ 1 → cond ((state == 1) && fits) row None ≡ None
untaken state fits row other =
    elim (eqb_tells state 1) [ inl same ↦ absurd (other same.1) | inr differ ↦ ap (λ is. cond (is && fits) row None) differ.0 ]

-- a slot in another state holds no row
pub row_of-not_present : (bytes : List ℕ) → state_of bytes ≢ 1 → row_of bytes ≡ None
row_of-not_present bytes other = untaken (state_of bytes) (nat_le (length_of bytes) 64) (Some (key_of bytes, value_of bytes)) other
