-- A log that goes round on a row of bytes: what is read of it and written to it.
use Rattle.std.proofs.Common.{◌≡◌, ℕ, ◌+◌, ◌-◌, ◌<◌, ◌≤◌, List, ◌++◌, length, min, take, drop, arith, ◌∙◌, ap, sym, append_assoc}
use Rattle.std.proofs.Common.{length-append, length-take, length-drop}
use Rattle.std.proofs.lemmas.Bool.{cases_lt}
use Rattle.std.proofs.Common.{inl, inr, refl}
use Rattle.std.proofs.lemmas.List.{take-append-le, drop-append-le, drop-drop, drop-take, take-take, take_at}
use Rattle.std.proofs.lemmas.List.Edits.{paste_all, drop-paste}
use Rattle.std.proofs.Math.Seq.{take-append-add, drop-append-add}
use Rattle.clone_ring.specs.Row.{Row, IsFurther, LiesOn, round_from, written}
use Rattle.clone_ring.proofs.PieceLemmas.{length-written}

-- so many bytes of the log stand from its place on
pub length-round : (row : Row) (start len : ℕ) → LiesOn row start len → length (take len (round_from start row.bytes)) ≡ len
length-round row start len lies =
    elim (cases_lt (length row.bytes) row.size) [
      | inl part ↦ omega (arith, lies.filled part, length-take len (round_from start row.bytes), length-append (drop start row.bytes) row.bytes, length-drop start row.bytes)
      | inr full ↦ omega (arith, lies.fits, full, length-take len (round_from start row.bytes), length-append (drop start row.bytes) row.bytes)
    ]

-- a log that comes to the row's end has all of the row written
whole_row : (row : Row) (start len : ℕ) → LiesOn row start len → row.size ≤ start + len → length row.bytes ≡ row.size
whole_row row start len lies round =
    elim (cases_lt (length row.bytes) row.size) [
      | inl part ↦ absurd (omega (arith, lies.filled part, part, round))
      | inr full ↦ omega (arith, lies.held, full)
    ]

-- a place in the log, before the row's end, is written
reached : (row : Row) (start len offset : ℕ) → LiesOn row start len → start + offset < row.size → offset ≤ len → start + offset ≤ length row.bytes
reached row start len offset lies straight within =
    elim (cases_lt (length row.bytes) row.size) [
      | inl part ↦ omega (arith, lies.filled part, within)
      | inr full ↦ omega (arith, full, straight)
    ]

-- The bytes of a log from further round on are those from that place on.
pub round_further : (row : Row) (start len offset place count : ℕ) → LiesOn row start len → IsFurther row.size start offset place → offset + count ≤ len
    → take count (drop offset (round_from start row.bytes)) ≡ take count (round_from place row.bytes)
round_further row start len offset place count lies further within =
    let bytes = row.bytes in
    let size = length-drop start bytes in
    elim (cases_lt (start + offset) row.size) [
      | inl straight ↦ (let there : start + offset ≤ length bytes = reached row start len offset lies straight (omega arith) in
          let at = further.straight straight in
          ap (take count)
          (drop-append-le offset (drop start bytes) bytes (omega (arith, there, size))
          ∙ ap (λ ys. ys ++ bytes) (drop-drop offset start bytes ∙ ap (λ n. drop n bytes) (sym at))))
      | inr round ↦ (let at = further.round round in
          let whole : length bytes ≡ row.size = whole_row row start len lies (omega arith) in
          let behind : offset ≡ length (drop start bytes) + place = omega (arith, at, whole, size, lies.begins, round) in
          ap (take count) (ap (λ n. drop n (round_from start bytes)) behind ∙ drop-append-add (drop start bytes) bytes place)
          ∙ sym (take-append-le count (drop place bytes) bytes (omega (arith, length-drop place bytes, at, whole, lies.begins, lies.fits))))
    ]

-- the log without its first bytes
pub round_dropped : (row : Row) (start len offset place : ℕ) → LiesOn row start len → IsFurther row.size start offset place → offset ≤ len
    → take (len - offset) (round_from place row.bytes) ≡ drop offset (take len (round_from start row.bytes))
round_dropped row start len offset place lies further within =
    let split : len ≡ offset + (len - offset) = omega arith in
    sym
    (ap (λ n. drop offset (take n (round_from start row.bytes))) split
    ∙ (drop-take offset (len - offset) (round_from start row.bytes) ∙ round_further row start len offset place (len - offset) lies further (omega arith)))

-- a place of the log, or the one where it ends, has no byte before it that isn't written
pub place_written : (row : Row) (start len offset place : ℕ) → LiesOn row start len → IsFurther row.size start offset place → offset ≤ len
    → place ≤ length row.bytes
place_written row start len offset place lies further within =
    elim (cases_lt (start + offset) row.size) [
      | inl straight ↦ omega (arith, reached row start len offset lies straight within, further.straight straight)
      | inr round ↦ omega (arith, whole_row row start len lies (omega arith), further.round round, lies.begins, lies.fits, within)
    ]

-- as many bytes of the log as fit before the row's end are written
pub part_written : (row : Row) (start len offset place count : ℕ) → LiesOn row start len → IsFurther row.size start offset place → offset + count ≤ len
    → place + min count (row.size - place) ≤ length row.bytes
part_written row start len offset place count lies further within =
    elim (cases_lt (start + offset) row.size) [
      | inl straight ↦ (let at = further.straight straight in
          elim (cases_lt (length row.bytes) row.size) [
            | inl part ↦ (let ends = lies.filled part in omega (arith, ends, at))
            | inr full ↦ omega (arith, full, at, straight)
          ])
      | inr round ↦ (let at = further.round round in
          let whole = whole_row row start len lies (omega arith) in
          omega (arith, whole, at, lies.begins, lies.fits))
    ]

-- the bytes of the log from further round on, up to the row's end
pub round_read : (row : Row) (start len offset place count : ℕ) → LiesOn row start len → IsFurther row.size start offset place → offset + count ≤ len
    → place + count ≤ length row.bytes → take count (drop place row.bytes) ≡ take count (drop offset (take len (round_from start row.bytes)))
round_read row start len offset place count lies further within there =
    let whole = round_from start row.bytes in
    let longer : len ≡ offset + (len - offset) = omega arith in
    sym
    (ap (λ n. take count (drop offset (take n whole))) longer
    ∙ (ap (take count) (drop-take offset (len - offset) whole)
    ∙ (take-take count (len - offset) (drop offset whole) (omega arith)
    ∙ (round_further row start len offset place count lies further within
    ∙ take-append-le count (drop place row.bytes) row.bytes (omega (arith, length-drop place row.bytes))))))

-- bytes behind those before them, where they are written
take_written : (at : ℕ) (new bytes : List ℕ) → at ≤ length bytes → take (at + length new) (written at new bytes) ≡ take at bytes ++ new
take_written at new bytes within =
    let front = take at bytes ++ new in
    ap (take (at + length new)) (sym (append_assoc (take at bytes) new (drop (at + length new) bytes)))
    ∙ take_at front (drop (at + length new) bytes) (at + length new) (omega (arith, length-append (take at bytes) new, length-take at bytes))

-- what stands behind written bytes stays
drop_written : (start at : ℕ) (new bytes : List ℕ) → at ≤ length bytes → at + length new ≤ start → drop start (written at new bytes) ≡ drop start bytes
drop_written start at new bytes within before =
    let n = length new in
    let pasted = paste_all bytes at new n refl in
    let same : drop (at + n) (written at new bytes) ≡ drop (at + n) bytes = ap (drop (at + n)) (sym pasted) ∙ drop-paste bytes at new n within (omega arith) in
    let further : start ≡ at + n + (start - (at + n)) = omega arith in
    let rest = start - (at + n) in
    ap (λ k. drop k (written at new bytes)) further
    ∙ (sym (drop-drop rest (at + n) (written at new bytes))
    ∙ (ap (drop rest) same ∙ (drop-drop rest (at + n) bytes ∙ ap (λ k. drop k bytes) (sym further))))

-- the bytes from a start on, when others are written behind them
from_start : (start len : ℕ) (new bytes : List ℕ) → start + len ≤ length bytes
    → take (len + length new) (drop start (written (start + len) new bytes)) ≡ take len (drop start bytes) ++ new
from_start start len new bytes within =
    let now = written (start + len) new bytes in
    let longer : start + (len + length new) ≡ start + len + length new = omega arith in
    let front = take (start + len) bytes in
    sym (drop-take start (len + length new) now)
    ∙ (ap (λ n. drop start (take n now)) longer
    ∙ (ap (drop start) (take_written (start + len) new bytes within)
    ∙ (drop-append-le start front new (omega (arith, length-take (start + len) bytes)) ∙ ap (λ ys. ys ++ new) (drop-take start len bytes))))

-- a log after bytes were put behind it
pub record IsAppended (row : Row) (start len : ℕ) (bytes now : List ℕ) : Type 0 where
  pub lies : LiesOn (record { bytes = now; size = row.size }) start (len + length bytes)
  pub shows : take (len + length bytes) (round_from start now) ≡ take len (round_from start row.bytes) ++ bytes

-- All of them are written before the row's end.
appended_straight : (row : Row) (start len : ℕ) (bytes : List ℕ) → LiesOn row start len → start + len + length bytes ≤ row.size → start + len ≤ length row.bytes
    → IsAppended row start len bytes (written (start + len) bytes row.bytes)
appended_straight row start len bytes lies room within =
    let now = written (start + len) bytes row.bytes in
    let size = length-written (start + len) bytes row.bytes within in
    let front = take-append-le (len + length bytes) (drop start now) now (omega (arith, size, length-drop start now)) in
    let was = take-append-le len (drop start row.bytes) row.bytes (omega (arith, within, length-drop start row.bytes)) in
    record {
      lies = record {
        begins = lies.begins;
        fits = omega (arith, room);
        held = omega (arith, size, room, lies.held);
        filled = λ part. omega (arith, size, part, lies.filled (omega (arith, size, part)));
      };
      shows = front ∙ (from_start start len bytes row.bytes within ∙ ap (λ ys. ys ++ bytes) (sym was));
    }

-- The log goes round already, so they are written in the room before its start.
appended_round : (row : Row) (start len place : ℕ) (bytes : List ℕ) → LiesOn row start len → place + row.size ≡ start + len → len + length bytes ≤ row.size
    → IsAppended row start len bytes (written place bytes row.bytes)
appended_round row start len place bytes lies round room =
    let now = written place bytes row.bytes in
    let whole = whole_row row start len lies (omega (arith, round)) in
    let size = length-written place bytes row.bytes (omega (arith, whole, round, lies.begins, lies.fits)) in
    let rest = length-drop start row.bytes in
    let long : len + length bytes ≡ length (drop start row.bytes) + (place + length bytes) = omega (arith, rest, whole, round, lies.begins) in
    let short : len ≡ length (drop start row.bytes) + place = omega (arith, rest, whole, round, lies.begins) in
    let kept = drop_written start place bytes row.bytes (omega (arith, whole, round, lies.begins, lies.fits)) (omega (arith, round, room)) in
    let behind = take_written place bytes row.bytes (omega (arith, whole, round, lies.begins, lies.fits)) in
    let was : take len (round_from start row.bytes) ≡ drop start row.bytes ++ take place row.bytes =
    ap (λ n. take n (round_from start row.bytes)) short ∙ take-append-add (drop start row.bytes) row.bytes place in
    record {
      lies = record {
        begins = lies.begins;
        fits = room;
        held = omega (arith, size, whole, round, room, lies.begins);
        filled = λ part. absurd (omega (arith, size, whole, part));
      };
      shows =
          ap (λ n. take n (round_from start now)) long
          ∙ (ap (λ ys. take (length (drop start row.bytes) + (place + length bytes)) (ys ++ now)) kept
          ∙ (take-append-add (drop start row.bytes) now (place + length bytes)
          ∙ (ap (λ ys. drop start row.bytes ++ ys) behind
          ∙ (sym (append_assoc (drop start row.bytes) (take place row.bytes) bytes) ∙ ap (λ ys. ys ++ bytes) (sym was)))));
    }

-- Bytes that fit before the row's end are put behind a log.
pub round_appended : (row : Row) (start len place : ℕ) (bytes : List ℕ) → LiesOn row start len → IsFurther row.size start len place
    → len + length bytes ≤ row.size → place + length bytes ≤ row.size → IsAppended row start len bytes (written place bytes row.bytes)
round_appended row start len place bytes lies further room fits =
    elim (cases_lt (start + len) row.size) [
      | inl straight ↦ (let at = further.straight straight in
          let within = reached row start len len lies straight (omega arith) in
          rw at (appended_straight row start len bytes lies (omega (arith, at, fits)) within))
      | inr round ↦ appended_round row start len place bytes lies (further.round round) room
    ]
