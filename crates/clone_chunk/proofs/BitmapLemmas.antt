-- A bitmap after one of its bits was set.
use Rattle.std.proofs.Common.{◌≡◌, ◌≢◌, ℕ, ◌-◌, ◌*◌, ◌/◌, ◌%◌, ◌^◌, ◌<◌, true, List, length, set, get_or, refl, ◌∙◌, arith, inl, inr}
use Rattle.std.specs.Int.Bits.{bit_or}
use Rattle.std.proofs.Math.Nat.{mod-le}
use Rattle.std.proofs.Math.Pow.{pow-lt}
use Rattle.std.proofs.lemmas.Bool.{cases_eq, lt-ltb, ltb-true}
use Rattle.std.proofs.lemmas.List.{length-set, get_or-set_same, get_or-set_other}
use Rattle.std.proofs.lemmas.Nat.{or_lt}
use Rattle.std.proofs.lemmas.Nat.Bits.{bit_at_set_same, bit_at_set_other}
use mir.Syntax.{w8}
use Rattle.clone_chunk.specs.Chunks.{has_bit}
use Rattle.clone_chunk.specs.Bitmaps.{IsBitmap}

-- the byte with one more bit
abbrev pub with_bit : ℕ → ℕ → ℕ
with_bit byte bit = bit_or byte (1 * 2 ^ bit % 2 ^ 8)

-- the bytes with one more bit
abbrev pub with_set : List ℕ → ℕ → List ℕ
with_set bytes i = set bytes (i / 8) (with_bit (get_or bytes (i / 8) 0) (i % 8))

pub set_bit : (bytes : List ℕ) (i : ℕ) → i / 8 < length bytes → has_bit (with_set bytes i) i ≡ true
set_bit bytes i within =
    let bit : i % 8 < 8 = omega arith in
    rw (get_or-set_same bytes (i / 8) (with_bit (get_or bytes (i / 8) 0) (i % 8)) 0 within, bit_at_set_same w8 (get_or bytes (i / 8) 0) (i % 8) bit) refl

pub other_bits : (bytes : List ℕ) (i j : ℕ) → i / 8 < length bytes → j ≢ i → has_bit (with_set bytes i) j ≡ has_bit bytes j
other_bits bytes i j within other =
    let byte = get_or bytes (i / 8) 0 in
    let bit : i % 8 < 8 = omega arith in
    elim (cases_eq (j / 8) (i / 8)) [
      | inl same ↦
          let apart : j % 8 ≢ i % 8 = λ e. other (omega arith) in
          rw (same, get_or-set_same bytes (i / 8) (with_bit byte (i % 8)) 0 within, bit_at_set_other w8 byte (i % 8) bit (j % 8) apart) refl
      | inr far ↦ rw (get_or-set_other bytes (i / 8) (j / 8) (with_bit byte (i % 8)) 0 far) refl
    ]

-- a byte below a power of 2 stays below it where the bit is
with_bit_below : (byte bit high : ℕ) → byte < 2 ^ high → bit < high → with_bit byte bit < 2 ^ high
with_bit_below byte bit high below less =
    or_lt high byte (1 * 2 ^ bit % 2 ^ 8) below (let power = pow-lt less in let most = mod-le (1 * 2 ^ bit) (2 ^ 8) in omega arith)

-- the bit's byte is there
pub there : (count : ℕ) (bytes : List ℕ) (i : ℕ) → IsBitmap count bytes → i < count → i / 8 < length bytes
there count bytes i is within = let long = is.long in omega arith

pub stays : (count : ℕ) (bytes : List ℕ) (i : ℕ) → IsBitmap count bytes → i < count → IsBitmap count (with_set bytes i)
stays count bytes i is within =
    let byte = get_or bytes (i / 8) 0 in
    let new = with_bit byte (i % 8) in
    let long : length (with_set bytes i) ≡ length bytes = length-set bytes (i / 8) new in
    let there : i / 8 < length bytes = let l = is.long in omega arith in
    record {
      few = is.few;
      long = long ∙ is.long;
      end = rw long (elim (cases_eq (length bytes - 1) (i / 8)) [
        | inl last ↦
            let old : get_or bytes (i / 8) 0 < 2 ^ (count - 8 * (i / 8)) = ltb-true _ _ (rw last at is.end) in
            rw (last, get_or-set_same bytes (i / 8) new 0 there) (lt-ltb _ _ (with_bit_below byte (i % 8) (count - 8 * (i / 8)) old (omega arith)))
        | inr before ↦ rw (get_or-set_other bytes (i / 8) (length bytes - 1) new 0 before) is.end
      ]);
    }
