-- Bitmaps with partial chunks are formats.
use Rattle.std.proofs.Common.{◌≡◌, ℕ, zero, suc, ◌+◌, ◌-◌, ◌*◌, ◌/◌, ◌%◌, ◌<◌, ◌≤◌, min, max, true, false, List, [], ◌∷◌, ◌++◌, length, Result, Ok, Err, refl, sym, ap, subst, ◌∙◌, arith, inl, inr}
use Rattle.std.specs.Int.{div_ceil}
use Rattle.std.specs.List.{flat_map}
use Rattle.std.proofs.lemmas.Bool.{cases_Bool, cases_eq}
use Rattle.std.proofs.lemmas.List.{get_or_past, nil_from_length}
use Rattle.std.proofs.lemmas.Nat.Bits.{bit_at-zero}
use Rattle.byteorder.specs.Endian.{big_bytes}
use Rattle.clone_bytes.specs.Formats.{Format, ◌>>=◌, followed, seen, nothing, IsFormat}
use Rattle.clone_bytes.proofs.Formats.{nothing_laws, followed_laws, seen_laws, made_laws, worded}
use Rattle.clone_chunk.specs.declared.partials.PartialChunk.{PartialChunk}
use Rattle.clone_chunk.specs.Bitmaps.{Bits}
use Rattle.clone_chunk.specs.Chunks.{has_bit}
use Rattle.clone_wire.specs.declared.numbers.Numbers.{Numbers}
use Rattle.clone_wire.specs.declared.fault.Fault.{Fault}
use Rattle.clone_wire.specs.Choices.{has_between, between, bitmap_sizes}
use Rattle.clone_wire.specs.Frames.{IsOneOf}
use Rattle.clone_wire.specs.Ranges.{IsNext, IsNextPartial, AreListed}
use Rattle.clone_wire.specs.Spelling.{partial_bytes, taken_bytes}
use Rattle.clone_wire.specs.Reading.{refusals, any_unset, has_next, bytes_for, count_in, chunk_in, partial_in, partials, taken_in}
use Rattle.clone_wire.proofs.Choosing.{between_tells, between_again}
use Rattle.clone_wire.proofs.Spans.{IsTest, AreWide, wanted_laws}
use Rattle.clone_wire.proofs.FieldFormats.{number_in_laws, range_choice, in_range, same_number, bitmap_laws}

-- ---- how many chunks a bitmap has

-- how many bytes the bitmap and the partial chunks have, of so many together
pub record AreParts (long n : ℕ) : Type 0 where
  pub bitmap : n ≤ 1048576
  pub few : (long - n) / 5 ≤ 1616
  pub whole : n + 5 * ((long - n) / 5) ≡ long

pub parts_of : (long n : ℕ) → IsOneOf (bitmap_sizes long) n → AreParts long n
parts_of long n one = let low = one.low in let high = one.high in let steps = one.steps in record { bitmap = omega arith; few = omega arith; whole = omega arith }

pub size_of_parts : (n k : ℕ) → n ≤ 1048576 → k ≤ 1616 → IsOneOf (bitmap_sizes (n + 5 * k)) n
size_of_parts n k small few = record { low = omega arith; high = omega arith; steps = omega arith }

pub ceil_is : (x : ℕ) → div_ceil x 8 ≡ bytes_for x
ceil_is x = omega arith

pub counts_test : (sizes : Numbers) → 0 < sizes.step → IsTest (λ count. IsOneOf sizes (bytes_for count)) (λ low high. has_between sizes (bytes_for low) (bytes_for high))
counts_test sizes some = record {
  lets = λ x low high one p q. between_again sizes (bytes_for x) (bytes_for low) (bytes_for high) some one (omega arith) (omega arith);
  finds = λ low high p e. (let v = between_tells sizes (bytes_for low) (bytes_for high) some e in elim (cases_eq v.0 (bytes_for low)) [
    | inl least ↦ (low, subst (IsOneOf sizes) least v.1, omega arith, p)
    | inr above ↦ (let same : bytes_for (8 * v.0 - 7) ≡ v.0 = omega (arith, v.2) in (8 * v.0 - 7, subst (IsOneOf sizes) (sym same) v.1, omega (arith, v.2), omega (arith, v.3)))
  ]);
}

counts_wide : (long : ℕ) → long ≤ 1056656 → AreWide (λ count. IsOneOf (bitmap_sizes long) (bytes_for count)) 4
counts_wide long few =
    let least = long - 5 * min 1616 (long / 5) in
    let same : bytes_for (8 * least) ≡ least = omega arith in
    let one : IsOneOf (bitmap_sizes long) least = record { low = omega arith; high = omega arith; steps = omega arith } in
    record { some = (8 * least, subst (IsOneOf (bitmap_sizes long)) (sym same) one); within = λ x is. (let high = is.high in omega arith) }

count_laws : (long p : ℕ) → long ≤ 1056656 → 18 ≤ p → IsFormat refusals p (count_in 18 (bitmap_sizes long))
count_laws long p few there = wanted_laws 18 4 p _ _ (counts_test (bitmap_sizes long) (omega arith)) (counts_wide long few) there

-- ---- the next partial chunk

pub unset_there : (bitmap : List ℕ) (chunk n : ℕ) → any_unset bitmap chunk n ≡ true → (x : ℕ) × (chunk ≤ x) × (x < chunk + n) × (has_bit bitmap x ≡ false)
unfolding any_unset
unset_there bitmap chunk zero e = absurd cc
unset_there bitmap chunk (suc n) e = elim (cases_Bool (has_bit bitmap chunk)) [
  | inl set ↦ (let x = unset_there bitmap (chunk + 1) n (rw set at e) in (x.0, omega (arith, x.1), omega (arith, x.2), x.3))
  | inr unset ↦ (chunk, omega arith, omega arith, unset)
]

pub unset_found : (bitmap : List ℕ) (chunk n x : ℕ) → chunk ≤ x → x < chunk + n → has_bit bitmap x ≡ false → any_unset bitmap chunk n ≡ true
unfolding any_unset
unset_found bitmap chunk zero x low high unset = absurd (omega arith)
unset_found bitmap chunk (suc n) x low high unset = elim (cases_Bool (has_bit bitmap chunk)) [
  | inl set ↦ elim (cases_eq chunk x) [
    | inl here ↦ absurd (let both : true ≡ false = sym set ∙ ap (has_bit bitmap) here ∙ unset in cc)
    | inr later ↦ rw set (unset_found bitmap (chunk + 1) n x (omega arith) (omega arith) unset)
  ]
  | inr first ↦ rw first refl
]

-- a chunk whose bit is set is passed over
pub passes_set : (bitmap : List ℕ) (chunk last : ℕ) → chunk < last + 1 → has_bit bitmap chunk ≡ true → any_unset bitmap chunk (last + 1 - chunk) ≡ any_unset bitmap (chunk + 1) (last + 1 - (chunk + 1))
unfolding any_unset
passes_set bitmap chunk last less set = let k : last + 1 - chunk ≡ suc (last + 1 - (chunk + 1)) = omega arith in rw (k, set) refl

pub next_test : (bitmap : List ℕ) (from more : ℕ) → more ≤ 0xFFFFFFFF → IsTest (IsNext bitmap from more) (has_next bitmap from more)
next_test bitmap from more few = record {
  lets = λ x low high is p q. (let least = is.low in let most = is.high in unset_found bitmap (max from low) (min high (0xFFFFFFFF - more) + 1 - max from low) x (omega arith) (omega arith) is.unset);
  finds = λ low high p e. (let x = unset_there bitmap (max from low) (min high (0xFFFFFFFF - more) + 1 - max from low) e in
      (x.0, record { low = omega (arith, x.1); high = omega (arith, x.1, x.2); unset = x.3 }, omega (arith, x.1), omega (arith, x.1, x.2)));
}

-- past the end no bit is set
pub unset_past : (bitmap : List ℕ) (x : ℕ) → 8 * length bitmap ≤ x → has_bit bitmap x ≡ false
unset_past bitmap x past = rw (get_or_past bitmap (x / 8) 0 (omega arith), bit_at-zero (x % 8)) refl

next_wide : (bitmap : List ℕ) (from more : ℕ) → from + more ≤ 0xFFFFFFFF → 8 * length bitmap + more ≤ 0xFFFFFFFF → AreWide (IsNext bitmap from more) 4
next_wide bitmap from more room short = record {
  some = (0xFFFFFFFF - more, record { low = omega arith; high = omega arith; unset = unset_past bitmap (0xFFFFFFFF - more) (omega arith) });
  within = λ x is. (let high = is.high in omega arith);
}

chunk_laws : (at p : ℕ) (bitmap : List ℕ) (from more : ℕ) → at ≤ p → from + more ≤ 0xFFFFFFFF → 8 * length bitmap + more ≤ 0xFFFFFFFF → IsFormat refusals p (chunk_in at bitmap from more)
chunk_laws at p bitmap from more there room short = wanted_laws at 4 p _ _ (next_test bitmap from more (omega arith)) (next_wide bitmap from more room short) there

partial_laws : (at p : ℕ) (bitmap : List ℕ) (from more : ℕ) → at ≤ p → from + more ≤ 0xFFFFFFFF → 8 * length bitmap + more ≤ 0xFFFFFFFF → IsFormat refusals p (partial_in at bitmap from more)
partial_laws at p bitmap from more there room short =
    seen_laws _ _ _ (followed_laws (chunk_laws at p bitmap from more there room short) (λ chunk c. number_in_laws (at + 4) 1 _ (between 1 254) (range_choice 1 1 254 (omega arith) (omega arith)) (omega arith)))
    (λ x has. (record { next = has.0; mask = (has.1.low, has.1.high) }, refl)) (λ partial is. ((partial.chunk, partial.mask), (is.next, in_range 1 254 partial.mask is.mask.0 is.mask.1), refl))

-- ---- lists of them

abbrev Rest : Type 0
Rest = PartialChunk → List ℕ → Result (List PartialChunk × List ℕ) Fault

abbrev listing : Result (PartialChunk × List ℕ) Fault → Rest → Result (List PartialChunk × List ℕ) Fault
listing r s = r >>= λ first. s first.0 first.1 >>= λ more. Ok (first.0 ∷ more.0, more.1)

abbrev joined : Result (PartialChunk × List ℕ) Fault → Rest → Result ((PartialChunk × List PartialChunk) × List ℕ) Fault
joined r s = r >>= λ x. s x.0 x.1 >>= λ y. Ok ((x.0, y.0), y.1)

abbrev consed : Result ((PartialChunk × List PartialChunk) × List ℕ) Fault → Result (List PartialChunk × List ℕ) Fault
consed r = r >>= λ z. Ok (z.0.0 ∷ z.0.1, z.1)

in_turn : (r : Result (PartialChunk × List ℕ) Fault) (s : Rest) → listing r s ≡ consed (joined r s)
in_turn (Err e) s = refl
in_turn (Ok x) s = rest x (s x.0 x.1)
  where
    rest : (x : PartialChunk × List ℕ) (r : Result (List PartialChunk × List ℕ) Fault) → listing (Ok x) (λ first left. r) ≡ consed (joined (Ok x) (λ first left. r))
    rest x (Ok y) = refl
    rest x (Err e) = refl

pub partials_laws : (n at p : ℕ) (bitmap : List ℕ) (from : ℕ) → at ≤ p → from + n ≤ 0x100000000 → 8 * length bitmap + n ≤ 0x100000000 → IsFormat refusals p (partials at bitmap from n)
partials_laws zero at p bitmap from there room short =
    let none : List PartialChunk = [] in
    worded (nothing none) (partials at bitmap from 0) (nothing_laws none) (λ bytes. refl)
    (λ xs e. subst (λ (ys : List PartialChunk). ((length ys ≡ 0) × AreListed bitmap from ys) × (flat_map partial_bytes ys ≡ [])) e ((refl, tt), refl)) (λ xs has. sym (nil_from_length xs has.0))
partials_laws (suc n) at p bitmap from there room short =
    let parts = followed (partial_in at bitmap from n) (λ x. partials (at + 5) bitmap (x.chunk + 1) n) in
    let whole : Format Fault (List PartialChunk) = seen (λ xs. (length xs ≡ suc n) × AreListed bitmap from xs) (flat_map partial_bytes) (λ x. x.0 ∷ x.1) parts in
    worded whole (partials at bitmap from (suc n))
    (seen_laws _ _ _ (followed_laws (partial_laws at p bitmap from n there (omega arith) (omega arith)) (λ x is. partials_laws n (at + 5) _ bitmap (x.chunk + 1) (omega arith) (let high = is.next.high in omega arith) (omega arith)))
    (λ x has. ((ap suc has.1.0, (subst (λ k. IsNextPartial bitmap from k x.0) (sym has.1.0) has.0, has.1.1)), refl)) (onto bitmap from n))
    (λ bytes. in_turn ((partial_in at bitmap from n).read bytes) (λ x. (partials (at + 5) bitmap (x.chunk + 1) n).read)) (λ xs has. (has, refl)) (λ xs has. has)
  where
    onto : (bitmap : List ℕ) (from n : ℕ) (xs : List PartialChunk) → (length xs ≡ suc n) × AreListed bitmap from xs
        → (x : PartialChunk × List PartialChunk) × (IsNextPartial bitmap from n x.0 × ((length x.1 ≡ n) × AreListed bitmap (x.0.chunk + 1) x.1)) × (x.0 ∷ x.1 ≡ xs)
    onto bitmap from n [] has = absurd (omega (arith, has.0))
    onto bitmap from n (x ∷ xs) has = let long : length xs ≡ n = omega (arith, has.0) in ((x, xs), (subst (λ k. IsNextPartial bitmap from k x) long has.1.0, (long, has.1.1)), refl)

-- ---- a bitmap and partial chunks

-- what was read of them
pub taken_is : (long : ℕ) (x : ℕ × (Bits × (ℕ × List PartialChunk))) → (count : x.1.0.count ≡ x.0) → (number : length x.1.1.1 ≡ x.1.1.0)
    → taken_bytes (record { finished = x.1.0; partials = x.1.1.1 }) ≡ big_bytes 4 x.0 ++ (x.1.0.bytes ++ (big_bytes 4 x.1.1.0 ++ flat_map partial_bytes x.1.1.1))
taken_is long x count number =
    ap (λ (n : ℕ). big_bytes 4 n ++ (x.1.0.bytes ++ (big_bytes 4 (length x.1.1.1) ++ flat_map partial_bytes x.1.1.1))) count ∙ ap (λ (n : ℕ). big_bytes 4 x.0 ++ (x.1.0.bytes ++ (big_bytes 4 n ++ flat_map partial_bytes x.1.1.1))) number

pub taken_laws : (long p : ℕ) → long ≤ 1056656 → 18 ≤ p → IsFormat refusals p (taken_in long)
taken_laws long p few there =
    made_laws taken_bytes _ (followed_laws (count_laws long p few there) (λ count c. (let parts = parts_of long (bytes_for count) c in
    followed_laws (bitmap_laws 22 count (bytes_for count) _ (omega arith)) (λ bits b. (let size : length bits.bytes ≡ bytes_for count = ap (λ (bits : Bits). length bits.bytes) (sym b.2) ∙ b.1.0.0 in
    let n = (long - bytes_for count) / 5 in
    followed_laws (number_in_laws (22 + bytes_for count) 4 _ _ (range_choice 4 n n (omega arith) (omega (arith, parts.few))) (omega arith)) (λ k one. partials_laws n (22 + bytes_for count + 4) _ bits.bytes 0 (omega arith) (omega (arith, parts.few)) (omega (arith, parts.few, parts.bitmap))))))))
    (λ x has. taken_is long x (sym (ap (λ (bits : Bits). bits.count) has.1.0.2)) (has.1.1.1.0 ∙ sym (same_number _ x.1.1.0 has.1.1.0)))
