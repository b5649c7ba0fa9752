-- One chunk: its blocks, and the bits of its mask.
use Rattle.std.proofs.Common.{ℕ, ◌≡◌, ◌-◌, ◌^◌, ◌<◌, ◌≤◌, Bool, true, false, refl, sym, ap, ◌∙◌, arith, inl, inr}
use Rattle.std.specs.Prelude.{◌==◌, ◌||◌, nat_lt, bit_or, not}
use Rattle.std.specs.Int.{bit_at}
use Rattle.std.proofs.lemmas.Bool.{eqb-true, eq-eqb, ne_eqb, ltb-true, cases_eq, and_parts, not-true, both_ways, false_from_ne_true, or_right}
use Rattle.std.proofs.lemmas.Nat.{or_lt, pow_pos, pow_below}
use Rattle.std.proofs.lemmas.Nat.Bits.{bit_at_or, bit_at-pow_same, bit_at-pow_other, bit_at_ones, bit_at_above, bit_at-lt, same_from_bits_below}
use Rattle.clone_marks.specs.declared.chunk_marks.ChunkMarks.{ChunkMarks}
use Rattle.clone_marks.specs.Blocks.{IsChunk, full, has_block, lacks_block, is_finished, is_partial, with_block}

-- a block that the chunk doesn't have wasn't taken
pub past_has : (c : ChunkMarks) (block : ℕ) → c.taken < 2 ^ c.blocks → c.blocks ≤ block → has_block block c ≡ false
past_has c block within past = ap (λ n. n == 1) (bit_at_above c.taken c.blocks block within past)

-- a finished chunk has each of its blocks, and one that has them is finished
pub finished_has : (c : ChunkMarks) (block : ℕ) → is_finished c ≡ true → block < c.blocks → has_block block c ≡ true
finished_has c block finished less =
    let all : c.taken ≡ 2 ^ c.blocks - 1 = eqb-true c.taken (full c.blocks) finished in
    eq-eqb (bit_at c.taken block) 1 (ap (λ n. bit_at n block) all ∙ bit_at_ones c.blocks block less)

pub has_finished : (c : ChunkMarks) → c.taken < 2 ^ c.blocks → ((block : ℕ) → block < c.blocks → has_block block c ≡ true) → is_finished c ≡ true
has_finished c within each =
    let some = pow_pos c.blocks in
    eq-eqb c.taken (full c.blocks) (same_from_bits_below c.blocks c.taken (full c.blocks) within (omega arith)
    (λ b less. eqb-true (bit_at c.taken b) 1 (each b less) ∙ sym (bit_at_ones c.blocks b less)))

-- a chunk of which a block is left isn't finished
pub lacks_unfinished : (c : ChunkMarks) (block : ℕ) → lacks_block block c ≡ true → is_finished c ≡ false
lacks_unfinished c block lacks =
    let parts = and_parts (nat_lt block c.blocks) (not (has_block block c)) lacks in
    false_from_ne_true (is_finished c) (λ finished.
    both_ways (has_block block c) (not-true (has_block block c) parts.1) (finished_has c block finished (ltb-true block c.blocks parts.0)))

pub lacks_within : (c : ChunkMarks) (block : ℕ) → lacks_block block c ≡ true → block < c.blocks
lacks_within c block lacks = ltb-true block c.blocks (and_parts (nat_lt block c.blocks) (not (has_block block c)) lacks).0

pub partial_unfinished : (c : ChunkMarks) → is_partial c ≡ true → is_finished c ≡ false
partial_unfinished c partial = not-true (is_finished c) (and_parts (not (c.taken == 0)) (not (is_finished c)) partial).1

-- ---- one more block

pub or_none : (x : Bool) → (x || false) ≡ x
or_none true = refl
or_none false = refl

pub with_has : (c : ChunkMarks) (block b : ℕ) → has_block b (with_block c block) ≡ (has_block b c || (b == block))
with_has c block b =
    let both = bit_at_or c.taken (2 ^ block) b in
    let low = bit_at-lt c.taken b in
    elim (cases_eq b block) [
      | inl same ↦
          let one : bit_at (2 ^ block) b ≡ 1 = ap (λ i. bit_at (2 ^ block) i) same ∙ bit_at-pow_same block in
          let set : bit_at (bit_or c.taken (2 ^ block)) b ≡ 1 = omega (arith, both, low, one) in
          eq-eqb (bit_at (bit_or c.taken (2 ^ block)) b) 1 set ∙ sym (or_right (has_block b c) (b == block) (eq-eqb b block same))
      | inr other ↦
          let none : bit_at (2 ^ block) b ≡ 0 = bit_at-pow_other block b other in
          let kept : bit_at (bit_or c.taken (2 ^ block)) b ≡ bit_at c.taken b = omega (arith, both, low, none) in
          ap (λ n. n == 1) kept ∙ sym (ap (λ t. has_block b c || t) (ne_eqb b block other) ∙ or_none (has_block b c))
    ]

pub with_is : (c : ChunkMarks) (block : ℕ) → IsChunk c → block < c.blocks → IsChunk (with_block c block)
with_is c block is less =
    record { some = is.some; few = is.few; within = or_lt c.blocks c.taken (2 ^ block) is.within (pow_below block c.blocks less) }
