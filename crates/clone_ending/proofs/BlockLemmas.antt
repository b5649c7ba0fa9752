-- How many blocks of a stage weren't taken: one more is taken, and no stage has more than so many.
use Rattle.std.proofs.Common.{ℕ, zero, suc, ◌≡◌, ◌∙◌, ◌*◌, ◌<◌, ◌≤◌, Bool, true, false, cond, List, [], ◌∷◌, length, get_or, refl, ap, arith}
use Rattle.std.specs.Prelude.{not, nat_lt}
use Rattle.std.specs.List.{All, count_by, range_with_len}
use Rattle.std.proofs.lemmas.Bool.{and_parts, not-true, ltb-true, both_ways}
use Rattle.std.proofs.lemmas.List.Elements.{All-weaker}
use Rattle.std.proofs.lemmas.List.FromFn.{get_or-range_with_len, length-range_with_len}
use Rattle.std.proofs.lemmas.List.Sums.{count_by-le-length, sum_by-cons, sum_by-le, sum_by-le-sum_by}
use Rattle.clone_marks.specs.declared.chunk_marks.ChunkMarks.{ChunkMarks}
use Rattle.clone_marks.specs.Blocks.{IsChunk, blocks_of, has_block, is_left, is_taken}
use Rattle.clone_ending.specs.Left.{blocks_left, untaken}

-- ---- counts of fewer

counts_le : (a b : Bool) → (a ≡ true → b ≡ true) → cond a 1 0 ≤ cond b 1 0
counts_le false b holds = omega arith
counts_le true b holds = rw (holds refl) (omega arith)

fewer : {X : Type 0} (p q : X → Bool) (xs : List X) → ((x : X) → p x ≡ true → q x ≡ true) → count_by p xs ≤ count_by q xs
fewer p q xs each = sum_by-le-sum_by (λ x. cond (p x) 1 0) (λ x. cond (q x) 1 0) xs (λ x. counts_le (p x) (q x) (each x))

fewer_at : {X : Type 0} (p q : X → Bool) (xs : List X) (i : ℕ) (d : X) → i < length xs → ((x : X) → p x ≡ true → q x ≡ true) → p (get_or xs i d) ≡ false → q (get_or xs i d) ≡ true → count_by p xs < count_by q xs
fewer_at p q [] i d within each fails holds = absurd (omega arith)
fewer_at p q (x ∷ xs) zero d within each fails holds =
    let ps = sum_by-cons (λ x. cond (p x) 1 0) x xs in
    let qs = sum_by-cons (λ x. cond (q x) 1 0) x xs in
    let none : ◌≡◌ {A = ℕ} (cond (p x) 1 0) 0 = rw fails refl in
    let one : ◌≡◌ {A = ℕ} (cond (q x) 1 0) 1 = rw holds refl in
    omega (arith, ps, qs, none, one, fewer p q xs each)
fewer_at p q (x ∷ xs) (suc i) d within each fails holds =
    let ps = sum_by-cons (λ x. cond (p x) 1 0) x xs in
    let qs = sum_by-cons (λ x. cond (q x) 1 0) x xs in
    omega (arith, ps, qs, counts_le (p x) (q x) (each x), fewer_at p q xs i d (omega arith) each fails holds)

-- ---- of a chunk

not_both : (a b : Bool) → (b ≡ true → a ≡ true) → not a ≡ true → not b ≡ true
not_both a false keeps lacks = refl
not_both a true keeps lacks = absurd (both_ways a (not-true a lacks) (keeps refl))

-- what was taken of one chunk was taken of another that has as many blocks
pub record Keeps (old new : ChunkMarks) : Type 0 where
  pub blocks : new.blocks ≡ old.blocks
  pub keeps : (block : ℕ) → has_block block old ≡ true → has_block block new ≡ true

as_many : (old new : ChunkMarks) → new.blocks ≡ old.blocks → blocks_left new ≡ count_by (λ block. not (has_block block new)) (range_with_len 0 old.blocks)
as_many old new same = ap (λ n. count_by (λ block. not (has_block block new)) (range_with_len 0 n)) same

chunk_fewer : (old new : ChunkMarks) → Keeps old new → blocks_left new ≤ blocks_left old
chunk_fewer old new k =
    let all = fewer (λ block. not (has_block block new)) (λ block. not (has_block block old)) (range_with_len 0 old.blocks) (λ block. not_both (has_block block new) (has_block block old) (k.keeps block)) in
    omega (arith, as_many old new k.blocks, all)

chunk_less : (old new : ChunkMarks) (block : ℕ) → Keeps old new → block < old.blocks → has_block block old ≡ false → has_block block new ≡ true → blocks_left new < blocks_left old
chunk_less old new block k within lacks has =
    let p : ℕ → Bool = λ b. not (has_block b new) in
    let q : ℕ → Bool = λ b. not (has_block b old) in
    let xs = range_with_len 0 old.blocks in
    let at : get_or xs block 0 ≡ block = omega (arith, get_or-range_with_len 0 old.blocks block 0 within) in
    let fails : p (get_or xs block 0) ≡ false = ap p at ∙ ap not has in
    let holds : q (get_or xs block 0) ≡ true = ap q at ∙ ap not lacks in
    let inside : block < length xs = omega (arith, length-range_with_len 0 old.blocks) in
    let all = fewer_at p q xs block 0 inside (λ b. not_both (has_block b new) (has_block b old) (k.keeps b)) fails holds in
    omega (arith, as_many old new k.blocks, all)

-- ---- of a stage

-- what was taken stays so
abbrev pub KeepsAll : List ChunkMarks → List ChunkMarks → Type 0
KeepsAll old new = (chunk block : ℕ) → is_taken old chunk block ≡ true → is_taken new chunk block ≡ true

untaken_fewer : (old new : List ChunkMarks) → blocks_of new ≡ blocks_of old → KeepsAll old new → untaken new ≤ untaken old
untaken_fewer [] [] same keeps = omega arith
untaken_fewer [] (y ∷ new) same keeps = absurd (cc)
untaken_fewer (x ∷ old) [] same keeps = absurd (cc)
untaken_fewer (x ∷ old) (y ∷ new) same keeps =
    let first : y.blocks ≡ x.blocks = cc in
    let others : blocks_of new ≡ blocks_of old = cc in
    let one = chunk_fewer x y (record { blocks = first; keeps = λ block. keeps 0 block }) in
    let rest = untaken_fewer old new others (λ chunk block. keeps (suc chunk) block) in
    omega (arith, sum_by-cons blocks_left x old, sum_by-cons blocks_left y new, one, rest)

-- one more is taken
pub untaken_less : (old new : List ChunkMarks) (chunk block : ℕ) → blocks_of new ≡ blocks_of old → KeepsAll old new → is_left old chunk block ≡ true → is_taken new chunk block ≡ true → untaken new < untaken old
untaken_less [] new chunk block same keeps left taken = absurd (cc)
untaken_less (x ∷ old) [] chunk block same keeps left taken = absurd (cc)
untaken_less (x ∷ old) (y ∷ new) zero block same keeps left taken =
    let first : y.blocks ≡ x.blocks = cc in
    let others : blocks_of new ≡ blocks_of old = cc in
    let parts = and_parts (nat_lt block x.blocks) (not (has_block block x)) left in
    let k : Keeps x y = record { blocks = first; keeps = λ b. keeps 0 b } in
    let one = chunk_less x y block k (ltb-true block x.blocks parts.0) (not-true (has_block block x) parts.1) taken in
    let rest = untaken_fewer old new others (λ chunk b. keeps (suc chunk) b) in
    omega (arith, sum_by-cons blocks_left x old, sum_by-cons blocks_left y new, one, rest)
untaken_less (x ∷ old) (y ∷ new) (suc chunk) block same keeps left taken =
    let first : y.blocks ≡ x.blocks = cc in
    let others : blocks_of new ≡ blocks_of old = cc in
    let one = chunk_fewer x y (record { blocks = first; keeps = λ b. keeps 0 b }) in
    let rest = untaken_less old new chunk block others (λ c b. keeps (suc c) b) left taken in
    omega (arith, sum_by-cons blocks_left x old, sum_by-cons blocks_left y new, one, rest)

-- no more than the blocks that there are
chunk_most : (c : ChunkMarks) → IsChunk c → blocks_left c ≤ 8
chunk_most c is =
    let few = is.few in
    omega (arith, count_by-le-length (λ block. not (has_block block c)) (range_with_len 0 c.blocks), length-range_with_len 0 c.blocks)

pub untaken_most : (marks : List ChunkMarks) → All IsChunk marks → untaken marks ≤ 8 * length marks
untaken_most marks are =
    let most = sum_by-le blocks_left 8 marks (All-weaker IsChunk (λ c. blocks_left c ≤ 8) chunk_most marks are) in
    omega (arith, most)
