-- What a loss leaves of each chunk, and of all of them.
use Rattle.std.proofs.Common.{ℕ, zero, suc, ◌≡◌, ◌≤◌, true, false, cond, List, [], ◌∷◌, ◌++◌, Some, length, take, drop, refl, sym, ap, ◌∙◌, arith, inl, inr}
use Rattle.std.specs.Prelude.{◌==◌, ◌&&◌}
use Rattle.std.specs.List.{All, slice_get}
use Rattle.std.proofs.lemmas.Bool.{cases_Bool, ne_eqb, and_parts, both_ways}
use Rattle.std.proofs.lemmas.List.{append-nil, drop_all, take_all}
use Rattle.std.proofs.lemmas.List.Elements.{All-cons, All-head, All-tail}
use Rattle.std.proofs.lemmas.List.Sums.{sum_by-cons}
use Rattle.std.proofs.lemmas.Nat.{pow_pos, pow_below}
use Rattle.std.proofs.lemmas.Nat.Bits.{bit_at-zero}
use Rattle.clone_marks.specs.declared.chunk_marks.ChunkMarks.{ChunkMarks}
use Rattle.clone_marks.specs.Blocks.{IsChunk, AreMarks, full, has_block, is_finished, is_partial, is_taken, is_finished_at, blocks_of, finished_count}
use Rattle.clone_marks.specs.Forgetting.{emptied, left_of, kept_after, forgotten}
use Rattle.clone_marks.proofs.ChunkLemmas.{partial_unfinished}

-- ---- a chunk

pub emptied_unfinished : (c : ChunkMarks) → 1 ≤ c.blocks → is_finished (emptied c) ≡ false
emptied_unfinished c some = ne_eqb 0 (full c.blocks) (λ e. omega (arith, e, pow_below 0 c.blocks some))

pub emptied_has : (c : ChunkMarks) (block : ℕ) → has_block block (emptied c) ≡ false
emptied_has c block = ap (λ n. n == 1) (bit_at-zero block)

-- a chunk is as it was, or it was partial and is empty
left_cases : (P : ChunkMarks → Type 0) (kept : ℕ) (c : ChunkMarks) → P c → (is_partial c ≡ true → P (emptied c)) → P (left_of kept c)
left_cases P kept c same lost =
    elim (cases_Bool (is_partial c && (kept == 0))) [
      | inl holds ↦ rw holds (lost (and_parts (is_partial c) (kept == 0) holds).0)
      | inr fails ↦ rw fails same
    ]

left_is : (kept : ℕ) (c : ChunkMarks) → IsChunk c → IsChunk (left_of kept c)
left_is kept c is = left_cases IsChunk kept c is (λ partial. record { some = is.some; few = is.few; within = pow_pos c.blocks })

left_finished : (kept : ℕ) (c : ChunkMarks) → 1 ≤ c.blocks → is_finished (left_of kept c) ≡ is_finished c
left_finished kept c some =
    left_cases (λ x. is_finished x ≡ is_finished c) kept c refl (λ partial. emptied_unfinished c some ∙ sym (partial_unfinished c partial))

left_blocks : (kept : ℕ) (c : ChunkMarks) → (left_of kept c).blocks ≡ c.blocks
left_blocks kept c = left_cases (λ x. x.blocks ≡ c.blocks) kept c refl (λ partial. refl)

left_has : (kept : ℕ) (c : ChunkMarks) (block : ℕ) → has_block block (left_of kept c) ≡ true → has_block block c ≡ true
left_has kept c block =
    left_cases (λ x. has_block block x ≡ true → has_block block c ≡ true) kept c (λ has. has) (λ partial has. absurd (both_ways (has_block block (emptied c)) (emptied_has c block) has))

left_same : (kept : ℕ) (c : ChunkMarks) → is_finished c ≡ true → left_of kept c ≡ c
left_same kept c finished =
    left_cases (λ x. x ≡ c) kept c refl (λ partial. absurd (both_ways (is_finished c) (partial_unfinished c partial) finished))

-- ---- all chunks

pub forgotten_are : (kept : ℕ) (marks : List ChunkMarks) → All IsChunk marks → All IsChunk (forgotten kept marks)
forgotten_are kept [] are = are
forgotten_are kept (c ∷ marks) are =
    All-cons IsChunk (left_of kept c) (forgotten (kept_after kept c) marks) (left_is kept c (All-head IsChunk c marks are)) (forgotten_are (kept_after kept c) marks (All-tail IsChunk c marks are))

pub length-forgotten : (kept : ℕ) (marks : List ChunkMarks) → length (forgotten kept marks) ≡ length marks
length-forgotten kept [] = refl
length-forgotten kept (c ∷ marks) = ap (λ n. suc n) (length-forgotten (kept_after kept c) marks)

pub forgotten_count : (kept : ℕ) (marks : List ChunkMarks) → All IsChunk marks → finished_count (forgotten kept marks) ≡ finished_count marks
forgotten_count kept [] are = refl
forgotten_count kept (c ∷ marks) are =
    let test : ChunkMarks → ℕ = λ x. cond (is_finished x) 1 0 in
    let same : test (left_of kept c) ≡ test c = ap (λ b. cond b 1 0) (left_finished kept c (All-head IsChunk c marks are).some) in
    let rest = forgotten_count (kept_after kept c) marks (All-tail IsChunk c marks are) in
    let now = sum_by-cons test (left_of kept c) (forgotten (kept_after kept c) marks) in
    let was = sum_by-cons test c marks in
    omega (arith, same, rest, now, was)

-- marks keep what they keep
pub forgotten_marks : (kept finished : ℕ) (marks : List ChunkMarks) → AreMarks marks finished → AreMarks (forgotten kept marks) finished
forgotten_marks kept finished marks are =
    record {
      chunks = forgotten_are kept marks are.chunks;
      few = (let few = are.few in omega (arith, length-forgotten kept marks));
      count = are.count ∙ sym (forgotten_count kept marks are.chunks);
    }

-- a list of as many chunks that is written over them
pub written_over : (n : ℕ) (marks new : List ChunkMarks) → length new ≡ length marks → length marks ≡ n → take n (new ++ drop (length new) marks) ≡ new
written_over n marks new same long =
    let past : length marks ≤ length new = omega arith in
    let all : length new ≤ n = omega arith in
    ap (λ rest. take n (new ++ rest)) (drop_all (length new) marks past) ∙ ap (take n) (append-nil new) ∙ take_all n new all

pub forgotten_blocks : (kept : ℕ) (marks : List ChunkMarks) → blocks_of (forgotten kept marks) ≡ blocks_of marks
forgotten_blocks kept [] = refl
forgotten_blocks kept (c ∷ marks) = rw (left_blocks kept c, forgotten_blocks (kept_after kept c) marks) refl

pub forgotten_taken : (kept : ℕ) (marks : List ChunkMarks) (chunk block : ℕ) → is_taken (forgotten kept marks) chunk block ≡ true → is_taken marks chunk block ≡ true
forgotten_taken kept [] chunk block taken = taken
forgotten_taken kept (c ∷ marks) zero block taken = left_has kept c block taken
forgotten_taken kept (c ∷ marks) (suc chunk) block taken = forgotten_taken (kept_after kept c) marks chunk block taken

pub forgotten_finished : (kept : ℕ) (marks : List ChunkMarks) (chunk : ℕ) → is_finished_at marks chunk ≡ true → slice_get (forgotten kept marks) chunk ≡ slice_get marks chunk
forgotten_finished kept [] chunk finished = refl
forgotten_finished kept (c ∷ marks) zero finished = ap (λ x. Some x) (left_same kept c finished)
forgotten_finished kept (c ∷ marks) (suc chunk) finished = forgotten_finished (kept_after kept c) marks chunk finished

-- as the chunks are gone over: what is left from here on is what is left of the whole
pub record Forgets (kept : ℕ) (first : List ChunkMarks) (more i : ℕ) (marks : List ChunkMarks) : Type 0 where
  pub are : All IsChunk marks
  pub rest : take i marks ++ forgotten more (drop i marks) ≡ forgotten kept first
