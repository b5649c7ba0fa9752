-- Chunks that are reset to what a requester has, a partial chunk after the other.
use Rattle.std.proofs.Common.{◌≡◌, ◌≢◌, ℕ, ◌+◌, ◌<◌, ◌==◌, ◌^◌, List, [], ◌∷◌, ◌++◌, Bool, true, false, if◌then◌else◌, Some, length, set, take, get_or, replicate, refl, sym, ap, ◌∙◌, arith, inl, inr}
use Rattle.std.specs.Prelude.{◌||◌}
use Rattle.std.specs.List.{slice_get, slice_index, AllPairs}
use Rattle.std.proofs.lemmas.Bool.{cases_eq, eqb-true, eq-eqb, ne_eqb}
use Rattle.std.proofs.lemmas.Nat.{pow_pos, pow_below}
use Rattle.std.proofs.lemmas.List.{length-set, length-take, length-replicate, get_or-take, get_or-replicate, get_or-set_same, get_or-set_other, get_or_default, take_more}
use Rattle.std.proofs.lemmas.List.Elements.{All-head, All-tail}
use Rattle.clone_chunk.specs.Chunks.{has_bit, is_whole, within, IsMarked}
use Rattle.clone_chunk.specs.Partials.{IsAbove, mask_of}
use Rattle.clone_chunk.specs.declared.chunk.Chunk.{Chunk}
use Rattle.clone_chunk.specs.declared.chunk.Chunk.TheVariants.{Free, Finished}
use Rattle.clone_chunk.specs.declared.partials.PartialChunk.{PartialChunk}
use Rattle.clone_chunk.proofs.Indexes.{slice_get-set_same, slice_get-set_other}
use Rattle.clone_snapshot.specs.StageLists.{StageList, chunk_count, block_count}
use Rattle.clone_snapshot.specs.Resets.{IsReset}
use Rattle.clone_snapshot.proofs.CountLemmas.{has_blocks}

-- a mask of 0 has no block
pub within_none : (n : ℕ) → within 0 n ≡ 0
within_none n = let some = pow_pos n in omega arith

not_whole : (n : ℕ) → 0 < n → is_whole 0 n ≡ false
not_whole n some =
    let none = within_none n in
    let more : 2 ^ 0 < 2 ^ n = pow_below 0 n some in
    ne_eqb (within 0 n + 1) (2 ^ n) (λ e. absurd (omega arith))

or_false : (a b : Bool) → b ≡ false → (a || b) ≡ a
or_false true b is = refl
or_false false b is = is

or_true : (a b : Bool) → b ≡ true → (a || b) ≡ true
or_true true b is = refl
or_true false b is = is

-- the mask of a chunk in a list, to which a chunk above the others was added
mask_of-push : (xs : List PartialChunk) (p : PartialChunk) (i : ℕ) → IsAbove xs p.chunk → mask_of (xs ++ p ∷ []) i ≡ (if p.chunk == i then p.mask else mask_of xs i)
mask_of-push [] p i above = refl
mask_of-push (x ∷ xs) p i above = by (x.chunk == i) refl (mask_of-push xs p i (All-tail (λ (q : PartialChunk). q.chunk < p.chunk) x xs above))
  where
    by : (b : Bool) → (x.chunk == i) ≡ b → mask_of (xs ++ p ∷ []) i ≡ (if p.chunk == i then p.mask else mask_of xs i) → (if b then x.mask else mask_of (xs ++ p ∷ []) i) ≡ (if p.chunk == i then p.mask else (if b then x.mask else mask_of xs i))
    by true same rest =
        let less : x.chunk < p.chunk = All-head (λ (q : PartialChunk). q.chunk < p.chunk) x xs above in
        let other : (p.chunk == i) ≡ false = ne_eqb p.chunk i (λ e. absurd (omega (arith, eqb-true x.chunk i same))) in
        rw other refl
    by false other rest = rest

mask_of_above : (xs : List PartialChunk) (chunk : ℕ) → IsAbove xs chunk → mask_of xs chunk ≡ 0
mask_of_above [] chunk above = refl
mask_of_above (x ∷ xs) chunk above =
    let less : x.chunk < chunk = All-head (λ (q : PartialChunk). q.chunk < chunk) x xs above in
    let other : (x.chunk == chunk) ≡ false = ne_eqb x.chunk chunk (λ e. absurd (omega arith)) in
    rw other (mask_of_above xs chunk (All-tail (λ (q : PartialChunk). q.chunk < chunk) x xs above))

-- a chunk by its bit and its mask
abbrev state : Bool → Bool → Chunk
state bit whole = if bit || whole then Finished else Free

-- no partial chunk
pub marked : (list : StageList) (bitmap : List ℕ) (old new : List Chunk) (kept : List ℕ) → length old ≡ chunk_count list → IsMarked bitmap old new → kept ≡ replicate (length old) 0 → IsReset list bitmap [] new kept
marked list bitmap old new kept count is none = record {
  count = is.count ∙ count;
  masks = ap length none ∙ length-replicate (length old) 0 ∙ count;
  chunk = λ i below.
      let bit = has_bit bitmap i in
      let partial : is_whole 0 (block_count list i) ≡ false = not_whole (block_count list i) ((has_blocks list i).1 below) in
      is.each i (omega (arith, count)) ∙ ap (λ b. Some (if b then Finished else Free)) (sym (or_false bit (is_whole 0 (block_count list i)) partial));
  mask = λ i below. ap (λ masks. get_or masks i 0) none ∙ get_or-replicate (length old) i 0 0 (omega (arith, count)) ∙ sym (within_none (block_count list i));
}

-- one partial chunk more
module _ (list : StageList) (bitmap : List ℕ) (partials : List PartialChunk) (k : ℕ) (p : PartialChunk) (chunks : List Chunk) (kept : List ℕ) where
  abbrev n : ℕ
  n = block_count list p.chunk

  abbrev pub settled : Bool → List Chunk
  settled whole = if whole then set chunks p.chunk Finished else chunks

  length-settled : (whole : Bool) → length (settled whole) ≡ length chunks
  length-settled true = length-set chunks p.chunk Finished
  length-settled false = refl

  other_state : (whole : Bool) (i : ℕ) → i ≢ p.chunk → slice_get (settled whole) i ≡ slice_get chunks i
  other_state true i other = slice_get-set_other chunks p.chunk i Finished other
  other_state false i other = refl

  module _ (ascending : AllPairs (λ (p q : PartialChunk). p.chunk < q.chunk) partials) (inside : k < length partials) (is : get_or partials k p ≡ p) (was : IsReset list bitmap (take k partials) chunks kept) where
    above : IsAbove (take k partials) p.chunk
    above j d within =
        let before : j < k = omega (arith, length-take k partials) in
        let there = ap (λ (q : PartialChunk). q.chunk) (get_or-take k partials j d before) in
        let here = ap (λ (q : PartialChunk). q.chunk) (get_or_default partials k d p inside ∙ is) in
        omega (arith, ascending j k d before inside)

    mask_now : (i : ℕ) → mask_of (take (k + 1) partials) i ≡ (if p.chunk == i then p.mask else mask_of (take k partials) i)
    mask_now i =
        ap (λ xs. mask_of xs i) (take_more partials k p inside ∙ ap (λ q. take k partials ++ q ∷ []) is) ∙ mask_of-push (take k partials) p i above

    own_mask : mask_of (take (k + 1) partials) p.chunk ≡ p.mask
    own_mask = let same : (p.chunk == p.chunk) ≡ true = eq-eqb p.chunk p.chunk refl in mask_now p.chunk ∙ rw same refl

    other_mask : (i : ℕ) → i ≢ p.chunk → mask_of (take (k + 1) partials) i ≡ mask_of (take k partials) i
    other_mask i other = let apart : (p.chunk == i) ≡ false = ne_eqb p.chunk i (λ e. other (sym e)) in mask_now i ∙ rw apart refl

    own_state : p.chunk < chunk_count list → (whole : Bool) → is_whole p.mask n ≡ whole → slice_get (settled whole) p.chunk ≡ Some (state (has_bit bitmap p.chunk) whole)
    own_state below true is_so =
        slice_get-set_same chunks p.chunk Finished (omega (arith, was.count)) ∙ ap (λ b. Some (if b then Finished else Free)) (sym (or_true (has_bit bitmap p.chunk) true refl))
    own_state below false is_so =
        let none : is_whole (mask_of (take k partials) p.chunk) n ≡ false = ap (λ m. is_whole m n) (mask_of_above (take k partials) p.chunk above) ∙ not_whole n ((has_blocks list p.chunk).1 below) in
        was.chunk p.chunk below ∙ ap (λ b. Some (state (has_bit bitmap p.chunk) b)) none

    pub one_more : IsReset list bitmap (take (k + 1) partials) (settled (is_whole p.mask n)) (set kept p.chunk (within p.mask n))
    one_more = record {
      count = length-settled (is_whole p.mask n) ∙ was.count;
      masks = length-set kept p.chunk (within p.mask n) ∙ was.masks;
      chunk = λ i below. elim (cases_eq i p.chunk) [
        | inl same ↦
            let at : p.chunk < chunk_count list = omega arith in
            rw same (own_state at (is_whole p.mask n) refl ∙ ap (λ m. Some (state (has_bit bitmap p.chunk) (is_whole m n))) (sym own_mask))
        | inr other ↦
            other_state (is_whole p.mask n) i other ∙ was.chunk i below ∙ ap (λ m. Some (state (has_bit bitmap i) (is_whole m (block_count list i)))) (sym (other_mask i other))
      ];
      mask = λ i below. elim (cases_eq i p.chunk) [
        | inl same ↦
            let at : p.chunk < length kept = omega (arith, was.masks) in
            rw same (get_or-set_same kept p.chunk (within p.mask n) 0 at ∙ ap (λ m. within m n) (sym own_mask))
        | inr other ↦
            get_or-set_other kept p.chunk i (within p.mask n) 0 other ∙ was.mask i below ∙ ap (λ m. within m (block_count list i)) (sym (other_mask i other))
      ];
    }
