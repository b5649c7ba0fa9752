-- The chunks of a stage: what is taken once a block was marked, and when each chunk is finished.
use Rattle.std.proofs.Common.{ℕ, zero, suc, ◌≡◌, ◌+◌, ◌<◌, ◌≤◌, Bool, true, false, cond, List, [], ◌∷◌, ◌++◌, Option, Some, None, length, take, get_or, set, refl, sym, ap, ◌∙◌, subst, arith, inl, inr}
use Rattle.std.specs.Prelude.{◌==◌, ◌||◌, ◌&&◌}
use Rattle.std.specs.List.{All, slice_get}
use Rattle.std.specs.Option.{option_map_or}
use Rattle.std.proofs.lemmas.Bool.{cases_eq, cases_Bool, eq-eqb, eqb-true, ne_eqb}
use Rattle.std.proofs.lemmas.List.Elements.{All-get_or, All-head, All-tail, All-set}
use Rattle.std.proofs.lemmas.List.Sums.{sum_by-cons, sum_by-set, count_by-le-length}
use Rattle.std.proofs.lemmas.List.{length-set, length-take-le, take_more}
use Rattle.std.proofs.lemmas.Option.{slice_get_within, slice_get_past, get_or_from_slice_get}
use Rattle.clone_chunk.proofs.Indexes.{slice_get-set_same, slice_get-set_other}
use Rattle.clone_marks.specs.declared.chunk_marks.ChunkMarks.{ChunkMarks}
use Rattle.clone_marks.specs.Blocks.{IsChunk, AreMarks, AreAllTaken, has_block, lacks_block, is_finished, is_finished_at, with_block, is_taken, is_left, blocks_of, finished_count, all_finished}
use Rattle.clone_marks.proofs.ChunkLemmas.{or_none, finished_has, has_finished, lacks_unfinished, lacks_within, with_has, with_is}

-- each chunk is one
pub chunk_at : (marks : List ChunkMarks) (i : ℕ) (c : ChunkMarks) → All IsChunk marks → slice_get marks i ≡ Some c → IsChunk c
chunk_at marks i c are at =
    subst IsChunk (get_or_from_slice_get marks i c c at) (All-get_or IsChunk marks i c (slice_get_within marks i c at) are)

-- ---- one more block

blocks_after : (marks : List ChunkMarks) (i : ℕ) (c new : ChunkMarks) → slice_get marks i ≡ Some c → new.blocks ≡ c.blocks → blocks_of (set marks i new) ≡ blocks_of marks
blocks_after [] i c new at same = refl
blocks_after (x ∷ marks) zero c new at same =
    let here : x ≡ c = cc in
    ap (λ n. n ∷ blocks_of marks) (same ∙ sym (ap (λ y. y.blocks) here))
blocks_after (x ∷ marks) (suc i) c new at same = ap (λ rest. x.blocks ∷ rest) (blocks_after marks i c new at same)

marked_blocks : (marks : List ChunkMarks) (chunk block : ℕ) (c : ChunkMarks) → slice_get marks chunk ≡ Some c → blocks_of (set marks chunk (with_block c block)) ≡ blocks_of marks
marked_blocks marks chunk block c at = blocks_after marks chunk c (with_block c block) at refl

marked_taken : (marks : List ChunkMarks) (chunk block : ℕ) (c : ChunkMarks) → slice_get marks chunk ≡ Some c → (k b : ℕ) → is_taken (set marks chunk (with_block c block)) k b ≡ (is_taken marks k b || ((k == chunk) && (b == block)))
marked_taken marks chunk block c at k b =
    let new = with_block c block in
    let taken : Option ChunkMarks → Bool = λ o. option_map_or (has_block b) o false in
    elim (cases_eq k chunk) [
      | inl same ↦
          let within = slice_get_within marks chunk c at in
          let now : is_taken (set marks chunk new) k b ≡ has_block b new = ap (λ i. is_taken (set marks chunk new) i b) same ∙ ap taken (slice_get-set_same marks chunk new within) in
          let was : is_taken marks k b ≡ has_block b c = ap (λ i. is_taken marks i b) same ∙ ap taken at in
          now ∙ with_has c block b ∙ sym (rw (was, eq-eqb k chunk same) refl)
      | inr other ↦
          let kept : is_taken (set marks chunk new) k b ≡ is_taken marks k b = ap taken (slice_get-set_other marks chunk k new other) in
          kept ∙ sym (rw (ne_eqb k chunk other) (or_none (is_taken marks k b)))
    ]

-- how many are finished after a chunk that wasn't was written
marked_count : (marks : List ChunkMarks) (i : ℕ) (c new : ChunkMarks) → slice_get marks i ≡ Some c → is_finished c ≡ false → finished_count (set marks i new) ≡ finished_count marks + cond (is_finished new) 1 0
marked_count marks i c new at unfinished =
    let count = sum_by-set (λ x. cond (is_finished x) 1 0) marks i new c (slice_get_within marks i c at) in
    let here : get_or marks i c ≡ c = get_or_from_slice_get marks i c c at in
    let none : ◌≡◌ {A = ℕ} (cond (is_finished (get_or marks i c)) 1 0) 0 = rw (here, unfinished) refl in
    omega (arith, count, none)

-- ---- all chunks

one_more : (x : ChunkMarks) (marks : List ChunkMarks) → is_finished x ≡ true → finished_count (x ∷ marks) ≡ suc (finished_count marks)
one_more x marks holds =
    let count = sum_by-cons (λ c. cond (is_finished c) 1 0) x marks in
    let one : ◌≡◌ {A = ℕ} (cond (is_finished x) 1 0) 1 = rw holds refl in
    omega (arith, count, one)

none_more : (x : ChunkMarks) (marks : List ChunkMarks) → is_finished x ≡ false → finished_count (x ∷ marks) ≡ finished_count marks
none_more x marks fails =
    let count = sum_by-cons (λ c. cond (is_finished c) 1 0) x marks in
    let none : ◌≡◌ {A = ℕ} (cond (is_finished x) 1 0) 0 = rw fails refl in
    omega (arith, count, none)

pub record FirstFinished (x : ChunkMarks) (marks : List ChunkMarks) : Type 0 where
  pub first : is_finished x ≡ true
  pub others : finished_count marks ≡ length marks

first_finished : (x : ChunkMarks) (marks : List ChunkMarks) → finished_count (x ∷ marks) ≡ suc (length marks) → FirstFinished x marks
first_finished x marks all =
    elim (cases_Bool (is_finished x)) [
      | inl holds ↦ record { first = holds; others = omega (arith, all, one_more x marks holds) }
      | inr fails ↦ absurd (omega (arith, all, none_more x marks fails, count_by-le-length is_finished marks))
    ]

counted_taken : (marks : List ChunkMarks) → finished_count marks ≡ length marks → AreAllTaken marks
counted_taken [] all chunk block less = absurd (omega arith)
counted_taken (x ∷ marks) all zero block less = finished_has x block (first_finished x marks all).first less
counted_taken (x ∷ marks) all (suc chunk) block less = counted_taken marks (first_finished x marks all).others chunk block less

taken_counted : (marks : List ChunkMarks) → All IsChunk marks → AreAllTaken marks → finished_count marks ≡ length marks
taken_counted [] are all = refl
taken_counted (x ∷ marks) are all =
    let holds = has_finished x (All-head IsChunk x marks are).within (λ b less. all 0 b less) in
    let rest = taken_counted marks (All-tail IsChunk x marks are) (λ chunk b less. all (suc chunk) b less) in
    one_more x marks holds ∙ ap (λ n. suc n) rest

pub finished_all_taken : (marks : List ChunkMarks) → all_finished marks ≡ true → AreAllTaken marks
finished_all_taken marks all = counted_taken marks (eqb-true (finished_count marks) (length marks) all)

pub all_taken_finished : (marks : List ChunkMarks) → All IsChunk marks → AreAllTaken marks → all_finished marks ≡ true
all_taken_finished marks are all = eq-eqb (finished_count marks) (length marks) (taken_counted marks are all)

-- ---- one more chunk

pub finished_at_push : (marks : List ChunkMarks) (c : ChunkMarks) → is_finished_at (marks ++ c ∷ []) (length marks) ≡ is_finished c
finished_at_push [] c = refl
finished_at_push (x ∷ marks) c = finished_at_push marks c

pub finished_at_before : (marks : List ChunkMarks) (c : ChunkMarks) (i : ℕ) → (i ≡ length marks → ⊥) → is_finished_at (marks ++ c ∷ []) i ≡ is_finished_at marks i
finished_at_before [] c zero other = absurd (other refl)
finished_at_before [] c (suc i) other = refl
finished_at_before (x ∷ marks) c zero other = refl
finished_at_before (x ∷ marks) c (suc i) other = finished_at_before marks c i (λ e. other (omega arith))

finished_past : (marks : List ChunkMarks) (i : ℕ) → length marks ≤ i → is_finished_at marks i ≡ false
finished_past marks i past = ap (λ o. option_map_or is_finished o false) (slice_get_past marks i past)

-- a bit for each of the first chunks, and one more
pub bits_more : (marks : List ChunkMarks) (i : ℕ) (d : ChunkMarks) (old new : ℕ → Bool) → i < length marks → ((j : ℕ) → old j ≡ is_finished_at (take i marks) j) → new i ≡ is_finished (get_or marks i d) → ((j : ℕ) → (j ≡ i → ⊥) → new j ≡ old j) → (j : ℕ) → new j ≡ is_finished_at (take (i + 1) marks) j
bits_more marks i d old new within known here others j =
    let front = take i marks in
    let c = get_or marks i d in
    let long : length front ≡ i = length-take-le i marks (omega arith) in
    let more : is_finished_at (take (i + 1) marks) j ≡ is_finished_at (front ++ c ∷ []) j = ap (λ xs. is_finished_at xs j) (take_more marks i d within) in
    elim (cases_eq j i) [
      | inl same ↦
          let last : is_finished_at (front ++ c ∷ []) j ≡ is_finished c = ap (λ n. is_finished_at (front ++ c ∷ []) n) (same ∙ sym long) ∙ finished_at_push front c in
          ap new same ∙ here ∙ sym (more ∙ last)
      | inr other ↦
          let before : is_finished_at (front ++ c ∷ []) j ≡ is_finished_at front j = finished_at_before front c j (λ e. other (e ∙ long)) in
          others j other ∙ known j ∙ sym (more ∙ before)
    ]

-- where the next chunk isn't finished nothing is added
pub bits_unset : (marks : List ChunkMarks) (i : ℕ) (d : ChunkMarks) (old : ℕ → Bool) → i < length marks → ((j : ℕ) → old j ≡ is_finished_at (take i marks) j) → is_finished (get_or marks i d) ≡ false → (j : ℕ) → old j ≡ is_finished_at (take (i + 1) marks) j
bits_unset marks i d old within known unfinished =
    let past : length (take i marks) ≤ i = omega (arith, length-take-le i marks (omega arith)) in
    bits_more marks i d old old within known (known i ∙ finished_past (take i marks) i past ∙ sym unfinished) (λ j other. refl)

-- ---- a block that is left

-- its chunk, which isn't finished
pub record IsLeftIn (marks : List ChunkMarks) (chunk block : ℕ) (c : ChunkMarks) : Type 0 where
  pub at : slice_get marks chunk ≡ Some c
  pub is : IsChunk c
  pub within : chunk < length marks
  pub less : block < c.blocks
  pub small : block < 8
  pub unfinished : is_finished c ≡ false

some_left : (block : ℕ) (o : Option ChunkMarks) → option_map_or (lacks_block block) o false ≡ true → (c : ChunkMarks) × (o ≡ Some c) × (lacks_block block c ≡ true)
some_left block None left = absurd (cc)
some_left block (Some c) left = (c, refl, left)

left_in : (marks : List ChunkMarks) (chunk block : ℕ) (d : ChunkMarks) → All IsChunk marks → is_left marks chunk block ≡ true → IsLeftIn marks chunk block (get_or marks chunk d)
left_in marks chunk block d are left =
    let found = some_left block (slice_get marks chunk) left in
    let c = found.0 in
    let here : get_or marks chunk d ≡ c = get_or_from_slice_get marks chunk c d found.1 in
    let is = chunk_at marks chunk c are found.1 in
    let less = lacks_within c block found.2 in
    let whole : IsLeftIn marks chunk block c = record {
      at = found.1;
      is = is;
      within = slice_get_within marks chunk c found.1;
      less = less;
      small = (let few = is.few in omega arith);
      unfinished = lacks_unfinished c block found.2;
    } in
    subst (IsLeftIn marks chunk block) (sym here) whole

-- a chunk that is written over that of a block which was left, with this block
pub record IsMarked (marks : List ChunkMarks) (chunk block : ℕ) (new : ChunkMarks) : Type 0 where
  pub is : IsChunk new
  pub blocks : blocks_of (set marks chunk new) ≡ blocks_of marks
  pub taken : (k b : ℕ) → is_taken (set marks chunk new) k b ≡ (is_taken marks k b || ((k == chunk) && (b == block)))
  pub are : (finished : ℕ) → AreMarks marks finished → AreMarks (set marks chunk new) (finished + cond (is_finished new) 1 0)

marked_are : (marks : List ChunkMarks) (chunk block finished : ℕ) (c : ChunkMarks) → IsLeftIn marks chunk block c → AreMarks marks finished → AreMarks (set marks chunk (with_block c block)) (finished + cond (is_finished (with_block c block)) 1 0)
marked_are marks chunk block finished c left are =
    let new = with_block c block in
    let long = length-set marks chunk new in
    let count = marked_count marks chunk c new left.at left.unfinished in
    record {
      chunks = All-set IsChunk marks chunk new (with_is c block left.is left.less) are.chunks;
      few = (let few = are.few in omega (arith, long));
      count = (let old = are.count in omega (arith, count));
    }

pub is_marked : (marks : List ChunkMarks) (chunk block : ℕ) (old new : ChunkMarks) → All IsChunk marks → is_left marks chunk block ≡ true → old ≡ get_or marks chunk old → new ≡ with_block old block → IsMarked marks chunk block new
is_marked marks chunk block old new are left here made =
    let c = get_or marks chunk old in
    let at = left_in marks chunk block old are left in
    let marked : IsMarked marks chunk block (with_block c block) = record {
      is = with_is c block at.is at.less;
      blocks = marked_blocks marks chunk block c at.at;
      taken = marked_taken marks chunk block c at.at;
      are = λ finished. marked_are marks chunk block finished c at;
    } in
    subst (IsMarked marks chunk block) (ap (λ x. with_block x block) (sym here) ∙ sym made) marked

pub marked_finished : (marks : List ChunkMarks) (chunk block finished : ℕ) (new : ChunkMarks) → IsMarked marks chunk block new → AreMarks marks finished → is_finished new ≡ true → AreMarks (set marks chunk new) (finished + 1)
marked_finished marks chunk block finished new marked are holds = rw holds at (marked.are finished are)

pub marked_unfinished : (marks : List ChunkMarks) (chunk block finished : ℕ) (new : ChunkMarks) → IsMarked marks chunk block new → AreMarks marks finished → is_finished new ≡ false → AreMarks (set marks chunk new) finished
marked_unfinished marks chunk block finished new marked are fails =
    let none : finished + 0 ≡ finished = omega arith in
    rw (fails, none) at (marked.are finished are)
