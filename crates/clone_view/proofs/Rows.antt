-- The blocks of a stage in one row are those of its chunks.
use Rattle.std.proofs.Common.{◌≡◌, ◌≢◌, ◌<◌, ◌≤◌, ◌+◌, ◌-◌, ℕ, zero, suc, true, false, cond, List, [], ◌∷◌, refl, sym, ap, subst, ◌∙◌, arith, inl, inr, ◌⊎◌}
use Rattle.std.specs.Prelude.{slice_index, ◌==◌}
use Rattle.std.specs.List.{All}
use Rattle.std.proofs.lemmas.Bool.{cases_Bool, cases_eq, cases_lt, lt-ltb, le-ltb, and_left}
use Rattle.std.proofs.lemmas.List.Elements.{All-head, All-tail}
use Rattle.clone_marks.specs.declared.chunk_marks.ChunkMarks.{ChunkMarks}
use Rattle.clone_marks.specs.Blocks.{IsChunk, has_block, is_finished, is_partial, is_taken, blocks_of, AreAllTaken}
use Rattle.clone_marks.specs.Forgetting.{emptied, left_of, kept_after, forgotten}
use Rattle.clone_marks.proofs.ChunkLemmas.{has_finished, partial_unfinished}
use Rattle.clone_marks.proofs.ForgetLemmas.{forgotten_blocks, forgotten_taken}
use Rattle.clone_rounds.specs.World.{put}
use Rattle.clone_rounds.proofs.Puts.{put_cases}
use Rattle.clone_view.specs.Rows.{places, place_of, taken_at}

-- ---- each place is that of a block of a chunk

-- a place within the first chunk, and one after it
taken_here : (c : ChunkMarks) (marks : List ChunkMarks) (b : ℕ) → b < c.blocks → taken_at (c ∷ marks) b ≡ has_block b c
taken_here c marks b h = ap (λ t. cond t (has_block b c) (taken_at marks (b - c.blocks))) (lt-ltb b c.blocks h)

taken_after : (c : ChunkMarks) (marks : List ChunkMarks) (b : ℕ) → c.blocks ≤ b → taken_at (c ∷ marks) b ≡ taken_at marks (b - c.blocks)
taken_after c marks b h = ap (λ t. cond t (has_block b c) (taken_at marks (b - c.blocks))) (le-ltb b c.blocks h)

pub taken_place : (marks : List ChunkMarks) (chunk block : ℕ) → block < slice_index (blocks_of marks) chunk → taken_at marks (place_of (blocks_of marks) chunk block) ≡ is_taken marks chunk block
taken_place [] chunk block small = absurd (omega (arith, small))
taken_place (c ∷ marks) zero block small = taken_here c marks block small
taken_place (c ∷ marks) (suc chunk) block small =
    let place : ℕ = place_of (blocks_of marks) chunk block in
    let back : c.blocks + place - c.blocks ≡ place = omega arith in
    taken_after c marks (c.blocks + place) (omega arith) ∙ ap (taken_at marks) back ∙ taken_place marks chunk block small

pub place_small : (counts : List ℕ) (chunk block : ℕ) → block < slice_index counts chunk → place_of counts chunk block < places counts
place_small [] chunk block small = absurd (omega (arith, small))
place_small (n ∷ counts) zero block small = let less : block < n = small in omega (arith, less)
place_small (n ∷ counts) (suc chunk) block small = let rest : place_of counts chunk block < places counts = place_small counts chunk block small in omega (arith, rest)

pub record IsPlace (counts : List ℕ) (b : ℕ) : Type 0 where
  pub chunk : ℕ
  pub block : ℕ
  pub there : block < slice_index counts chunk
  pub place : place_of counts chunk block ≡ b

pub place_at : (counts : List ℕ) (b : ℕ) → b < places counts → IsPlace counts b
place_at [] b small = absurd (omega (arith, small))
place_at (n ∷ counts) b small = at (λ h. place_at counts (b - n) h) (cases_lt b n)
  where
    at : (b - n < places counts → IsPlace counts (b - n)) → (b < n) ⊎ (n ≤ b) → IsPlace (n ∷ counts) b
    at again (inl h) = record { chunk = 0; block = b; there = h; place = refl }
    at again (inr h) = let rest : IsPlace counts (b - n) = again (omega (arith, small, h)) in record { chunk = suc rest.chunk; block = rest.block; there = rest.there; place = omega (arith, rest.place, h) }

taken_by : (marks : List ChunkMarks) (counts : List ℕ) (b : ℕ) → blocks_of marks ≡ counts → (p : IsPlace counts b) → taken_at marks b ≡ is_taken marks p.chunk p.block
taken_by marks counts b e p =
    let there : p.block < slice_index (blocks_of marks) p.chunk = subst (λ (xs : List ℕ). p.block < slice_index xs p.chunk) (sym e) p.there in
    let place : place_of (blocks_of marks) p.chunk p.block ≡ b = ap (λ xs. place_of xs p.chunk p.block) e ∙ p.place in
    ap (taken_at marks) (sym place) ∙ taken_place marks p.chunk p.block there

-- ---- all of a stage was taken

pub row_taken : (marks : List ChunkMarks) → AreAllTaken marks → (b : ℕ) → b < places (blocks_of marks) → taken_at marks b ≡ true
row_taken marks all b small = let p : IsPlace (blocks_of marks) b = place_at (blocks_of marks) b small in taken_by marks (blocks_of marks) b refl p ∙ all p.chunk p.block p.there

pub taken_row : (marks : List ChunkMarks) → ((b : ℕ) → b < places (blocks_of marks) → taken_at marks b ≡ true) → AreAllTaken marks
taken_row marks all chunk block small = sym (taken_place marks chunk block small) ∙ all (place_of (blocks_of marks) chunk block) (place_small (blocks_of marks) chunk block small)

-- and of a new stage nothing was
pub row_none : (marks : List ChunkMarks) → ((chunk block : ℕ) → is_taken marks chunk block ≡ false) → (b : ℕ) → b < places (blocks_of marks) → taken_at marks b ≡ false
row_none marks none b small = let p : IsPlace (blocks_of marks) b = place_at (blocks_of marks) b small in taken_by marks (blocks_of marks) b refl p ∙ none p.chunk p.block

-- ---- one more block is taken

pub record TakesOne (old new : List ChunkMarks) (chunk block : ℕ) : Type 0 where
  pub blocks : blocks_of new ≡ blocks_of old
  pub there : block < slice_index (blocks_of old) chunk
  pub taken : is_taken new chunk block ≡ true
  pub others : (c b : ℕ) → (c ≢ chunk) ⊎ (b ≢ block) → is_taken new c b ≡ is_taken old c b

pub row_takes : (old new : List ChunkMarks) (chunk block : ℕ) → TakesOne old new chunk block → (d : ℕ) → d < places (blocks_of old) → taken_at new d ≡ put (taken_at old) (place_of (blocks_of old) chunk block) true d
row_takes old new chunk block h d small = at (put_cases (taken_at old) (place_of (blocks_of old) chunk block) true d)
  where
    same : IsPlace (blocks_of old) (place_of (blocks_of old) chunk block)
    same = record { chunk = chunk; block = block; there = h.there; place = refl }

    p : IsPlace (blocks_of old) d
    p = place_at (blocks_of old) d small

    other : d ≢ place_of (blocks_of old) chunk block → (p.chunk ≡ chunk) ⊎ (p.chunk ≢ chunk) → (p.block ≡ block) ⊎ (p.block ≢ block) → (p.chunk ≢ chunk) ⊎ (p.block ≢ block)
    other away (inr e) f = inl e
    other away (inl e) (inr f) = inr f
    other away (inl e) (inl f) = absurd (away (sym p.place ∙ ap (λ c. place_of (blocks_of old) c p.block) e ∙ ap (place_of (blocks_of old) chunk) f))

    at : ((d ≡ place_of (blocks_of old) chunk block) × (put (taken_at old) (place_of (blocks_of old) chunk block) true d ≡ true)) ⊎ ((d ≢ place_of (blocks_of old) chunk block) × (put (taken_at old) (place_of (blocks_of old) chunk block) true d ≡ taken_at old d)) → taken_at new d ≡ put (taken_at old) (place_of (blocks_of old) chunk block) true d
    at (inl e) = ap (taken_at new) e.0 ∙ taken_by new (blocks_of old) (place_of (blocks_of old) chunk block) h.blocks same ∙ h.taken ∙ sym e.1
    at (inr e) = taken_by new (blocks_of old) d h.blocks p ∙ h.others p.chunk p.block (other e.0 (cases_eq p.chunk chunk) (cases_eq p.block block)) ∙ sym (taken_by old (blocks_of old) d refl p) ∙ sym e.1

-- ---- a loss

-- what is marked after it was marked before
pub row_fewer : (kept : ℕ) (marks : List ChunkMarks) (b : ℕ) → b < places (blocks_of marks) → taken_at (forgotten kept marks) b ≡ true → taken_at marks b ≡ true
row_fewer kept marks b small h = let p : IsPlace (blocks_of marks) b = place_at (blocks_of marks) b small in taken_by marks (blocks_of marks) b refl p ∙ forgotten_taken kept marks p.chunk p.block (sym (taken_by (forgotten kept marks) (blocks_of marks) b (forgotten_blocks kept marks) p) ∙ h)

-- and a stage of which all was taken stays as it is
whole_left : (kept : ℕ) (c : ChunkMarks) → is_finished c ≡ true → left_of kept c ≡ c
whole_left kept c h = at (cases_Bool (is_partial c))
  where
    at : (is_partial c ≡ true) ⊎ (is_partial c ≡ false) → left_of kept c ≡ c
    at (inl partial) = cc (h, partial_unfinished c partial)
    at (inr whole) = ap (λ x. cond x (emptied c) c) (and_left (is_partial c) (kept == 0) whole)

pub whole_kept : (kept : ℕ) (marks : List ChunkMarks) → All IsChunk marks → AreAllTaken marks → forgotten kept marks ≡ marks
whole_kept kept [] are all = refl
whole_kept kept (c ∷ marks) are all = at (whole_left kept c (has_finished c (All-head IsChunk c marks are).within (λ b h. all 0 b h))) (whole_kept (kept_after kept c) marks (All-tail IsChunk c marks are) (λ chunk block h. all (suc chunk) block h))
  where
    at : left_of kept c ≡ c → forgotten (kept_after kept c) marks ≡ marks → left_of kept c ∷ forgotten (kept_after kept c) marks ≡ c ∷ marks
    at e f = cc (e, f)
