-- WHOSE THE BLOCKS of a session may be, by the state of their chunks alone: each block of a claimed chunk that isn't kept is still to be sent.
use Rattle.std.proofs.Common.{ℕ, zero, suc, ◌≡◌, ◌≢◌, ◌∙◌, ◌⊎◌, ◌+◌, ◌-◌, ◌*◌, ◌^◌, ◌<◌, List, [], ◌∷◌, Bool, true, false, if◌then◌else◌, Option, None, Some, length, refl, sym, ap, subst, inl, inr, arith}
use Rattle.std.specs.Prelude.{nat_lt, slice_get, slice_index, ◌%◌}
use Rattle.std.proofs.lemmas.Bool.{both_ways, cases_Bool, eq-eqb, eqb-true, le-ltb, lt-ltb}
use Rattle.std.proofs.lemmas.Nat.{mod-mul-add, pow_pos}
use Rattle.std.proofs.lemmas.Option.{slice_get-get_or, slice_get_within}
use Rattle.clone_chunk.specs.Chunks.{is_kept, is_whole, within}
use Rattle.clone_chunk.specs.declared.chunk.Chunk.{Chunk}
use Rattle.clone_chunk.specs.declared.chunk.Chunk.TheVariants as chunk
use Rattle.clone_snapshot.specs.StageLists.{block_count, chunk_count}
use Rattle.clone_snapshot.proofs.CountLemmas.{has_blocks}
use Rattle.clone_marks.specs.Blocks.{full}
use Rattle.clone_marks.specs.Counts.{block_counts}
use Rattle.clone_marks.specs.declared.chunk_marks.ChunkMarks.{ChunkMarks}
use Rattle.clone_marks.proofs.ChunkLemmas.{has_finished}
use Rattle.clone_marks.proofs.RunLemmas.{counts_at}
use Rattle.clone_session.specs.Cloning.{Session}
use Rattle.clone_rounds.specs.World.{Claimed, Free, Kept, Owner}
use Rattle.clone_rounds.proofs.Puts.{find_below}
use Rattle.clone_view.specs.Donors.{AreOwned, Owns}
use Rattle.clone_view.specs.Rows.{place_of}
use Rattle.clone_paired.specs.Seen.{AreUnsent}
use Rattle.clone_paired.specs.Sessions.{AreChunks}

-- ---- what each place of a row has, by the block's chunk and its number there

owner_in : List ℕ → (ℕ → ℕ → Owner) → ℕ → Owner
owner_in [] f place = Free
owner_in (n ∷ counts) f place = if nat_lt place n then f 0 place else owner_in counts (λ chunk. f (suc chunk)) (place - n)

owner_place : (counts : List ℕ) (f : ℕ → ℕ → Owner) (chunk block : ℕ) → block < slice_index counts chunk → owner_in counts f (place_of counts chunk block) ≡ f chunk block
unfolding owner_in
owner_place [] f chunk block small = absurd (omega (arith, small))
owner_place (n ∷ counts) f zero block small = ap (λ (b : Bool). if b then f 0 block else owner_in counts (λ chunk. f (suc chunk)) (block - n)) (lt-ltb block n small)
owner_place (n ∷ counts) f (suc chunk) block small =
    let place : ℕ = place_of counts chunk block in
    let back : n + place - n ≡ place = omega arith in
    ap (λ (b : Bool). if b then f 0 (n + place) else owner_in counts (λ c. f (suc c)) (n + place - n)) (le-ltb (n + place) n (omega arith))
    ∙ ap (owner_in counts (λ c. f (suc c))) back ∙ owner_place counts (λ c. f (suc c)) chunk block small

-- ---- a chunk that isn't whole has a block that isn't kept

pub small_mod : (n m : ℕ) → n < m → n % m ≡ n
small_mod n m less = let same : 0 * m + n ≡ n = omega arith in ap (λ x. x % m) (sym same) ∙ mod-mul-add 0 m n less

kept_or : (mask block : ℕ) → (is_kept mask block ≡ false) ⊎ (is_kept mask block ≢ false)
kept_or mask block = by (cases_Bool (is_kept mask block))
  where
    by : (is_kept mask block ≡ true) ⊎ (is_kept mask block ≡ false) → (is_kept mask block ≡ false) ⊎ (is_kept mask block ≢ false)
    by (inl kept) = inr (λ none. both_ways (is_kept mask block) none kept)
    by (inr none) = inl none

whole_all : (mask count : ℕ) → mask < 2 ^ count → ((block : ℕ) → block < count → is_kept mask block ≡ true) → is_whole mask count ≡ true
whole_all mask count less all =
    let c : ChunkMarks = record { blocks = count; taken = mask } in
    let full_is : mask ≡ full count = eqb-true mask (full count) (has_finished c less all) in
    let some = pow_pos count in
    eq-eqb (within mask count + 1) (2 ^ count) (ap (λ x. x + 1) (small_mod mask (2 ^ count) less) ∙ omega (arith, full_is, some))

unkept : (mask count : ℕ) → mask < 2 ^ count → is_whole mask count ≡ false → (block : ℕ) × (block < count) × (is_kept mask block ≡ false)
unkept mask count less whole = by (find_below (λ block. is_kept mask block ≡ false) (kept_or mask) count)
  where
    by : ((block : ℕ) × (block < count) × (is_kept mask block ≡ false)) ⊎ ((block : ℕ) → block < count → is_kept mask block ≡ false → ⊥) → (block : ℕ) × (block < count) × (is_kept mask block ≡ false)
    by (inl found) = found
    by (inr none) = absurd (both_ways (is_whole mask count) whole (whole_all mask count less (λ block small. kept block (cases_Bool (is_kept mask block)) (none block small))))
      where
        kept : (block : ℕ) → (is_kept mask block ≡ true) ⊎ (is_kept mask block ≡ false) → (is_kept mask block ≡ false → ⊥) → is_kept mask block ≡ true
        kept block (inl is) never = is
        kept block (inr is) never = absurd (never is)

-- ---- the blocks of a session

owner_at : Bool → Option Chunk → Owner
owner_at true state = Kept
owner_at false None = Free
owner_at false (Some chunk.Free) = Free
owner_at false (Some (chunk.Claimed task)) = Claimed task
owner_at false (Some chunk.Finished) = Kept

block_owner : Session → ℕ → ℕ → Owner
block_owner s chunk block = owner_at (is_kept (slice_index s.snap.kept chunk) block) (slice_get s.snap.chunks chunk)

pub owner_of : Session → ℕ → Owner
owner_of s = owner_in (block_counts s.snap.list) (block_owner s)

owns_at : (kept : Bool) (state : Option Chunk) → state ≢ None → Owns kept state (owner_at kept state)
unfolding owner_at
owns_at true state some = refl
owns_at false None some = absurd (some refl)
owns_at false (Some chunk.Free) some = refl
owns_at false (Some (chunk.Claimed task)) some = inl refl
owns_at false (Some chunk.Finished) some = λ is. cc (is)

claimed_at : (kept : Bool) (state : Option Chunk) (task : ℕ) → kept ≡ false → state ≡ Some (chunk.Claimed task) → owner_at kept state ≡ Claimed task
unfolding owner_at
claimed_at kept state task none is = (λ i. owner_at (none i) (is i))

some_chunk : (chunks : List Chunk) (i : ℕ) → i < length chunks → slice_get chunks i ≢ None
some_chunk chunks i less none = let there = slice_get-get_or chunks i chunk.Free less in cc (there, none)

module _ (s : Session) (are : AreChunks s.snap) where
  owner_is : (chunk block : ℕ) → block < block_count s.snap.list chunk → owner_of s (place_of (block_counts s.snap.list) chunk block) ≡ block_owner s chunk block
  unfolding owner_of
  owner_is chunk block small = owner_place (block_counts s.snap.list) (block_owner s) chunk block (subst (λ (n : ℕ). block < n) (sym (counts_at s.snap.list chunk)) small)

  pub are_owned : AreOwned s (owner_of s)
  unfolding block_owner
  are_owned chunk block small =
      let below : chunk < chunk_count s.snap.list = (has_blocks s.snap.list chunk).0 (omega (arith, small)) in
      subst (Owns (is_kept (slice_index s.snap.kept chunk) block) (slice_get s.snap.chunks chunk)) (sym (owner_is chunk block small))
      (owns_at (is_kept (slice_index s.snap.kept chunk) block) (slice_get s.snap.chunks chunk) (some_chunk s.snap.chunks chunk (omega (arith, below, are.count))))

  pub are_unsent : AreUnsent (Some s) (owner_of s)
  unfolding block_owner
  are_unsent i task is =
      let within_chunks : i < length s.snap.chunks = slice_get_within s.snap.chunks i (chunk.Claimed task) is in
      let below : i < chunk_count s.snap.list = omega (arith, within_chunks, are.count) in
      let u = unkept (slice_index s.snap.kept i) (block_count s.snap.list i) (are.within i) (are.some i below (λ done. cc (is, done))) in
      record {
        block = u.0;
        there = u.1;
        unkept = u.2;
        claimed = owner_is i u.0 u.1 ∙ claimed_at (is_kept (slice_index s.snap.kept i) u.0) (slice_get s.snap.chunks i) task u.2 is;
      }
