-- Chunks, from chunk 0 on, each with its state.
use Rattle.std.specs.Prelude.{ℕ, ◌≡◌, ◌≢◌, ◌<◌, ◌≤◌, ◌+◌, ◌^◌, ◌/◌, ◌%◌, ◌==◌, Bool, true, false}
use Rattle.std.specs.Prelude.{List, Some, length, count_by, slice_get, slice_index, if◌then◌else◌}
use Rattle.std.specs.Prelude.{Vec, vec_capacity}
use Rattle.std.specs.declared.alloc.Global.{Global}
use Rattle.std.specs.Int.{bit_at}
use Rattle.clone_chunk.specs.declared.chunk.Chunk.{Chunk}
use Rattle.clone_chunk.specs.declared.chunk.Chunk.TheVariants.{Free, Claimed, Finished}

-- the state of each chunk, the mask of its kept blocks, and how many chunks there is room for
pub record Chunks : Type 0 where
  pub states : List Chunk
  pub kept : List ℕ
  pub room : ℕ

abbrev pub is_free : Chunk → Bool
is_free Free = true
is_free (Claimed task) = false
is_free Finished = false

-- claimed or finished
abbrev pub IsTaken : Chunk → Type 0
IsTaken chunk = chunk ≢ Free

-- the least chunk that is neither claimed nor finished
pub record IsLeastFree (states : List Chunk) (chunk : ℕ) : Type 0 where
  pub free : slice_get states chunk ≡ Some Free
  pub least : (before : ℕ) → before < chunk → slice_get states before ≢ Some Free

abbrev pub is_unfinished : Chunk → Bool
is_unfinished Free = true
is_unfinished (Claimed task) = true
is_unfinished Finished = false

-- how many chunks aren't finished
abbrev pub left_of : List Chunk → ℕ
left_of states = count_by is_unfinished states

-- Bit i stands in byte i / 8 with the value 2 ^ (i mod 8). Past the end of the bitmap no bit is
-- set.
abbrev pub has_bit : List ℕ → ℕ → Bool
has_bit bitmap i = bit_at (slice_index bitmap (i / 8)) (i % 8) == 1

-- as many chunks as before, finished where the bitmap has their bit and free elsewhere
pub record IsMarked (bitmap : List ℕ) (old new : List Chunk) : Type 0 where
  pub count : length new ≡ length old
  pub each : (i : ℕ) → i < length old →
      slice_get new i ≡ Some (if has_bit bitmap i then Finished else Free)

-- THE KEPT BLOCKS of a chunk are a mask: block b is kept where the bit of value 2 ^ b is set.
abbrev pub is_kept : ℕ → ℕ → Bool
is_kept mask block = bit_at mask block == 1

-- what is left of a mask for a chunk that has so many blocks
abbrev pub within : ℕ → ℕ → ℕ
within mask blocks = mask % 2 ^ blocks

-- the mask has each of so many blocks
abbrev pub is_whole : ℕ → ℕ → Bool
is_whole mask blocks = within mask blocks + 1 == 2 ^ blocks

-- There is a mask for each chunk, and both lists have room for so many chunks.
pub record HasRoom (states : Vec Chunk Global) (kept : Vec ℕ Global) (room : ℕ) : Type 0 where
  pub masks : length kept.items ≡ length states.items
  pub for_states : room ≤ vec_capacity states
  pub for_masks : room ≤ vec_capacity kept

-- what a map keeps: no chunk below the index that the search has come to is free
pub record IsMap (states : List Chunk) (searched left : ℕ) : Type 0 where
  pub small : length states < 2 ^ 32
  pub far : searched ≤ length states
  pub none_before : (k : ℕ) → k < searched → slice_get states k ≢ Some Free
  pub left_is : left ≡ left_of states
