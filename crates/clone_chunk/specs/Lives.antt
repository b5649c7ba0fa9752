-- A life of a map: the claims and the finishes that it answered, in their order, without a reset or
-- a restart.
use Rattle.std.specs.Prelude.{ℕ, ◌≡◌, List, [], ◌∷◌, Some, slice_get, slice_set}
use Rattle.clone_chunk.specs.Chunks.{IsLeastFree}
use Rattle.clone_chunk.specs.declared.chunk.Chunk.{Chunk}
use Rattle.clone_chunk.specs.declared.chunk.Chunk.TheVariants.{Claimed, Finished}

-- a task got a chunk, or finished one
pub data Event : Type 0 where
  claims : (task chunk : ℕ) → Event
  finishes : (task chunk : ℕ) → Event

-- each is answered as the map's calls say, from these states on
abbrev pub IsLife : List Chunk → List Event → Type 0
IsLife states [] = Unit {0}
IsLife states (claims task chunk ∷ events) =
    IsLeastFree states chunk × IsLife (slice_set states chunk (Claimed task)) events
IsLife states (finishes task chunk ∷ events) =
    (slice_get states chunk ≡ Some (Claimed task)) × IsLife (slice_set states chunk Finished) events

-- the chunks that were claimed, in their order
abbrev pub claims_of : List Event → List ℕ
claims_of [] = []
claims_of (claims task chunk ∷ events) = chunk ∷ claims_of events
claims_of (finishes task chunk ∷ events) = claims_of events
