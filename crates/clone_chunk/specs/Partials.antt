-- Chunks of which some blocks were taken and some weren't, and the chunks of which all were.
use Rattle.std.specs.Prelude.{ℕ, ◌≡◌, ◌≤◌, ◌<◌, ◌==◌, List, [], ◌∷◌, length, false, All, AllPairs}
use Rattle.std.specs.Prelude.{if◌then◌else◌}
use Rattle.clone_chunk.specs.declared.partials.PartialChunk.{PartialChunk}
use Rattle.clone_chunk.specs.declared.partials.TheConstants.{MOST_PARTIAL, MOST_MASK}
use Rattle.clone_chunk.specs.Bitmaps.{Bits}
use Rattle.clone_chunk.specs.Chunks.{has_bit}

-- one block was taken at least, and of eight not each
abbrev pub IsMask : ℕ → Type 0
IsMask mask = (1 ≤ mask) × (mask ≤ MOST_MASK)

-- few enough, each with such a mask, and each chunk's number below those after it
pub record ArePartials (partials : List PartialChunk) : Type 0 where
  pub few : length partials ≤ MOST_PARTIAL
  pub masks : All (λ p. IsMask p.mask) partials
  pub ascending : AllPairs (λ p q. p.chunk < q.chunk) partials

-- a chunk above those that were listed so far
abbrev pub IsAbove : List PartialChunk → ℕ → Type 0
IsAbove partials chunk = All (λ p. p.chunk < chunk) partials

-- the mask of a chunk, which is 0 where the chunk isn't listed
abbrev pub mask_of : List PartialChunk → ℕ → ℕ
mask_of [] chunk = 0
mask_of (p ∷ partials) chunk = if p.chunk == chunk then p.mask else mask_of partials chunk

-- no chunk is listed whose bit is set
abbrev pub AreUnset : List ℕ → List PartialChunk → Type 0
AreUnset bitmap partials = All (λ p. has_bit bitmap p.chunk ≡ false) partials

-- the chunks that are finished by their bits, and the blocks that were taken of others
pub record Taken : Type 0 where
  pub finished : Bits
  pub partials : List PartialChunk
