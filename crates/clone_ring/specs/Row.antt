-- The bytes of a ring as they stand in memory: a row, in blocks, on which the log goes round.
use Rattle.std.specs.Prelude.{ℕ, ◌≡◌, ◌≤◌, ◌<◌, ◌+◌, ◌-◌, ◌*◌, ◌++◌, min, List, length, take, drop, Vec, vec_capacity, Some}
use Rattle.std.specs.Prelude.{slice_get}
use Rattle.std.specs.declared.alloc.Global.{Global}
use Rattle.std.specs.List.{flat_map}
use Rattle.clone_ring.specs.declared.blocks.TheConstants.{RING_BLOCK}

-- the bytes that were written so far, and how many there may be
pub record Row : Type 0 where
  pub bytes : List ℕ
  pub size : ℕ

abbrev pub Block : Type 0
Block = Vec ℕ Global

-- the bytes of all blocks together
abbrev pub joined : List Block → List ℕ
joined blocks = flat_map (λ block. block.items) blocks

-- the bytes that stand in the block of this number
abbrev pub part_of : List ℕ → ℕ → List ℕ
part_of bytes i = take RING_BLOCK (drop (RING_BLOCK * i) bytes)

-- Each block has its part of the bytes, and room for its part of the whole row.
pub record IsRow (blocks : List Block) (size : ℕ) : Type 0 where
  pub parts : (i : ℕ) (block : Block) → slice_get blocks i ≡ Some block
      → block.items ≡ part_of (joined blocks) i
  pub room : (i : ℕ) (block : Block) → slice_get blocks i ≡ Some block
      → min RING_BLOCK (size - RING_BLOCK * i) ≤ vec_capacity block
  pub enough : size ≤ RING_BLOCK * length blocks
  pub held : length (joined blocks) ≤ size

-- bytes written over others from a place on, and behind them where those end
abbrev pub written : ℕ → List ℕ → List ℕ → List ℕ
written at new bytes = take at bytes ++ (new ++ drop (at + length new) bytes)

-- the bytes from a place on to the end of the row, and then from its beginning
abbrev pub round_from : ℕ → List ℕ → List ℕ
round_from at bytes = drop at bytes ++ bytes

-- the place on a row of this size that is so many bytes further round
pub record IsFurther (size start offset place : ℕ) : Type 0 where
  pub straight : start + offset < size → place ≡ start + offset
  pub round : size ≤ start + offset → place + size ≡ start + offset

-- Where a log stands on a row: it begins at a place and has so many bytes, which are all written.
-- As long as the row isn't written to its end, the log ends where its bytes do.
pub record LiesOn (row : Row) (start len : ℕ) : Type 0 where
  pub begins : start ≤ row.size
  pub fits : len ≤ row.size
  pub held : length row.bytes ≤ row.size
  pub filled : length row.bytes < row.size → start + len ≡ length row.bytes
