-- A list of bytes in a list of blocks.
use Rattle.std.specs.Prelude.{ℕ, ◌≡◌, ◌≤◌, ◌*◌, List, length, take, Vec}
use Rattle.std.specs.declared.alloc.Global.{Global}
use Rattle.std.specs.List.{flat_map, All}
use Rattle.clone_base.specs.declared.limits.TheConstants.{LSN_LIMIT}
use Rattle.clone_base.specs.declared.limits.TheConstants.{BLOCK_BYTES}

-- the bytes, and how many there is room for
pub record BlockBytes : Type 0 where
  pub bytes : List ℕ
  pub room : ℕ

-- the blocks, each with its bytes
abbrev pub BlockList : Type 0
BlockList = List (Vec ℕ Global)

abbrev pub bytes_of : Vec ℕ Global → List ℕ
bytes_of block = block.items

-- the first of the bytes of all blocks together, so many of them
abbrev pub bytes_in : BlockList → ℕ → List ℕ
bytes_in blocks len = take len (flat_map bytes_of blocks)

abbrev pub room_in : BlockList → ℕ
room_in blocks = BLOCK_BYTES * length blocks

abbrev pub IsWhole : Vec ℕ Global → Type 0
IsWhole block = length block.items ≡ BLOCK_BYTES

-- what a list keeps: each block has its size, and the bytes are in the blocks
pub record AreBlocks (blocks : BlockList) (len : ℕ) : Type 0 where
  pub whole : All IsWhole blocks
  pub held : len ≤ room_in blocks
  pub small : room_in blocks ≤ LSN_LIMIT
