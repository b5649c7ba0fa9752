use Rattle.std.proofs.Common.{◌≡◌, ◌≤◌, ◌==◌, ◌∙◌, sym, ap, arith}
use Rattle.std.specs.Int.{bit_at}
use Rattle.std.proofs.lemmas.Bool.{le-ltb}
use Rattle.std.proofs.lemmas.Nat.Bits.{bit_at_above}
use Rattle.clone_chunk.proofs.masks.is_kept.Goals as goal

pub returns-else-block-lt-CHUNK_BLOCKS : goal.returns-else-block-lt-CHUNK_BLOCKS
returns-else-block-lt-CHUNK_BLOCKS c =
    let past : 8 ≤ c.args.block = omega arith in
    let none : bit_at c.args.mask c.args.block ≡ 0 = bit_at_above c.args.mask 8 c.args.block (omega arith) past in
    le-ltb c.args.block 8 past ∙ ap (λ bit. bit == 1) (sym none)
