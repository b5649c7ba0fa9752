use Rattle.std.proofs.Common.{◌++◌, length, arith}
use Rattle.byteorder.specs.Endian.{big_bytes}
use Rattle.clone_mtr.proofs.Pieces.{two_pieces}
use Rattle.clone_mtr.proofs.laying.lay_patch.Goals as goal

pub returns-clause-text : goal.returns-clause-text
returns-clause-text c =
    let offset = big_bytes 2 c.offset.result in
    let long = big_bytes 2 (length c.bytes-bytes.result.now) in
    let first = two_pieces c.args.at c.lay_u16-at.result offset long c.args.into.now c.lay_u16-at.new.into c.lay_u16-at-2.new.into (omega arith) c.lay_u16-at.ensures.behind c.lay_u16-at.ensures.text c.lay_u16-at-2.ensures.text in
    rw (← c.offset.ensures, ← c.bytes-bytes.ensures.value)
    (two_pieces c.args.at c.lay_u16-at-2.result (offset ++ long) c.bytes-bytes.result.now c.args.into.now c.lay_u16-at-2.new.into c.lay_bytes.new.into (omega arith) (omega arith) first c.lay_bytes.ensures.text)
