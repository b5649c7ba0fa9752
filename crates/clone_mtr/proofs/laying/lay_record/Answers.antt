use Rattle.std.proofs.Common.{◌≤◌, ◌+◌, ◌++◌, [], ◌∷◌, length, arith}
use Rattle.byteorder.specs.Endian.{big_bytes}
use Rattle.clone_mtr.proofs.Pieces.{two_pieces}
use Rattle.clone_mtr.proofs.laying.lay_record.Goals as goal

pub returns-in-Init-clause-text : goal.returns-in-Init-clause-text
returns-in-Init-clause-text c =
    let pair = 1 ∷ (big_bytes 4 c.in-Init.space ++ big_bytes 4 c.in-Init.page) in
    let room : c.args.at + 11 ≤ length c.args.into.now = rw c.in-Init.is at c.requires in
    rw (c.in-Init.is, ← c.number.ensures)
    (two_pieces c.args.at c.lay_pair-at.result pair (big_bytes 2 c.number.result) c.args.into.now c.lay_pair-at.new.into c.lay_u16.new.into (omega arith) c.lay_pair-at.ensures.behind c.lay_pair-at.ensures.text c.lay_u16.ensures.text)

pub returns-in-Write-clause-text : goal.returns-in-Write-clause-text
returns-in-Write-clause-text c =
    let pair = 2 ∷ (big_bytes 4 c.in-Write.space ++ big_bytes 4 c.in-Write.page) in
    let patch = big_bytes 2 c.in-Write.patch.offset ++ (big_bytes 2 (length c.in-Write.patch.bytes) ++ c.in-Write.patch.bytes) in
    let room = rw c.in-Write.is at c.requires in
    rw c.in-Write.is
    (two_pieces c.args.at c.lay_pair-at-in-Write.result pair patch c.args.into.now c.lay_pair-at-in-Write.new.into c.lay_patch.new.into (omega (arith, room)) c.lay_pair-at-in-Write.ensures.behind c.lay_pair-at-in-Write.ensures.text c.lay_patch.ensures.text)

pub returns-in-Drop-clause-text : goal.returns-in-Drop-clause-text
returns-in-Drop-clause-text c =
    let room : c.args.at + 5 ≤ length c.args.into.now = rw c.in-Drop.is at c.requires in
    rw c.in-Drop.is
    (two_pieces c.args.at c.lay_bytes-at.result (5 ∷ []) (big_bytes 4 c.in-Drop.space) c.args.into.now c.lay_bytes-at.new.into c.lay_u32.new.into (omega arith) c.lay_bytes-at.ensures.behind c.lay_bytes-at.ensures.text c.lay_u32.ensures.text)
