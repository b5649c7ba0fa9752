use Rattle.std.proofs.Common.{◌≡◌, length}
use Rattle.clone_model.proofs.HexTexts.{Decoded}
use Rattle.clone_model.proofs.reading.value.decode_hex.Given as goal

abbrev pub invariant-loop-rest : goal.invariant-loop-rest
invariant-loop-rest l = Decoded l.text l.room l.len l.rest × (length l.room ≡ length l.fn.room)

abbrev pub decreases-loop-rest : goal.decreases-loop-rest
decreases-loop-rest l = length l.rest
