use Rattle.std.proofs.Common.{◌<◌, ◌%◌, ◌∙◌, length, sym, arith, rules}
use Rattle.std.proofs.lemmas.List.{take_more_set, append_assoc}
use Rattle.clone_workload.proofs.Draws.{next_byte, next_after}
use Rattle.clone_workload.proofs.generator.next_value.Goals as goal

pub bytes-preserved : goal.bytes-preserved
bytes-preserved c =
    let n = c.next-2.result % 65 in
    let byte = next_byte n c.bytes.i c.bytes.words c.bytes-test.true in
    let left = next_after n c.bytes.i c.bytes.words c.bytes-test.true in
    let room : c.bytes.i < length c.bytes.bytes = omega (arith, c.bytes.invariant.2, c.bytes-test.true) in (
      rw (c.next-in-bytes.ensures.left, c.next-in-bytes.ensures.word, take_more_set c.bytes.bytes c.bytes.i _ room, append_assoc, ← byte) c.bytes.invariant.0,
      rw (c.next-in-bytes.ensures.left) (sym left ∙ c.bytes.invariant.1),
      search rules,
    )
