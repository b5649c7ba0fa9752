use Rattle.std.proofs.Common.{arith}
use Rattle.clone_bytes.specs.Fields.{IsBytes}
use Rattle.clone_follow.proofs.Decoding.{found, head_failed, payload_failed}
use Rattle.clone_follow.proofs.reading.decode.Goals as goal

pub returns-in-Err : goal.returns-in-Err
returns-in-Err c =
    let fit : IsBytes c.args.bytes.now = λ i. omega (arith, c.type_inv.bytes i) in
    rw c.refusal_of.ensures (head_failed c.args.bytes.now c.in-Err.fault fit (rw c.new-reader.ensures at c.in-Err.ensures.gives))

pub returns-in-Ok-payload_of : goal.returns-in-Ok-payload_of
returns-in-Ok-payload_of c =
    let fit : IsBytes c.args.bytes.now = λ i. omega (arith, c.type_inv.bytes i) in
    found c.args.bytes.now c.in-Ok.head c.head_of.new.reader c.in-Ok-payload_of.frame c.payload_of.new.reader fit (rw c.new-reader.ensures at c.in-Ok.ensures.gives) c.in-Ok-payload_of.ensures

pub returns-in-Err-payload_of : goal.returns-in-Err-payload_of
returns-in-Err-payload_of c =
    let fit : IsBytes c.args.bytes.now = λ i. omega (arith, c.type_inv.bytes i) in
    rw c.refusal_of-in-Err-payload_of.ensures (payload_failed c.args.bytes.now c.in-Ok.head c.head_of.new.reader c.in-Err-payload_of.fault fit (rw c.new-reader.ensures at c.in-Ok.ensures.gives) c.in-Err-payload_of.ensures)
