use Rattle.std.proofs.Common.{◌≡◌, Ok, ap, ◌∙◌, arith}
use Rattle.clone_wire.specs.Reading.{head_at}
use Rattle.clone_wire.proofs.Decoding.{head_long}
use Rattle.clone_wire.proofs.reading.read_head.Goals as goal

pub returns-in-Ok : goal.returns-in-Ok
returns-in-Ok c =
    let bytes = c.args.bytes.now in
    let read : head_at c.args.side bytes ≡ Ok (c.in-Ok.head, c.head_of.new.reader) = rw c.new.ensures at c.in-Ok.ensures.gives in
    read ∙ ap (λ t. Ok (c.in-Ok.head, t)) (head_long c.args.side bytes c.in-Ok.head c.head_of.new.reader (λ i. omega (arith, c.type_inv.bytes i)) read).1
