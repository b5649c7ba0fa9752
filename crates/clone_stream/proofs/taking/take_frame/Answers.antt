use Rattle.std.proofs.Common.{◌++◌, take, drop, sym, ap, ◌∙◌}
use Rattle.std.proofs.lemmas.List.{take-append-drop}
use Rattle.clone_wire.specs.Spelling.{spelling}
use Rattle.clone_wire.proofs.Decoding.{only_spelling}
use Rattle.clone_stream.proofs.Orders.{frame_of}
use Rattle.clone_stream.proofs.taking.take_frame.Goals as goal

pub returns-in-Ok : goal.returns-in-Ok
returns-in-Ok c =
    let bytes = c.args.received.now.items in
    let n = c.in-Ok.long in
    let decoded = rw c.deref.ensures.value at c.in-Ok.ensures in
    let only = only_spelling c.args.side (take n bytes) c.in-Ok.frame decoded.0 in
    (frame_of c.args.side (take n bytes) c.in-Ok.frame decoded.0, sym (take-append-drop n bytes) ∙ ap (λ t. t ++ drop n bytes) only.2 ∙ ap (λ t. spelling c.in-Ok.frame ++ t) (sym c.drop_front.ensures))
