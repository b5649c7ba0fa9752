use Rattle.std.proofs.Common.{Result, Ok, Err, OnOk}
use Rattle.clone_wire.specs.Spelling.{side_of}
use Rattle.clone_stream.proofs.Orders.{frame_of}
use Rattle.clone_stream.proofs.putting.put_frame.Goals as goal

-- what holds anyway holds where there is a value
on_ok : {T E P : Type 0} (r : Result T E) → P → OnOk r P
on_ok (Ok x) p = p
on_ok (Err e) p = tt

pub returns-then-not-is_empty-clause-is : goal.returns-then-not-is_empty-clause-is
returns-then-not-is_empty-clause-is c = on_ok c.extend_from_slice.result (frame_of (side_of c.args.frame.now) c.in_ok-text.text.items c.args.frame.now c.in_ok-text.ensures.spelled)

pub returns-clause-is : goal.returns-clause-is
returns-clause-is c = frame_of (side_of c.args.frame.now) c.in_ok-text.text.items c.args.frame.now c.in_ok-text.ensures.spelled
