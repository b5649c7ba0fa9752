use Rattle.std.proofs.Common.{◌≤◌, length, arith}
use Rattle.std.specs.Prelude.{option_map}
use Rattle.clone_mtr.specs.References.{record_of}
use Rattle.clone_mtr.proofs.LeftLemmas.{begins, left_are, is_next}
use Rattle.clone_mtr.proofs.records.Records.next.Goals as goal

pub invariant_of-self : goal.invariant_of-self
invariant_of-self c =
    let left = c.self.inside.left.now in
    let some : 1 ≤ length left = grind (arith, c.is_empty.ensures, c.if-is_empty.false) in
    let b = begins left c.self.invariant some in
    rw c.rest-self-inside.ensures (left_are left c.item_of.new.reader (option_map record_of c.in-Ok.entry) b (rw c.new-reader.ensures at c.in-Ok.ensures))

pub returns-in-Ok : goal.returns-in-Ok
returns-in-Ok c =
    let left = c.self.inside.left.now in
    let some : 1 ≤ length left = grind (arith, c.is_empty.ensures, c.if-is_empty.false) in
    let b = begins left c.self.invariant some in
    rw (c.rest-self-inside.ensures, ← c.self.view_is) (is_next left c.item_of.new.reader c.in-Ok.entry b (rw c.new-reader.ensures at c.in-Ok.ensures))
