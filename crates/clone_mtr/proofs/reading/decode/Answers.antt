use Rattle.std.proofs.Common.{◌≡◌, ◌-◌, length, Some, None, Ok, Err, ap, ◌∙◌, sym, subst, arith}
use Rattle.std.proofs.lemmas.Result.{err_from_is_err_and}
use Rattle.clone_mtr.specs.Left.{records_of, AreRecords}
use Rattle.clone_mtr.specs.Reading.{item_at}
use Rattle.clone_mtr.specs.References.{record_of}
use Rattle.clone_mtr.proofs.Decoding.{offset_is, next_more, ended, refuses, ends_first, front_is, some_read}
use Rattle.clone_mtr.proofs.LeftLemmas.{records_back, are_records}
use Rattle.clone_mtr.proofs.reading.decode.Goals as goal

pub returns-in_err-item_of : goal.returns-in_err-item_of
returns-in_err-item_of c =
    let p = err_from_is_err_and c.from_residual.result c.from_residual.ensures.1 in
    let so_far = c.loop.invariant.1 in
    let at = length c.args.bytes.now - length c.loop.reader in
    let read : item_at at c.loop.reader ≡ Err c.in_err-item_of.field-0.0 = rw c.left.ensures at c.in_err-item_of.ensures in
    rw (p.1, p.2) (refuses c.args.bytes.now c.loop.reader c.loop.invariant.0 at c.in_err-item_of.field-0.0 (offset_is c.args.bytes.now c.loop.reader c.loop.invariant.0 so_far) so_far read)

pub loop-smaller : goal.loop-smaller
loop-smaller c =
    let so_far = c.loop.invariant.1 in
    let at = length c.args.bytes.now - length c.loop.reader in
    let read : item_at at c.loop.reader ≡ Ok (Some (record_of c.in-Some.field-0), c.item_of.new.reader) = rw (c.in-Some.is, c.left.ensures) at c.in_ok-item_of.ensures in
    (next_more c.args.bytes.now c.loop.reader c.item_of.new.reader c.loop.invariant.0 (record_of c.in-Some.field-0) at (offset_is c.args.bytes.now c.loop.reader c.loop.invariant.0 so_far) so_far read).1

pub loop-preserved : goal.loop-preserved
loop-preserved c =
    let so_far = c.loop.invariant.1 in
    let at = length c.args.bytes.now - length c.loop.reader in
    let read : item_at at c.loop.reader ≡ Ok (Some (record_of c.in-Some.field-0), c.item_of.new.reader) = rw (c.in-Some.is, c.left.ensures) at c.in_ok-item_of.ensures in
    (_, (next_more c.args.bytes.now c.loop.reader c.item_of.new.reader c.loop.invariant.0 (record_of c.in-Some.field-0) at (offset_is c.args.bytes.now c.loop.reader c.loop.invariant.0 so_far) so_far read).0)

pub returns-in-None : goal.returns-in-None
returns-in-None c =
    let so_far = c.loop.invariant.1 in
    let at : length c.args.bytes.now - c.left.result ≡ 0 = omega arith in
    let read : item_at 0 c.loop.reader ≡ Ok (None, c.item_of.new.reader) = rw (c.in-None.is, at) at c.in_ok-item_of.ensures in
    ends_first c.args.bytes.now c.loop.reader c.item_of.new.reader c.loop.invariant.0 so_far (omega (arith, offset_is c.args.bytes.now c.loop.reader c.loop.invariant.0 so_far)) read

pub new-requires : goal.new-requires
new-requires c =
    let so_far = c.loop.invariant.1 in
    let text = front_is c.args.bytes.now c.loop.reader c.loop.invariant.0 _ (rw c.left.ensures (offset_is c.args.bytes.now c.loop.reader c.loop.invariant.0 so_far)) so_far in
    subst AreRecords (sym text) (are_records c.loop.invariant.0 so_far.each so_far.below)

pub returns-in-None-2 : goal.returns-in-None-2
returns-in-None-2 c =
    let bytes = c.args.bytes.now in
    let so_far = c.loop.invariant.1 in
    let at = length bytes - length c.loop.reader in
    let here = offset_is bytes c.loop.reader c.loop.invariant.0 so_far in
    let read : item_at at c.loop.reader ≡ Ok (None, c.item_of.new.reader) = rw (c.in-None-2.is, c.left.ensures) at c.in_ok-item_of.ensures in
    let some = some_read c.loop.invariant.0 (omega (arith, here, c.left.ensures)) in
    let found : c.new.result ≡ c.loop.invariant.0 = c.new.ensures ∙ ap records_of (rw c.left.ensures (front_is bytes c.loop.reader c.loop.invariant.0 at here so_far)) ∙ records_back c.loop.invariant.0 so_far.each so_far.below in
    rw (found, c.left.ensures) (ended bytes c.loop.reader c.item_of.new.reader c.loop.invariant.0 at here so_far read some)
