use Rattle.std.proofs.Common.{◌++◌, ◌∷◌, OnOk, Ok, Err, Result, length, ◌∙◌, ap, append_assoc}
use Rattle.byteorder.specs.Endian.{big_bytes}
use Rattle.clone_mtr.proofs.writing.push_record.Goals as goal

-- what follows where there is a value
onward : {T E P Q : Type 0} (r : Result T E) → (P → Q) → OnOk r P → OnOk r Q
onward (Ok x) f p = f p
onward (Err e) f p = tt

pub returns-in_ok-push_pair-in-Init : goal.returns-in_ok-push_pair-in-Init
returns-in_ok-push_pair-in-Init c =
    let pair = 1 ∷ (big_bytes 4 c.in-Init.space ++ big_bytes 4 c.in-Init.page) in
    let kind = big_bytes 2 c.number.result in
    let behind = ap (λ t. t ++ kind) c.in_ok-push_pair-in-Init.ensures ∙ append_assoc c.args.text.now pair kind in
    rw (c.in-Init.is, ← c.number.ensures) (onward c.u16.result (λ written. written ∙ behind) c.u16.ensures.ok)

pub returns-in_ok-push_pair-in-Write : goal.returns-in_ok-push_pair-in-Write
returns-in_ok-push_pair-in-Write c =
    let pair = 2 ∷ (big_bytes 4 c.in-Write.space ++ big_bytes 4 c.in-Write.page) in
    let patch = big_bytes 2 c.in-Write.patch.offset ++ (big_bytes 2 (length c.in-Write.patch.bytes) ++ c.in-Write.patch.bytes) in
    let behind = ap (λ t. t ++ patch) c.in_ok-push_pair-in-Write.ensures ∙ append_assoc c.args.text.now pair patch in
    rw c.in-Write.is (onward c.push_patch.result (λ written. written ∙ behind) c.push_patch.ensures)
