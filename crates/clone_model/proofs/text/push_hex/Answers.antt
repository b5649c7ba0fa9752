use Rattle.std.proofs.Common.{◌++◌, ◌∙◌, ap, false, arith}
use Rattle.std.proofs.lemmas.Fmt as fmt
use Rattle.std.specs.String.{string_bytes}
use Rattle.clone_model.specs.Texts.{hex_byte}
use Rattle.clone_model.proofs.TextLemmas.{wrote_item}
use Rattle.clone_model.proofs.text.push_hex.Goals as goal

pub loop-byte-preserved : goal.loop-byte-preserved
loop-byte-preserved c =
    let before = string_bytes c.loop-byte.text in
    let written = rw (c.in_radix.ensures, c.laid_out.ensures) at c.in_ok-write.ensures.bytes in
    let one = written ∙ ap (λ bs. before ++ bs) (fmt.hex_byte false _ (omega (arith, c.type_inv.bytes c.loop-byte.byte-index))) in
    wrote_item hex_byte before _ _ c.args.bytes.now c.loop-byte.byte-index 0 c.loop-byte-test.true c.loop-byte.invariant one
