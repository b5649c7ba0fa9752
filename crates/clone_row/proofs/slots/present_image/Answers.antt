use Rattle.std.proofs.Common.{◌≡◌, ℕ, List, ◌∷◌, ◌++◌, length, replicate, refl, ap, ◌∙◌}
use Rattle.byteorder.specs.Endian.{big_bytes}
use Rattle.clone_page.specs.Bytes.{put_at}
use Rattle.clone_page.proofs.PieceLemmas.{padded}
use Rattle.clone_row.proofs.slots.present_image.Goals as goal

pub returns : goal.returns
returns c =
    let front : List ℕ = 1 ∷ length c.args.value.now ∷ (replicate 6 0 ++ big_bytes 8 c.args.key) in
    let head : c.put-2.new.bytes ≡ front ++ replicate 64 0 = c.put-2.ensures ∙ ap (λ (key : List ℕ). put_at 8 key c.put.new.bytes) c.to_be_bytes.ensures ∙ ap (put_at 8 (big_bytes 8 c.args.key)) c.put.ensures in
    c.put-3.ensures ∙ ap (put_at 16 c.args.value.now) head ∙ padded 16 64 front c.args.value.now refl
