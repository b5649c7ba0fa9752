-- The low half of the number has the last four of its bytes.
use Rattle.std.proofs.Common.{◌≡◌, ◌∙◌, ap, refl, take, drop}
use Rattle.byteorder.specs.Endian.{big_bytes}
use Rattle.clone_page.specs.Bytes.{put_at}
use Rattle.clone_page.proofs.PieceLemmas.{written}
use Rattle.clone_page.proofs.page.Page.set_lsn.Goals as goal

pub returns : goal.returns
returns c =
    let whole : c.copy_from_slice.new.self ≡ big_bytes 8 c.args.lsn = c.copy_from_slice.ensures.after ∙ c.write_u64.ensures in
    let low : c.copy_from_slice-2.new.self ≡ big_bytes 4 c.args.lsn = c.copy_from_slice-2.ensures.after ∙ ap (λ bytes. take 4 (drop 4 bytes)) c.write_u64.ensures in
    let first = written 16 8 c.self.inside.bytes c.copy_from_slice.new.self (big_bytes 8 c.args.lsn) whole refl in
    written 4092 4 _ c.copy_from_slice-2.new.self (big_bytes 4 c.args.lsn) low refl
    ∙ ap (put_at 4092 (big_bytes 4 c.args.lsn)) (first ∙ ap (put_at 16 (big_bytes 8 c.args.lsn)) c.self.view_is)
