-- The three pieces lie one after the other.
use Rattle.std.proofs.Common.{◌≡◌, ◌∙◌, ap, length, replicate, refl, ℕ}
use Rattle.std.proofs.lemmas.List.{length-replicate}
use Rattle.clone_page.specs.Header.{header, trailer}
use Rattle.clone_page.proofs.PieceLemmas.{laid, room, joined}
use Rattle.clone_page.proofs.page.Page.init.Goals as goal

pub returns : goal.returns
returns c =
    let head : c.copy_from_slice.new.self ≡ header c.args.space c.args.number c.args.kind c.args.lsn = c.copy_from_slice.ensures.after ∙ c.header_of.ensures in
    let tail : c.copy_from_slice-2.new.self ≡ trailer c.args.lsn = c.copy_from_slice-2.ensures.after ∙ c.trailer_of.ensures in
    let long : length c.copy_from_slice.new.self ≡ 38 = ap length head in
    let body : c.fill.new.self ≡ replicate 4050 0 =
    c.fill.ensures.after (λ y e. e) ∙ ap (λ n. replicate n 0) (room 38 4050 8 c.copy_from_slice.new.self c.self.inside.bytes long c.self.told) in
    laid 38 4050 8 4088 c.copy_from_slice.new.self c.fill.new.self c.copy_from_slice-2.new.self c.self.inside.bytes
    long (ap length body ∙ length-replicate {A = ℕ} 4050 0) c.self.told refl
    ∙ joined head body tail
