use Rattle.std.proofs.Common.{◌∙◌, None, sym, ap, arith}
use Rattle.std.proofs.lemmas.List.{get_or_read}
use Rattle.clone_pool.specs.Index.{frame_number_of, is_name_of}
use Rattle.clone_pool.proofs.NameLemmas.{frame_number_found, frame_number_absent}
use Rattle.clone_pool.proofs.index.Index.find.Goals as goal

pub returns-then-has_name : goal.returns-then-has_name
returns-then-has_name c =
    let names = c.self.inside.names.items in
    let was = get_or_read names c.loop-at.at c.index-in-loop-at.result.now (omega (arith, c.len-count.ensures)) c.index-in-loop-at.ensures None in
    sym (ap (frame_number_of c.args.page) (sym c.self.view_is) ∙ frame_number_found c.args.page names c.loop-at.at (omega (arith, c.len-count.ensures)) (ap (is_name_of c.args.page) (sym was) ∙ sym c.has_name.ensures ∙ c.if-has_name.true) c.loop-at.invariant.before)

pub returns : goal.returns
returns c =
    sym (ap (frame_number_of c.args.page) (sym c.self.view_is) ∙ frame_number_absent c.args.page c.self.inside.names.items (λ i low. c.loop-at.invariant.before i (omega (arith, c.len-count.ensures, low))))
