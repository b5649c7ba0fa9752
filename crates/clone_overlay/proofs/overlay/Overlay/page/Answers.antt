use Rattle.std.proofs.Common.{◌∙◌, ap, sym, subst, arith, option_copied}
use Rattle.clone_overlay.specs.Covers.{Overlay, covers_of}
use Rattle.clone_overlay.specs.Shown.{Shows, IsReady}
use Rattle.clone_overlay.proofs.Entries.{get_cover}
use Rattle.clone_overlay.proofs.OverlayImageLemmas.{page_nowhere, page_past, page_ready}
use Rattle.clone_overlay.proofs.overlay.Overlay.page.Goals as goal

pub returns-in_err-sheet : goal.returns-in_err-sheet
returns-in_err-sheet c = λ base image shows.
    let overlay : Overlay = covers_of c.self.inside.sheets.entries in
    let none = get_cover c.self.inside.sheets c.args.space ∙ sym c.get.ensures.value ∙ ap option_copied c.in_err-sheet.was in
    ap option_copied c.from_residual.ensures ∙ page_nowhere base image overlay c.args.space c.args.number none (subst (Shows base image) (sym c.self.view_is) shows)

pub returns-then-number-count : goal.returns-then-number-count
returns-then-number-count c = λ base image shows.
    let overlay : Overlay = covers_of c.self.inside.sheets.entries in
    let there = get_cover c.self.inside.sheets c.args.space ∙ sym c.get.ensures.value ∙ ap option_copied c.in_ok-sheet.was in
    page_past base image overlay c.args.space c.args.number c.in_ok-sheet.sheet.now there (omega (arith, c.count.ensures, c.if-number-count.true)) (subst (Shows base image) (sym c.self.view_is) shows)

pub returns : goal.returns
returns c = λ base image shows.
    let overlay : Overlay = covers_of c.self.inside.sheets.entries in
    let there = get_cover c.self.inside.sheets c.args.space ∙ sym c.get.ensures.value ∙ ap option_copied c.in_ok-sheet.was in
    c.page.ensures
    ∙ page_ready base image overlay c.args.space c.args.number c.in_ok-sheet.sheet.now there (omega (arith, c.count.ensures, c.if-number-count.false))
    (subst (λ (o : Overlay). IsReady o c.args.space c.args.number) (sym c.self.view_is) c.requires) (subst (Shows base image) (sym c.self.view_is) shows)
