use Rattle.std.proofs.Common.{◌≡◌, ◌∙◌, ◌<◌, ◌≤◌, ap, subst, Err}
use Rattle.clone_overlay.specs.declared.overlay.FetchRefusal.TheVariants.{Header}
use Rattle.clone_overlay.specs.Answers.{reads, fills}
use Rattle.clone_overlay.specs.Covers.{Cover, holding}
use Rattle.clone_overlay.proofs.sheet.Sheet.bring.Goals as goal

pub returns-then-number-self-clause-ok : goal.returns-then-number-self-clause-ok
returns-then-number-self-clause-ok g c =
    let self : Cover = c.args.self.now in
    fills (subst (λ (v : Cover). v.kept ≤ c.args.number) c.self.view_is c.if-number-self.true) c.requires.there c.requires.free (c.in_ok-hold.ensures ∙ ap (λ p. holding c.args.number p self) c.zero.ensures)

pub returns-in_ok-hold-in-Ok-clause-ok : goal.returns-in_ok-hold-in-Ok-clause-ok
returns-in_ok-hold-in-Ok-clause-ok g c =
    let self : Cover = c.args.self.now in
    reads c.in-Ok.page (subst (λ (v : Cover). c.args.number < v.kept) c.self.view_is c.if-number-self.false) c.requires.there c.requires.free c.in-Ok.ensures.given c.in_ok-hold-in-Ok.ensures

pub returns-in-Err-clause-header : goal.returns-in-Err-clause-header
returns-in-Err-clause-header g c = λ e.
    let self : Cover = c.args.self.now in
    record {
      kept = subst (λ (v : Cover). c.args.number < v.kept) c.self.view_is c.if-number-self.false;
      within = c.requires.there;
      free = c.requires.free;
      gives = c.in-Err.ensures.header (let same : c.in-Err.refusal ≡ Header = cc in ap (λ r. Err r) same);
    }
