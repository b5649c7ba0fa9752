use Rattle.std.proofs.Common.{◌≡◌, ◌∙◌, true, false, sym}
use Rattle.std.specs.FinMap as finite
use Rattle.clone_overlay.specs.Covers.{Cover}
use Rattle.clone_overlay.proofs.FetchLemmas.{unready}
use Rattle.clone_overlay.proofs.sheet.Sheet.fetch.Goals as goal

pub bring-requires-clause-there : goal.bring-requires-clause-there
bring-requires-clause-there g c =
    let self : Cover = c.args.self.now in
    (unready c.args.number self.count (finite.get self.leaves c.args.number) (λ h. let e : true ≡ false = sym (c.is_ready.ensures.1 h) ∙ c.if-is_ready.false in cc)).0

pub bring-requires-clause-free : goal.bring-requires-clause-free
bring-requires-clause-free g c =
    let self : Cover = c.args.self.now in
    (unready c.args.number self.count (finite.get self.leaves c.args.number) (λ h. let e : true ≡ false = sym (c.is_ready.ensures.1 h) ∙ c.if-is_ready.false in cc)).1
