use Rattle.std.proofs.Common.{◌∙◌, ◌<◌, refl, sym, ap, arith}
use Rattle.std.specs.Prelude.{option_copied}
use Rattle.std.proofs.lemmas.Result.{IfOk-weaker}
use Rattle.clone_recover.specs.Walks.{held, unused, read}
use Rattle.clone_recover.proofs.chains.behind_in.Goals as goal

pub returns-in-Some-clause-sees : goal.returns-in-Some-clause-sees
returns-in-Some-clause-sees g c = held c.in-Some.page.now (sym c.page.ensures ∙ ap option_copied c.in-Some.is) c.next_page.ensures

pub returns-then-number-kept-clause-sees : goal.returns-then-number-kept-clause-sees
returns-then-number-kept-clause-sees g c = unused (sym c.page.ensures ∙ ap option_copied c.in_default.is) (omega (arith, c.kept.ensures.value, c.if-number-kept.true)) refl

pub returns-clause-sees : goal.returns-clause-sees
returns-clause-sees g c =
    let low : c.args.number < c.args.sheet.now.kept = omega (arith, c.kept.ensures.value, c.if-number-kept.false) in
    IfOk-weaker c.behind_read.result _ _ (λ next r. read (sym c.page.ensures ∙ ap option_copied c.in_default.is) low r) c.behind_read.ensures.reads

pub returns-clause-header : goal.returns-clause-header
returns-clause-header g c = λ e.
    let low : c.args.number < c.args.sheet.now.kept = omega (arith, c.kept.ensures.value, c.if-number-kept.false) in
    record { kept = low; within = omega (arith, low, c.kept.ensures.most); free = sym c.page.ensures ∙ ap option_copied c.in_default.is; gives = c.behind_read.ensures.header e }
