use Rattle.std.proofs.Common.{sym, subst, ◌∙◌}
use Rattle.clone_model.proofs.Decimals.{IsPlain, decimal_is_plain, IfSome-parse, parse-of_decimal, IsUtf8-decimal, value_of_match, error_of_match}
use Rattle.clone_model.proofs.reading.number.number_of.Goals as goal

pub returns-then-not-is_plain-clause-only : goal.returns-then-not-is_plain-clause-only
returns-then-not-is_plain-clause-only c = λ n small e.
    let plain = c.is_plain.ensures.1 (subst IsPlain (sym e) (decimal_is_plain n small)) in
    cc

pub returns-in_err-ok-clause-only : goal.returns-in_err-ok-clause-only
returns-in_err-ok-clause-only c = λ n small e.
    let refused = error_of_match _ _ _ c.from_utf8.ensures.cases (sym c.ok.ensures.value ∙ c.in_err-ok.was) in
    absurd (refused.1.0 (IsUtf8-decimal _ n small e))

pub returns-clause-some : goal.returns-clause-some
returns-clause-some c =
    let is_text = value_of_match _ _ _ _ c.from_utf8.ensures.cases (sym c.ok.ensures.value ∙ c.in_ok-ok.was) in
    rw (c.ok-2.ensures.value, ← is_text.0) (IfSome-parse _ _ (rw is_text.0 (c.is_plain.ensures.0 c.if-not-is_plain.false)) c.parse.ensures.value.0)

pub returns-clause-only : goal.returns-clause-only
returns-clause-only c = λ n small e.
    let is_text = value_of_match _ _ _ _ c.from_utf8.ensures.cases (sym c.ok.ensures.value ∙ c.in_ok-ok.was) in
    c.ok-2.ensures.value ∙ parse-of_decimal _ _ n small (is_text.0 ∙ e) c.parse.ensures.value.0
