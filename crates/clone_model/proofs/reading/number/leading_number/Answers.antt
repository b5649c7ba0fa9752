use Rattle.std.proofs.Common.{sym, subst, ◌∙◌, arith}
use Rattle.std.proofs.lemmas.Option.{none-some, same_Some}
use Rattle.std.specs.Fmt.{decimal}
use Rattle.clone_model.proofs.Cuts.{Lacks, lacks_from_All, not_lacks, same_cuts}
use Rattle.clone_model.proofs.Decimals.{Lacks-decimal}
use Rattle.clone_model.proofs.reading.number.leading_number.Goals as goal

pub returns-in_err-word-clause-only : goal.returns-in_err-word-clause-only
returns-in_err-word-clause-only c = λ n rest small e.
    absurd (not_lacks 32 (decimal n) rest (subst (Lacks 32) e (lacks_from_All 32 _ c.in_err-word.ensures.none)))

pub returns-in_err-number_of-clause-only : goal.returns-in_err-number_of-clause-only
returns-in_err-number_of-clause-only c = λ n rest small e.
    let cut = same_cuts 32 _ (decimal n) _ rest (lacks_from_All 32 _ c.in_ok-word.ensures.first) (Lacks-decimal 32 n (omega arith) small) (sym c.in_ok-word.ensures.parts ∙ e) in
    absurd (none-some n (sym c.in_err-number_of.was ∙ c.number_of.ensures.only n small cut.0))

pub returns-clause-only : goal.returns-clause-only
returns-clause-only c = λ n rest small e.
    let cut = same_cuts 32 _ (decimal n) _ rest (lacks_from_All 32 _ c.in_ok-word.ensures.first) (Lacks-decimal 32 n (omega arith) small) (sym c.in_ok-word.ensures.parts ∙ e) in
    (same_Some _ n (sym c.in_ok-number_of.was ∙ c.number_of.ensures.only n small cut.0), cut.1)
