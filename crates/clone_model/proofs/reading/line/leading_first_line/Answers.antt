use Rattle.std.proofs.Common.{sym, subst, ◌∙◌, append_assoc}
use Rattle.clone_model.specs.Reading.{first_line}
use Rattle.clone_model.proofs.Cuts.{Lacks, lacks_from_All, not_lacks, same_cuts}
use Rattle.clone_model.proofs.LineTexts.{Lacks-first_line}
use Rattle.clone_model.proofs.reading.line.leading_first_line.Goals as goal

pub returns-in_err-line-clause-none : goal.returns-in_err-line-clause-none
returns-in_err-line-clause-none c = rw c.from_residual.ensures (λ writer index count behind w i n e.
    not_lacks 10 (first_line writer index count) behind (subst (Lacks 10) (e ∙ append_assoc (first_line writer index count) _ behind) (lacks_from_All 10 _ c.in_err-line.ensures.none)))

pub returns-in_err-commit_fields-clause-none : goal.returns-in_err-commit_fields-clause-none
returns-in_err-commit_fields-clause-none c = rw c.from_residual-in_err-commit_fields.ensures (λ writer index count behind w i n e.
    let cut = same_cuts 10 _ (first_line writer index count) _ behind (lacks_from_All 10 _ c.in_ok-line.ensures.first) (Lacks-first_line writer index count w i n) (sym c.in_ok-line.ensures.parts ∙ e ∙ append_assoc (first_line writer index count) _ behind) in
    c.in_err-commit_fields.ensures.none writer index count w i n cut.0)
