use Rattle.std.proofs.Common.{sym, ◌∙◌, append_assoc}
use Rattle.clone_model.specs.Texts.{change_text}
use Rattle.clone_model.proofs.Cuts.{lacks_from_All, same_cuts}
use Rattle.clone_model.proofs.LineTexts.{Lacks-change_text}
use Rattle.clone_model.proofs.reading.line.leading_change.Goals as goal

pub returns-in_err-change-clause-none : goal.returns-in_err-change-clause-none
returns-in_err-change-clause-none c = rw c.from_residual-in_err-change.ensures (λ change behind is e.
    let cut = same_cuts 10 _ (change_text change) _ behind (lacks_from_All 10 _ c.in_ok-line.ensures.first) (Lacks-change_text change is) (sym c.in_ok-line.ensures.parts ∙ e ∙ append_assoc (change_text change) _ behind) in
    c.in_err-change.ensures.none change is cut.0)
