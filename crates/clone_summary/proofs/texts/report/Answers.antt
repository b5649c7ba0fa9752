use Rattle.std.proofs.Common.{◌≡◌, ◌++◌, ◌∷◌, [], ◌∙◌, ap}
use Rattle.std.proofs.lemmas.List.{append_assoc}
use Rattle.std.specs.String.{string_bytes}
use Rattle.clone_model.specs.Texts.{ended}
use Rattle.clone_plain.specs.Answers.{rows_answer}
use Rattle.clone_summary.specs.Summary.{cloned_text}
use Rattle.clone_summary.proofs.texts.report.Goals as goal

pub returns : goal.returns
unfolding lib.Utf8.encode
returns c =
    let head = ended (cloned_text c.args.lsn c.args.position c.args.floor) in
    let first : string_bytes c.in_ok-text.text ≡ head = simp append_assoc c.in_ok-text.ensures.ok in
    let rows = c.in_ok-push_str.ensures.bytes ∙ ap (λ t. t ++ c.as_str.result.now) first ∙ ap (λ t. head ++ t) (c.as_str.ensures.value ∙ c.in_ok-rows.ensures) in
    c.in_ok-push.ensures.bytes ∙ ap (λ t. t ++ 10 ∷ []) rows ∙ append_assoc head (rows_answer c.args.rows.now) (10 ∷ [])
