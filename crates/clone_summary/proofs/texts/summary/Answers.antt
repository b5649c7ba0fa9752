use Rattle.std.proofs.Common.{◌≡◌, ◌++◌, ◌∙◌, ap, sym, codes}
use Rattle.std.proofs.lemmas.List.{append_assoc, append-nil}
use Rattle.std.specs.String.{string_bytes}
use Rattle.clone_model.specs.Texts.{ended}
use Rattle.clone_summary.specs.Summary.{commits_of, counted_text, load_text, writer_text, writers_text}
use Rattle.clone_summary.proofs.CountLemmas.{floor_met, floor_missed, numbered}
use Rattle.clone_summary.proofs.texts.summary.Goals as goal
use Rattle.clone_summary.proofs.texts.summary.Goals.{then-floor-position+in_ok-push_str-2, else-floor-position}

pub returns : goal.returns
returns c =
    let binlog = c.args.binlog.now.commits in
    let head : string_bytes c.in_ok-text.text ≡ ended (load_text c.args.seed c.args.writers c.args.transactions) = simp append_assoc c.in_ok-text.ensures.ok in
    let counted : counted_text c.deref.result.now ≡ writers_text binlog c.args.writers =
    ap counted_text (c.deref.ensures.value ∙ c.in_ok-counts.ensures) ∙ numbered (commits_of binlog) (λ p. ended (writer_text p.0 p.1)) 0 c.args.writers in
    let complete = c.in_ok-push_str.ensures.bytes ∙ ap (λ t. t ++ ended (codes "clone complete")) (c.in_ok-push_writers.ensures ∙ ap (λ t. t ++ counted_text c.deref.result.now) head ∙ ap (λ t. ended (load_text c.args.seed c.args.writers c.args.transactions) ++ t) counted) in
    let front = ended (load_text c.args.seed c.args.writers c.args.transactions) ++ writers_text binlog c.args.writers ++ ended (codes "clone complete") in
    elim c.if-floor-position.branch [
      | then-floor-position+in_ok-push_str-2 w ↦
          ap string_bytes w.text-is ∙ w.in_ok-push_str-2.ensures.bytes ∙ ap (λ t. t ++ ended (codes "floor met")) complete
          ∙ ap (λ t. front ++ t) (sym (floor_met c.args.position c.args.floor w.if-floor-position.true))
      | else-floor-position w ↦
          ap string_bytes w.text-is ∙ complete ∙ sym (append-nil front) ∙ ap (λ t. front ++ t) (sym (floor_missed c.args.position c.args.floor w.if-floor-position.false))
    ]
