use Rattle.std.proofs.Common.{◌+◌, ◌++◌, length, sym, ap, ◌∙◌, string_bytes, codes, decimal}
use Rattle.clone_script.specs.declared.lines.Line.TheVariants as lines
use Rattle.clone_plain.specs.declared.call.EngineAnswer.TheVariants as answers
use Rattle.clone_plain.specs.declared.call.EngineCall.TheVariants as call
use Rattle.clone_core.specs.System.{donor_of}
use Rattle.clone_core.specs.Lines.{State}
use Rattle.clone_core.proofs.LineLemmas.{same_breaks, call_answers, call_breaks, made_step}
use Rattle.clone_core.proofs.world.World.commit_line.Goals as goal

pub returns-in_err-text-clause-err : goal.returns-in_err-text-clause-err
returns-in_err-text-clause-err g c = same_breaks c.args.self.now (lines.Commit c.args.trx) c.from_residual.result

pub returns-clause-ok : goal.returns-clause-ok
returns-clause-ok g c =
    call_answers string_bytes c.args.self.now _ (lines.Commit c.args.trx) (call.Commit c.args.trx) (λ position. answers.Commit position) c.commit-called.result _ c.answered.result (λ es m. m) c.commit-called.ensures (λ position is happened. c.in_ok-text.ensures ∙ ap (λ n. codes "committed " ++ decimal n) (ap (λ (s : State). length (donor_of s.donor).binlog + 1) c.self.view_is ∙ sym (made_step _ _ _ _ happened).1.count)) c.answered.ensures.ok

pub returns-clause-err : goal.returns-clause-err
returns-clause-err g c = call_breaks c.args.self.now _ (lines.Commit c.args.trx) (call.Commit c.args.trx) (λ position. answers.Commit position) c.commit-called.result c.answered.result (λ cause. tt) c.commit-called.ensures c.answered.ensures.err
