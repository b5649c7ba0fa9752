use Rattle.std.proofs.Common.{ap, ◌∙◌, string_bytes}
use Rattle.clone_script.specs.declared.lines.Line.TheVariants as lines
use Rattle.clone_plain.specs.declared.call.EngineAnswer.TheVariants as answers
use Rattle.clone_plain.specs.declared.call.EngineCall.TheVariants as call
use Rattle.clone_plain.specs.Causes.{least_unused}
use Rattle.clone_events.specs.World.{index_in}
use Rattle.clone_core.specs.System.{donor_of}
use Rattle.clone_core.specs.Lines.{State}
use Rattle.clone_core.proofs.LineLemmas.{same_breaks, call_answers, call_breaks, made_step}
use Rattle.clone_core.proofs.world.World.begin_line.Goals as goal

pub returns-in_err-text-clause-err : goal.returns-in_err-text-clause-err
returns-in_err-text-clause-err g c = same_breaks c.args.self.now (lines.Begin c.args.writer) c.from_residual.result

pub returns-clause-ok : goal.returns-clause-ok
returns-clause-ok g c =
    call_answers string_bytes c.args.self.now _ (lines.Begin c.args.writer) (call.Begin c.args.writer (index_in c.args.self.now.begun c.args.writer)) (λ trx. answers.Begin trx) c.begin-called.result _ c.answered.result (λ es m. m) c.begin-called.ensures (λ trx is happened. c.in_ok-text.ensures trx (ap (λ (s : State). least_unused (donor_of s.donor).active) c.self.view_is ∙ (made_step _ _ _ _ happened).1.0)) c.answered.ensures.ok

pub returns-clause-err : goal.returns-clause-err
returns-clause-err g c = call_breaks c.args.self.now _ (lines.Begin c.args.writer) (call.Begin c.args.writer (index_in c.args.self.now.begun c.args.writer)) (λ trx. answers.Begin trx) c.begin-called.result c.answered.result (λ cause. tt) c.begin-called.ensures c.answered.ensures.err
