use Rattle.std.proofs.Common.{◌+◌, ◌++◌, length, ap, ◌∙◌, codes, decimal, string_bytes}
use Rattle.clone_script.specs.declared.lines.Line.TheVariants as lines
use Rattle.clone_core.specs.System.{donor_of}
use Rattle.clone_core.specs.Lines.{State}
use Rattle.clone_core.proofs.LineLemmas.{same_breaks}
use Rattle.clone_core.proofs.SetLemmas.{set_answers, set_breaks}
use Rattle.clone_core.proofs.world.World.set_line.Goals as goal

pub returns-in_err-text-clause-err : goal.returns-in_err-text-clause-err
returns-in_err-text-clause-err g c = same_breaks c.args.self.now (lines.Set c.args.writer c.args.table c.args.key c.args.value.now) c.from_residual.result

pub returns-clause-ok : goal.returns-clause-ok
returns-clause-ok g c =
    let told = c.in_ok-text.ensures ∙ ap (λ (s : State). codes "committed " ++ decimal (length (donor_of s.donor).binlog + 1)) c.self.view_is in
    set_answers string_bytes _ _ _ _ _ _ c.set-called.result _ c.answered.result c.set-called.ensures told c.answered.ensures.ok

pub returns-clause-err : goal.returns-clause-err
returns-clause-err g c = set_breaks _ _ _ _ _ _ c.set-called.result c.answered.result c.set-called.ensures c.answered.ensures.err
