use Rattle.std.proofs.Common.{refl, ap, ◌∙◌, inl, option_map, Err}
use Rattle.clone_core.specs.Acting.{stop_of}
use Rattle.clone_words.specs.declared.reading.WordsRefusal.{WordsRefusal}
use Rattle.clone_top.specs.Main.{commanded}
use Rattle.clone_top.specs.Status.{number_of}
use Rattle.clone_top.proofs.OutcomeLemmas.{no_command_read, same_disks}
use Rattle.clone_top.proofs.run.clone_main.Goals as goal

pub returns-in-Ok-clause-outcome : goal.returns-in-Ok-clause-outcome
returns-in-Ok-clause-outcome g c = rw c.hand_back.ensures (commanded c.in-Ok.ensures.line c.in-Ok.command c.in-Ok.ensures.command c.obey-left.result.0.status refl (c.obey-left.ensures.outcome (number_of c.obey-left.result.0.status)))

pub returns-in-Err-clause-outcome : goal.returns-in-Err-clause-outcome
returns-in-Err-clause-outcome g c =
    let left = c.leave.ensures in
    rw c.hand_back-in-Err.ensures (no_command_read _ _ _ _ _ _ _ _ _ _ c.in-Err.refusal c.say_no_command-status.result refl (ap number_of left.status) (λ is. c.parse.ensures.usage (c.in-Err.is ∙ ap (λ (r : WordsRefusal). Err r) is))
    record { source = refl; disks = same_disks _ _ _ _ left.donor left.recipient; alone = record { binlog = refl; drops = left.drops; stop = ap (option_map stop_of) left.stop } } c.say_no_command-status.ensures)

pub returns-in-Err-clause-source : goal.returns-in-Err-clause-source
returns-in-Err-clause-source g c = inl refl
