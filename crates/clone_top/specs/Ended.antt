-- How a run over the lines of a script ended.
use Rattle.std.specs.Prelude.{◌≡◌, ◌⊎◌, List}
use Rattle.clone_outside.specs.Causes.{Rose}
use Rattle.clone_script.specs.declared.lines.Line.{Line}
use Rattle.clone_core.specs.Lines.{State}
use Rattle.clone_core.specs.Ending.{ending_of}
use Rattle.clone_core.specs.declared.world.Ending.TheVariants as ending
use Rattle.clone_top.specs.Carrying.{Finished, Stopped}
use Rattle.clone_top.specs.Ends.{End}
use Rattle.clone_top.specs.declared.status.Status.{Status}
use Rattle.clone_top.specs.declared.status.Status.TheVariants.{Done, Memory, SinkFault, RecipientFault, RestartsSpent, Garbled, Refused}

-- All lines were carried out, and the clone ended well, by a fault of the recipient's disk, by more
-- losses than the limit, by bytes that are no frame, or by a refusal of the donor; or memory ran
-- out; or a sink failed.
abbrev pub EndsLines : List Line → State → State → End → End → End → End → Status → Type 0
EndsLines lines first left out out_new binlog binlog_new Done =
    Finished lines first left out.told out_new.told binlog.told binlog_new.told
    × (ending_of left.clone ≡ ending.Well)
EndsLines lines first left out out_new binlog binlog_new RecipientFault =
    Finished lines first left out.told out_new.told binlog.told binlog_new.told
    × (ending_of left.clone ≡ ending.RecipientFault)
EndsLines lines first left out out_new binlog binlog_new RestartsSpent =
    Finished lines first left out.told out_new.told binlog.told binlog_new.told
    × (ending_of left.clone ≡ ending.RestartsSpent)
EndsLines lines first left out out_new binlog binlog_new Garbled =
    Finished lines first left out.told out_new.told binlog.told binlog_new.told
    × (ending_of left.clone ≡ ending.Garbled)
EndsLines lines first left out out_new binlog binlog_new Refused =
    Finished lines first left out.told out_new.told binlog.told binlog_new.told
    × (ending_of left.clone ≡ ending.Refused)
EndsLines lines first left out out_new binlog binlog_new Memory =
    Stopped lines first left out.told out_new.told binlog.told binlog_new.told
EndsLines lines first left out out_new binlog binlog_new SinkFault =
    (Rose out.faults out_new.faults ⊎ Rose binlog.faults binlog_new.faults)
    × Stopped lines first left out.told out_new.told binlog.told binlog_new.told
EndsLines lines first left out out_new binlog binlog_new status = ⊥
