use Rattle.clone_outside.specs.Mark.{end_bytes}
use Rattle.clone_outside.specs.Scopes.{OnlyMark}
use Rattle.clone_outside.proofs.StopLemmas.{keeps_settled, keeps_then, keeps_weaker}
use Rattle.clone_lay.specs.Copying.{StaysInCopy}
use Rattle.clone_lay.proofs.CopyLemmas.{in_copy_order, numbers_in_copy}
use Rattle.clone_lay.proofs.marking.write_numbers.Goals as goal

pub returns-in_err-sync-clause-stops : goal.returns-in_err-sync-clause-stops
returns-in_err-sync-clause-stops g c = keeps_settled (StaysInCopy c.args.end.now) (in_copy_order c.args.end.now) c.sync.result (g.R.PageDisk.state c.args.disk.now) (g.R.PageDisk.state c.sync.new.self) c.sync.ensures.syncs.stops

pub returns-clause-stops : goal.returns-clause-stops
returns-clause-stops g c =
    keeps_then (StaysInCopy c.args.end.now) (in_copy_order c.args.end.now) _ _ _
    (keeps_settled (StaysInCopy c.args.end.now) (in_copy_order c.args.end.now) c.sync.result (g.R.PageDisk.state c.args.disk.now) (g.R.PageDisk.state c.sync.new.self) c.sync.ensures.syncs.stops)
    (keeps_weaker (OnlyMark (end_bytes 1 c.args.end.now)) (StaysInCopy c.args.end.now) _ _ c.write_mark.ensures.stops (numbers_in_copy c.args.end.now))
