use Rattle.std.proofs.Common.{ap, ◌∙◌, is_some, rules}
use Rattle.clone_outside.specs.Mark.{mark_bytes}
use Rattle.clone_outside.specs.declared.mark.Mark.TheVariants as mark
use Rattle.clone_outside.proofs.DiskCallLemmas.{takes_work}
use Rattle.clone_recover.specs.Written.{written_out}
use Rattle.clone_recover.proofs.DiskStepLemmas.{then_marked, on_ok_known}
use Rattle.clone_recover.proofs.recovery.write_recovered.Goals as goal

pub returns-clause-ok : goal.returns-clause-ok
returns-clause-ok g c =
    on_ok_known c.sync-2.result
    (then_marked (g.R.PageDisk.state c.args.disk.now).told (g.R.PageDisk.state c.write_out.new.disk).told (g.R.PageDisk.state c.sync.new.self).told (g.R.PageDisk.state c.write_mark.new.self).told (g.R.PageDisk.state c.sync-2.new.self).told (written_out c.args.overlay.now) c.to_bytes.result (mark_bytes (mark.Recovered c.args.end.now))
    c.to_bytes.ensures c.in_ok-write_out.ensures.written c.in_ok-sync.ensures.syncs.told c.in_ok-write_mark.ensures.takes.done c.sync-2.ensures.syncs.told)

pub returns-in_err-write_mark-clause-works : goal.returns-in_err-write_mark-clause-works
returns-in_err-write_mark-clause-works g c = record {
  tells = (takes_work c.write_mark.result c.write_mark.ensures.takes).tells ∙ ap is_some c.sync.ensures.syncs.told ∙ c.write_out.ensures.works.tells;
  orders = search rules;
  later = search rules;
  fault = search rules;
}

pub returns-clause-works : goal.returns-clause-works
returns-clause-works g c = record {
  tells = ap is_some c.sync-2.ensures.syncs.told ∙ (takes_work c.write_mark.result c.write_mark.ensures.takes).tells ∙ ap is_some c.sync.ensures.syncs.told ∙ c.write_out.ensures.works.tells;
  orders = search rules;
  later = search rules;
  fault = search rules;
}
