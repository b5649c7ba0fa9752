use Rattle.std.proofs.Common.{arith, refl, ap, ◌∙◌, option_map}
use Rattle.clone_plain.specs.Donor as plain
use Rattle.clone_sides.specs.Moment.{own_stop}
use Rattle.clone_joined.specs.Runs.{IsFresh}
use Rattle.clone_run.specs.declared.run.TheConstants.{SESSION, VERSION}
use Rattle.clone_core.specs.Acting.{stop_of}
use Rattle.clone_top.proofs.LoadLemmas.{loaded, shows_first, unopened}
use Rattle.clone_top.proofs.OutcomeLemmas.{same_disks}
use Rattle.clone_top.proofs.load.run_load.Goals as goal

pub returns-in-Err : goal.returns-in-Err
returns-in-Err g c = λ number source.
    let left = c.leave.ensures in
    unopened _ _ _ _ _ _ _ _ _ _ _ c.in-Err.field-0.why c.say_unready.result _ left.status (same_disks _ _ _ _ left.donor left.recipient) record { binlog = refl; drops = left.drops; stop = ap (option_map stop_of) left.stop } refl c.in-Err.ensures.why c.say_unready.ensures

pub returns : goal.returns
returns g c = λ number source.
    let left = c.leave-2.ensures in
    let jobs = c.clone_under_load-outcome in
    loaded _ _ _ _ _ _ _ _ _ _ _ c.in-Ok.begun.donor _ jobs.result.outcome jobs.result.donor jobs.result.recipient c.load_of-load.result c.config_of.result _ c.conclude-status.result _
    c.in-Ok.ensures.empty c.in-Ok.ensures.new c.config_of.ensures.config c.in-Ok.ensures.donor c.in-Ok.ensures.recipient c.load_of-load.ensures.load jobs.ensures.ran
    (λ s t begin ran leaves.
    let load = c.load_of-load.result in
    let o = jobs.result.outcome in
    let fresh : IsFresh SESSION c.in-Ok.begun.donor = record { donor = c.laws.ensures.donor; taken = c.in-Ok.ensures.new.taken; session = c.in-Ok.ensures.new.session; stop = ap (own_stop SESSION) c.in-Ok.ensures.new.stop } in
    let commits = c.moment_laws.ensures.commits SESSION VERSION load o c.in-Ok.begun.donor jobs.result.donor _ jobs.result.recipient _ jobs.result.net s t (ap (λ (d : plain.Donor). d.binlog) c.in-Ok.ensures.new.engine.donor) begin ran leaves in (
      commits.0,
      commits.1,
      (λ tells telling cl is.
          let moment = c.moment_laws.ensures.moment SESSION VERSION load o c.in-Ok.begun.donor jobs.result.donor _ jobs.result.recipient _ jobs.result.net s t cl (omega arith) c.load_of-load.ensures.within fresh telling begin ran leaves tells is in
          (moment, shows_first cl jobs.result.donor _ c.holds_laws.ensures.listed moment)),
      c.failure_laws.ensures SESSION VERSION load o c.in-Ok.begun.donor jobs.result.donor _ jobs.result.recipient _ jobs.result.net s t begin ran leaves,
    ))
    jobs.ensures.unstarted jobs.ensures.thread
    (c.conclude-status.ensures source) c.binlog.ensures left.status left.recipient (left.donor ∙ c.into_disk-donor.ensures.disk) left.drops (ap (option_map stop_of) left.stop)
