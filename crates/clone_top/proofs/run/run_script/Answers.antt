use Rattle.std.proofs.Common.{refl, ap, option_map}
use Rattle.clone_core.specs.Acting.{stop_of}
use Rattle.clone_top.proofs.OutcomeLemmas.{GivesBack, LawsFrom, PlainLaws, left_unbegun, lent, ran, same_disks}
use Rattle.clone_top.proofs.run.run_script.Goals as goal

pub returns-in-Err : goal.returns-in-Err
returns-in-Err g c = λ number before after read.
    let left = c.leave.ensures in
    left_unbegun _ _ _ _ _ _ _ _ c.in-Err.field-0.why c.say_unready.result _ left.status (same_disks _ _ _ _ left.donor left.recipient) read c.in-Err.ensures.why record { binlog = refl; drops = left.drops; stop = ap (option_map stop_of) left.stop } c.say_unready.ensures

pub returns : goal.returns
returns g c = λ number before after read.
    let law = c.run_laws.ensures in
    let first = c.in-Ok.world in
    let laws : LawsFrom first = record {
      plain = λ lines events t run. law.plain first lines events t run;
      breaks = λ s line t off. law.breaks s line t off;
      donor_orders = λ lines events t run. law.donor_orders first lines events t run;
      recipient_orders = λ lines events t run. law.recipient_orders first lines events t run;
      tells = λ lines events t run. law.tells first lines events t run;
      recipient_fault = λ lines events t run met. law.recipient_fault _ _ first lines events t c.in-Ok.ensures.new run met;
    } in
    let plain = c.run_laws-2.ensures in
    let plains : PlainLaws = record { commits = plain.commits; drops = plain.drops; sets = plain.sets; stop = plain.stop; followers = plain.followers; follows = plain.follows } in
    let gave = c.into_disks-donor.ensures in
    let gives : GivesBack _ c.run_lines-status.new.world = record { donor = gave.donor; recipient = gave.recipient; drops = gave.drops; stop = c.stop-stop.ensures; clone = c.laws.ensures } in
    ran _ _ _ _ _ _ _ first _ read record { new = c.in-Ok.ensures.new; empty = c.in-Ok.ensures.empty; donor = c.in-Ok.ensures.donor; recipient = c.in-Ok.ensures.recipient } laws plains gives _
    (lent _ _ _ _ _ _ _ _ _ c.deref.ensures.value c.run_lines-status.ensures)
