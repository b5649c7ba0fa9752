use Rattle.std.proofs.Common.{◌≤◌, [], false}
use Rattle.clone_run.specs.declared.run.TheConstants.{SESSION}
use Rattle.std.proofs.Common.{◌∙◌, refl, subst, sym}
use Rattle.clone_outside.specs.Disk.{Steps as Follows}
use Rattle.clone_outside.specs.declared.mark.Mark.TheVariants.{InProgress}
use Rattle.clone_lay.specs.Marked.{marked}
use Rattle.clone_run.proofs.RunLemmas.{begun_as}
use Rattle.clone_run.proofs.run.begin.Goals as goal

-- src/run.rt:87:1
pub returns-clause-begun : goal.returns-clause-begun
returns-clause-begun g c =
    begun_as _ c.args.load c.assemble.result
    (record { donor = record { donor = c.make_tables.new.donor; halted = false }; recipient = c.new-recipient.result; desk = record { net = c.plan_cuts.new.self; records = [] } })
    (record {
      tables = c.make_tables.ensures.sets_up;
      goes_on = refl;
      empty = c.in-Ok.ensures.empty;
      begun = c.new-recipient.ensures.reception ∙ c.in-Ok.ensures.begun;
      in_progress = subst (λ d. Follows (g.R.PageDisk.state c.args.recipient).told (g.R.PageDisk.state d).told (marked (InProgress SESSION))) (sym c.new-recipient.ensures.disk) c.in-Ok.ensures.marked;
      later = subst (λ d. (g.R.PageDisk.state c.args.recipient).failures ≤ (g.R.PageDisk.state d).failures) (sym c.new-recipient.ensures.disk) c.in-Ok.ensures.works.later;
      stands = c.new-recipient.ensures.given_up;
      none = refl;
      plans = record { planned = c.plan_cuts.ensures.planned; unsettled = c.plan_cuts.ensures.unsettled; failures = c.plan_cuts.ensures.count };
    })
    c.assemble.ensures.assembled
