use Rattle.clone_run.specs.Ran.{GivenUp}
use Rattle.std.proofs.Common.{subst}
use Rattle.clone_run.proofs.RunLemmas.{closes_as}
use Rattle.clone_run.proofs.run.take_apart.Goals as goal

-- src/run.rt:199:1
pub returns-clause-left : goal.returns-clause-left
returns-clause-left g c = (
  record { donor = c.close.result; recipient = c.close-2.result; desk = c.close-3.result },
  closes_as _ _ _ _ _ _ c.team.view_is (record { donor = c.close.ensures; recipient = c.close-2.ensures; desk = c.close-3.ensures }),
  record {
    donor_left = subst (λ d. GivenUp d.cloning.session d c.without_session-donor.result) c.into_donor.ensures c.without_session-donor.ensures;
    disk_left = c.into_parts-reception.ensures.disk;
    settled = c.settle.ensures.settled;
    unsettled = c.settle.ensures.unsettled;
    planned = c.settle.ensures.planned;
    failures = c.settle.ensures.count;
  },
)
