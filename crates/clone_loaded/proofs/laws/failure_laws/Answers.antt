use Rattle.std.proofs.Common.{◌≤◌, ap, arith, subst, sym}
use Rattle.clone_outside.specs.Causes.{Rose}
use Rattle.clone_hub.proofs.ShuffleLemmas.{made_of}
use Rattle.clone_fetching.specs.Recipients.{RecipientModel}
use Rattle.clone_machine.specs.Sharing.{SharedDonor}
use Rattle.clone_desk.specs.Desks.{DeskModel}
use Rattle.clone_recipient.specs.Receptions.{Reception}
use Rattle.clone_run.specs.Done.{served_from}
use Rattle.clone_loaded.proofs.LeftLemmas.{left_later, rose_between, set_up_later}
use Rattle.clone_loaded.proofs.laws.failure_laws.Goals as goal

pub returns : goal.returns
returns g c = λ session version load o d left disk disk_left given net_left s t begin ran leaves.
    let net = g.N.Net in
    let state = g.R.PageDisk.state in
    let jobs = served_from load 0 in
    let act = c.donor_laws.ensures.acts in
    record {
      donor = λ is. rose_between d.engine.disk.failures s.donor.donor.engine.disk.failures t.donor.donor.engine.disk.failures left.engine.disk.failures (set_up_later d s.donor.donor begin.tables act)
          (subst (λ (x : SharedDonor). Rose s.donor.donor.engine.disk.failures x.donor.engine.disk.failures) (sym ran.donor.end) (c.donor_laws.ensures.rose load jobs ran.parts o s.donor ran.donor.run ran.jobs ran.donor.legal (made_of ran.parts.donor ran.donor.run ran.donor.made) is))
          (left_later t.donor.donor.cloning.session t.donor.donor left leaves.donor_left act);
      recipient = λ is. rose_between disk.failures (state s.recipient.disk).failures (state t.recipient.disk).failures (state disk_left).failures begin.later
          (subst (λ (x : RecipientModel _). Rose (state s.recipient.disk).failures (state x.disk).failures) (sym ran.recipient.end) (c.recipient_laws.ensures.rose load jobs ran.parts o s.recipient ran.recipient.run ran.jobs ran.recipient.legal (made_of ran.parts.recipient ran.recipient.run ran.recipient.made) (ap (λ (r : Reception). r.table.ended) begin.begun) is))
          (subst (λ r. (state t.recipient.disk).failures ≤ (state r).failures) (sym leaves.disk_left) (omega arith));
      connection = λ is. rose_between (net.failures given) (net.failures s.desk.net) (net.failures t.desk.net) (net.failures net_left) (omega (arith, begin.plans.failures))
          (subst (λ (x : DeskModel _ _). Rose (net.failures s.desk.net) (net.failures x.net)) (sym ran.desk.end) (c.connection_laws.ensures.rose load jobs ran.parts o s.desk ran.desk.run ran.jobs ran.desk.legal (made_of ran.parts.desk ran.desk.run ran.desk.made) is)) leaves.failures;
    }
