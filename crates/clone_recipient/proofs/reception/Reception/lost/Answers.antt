use Rattle.clone_recipient.proofs.CountLemmas.{lost_counted}
use Rattle.clone_recipient.proofs.reception.Reception.lost.Goals as goal

pub invariant_of-self : goal.invariant_of-self
invariant_of-self c = (c.self.invariant.0, lost_counted _ _ c.args.incarnation c.lost.ensures.table c.self.invariant.1)
