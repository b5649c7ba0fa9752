use Rattle.clone_recipient.proofs.CountLemmas.{sent_counted}
use Rattle.clone_recipient.proofs.reception.Reception.next_send.Goals as goal

pub invariant_of-self : goal.invariant_of-self
invariant_of-self c = (c.self.invariant.0, sent_counted c.next_send.result _ _ _ c.args.task c.args.floor c.next_send.ensures.table c.next_send.ensures.err c.self.invariant.1)
