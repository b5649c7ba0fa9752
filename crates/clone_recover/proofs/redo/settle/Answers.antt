use Rattle.clone_recover.proofs.RecordPageLemmas.{settled_now}
use Rattle.clone_recover.proofs.redo.settle.Goals as goal

pub returns-clause-met : goal.returns-clause-met
returns-clause-met c = settled_now c.args.space c.args.number c.args.meetings.now.items c.push.new.self.items c.args.older c.in_ok-push.ensures.items
