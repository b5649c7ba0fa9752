use Rattle.clone_memlink.proofs.ConnectionLemmas.{inserted_cut}
use Rattle.clone_memlink.proofs.mem_net.plan_cut.Goals as goal

pub returns-clause-ok : goal.returns-clause-ok
returns-clause-ok c = inserted_cut c.args.cuts.now c.insert.new.self c.args.number c.args.cut c.in_ok-insert.ensures.updates
