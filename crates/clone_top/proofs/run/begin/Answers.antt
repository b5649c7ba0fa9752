use Rattle.clone_top.proofs.run.begin.Goals as goal

pub returns-clause-new : goal.returns-clause-new
returns-clause-new g c = c.new.ensures.new c.args.script.now.config c.in_ok-donor.ensures.new.engine
