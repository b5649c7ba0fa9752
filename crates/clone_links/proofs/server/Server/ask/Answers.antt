use Rattle.clone_links.proofs.LoopLemmas.{asked_fits, asked_one}
use Rattle.clone_links.proofs.server.Server.ask.Goals as goal

pub returns-clause-made : goal.returns-clause-made
returns-clause-made g c =
    asked_one c.args.self.now c.call.new.self c.args.call c.in-Donor.answer c.call.result c.in-Donor.is c.call.ensures.step c.call.ensures.made

pub returns-clause-fits : goal.returns-clause-fits
returns-clause-fits g c =
    asked_fits c.args.self.now c.call.new.self c.args.call c.in-Donor.answer c.call.result c.in-Donor.is c.call.ensures.step
