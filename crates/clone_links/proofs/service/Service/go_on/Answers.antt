use Rattle.std.proofs.Common.{◌∙◌, sym, inl, inr}
use Rattle.clone_links.proofs.CauseLemmas.{step_loss}
use Rattle.clone_links.proofs.LoopLemmas.{step_lasts, step_turns}
use Rattle.clone_links.proofs.service.Service.go_on.Goals as goal

pub returns-in-Err-clause-ends : goal.returns-in-Err-clause-ends
returns-in-Err-clause-ends g c =
    step_lasts c.args.server.now c.step-says.new.self c.args.self.now.core c.step-says.new.core c.args.self.now.received.items c.step-says.new.received.items c.args.self.now.sent.items c.step-says.new.sent.items
    (g.L.Link.received c.args.link.now) (g.L.Link.received c.send_out.new.link) (g.L.Link.sent c.args.link.now) (g.L.Link.sent c.send_out.new.link) c.step-says.result
    c.requires.sent c.send_out.ensures.received c.step-says.ensures c.in-Err.end (inr c.in-Err.ensures.ends) c.send_out.ensures.some

pub returns-in-Some-clause-ends : goal.returns-in-Some-clause-ends
returns-in-Some-clause-ends g c =
    step_lasts c.args.server.now c.step-says.new.self c.args.self.now.core c.step-says.new.core c.args.self.now.received.items c.step-says.new.received.items c.args.self.now.sent.items c.step-says.new.sent.items
    (g.L.Link.received c.args.link.now) (g.L.Link.received c.send_out.new.link) (g.L.Link.sent c.args.link.now) (g.L.Link.sent c.send_out.new.link) c.step-says.result
    c.requires.sent c.send_out.ensures.received c.step-says.ensures c.in-Some.end (inl (sym c.after.ensures.ends ∙ c.in-Some.is)) c.send_out.ensures.some

pub returns-in-Some-clause-lost : goal.returns-in-Some-clause-lost
returns-in-Some-clause-lost g c =
    step_loss c.step-says.result c.in-Some.end (g.L.Link.failures c.args.link.now) (g.L.Link.failures c.send_out.new.link) (sym c.after.ensures.ends ∙ c.in-Some.is)

pub returns-in-None-clause-goes_on : goal.returns-in-None-clause-goes_on
returns-in-None-clause-goes_on g c =
    step_turns c.args.server.now c.step-says.new.self c.args.self.now.core c.step-says.new.core c.args.self.now.received.items c.step-says.new.received.items c.args.self.now.sent.items c.step-says.new.sent.items
    (g.L.Link.received c.args.link.now) (g.L.Link.received c.send_out.new.link) (g.L.Link.sent c.args.link.now) (g.L.Link.sent c.send_out.new.link) c.step-says.result
    c.requires.sent c.send_out.ensures.received c.step-says.ensures c.in-None.ensures.goes_on c.in_default-send_out.ensures.all
