use Rattle.std.proofs.Common.{ap, sym}
use Rattle.clone_memlink.specs.Nets.{NetModel}
use Rattle.clone_memlink.proofs.ConnectionLemmas.{made_last, made_before}
use Rattle.clone_memlink.proofs.mem_net.MemNetNet.pair.Goals as goal

pub returns-clause-made : goal.returns-clause-made
returns-clause-made g c =
    made_last _ c.self.inside.made.items c.push.new.self.items c.name.result c.args.self.now.made _ c.in_ok-push.ensures.items (ap (λ (n : NetModel). n.made) c.self.view_is) (sym c.name.ensures)

pub returns-clause-keeps : goal.returns-clause-keeps
returns-clause-keeps g c n made =
    made_before _ c.self.inside.made.items c.push.new.self.items c.name.result c.args.self.now.made n c.in_ok-push.ensures.items (ap (λ (n : NetModel). n.made) c.self.view_is) made
