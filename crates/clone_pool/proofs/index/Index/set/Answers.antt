use Rattle.std.proofs.Common.{◌∙◌, set, Some, None, sym, ap}
use Rattle.std.proofs.lemmas.List.{set-set}
use Rattle.clone_pool.specs.Index.{Names}
use Rattle.clone_pool.proofs.index.Index.set.Goals as goal

pub returns-in-Some : goal.returns-in-Some
returns-in-Some c =
    let at = c.args.at in
    c.link.ensures ∙ ap (λ (ns : Names). set ns at (Some c.in-Some.name)) c.unlink.ensures ∙ set-set c.args.self.now at None (Some c.in-Some.name) ∙ ap (set c.args.self.now at) (sym c.in-Some.is)
