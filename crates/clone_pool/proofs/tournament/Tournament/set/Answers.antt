use Rattle.std.proofs.Common.{◌∙◌, List, set, ap}
use Rattle.std.proofs.lemmas.List.{drop-set-add}
use Rattle.clone_pool.specs.declared.tournament.Rank.{Rank}
use Rattle.clone_pool.proofs.tournament.Tournament.set.Goals as goal

pub invariant_of-self : goal.invariant_of-self
invariant_of-self c = record { long = c.rematch.ensures.long; matched = c.rematch.ensures.matched }

pub returns : goal.returns
returns c =
    let i = c.self.inside in
    c.rematch.ensures.leaves ∙ drop-set-add i.count i.nodes.items c.args.frame_number c.args.rank ∙ ap (λ (ranks : List Rank). set ranks c.args.frame_number c.args.rank) c.self.view_is
