use Rattle.std.proofs.Common.{◌∙◌, set, ap}
use Rattle.std.proofs.lemmas.List.{set-set}
use Rattle.clone_pool.specs.Tournament.{no_rank}
use Rattle.clone_pool.proofs.row.Row.set.Goals as goal

pub returns : goal.returns
returns c = c.join.ensures ∙ ap (λ rs. set rs c.args.at c.args.rank) c.leave.ensures ∙ set-set c.args.self.now c.args.at no_rank c.args.rank
