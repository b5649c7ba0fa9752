use Rattle.std.proofs.Common.{ap, ◌∙◌, ◌++◌, ◌∷◌, [], Some, None}
use Rattle.clone_turn.proofs.OpenLemmas.{opened}
use Rattle.clone_turn.proofs.raw.RawCell.new.Goals as goal

pub new-requires : goal.new-requires
new-requires g c =
    opened _ _ c.args.first _ (c.in_default.ensures.items ∙ ap (λ xs. xs ++ Some (c.args.first, None) ∷ []) c.new-slots.ensures.items) c.of-about.ensures
