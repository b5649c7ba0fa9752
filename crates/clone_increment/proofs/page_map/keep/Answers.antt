use Rattle.std.proofs.Common.{ℕ, ◌||◌, is_some, rules}
use Rattle.std.specs.FinMap as finite
use Rattle.std.proofs.lemmas.Map.Made.{filter_same_pairs}
use Rattle.clone_model.specs.Room.{kept}
use Rattle.clone_increment.specs.Copies.{is_within}
use Rattle.clone_increment.proofs.SlotLemmas.{get-kept}
use Rattle.clone_increment.proofs.page_map.keep.Goals as goal

pub returns : goal.returns
returns c =
    let stays : ℕ × ℕ → _ = λ q. is_within c.args.stay.now q || is_some (finite.get (kept c.args.others.now.entries) q) in
    get-kept c.args.slots.now c.retain.new.self stays (filter_same_pairs _ (λ e. stays e.0) _ (λ k v b w f' t. search rules) _ _ c.retain.ensures.filtered)
