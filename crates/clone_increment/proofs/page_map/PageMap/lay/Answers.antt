use Rattle.std.proofs.Common.{◌∙◌}
use Rattle.std.specs.FinMap as finite
use Rattle.clone_increment.specs.Copies.{is_within, laid}
use Rattle.clone_increment.proofs.SlotLemmas.{laid_over, room_left}
use Rattle.clone_increment.proofs.page_map.PageMap.lay.Goals as goal

pub write-requires : goal.write-requires
write-requires c = room_left c.make_room.new.slots c.keep.new.slots c.others.inside.slots (is_within c.args.stay.now) c.in_ok-make_room.ensures.room c.keep.ensures

pub returns-clause-ok : goal.returns-clause-ok
returns-clause-ok c =
    laid_over c.self.inside.slots c.keep.new.slots c.make_room.new.slots c.write.new.slots c.others.inside.slots (is_within c.args.stay.now) c.make_room.ensures.same c.keep.ensures c.write.ensures
    ∙ (λ i. laid (c.others.view_is i) (finite.retain_keys (c.self.view_is i) (is_within c.args.stay.now)))
