use Rattle.std.proofs.Common.{◌≡◌}
use Rattle.clone_model.specs.Room.{kept}
use Rattle.clone_increment.proofs.LayLemmas.{HasRoomBut}
use Rattle.clone_increment.proofs.page_map.make_room.Given as goal

abbrev pub invariant-loop-place : goal.invariant-loop-place
invariant-loop-place l = (kept l.slots.entries ≡ kept l.fn.slots.entries) × HasRoomBut l.place-iterator l.slots l.others
