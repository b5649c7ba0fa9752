use Rattle.clone_lay.proofs.PageLemmas.{pages_mark, pages_more, pages_others, pages_place, room_place}
use Rattle.clone_lay.proofs.RoomLemmas.{room_unseen}
use Rattle.clone_lay.proofs.laws.laid_laws.Goals as goal

pub returns : goal.returns
returns c = record { pages = pages_place; room = room_place; unseen = λ m pages space number laid. room_unseen space number pages laid m; more = pages_more; others = pages_others; mark = pages_mark }
