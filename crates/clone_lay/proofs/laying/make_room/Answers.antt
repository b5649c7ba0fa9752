use Rattle.std.proofs.Common.{refl}
use Rattle.clone_lay.proofs.SizeLemmas.{less_room, sizes_made, still_roomy}
use Rattle.clone_outside.proofs.ScopeLemmas.{same_but_order}
use Rattle.clone_outside.proofs.StopLemmas.{keeps_same}
use Rattle.clone_lay.proofs.laying.make_room.Goals as goal

pub returns-then-reaches-clause-ok : goal.returns-then-reaches-clause-ok
returns-then-reaches-clause-ok g c =
    still_roomy c.args.sizes.now c.args.space c.args.pages (g.R.PageDisk.state c.args.disk.now).told c.requires (c.if-reaches.ensures.0 refl)

pub returns-clause-sizes : goal.returns-clause-sizes
returns-clause-sizes g c =
    sizes_made c.args.sizes.now c.args.space c.args.pages c.insert.new.self (g.R.PageDisk.state c.args.disk.now).told (g.R.PageDisk.state c.grow.new.disk).told c.requires
    (less_room c.args.sizes.now c.args.space c.args.pages (λ room. let yes = c.if-reaches.ensures.1 room in cc))
    c.in_ok-insert.ensures.ok c.in_ok-grow.ensures.ok

pub returns-then-reaches-clause-stops : goal.returns-then-reaches-clause-stops
returns-then-reaches-clause-stops g c = keeps_same _ (same_but_order c.args.space) _ _ refl
