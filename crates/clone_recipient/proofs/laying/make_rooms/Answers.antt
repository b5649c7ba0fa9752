use Rattle.std.proofs.Common.{◌∙◌, take}
use Rattle.clone_outside.proofs.DiskCallLemmas.{works_none, works_then}
use Rattle.clone_outside.proofs.FaultLemmas.{on_err_known}
use Rattle.clone_marks.specs.Counts.{pairs_of}
use Rattle.clone_recipient.proofs.MarkLemmas.{room_mark, rooms_mark, step_mark}
use Rattle.clone_recipient.proofs.StepLemmas.{rooms_end, rooms_go_on, steps_none}
use Rattle.clone_recipient.proofs.laying.make_rooms.Goals as goal

pub loop-space-init : goal.loop-space-init
loop-space-init g c =
    let told = (g.R.PageDisk.state c.args.disk.now).told in
    record { made = steps_none told; sizes = c.requires; works = works_none }

pub loop-space-preserved : goal.loop-space-preserved
loop-space-preserved g c =
    let told = (g.R.PageDisk.state c.args.disk.now).told in
    let mid = (g.R.PageDisk.state c.loop-space.disk).told in
    let now = (g.R.PageDisk.state c.make_room.new.disk).told in
    let i = c.loop-space.invariant in
    let e = c.in_ok-make_room.ensures in
    record {
      made = rooms_go_on c.args.spaces.now c.loop-space.space-index _ told mid now c.loop-space-test.true i.made e.ok;
      sizes = e.sizes;
      works = works_then i.works e.works;
    }

pub returns-clause-ok : goal.returns-clause-ok
returns-clause-ok g c = rooms_end c.args.spaces.now c.loop-space.space-index _ _ c.loop-space-test.false c.loop-space.invariant.made

pub returns-in_err-make_room-clause-mark : goal.returns-in_err-make_room-clause-mark
returns-in_err-make_room-clause-mark g c =
    let told = (g.R.PageDisk.state c.args.disk.now).told in
    let mid = (g.R.PageDisk.state c.loop-space.disk).told in
    let now = (g.R.PageDisk.state c.make_room.new.disk).told in
    on_err_known c.from_residual.result (
    room_mark mid now _ _ c.in_err-make_room.ensures.partial
    ∙ step_mark told mid _ (rooms_mark (pairs_of (take c.loop-space.space-index c.args.spaces.now))) c.loop-space.invariant.made)
