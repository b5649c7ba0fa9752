use Rattle.std.proofs.Common.{◌∙◌, ap, refl, subst, sym}
use Rattle.clone_outside.specs.Disk.{DiskImage}
use Rattle.clone_outside.proofs.FaultLemmas.{on_err_known}
use Rattle.clone_memdisk.specs.Changes.{entry_of}
use Rattle.clone_memdisk.specs.Contained.{IsKept, changed_by}
use Rattle.clone_memdisk.proofs.ContainedLemmas.{contents_changed, contents_same, kept_made, kept_roomier, kept_tied, room_for_one}
use Rattle.clone_memdisk.proofs.contents.Contents.change.Goals as goal

pub invariant_of-self : goal.invariant_of-self
invariant_of-self c = kept_roomier c.self.inside.image c.self.inside.recording c.make_room.new.recording c.self.invariant c.make_room.ensures.list

pub invariant_of-self-in_err-make : goal.invariant_of-self-in_err-make
invariant_of-self-in_err-make c =
    subst (λ (m : DiskImage). IsKept m c.make_room.new.recording) (sym c.in_err-make.ensures.err)
    (kept_roomier c.self.inside.image c.self.inside.recording c.make_room.new.recording c.self.invariant c.make_room.ensures.list)

pub note-requires : goal.note-requires
note-requires c = room_for_one c.len.result c.make_room.new.recording c.in_ok-make_room.ensures.room

pub invariant_of-self-2 : goal.invariant_of-self-2
invariant_of-self-2 c = kept_made (entry_of c.args.change.now) c.self.inside.image c.make.new.self c.self.inside.recording c.make_room.new.recording c.note.new.recording c.len.result c.in_ok-make.ensures.ok c.len.ensures.len c.self.invariant c.make_room.ensures.list c.in_ok-make_room.ensures.room c.note.ensures

pub returns-in_err-make_room-clause-err : goal.returns-in_err-make_room-clause-err
returns-in_err-make_room-clause-err c = on_err_known c.from_residual.result (contents_same c.self.inside.image c.self.inside.image c.self.inside.recording c.make_room.new.recording refl c.make_room.ensures.list ∙ c.self.view_is)

pub returns-in_err-make_room-clause-tied : goal.returns-in_err-make_room-clause-tied
returns-in_err-make_room-clause-tied c = kept_tied c.self.inside.image c.make_room.new.recording (kept_roomier c.self.inside.image c.self.inside.recording c.make_room.new.recording c.self.invariant c.make_room.ensures.list)

pub returns-in_err-make-clause-err : goal.returns-in_err-make-clause-err
returns-in_err-make-clause-err c = on_err_known c.from_residual-in_err-make.result (contents_same c.self.inside.image c.make.new.self c.self.inside.recording c.make_room.new.recording c.in_err-make.ensures.err c.make_room.ensures.list ∙ c.self.view_is)

pub returns-in_err-make-clause-tied : goal.returns-in_err-make-clause-tied
returns-in_err-make-clause-tied c =
    kept_tied c.make.new.self c.make_room.new.recording
    (subst (λ (m : DiskImage). IsKept m c.make_room.new.recording) (sym c.in_err-make.ensures.err)
    (kept_roomier c.self.inside.image c.self.inside.recording c.make_room.new.recording c.self.invariant c.make_room.ensures.list))

pub returns-clause-ok : goal.returns-clause-ok
returns-clause-ok c =
    contents_changed (entry_of c.args.change.now) c.self.inside.image c.make.new.self c.self.inside.recording c.make_room.new.recording c.note.new.recording c.in_ok-make.ensures.ok c.make_room.ensures.list c.note.ensures
    ∙ ap (changed_by (entry_of c.args.change.now)) c.self.view_is

pub returns-clause-tied : goal.returns-clause-tied
returns-clause-tied c =
    kept_tied c.make.new.self c.note.new.recording
    (kept_made (entry_of c.args.change.now) c.self.inside.image c.make.new.self c.self.inside.recording c.make_room.new.recording c.note.new.recording c.len.result c.in_ok-make.ensures.ok c.len.ensures.len c.self.invariant c.make_room.ensures.list c.in_ok-make_room.ensures.room c.note.ensures)
