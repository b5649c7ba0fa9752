use Rattle.std.proofs.Common.{sym}
use Rattle.clone_memdisk.proofs.ContainedLemmas.{contents_left, contents_removed, kept_taken, kept_tied, room_to_remove}
use Rattle.clone_memdisk.proofs.contents.Contents.remove.Goals as goal

pub note-requires : goal.note-requires
note-requires c = room_to_remove c.self.inside.image c.args.space _ c.self.inside.recording (sym c.in-Some.ensures) c.self.invariant

pub invariant_of-self : goal.invariant_of-self
invariant_of-self c = kept_taken c.self.inside.image c.remove.new.self c.args.space _ c.self.inside.recording c.note.new.recording (sym c.in-Some.ensures) c.remove.ensures c.self.invariant c.note.ensures

pub returns-in-Some-clause-removed : goal.returns-in-Some-clause-removed
returns-in-Some-clause-removed c =
    rw (← c.self.view_is) (contents_removed c.self.inside.image c.remove.new.self c.args.space _ c.self.inside.recording c.note.new.recording (sym c.in-Some.ensures) c.remove.ensures c.note.ensures)

pub returns-in-Some-clause-tied : goal.returns-in-Some-clause-tied
returns-in-Some-clause-tied c =
    kept_tied c.remove.new.self c.note.new.recording (kept_taken c.self.inside.image c.remove.new.self c.args.space _ c.self.inside.recording c.note.new.recording (sym c.in-Some.ensures) c.remove.ensures c.self.invariant c.note.ensures)

pub returns-in_default-clause-removed : goal.returns-in_default-clause-removed
returns-in_default-clause-removed c = rw (← c.self.view_is) (contents_left _ c.args.space (sym c.in_default.ensures))

pub returns-in_default-clause-tied : goal.returns-in_default-clause-tied
returns-in_default-clause-tied c = rw (← c.self.view_is) (kept_tied c.self.inside.image c.self.inside.recording c.self.invariant)
