-- What a note makes of the state.
use Rattle.std.specs.Prelude.{◌&&◌, ◌++◌, ◌∷◌, []}
use Rattle.clone_image.specs.Image.{page_of}
use Rattle.clone_image.specs.Replay.{replayed}
use Rattle.clone_buffer.specs.ShadowState.{State, is_page}
use Rattle.clone_buffer.specs.declared.shadow.Note.{Note}
use Rattle.clone_buffer.specs.declared.shadow.Note.TheVariants as note

abbrev pub noted : State → Note → State
noted s (note.Read space number page) = record s {
  right = s.right && is_page page.now (page_of (replayed s.log) space number);
}
noted s (note.Wrote records) = record s { log = s.log ++ records.now ∷ [] }
