-- What is laid leaves the mark of the disk.
use Rattle.std.proofs.Common.{◌≡◌, ◌∙◌, inl, inr, refl, ap, sym, ℕ, List, [], ◌∷◌, Option, None, Some, is_some}
use Rattle.std.specs.Prelude.{option_map}
use Rattle.std.proofs.lemmas.Bool.{false≢true}
use Rattle.clone_outside.specs.Disk.{DiskImage, ChangesOnly, IsBeforeOrAfter, Steps}
use Rattle.clone_lay.specs.Laid as lay
use Rattle.clone_lay.specs.Laid.{laid_page, laid_pages, with_room}
use Rattle.clone_accepted.specs.Disk.{with_rooms}
use Rattle.clone_recipient.specs.Taking.{KeepsMark}

pub pages_mark : (pages : List lay.PageAt) (m : DiskImage) → (laid_pages pages m).mark ≡ m.mark
pages_mark [] m = refl
pages_mark (p ∷ ps) m = pages_mark ps (laid_page p.space p.number p.bytes m)

pub rooms_mark : (spaces : List (ℕ × ℕ)) (m : DiskImage) → (with_rooms spaces m).mark ≡ m.mark
rooms_mark [] m = refl
rooms_mark (s ∷ ss) m = rooms_mark ss (with_room s.0 s.1 m)

-- a step that leaves the mark
pub step_mark : (told now : Option DiskImage) (step : DiskImage → DiskImage) → ((m : DiskImage) → (step m).mark ≡ m.mark) → Steps told now step → KeepsMark told now
step_mark told now step same is = ap (option_map (λ m. m.mark)) is ∙ at told
  where
    at : (o : Option DiskImage) → option_map (λ m. m.mark) (option_map step o) ≡ option_map (λ m. m.mark) o
    at None = refl
    at (Some m) = ap Some (same m)

pub room_mark : (told now : Option DiskImage) (space count : ℕ) → IsBeforeOrAfter told now (with_room space count) → KeepsMark told now
room_mark told now space count (inl same) = ap (option_map (λ m. m.mark)) same
room_mark told now space count (inr made) = step_mark told now (with_room space count) (λ m. refl) made

-- a change of one space
pub space_mark : (space : ℕ) (told now : Option DiskImage) → is_some now ≡ is_some told → ChangesOnly space told now → KeepsMark told now
space_mark space None None tells only = refl
space_mark space None (Some n) tells only = absurd (false≢true (sym tells))
space_mark space (Some m) None tells only = absurd only
space_mark space (Some m) (Some n) tells only = ap Some only.mark
