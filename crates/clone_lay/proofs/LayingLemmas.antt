-- Room is made in a space of a disk, and then pages are written there, one after the other.
use Rattle.std.proofs.Common.{◌≡◌, ◌+◌, ◌<◌, ◌≤◌, ℕ, List, [], ◌∷◌, ◌++◌, length, None, Some, refl, sym, ap, ◌∙◌, arith, inl, inr}
use Rattle.std.specs.Prelude.{option_map}
use Rattle.std.specs.declared.option.Option.{Option}
use Rattle.clone_outside.specs.Disk.{DiskImage, Steps, extended, with_page, pages_in, whole, with_space, ChangesOnly, IsBeforeOrAfter}
use Rattle.clone_outside.specs.declared.disk.Held.{Held}
use Rattle.clone_lay.specs.Laid.{laid_over, laid_page, with_laid, with_room}
use Rattle.clone_outside.proofs.FaultLemmas.{changes_by, changes_none, space_changes}
use Rattle.clone_lay.proofs.LaidLemmas.{laid_in_room, laid_next, laid_none, length-extended}
use Rattle.clone_outside.proofs.SpaceLemmas.{page_given}

module _ (s first : ℕ) where
  -- pages that are laid in room that was made for them
  abbrev in_room : ℕ → List Held → DiskImage → DiskImage
  in_room count pages m = with_space s (laid_over first pages (extended count (pages_in m s))) m

  -- a disk of which the space has room, and has these of the pages
  abbrev pub HasLaid : ℕ → List Held → Option DiskImage → Option DiskImage → Type 0
  HasLaid count pages told now = Steps told now (in_room count pages)

  pub laid_begins : (told now : Option DiskImage) (count : ℕ) → first ≤ count → Steps told now (with_room s count) → HasLaid count [] told now
  laid_begins told now count within room = room ∙ at told
    where
      at : (o : Option DiskImage) → option_map (with_room s count) o ≡ option_map (in_room count []) o
      at None = refl
      at (Some m) =
          ap (λ (pages : List Held). Some (with_space s pages m))
          (sym (laid_none first (extended count (pages_in m s)) (omega (arith, length-extended count (pages_in m s)))))

  pub laid_goes_on : (told mid now : Option DiskImage) (count n : ℕ) (pages : List Held) (page : Held) → first + length pages ≡ n → n < count → HasLaid count pages told mid → Steps mid now (λ m. with_page m s n (λ _. page))
      → HasLaid count (pages ++ page ∷ []) told now
  laid_goes_on told mid now count n pages page is within has steps = steps ∙ ap (option_map (λ m. with_page m s n (λ _. page))) has ∙ at told
    where
      at : (o : Option DiskImage) → option_map (λ m. with_page m s n (λ _. page)) (option_map (in_room count pages) o) ≡ option_map (in_room count (pages ++ page ∷ [])) o
      at None = refl
      at (Some m) =
          ap (λ (x : DiskImage). Some x)
          (page_given m s n (laid_over first pages (extended count (pages_in m s))) (λ _. page)
          ∙ ap (λ (ps : List Held). with_space s ps m) (laid_next first n pages (extended count (pages_in m s)) page is (omega (arith, length-extended count (pages_in m s)))))

  pub laid_ends : (told now : Option DiskImage) (count : ℕ) (pages : List Held) → first + length pages ≡ count → HasLaid count pages told now → Steps told now (with_laid s first pages)
  laid_ends told now count pages is has = has ∙ at told
    where
      at : (o : Option DiskImage) → option_map (in_room count pages) o ≡ option_map (with_laid s first pages) o
      at None = refl
      at (Some m) = ap (λ (ps : List Held). Some (with_space s ps m)) (laid_in_room first count pages (pages_in m s) is)

  -- so far the space alone has changed
  pub laid_changes : (told now : Option DiskImage) (count : ℕ) (pages : List Held) → HasLaid count pages told now → ChangesOnly s told now
  laid_changes told now count pages has = changes_by s told now (in_room count pages) (λ m. space_changes s (laid_over first pages (extended count (pages_in m s))) m) has

-- one page is laid
pub page_laid : (told mid now : Option DiskImage) (s n : ℕ) (bytes : List ℕ) → Steps told mid (with_room s (n + 1)) → Steps mid now (λ m. with_page m s n (λ _. whole bytes)) → Steps told now (laid_page s n bytes)
page_laid told mid now s n bytes room write =
    laid_ends s n told now (n + 1) (whole bytes ∷ []) refl
    (laid_goes_on s n told mid now (n + 1) n [] (whole bytes) (omega arith) (omega arith) (laid_begins s n told mid (n + 1) (omega arith) room) write)

-- where room is made, the space alone changes
module _ (s : ℕ) where
  pub room_changes : (told now : Option DiskImage) (count : ℕ) → Steps told now (with_room s count) → ChangesOnly s told now
  room_changes told now count steps = changes_by s told now (with_room s count) (λ m. space_changes s (extended count (pages_in m s)) m) steps

  -- room was made, or not
  pub either_changes : (told now : Option DiskImage) (count : ℕ) → IsBeforeOrAfter told now (with_room s count) → ChangesOnly s told now
  either_changes told now count (inl same) = changes_none s told now same
  either_changes told now count (inr steps) = room_changes told now count steps
