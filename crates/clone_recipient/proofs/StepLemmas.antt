-- Pages that are laid one after the other, and rooms that are made.
use Rattle.std.proofs.Common.{◌≡◌, ◌∙◌, refl, ap, ◌<◌, ◌≤◌, ◌+◌, ◌∷◌, ◌++◌, [], ℕ, List, length, take, get_or, Option, None, Some, Result, Ok, Err, sym, subst}
use Rattle.std.specs.Prelude.{OnErr, option_map}
use Rattle.std.proofs.lemmas.List.{map_more, take_all}
use Rattle.clone_outside.specs.Disk.{DiskImage, Steps}
use Rattle.clone_chunk.specs.declared.spaces.SpaceSize.{SpaceSize}
use Rattle.clone_lay.specs.Laid as lay
use Rattle.clone_lay.specs.Laid.{laid_page, laid_pages, with_room}
use Rattle.clone_accepted.specs.Disk.{with_rooms}
use Rattle.clone_marks.specs.Counts.{pairs_of}
use Rattle.clone_page.specs.declared.pages.PageAt.{PageAt}
use Rattle.clone_recipient.specs.Taking.{laid_at}

steps_then : (told mid now : Option DiskImage) (first second both : DiskImage → DiskImage) → ((m : DiskImage) → second (first m) ≡ both m) → Steps told mid first → Steps mid now second → Steps told now both
steps_then told mid now first second both same one two = two ∙ ap (option_map second) one ∙ at told
  where
    at : (o : Option DiskImage) → option_map second (option_map first o) ≡ option_map both o
    at None = refl
    at (Some m) = ap (λ (n : DiskImage). Some n) (same m)

pub steps_none : (told : Option DiskImage) → Steps told told (λ m. m)
steps_none None = refl
steps_none (Some m) = refl

laid_more : (pages : List lay.PageAt) (p : lay.PageAt) (m : DiskImage) → laid_page p.space p.number p.bytes (laid_pages pages m) ≡ laid_pages (pages ++ p ∷ []) m
laid_more [] p m = refl
laid_more (q ∷ qs) p m = laid_more qs p (laid_page q.space q.number q.bytes m)

rooms_more : (spaces : List (ℕ × ℕ)) (space : ℕ × ℕ) (m : DiskImage) → with_room space.0 space.1 (with_rooms spaces m) ≡ with_rooms (spaces ++ space ∷ []) m
rooms_more [] space m = refl
rooms_more (s ∷ ss) space m = rooms_more ss space (with_room s.0 s.1 m)

abbrev laid_from : PageAt → lay.PageAt
laid_from p = record { space = p.space; number = p.number; bytes = p.page }

-- one page more is laid
pub pages_go_on : (pages : List PageAt) (k : ℕ) (p : PageAt) (bytes : List ℕ) (told mid now : Option DiskImage) → k < length pages → p ≡ get_or pages k p → bytes ≡ p.page
    → Steps told mid (laid_pages (laid_at (take k pages))) → Steps mid now (laid_page p.space p.number bytes) → Steps told now (laid_pages (laid_at (take (k + 1) pages)))
pages_go_on pages k p bytes told mid now within is same laid steps =
    let before : List lay.PageAt = laid_at (take k pages) in
    let more : laid_at (take (k + 1) pages) ≡ before ++ laid_from p ∷ [] = map_more laid_from pages k p within ∙ ap (λ (q : PageAt). before ++ laid_from q ∷ []) (sym is) in
    subst (λ (ps : List lay.PageAt). Steps told now (laid_pages ps)) (sym more)
    (steps_then told mid now (laid_pages before) _ (laid_pages (before ++ laid_from p ∷ [])) (laid_more before (laid_from p)) laid
    (subst (λ (bytes : List ℕ). Steps mid now (laid_page p.space p.number bytes)) same steps))

pub pages_end : (pages : List PageAt) (k : ℕ) (told now : Option DiskImage) → length pages ≤ k → Steps told now (laid_pages (laid_at (take k pages))) → Steps told now (laid_pages (laid_at pages))
pages_end pages k told now all laid = subst (λ (ps : List PageAt). Steps told now (laid_pages (laid_at ps))) (take_all k pages all) laid

-- one room more is made
pub rooms_go_on : (spaces : List SpaceSize) (k : ℕ) (d : SpaceSize) (told mid now : Option DiskImage) → k < length spaces → Steps told mid (with_rooms (pairs_of (take k spaces)))
    → Steps mid now (with_room (get_or spaces k d).space (get_or spaces k d).pages) → Steps told now (with_rooms (pairs_of (take (k + 1) spaces)))
rooms_go_on spaces k d told mid now within made steps =
    let before : List (ℕ × ℕ) = pairs_of (take k spaces) in
    let next : ℕ × ℕ = ((get_or spaces k d).space, (get_or spaces k d).pages) in
    let more : pairs_of (take (k + 1) spaces) ≡ before ++ next ∷ [] = map_more (λ (s : SpaceSize). (s.space, s.pages)) spaces k d within in
    subst (λ (ss : List (ℕ × ℕ)). Steps told now (with_rooms ss)) (sym more)
    (steps_then told mid now (with_rooms before) _ (with_rooms (before ++ next ∷ [])) (rooms_more before next) made steps)

pub rooms_end : (spaces : List SpaceSize) (k : ℕ) (told now : Option DiskImage) → length spaces ≤ k → Steps told now (with_rooms (pairs_of (take k spaces))) → Steps told now (with_rooms (pairs_of spaces))
rooms_end spaces k told now all made = subst (λ (ss : List SpaceSize). Steps told now (with_rooms (pairs_of ss))) (take_all k spaces all) made

-- what holds, holds of an error
pub on_err : {X E : Type 0} {P : Type 0} (result : Result X E) → P → OnErr result P
on_err (Ok x) holds = tt
on_err (Err e) holds = holds
