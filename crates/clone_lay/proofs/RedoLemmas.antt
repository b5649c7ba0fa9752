-- The pages of redo bytes, as they are cut and as they are laid one after the other.
use Rattle.std.proofs.Common.{◌≡◌, ◌+◌, ◌-◌, ◌*◌, ◌<◌, ◌≤◌, ℕ, List, [], ◌∷◌, ◌++◌, length, take, drop, replicate, sym, ap, subst, ◌∙◌, arith, Option}
use Rattle.std.proofs.lemmas.List.{append-nil, length-take-le, take_all, take_more, take_rest}
use Rattle.std.proofs.lemmas.List.FromFn.{get_or-map-range_with_len, length-map-range_with_len}
use Rattle.clone_base.specs.declared.limits.TheConstants.{REDO_SPACE}
use Rattle.clone_outside.specs.Disk.{DiskImage, Steps, with_page, whole}
use Rattle.clone_outside.specs.declared.disk.Held.{Held}
use Rattle.clone_lay.specs.Laid.{with_laid}
use Rattle.clone_lay.specs.Redo.{filled, pages_for, redo_page, redo_pages}
use Rattle.clone_lay.proofs.LayingLemmas.{HasLaid, laid_ends, laid_goes_on}

-- How a page is cut.

filled_page : (xs : List ℕ) → length xs ≡ 4096 → filled xs ≡ xs
filled_page xs long =
    let none : 4096 - length xs ≡ 0 = omega (arith, long) in ap (λ (n : ℕ). xs ++ replicate n 0) none ∙ append-nil xs

module _ (redo : List ℕ) (number : ℕ) where
  abbrev rest : List ℕ
  rest = take (length redo - 4096 * number) (drop (4096 * number) redo)

  -- a page of which all bytes are redo
  pub full_page : (page : List ℕ) → 4096 ≤ length rest → page ≡ take 4096 rest → page ≡ redo_page redo number
  full_page page enough is =
      is ∙ sym (filled_page (take 4096 rest) (length-take-le 4096 rest enough)) ∙ ap (λ (xs : List ℕ). filled (take 4096 xs)) (take_rest redo (4096 * number))

  -- the last page
  pub last_page : length rest ≤ 4096 → filled rest ≡ redo_page redo number
  last_page few = ap filled (sym (take_all 4096 rest few)) ∙ ap (λ (xs : List ℕ). filled (take 4096 xs)) (take_rest redo (4096 * number))

-- How the pages are laid.

pub length-redo_pages : (redo : List ℕ) → length (redo_pages redo) ≡ pages_for (length redo)
length-redo_pages redo = length-map-range_with_len (λ k. whole (redo_page redo k)) 0 (pages_for (length redo))

module _ (redo : List ℕ) (first : ℕ) (told : Option DiskImage) where
  -- so many of the pages were laid
  abbrev pub HasPages : ℕ → Option DiskImage → Type 0
  HasPages k now = HasLaid REDO_SPACE first (first + pages_for (length redo)) (take k (redo_pages redo)) told now

  pub pages_go_on : (mid now : Option DiskImage) (k : ℕ) → k < pages_for (length redo) → HasPages k mid → Steps mid now (λ m. with_page m REDO_SPACE (first + k) (λ _. whole (redo_page redo k))) → HasPages (k + 1) now
  pages_go_on mid now k low has steps =
      subst (λ (pages : List Held). HasLaid REDO_SPACE first (first + pages_for (length redo)) pages told now) (sym more)
      (laid_goes_on REDO_SPACE first told mid now (first + pages_for (length redo)) (first + k) (take k (redo_pages redo)) (whole (redo_page redo k)) (omega (arith, length-take-le k (redo_pages redo) (omega (arith, long, low)))) (omega arith) has steps)
    where
      long : length (redo_pages redo) ≡ pages_for (length redo)
      long = length-redo_pages redo

      more : take (k + 1) (redo_pages redo) ≡ take k (redo_pages redo) ++ whole (redo_page redo k) ∷ []
      more =
          take_more (redo_pages redo) k (whole []) (omega (arith, long, low))
          ∙ ap (λ (page : Held). take k (redo_pages redo) ++ page ∷ [])
          (get_or-map-range_with_len (λ i. whole (redo_page redo i)) 0 (pages_for (length redo)) k k (whole []) low (omega arith))

  pub pages_end : (now : Option DiskImage) (k : ℕ) → k ≡ pages_for (length redo) → HasPages k now → Steps told now (with_laid REDO_SPACE first (redo_pages redo))
  pages_end now k all has =
      laid_ends REDO_SPACE first told now (first + pages_for (length redo)) (redo_pages redo) (omega (arith, length-redo_pages redo))
      (subst (λ (pages : List Held). HasLaid REDO_SPACE first (first + pages_for (length redo)) pages told now) (take_all k (redo_pages redo) (omega (arith, length-redo_pages redo, all))) has)
