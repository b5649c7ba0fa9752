-- A page is written in two halves.
use Rattle.std.proofs.Common.{◌≡◌, ℕ, zero, suc, List, [], ◌∷◌, ◌++◌, length, take, drop, refl, sym, ap, ◌∙◌, arith, None, Some}
use Rattle.std.specs.Prelude.{option_map}
use Rattle.std.specs.declared.option.Option.{Option}
use Rattle.std.specs.FinMap as finite
use Rattle.std.proofs.lemmas.List.{length-take-le, take-append-drop, take_at}
use Rattle.clone_outside.specs.Disk.{DiskImage, Steps, changed, with_page, edited, half_written, rest_written, whole, with_space}
use Rattle.clone_outside.specs.declared.disk.Held.{Held}
use Rattle.clone_outside.specs.declared.disk.TheConstants.{HALF_PAGE}
use Rattle.clone_outside.proofs.SpaceLemmas.{get_here, given_twice}

halves_join : (page : List ℕ) (held : Held) → length page ≡ 4096 → rest_written page (half_written page held) ≡ whole page
halves_join page held long =
    ap whole
    (ap (λ xs. xs ++ drop HALF_PAGE page) (take_at (take HALF_PAGE page) (drop HALF_PAGE held.bytes) HALF_PAGE (length-take-le HALF_PAGE page (omega (arith, long))))
    ∙ take-append-drop HALF_PAGE page)

edited_twice : (pages : List Held) (n : ℕ) (f g : Held → Held) (w : Held) → ((h : Held) → g (f h) ≡ w) → edited n g (edited n f pages) ≡ edited n (λ _. w) pages
edited_twice [] n f g w is = refl
edited_twice (p ∷ pages) zero f g w is = ap (λ h. h ∷ pages) (is p)
edited_twice (p ∷ pages) (suc n) f g w is = ap (λ hs. p ∷ hs) (edited_twice pages n f g w is)

written_twice : (m : DiskImage) (s n : ℕ) (f g : Held → Held) (w : Held) → ((h : Held) → g (f h) ≡ w) → with_page (with_page m s n f) s n g ≡ with_page m s n (λ _. w)
written_twice m s n f g w is = at (finite.get m.spaces s) refl
  where
    at : (o : Option (List Held)) → finite.get m.spaces s ≡ o → with_page (with_page m s n f) s n g ≡ with_page m s n (λ _. w)
    at None none =
        let same : with_page m s n f ≡ m = ap (λ (x : Option (List Held)). record m { spaces = changed m.spaces s (edited n f) x }) none in
        ap (λ (x : DiskImage). with_page x s n g) same
        ∙ ap (λ (x : Option (List Held)). record m { spaces = changed m.spaces s (edited n g) x }) none
        ∙ sym (ap (λ (x : Option (List Held)). record m { spaces = changed m.spaces s (edited n (λ _. w)) x }) none)
    at (Some pages) some =
        let one : with_page m s n f ≡ with_space s (edited n f pages) m = ap (λ (x : Option (List Held)). record m { spaces = changed m.spaces s (edited n f) x }) some in
        ap (λ (x : DiskImage). with_page x s n g) one
        ∙ ap (λ (x : Option (List Held)). record m { spaces = changed (with_space s (edited n f pages) m).spaces s (edited n g) x }) (get_here m s (edited n f pages))
        ∙ given_twice m s (edited n f pages) (edited n g (edited n f pages))
        ∙ ap (λ (ps : List Held). with_space s ps m) (edited_twice pages n f g w is)
        ∙ sym (ap (λ (x : Option (List Held)). record m { spaces = changed m.spaces s (edited n (λ _. w)) x }) some)

-- both halves of a page were written
pub whole_by_halves : (told mid now : Option DiskImage) (s n : ℕ) (page : List ℕ) → length page ≡ 4096 → Steps told mid (λ m. with_page m s n (half_written page)) → Steps mid now (λ m. with_page m s n (rest_written page))
    → Steps told now (λ m. with_page m s n (λ _. whole page))
whole_by_halves told mid now s n page long half rest = rest ∙ ap (option_map (λ m. with_page m s n (rest_written page))) half ∙ at told
  where
    at : (o : Option DiskImage) → option_map (λ m. with_page m s n (rest_written page)) (option_map (λ m. with_page m s n (half_written page)) o) ≡ option_map (λ m. with_page m s n (λ _. whole page)) o
    at None = refl
    at (Some m) = ap (λ k. Some k) (written_twice m s n (half_written page) (rest_written page) (whole page) (λ held. halves_join page held long))
