-- The pages that a disk's image has are the disk's.
use Rattle.std.proofs.Common.{◌≡◌, ◌<◌, ℕ, zero, suc, List, [], ◌∷◌, length, map, get_or, refl, sym, ap, subst, ◌∙◌, arith, Bool, true, false, cond, Some, None}
use Rattle.std.specs.Prelude.{option_map, nat_lt, slice_get, IfSome, unwrap_or, option_and_then}
use Rattle.std.specs.declared.option.Option.{Option}
use Rattle.std.specs.FinMap as finite
use Rattle.std.specs.FinMap.{get-from_entries, get-entries, get-retain_keys}
use Rattle.std.specs.Cmp.{nat_cmp_total}
use Rattle.std.specs.Ordering.{nat_cmp, eq_by_cmp}
use Rattle.std.proofs.lemmas.List.{length-map}
use Rattle.std.proofs.lemmas.Map.Lookups.{exact_unsigned}
use Rattle.std.proofs.lemmas.Option.{slice_get-get_or}
use Rattle.clone_outside.specs.Disk as disk
use Rattle.clone_outside.specs.Disk.{DiskImage, GivesQuiet}
use Rattle.clone_outside.specs.declared.disk.Held.{Held}
use Rattle.clone_overlay.specs.Images.{redo_space, bytes_of, image_of, pages_in, IsQuiet}

abbrev Entry : Type 0
Entry = ℕ × List Held

seen : Entry → ℕ × List (List ℕ)
seen e = (e.0, bytes_of e.1)

chosen : (b : Bool) (pages : List Held) (o : Option (List Held)) → option_map bytes_of (cond b (Some pages) o) ≡ cond b (Some (bytes_of pages)) (option_map bytes_of o)
chosen true pages o = refl
chosen false pages o = refl

kept : (b : Bool) (o : Option (List Held)) → option_map bytes_of (cond b o None) ≡ cond b (option_map bytes_of o) None
kept true o = refl
kept false o = refl

find_seen : (es : List Entry) (s : ℕ) → finite.find nat_cmp s (map (λ e. (e.0, bytes_of e.1)) es) ≡ option_map bytes_of (finite.find nat_cmp s es)
find_seen [] s = refl
find_seen (e ∷ es) s = ap (cond (eq_by_cmp nat_cmp s e.0) (Some (bytes_of e.1))) (find_seen es s) ∙ sym (chosen (eq_by_cmp nat_cmp s e.0) e.1 (finite.find nat_cmp s es))

-- what the image of a disk has at a space
pub get_image : (m : DiskImage) (s : ℕ) → finite.get (image_of m) s ≡ cond (nat_lt s redo_space) (option_map bytes_of (finite.get m.spaces s)) None
get_image m s =
    let low = finite.retain_keys m.spaces (λ x. nat_lt x redo_space) in
    get-from_entries nat_cmp_total (map (λ e. (e.0, bytes_of e.1)) (finite.entries low)) s ∙ find_seen (finite.entries low) s
    ∙ ap (option_map bytes_of) (sym (get-entries low s) ∙ get-retain_keys m.spaces (λ x. nat_lt x redo_space) s (λ x e. ap (λ (k : ℕ). nat_lt k redo_space) (sym (exact_unsigned s x e))))
    ∙ kept (nat_lt s redo_space) (finite.get m.spaces s)

at_bytes : (pages : List Held) (n : ℕ) (d : Held) → n < length pages → get_or (bytes_of pages) n [] ≡ (get_or pages n d).bytes
at_bytes [] n d lt = absurd (omega (arith, lt))
at_bytes (p ∷ ps) zero d lt = refl
at_bytes (p ∷ ps) (suc n) d lt = at_bytes ps n d (omega (arith, lt))

-- a page of the disk that has these bytes
pub record IsPageOn (m : DiskImage) (s n : ℕ) (bytes : List ℕ) : Type 0 where
  pub held : Held
  pub there : disk.page_of m s n ≡ Some held
  pub is : bytes ≡ held.bytes

-- a page of the image is one of the disk
pub page_on : (m : DiskImage) (s n : ℕ) → n < length (pages_in (image_of m) s) → IsPageOn m s n (get_or (pages_in (image_of m) s) n [])
page_on m s n lt = at (nat_lt s redo_space) (finite.get m.spaces s) refl (get_image m s)
  where
    at : (b : Bool) (o : Option (List Held)) → finite.get m.spaces s ≡ o → finite.get (image_of m) s ≡ cond b (option_map bytes_of (finite.get m.spaces s)) None → IsPageOn m s n (get_or (pages_in (image_of m) s) n [])
    at false o is e = absurd (omega (arith, lt, ap (λ x. length (unwrap_or x [])) e))
    at true None is e = absurd (omega (arith, lt, ap (λ x. length (unwrap_or x [])) (e ∙ ap (option_map bytes_of) is)))
    at true (Some pages) is e =
        let all : pages_in (image_of m) s ≡ bytes_of pages = ap (λ x. unwrap_or x []) (e ∙ ap (option_map bytes_of) is) in
        let low : n < length pages = omega (arith, lt, ap length all, length-map pages (λ (h : Held). h.bytes)) in
        record {
          held = get_or pages n disk.zero_page;
          there = ap (option_and_then (λ ps. slice_get ps n)) is ∙ slice_get-get_or pages n disk.zero_page low;
          is = ap (λ xs. get_or xs n []) all ∙ at_bytes pages n disk.zero_page low;
        }

-- what is read of a quiet page is the page
pub read_on : (m : DiskImage) (s n : ℕ) (page : List ℕ) → IsQuiet m → GivesQuiet m s n page → n < length (pages_in (image_of m) s) → page ≡ get_or (pages_in (image_of m) s) n []
read_on m s n page quiet gives lt =
    let on = page_on m s n lt in
    let still = subst (λ o. IfSome o (λ held. held.writing ≡ false)) on.there (quiet s n) in
    subst (λ o. IfSome o (λ held. held.writing ≡ false → page ≡ held.bytes)) on.there gives still ∙ sym on.is
