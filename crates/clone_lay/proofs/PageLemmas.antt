-- What stands at each place once pages were laid.
use Rattle.std.proofs.Common.{◌≡◌, ◌≢◌, ◌++◌, ◌==◌, ◌&&◌, ◌||◌, ◌<◌, ◌≤◌, ◌⊎◌, ℕ, Bool, true, false, cond, List, [], ◌∷◌, length, get_or, None, Some, refl, sym, ap, ◌∙◌, arith, inl, inr, slice_get}
use Rattle.std.specs.Prelude.{nat_lt, unwrap_or, option_and_then}
use Rattle.std.specs.Option.{option_or}
use Rattle.std.specs.List.{list_any}
use Rattle.std.specs.declared.option.Option.{Option}
use Rattle.std.specs.FinMap as finite
use Rattle.std.proofs.lemmas.Bool.{cases_lt, le-ltb, lt-ltb}
use Rattle.std.proofs.lemmas.Bool.Decides.{eqb_tells}
use Rattle.std.proofs.lemmas.Option.{slice_get-get_or, slice_get_past}
use Rattle.clone_outside.specs.Disk.{DiskImage, extended, page_of, zero_page, pages_in, whole, with_space}
use Rattle.clone_outside.specs.declared.disk.Held.{Held}
use Rattle.clone_lay.specs.Laid.{PageAt, bytes_at, laid_over, laid_page, laid_pages, last_bytes, reaches_past, standing, with_room}
use Rattle.clone_lay.proofs.LaidLemmas.{extended_past, extended_there, extended_zero, laid_before, laid_behind, laid_here}
use Rattle.clone_outside.proofs.SpaceLemmas.{get_here, get_there}

-- What stands, by cases.

stands_still : (o : Option Held) → standing None o false ≡ o
stands_still None = refl
stands_still (Some page) = refl

pub standing_twice : (first last : Option (List ℕ)) (o : Option Held) (x y : Bool) → standing last (standing first o x) y ≡ standing (option_or last first) o (x || y)
standing_twice first (Some bytes) o x y = refl
standing_twice (Some bytes) None o x y = refl
standing_twice None None (Some page) x y = refl
standing_twice None None None true y = refl
standing_twice None None None false y = refl

-- a page of a space that is there or not
pub page_in_pages : (o : Option (List Held)) (k : ℕ) → option_and_then (λ pages. slice_get pages k) o ≡ slice_get (unwrap_or o []) k
page_in_pages None k = refl
page_in_pages (Some pages) k = refl

-- what stands there, if something does
stands_there : (o : Option Held) (page : Held) (past : Bool) → o ≡ Some page → standing None o past ≡ o
stands_there o page past is = ap (λ (x : Option Held). standing None x past) is ∙ sym is

stands_as : (a b : Option (List ℕ)) (o p : Option Held) (x y : Bool) → a ≡ b → o ≡ p → x ≡ y → standing b p y ≡ standing a o x
stands_as a b o p x y bytes stood past = sym (λ i. standing (bytes i) (stood i) (past i))

-- Places of one space.

roomy_place : (old : List Held) (count k : ℕ) → slice_get (extended count old) k ≡ standing None (slice_get old k) (nat_lt k count)
roomy_place old count k = at (cases_lt k (length old)) (cases_lt k count)
  where
    at : (k < length old) ⊎ (length old ≤ k) → (k < count) ⊎ (count ≤ k) → slice_get (extended count old) k ≡ standing None (slice_get old k) (nat_lt k count)
    at (inl there) order =
        extended_there count old k there ∙ sym (stands_there (slice_get old k) (get_or old k zero_page) (nat_lt k count) (slice_get-get_or old k zero_page there))
    at (inr gone) (inl low) =
        extended_zero count old k gone low ∙ stands_as None None (slice_get old k) None (nat_lt k count) true refl (slice_get_past old k gone) (lt-ltb k count low)
    at (inr gone) (inr past) =
        extended_past count old k gone past ∙ stands_as None None (slice_get old k) None (nat_lt k count) false refl (slice_get_past old k gone) (le-ltb k count past)

laid_place : (old : List Held) (n k : ℕ) (bytes : List ℕ) → slice_get (laid_over n (whole bytes ∷ []) old) k ≡ standing (cond (n == k) (Some bytes) None) (slice_get old k) (nat_lt k n)
laid_place old n k bytes = at (eqb_tells n k) (cases_lt k n)
  where
    here : Bool → Option (List ℕ)
    here b = cond b (Some bytes) None

    at : (((n == k) ≡ true) × (n ≡ k)) ⊎ (((n == k) ≡ false) × (n ≢ k)) → (k < n) ⊎ (n ≤ k) → slice_get (laid_over n (whole bytes ∷ []) old) k ≡ standing (here (n == k)) (slice_get old k) (nat_lt k n)
    at (inl same) order =
        laid_here n (whole bytes ∷ []) old k 0 (omega (arith, same.1)) (omega arith)
        ∙ stands_as (here (n == k)) (Some bytes) (slice_get old k) (slice_get old k) (nat_lt k n) (nat_lt k n) (ap here same.0) refl refl
    at (inr other) (inl low) =
        laid_before n (whole bytes ∷ []) old k low ∙ roomy_place old n k
        ∙ stands_as (here (n == k)) None (slice_get old k) (slice_get old k) (nat_lt k n) (nat_lt k n) (ap here other.0) refl refl
    at (inr other) (inr high) =
        laid_behind n (whole bytes ∷ []) old k (omega (arith, high, other.1)) ∙ sym (stands_still (slice_get old k))
        ∙ stands_as (here (n == k)) None (slice_get old k) (slice_get old k) (nat_lt k n) false (ap here other.0) refl (le-ltb k n high)

-- Places of a disk.

-- a space got pages, of which it is known what stands at a number
given_place : (m : DiskImage) (s q k : ℕ) (pages : List Held) (bytes : Option (List ℕ)) (past : Bool) → slice_get pages k ≡ standing bytes (slice_get (pages_in m s) k) past
    → page_of (with_space s pages m) q k ≡ standing (cond (s == q) bytes None) (page_of m q k) (s == q && past)
given_place m s q k pages bytes past is = at (eqb_tells s q)
  where
    at : (((s == q) ≡ true) × (s ≡ q)) ⊎ (((s == q) ≡ false) × (s ≢ q)) → page_of (with_space s pages m) q k ≡ standing (cond (s == q) bytes None) (page_of m q k) (s == q && past)
    at (inl same) =
        ap (option_and_then (λ ps. slice_get ps k)) (ap (finite.get (with_space s pages m).spaces) (sym same.1) ∙ get_here m s pages) ∙ is
        ∙ stands_as (cond (s == q) bytes None) bytes (page_of m q k) (slice_get (pages_in m s) k) (s == q && past) past
        (ap (λ (b : Bool). cond b bytes None) same.0)
        (page_in_pages (finite.get m.spaces q) k ∙ ap (λ (x : ℕ). slice_get (pages_in m x) k) (sym same.1))
        (ap (λ (b : Bool). b && past) same.0)
    at (inr other) =
        ap (option_and_then (λ ps. slice_get ps k)) (get_there m s q pages (λ e. other.1 (sym e))) ∙ sym (stands_still (page_of m q k))
        ∙ stands_as (cond (s == q) bytes None) None (page_of m q k) (page_of m q k) (s == q && past) false
        (ap (λ (b : Bool). cond b bytes None) other.0) refl (ap (λ (b : Bool). b && past) other.0)

pub room_place : (m : DiskImage) (s count q k : ℕ) → page_of (with_room s count m) q k ≡ standing None (page_of m q k) (s == q && nat_lt k count)
room_place m s count q k =
    given_place m s q k (extended count (pages_in m s)) None (nat_lt k count) (roomy_place (pages_in m s) count k)
    ∙ stands_as None (cond (s == q) None None) (page_of m q k) (page_of m q k) (s == q && nat_lt k count) (s == q && nat_lt k count) (never (s == q)) refl refl
  where
    never : (b : Bool) → ◌≡◌ {A = Option (List ℕ)} None (cond b None None)
    never true = refl
    never false = refl

page_place : (m : DiskImage) (page : PageAt) (q k : ℕ) → page_of (laid_page page.space page.number page.bytes m) q k ≡ standing (bytes_at q k page) (page_of m q k) (page.space == q && nat_lt k page.number)
page_place m page q k =
    given_place m page.space q k (laid_over page.number (whole page.bytes ∷ []) (pages_in m page.space)) (cond (page.number == k) (Some page.bytes) None) (nat_lt k page.number) (laid_place (pages_in m page.space) page.number k page.bytes)
    ∙ stands_as (bytes_at q k page) (cond (page.space == q) (cond (page.number == k) (Some page.bytes) None) None) (page_of m q k) (page_of m q k) _ _ (both (page.space == q) (page.number == k)) refl refl
  where
    both : (x y : Bool) → cond (x && y) (Some page.bytes) None ≡ cond x (cond y (Some page.bytes) None) None
    both true y = refl
    both false y = refl

pub pages_place : (m : DiskImage) (pages : List PageAt) (q k : ℕ) → page_of (laid_pages pages m) q k ≡ standing (last_bytes q k pages) (page_of m q k) (reaches_past q k pages)
pages_place m [] q k = sym (stands_still (page_of m q k))
pages_place m (page ∷ pages) q k =
    let past : Bool = page.space == q && nat_lt k page.number in
    pages_place (laid_page page.space page.number page.bytes m) pages q k
    ∙ ap (λ (o : Option Held). standing (last_bytes q k pages) o (reaches_past q k pages)) (page_place m page q k)
    ∙ standing_twice (bytes_at q k page) (last_bytes q k pages) (page_of m q k) past (reaches_past q k pages)

pub pages_more : (m : DiskImage) (pages : List PageAt) (last : PageAt) → laid_pages (pages ++ last ∷ []) m ≡ laid_page last.space last.number last.bytes (laid_pages pages m)
pages_more m [] last = refl
pages_more m (page ∷ pages) last = pages_more (laid_page page.space page.number page.bytes m) pages last

-- What stays.

pub pages_mark : (m : DiskImage) (pages : List PageAt) → (laid_pages pages m).mark ≡ m.mark
pages_mark m [] = refl
pages_mark m (page ∷ pages) = pages_mark (laid_page page.space page.number page.bytes m) pages

pub pages_others : (m : DiskImage) (pages : List PageAt) (q : ℕ) → list_any (λ page. page.space == q) pages ≡ false → finite.get (laid_pages pages m).spaces q ≡ finite.get m.spaces q
pages_others m [] q none = refl
pages_others m (page ∷ pages) q none =
    pages_others (laid_page page.space page.number page.bytes m) pages q (later (page.space == q) none)
    ∙ get_there m page.space q _ (λ e. elim (eqb_tells page.space q) [ inl same ↦ (let yes = same.0 in cc (first (page.space == q) none)) | inr other ↦ other.1 (sym e) ])
  where
    first : (b : Bool) → (b || list_any (λ page. page.space == q) pages) ≡ false → b ≡ false
    first true is = is
    first false is = refl

    later : (b : Bool) → (b || list_any (λ page. page.space == q) pages) ≡ false → list_any (λ page. page.space == q) pages ≡ false
    later true is = absurd (cc)
    later false is = is
