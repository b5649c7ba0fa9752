-- Spaces that were made since the files were listed, and what a clone has of their pages.
use Rattle.std.proofs.Common.{◌≡◌, ◌≢◌, ◌≤◌, ◌⊎◌, ◌∙◌, ◌∷◌, ◌==◌, ◌||◌, [], ℕ, zero, suc, Bool, true, false, cond, List, Option, None, Some, nat_lt, refl, sym, ap, subst, arith, inl, inr, if◌then◌else◌}
use Rattle.std.specs.Prelude.{not}
use Rattle.std.specs.FinMap as finite
use Rattle.std.specs.List.{All, Contains, filter, flat_map, range_with_len}
use Rattle.std.proofs.lemmas.Bool.{cases_eq, eq-eqb, ltb-false, ltb-true, true≢false}
use Rattle.std.proofs.lemmas.Bool.Decides.{eqb_tells}
use Rattle.std.proofs.lemmas.List.Elements.{All-append, All-contains, All-contains_itself, All-filter, All-head, All-map, All-nil, All-tail, All-weaker, filter_passes}
use Rattle.clone_image.proofs.Images.{get-put_other, get-put_same}
use Rattle.clone_image.specs.Redone.{Standing, made, past_end, stands}
use Rattle.clone_page.specs.Header.{zero_page}
use Rattle.clone_law.specs.Machine as machine
use Rattle.clone_law.specs.Machine.{Copy}
use Rattle.clone_law.specs.Touches.{Lax}
use Rattle.clone_buffer.specs.OnePage.{Copies, NoFilesOf, after_create}
use Rattle.clone_buffer.proofs.SpaceLemmas.{create_calm}
use Rattle.clone_flush.specs.Flights.{Files}
use Rattle.clone_track.specs.TrackedPages.{Pages}
use Rattle.clone_snapshot.specs.StageLists as lists
use Rattle.clone_snapshot.specs.StageLists.{all_pages, pages_of_space}
use Rattle.clone_session.specs.Effects.{created_since, is_listed}
use Rattle.clone_standing.specs.Counting.{Counts}
use Rattle.clone_standing.specs.Latest.{made_standing}
use Rattle.clone_standing.proofs.PlaceLemmas.{first, later}
use Rattle.clone_standing.proofs.StandingLemmas.{counts_lax, lax_same, lax_trans}
use Rattle.clone_engine.specs.Copies.{AreInFiles, IsInFiles, is_noted}
use Rattle.clone_engine.specs.Donor.{Donor, HasPages, known_files}
use Rattle.clone_engine.specs.Growth.{KeepsFiles}
use Rattle.clone_engine.specs.Taken.{Taken}
use Rattle.clone_engine.proofs.TakenPages.{all_entries, has_entry}
use Rattle.clone_sides.specs.Facts.{CountsEarly, IsBare, Lists}

-- Which spaces are listed.

listed_more : (s : ℕ × ℕ) (ss : List (ℕ × ℕ)) (q : ℕ) → is_listed q ss ≡ true → is_listed q (s ∷ ss) ≡ true
listed_more s ss q is = by (s.0 == q)
  where
    by : (b : Bool) → (b || is_listed q ss) ≡ true
    by true = refl
    by false = is

-- each page of a list of spaces is of one that is listed
pages_listed_of : (spaces : List (ℕ × ℕ)) → All (λ (p : ℕ × ℕ). is_listed p.0 spaces ≡ true) (flat_map pages_of_space spaces)
pages_listed_of [] = All-nil (λ (p : ℕ × ℕ). is_listed p.0 [] ≡ true)
pages_listed_of (s ∷ ss) =
    All-append (λ (p : ℕ × ℕ). is_listed p.0 (s ∷ ss) ≡ true) (pages_of_space s) (flat_map pages_of_space ss)
    (All-map (λ (p : ℕ × ℕ). is_listed p.0 (s ∷ ss) ≡ true) (λ number. (s.0, number)) (range_with_len 0 s.1) (λ k other low. ap (λ (b : Bool). b || is_listed s.0 ss) (eq-eqb s.0 s.0 refl)))
    (All-weaker (λ (p : ℕ × ℕ). is_listed p.0 ss ≡ true) (λ (p : ℕ × ℕ). is_listed p.0 (s ∷ ss) ≡ true) (λ p is. listed_more s ss p.0 is) (flat_map pages_of_space ss) (pages_listed_of ss))

-- Which spaces were made since.

not_true : (b : Bool) → not b ≡ true → b ≡ false
not_true true is = absurd (true≢false (sym is))
not_true false is = refl

kept_later : {X : Type 0} (y : X) (kept : List X) (x : X) → Contains kept x → (b : Bool) → Contains (cond b (y ∷ kept) kept) x
kept_later y kept x has true = later y kept x has
kept_later y kept x has false = has

kept_in : {X : Type 0} (p : X → Bool) (xs : List X) (x : X) → p x ≡ true → Contains xs x → Contains (filter p xs) x
kept_in p [] x passes (i, within, is) = absurd (omega (arith, within))
kept_in {X} p (y ∷ ys) x passes (zero, within, is) = subst (λ (b : Bool). Contains (cond b (y ∷ filter p ys) (filter p ys)) x) (sym (ap p is ∙ passes)) (subst (λ (z : X). Contains (z ∷ filter p ys) x) (sym is) (first x (filter p ys)))
kept_in p (y ∷ ys) x passes (suc i, within, is) = kept_later y (filter p ys) x (kept_in p ys x passes (i, omega (arith, within), is)) (p y)

module _ (spaces files : List (ℕ × ℕ)) where
  made_parts : (s pages : ℕ) → Contains (created_since spaces files) (s, pages) → (is_listed s spaces ≡ false) × Contains files (s, pages)
  made_parts s pages has = (
    not_true (is_listed s spaces) (All-contains (λ (t : ℕ × ℕ). not (is_listed t.0 spaces) ≡ true) (created_since spaces files) (s, pages) (filter_passes (λ (t : ℕ × ℕ). not (is_listed t.0 spaces)) files) has),
    All-contains (Contains files) (created_since spaces files) (s, pages) (All-filter (λ (t : ℕ × ℕ). not (is_listed t.0 spaces)) (Contains files) files (All-contains_itself files)) has,
  )

  made_has : (s pages : ℕ) → is_listed s spaces ≡ false → Contains files (s, pages) → Contains (created_since spaces files) (s, pages)
  made_has s pages other has = kept_in (λ (t : ℕ × ℕ). not (is_listed t.0 spaces)) files (s, pages) (ap not other) has

entry_known : (files : Files) (s pages : ℕ) → Contains (finite.entries files) (s, pages) → finite.get files s ≡ Some pages
entry_known files s pages has =
    All-contains (λ (t : ℕ × ℕ). finite.get files t.0 ≡ Some t.1) (finite.entries files) (s, pages) (all_entries (λ s p. finite.get files s ≡ Some p) files (λ s p known. known)) has

-- a space that got longer since it was made
longer_lax : (few many number : ℕ) → few ≤ many → Lax (made_standing many number) (made_standing few number)
longer_lax few many number less = by (nat_lt number many) (nat_lt number few) refl refl
  where
    by : (a b : Bool) → nat_lt number many ≡ a → nat_lt number few ≡ b → Lax (if a then stands zero_page else past_end) (if b then stands zero_page else past_end)
    by true true high low = refl
    by true false high low = refl
    by false true high low = absurd (omega (arith, less, ltb-false number many high, ltb-true number few low))
    by false false high low = tt

-- WHAT BECOMES OF THE PAGES over an act that leaves the session: no file is forgotten, none gets
-- shorter, and what counted of a page counts still.
pub record Spares (d t : Donor) (taken news : Taken) : Type 0 where
  pub stop : news.stop ≡ taken.stop
  pub files : KeepsFiles d.engine.flights.files t.engine.flights.files
  pub counts : (s n : ℕ) (u : Standing) → Counts (taken.copies s n) u → Counts (news.copies s n) u

-- Or a table was made.
pub record Makes (d t : Donor) (taken news : Taken) : Type 0 where
  pub table : ℕ
  pub buckets : ℕ
  pub unknown : finite.get d.engine.flights.files table ≡ None
  pub files : t.engine.flights.files ≡ finite.insert d.engine.flights.files table buckets
  pub is : news ≡ record taken { copies = after_create table buckets taken.copies }

abbrev pub Follows : Donor → Donor → Taken → Taken → Type 0
Follows d t taken news = Spares d t taken news ⊎ Makes d t taken news

-- the lists in the copy of files, as the engine has them by now
abbrev pub lists_by : Donor → Lists → Lists
lists_by t l = record l { made = created_since l.files (known_files t.engine) }

-- a page that stands bare by the spaces of now did so by those of before
module _ (d t : Donor) (files : KeepsFiles d.engine.flights.files t.engine.flights.files) (l : Lists) (made_is : l.made ≡ created_since l.files (known_files d.engine)) where
  pub bare_before : (s n : ℕ) (u : Standing) → IsBare (lists_by t l) s n u → IsBare l s n u
  bare_before s n u is = record { any = is.any; listed = is.listed; made = made_before }
    where
      made_before : (size : ℕ) → Contains l.made (s, size) → Lax u (made_standing size n)
      made_before size has =
          let parts = made_parts l.files (known_files d.engine) s size (subst (λ (ms : List (ℕ × ℕ)). Contains ms (s, size)) made_is has) in
          let more = files s size (entry_known d.engine.flights.files s size parts.1) in
          lax_trans u (made_standing more.pages n) (made_standing size n)
          (is.made more.pages (made_has l.files (known_files t.engine) s more.pages parts.0 (has_entry t.engine.flights.files s more.pages more.known)))
          (longer_lax size more.pages n more.enough)

-- A TABLE IS MADE.
module _ (d t : Donor) (taken news : Taken) (makes : Makes d t taken news) where
  abbrev known : ℕ → ℕ → Type 0
  known s pages = finite.get d.engine.flights.files s ≡ Some pages

  known_apart : (s pages : ℕ) → known s pages → s ≢ makes.table
  known_apart s pages is same = let wrong : None ≡ Some pages = sym makes.unknown ∙ ap (finite.get d.engine.flights.files) (sym same) ∙ is in absurd (cc)

  makes_files : KeepsFiles d.engine.flights.files t.engine.flights.files
  makes_files s pages is = record {
    pages = pages;
    known = ap (λ (f : Files). finite.get f s) makes.files ∙ get-put_other d.engine.flights.files makes.table s makes.buckets (known_apart s pages is) ∙ is;
    enough = omega arith;
  }

  -- what a clone has of the pages of other spaces stays
  apart : (s n : ℕ) → s ≢ makes.table → news.copies s n ≡ taken.copies s n
  apart s n other = ap (λ (k : Taken). k.copies s n) makes.is ∙ by (eqb_tells s makes.table)
    where
      by : (((s == makes.table) ≡ true) × (s ≡ makes.table)) ⊎ (((s == makes.table) ≡ false) × (s ≢ makes.table)) → after_create makes.table makes.buckets taken.copies s n ≡ taken.copies s n
      by (inl is) = absurd (other is.1)
      by (inr is) = ap (λ (b : Bool). if b then machine.created (made n makes.buckets) (taken.copies s n) else taken.copies s n) is.0

  own_now : (n : ℕ) → news.copies makes.table n ≡ machine.created (made n makes.buckets) (taken.copies makes.table n)
  own_now n = ap (λ (k : Taken). k.copies makes.table n) makes.is ∙ ap (λ (b : Bool). if b then machine.created (made n makes.buckets) (taken.copies makes.table n) else taken.copies makes.table n) (eq-eqb makes.table makes.table refl)

  -- once the copy of files is over, nothing changes
  pub makes_late : NoFilesOf makes.table taken.copies → Spares d t taken news
  makes_late calm = record {
    stop = ap (λ (k : Taken). k.stop) makes.is;
    files = makes_files;
    counts = λ s n u counts. subst (λ (c : Copies). Counts (c s n) u) (sym (ap (λ (k : Taken). k.copies) makes.is ∙ create_calm makes.table makes.buckets taken.copies calm)) counts;
  }

  -- while files are copied, a page of the table counts as it was made
  module _ (l : Lists) (own : All (HasPages d.engine.flights.files) l.files) (tracked : Option Pages) (are : AreInFiles tracked taken.copies) where
    not_listed : (ss : List (ℕ × ℕ)) → All (HasPages d.engine.flights.files) ss → is_listed makes.table ss ≡ false
    not_listed [] all = refl
    not_listed (x ∷ xs) all =
        let head = All-head (HasPages d.engine.flights.files) x xs all in
        elim (eqb_tells x.0 makes.table) [
          | inl is ↦ absurd (known_apart x.0 head.pages head.known is.1)
          | inr is ↦ ap (λ (b : Bool). b || is_listed makes.table xs) is.0 ∙ not_listed xs (All-tail (HasPages d.engine.flights.files) x xs all)
        ]

    created_counts : (noted : Bool) (copy : Copy) (v : Standing) → IsInFiles noted copy → Counts (machine.created v copy) v
    created_counts true copy v is = inl (ap (machine.created v) is)
    created_counts false copy v is = subst (λ (c : Copy). Counts (machine.created v c) v) (sym is.1) (inr (inl (lax_same v)))

    table_counts : (n : ℕ) (u : Standing) → IsBare (lists_by t l) makes.table n u → Counts (news.copies makes.table n) u
    table_counts n u is =
        let there : finite.get t.engine.flights.files makes.table ≡ Some makes.buckets = ap (λ (f : Files). finite.get f makes.table) makes.files ∙ get-put_same d.engine.flights.files makes.table makes.buckets in
        let has = made_has l.files (known_files t.engine) makes.table makes.buckets (not_listed l.files own) (has_entry t.engine.flights.files makes.table makes.buckets there) in
        subst (λ (c : Copy). Counts c u) (sym (own_now n))
        (counts_lax (machine.created (made n makes.buckets) (taken.copies makes.table n)) (made n makes.buckets) u (is.made makes.buckets has)
        (created_counts (is_noted tracked makes.table n) (taken.copies makes.table n) (made n makes.buckets) (are makes.table n)))

    apart_early : (s n : ℕ) (u : Standing) → s ≢ makes.table → CountsEarly l taken.copies s n u → CountsEarly (lists_by t l) news.copies s n u
    apart_early s n u other (inl counts) = inl (subst (λ (c : Copy). Counts c u) (sym (apart s n other)) counts)
    apart_early s n u other (inr has) = inr has

    pub makes_bare : l.made ≡ created_since l.files (known_files d.engine) → (s n : ℕ) (u : Standing) → IsBare (lists_by t l) s n u
        → CountsEarly (lists_by t l) news.copies s n u ⊎ (IsBare l s n u × (CountsEarly l taken.copies s n u → CountsEarly (lists_by t l) news.copies s n u))
    makes_bare made_is s n u is = by (cases_eq s makes.table)
      where
        by : (s ≡ makes.table) ⊎ (s ≢ makes.table) → CountsEarly (lists_by t l) news.copies s n u ⊎ (IsBare l s n u × (CountsEarly l taken.copies s n u → CountsEarly (lists_by t l) news.copies s n u))
        by (inl same) = inl (inl (subst (λ (q : ℕ). Counts (news.copies q n) u) (sym same) (table_counts n u (subst (λ (q : ℕ). IsBare (lists_by t l) q n u) same is))))
        by (inr other) = inr (bare_before d t makes_files l made_is s n u is, apart_early s n u other)

    pub makes_early : (s n : ℕ) (u : Standing) → Contains (all_pages (lists.Files l.files)) (s, n) → CountsEarly l taken.copies s n u → CountsEarly (lists_by t l) news.copies s n u
    makes_early s n u has =
        apart_early s n u (λ same. true≢false
        (sym (All-contains (λ (p : ℕ × ℕ). is_listed p.0 l.files ≡ true) (flat_map pages_of_space l.files) (s, n) (pages_listed_of l.files) has)
        ∙ ap (λ (q : ℕ). is_listed q l.files) same ∙ not_listed l.files own))
