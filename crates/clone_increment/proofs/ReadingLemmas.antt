-- What is read of a disk: its sizes, the first pages of a space, every page, and those of a list.
use Rattle.std.proofs.Common.{◌≡◌, ◌≢◌, ◌<◌, ◌≤◌, ◌+◌, ℕ, List, [], ◌∷◌, length, get_or, take, Bool, true, false, cond, ◌&&◌, ◌||◌, Some, None, is_some, option_map, refl, sym, ap, subst, ◌∙◌, inl, inr, arith}
use Rattle.std.specs.Prelude.{nat_lt, ◌==◌, IfSome}
use Rattle.std.specs.declared.option.Option.{Option}
use Rattle.std.specs.FinMap as finite
use Rattle.std.specs.FinMap.{get-empty, get-entries, contains_key-keys}
use Rattle.std.specs.FinSet as set
use Rattle.std.specs.FinSet.{contains-from_list}
use Rattle.std.specs.Cmp.{nat_cmp_total, unsigned_tied}
use Rattle.std.specs.List.{list_any}
use Rattle.std.specs.Ordering.{nat_cmp, eq_by_cmp}
use Rattle.std.proofs.lemmas.Bool.{cases_lt, lt-ltb, le-ltb}
use Rattle.std.proofs.lemmas.Bool.Decides.{eqb_tells}
use Rattle.std.proofs.lemmas.List.{take_all}
use Rattle.std.proofs.lemmas.Map.Lookups.{exact_unsigned}
use Rattle.clone_base.specs.Counted.{Counted}
use Rattle.clone_base.proofs.MapEntries.{apart, cases_row, ties}
use Rattle.clone_model.specs.Keys.{row_cmp}
use Rattle.clone_model.proofs.RowMaps.{row_cmp_total, row_cmp_exact}
use Rattle.clone_outside.specs.Disk.{DiskImage, ForTold, GivesQuiet, page_count, page_of, space_numbers}
use Rattle.clone_outside.specs.declared.disk.Held.{Held}
use Rattle.clone_increment.specs.Copies.{IsQuiet, PagesByPlace, bytes_at, is_within}
use Rattle.clone_increment.specs.Readings.{AgreesOn, AreSizesOf, ReadsAll, ReadsFirst, ReadsPlace, all_joined, is_among_first, joined}
use Rattle.clone_increment.proofs.AgreeLemmas.{agrees-all, agrees-all_joined, agrees-joined, either}
use Rattle.clone_increment.proofs.CountLemmas.{get_at, is_named, named-more}
use Rattle.clone_increment.proofs.ImageLemmas.{absent, is_below, there_below, there_within}

-- two facts about what is told make a third
pub told_with : (told mid : Option DiskImage) (P Q R : DiskImage → Type 0) → mid ≡ told → ((m : DiskImage) → P m → Q m → R m) → ForTold told P → ForTold mid Q → ForTold told R
told_with told mid P Q R same to p q = from told p (subst (λ (o : Option DiskImage). ForTold o Q) same q)
  where
    from : (o : Option DiskImage) → ForTold o P → ForTold o Q → ForTold o R
    from None p q = tt
    from (Some m) p q = to m p q

or_false : (b : Bool) → (b || false) ≡ b
or_false true = refl
or_false false = refl

none_there : {X : Type 0} (o : Option X) → is_some o ≡ false → o ≡ None
none_there None e = refl
none_there (Some x) e = cc

-- ---- sizes

pub sizes_found : (m : DiskImage) (sizes : Counted) (spaces : List ℕ) → spaces ≡ space_numbers m → sizes ≡ all_joined (page_count m) finite.empty spaces → AreSizesOf sizes m
sizes_found m sizes spaces listed made = λ q.
    ap (λ (s : Counted). finite.get s q) (made ∙ ap (all_joined (page_count m) finite.empty) listed)
    ∙ agrees-all_joined nat_cmp_total exact_unsigned (page_count m) (space_numbers m) (λ _. false) finite.empty (λ p. get-empty nat_cmp p) q
    ∙ ap (λ (b : Bool). cond b (page_count m q) None) (or_false (list_any (eq_by_cmp nat_cmp q) (space_numbers m)))
    ∙ at q (finite.get m.spaces q) refl
  where
    at : (q : ℕ) (o : Option (List Held)) → finite.get m.spaces q ≡ o → cond (list_any (eq_by_cmp nat_cmp q) (space_numbers m)) (page_count m q) None ≡ page_count m q
    at q None is = either (list_any (eq_by_cmp nat_cmp q) (space_numbers m)) (page_count m q) (ap (option_map length) is)
    at q (Some pages) is = ap (λ (b : Bool). cond b (page_count m q) None) (sym (contains_key-keys m.spaces q) ∙ ap is_some is)

-- ---- a place

-- what the disk gives of a place that is there
pub place_read : (m : DiskImage) (place : ℕ × ℕ) (old new : PagesByPlace) (bytes : List ℕ) → is_some (bytes_at m place) ≡ true → new ≡ finite.insert old place bytes → GivesQuiet m place.0 place.1 bytes → IsQuiet m
    → new ≡ joined old place (bytes_at m place)
place_read m place old new bytes there is gives quiet = at (page_of m place.0 place.1) refl
  where
    at : (o : Option Held) → page_of m place.0 place.1 ≡ o → new ≡ joined old place (bytes_at m place)
    at None none = absurd (let e : false ≡ true = sym (ap (λ (o : Option Held). is_some (option_map (λ (h : Held). h.bytes) o)) none) ∙ there in cc)
    at (Some held) some =
        let read : bytes ≡ held.bytes = subst (λ (o : Option Held). IfSome o (λ h. h.writing ≡ false → bytes ≡ h.bytes)) some gives (quiet place held some) in
        is ∙ ap (finite.insert old place) read ∙ sym (ap (λ (o : Option Held). joined old place (option_map (λ (h : Held). h.bytes) o)) some)

pub reads_place : (m : DiskImage) (sizes : Counted) (place : ℕ × ℕ) (old new : PagesByPlace) (bytes : List ℕ) → is_within sizes place ≡ true → new ≡ finite.insert old place bytes → GivesQuiet m place.0 place.1 bytes
    → ReadsPlace sizes place old new m
reads_place m sizes place old new bytes within is gives = λ quiet same. place_read m place old new bytes (sym (there_within m sizes place same) ∙ within) is gives quiet

pub reads_nothing : (m : DiskImage) (sizes : Counted) (place : ℕ × ℕ) (old new : PagesByPlace) → is_within sizes place ≡ false → new ≡ old → ReadsPlace sizes place old new m
reads_nothing m sizes place old new beyond is = λ quiet same. is ∙ sym (ap (joined old place) (absent m sizes place same beyond))

-- the pages of a list of places
pub places_found : (m : DiskImage) (places : List (ℕ × ℕ)) (pages : PagesByPlace) → pages ≡ all_joined (bytes_at m) finite.empty places
    → (q : ℕ × ℕ) → finite.get pages q ≡ cond (set.contains (set.from_list {R = row_cmp} places) q) (bytes_at m q) None
places_found m places pages made q =
    ap (λ (p : PagesByPlace). finite.get p q) made ∙ agrees-all_joined row_cmp_total row_cmp_exact (bytes_at m) places (λ _. false) finite.empty (λ p. get-empty row_cmp p) q
    ∙ ap (λ (b : Bool). cond b (bytes_at m q) None) (or_false (list_any (eq_by_cmp row_cmp q) places) ∙ sym (contains-from_list row_cmp_total places q))

-- ---- the first pages of a space

-- as many of the first pages of a space of so many pages were read
abbrev pub ReadsSome : ℕ → ℕ → ℕ → PagesByPlace → PagesByPlace → DiskImage → Type 0
ReadsSome space count number old new image =
    IsQuiet image → page_count image space ≡ Some count → (done : ℕ × ℕ → Bool) → AgreesOn done (bytes_at image) old → AgreesOn (λ place. is_among_first space number place || done place) (bytes_at image) new

none_first : (space : ℕ) (place : ℕ × ℕ) → is_among_first space 0 place ≡ false
none_first space place = ap (λ (b : Bool). (place.0 == space) && b) (le-ltb place.1 0 (omega arith)) ∙ at (place.0 == space)
  where
    at : (b : Bool) → (b && false) ≡ false
    at true = refl
    at false = refl

pub reads_none : (space count : ℕ) (old : PagesByPlace) (m : DiskImage) → ReadsSome space count 0 old old m
reads_none space count old m = λ quiet size done agrees q. agrees q ∙ sym (ap (λ (b : Bool). cond (b || done q) (bytes_at m q) None) (none_first space q))

next_number : (n k : ℕ) → n ≢ k → nat_lt n k ≡ nat_lt n (k + 1)
next_number n k other = elim (cases_lt n k) [
  | inl low ↦ lt-ltb n k low ∙ sym (lt-ltb n (k + 1) (omega (arith, low)))
  | inr high ↦ le-ltb n k high ∙ sym (le-ltb n (k + 1) (omega (arith, high, other)))
]

one_more_first : (space number : ℕ) (place : ℕ × ℕ) (b : Bool) → (eq_by_cmp row_cmp place (space, number) || (is_among_first space number place || b)) ≡ (is_among_first space (number + 1) place || b)
one_more_first space number place b = elim (cases_row place (space, number)) [
  | inl same ↦
      let P : ℕ × ℕ → Type 0 = λ p. (eq_by_cmp row_cmp p (space, number) || (is_among_first space number p || b)) ≡ (is_among_first space (number + 1) p || b) in
      subst P (sym same) (ap (λ (t : Bool). t || (is_among_first space number (space, number) || b)) (ties row_cmp_total row_cmp_exact (space, number)) ∙ sym (ap (λ (t : Bool). t || b) last))
  | inr other ↦ ap (λ (t : Bool). t || (is_among_first space number place || b)) (apart row_cmp_total row_cmp_exact place (space, number) other) ∙ ap (λ (t : Bool). t || b) (same_first other)
]
  where
    itself : (space == space) ≡ true
    itself = elim (eqb_tells space space) [ inl same ↦ same.0 | inr other ↦ absurd (other.1 refl) ]

    last : is_among_first space (number + 1) (space, number) ≡ true
    last = λ i. itself i && lt-ltb number (number + 1) (omega arith) i

    same_first : place ≢ (space, number) → is_among_first space number place ≡ is_among_first space (number + 1) place
    same_first other = elim (eqb_tells place.0 space) [
      | inl same ↦ ap (λ (t : Bool). (place.0 == space) && t) (next_number place.1 number (λ e. other (λ i. (same.1 i, e i))))
      | inr away ↦ ap (λ (t : Bool). t && nat_lt place.1 number) away.0 ∙ sym (ap (λ (t : Bool). t && nat_lt place.1 (number + 1)) away.0)
    ]

pub reads_more : (m : DiskImage) (space count number : ℕ) (first old new : PagesByPlace) (bytes : List ℕ) → number < count → ReadsSome space count number first old m → new ≡ finite.insert old (space, number) bytes → GivesQuiet m space number bytes
    → ReadsSome space count (number + 1) first new m
reads_more m space count number first old new bytes low so_far is gives = λ quiet size done agrees q.
    let there : is_some (bytes_at m (space, number)) ≡ true = there_below m (space, number) ∙ ap (λ (o : Option ℕ). is_below number o) size ∙ lt-ltb number count low in
    ap (λ (p : PagesByPlace). finite.get p q) (place_read m (space, number) old new bytes there is gives quiet)
    ∙ agrees-joined row_cmp_total row_cmp_exact (λ p. is_among_first space number p || done p) (bytes_at m) old (space, number) (so_far quiet size done agrees) q
    ∙ ap (λ (b : Bool). cond b (bytes_at m q) None) (one_more_first space number q (done q))

-- ---- every page

-- all pages of the spaces of these entries were read
abbrev pub ReadsNamed : Counted → List (ℕ × ℕ) → PagesByPlace → DiskImage → Type 0
ReadsNamed sizes es pages image = IsQuiet image → AreSizesOf sizes image → AgreesOn (λ place. is_named es place.0) (bytes_at image) pages

spread : (a l b : Bool) (w : Option (List ℕ)) → (a ≡ true → l ≡ false → w ≡ None) → cond ((a && l) || b) w None ≡ cond (a || b) w None
spread true true b w h = refl
spread true false b w h = either b w (h refl refl)
spread false l b w h = refl

pub named_more : (m : DiskImage) (sizes : Counted) (list : List (ℕ × ℕ)) (i : ℕ) (x : ℕ × ℕ) (old new : PagesByPlace) → list ≡ finite.entries sizes → i < length list → x ≡ get_or list i x
    → ReadsNamed sizes (take i list) old m → ReadsFirst x.0 x.1 old new m → ReadsNamed sizes (take (i + 1) list) new m
named_more m sizes list i x old new listed low is so_far first = λ quiet same q.
    let size : page_count m x.0 ≡ Some x.1 = sym (same x.0) ∙ get_at sizes list i x listed low is in
    first quiet size (λ p. is_named (take i list) p.0) (so_far quiet same) q
    ∙ spread (q.0 == x.0) (nat_lt q.1 x.1) (is_named (take i list) q.0) (bytes_at m q) (λ here past. beyond q size here past)
    ∙ ap (λ (b : Bool). cond b (bytes_at m q) None) (ap (λ (t : Bool). t || is_named (take i list) q.0) (sym (unsigned_tied q.0 x.0)) ∙ sym (named-more list i x q.0 low is))
  where
    beyond : (q : ℕ × ℕ) → page_count m x.0 ≡ Some x.1 → (q.0 == x.0) ≡ true → nat_lt q.1 x.1 ≡ false → bytes_at m q ≡ None
    beyond q size here past = elim (eqb_tells q.0 x.0) [
      | inl same ↦ none_there (bytes_at m q) (there_below m q ∙ ap (λ (o : Option ℕ). is_below q.1 o) (ap (page_count m) same.1 ∙ size) ∙ past)
      | inr other ↦ absurd (let e : true ≡ false = sym here ∙ other.0 in cc)
    ]

pub all_read : (m : DiskImage) (sizes : Counted) (list : List (ℕ × ℕ)) (i : ℕ) (pages : PagesByPlace) → list ≡ finite.entries sizes → length list ≤ i → ReadsNamed sizes (take i list) pages m → ReadsAll sizes pages m
all_read m sizes list i pages listed past read = λ quiet same.
    agrees-all (λ place. is_named (take i list) place.0) (bytes_at m) pages (read quiet same) (λ q away.
    let size : is_some (finite.get sizes q.0) ≡ false = ap is_some (get-entries sizes q.0 ∙ ap (finite.find nat_cmp q.0) (sym listed ∙ sym (take_all i list past))) ∙ away in
    let none : page_count m q.0 ≡ None = sym (same q.0) ∙ none_there (finite.get sizes q.0) size in
    none_there (bytes_at m q) (there_below m q ∙ ap (λ (o : Option ℕ). is_below q.1 o) none))

pub for_told : (o : Option DiskImage) (P : DiskImage → Type 0) → ((m : DiskImage) → P m) → ForTold o P
for_told None P all = tt
for_told (Some m) P all = all m

pub told_weaker : (o : Option DiskImage) (P Q : DiskImage → Type 0) → ((m : DiskImage) → P m → Q m) → ForTold o P → ForTold o Q
told_weaker None P Q to p = tt
told_weaker (Some m) P Q to p = to m p

pub named_first : (m : DiskImage) (sizes : Counted) (list : List (ℕ × ℕ)) (pages : PagesByPlace) → pages ≡ finite.empty → ReadsNamed sizes (take 0 list) pages m
named_first m sizes list pages is = λ quiet same q. ap (λ (p : PagesByPlace). finite.get p q) is ∙ get-empty row_cmp q
