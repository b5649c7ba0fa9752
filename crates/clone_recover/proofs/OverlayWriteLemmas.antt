-- What a disk holds once an overlay was written to it.
use Rattle.std.proofs.Common.{◌≡◌, ◌==◌, ◌&&◌, ◌<◌, ◌≤◌, ◌-◌, ◌||◌, ℕ, zero, suc, List, [], ◌∷◌, length, replicate, get_or, refl, sym, ap, subst, ◌∙◌, arith, Bool, true, false, cond, T, Some, None, is_some, inl, inr}
use Rattle.std.specs.Prelude.{nat_lt, option_map, option_and_then, unwrap_or, slice_get, slice_set, is_none, IfSome}
use Rattle.std.specs.declared.cmp.Ordering.{Ordering}
use Rattle.std.specs.declared.cmp.Ordering.TheVariants.{Less, Equal, Greater}
use Rattle.std.specs.declared.option.Option.{Option}
use Rattle.std.specs.FinMap as finite
use Rattle.std.specs.FinMap.{same_map, get-entries, entries_sorted, contains_key-keys, find, is_sorted}
use Rattle.std.specs.FinMap.Entries.{below_all}
use Rattle.std.specs.List.{list_any}
use Rattle.std.specs.Cmp.{nat_cmp_total}
use Rattle.std.specs.Ordering.{nat_cmp, eq_by_cmp, is_lt, is_eq}
use Rattle.std.proofs.lemmas.Bool.{cases_lt, lt-ltb, le-ltb}
use Rattle.std.proofs.lemmas.Bool.Decides.{eqb_tells}
use Rattle.std.proofs.lemmas.List.{length-map, length-append, length-replicate, get_or-replicate, get_or_append_left, get_or-append_right}
use Rattle.std.proofs.lemmas.Map.Lookups.{exact_unsigned}
use Rattle.std.proofs.lemmas.Option.{slice_get-get_or, slice_get_past, slice_get-map}
use Rattle.clone_base.proofs.MapEntries.{slice_get-set_same, slice_get-set_other}
use Rattle.clone_page.specs.Header as header
use Rattle.clone_outside.specs.Disk.{DiskImage, Spaces, page_of, whole, zero_page, changed, with_pages, edited, extended, with_created, with_extended, with_removed, space_numbers}
use Rattle.clone_outside.specs.declared.disk.Held.{Held}
use Rattle.clone_image.specs.Image.{Image}
use Rattle.clone_image.specs.Redone.{no_space, past_end, stands, standing_at, standing_in}
use Rattle.clone_overlay.specs.Covers.{Cover, Overlay}
use Rattle.clone_overlay.specs.Images.{redo_space, bytes_of, image_of, pages_in, IsQuiet}
use Rattle.clone_overlay.specs.Shown.{leaf_over, standing_over, Fits, Shows}
use Rattle.clone_overlay.proofs.Bases.{get_image}
use Rattle.clone_overlay.proofs.Entries.{get_set, get_taken, tied}
use Rattle.clone_recover.specs.Written.{with_whole, with_leaves, with_count, with_sheet, with_sheets, without_space, without_spaces, written_out, HasTablesOnly, IsWritten}

abbrev Pages : Type 0
Pages = Option (List Held)

-- one space was changed
record Touches (s : ℕ) (change : Pages → Pages) (old new : DiskImage) : Type 0 where
  own : finite.get new.spaces s ≡ change (finite.get old.spaces s)
  others : (q : ℕ) → (s == q) ≡ false → finite.get new.spaces q ≡ finite.get old.spaces q
  mark : new.mark ≡ old.mark

touch_both : (s : ℕ) (f g : Pages → Pages) (old mid new : DiskImage) → Touches s f old mid → Touches s g mid new → Touches s (λ o. g (f o)) old new
touch_both s f g old mid new a b = record {
  own = b.own ∙ ap g a.own;
  others = λ q other. b.others q other ∙ a.others q other;
  mark = b.mark ∙ a.mark;
}

itself : (s : ℕ) (x y : Pages) → cond (s == s) x y ≡ x
itself s x y = elim (eqb_tells s s) [ inl same ↦ ap (λ (b : Bool). cond b x y) same.0 | inr apart ↦ absurd (apart.1 refl) ]

set_touches : (m : DiskImage) (s : ℕ) (pages : List Held) → Touches s (λ _. Some pages) m (record m { spaces = finite.insert m.spaces s pages })
set_touches m s pages = record {
  own = get_set m.spaces s pages s ∙ itself s (Some pages) (finite.get m.spaces s);
  others = λ q other. get_set m.spaces s pages q ∙ ap (λ (b : Bool). cond b (Some pages) (finite.get m.spaces q)) other;
  mark = refl;
}

pages_touch : (m : DiskImage) (s : ℕ) (change : List Held → List Held) → Touches s (option_map change) m (record m { spaces = with_pages m.spaces s change })
pages_touch m s change = at (finite.get m.spaces s) refl
  where
    at : (o : Pages) → finite.get m.spaces s ≡ o → Touches s (option_map change) m (record m { spaces = with_pages m.spaces s change })
    at None is =
        let same : with_pages m.spaces s change ≡ m.spaces = ap (changed m.spaces s change) is in
        record {
          own = ap (λ (x : Spaces). finite.get x s) same ∙ is ∙ sym (ap (option_map change) is);
          others = λ q other. ap (λ (x : Spaces). finite.get x q) same;
          mark = refl;
        }
    at (Some pages) is =
        let same : with_pages m.spaces s change ≡ finite.insert m.spaces s (change pages) = ap (changed m.spaces s change) is in
        let set = set_touches m s (change pages) in
        record {
          own = ap (λ (x : Spaces). finite.get x s) same ∙ set.own ∙ sym (ap (option_map change) is);
          others = λ q other. ap (λ (x : Spaces). finite.get x q) same ∙ set.others q other;
          mark = refl;
        }

-- Pages of a space that are written.

put_in : List (ℕ × List ℕ) → Pages → Pages
put_in [] o = o
put_in (e ∷ es) o = put_in es (option_map (edited e.0 (λ _. whole e.1)) o)

leaves_touch : (s : ℕ) (m : DiskImage) (es : List (ℕ × List ℕ)) → Touches s (put_in es) m (with_leaves s m es)
unfolding put_in
leaves_touch s m [] = record { own = refl; others = λ q other. refl; mark = refl }
leaves_touch s m (e ∷ es) =
    let edit = edited e.0 (λ _. whole e.1) in
    touch_both s (option_map edit) (put_in es) m (with_whole s m e.0 e.1) (with_leaves s (with_whole s m e.0 e.1) es) (pages_touch m s edit) (leaves_touch s (with_whole s m e.0 e.1) es)

counted : Cover → Pages → Pages
counted cover o = cond (cover.kept == 0) (Some (replicate cover.count zero_page)) (option_map (extended cover.count) o)

count_touches : (s : ℕ) (m : DiskImage) (cover : Cover) → Touches s (counted cover) m (with_count s m cover)
unfolding counted
count_touches s m cover = at (cover.kept == 0)
  where
    at : (b : Bool) → Touches s (λ o. cond b (Some (replicate cover.count zero_page)) (option_map (extended cover.count) o)) m (cond b (with_created m s cover.count) (with_extended m s cover.count))
    at true = set_touches m s (replicate cover.count zero_page)
    at false = pages_touch m s (extended cover.count)

sheet_in : Cover → Pages → Pages
sheet_in cover o = put_in (finite.entries cover.leaves) (counted cover o)

sheet_touches : (m : DiskImage) (s : ℕ) (cover : Cover) → Touches s (sheet_in cover) m (with_sheet m s cover)
unfolding sheet_in
sheet_touches m s cover =
    touch_both s (counted cover) (put_in (finite.entries cover.leaves)) m (with_count s m cover) (with_sheet m s cover) (count_touches s m cover) (leaves_touch s (with_count s m cover) (finite.entries cover.leaves))

-- Lists in the order of their keys.

lt_not_eq : (r : Ordering) → T (is_lt r) → is_eq r ≡ false
lt_not_eq Less h = refl
lt_not_eq Equal h = absurd h
lt_not_eq Greater h = absurd h

parts : (a b : Bool) → T (a && b) → T a × T b
parts true b h = (tt, h)
parts false b h = absurd h

none_below : {X : Type 0} (x : ℕ) (es : List (ℕ × X)) → T (below_all nat_cmp x es) → find nat_cmp x es ≡ None
none_below x [] h = refl
none_below {X} x (e ∷ es) h =
    let p = parts (is_lt (nat_cmp x e.0)) (below_all nat_cmp x es) h in
    ap (λ (b : Bool). cond b (Some e.1) (find nat_cmp x es)) (lt_not_eq (nat_cmp x e.0) p.0) ∙ none_below x es p.1

-- Spaces that are written.

laid : Option Cover → Pages → Pages
laid None o = o
laid (Some cover) o = sheet_in cover o

get_sheets : (es : List (ℕ × Cover)) (m : DiskImage) → T (is_sorted nat_cmp es) → (q : ℕ) → finite.get (with_sheets m es).spaces q ≡ laid (find nat_cmp q es) (finite.get m.spaces q)
unfolding laid
get_sheets [] m sorted q = refl
get_sheets (e ∷ es) m sorted q =
    let p = parts (below_all nat_cmp e.0 es) (is_sorted nat_cmp es) sorted in
    let n = with_sheet m e.0 e.1 in
    let touch = sheet_touches m e.0 e.1 in
    let rest = get_sheets es n p.1 q in
    elim (eqb_tells e.0 q) [
      | inl same ↦
          let none : find nat_cmp q es ≡ None = ap (λ k. find nat_cmp k es) (sym same.1) ∙ none_below e.0 es p.0 in
          rest ∙ ap (λ o. laid o (finite.get n.spaces q)) none
          ∙ subst (λ (k : ℕ). finite.get n.spaces k ≡ sheet_in e.1 (finite.get m.spaces k)) same.1 touch.own
          ∙ sym (ap (λ (b : Bool). laid (cond b (Some e.1) (find nat_cmp q es)) (finite.get m.spaces q)) (tied e.0 q ∙ same.0))
      | inr other ↦
          rest ∙ ap (laid (find nat_cmp q es)) (touch.others q other.0)
          ∙ sym (ap (λ (b : Bool). laid (cond b (Some e.1) (find nat_cmp q es)) (finite.get m.spaces q)) (tied e.0 q ∙ other.0))
    ]

sheets_mark : (es : List (ℕ × Cover)) (m : DiskImage) → (with_sheets m es).mark ≡ m.mark
sheets_mark [] m = refl
sheets_mark (e ∷ es) m = sheets_mark es (with_sheet m e.0 e.1) ∙ (sheet_touches m e.0 e.1).mark

-- Spaces that are removed.

is_gone : Overlay → ℕ → Bool
is_gone overlay q = nat_lt q redo_space && is_none (finite.get overlay q)

step_get : (overlay : Overlay) (m : DiskImage) (s q : ℕ) → finite.get (without_space overlay m s).spaces q ≡ cond (is_gone overlay s && (s == q)) None (finite.get m.spaces q)
unfolding is_gone
step_get overlay m s q = at (nat_lt s redo_space && is_none (finite.get overlay s))
  where
    at : (b : Bool) → finite.get (cond b (with_removed m s) m).spaces q ≡ cond (b && (s == q)) None (finite.get m.spaces q)
    at true = get_taken m.spaces s q
    at false = refl

keeps_space : (overlay : Overlay) (ss : List ℕ) (m : DiskImage) (q : ℕ) → is_gone overlay q ≡ false → finite.get (without_spaces overlay m ss).spaces q ≡ finite.get m.spaces q
keeps_space overlay [] m q stays = refl
keeps_space overlay (s ∷ ss) m q stays =
    keeps_space overlay ss (without_space overlay m s) q stays ∙ step_get overlay m s q
    ∙ elim (eqb_tells s q) [
      | inl same ↦ ap (λ (b : Bool). cond (b && (s == q)) None (finite.get m.spaces q)) (ap (is_gone overlay) same.1 ∙ stays)
      | inr other ↦ ap (λ (b : Bool). cond (is_gone overlay s && b) None (finite.get m.spaces q)) other.0 ∙ nowhere (is_gone overlay s)
    ]
  where
    nowhere : (b : Bool) → cond (b && false) None (finite.get m.spaces q) ≡ finite.get m.spaces q
    nowhere true = refl
    nowhere false = refl

both_none : (b : Bool) (o : Pages) → o ≡ None → cond b None o ≡ None
both_none true o none = refl
both_none false o none = none

none_stays : (overlay : Overlay) (ss : List ℕ) (m : DiskImage) (q : ℕ) → finite.get m.spaces q ≡ None → finite.get (without_spaces overlay m ss).spaces q ≡ None
none_stays overlay [] m q none = none
none_stays overlay (s ∷ ss) m q none =
    none_stays overlay ss (without_space overlay m s) q (step_get overlay m s q ∙ both_none (is_gone overlay s && (s == q)) (finite.get m.spaces q) none)

removes : (overlay : Overlay) (ss : List ℕ) (m : DiskImage) (q : ℕ) → is_gone overlay q ≡ true → list_any (eq_by_cmp nat_cmp q) ss ≡ true → finite.get (without_spaces overlay m ss).spaces q ≡ None
removes overlay [] m q gone any = absurd (let e : false ≡ true = any in cc)
removes overlay (s ∷ ss) m q gone any = elim (eqb_tells s q) [
  | inl same ↦
      none_stays overlay ss (without_space overlay m s) q
      (step_get overlay m s q ∙ ap (λ (b : Bool). cond (b && (s == q)) None (finite.get m.spaces q)) (ap (is_gone overlay) same.1 ∙ gone) ∙ ap (λ (b : Bool). cond b None (finite.get m.spaces q)) same.0)
  | inr other ↦ removes overlay ss (without_space overlay m s) q gone (sym (ap (λ (b : Bool). b || list_any (eq_by_cmp nat_cmp q) ss) (tied s q ∙ other.0)) ∙ any)
]

gone_space : (overlay : Overlay) (m : DiskImage) (q : ℕ) → is_gone overlay q ≡ true → finite.get (without_spaces overlay m (space_numbers m)).spaces q ≡ None
gone_space overlay m q gone = at (finite.get m.spaces q) refl
  where
    at : (o : Pages) → finite.get m.spaces q ≡ o → finite.get (without_spaces overlay m (space_numbers m)).spaces q ≡ None
    at None is = none_stays overlay (space_numbers m) m q is
    at (Some pages) is = removes overlay (space_numbers m) m q gone (sym (contains_key-keys m.spaces q) ∙ ap is_some is)

removed_mark : (overlay : Overlay) (ss : List ℕ) (m : DiskImage) → (without_spaces overlay m ss).mark ≡ m.mark
removed_mark overlay [] m = refl
removed_mark overlay (s ∷ ss) m = removed_mark overlay ss (without_space overlay m s) ∙ at (nat_lt s redo_space && is_none (finite.get overlay s))
  where
    at : (b : Bool) → (cond b (with_removed m s) m).mark ≡ m.mark
    at true = refl
    at false = refl

-- what is at a space in the end
written_get : (overlay : Overlay) (m : DiskImage) (q : ℕ) → finite.get (written_out overlay m).spaces q ≡ laid (finite.get overlay q) (finite.get (without_spaces overlay m (space_numbers m)).spaces q)
written_get overlay m q =
    get_sheets (finite.entries overlay) (without_spaces overlay m (space_numbers m)) (entries_sorted overlay) q
    ∙ ap (λ o. laid o (finite.get (without_spaces overlay m (space_numbers m)).spaces q)) (sym (get-entries overlay q))

at_none : (overlay : Overlay) (m : DiskImage) (q : ℕ) → finite.get overlay q ≡ None → nat_lt q redo_space ≡ true → finite.get (written_out overlay m).spaces q ≡ None
unfolding laid is_gone
at_none overlay m q none low =
    written_get overlay m q ∙ ap (λ o. laid o (finite.get (without_spaces overlay m (space_numbers m)).spaces q)) none
    ∙ gone_space overlay m q (ap (λ (b : Bool). b && is_none (finite.get overlay q)) low ∙ ap (λ o. is_none o) none)

at_high : (overlay : Overlay) (m : DiskImage) (q : ℕ) → finite.get overlay q ≡ None → nat_lt q redo_space ≡ false → finite.get (written_out overlay m).spaces q ≡ finite.get m.spaces q
unfolding laid is_gone
at_high overlay m q none high =
    written_get overlay m q ∙ ap (λ o. laid o (finite.get (without_spaces overlay m (space_numbers m)).spaces q)) none
    ∙ keeps_space overlay (space_numbers m) m q (ap (λ (b : Bool). b && is_none (finite.get overlay q)) high)

at_some : (overlay : Overlay) (m : DiskImage) (q : ℕ) (cover : Cover) → finite.get overlay q ≡ Some cover → finite.get (written_out overlay m).spaces q ≡ sheet_in cover (finite.get m.spaces q)
unfolding laid is_gone
at_some overlay m q cover is =
    written_get overlay m q ∙ ap (λ o. laid o (finite.get (without_spaces overlay m (space_numbers m)).spaces q)) is
    ∙ ap (sheet_in cover) (keeps_space overlay (space_numbers m) m q (ap (λ o. nat_lt q redo_space && is_none o) is ∙ never (nat_lt q redo_space)))
  where
    never : (b : Bool) → (b && false) ≡ false
    never true = refl
    never false = refl

-- Each page of a space that is written.

leaf_on : Option (List ℕ) → Held → Held
leaf_on None held = held
leaf_on (Some page) held = whole page

over_leaf : (o : Option Held) (leaf : Option (List ℕ)) → leaf ≡ None → option_map (leaf_on leaf) o ≡ o
unfolding leaf_on
over_leaf None leaf none = refl
over_leaf (Some held) leaf none = ap (λ l. Some (leaf_on l held)) none

put_pages : List (ℕ × List ℕ) → List Held → List Held
put_pages [] pages = pages
put_pages (e ∷ es) pages = put_pages es (edited e.0 (λ _. whole e.1) pages)

put_some : (es : List (ℕ × List ℕ)) (pages : List Held) → put_in es (Some pages) ≡ Some (put_pages es pages)
unfolding put_in put_pages
put_some [] pages = refl
put_some (e ∷ es) pages = put_some es (edited e.0 (λ _. whole e.1) pages)

at_edited : (pages : List Held) (k : ℕ) (held : Held) → slice_get (slice_set pages k held) k ≡ option_map (λ _. held) (slice_get pages k)
at_edited pages k held = elim (cases_lt k (length pages)) [
  | inl low ↦ slice_get-set_same pages k held low ∙ sym (ap (option_map (λ _. held)) (slice_get-get_or pages k zero_page low))
  | inr high ↦ past_set pages k held high ∙ sym (ap (option_map (λ _. held)) (slice_get_past pages k high))
]
  where
    past_set : (ps : List Held) (i : ℕ) (h : Held) → length ps ≤ i → slice_get (slice_set ps i h) i ≡ None
    past_set [] i h le = refl
    past_set (p ∷ ps) zero h le = absurd (omega (arith, le))
    past_set (p ∷ ps) (suc i) h le = past_set ps i h (omega (arith, le))

put_at_page : (es : List (ℕ × List ℕ)) (pages : List Held) (n : ℕ) → T (is_sorted nat_cmp es) → slice_get (put_pages es pages) n ≡ option_map (leaf_on (find nat_cmp n es)) (slice_get pages n)
unfolding put_pages leaf_on
put_at_page [] pages n sorted = same (slice_get pages n)
  where
    same : (o : Option Held) → o ≡ option_map (λ h. h) o
    same None = refl
    same (Some h) = refl
put_at_page (e ∷ es) pages n sorted =
    let p = parts (below_all nat_cmp e.0 es) (is_sorted nat_cmp es) sorted in
    let held = whole e.1 in
    let rest = put_at_page es (edited e.0 (λ _. held) pages) n p.1 in
    elim (eqb_tells e.0 n) [
      | inl same ↦
          let none : find nat_cmp n es ≡ None = ap (λ k. find nat_cmp k es) (sym same.1) ∙ none_below e.0 es p.0 in
          rest ∙ over_leaf (slice_get (slice_set pages e.0 held) n) (find nat_cmp n es) none
          ∙ subst (λ (k : ℕ). slice_get (slice_set pages e.0 held) k ≡ option_map (λ _. held) (slice_get pages k)) same.1 (at_edited pages e.0 held)
          ∙ sym (ap (λ (b : Bool). option_map (leaf_on (cond b (Some e.1) (find nat_cmp n es))) (slice_get pages n)) (tied e.0 n ∙ same.0))
      | inr other ↦
          rest ∙ ap (option_map (leaf_on (find nat_cmp n es))) (slice_get-set_other pages e.0 n held (λ e. other.1 (sym e)))
          ∙ sym (ap (λ (b : Bool). option_map (leaf_on (cond b (Some e.1) (find nat_cmp n es))) (slice_get pages n)) (tied e.0 n ∙ other.0))
    ]

-- a page that isn't being written
abbrev IsStill : Option Held → Type 0
IsStill o = IfSome o (λ held. held.writing ≡ false)

-- the pages of a space by their bytes
abbrev base_in : Pages → List (List ℕ)
base_in old = unwrap_or (option_map bytes_of old) []

-- what a page is before those that are held are written
abbrev ground : List (List ℕ) → Cover → ℕ → List ℕ
ground base cover n = cond (nat_lt n cover.kept) (get_or base n []) header.zero_page

-- the pages that a space has then
record Grounds (cover : Cover) (old : Pages) : Type 0 where
  pages : List Held
  is : counted cover old ≡ Some pages
  here : (n : ℕ) → n < cover.count → (held : Held) × (slice_get pages n ≡ Some held) × (held.bytes ≡ ground (base_in old) cover n)
  past : (n : ℕ) → cover.count ≤ n → slice_get pages n ≡ None
  still : ((n : ℕ) → IsStill (option_and_then (λ ps. slice_get ps n) old)) → (n : ℕ) → IsStill (slice_get pages n)

zeros : (n count : ℕ) → n < count → slice_get (replicate count zero_page) n ≡ Some zero_page
zeros n count low = slice_get-get_or (replicate count zero_page) n zero_page (omega (arith, low, length-replicate count zero_page)) ∙ ap (λ h. Some h) (get_or-replicate count n zero_page zero_page low)

past_zeros : (n count : ℕ) → count ≤ n → slice_get (replicate count zero_page) n ≡ None
past_zeros n count high = slice_get_past (replicate count zero_page) n (omega (arith, high, length-replicate count zero_page))

zeros_still : (n count : ℕ) → IsStill (slice_get (replicate count zero_page) n)
zeros_still n count = elim (cases_lt n count) [
  | inl low ↦ subst IsStill (sym (zeros n count low)) refl
  | inr high ↦ subst IsStill (sym (past_zeros n count high)) tt
]

at_bytes : (hs : List Held) (n : ℕ) → n < length hs → get_or (bytes_of hs) n [] ≡ (get_or hs n zero_page).bytes
at_bytes [] n lt = absurd (omega (arith, lt))
at_bytes (h ∷ hs) zero lt = refl
at_bytes (h ∷ hs) (suc n) lt = at_bytes hs n (omega (arith, lt))

made_grounds : (cover : Cover) (old : Pages) → cover.kept ≡ 0 → (cover.kept == 0) ≡ true → Grounds cover old
unfolding counted
made_grounds cover old none test = record {
  pages = replicate cover.count zero_page;
  is = ap (λ (b : Bool). cond b (Some (replicate cover.count zero_page)) (option_map (extended cover.count) old)) test;
  here = λ n low. (zero_page, zeros n cover.count low, sym (ap (λ (b : Bool). cond b (get_or (base_in old) n []) header.zero_page) (le-ltb n cover.kept (omega (arith, none)))));
  past = λ n high. past_zeros n cover.count high;
  still = λ was n. zeros_still n cover.count;
}

module _ (hs : List Held) (count : ℕ) (fits : length hs ≤ count) where
  more : List Held
  more = replicate (count - length hs) zero_page

  all_long : length (extended count hs) ≡ count
  unfolding more
  all_long = length-append hs more ∙ omega (arith, length-replicate (count - length hs) zero_page, fits)

  in_old : (n : ℕ) → n < length hs → slice_get (extended count hs) n ≡ Some (get_or hs n zero_page)
  unfolding more
  in_old n lt = slice_get-get_or (extended count hs) n zero_page (omega (arith, lt, fits, all_long)) ∙ ap (λ h. Some h) (get_or_append_left hs more zero_page n lt)

  in_new : (n : ℕ) → length hs ≤ n → n < count → slice_get (extended count hs) n ≡ Some zero_page
  unfolding more
  in_new n le lt =
      slice_get-get_or (extended count hs) n zero_page (omega (arith, lt, all_long))
      ∙ ap (λ h. Some h) (get_or-append_right hs more (length hs) n zero_page refl le ∙ get_or-replicate (count - length hs) (n - length hs) zero_page zero_page (omega (arith, le, lt)))

kept_grounds : (cover : Cover) (hs : List Held) → (cover.kept == 0) ≡ false → cover.kept ≡ length hs → cover.kept ≤ cover.count → Grounds cover (Some hs)
unfolding counted
kept_grounds cover hs test kept low = record {
  pages = extended cover.count hs;
  is = ap (λ (b : Bool). cond b (Some (replicate cover.count zero_page)) (Some (extended cover.count hs))) test;
  here = λ n lt. elim (cases_lt n cover.kept) [
    | inl old ↦ (
      get_or hs n zero_page,
      in_old hs cover.count (omega (arith, kept, low)) n (omega (arith, old, kept)),
      sym (ap (λ (b : Bool). cond b (get_or (bytes_of hs) n []) header.zero_page) (lt-ltb n cover.kept old) ∙ at_bytes hs n (omega (arith, old, kept))),
    )
    | inr new ↦ (
      zero_page,
      in_new hs cover.count (omega (arith, kept, low)) n (omega (arith, new, kept)) lt,
      sym (ap (λ (b : Bool). cond b (get_or (bytes_of hs) n []) header.zero_page) (le-ltb n cover.kept new)),
    )
  ];
  past = λ n high. slice_get_past (extended cover.count hs) n (omega (arith, high, all_long hs cover.count (omega (arith, kept, low))));
  still = λ was n. elim (cases_lt n cover.kept) [
    | inl old ↦
        subst IsStill (slice_get-get_or hs n zero_page (omega (arith, old, kept)) ∙ sym (in_old hs cover.count (omega (arith, kept, low)) n (omega (arith, old, kept)))) (was n)
    | inr new ↦ elim (cases_lt n cover.count) [
      | inl lt ↦ subst IsStill (sym (in_new hs cover.count (omega (arith, kept, low)) n (omega (arith, new, kept)) lt)) refl
      | inr high ↦ subst IsStill (sym (slice_get_past (extended cover.count hs) n (omega (arith, high, all_long hs cover.count (omega (arith, kept, low)))))) tt
    ]
  ];
}

grounds : (cover : Cover) (old : Pages) → Fits (base_in old) cover → Grounds cover old
grounds cover old fits = elim (eqb_tells cover.kept 0) [
  | inl none ↦ made_grounds cover old none.1 none.0
  | inr some ↦ elim fits.kept [ inl none ↦ absurd (some.1 none) | inr all ↦ at old all some.0 some.1 ]
]
  where
    at : (o : Pages) → cover.kept ≡ length (base_in o) → (cover.kept == 0) ≡ false → (cover.kept ≡ 0 → ⊥) → Grounds cover o
    at None all test some = absurd (some all)
    at (Some hs) all test some = kept_grounds cover hs test (all ∙ length-map hs (λ (h : Held). h.bytes)) fits.low

-- A space of the overlay, once it was written.

leaf_bytes : (o : Option (List ℕ)) (held : Held) → (leaf_on o held).bytes ≡ unwrap_or o held.bytes
unfolding leaf_on
leaf_bytes None held = refl
leaf_bytes (Some page) held = refl

leaf_still : (o : Option (List ℕ)) (p : Option Held) → IsStill p → IsStill (option_map (leaf_on o) p)
unfolding leaf_on
leaf_still o None still = tt
leaf_still None (Some held) still = still
leaf_still (Some page) (Some held) still = refl

record IsLaid (cover : Cover) (old : Pages) : Type 0 where
  pages : List Held
  is : sheet_in cover old ≡ Some pages
  standings : (n : ℕ) → standing_at (slice_get (bytes_of pages) n) ≡ standing_over (base_in old) (Some cover) n
  still : ((n : ℕ) → IsStill (option_and_then (λ ps. slice_get ps n) old)) → (n : ℕ) → IsStill (slice_get pages n)

is_laid : (cover : Cover) (old : Pages) → Fits (base_in old) cover → IsLaid cover old
unfolding sheet_in
is_laid cover old fits =
    let g = grounds cover old fits in
    let es = finite.entries cover.leaves in
    let at = λ (n : ℕ). put_at_page es g.pages n (entries_sorted cover.leaves) ∙ ap (λ o. option_map (leaf_on o) (slice_get g.pages n)) (sym (get-entries cover.leaves n)) in
    record {
      pages = put_pages es g.pages;
      is = ap (put_in es) g.is ∙ put_some es g.pages;
      standings = λ n.
          ap standing_at (slice_get-map (λ (h : Held). h.bytes) (put_pages es g.pages) n ∙ ap (option_map (λ (h : Held). h.bytes)) (at n))
          ∙ elim (cases_lt n cover.count) [
            | inl low ↦
                let here = g.here n low in
                ap (λ (o : Option Held). standing_at (option_map (λ (h : Held). h.bytes) (option_map (leaf_on (finite.get cover.leaves n)) o))) here.1
                ∙ ap stands (leaf_bytes (finite.get cover.leaves n) here.0 ∙ ap (unwrap_or (finite.get cover.leaves n)) here.2)
                ∙ sym (ap (λ (b : Bool). cond b (stands (leaf_over (base_in old) cover n)) past_end) (lt-ltb n cover.count low))
            | inr high ↦
                ap (λ (o : Option Held). standing_at (option_map (λ (h : Held). h.bytes) (option_map (leaf_on (finite.get cover.leaves n)) o))) (g.past n high)
                ∙ sym (ap (λ (b : Bool). cond b (stands (leaf_over (base_in old) cover n)) past_end) (le-ltb n cover.count high))
          ];
      still = λ was n. subst IsStill (sym (at n)) (leaf_still (finite.get cover.leaves n) (slice_get g.pages n) (g.still was n));
    }

-- Images whose pages stand alike.

same_stand : (a b : List ℕ) → stands a ≡ stands b → a ≡ b
same_stand a b e = cc

same_pages : (a b : List (List ℕ)) → ((n : ℕ) → standing_at (slice_get a n) ≡ standing_at (slice_get b n)) → a ≡ b
same_pages [] [] same = refl
same_pages [] (y ∷ b) same = absurd (let e = same 0 in cc)
same_pages (x ∷ a) [] same = absurd (let e = same 0 in cc)
same_pages (x ∷ a) (y ∷ b) same = λ i. same_stand x y (same 0) i ∷ same_pages a b (λ n. same (suc n)) i

pub no_space_none : (o : Option (List (List ℕ))) → standing_in o 0 ≡ no_space → o ≡ None
no_space_none None e = refl
no_space_none (Some []) e = absurd (cc)
no_space_none (Some (p ∷ ps)) e = absurd (cc)

pub some_same : (o : Option (List (List ℕ))) (pages : List (List ℕ)) → ((n : ℕ) → standing_at (slice_get pages n) ≡ standing_in o n) → Some pages ≡ o
some_same None pages same = absurd (never pages (same 0))
  where
    never : (ps : List (List ℕ)) → standing_at (slice_get ps 0) ≡ no_space → ⊥
    never [] e = absurd (cc)
    never (p ∷ ps) e = absurd (cc)
some_same (Some others) pages same = ap (λ p. Some p) (same_pages pages others same)

-- where the image has no space, neither has the overlay
no_cover : (base : List (List ℕ)) (o : Option Cover) → no_space ≡ standing_over base o 0 → o ≡ None
no_cover base None e = refl
no_cover base (Some cover) e = absurd (at (nat_lt 0 cover.count) e)
  where
    at : (b : Bool) → no_space ≡ cond b (stands (leaf_over base cover 0)) past_end → ⊥
    at true h = absurd (cc)
    at false h = absurd (cc)

module _ (m : DiskImage) (overlay : Overlay) (image : Image) (quiet : IsQuiet m) (only : HasTablesOnly image) (shows : Shows (image_of m) image overlay) where
  high_cover : (q : ℕ) → redo_space ≤ q → finite.get overlay q ≡ None
  high_cover q high = no_cover (pages_in (image_of m) q) (finite.get overlay q) (sym (ap (λ o. standing_in o 0) (only q high)) ∙ shows.standings q 0)

  base_is : (q : ℕ) → nat_lt q redo_space ≡ true → pages_in (image_of m) q ≡ base_in (finite.get m.spaces q)
  base_is q low = ap (λ o. unwrap_or o []) (get_image m q ∙ ap (λ (b : Bool). cond b (option_map bytes_of (finite.get m.spaces q)) None) low)

  laid_at : (q : ℕ) (cover : Cover) → finite.get overlay q ≡ Some cover → nat_lt q redo_space ≡ true → IsLaid cover (finite.get m.spaces q)
  laid_at q cover is low =
      is_laid cover (finite.get m.spaces q) (subst (λ b. Fits b cover) (base_is q low) (subst (λ (o : Option Cover). IfSome o (Fits (pages_in (image_of m) q))) is (shows.fits q)))

  image_at : (q : ℕ) (b : Bool) → nat_lt q redo_space ≡ b → (o : Option Cover) → finite.get overlay q ≡ o → finite.get (image_of (written_out overlay m)) q ≡ finite.get image q
  image_at q false high o is =
      get_image (written_out overlay m) q ∙ ap (λ (b : Bool). cond b (option_map bytes_of (finite.get (written_out overlay m).spaces q)) None) high
      ∙ sym (only q (at_least q high))
    where
      at_least : (k : ℕ) → nat_lt k redo_space ≡ false → redo_space ≤ k
      at_least k e = elim (cases_lt k redo_space) [ inl lt ↦ absurd (let f : true ≡ false = sym (lt-ltb k redo_space lt) ∙ e in cc) | inr le ↦ le ]
  image_at q true low None is =
      get_image (written_out overlay m) q ∙ ap (λ (b : Bool). cond b (option_map bytes_of (finite.get (written_out overlay m).spaces q)) None) low
      ∙ ap (option_map bytes_of) (at_none overlay m q is low)
      ∙ sym (no_space_none (finite.get image q) (shows.standings q 0 ∙ ap (λ o. standing_over (pages_in (image_of m) q) o 0) is))
  image_at q true low (Some cover) is =
      let l = laid_at q cover is low in
      get_image (written_out overlay m) q ∙ ap (λ (b : Bool). cond b (option_map bytes_of (finite.get (written_out overlay m).spaces q)) None) low
      ∙ ap (option_map bytes_of) (at_some overlay m q cover is ∙ l.is)
      ∙ some_same (finite.get image q) (bytes_of l.pages)
      (λ n. l.standings n ∙ ap (λ b. standing_over b (Some cover) n) (sym (base_is q low)) ∙ ap (λ o. standing_over (pages_in (image_of m) q) o n) (sym is) ∙ sym (shows.standings q n))

  still_at : (q n : ℕ) (b : Bool) → nat_lt q redo_space ≡ b → (o : Option Cover) → finite.get overlay q ≡ o → IsStill (page_of (written_out overlay m) q n)
  still_at q n false high o is = subst (λ (p : Pages). IsStill (option_and_then (λ ps. slice_get ps n) p)) (sym (at_high overlay m q (high_cover q (at_least q high)) high)) (quiet q n)
    where
      at_least : (k : ℕ) → nat_lt k redo_space ≡ false → redo_space ≤ k
      at_least k e = elim (cases_lt k redo_space) [ inl lt ↦ absurd (let f : true ≡ false = sym (lt-ltb k redo_space lt) ∙ e in cc) | inr le ↦ le ]
  still_at q n true low None is = subst (λ (p : Pages). IsStill (option_and_then (λ ps. slice_get ps n) p)) (sym (at_none overlay m q is low)) tt
  still_at q n true low (Some cover) is =
      let l = laid_at q cover is low in
      subst (λ (p : Pages). IsStill (option_and_then (λ ps. slice_get ps n) p)) (sym (at_some overlay m q cover is ∙ l.is)) (l.still (quiet q) n)

  is_written : IsWritten m (written_out overlay m) image
  is_written = record {
    is = same_map nat_cmp_total exact_unsigned _ _ (λ q. image_at q (nat_lt q redo_space) refl (finite.get overlay q) refl);
    quiet = λ q n. still_at q n (nat_lt q redo_space) refl (finite.get overlay q) refl;
    others = λ q high. at_high overlay m q (high_cover q high) (le-ltb q redo_space high);
    mark = sheets_mark (finite.entries overlay) (without_spaces overlay m (space_numbers m)) ∙ removed_mark overlay (space_numbers m) m;
  }

-- an overlay that is written leaves the image that it shows
pub writes : (m : DiskImage) (overlay : Overlay) (image : Image) → IsQuiet m → HasTablesOnly image → Shows (image_of m) image overlay → IsWritten m (written_out overlay m) image
writes m overlay image quiet only shows = is_written m overlay image quiet only shows
