-- What a call of a disk changes is noted, and what is noted of two calls.
use Rattle.std.proofs.Common.{◌≡◌, ◌≢◌, ◌<◌, ℕ, zero, suc, List, Bool, true, false, cond, ◌||◌, Some, None, is_some, IsSome, unwrap_or, replicate, Result, Ok, Err, refl, sym, ap, subst, ◌∙◌, inl, inr, arith}
use Rattle.std.specs.Prelude.{IsSomeAnd, slice_get}
use Rattle.std.specs.declared.option.Option.{Option}
use Rattle.std.specs.FinSet as set
use Rattle.std.specs.FinSet.{contains-empty, contains-insert, contains-union, same_set}
use Rattle.std.specs.Cmp.{nat_cmp_total}
use Rattle.std.specs.Ordering.{nat_cmp, eq_by_cmp}
use Rattle.std.proofs.lemmas.Bool.{cases_eq}
use Rattle.std.proofs.lemmas.Map.Lookups.{exact_unsigned}
use Rattle.clone_base.proofs.MapEntries.{apart, ties}
use Rattle.clone_model.specs.Keys.{row_cmp}
use Rattle.clone_model.proofs.RowMaps.{row_cmp_exact, row_cmp_total}
use Rattle.clone_outside.specs.Disk as disk
use Rattle.clone_outside.specs.Disk.{DiskImage, IsBeforeOrAfter, Opens, Steps, opened, with_created, with_extended, with_mark, with_page, with_removed}
use Rattle.clone_outside.specs.DiskCalls.{Changes, DiskState, Orders, Takes}
use Rattle.clone_outside.specs.Stops.{DiskChange}
use Rattle.clone_outside.specs.declared.Refusal.{Refusal}
use Rattle.clone_outside.specs.declared.Refusal.TheVariants.{Fault, NoMemory}
use Rattle.clone_outside.specs.declared.disk.DiskOrder.{DiskOrder}
use Rattle.clone_outside.specs.declared.disk.Held.{Held}
use Rattle.clone_page.specs.Header.{zero_page}
use Rattle.clone_increment.specs.Copies.{bytes_at}
use Rattle.clone_increment.specs.Histories.{ChangedOnly}
use Rattle.clone_increment.specs.Tracked.{Changed, no_changes, with_made, with_written}
use Rattle.clone_increment.specs.Noting.{ForBothTold, IsNoted, NoneReturns, both, with_first_written}
use Rattle.clone_increment.proofs.DiskPageLemmas.{bytes_of, created_below, created_here, created_other, extended_at, page_other, page_there, removed_at}

-- ---- what is told before a call and after it

pub same_told : (P : DiskImage → DiskImage → Type 0) → ((m : DiskImage) → P m m) → (old new : Option DiskImage) → new ≡ old → ForBothTold P old new
same_told P stays None new e = tt
same_told P stays (Some m) new e = subst (λ (o : Option DiskImage). IsSomeAnd o (P m)) (sym e) (stays m)

pub step_told : (P : DiskImage → DiskImage → Type 0) (step : DiskImage → DiskImage) → ((m : DiskImage) → P m (step m)) → (old new : Option DiskImage) → Steps old new step → ForBothTold P old new
step_told P step steps None new e = tt
step_told P step steps (Some m) new e = subst (λ (o : Option DiskImage). IsSomeAnd o (P m)) (sym e) (steps m)

either_told : (P : DiskImage → DiskImage → Type 0) (step : DiskImage → DiskImage) → ((m : DiskImage) → P m m) → ((m : DiskImage) → P m (step m)) → (old new : Option DiskImage) → IsBeforeOrAfter old new step → ForBothTold P old new
either_told P step stays steps old new (inl same) = same_told P stays old new same
either_told P step stays steps old new (inr is) = step_told P step steps old new is

pub takes_told : {T : Type 0} (P : DiskImage → DiskImage → Type 0) (change : DiskChange) (step : DiskImage → DiskImage) → ((m : DiskImage) → P m m) → ((m : DiskImage) → P m (step m))
    → (before after : DiskState) (result : Result T Refusal) → Takes change step before after result → ForBothTold P before.told after.told
takes_told P change step stays steps before after (Ok x) is = step_told P step steps before.told after.told is.done
takes_told P change step stays steps before after (Err Fault) is = either_told P step stays steps before.told after.told (is.failed refl)
takes_told P change step stays steps before after (Err NoMemory) is = same_told P stays before.told after.told (is.memory refl)

pub writes_told : {T : Type 0} (P : DiskImage → DiskImage → Type 0) (change : DiskChange) (space number : ℕ) (edit : Held → Held) → ((m : DiskImage) → P m m) → ((m : DiskImage) (edit : Held → Held) → P m (with_page m space number edit))
    → (before after : DiskState) (result : Result T Refusal) → Changes change (λ m. with_page m space number edit) (Opens space number) before after result → ForBothTold P before.told after.told
writes_told P change space number edit stays steps before after (Ok x) is = step_told P (λ m. with_page m space number edit) (λ m. steps m edit) before.told after.told is.done
writes_told P change space number edit stays steps before after (Err Fault) is =
    let opens = is.failed refl in
    step_told P (λ m. with_page m space number (opened opens.0)) (λ m. steps m (opened opens.0)) before.told after.told opens.1
writes_told P change space number edit stays steps before after (Err NoMemory) is = same_told P stays before.told after.told (is.memory refl)

order_tells : {X E : Type 0} (order : DiskOrder) (old new : DiskState) (result : Result X E) → Orders order old new result → new.told ≡ old.told
order_tells order old new (Ok x) is = ap (λ (s : DiskState). s.told) is
order_tells order old new (Err e) is = ap (λ (s : DiskState). s.told) is

pub order_told : {X E : Type 0} (P : DiskImage → DiskImage → Type 0) (order : DiskOrder) → ((m : DiskImage) → P m m) → (old new : DiskState) (result : Result X E) → Orders order old new result → ForBothTold P old.told new.told
order_told P order stays old new result is = same_told P stays old.told new.told (order_tells order old new result is)

-- ---- what each call changes

-- no space was made
abbrev MadeNone : Changed → Type 0
MadeNone changed = (space : ℕ) → set.contains changed.made space ≡ false

made_none : MadeNone no_changes
made_none space = contains-empty nat_cmp space

first_made_none : (space count : ℕ) → MadeNone (with_first_written no_changes space count)
first_made_none space zero = made_none
first_made_none space (suc number) = first_made_none space number

itself : (o : Option (List ℕ)) → IsSome o → o ≡ Some (unwrap_or o zero_page)
itself None there = cc
itself (Some bytes) there = refl

unmade : (made : Bool) (now before : Option (List ℕ)) → made ≡ false → now ≡ Some (unwrap_or before zero_page) → now ≡ Some (cond made zero_page (unwrap_or before zero_page))
unmade made now before none is = is ∙ sym (ap (λ (b : Bool). Some (cond b zero_page (unwrap_or before zero_page))) none)

same_noted : (changed : Changed) → MadeNone changed → (m : DiskImage) → IsNoted changed m m
same_noted changed none m = record {
  only = λ place there away. unmade (set.contains changed.made place.0) (bytes_at m place) (bytes_at m place) (none place.0) (itself (bytes_at m place) there);
  none_new = λ place there away old. there;
}

-- a page that is as it was where it isn't noted
kept_noted : (changed : Changed) (old new : DiskImage) → MadeNone changed → ((place : ℕ × ℕ) → IsSome (bytes_at new place) → set.contains changed.written place ≡ false → bytes_at new place ≡ bytes_at old place) → IsNoted changed old new
kept_noted changed old new none same = record {
  only = λ place there away. unmade (set.contains changed.made place.0) (bytes_at new place) (bytes_at old place) (none place.0)
      (same place there away ∙ itself (bytes_at old place) (ap is_some (sym (same place there away)) ∙ there));
  none_new = λ place there away kept. ap is_some (sym (same place there away)) ∙ there;
}

others_written : (changed : Changed) (place p : ℕ × ℕ) → set.contains (with_written changed p).written place ≡ false → place ≢ p
others_written changed place p away same =
    let tied : eq_by_cmp row_cmp place p ≡ true = ap (λ (q : ℕ × ℕ). eq_by_cmp row_cmp q p) same ∙ ties row_cmp_total row_cmp_exact p in
    let in_it : set.contains (with_written changed p).written place ≡ true = contains-insert row_cmp_total changed.written p place ∙ ap (λ (b : Bool). b || set.contains changed.written place) tied in
    let e = sym in_it ∙ away in cc

pub page_noted : (space number : ℕ) (m : DiskImage) (edit : Held → Held) → IsNoted (with_written no_changes (space, number)) m (with_page m space number edit)
page_noted space number m edit =
    kept_noted (with_written no_changes (space, number)) m (with_page m space number edit) made_none (λ place there away.
    page_other m space number edit place (others_written no_changes place (space, number) away))

pub page_stays : (space number : ℕ) (m : DiskImage) → IsNoted (with_written no_changes (space, number)) m m
page_stays space number m = same_noted (with_written no_changes (space, number)) made_none m

pub nothing_noted : (m : DiskImage) → IsNoted no_changes m m
nothing_noted m = same_noted no_changes made_none m

pub extended_only : (space count : ℕ) (m : DiskImage) → ChangedOnly no_changes m (with_extended m space count)
extended_only space count m = λ place there away.
    unmade (set.contains no_changes.made place.0) (bytes_at (with_extended m space count) place) (bytes_at m place) (made_none place.0) (extended_at m space count place there)

pub stays_only : (m : DiskImage) → ChangedOnly no_changes m m
stays_only m = (nothing_noted m).only

pub removed_noted : (space : ℕ) (m : DiskImage) → IsNoted no_changes m (with_removed m space)
removed_noted space m = kept_noted no_changes m (with_removed m space) made_none (λ place there away. removed_at m space place there)

pub mark_noted : (mark : List ℕ) (m : DiskImage) → IsNoted no_changes m (with_mark m mark)
mark_noted mark m = kept_noted no_changes m (with_mark m mark) made_none (λ place there away. refl)

-- ---- a space that is made

is_below : (count n : ℕ) → IsSome (bytes_of (slice_get (replicate count disk.zero_page) n)) → n < count
is_below zero n there = cc
is_below (suc count) zero there = omega arith
is_below (suc count) (suc n) there = omega (arith, is_below count n there)

or_true : (a b : Bool) → b ≡ true → (a || b) ≡ true
or_true true b e = refl
or_true false b e = e

first_written : (changed : Changed) (space count n : ℕ) → n < count → set.contains (with_first_written changed space count).written (space, n) ≡ true
first_written changed space zero n low = absurd (omega (arith, low))
first_written changed space (suc count) n low =
    contains-insert row_cmp_total before.written (space, count) (space, n) ∙ elim (cases_eq n count) [
      | inl same ↦ ap (λ (b : Bool). b || set.contains before.written (space, n)) (ap (λ (q : ℕ). eq_by_cmp row_cmp (space, q) (space, count)) same ∙ ties row_cmp_total row_cmp_exact (space, count))
      | inr other ↦ or_true (eq_by_cmp row_cmp (space, n) (space, count)) (set.contains before.written (space, n)) (first_written changed space count n (omega (arith, low, other)))
    ]
  where
    before : Changed
    before = with_first_written changed space count

pub created_noted : (space count : ℕ) (m : DiskImage) → IsNoted (with_first_written no_changes space count) m (with_created m space count)
created_noted space count m = kept_noted changed m (with_created m space count) (first_made_none space count) (λ place there away. elim (cases_eq place.0 space) [
  | inl same ↦ absurd (own place same there away)
  | inr other ↦ created_other m space count place other
])
  where
    changed : Changed
    changed = with_first_written no_changes space count

    own : (place : ℕ × ℕ) → place.0 ≡ space → IsSome (bytes_at (with_created m space count) place) → set.contains changed.written place ≡ false → ⊥
    own place same there away =
        let at : place ≡ (space, place.1) = λ i. (same i, place.1) in
        let low : place.1 < count = is_below count place.1 (created_below m space count place.1 (ap (λ (p : ℕ × ℕ). is_some (bytes_at (with_created m space count) p)) (sym at) ∙ there)) in
        let e = sym (first_written no_changes space count place.1 low) ∙ ap (λ (p : ℕ × ℕ). set.contains changed.written p) (sym at) ∙ away in cc

pub uncreated_noted : (space count : ℕ) (m : DiskImage) → IsNoted (with_first_written no_changes space count) m m
uncreated_noted space count m = same_noted (with_first_written no_changes space count) (first_made_none space count) m

is_made : (space : ℕ) → set.contains (with_made no_changes space).made space ≡ true
is_made space =
    contains-insert nat_cmp_total no_changes.made space space ∙ ap (λ (b : Bool). b || set.contains no_changes.made space) (ties nat_cmp_total exact_unsigned space)

other_made : (space q : ℕ) → q ≢ space → set.contains (with_made no_changes space).made q ≡ false
other_made space q other = contains-insert nat_cmp_total no_changes.made space q ∙ (λ i. apart nat_cmp_total exact_unsigned q space other i || made_none q i)

pub made_noted : (space count : ℕ) (m : DiskImage) → IsNoted (with_made no_changes space) m (with_created m space count)
made_noted space count m = record {
  only = λ place there away. elim (cases_eq place.0 space) [
    | inl same ↦ own place same there
    | inr other ↦ unmade (set.contains changed.made place.0) (bytes_at (with_created m space count) place) (bytes_at m place) (other_made space place.0 other) (as_before place other there)
  ];
  none_new = λ place there away kept. elim (cases_eq place.0 space) [
    | inl same ↦ absurd (let e = sym (ap (set.contains changed.made) same ∙ is_made space) ∙ kept in cc)
    | inr other ↦ ap is_some (sym (created_other m space count place other)) ∙ there
  ];
}
  where
    changed : Changed
    changed = with_made no_changes space

    as_before : (place : ℕ × ℕ) → place.0 ≢ space → IsSome (bytes_at (with_created m space count) place) → bytes_at (with_created m space count) place ≡ Some (unwrap_or (bytes_at m place) zero_page)
    as_before place other there =
        let same = created_other m space count place other in
        same ∙ itself (bytes_at m place) (ap is_some (sym same) ∙ there)

    own : (place : ℕ × ℕ) → place.0 ≡ space → IsSome (bytes_at (with_created m space count) place)
        → bytes_at (with_created m space count) place ≡ Some (cond (set.contains changed.made place.0) zero_page (unwrap_or (bytes_at m place) zero_page))
    own place same there =
        let at : place ≡ (space, place.1) = λ i. (same i, place.1) in
        let here : IsSome (bytes_at (with_created m space count) (space, place.1)) = ap (λ (p : ℕ × ℕ). is_some (bytes_at (with_created m space count) p)) (sym at) ∙ there in
        ap (bytes_at (with_created m space count)) at ∙ created_here m space count place.1 here
        ∙ sym (ap (λ (b : Bool). Some (cond b zero_page (unwrap_or (bytes_at m place) zero_page))) (ap (set.contains changed.made) same ∙ is_made space))

-- ---- one call after another

or_first : (a b : Bool) → (a || b) ≡ false → a ≡ false
or_first false b e = refl
or_first true b e = cc

or_second : (a b : Bool) → (a || b) ≡ false → b ≡ false
or_second false b e = e
or_second true b e = cc

pub together : (first second : Changed) (old mid new : DiskImage) → ChangedOnly first old mid → ChangedOnly second mid new → NoneReturns (both first second) old mid new → ChangedOnly (both first second) old new
together first second old mid new one two none_back = λ place there away.
    let w = sym (contains-union row_cmp_total first.written second.written place) ∙ away in
    let m = contains-union nat_cmp_total first.made second.made place.0 in
    after place (set.contains first.made place.0) (set.contains second.made place.0) (bytes_at mid place) refl refl
    (two place there (or_second (set.contains first.written place) (set.contains second.written place) w))
    (λ some. one place some (or_first (set.contains first.written place) (set.contains second.written place) w))
    (λ some a b. none_back place some there away (m ∙ (λ i. a i || b i)))
    ∙ sym (ap (λ (b : Bool). Some (cond b zero_page (unwrap_or (bytes_at old place) zero_page))) m)
  where
    after : (place : ℕ × ℕ) (made made_then : Bool) (now : Option (List ℕ)) → set.contains first.made place.0 ≡ made → set.contains second.made place.0 ≡ made_then
        → bytes_at new place ≡ Some (cond made_then zero_page (unwrap_or now zero_page))
        → (IsSome now → now ≡ Some (cond made zero_page (unwrap_or (bytes_at old place) zero_page)))
        → (IsSome (bytes_at old place) → made ≡ false → made_then ≡ false → IsSome now)
        → bytes_at new place ≡ Some (cond (made || made_then) zero_page (unwrap_or (bytes_at old place) zero_page))
    after place true true now a b is was back = is
    after place false true now a b is was back = is
    after place true false (Some bytes) a b is was back = is ∙ ap (λ (o : Option (List ℕ)). Some (unwrap_or o zero_page)) (was refl)
    after place true false None a b is was back = is
    after place false false (Some bytes) a b is was back = is ∙ ap (λ (o : Option (List ℕ)). Some (unwrap_or o zero_page)) (was refl)
    after place false false None a b is was back = is ∙ ap (λ (bytes : List ℕ). Some bytes) (gone (bytes_at old place) (λ some. back some refl refl))
      where
        gone : (o : Option (List ℕ)) → (IsSome o → false ≡ true) → zero_page ≡ unwrap_or o zero_page
        gone None none = refl
        gone (Some bytes) none = absurd (let e = none refl in cc)

or_none : (a b : Bool) → b ≡ false → (a || b) ≡ a
or_none true b e = refl
or_none false b e = e

or_between : (a b c : Bool) → (a || (b || c)) ≡ (b || (a || c))
or_between true true c = refl
or_between true false c = refl
or_between false b c = refl

pub both_none : (changed : Changed) → both changed no_changes ≡ changed
both_none changed = λ i. record {
  written = same_set row_cmp_total row_cmp_exact (set.union changed.written set.empty) changed.written (λ q.
      contains-union row_cmp_total changed.written set.empty q ∙ or_none (set.contains changed.written q) (set.contains set.empty q) (contains-empty row_cmp q)) i;
  made = same_set nat_cmp_total exact_unsigned (set.union changed.made set.empty) changed.made (λ q.
      contains-union nat_cmp_total changed.made set.empty q ∙ or_none (set.contains changed.made q) (set.contains set.empty q) (contains-empty nat_cmp q)) i;
}

pub both_written : (first second : Changed) (place : ℕ × ℕ) → both first (with_written second place) ≡ with_written (both first second) place
both_written first second place = λ i. record {
  written = same_set row_cmp_total row_cmp_exact (set.union first.written (set.insert second.written place)) (set.insert (set.union first.written second.written) place) (λ q.
      contains-union row_cmp_total first.written (set.insert second.written place) q
      ∙ ap (λ (b : Bool). set.contains first.written q || b) (contains-insert row_cmp_total second.written place q)
      ∙ or_between (set.contains first.written q) (eq_by_cmp row_cmp q place) (set.contains second.written q)
      ∙ sym (contains-insert row_cmp_total (set.union first.written second.written) place q
      ∙ ap (λ (b : Bool). eq_by_cmp row_cmp q place || b) (contains-union row_cmp_total first.written second.written q))) i;
  made = set.union first.made second.made;
}

pub both_made : (first second : Changed) (space : ℕ) → both first (with_made second space) ≡ with_made (both first second) space
both_made first second space = λ i. record {
  written = set.union first.written second.written;
  made = same_set nat_cmp_total exact_unsigned (set.union first.made (set.insert second.made space)) (set.insert (set.union first.made second.made) space) (λ q.
      contains-union nat_cmp_total first.made (set.insert second.made space) q
      ∙ ap (λ (b : Bool). set.contains first.made q || b) (contains-insert nat_cmp_total second.made space q)
      ∙ or_between (set.contains first.made q) (eq_by_cmp nat_cmp q space) (set.contains second.made q)
      ∙ sym (contains-insert nat_cmp_total (set.union first.made second.made) space q
      ∙ ap (λ (b : Bool). eq_by_cmp nat_cmp q space || b) (contains-union nat_cmp_total first.made second.made q))) i;
}
