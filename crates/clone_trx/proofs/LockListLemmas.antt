-- The rows that transactions have locked, by row and by transaction, when one is locked and when
-- those of a transaction are released.
use Rattle.std.proofs.Common.{length-set, get_or-set_same, get_or-set_other}
use Rattle.clone_trx.proofs.Common.{true, ◌≡◌, ◌≢◌, ℕ, ◌+◌, ◌<◌, ◌≤◌, ◌⊎◌, inl, inr, List, [], ◌∷◌, ◌++◌, length, refl, sym, ap, subst, ◌∙◌, Some, None, arith, set, get_or, drop, drop-cons, add-one, is_some, IfSome, Vec, slice_get, slice_set, Option, Global, Contains, option_map_or, get-empty, cases_lt, cases_eq, slice_get-get_or, slice_get_past, none-some, same_Some, row_cmp, row_cmp_total, row_cmp_exact, Locks, TRANSACTION_LIMIT, Releases, Lists, list_at, AreListed, without, get-set_same, get-set_other, get-removed_same, get-removed_other, cases_row, get-remove_some}
use Rattle.std.specs.FinMap as finite
use Rattle.std.proofs.lemmas.List.Elements.{Contains-append_left, Contains-append_right, Contains-push, Contains-push_cases, Contains-append_cases}

abbrev pub RowName : Type 0
RowName = ℕ × ℕ

nothing_in : (q : RowName) → Contains [] q → ⊥
nothing_in q h = omega (arith, h.1)

cons_cases : (r : RowName) (rows : List RowName) (q : RowName) → Contains (r ∷ rows) q → (r ≡ q) ⊎ Contains rows q
cons_cases r rows q h = elim (Contains-append_cases (r ∷ []) rows q h) [
  | inl one ↦ elim (Contains-push_cases [] r q one) [
    | inl none ↦ absurd (nothing_in q none)
    | inr is ↦ inl is
  ]
  | inr more ↦ inr more
]

-- a list that was set
pub list_at-set_same : (lists : Lists) (trx : ℕ) (rows : Vec RowName Global) → trx < length lists → list_at (slice_set lists trx rows) trx ≡ rows.items
list_at-set_same lists trx rows lt =
    ap (λ o. option_map_or (λ (v : Vec RowName Global). v.items) o []) (slice_get-get_or (set lists trx rows) trx rows (omega (arith, lt, length-set lists trx rows)) ∙ ap (λ v. Some v) (get_or-set_same lists trx rows rows lt))

pub list_at-set_other : (lists : Lists) (trx t : ℕ) (rows : Vec RowName Global) → t ≢ trx → list_at (slice_set lists trx rows) t ≡ list_at lists t
list_at-set_other lists trx t rows other = ap (λ o. option_map_or (λ (v : Vec RowName Global). v.items) o []) (at (cases_lt t (length lists)))
  where
    at : (t < length lists) ⊎ (length lists ≤ t) → slice_get (set lists trx rows) t ≡ slice_get lists t
    at (inl low) = slice_get-get_or (set lists trx rows) t rows (omega (arith, low, length-set lists trx rows)) ∙ ap (λ y. Some y) (get_or-set_other lists trx t rows rows other) ∙ sym (slice_get-get_or lists t rows low)
    at (inr high) = slice_get_past (set lists trx rows) t (omega (arith, high, length-set lists trx rows)) ∙ sym (slice_get_past lists t high)

-- rows that were taken out
without_none : (rows : List RowName) (h : Locks) (q : RowName) → finite.get h q ≡ None → finite.get (without rows h) q ≡ None
without_none [] h q none = none
without_none (r ∷ rows) h q none = without_none rows (finite.remove h r) q (at (finite.get (finite.remove h r) q) refl)
  where
    at : (o : Option ℕ) → finite.get (finite.remove h r) q ≡ o → o ≡ None
    at None e = refl
    at (Some t) e = absurd (none-some t (sym none ∙ get-remove_some row_cmp_total row_cmp_exact h r q t e))

pub without_some : (rows : List RowName) (h : Locks) (q : RowName) (t : ℕ) → finite.get (without rows h) q ≡ Some t → finite.get h q ≡ Some t
without_some [] h q t e = e
without_some (r ∷ rows) h q t e = get-remove_some row_cmp_total row_cmp_exact h r q t (without_some rows (finite.remove h r) q t e)

pub without_in : (rows : List RowName) (h : Locks) (q : RowName) → Contains rows q → finite.get (without rows h) q ≡ None
without_in [] h q among = absurd (nothing_in q among)
without_in (r ∷ rows) h q among = elim (cons_cases r rows q among) [
  | inl is ↦ without_none rows (finite.remove h r) q (ap (finite.get (finite.remove h r)) (sym is) ∙ get-removed_same row_cmp_total row_cmp_exact h r)
  | inr more ↦ without_in rows (finite.remove h r) q more
]

pub without_out : (rows : List RowName) (h : Locks) (q : RowName) → (Contains rows q → ⊥) → finite.get (without rows h) q ≡ finite.get h q
without_out [] h q apart = refl
without_out (r ∷ rows) h q apart =
    without_out rows (finite.remove h r) q (λ more. apart (Contains-append_right (r ∷ []) rows q more))
    ∙ get-removed_other row_cmp_total row_cmp_exact h r q (λ is. apart (Contains-append_left (r ∷ []) rows q (subst (λ (x : RowName). Contains (r ∷ []) x) (sym is) (Contains-push [] r))))

-- before any row is locked
pub none_listed : (h : Locks) (lists : Lists) → h ≡ finite.empty → length lists ≡ TRANSACTION_LIMIT → ((t : ℕ) → list_at lists t ≡ []) → AreListed h lists
none_listed h lists empty count none = record {
  count = count;
  held = λ t q among. absurd (nothing_in q (subst (λ (rows : List RowName). Contains rows q) (none t) among));
  listed = λ t q has. absurd (none-some t (sym (ap (λ (m : Locks). finite.get m q) empty ∙ get-empty row_cmp q) ∙ has));
}

-- a list that is set to what it was
pub same_listed : (h new : Locks) (lists : Lists) (trx : ℕ) (rows : Vec RowName Global) → new ≡ h → trx < length lists → rows.items ≡ list_at lists trx → AreListed h lists → AreListed new (slice_set lists trx rows)
same_listed h new lists trx rows kept lt same is = record {
  count = length-set lists trx rows ∙ is.count;
  held = λ t q among. ap (λ (m : Locks). finite.get m q) kept ∙ is.held t q (subst (λ (xs : List RowName). Contains xs q) (stays t) among);
  listed = λ t q has. subst (λ (xs : List RowName). Contains xs q) (sym (stays t)) (is.listed t q (ap (λ (m : Locks). finite.get m q) (sym kept) ∙ has));
}
  where
    stays : (t : ℕ) → list_at (slice_set lists trx rows) t ≡ list_at lists t
    stays t = elim (cases_eq t trx) [
      | inl e ↦ ap (list_at (slice_set lists trx rows)) e ∙ list_at-set_same lists trx rows lt ∙ same ∙ ap (list_at lists) (sym e)
      | inr other ↦ list_at-set_other lists trx t rows other
    ]

-- a row that a transaction has locked besides
pub more_listed : (h : Locks) (lists : Lists) (trx : ℕ) (row : RowName) (rows : Vec RowName Global) → trx < length lists → finite.get h row ≡ None → rows.items ≡ list_at lists trx ++ row ∷ [] → AreListed h lists
    → AreListed (finite.insert h row trx) (slice_set lists trx rows)
more_listed h lists trx row rows lt free more is = record {
  count = length-set lists trx rows ∙ is.count;
  held = held;
  listed = listed;
}
  where
    new : Lists
    new = slice_set lists trx rows

    own : list_at new trx ≡ list_at lists trx ++ row ∷ []
    own = list_at-set_same lists trx rows lt ∙ more

    kept : (t : ℕ) (q : RowName) → Contains (list_at lists t) q → finite.get (finite.insert h row trx) q ≡ Some t
    kept t q among =
        let has = is.held t q among in
        get-set_other row_cmp_total row_cmp_exact h row trx q (λ e. none-some t (sym (ap (finite.get h) e ∙ free) ∙ has)) ∙ has

    held : (t : ℕ) (q : RowName) → Contains (list_at new t) q → finite.get (finite.insert h row trx) q ≡ Some t
    held t q among = elim (cases_eq t trx) [
      | inl e ↦ elim (Contains-push_cases (list_at lists trx) row q (subst (λ (xs : List RowName). Contains xs q) (ap (list_at new) e ∙ own) among)) [
        | inl old ↦ kept trx q old ∙ ap (λ (x : ℕ). Some x) (sym e)
        | inr same ↦ ap (finite.get (finite.insert h row trx)) (sym same) ∙ get-set_same row_cmp_total row_cmp_exact h row trx ∙ ap (λ (x : ℕ). Some x) (sym e)
      ]
      | inr other ↦ kept t q (subst (λ (xs : List RowName). Contains xs q) (list_at-set_other lists trx t rows other) among)
    ]

    stays : (t : ℕ) (q : RowName) → Contains (list_at lists t) q → Contains (list_at new t) q
    stays t q among = elim (cases_eq t trx) [
      | inl e ↦ subst (λ (xs : List RowName). Contains xs q) (sym (ap (list_at new) e ∙ own)) (Contains-append_left (list_at lists trx) (row ∷ []) q (subst (λ (x : ℕ). Contains (list_at lists x) q) e among))
      | inr other ↦ subst (λ (xs : List RowName). Contains xs q) (sym (list_at-set_other lists trx t rows other)) among
    ]

    listed : (t : ℕ) (q : RowName) → finite.get (finite.insert h row trx) q ≡ Some t → Contains (list_at new t) q
    listed t q has = elim (cases_row q row) [
      | inl e ↦
          let mine : trx ≡ t = same_Some trx t (sym (get-set_same row_cmp_total row_cmp_exact h row trx) ∙ ap (finite.get (finite.insert h row trx)) (sym e) ∙ has) in
          subst (λ (x : ℕ). Contains (list_at new x) q) mine (subst (λ (xs : List RowName). Contains xs q) (sym own) (subst (λ (x : RowName). Contains (list_at lists trx ++ row ∷ []) x) (sym e) (Contains-push (list_at lists trx) row)))
      | inr other ↦ stays t q (is.listed t q (sym (get-set_other row_cmp_total row_cmp_exact h row trx q other) ∙ has))
    ]

-- the rows of a transaction were taken out, and its list is empty
pub released_listed : (h new : Locks) (lists : Lists) (trx : ℕ) (rows : Vec RowName Global) → trx < length lists → new ≡ without (list_at lists trx) h → rows.items ≡ [] → AreListed h lists → AreListed new (slice_set lists trx rows)
released_listed h new lists trx rows lt taken none is = record {
  count = length-set lists trx rows ∙ is.count;
  held = λ t q among. elim (cases_eq t trx) [
    | inl e ↦ absurd (nothing_in q (subst (λ (xs : List RowName). Contains xs q) (ap (list_at (slice_set lists trx rows)) e ∙ list_at-set_same lists trx rows lt ∙ none) among))
    | inr other ↦
        let has = is.held t q (subst (λ (xs : List RowName). Contains xs q) (list_at-set_other lists trx t rows other) among) in
        ap (λ (m : Locks). finite.get m q) taken ∙ without_out (list_at lists trx) h q (λ own. other (same_Some t trx (sym has ∙ is.held trx q own))) ∙ has
  ];
  listed = λ t q has.
      let left : finite.get (without (list_at lists trx) h) q ≡ Some t = ap (λ (m : Locks). finite.get m q) (sym taken) ∙ has in
      let among = is.listed t q (without_some (list_at lists trx) h q t left) in
      elim (cases_eq t trx) [
        | inl e ↦ absurd (none-some t (sym (without_in (list_at lists trx) h q (subst (λ (x : ℕ). Contains (list_at lists x) q) e among)) ∙ left))
        | inr other ↦ subst (λ (xs : List RowName). Contains xs q) (sym (list_at-set_other lists trx t rows other)) among
      ];
}

pub releases : (h new : Locks) (lists : Lists) (trx : ℕ) → new ≡ without (list_at lists trx) h → AreListed h lists → Releases trx h new
releases h new lists trx taken is = record {
  own = λ q has. ap (λ (m : Locks). finite.get m q) taken ∙ without_in (list_at lists trx) h q (is.listed trx q has);
  others = λ q other. ap (λ (m : Locks). finite.get m q) taken ∙ without_out (list_at lists trx) h q (λ own. other (is.held trx q own));
}

-- the list that stands at a number
pub list_at_item : (lists : Lists) (trx : ℕ) (rows : Vec RowName Global) → trx < length lists → rows ≡ get_or lists trx rows → rows.items ≡ list_at lists trx
list_at_item lists trx rows lt is =
    ap (λ (v : Vec RowName Global). v.items) is ∙ sym (ap (λ o. option_map_or (λ (v : Vec RowName Global). v.items) o []) (slice_get-get_or lists trx rows lt))

-- one more row is taken out
pub without_goes_on : (rows : List RowName) (i : ℕ) (d : RowName) (h new : Locks) → i < length rows → new ≡ finite.remove h (get_or rows i d) → without (drop (i + 1) rows) new ≡ without (drop i rows) h
without_goes_on rows i d h new lt taken =
    let split : drop i rows ≡ get_or rows i d ∷ drop (i + 1) rows = drop-cons rows i d lt ∙ (λ j. get_or rows i d ∷ drop (sym (add-one i) j) rows) in
    ap (without (drop (i + 1) rows)) taken ∙ sym (ap (λ (xs : List RowName). without xs h) split)

-- a row whose lock is the transaction's, if it is locked
pub own_row : (o : Option ℕ) (trx : ℕ) → is_some o ≡ true → IfSome o (λ holder. holder ≡ trx) → o ≡ Some trx
own_row None trx e own = cc
own_row (Some holder) trx e own = ap (λ (t : ℕ). Some t) own
