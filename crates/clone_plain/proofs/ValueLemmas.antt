-- The value that each row shows, after each step of the plain donor.
use Rattle.std.proofs.Common.{◌≡◌, ◌≢◌, ℕ, suc, ◌⊎◌, cond, List, [], ◌∷◌, ◌++◌, length, Option, Some, None, IsSome, refl, sym, ap, subst, ◌∙◌, inl, inr, slice_get}
use Rattle.clone_plain.proofs.Common.{none-some, nat_cmp-IsAntisymmetric, nat_cmp_total, eq_by_cmp, Rows, after_change, after_changes, Change, Commit, row_cmp_total, row_cmp_exact, get-set_or_remove, Donor, changes_of, begun, with_change, Changes, TakesBack, Leaves, Commits, changes_by, committed_rows, value_of, IsLocked, ties, apart, get-set_same, get-set_other, get-removed_other, cases_held, slice_get-pushed_last}
use Rattle.std.specs.FinMap as finite
use Rattle.std.specs.Option.{option_map_or}
use Rattle.clone_model.specs.Keys.{row_cmp}
use Rattle.clone_model.proofs.HistoryLemmas.{fold-committed}

-- Rows after changes.

after_change_same : (r q : Rows) (change : Change) (row : ℕ × ℕ) → finite.get r row ≡ finite.get q row → finite.get (after_change r change) row ≡ finite.get (after_change q change) row
after_change_same r q change row same =
    get-set_or_remove r (change.table, change.key) change.value row ∙ ap (cond (eq_by_cmp row_cmp row (change.table, change.key)) change.value) same ∙ sym (get-set_or_remove q (change.table, change.key) change.value row)

-- where two maps have the same at a row, they have the same there after the same changes
pub after_changes_same : (r q : Rows) (changes : List Change) (row : ℕ × ℕ) → finite.get r row ≡ finite.get q row → finite.get (after_changes r changes) row ≡ finite.get (after_changes q changes) row
after_changes_same r q [] row same = same
after_changes_same r q (change ∷ changes) row same = after_changes_same (after_change r change) (after_change q change) changes row (after_change_same r q change row same)

-- the change is of another row
pub after_change_other : (r : Rows) (change : Change) (row : ℕ × ℕ) → row ≢ (change.table, change.key) → finite.get (after_change r change) row ≡ finite.get r row
after_change_other r change row other =
    get-set_or_remove r (change.table, change.key) change.value row ∙ ap (λ b. cond b change.value (finite.get r row)) (apart row_cmp_total row_cmp_exact row (change.table, change.key) other)

-- the row of the change
pub after_change_own : (r : Rows) (change : Change) → finite.get (after_change r change) (change.table, change.key) ≡ change.value
after_change_own r change =
    let row : ℕ × ℕ = (change.table, change.key) in
    get-set_or_remove r row change.value row ∙ ap (λ b. cond b change.value (finite.get r row)) (ties row_cmp_total row_cmp_exact row)

-- none of the changes is of the row
abbrev pub LeavesOut : List Change → ℕ × ℕ → Type 0
LeavesOut changes row = (i : ℕ) (change : Change) → slice_get changes i ≡ Some change → row ≢ (change.table, change.key)

pub untouched : (r : Rows) (changes : List Change) (row : ℕ × ℕ) → LeavesOut changes row → finite.get (after_changes r changes) row ≡ finite.get r row
untouched r [] row others = refl
untouched r (change ∷ changes) row others = untouched (after_change r change) changes row (λ i c is. others (suc i) c is) ∙ after_change_other r change row (others 0 change refl)

pub after_changes-append : (r : Rows) (front back : List Change) → after_changes r (front ++ back) ≡ after_changes (after_changes r front) back
after_changes-append r [] back = refl
after_changes-append r (change ∷ front) back = after_changes-append (after_change r change) front back

-- one more change, of another row
pub pushed_other : (r : Rows) (changes : List Change) (change : Change) (row : ℕ × ℕ) → row ≢ (change.table, change.key) → finite.get (after_changes r (changes ++ change ∷ [])) row ≡ finite.get (after_changes r changes) row
pushed_other r changes change row other = ap (λ (rows : Rows). finite.get rows row) (after_changes-append r changes (change ∷ [])) ∙ after_change_other (after_changes r changes) change row other

-- one more change, of the row
pub pushed_own : (r : Rows) (changes : List Change) (change : Change) → finite.get (after_changes r (changes ++ change ∷ [])) (change.table, change.key) ≡ change.value
pushed_own r changes change = ap (λ (rows : Rows). finite.get rows (change.table, change.key)) (after_changes-append r changes (change ∷ [])) ∙ after_change_own (after_changes r changes) change

-- The value of a row by its lock and the changes of the holder.

pub value_is : (d : Donor) (rows : Rows) (holder : Option ℕ) (changes : List Change) (table key : ℕ) → committed_rows d ≡ rows → finite.get d.locks (table, key) ≡ holder → changes_by d holder ≡ changes
    → value_of d table key ≡ finite.get (after_changes rows changes) (table, key)
value_is d rows holder changes table key same_rows held own =
    ap (λ (o : Option ℕ). finite.get (after_changes (committed_rows d) (changes_by d o)) (table, key)) held ∙ ap (λ (cs : List Change). finite.get (after_changes (committed_rows d) cs) (table, key)) own
    ∙ ap (λ (r : Rows). finite.get (after_changes r changes) (table, key)) same_rows

pub value_same : (d after : Donor) (table key : ℕ) → committed_rows after ≡ committed_rows d → finite.get after.locks (table, key) ≡ finite.get d.locks (table, key)
    → changes_by after (finite.get d.locks (table, key)) ≡ changes_by d (finite.get d.locks (table, key)) → value_of after table key ≡ value_of d table key
value_same d after table key same_rows held own = value_is after (committed_rows d) (finite.get d.locks (table, key)) (changes_by d (finite.get d.locks (table, key))) table key same_rows held own

pub changes_of_active : (d : Donor) (trx : ℕ) (commit : Commit) → finite.get d.active trx ≡ Some commit → changes_of d trx ≡ commit.changes
changes_of_active d trx commit is = ap (λ (o : Option Commit). option_map_or (λ (c : Commit). c.changes) o []) is

-- all transactions but one are as before
abbrev pub SameOthers : ℕ → Donor → Donor → Type 0
SameOthers trx d after = (n : ℕ) → n ≢ trx → finite.get after.active n ≡ finite.get d.active n

changes_by_others : (d after : Donor) (trx : ℕ) → SameOthers trx d after → (holder : Option ℕ) → holder ≢ Some trx → changes_by after holder ≡ changes_by d holder
changes_by_others d after trx same None other = refl
changes_by_others d after trx same (Some n) other = ap (λ (o : Option Commit). option_map_or (λ (c : Commit). c.changes) o []) (same n (λ e. other (ap (λ x. Some x) e)))

pub others-set : (d after : Donor) (trx : ℕ) (commit : Commit) → after.active ≡ finite.insert d.active trx commit → SameOthers trx d after
others-set d after trx commit is n other = ap (λ m. finite.get m n) is ∙ get-set_other nat_cmp_total nat_cmp-IsAntisymmetric d.active trx commit n other

pub others-removed : (d after : Donor) (trx : ℕ) → after.active ≡ finite.remove d.active trx → SameOthers trx d after
others-removed d after trx is n other = ap (λ m. finite.get m n) is ∙ get-removed_other nat_cmp_total nat_cmp-IsAntisymmetric d.active trx n other

pub own-set : (d after : Donor) (trx : ℕ) (commit : Commit) → after.active ≡ finite.insert d.active trx commit → finite.get after.active trx ≡ Some commit
own-set d after trx commit is = ap (λ m. finite.get m trx) is ∙ get-set_same nat_cmp_total nat_cmp-IsAntisymmetric d.active trx commit

-- A transaction begins.

-- no row is locked by a transaction that isn't open
pub not_held : (d : Donor) (trx table key : ℕ) → IsLocked d → finite.get d.active trx ≡ None → finite.get d.locks (table, key) ≢ Some trx
not_held d trx table key locked none held = let none_there = subst IsSome none (locked.holders table key trx held) in cc

pub begun_value : (d : Donor) (trx writer index : ℕ) → IsLocked d → finite.get d.active trx ≡ None → (table key : ℕ) → value_of (begun trx writer index d) table key ≡ value_of d table key
begun_value d trx writer index locked none table key =
    let after = begun trx writer index d in
    let first : Commit = record { writer = writer; index = index; changes = [] } in
    value_same d after table key refl refl (changes_by_others d after trx (others-set d after trx first refl) (finite.get d.locks (table, key)) (not_held d trx table key locked none))

-- The changes of one transaction have become others, which leave the row as they did.
other_row : (d after : Donor) (trx table key : ℕ) (cs ds : List Change) → committed_rows after ≡ committed_rows d → finite.get after.locks (table, key) ≡ finite.get d.locks (table, key) → SameOthers trx d after → changes_of d trx ≡ cs → changes_of after trx ≡ ds
    → finite.get (after_changes (committed_rows d) ds) (table, key) ≡ finite.get (after_changes (committed_rows d) cs) (table, key) → value_of after table key ≡ value_of d table key
other_row d after trx table key cs ds rows lock others was now same = at (cases_held (finite.get d.locks (table, key)) trx)
  where
    at : (finite.get d.locks (table, key) ≡ Some trx) ⊎ (finite.get d.locks (table, key) ≢ Some trx) → value_of after table key ≡ value_of d table key
    at (inl held) = value_is after (committed_rows d) (Some trx) ds table key rows (lock ∙ held) now ∙ same ∙ sym (value_is d (committed_rows d) (Some trx) cs table key refl held was)
    at (inr free) = value_same d after table key rows lock (changes_by_others d after trx others (finite.get d.locks (table, key)) free)

-- A change is made.

pub changed_value : {d after : Donor} {trx : ℕ} {change : Change} → IsLocked d → Changes d trx change after → value_of after change.table change.key ≡ change.value
changed_value {d} {after} {trx} {change} locked c =
    let held = ap (λ (e : Donor). finite.get e.locks (change.table, change.key)) c.is ∙ get-set_same row_cmp_total row_cmp_exact d.locks (change.table, change.key) trx in
    let own = changes_of_active after trx (with_change change c.commit) (own-set d after trx (with_change change c.commit) (ap (λ (e : Donor). e.active) c.is)) in
    value_is after (committed_rows d) (Some trx) (c.commit.changes ++ change ∷ []) change.table change.key (ap committed_rows c.is) held own ∙ pushed_own (committed_rows d) c.commit.changes change

pub changed_value_other : {d after : Donor} {trx : ℕ} {change : Change} → IsLocked d → Changes d trx change after → (table key : ℕ) → ((table ≡ change.table) → (key ≡ change.key) → ⊥) → value_of after table key ≡ value_of d table key
changed_value_other {d} {after} {trx} {change} locked c table key other =
    let apart_row : (table, key) ≢ (change.table, change.key) = λ e. other (ap (λ (p : ℕ × ℕ). p.0) e) (ap (λ (p : ℕ × ℕ). p.1) e) in
    let lock = ap (λ (e : Donor). finite.get e.locks (table, key)) c.is ∙ get-set_other row_cmp_total row_cmp_exact d.locks (change.table, change.key) trx (table, key) apart_row in
    let active : after.active ≡ finite.insert d.active trx (with_change change c.commit) = ap (λ (e : Donor). e.active) c.is in
    let now = changes_of_active after trx (with_change change c.commit) (own-set d after trx (with_change change c.commit) active) in
    other_row d after trx table key c.commit.changes (c.commit.changes ++ change ∷ []) (ap committed_rows c.is) lock (others-set d after trx (with_change change c.commit) active) (changes_of_active d trx c.commit c.was_active) now
    (pushed_other (committed_rows d) c.commit.changes change (table, key) apart_row)

-- A change is taken back.

pub taken_value : {d after : Donor} {trx left : ℕ} → IsLocked d → (t : TakesBack d trx left after) → value_of after t.last.table t.last.key ≡ finite.get (after_changes (committed_rows d) t.front) (t.last.table, t.last.key)
taken_value {d} {after} {trx} {left} locked t =
    let was : slice_get t.commit.changes (length t.front) ≡ Some t.last = ap (λ (cs : List Change). slice_get cs (length t.front)) t.split ∙ slice_get-pushed_last t.front t.last (length t.front) refl in
    let held = locked.own trx t.commit (length t.front) t.last t.was_active was in
    let fewer : Commit = record t.commit { changes = t.front } in
    value_is after (committed_rows d) (Some trx) t.front t.last.table t.last.key (ap committed_rows t.is) (ap (λ (e : Donor). finite.get e.locks (t.last.table, t.last.key)) t.is ∙ held)
    (changes_of_active after trx fewer (own-set d after trx fewer (ap (λ (e : Donor). e.active) t.is)))

pub taken_value_other : {d after : Donor} {trx left : ℕ} → IsLocked d → (t : TakesBack d trx left after) → (table key : ℕ) → ((table ≡ t.last.table) → (key ≡ t.last.key) → ⊥) → value_of after table key ≡ value_of d table key
taken_value_other {d} {after} {trx} {left} locked t table key other =
    let apart_row : (table, key) ≢ (t.last.table, t.last.key) = λ e. other (ap (λ (p : ℕ × ℕ). p.0) e) (ap (λ (p : ℕ × ℕ). p.1) e) in
    let fewer : Commit = record t.commit { changes = t.front } in
    let active : after.active ≡ finite.insert d.active trx fewer = ap (λ (e : Donor). e.active) t.is in
    let was = changes_of_active d trx t.commit t.was_active ∙ t.split in
    other_row d after trx table key (t.front ++ t.last ∷ []) t.front (ap committed_rows t.is) (ap (λ (e : Donor). finite.get e.locks (table, key)) t.is) (others-set d after trx fewer active) was
    (changes_of_active after trx fewer (own-set d after trx fewer active)) (sym (pushed_other (committed_rows d) t.front t.last (table, key) apart_row))

-- A transaction ends.

pub left_value : {d after : Donor} {trx : ℕ} → IsLocked d → Leaves d trx after → (table key : ℕ) → value_of after table key ≡ value_of d table key
left_value {d} {after} {trx} locked l table key = at (cases_held (finite.get d.locks row) trx)
  where
    row : ℕ × ℕ
    row = (table, key)

    rows_same : committed_rows after ≡ committed_rows d
    rows_same = ap committed_rows l.is

    lock : finite.get after.locks row ≡ finite.get l.locks row
    lock = ap (λ (e : Donor). finite.get e.locks row) l.is

    at : (finite.get d.locks row ≡ Some trx) ⊎ (finite.get d.locks row ≢ Some trx) → value_of after table key ≡ value_of d table key
    at (inl held) =
        value_is after (committed_rows d) None [] table key rows_same (lock ∙ l.released.own row held) refl ∙ sym (value_is d (committed_rows d) (Some trx) [] table key refl held (changes_of_active d trx l.commit l.was_active ∙ l.nothing))
    at (inr free) = value_same d after table key rows_same (lock ∙ l.released.others row free) (changes_by_others d after trx (others-removed d after trx (ap (λ (e : Donor). e.active) l.is)) (finite.get d.locks row) free)

-- an open transaction has no change of a row that it doesn't hold
pub leaves_out : (d : Donor) (trx : ℕ) (commit : Commit) → IsLocked d → finite.get d.active trx ≡ Some commit → (row : ℕ × ℕ) → finite.get d.locks row ≢ Some trx → LeavesOut commit.changes row
leaves_out d trx commit locked active row free i change is same = free (ap (finite.get d.locks) same ∙ locked.own trx commit i change active is)

-- the rows of the history once a transaction has committed
committed_rows_are : {d after : Donor} {trx position : ℕ} → IsLocked d → (c : Commits d trx position after) → committed_rows after ≡ after_changes (committed_rows d) c.commit.changes
committed_rows_are {d} {after} locked c =
    ap committed_rows c.is ∙ fold-committed d.binlog d.drops c.commit locked.drops

-- a commit leaves a row as it was where its transaction doesn't hold it
pub committed_other : {d after : Donor} {trx position : ℕ} → IsLocked d → Commits d trx position after → (row : ℕ × ℕ) → finite.get d.locks row ≢ Some trx → finite.get (committed_rows after) row ≡ finite.get (committed_rows d) row
committed_other {d} {after} {trx} {position} locked c row free =
    ap (λ (rows : Rows). finite.get rows row) (committed_rows_are locked c) ∙ untouched (committed_rows d) c.commit.changes row (leaves_out d trx c.commit locked c.was_active row free)

pub committed_value : {d after : Donor} {trx position : ℕ} → IsLocked d → Commits d trx position after → (table key : ℕ) → value_of after table key ≡ value_of d table key
committed_value {d} {after} {trx} {position} locked c table key = at (cases_held (finite.get d.locks row) trx)
  where
    row : ℕ × ℕ
    row = (table, key)

    lock : finite.get after.locks row ≡ finite.get c.locks row
    lock = ap (λ (e : Donor). finite.get e.locks row) c.is

    at : (finite.get d.locks row ≡ Some trx) ⊎ (finite.get d.locks row ≢ Some trx) → value_of after table key ≡ value_of d table key
    at (inl held) =
        value_is after (after_changes (committed_rows d) c.commit.changes) None [] table key (committed_rows_are locked c) (lock ∙ c.released.own row held) refl
        ∙ sym (value_is d (committed_rows d) (Some trx) c.commit.changes table key refl held (changes_of_active d trx c.commit c.was_active))
    at (inr free) =
        let holder = finite.get d.locks row in
        let own = changes_by_others d after trx (others-removed d after trx (ap (λ (e : Donor). e.active) c.is)) holder free in
        value_is after (committed_rows after) holder (changes_by d holder) table key refl (lock ∙ c.released.others row free) own
        ∙ after_changes_same (committed_rows after) (committed_rows d) (changes_by d holder) row (committed_other locked c row free)

-- A row that no other transaction holds has the value that a transaction sees.

pub own_value : (d : Donor) (trx : ℕ) (commit : Commit) (row : ℕ × ℕ) → IsLocked d → finite.get d.active trx ≡ Some commit → (finite.get d.locks row ≡ None) ⊎ (finite.get d.locks row ≡ Some trx)
    → value_of d row.0 row.1 ≡ finite.get (after_changes (committed_rows d) commit.changes) row
own_value d trx commit row locked active (inl none) =
    value_is d (committed_rows d) None [] row.0 row.1 refl none refl ∙ sym (untouched (committed_rows d) commit.changes row (leaves_out d trx commit locked active row (λ held. none-some trx (sym none ∙ held))))
own_value d trx commit row locked active (inr held) = value_is d (committed_rows d) (Some trx) commit.changes row.0 row.1 refl held (changes_of_active d trx commit active)
