use Rattle.std.proofs.Common.{◌≡◌, ℕ, List, [], ◌∷◌, refl, sym, ap, ◌∙◌, cond, Some, None, Bool, true, false, option_and_then, is_some, IsSome, subst, ◌++◌, ◌+◌, ◌<◌, length, get_or, take, drop}
use Rattle.std.proofs.lemmas.List.{drop_more, take_more}
use Rattle.clone_model.specs.declared.change.Change.{Change}
use Rattle.clone_model.specs.Room.{HasRoom, HasRoomFor}
use Rattle.std.specs.declared.option.Option.{Option}
use Rattle.std.specs.FinMap as map
use Rattle.std.specs.FinMap.{IsAntisymmetric, same_map, get-empty, get-insert, get-remove}
use Rattle.std.specs.Cmp.{IsTotalOrder, then_total, on_total, nat_cmp_total, eq_by_cmp_equiv}
use Rattle.std.specs.Ordering.{nat_cmp, eq_by_cmp}
use Rattle.std.specs.BTreeMap.{BTreeMap, get, Updates, is_at}
use Rattle.std.proofs.lemmas.Map.Lookups.{exact_pairs, exact_unsigned}
use Rattle.std.specs.Map.{lookup}
use Rattle.clone_base.proofs.MapEntries.{is_equal}
use Rattle.clone_model.specs.Keys.{row_cmp}
use Rattle.clone_model.specs.History.{Rows, set_or_remove, after_change, after_changes}
use Rattle.clone_model.specs.Room.{kept}

pub row_cmp_total : IsTotalOrder row_cmp
row_cmp_total = then_total (on_total (λ x. x.0) nat_cmp_total) (on_total (λ x. x.1) nat_cmp_total)

pub row_cmp_exact : IsAntisymmetric row_cmp
row_cmp_exact = exact_pairs nat_cmp nat_cmp exact_unsigned exact_unsigned

abbrev pub inside : Option (Option (List ℕ)) → Option (List ℕ)
inside o = option_and_then (λ v. v) o

pub get-set_or_remove : (rows : Rows) (k : ℕ × ℕ) (v : Option (List ℕ)) (q : ℕ × ℕ) → map.get (set_or_remove rows k v) q ≡ cond (eq_by_cmp row_cmp q k) v (map.get rows q)
get-set_or_remove rows k None q = get-remove row_cmp_total rows k q
get-set_or_remove rows k (Some v) q = get-insert row_cmp_total rows k v q

inside_cond : (b : Bool) (v : Option (List ℕ)) (o : Option (Option (List ℕ))) → inside (cond b (Some v) o) ≡ cond b v (inside o)
inside_cond true v o = refl
inside_cond false v o = refl

get_list : (es : List ((ℕ × ℕ) × Option (List ℕ))) (q : ℕ × ℕ) → map.get (kept es) q ≡ inside (lookup (is_at (row_cmp q)) es)
get_list [] q = get-empty row_cmp q
get_list (e ∷ es) q =
    get-set_or_remove (kept es) e.0 e.1 q ∙ ap (cond (eq_by_cmp row_cmp q e.0) e.1) (get_list es q) ∙ sym (inside_cond (eq_by_cmp row_cmp q e.0) e.1 (lookup (is_at (row_cmp q)) es))

-- what a map of std has at a row
pub get_rows : (m : BTreeMap (ℕ × ℕ) (Option (List ℕ))) (q : ℕ × ℕ) → map.get (kept m.entries) q ≡ inside (get row_cmp m q)
get_rows m q = get_list m.entries q

-- a change of a map of std is that of the rows
pub updated_rows : (m n : BTreeMap (ℕ × ℕ) (Option (List ℕ))) (k : ℕ × ℕ) (v : Option (List ℕ)) → Updates row_cmp m n k (Some v)
    → kept n.entries ≡ set_or_remove (kept m.entries) k v
updated_rows m n k v is =
    same_map row_cmp_total row_cmp_exact _ _ (λ q. get_rows n q ∙ ap inside (is.0 q) ∙ inside_cond (eq_by_cmp row_cmp k q) v (get row_cmp m q) ∙ ap (cond (eq_by_cmp row_cmp k q) v) (sym (get_rows m q))
    ∙ ap (λ b. cond b v (map.get (kept m.entries) q)) ((eq_by_cmp_equiv row_cmp_total).symm k q)
    ∙ sym (get-set_or_remove (kept m.entries) k v q))

none_there : (m : BTreeMap (ℕ × ℕ) (Option (List ℕ))) (k q : ℕ × ℕ) → is_some (get row_cmp m k) ≡ false → eq_by_cmp row_cmp k q ≡ true → inside (get row_cmp m q) ≡ None
none_there m k q none tie =
    let same : k ≡ q = row_cmp_exact k q (is_equal _ tie) in
    ap (λ x. inside (get row_cmp m x)) (sym same) ∙ empty_inside (get row_cmp m k) none
  where
    empty_inside : (o : Option (Option (List ℕ))) → is_some o ≡ false → inside o ≡ None
    empty_inside None e = refl
    empty_inside (Some v) e = cc

pub chosen_none : (b : Bool) (o : Option (List ℕ)) → (b ≡ true → o ≡ None) → cond b None o ≡ o
chosen_none true o h = sym (h refl)
chosen_none false o h = refl

-- a slot with no value changes no row
pub slot_only : (m n : BTreeMap (ℕ × ℕ) (Option (List ℕ))) (k : ℕ × ℕ) → Updates row_cmp m n k (Some None) → is_some (get row_cmp m k) ≡ false → kept n.entries ≡ kept m.entries
slot_only m n k is none =
    same_map row_cmp_total row_cmp_exact _ _ (λ q. get_rows n q ∙ ap inside (is.0 q) ∙ inside_cond (eq_by_cmp row_cmp k q) None (get row_cmp m q)
    ∙ chosen_none (eq_by_cmp row_cmp k q) (inside (get row_cmp m q)) (none_there m k q none) ∙ sym (get_rows m q))

some_left : (b : Bool) (v : Option (List ℕ)) (o p : Option (Option (List ℕ))) → p ≡ cond b (Some v) o → IsSome o → IsSome p
some_left true v o p e h = ap is_some e
some_left false v o p e h = ap is_some e ∙ h

-- slots stay
pub slots_stay : (m n : BTreeMap (ℕ × ℕ) (Option (List ℕ))) (k : ℕ × ℕ) (v : Option (List ℕ)) → Updates row_cmp m n k (Some v) → (q : ℕ × ℕ) → HasRoomFor m q → HasRoomFor n q
slots_stay m n k v is q h = some_left (eq_by_cmp row_cmp k q) v (get row_cmp m q) (get row_cmp n q) (is.0 q) h

-- room for more
pub room_stays : (m n : BTreeMap (ℕ × ℕ) (Option (List ℕ))) (cs : List Change) → ((q : ℕ × ℕ) → HasRoomFor m q → HasRoomFor n q) → HasRoom m cs → HasRoom n cs
room_stays m n [] stay room = tt
room_stays m n (c ∷ cs) stay room = (stay (c.table, c.key) room.0, room_stays m n cs stay room.1)

pub room_push : (m : BTreeMap (ℕ × ℕ) (Option (List ℕ))) (cs : List Change) (c : Change) → HasRoom m cs → HasRoomFor m (c.table, c.key) → HasRoom m (cs ++ c ∷ [])
room_push m [] c room one = (one, tt)
room_push m (d ∷ cs) c room one = (room.0, room_push m cs c room.1 one)

-- the list from an item on
pub from_item : (xs : List Change) (i : ℕ) (x : Change) → i < length xs → x ≡ get_or xs i x → drop i xs ≡ x ∷ drop (i + 1) xs
from_item xs i x lt is = drop_more xs i x lt ∙ ap (λ y. y ∷ drop (i + 1) xs) (sym is)

pub to_item : (xs : List Change) (i : ℕ) (x : Change) → i < length xs → x ≡ get_or xs i x → take (i + 1) xs ≡ take i xs ++ x ∷ []
to_item xs i x lt is = take_more xs i x lt ∙ ap (λ y. take i xs ++ y ∷ []) (sym is)

-- one change is written
pub wrote_one : (m n : BTreeMap (ℕ × ℕ) (Option (List ℕ))) (first : Rows) (all left rest : List Change) (x : Change) → left ≡ x ∷ rest
    → (after_changes (kept m.entries) left ≡ after_changes first all) × HasRoom m left → kept n.entries ≡ after_change (kept m.entries) x → ((q : ℕ × ℕ) → HasRoomFor m q → HasRoomFor n q)
    → (after_changes (kept n.entries) rest ≡ after_changes first all) × HasRoom n rest
wrote_one m n first all left rest x cut inv new stay = (
  ap (λ r. after_changes r rest) new ∙ ap (after_changes (kept m.entries)) (sym cut) ∙ inv.0,
  room_stays m n rest stay (let P : List Change → Type 0 = HasRoom m in subst P cut inv.1).1,
)

-- one slot is made
pub made_one : (m n : BTreeMap (ℕ × ℕ) (Option (List ℕ))) (front more : List Change) (x : Change) → more ≡ front ++ x ∷ [] → HasRoom m front → HasRoomFor n (x.table, x.key) → ((q : ℕ × ℕ) → HasRoomFor m q → HasRoomFor n q) → HasRoom n more
made_one m n front more x cut room one stay =
    let P : List Change → Type 0 = HasRoom n in subst P (sym cut) (room_push n front x (room_stays m n front stay room) one)
