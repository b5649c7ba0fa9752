-- The slots of others, of which some are left: room is made for them, and their pages are laid.
use Rattle.std.proofs.Common.{◌≡◌, ℕ, List, [], ◌∷◌, Bool, true, false, cond, ◌||◌, Some, None, is_some, IsSome, refl, sym, ap, subst, ◌∙◌}
use Rattle.std.specs.Option.{option_or}
use Rattle.std.specs.declared.option.Option.{Option}
use Rattle.std.specs.declared.cmp.Ordering.{Ordering}
use Rattle.std.specs.declared.cmp.Ordering.TheVariants.{Less}
use Rattle.std.specs.FinMap as finite
use Rattle.std.specs.FinMap.{get-insert}
use Rattle.std.specs.BTreeMap.{BTreeMap, get, is_at, keys}
use Rattle.std.specs.List.{AllByRecursion, list_any}
use Rattle.std.specs.List.Sorted.{IsStrictlySortedBy}
use Rattle.std.specs.Map.{keys_of, lookup}
use Rattle.std.specs.Ordering.{eq_by_cmp, is_eq}
use Rattle.std.proofs.lemmas.Map.Keys.{sorted_head, sorted_tail}
use Rattle.clone_base.proofs.MapEntries.{is_equal, ties}
use Rattle.clone_model.specs.Keys.{row_cmp}
use Rattle.clone_model.specs.Room.{kept}
use Rattle.clone_model.proofs.RowMaps.{row_cmp_total, row_cmp_exact, inside, get_rows}
use Rattle.clone_increment.specs.Copies.{PagesByPlace}
use Rattle.clone_increment.specs.Readings.{joined}
use Rattle.clone_increment.specs.Slots.{HasRoomFor, HasRoomForPages, Slots}

abbrev pub Entries : Type 0
Entries = List ((ℕ × ℕ) × Option (List ℕ))

-- ---- room

-- there is room for the others but for those that are left
abbrev pub HasRoomBut : List (ℕ × ℕ) → Slots → Slots → Type 0
HasRoomBut left slots others = (q : ℕ × ℕ) → IsSome (get row_cmp others q) → list_any (eq_by_cmp row_cmp q) left ≡ false → IsSome (get row_cmp slots q)

among : (es : Entries) (q : ℕ × ℕ) → is_some (lookup (is_at (row_cmp q)) es) ≡ list_any (eq_by_cmp row_cmp q) (keys_of es)
among [] q = refl
among (e ∷ es) q = at (eq_by_cmp row_cmp q e.0) ∙ ap (λ (b : Bool). eq_by_cmp row_cmp q e.0 || b) (among es q)
  where
    at : (b : Bool) → is_some (cond b (Some e.1) (lookup (is_at (row_cmp q)) es)) ≡ (b || is_some (lookup (is_at (row_cmp q)) es))
    at true = refl
    at false = refl

pub room_first : (slots others : Slots) (left : List (ℕ × ℕ)) → left ≡ keys others → HasRoomBut left slots others
room_first slots others left is = λ q some away.
    absurd (let e : true ≡ false = sym some ∙ among others.entries q ∙ sym (ap (list_any (eq_by_cmp row_cmp q)) is) ∙ away in cc)

pub room_more : (old new others : Slots) (left rest : List (ℕ × ℕ)) (k : ℕ × ℕ) → left ≡ k ∷ rest → HasRoomBut left old others → IsSome (get row_cmp new k) → ((q : ℕ × ℕ) → IsSome (get row_cmp old q) → IsSome (get row_cmp new q))
    → HasRoomBut rest new others
room_more old new others left rest k cut room here stay = λ q some away. at q (eq_by_cmp row_cmp q k) refl some away
  where
    at : (q : ℕ × ℕ) (b : Bool) → eq_by_cmp row_cmp q k ≡ b → IsSome (get row_cmp others q) → list_any (eq_by_cmp row_cmp q) rest ≡ false → IsSome (get row_cmp new q)
    at q true tie some away = subst (λ (p : ℕ × ℕ). IsSome (get row_cmp new p)) (sym (row_cmp_exact q k (is_equal _ tie))) here
    at q false tie some away = stay q (room q some (ap (list_any (eq_by_cmp row_cmp q)) cut ∙ ap (λ (b : Bool). b || list_any (eq_by_cmp row_cmp q) rest) tie ∙ away))

pub room_all : (slots others : Slots) (left : List (ℕ × ℕ)) → left ≡ [] → HasRoomBut left slots others → HasRoomFor slots others
room_all slots others left none room = λ q some. room q some (ap (list_any (eq_by_cmp row_cmp q)) none)

-- ---- pages

-- what is left at a place
abbrev pub left_at : Entries → ℕ × ℕ → Option (List ℕ)
left_at left q = inside (lookup (is_at (row_cmp q)) left)

-- with the pages that are left, the slots have all pages of others over those that were there
pub record Lays (left : Entries) (slots others old : Slots) : Type 0 where
  pub sorted : IsStrictlySortedBy row_cmp (keys_of left)
  pub room : (q : ℕ × ℕ) → IsSome (left_at left q) → IsSome (get row_cmp slots q)
  pub pages : (q : ℕ × ℕ) → option_or (left_at left q) (finite.get (kept slots.entries) q) ≡ option_or (finite.get (kept others.entries) q) (finite.get (kept old.entries) q)

pub lays_first : (slots others : Slots) (left : Entries) → left ≡ others.entries → IsStrictlySortedBy row_cmp (keys_of others.entries) → HasRoomForPages slots others → Lays left slots others slots
lays_first slots others left is sorted room =
    let same = λ (q : ℕ × ℕ). ap (λ (es : Entries). inside (lookup (is_at (row_cmp q)) es)) is ∙ sym (get_rows others q) in
    record {
      sorted = subst (λ (es : Entries). IsStrictlySortedBy row_cmp (keys_of es)) (sym is) sorted;
      room = λ q some. room q (sym (ap is_some (same q)) ∙ some);
      pages = λ q. ap (λ (o : Option (List ℕ)). option_or o (finite.get (kept slots.entries) q)) (same q);
    }

-- nothing is left at a place below all others
none_below : (k : ℕ × ℕ) (es : Entries) → AllByRecursion (λ y. row_cmp k y ≡ Less) (keys_of es) → lookup (is_at (row_cmp k)) es ≡ None
none_below k [] below = refl
none_below k (e ∷ es) below = ap (λ (r : Ordering). cond (is_eq r) (Some e.1) (lookup (is_at (row_cmp k)) es)) below.0 ∙ none_below k es below.1

-- the first of those that are left is laid
pub lays_more : (old new others start : Slots) (left rest : Entries) (place : ℕ × ℕ) (slot : Option (List ℕ)) → left ≡ (place, slot) ∷ rest → Lays left old others start → kept new.entries ≡ joined (kept old.entries) place slot
    → ((q : ℕ × ℕ) → IsSome (get row_cmp old q) → IsSome (get row_cmp new q)) → Lays rest new others start
lays_more old new others start left rest place slot cut lays is stay = record {
  sorted = sorted_tail row_cmp place (keys_of rest) sorted;
  room = λ q some. stay q (lays.room q (ap is_some (at q) ∙ still q (eq_by_cmp row_cmp q place) refl some));
  pages = λ q. ap (option_or (left_at rest q)) (ap (λ (m : PagesByPlace). finite.get m q) is) ∙ moved q (eq_by_cmp row_cmp q place) refl slot ∙ ap (λ (o : Option (List ℕ)). option_or o (finite.get (kept old.entries) q)) (sym (at q)) ∙ lays.pages q;
}
  where
    sorted : IsStrictlySortedBy row_cmp (place ∷ keys_of rest)
    sorted = subst (λ (es : Entries). IsStrictlySortedBy row_cmp (keys_of es)) cut lays.sorted

    at : (q : ℕ × ℕ) → inside (lookup (is_at (row_cmp q)) left) ≡ inside (cond (eq_by_cmp row_cmp q place) (Some slot) (lookup (is_at (row_cmp q)) rest))
    at q = ap (λ (es : Entries). inside (lookup (is_at (row_cmp q)) es)) cut

    gone : (q : ℕ × ℕ) → eq_by_cmp row_cmp q place ≡ true → lookup (is_at (row_cmp q)) rest ≡ None
    gone q tie = ap (λ (p : ℕ × ℕ). lookup (is_at (row_cmp p)) rest) (row_cmp_exact q place (is_equal _ tie)) ∙ none_below place rest (sorted_head row_cmp place (keys_of rest) sorted)

    still : (q : ℕ × ℕ) (b : Bool) → eq_by_cmp row_cmp q place ≡ b → IsSome (inside (lookup (is_at (row_cmp q)) rest)) → IsSome (inside (cond (eq_by_cmp row_cmp q place) (Some slot) (lookup (is_at (row_cmp q)) rest)))
    still q true tie some = absurd (let e : false ≡ true = sym (ap (λ (o : Option (Option (List ℕ))). is_some (inside o)) (gone q tie)) ∙ some in cc)
    still q false tie some = ap (λ (b : Bool). is_some (inside (cond b (Some slot) (lookup (is_at (row_cmp q)) rest)))) tie ∙ some

    put : (q : ℕ × ℕ) (page : List ℕ) (b : Bool) → eq_by_cmp row_cmp q place ≡ b → finite.get (finite.insert (kept old.entries) place page) q ≡ cond b (Some page) (finite.get (kept old.entries) q)
    put q page b tie = get-insert row_cmp_total (kept old.entries) place page q ∙ ap (λ (t : Bool). cond t (Some page) (finite.get (kept old.entries) q)) tie

    moved : (q : ℕ × ℕ) (b : Bool) → eq_by_cmp row_cmp q place ≡ b → (v : Option (List ℕ))
        → option_or (inside (lookup (is_at (row_cmp q)) rest)) (finite.get (joined (kept old.entries) place v) q) ≡ option_or (inside (cond (eq_by_cmp row_cmp q place) (Some v) (lookup (is_at (row_cmp q)) rest))) (finite.get (kept old.entries) q)
    moved q true tie None =
        ap (λ (o : Option (Option (List ℕ))). option_or (inside o) (finite.get (kept old.entries) q)) (gone q tie)
        ∙ sym (ap (λ (t : Bool). option_or (inside (cond t (Some None) (lookup (is_at (row_cmp q)) rest))) (finite.get (kept old.entries) q)) tie)
    moved q true tie (Some page) =
        ap (λ (o : Option (Option (List ℕ))). option_or (inside o) (finite.get (finite.insert (kept old.entries) place page) q)) (gone q tie) ∙ put q page true tie
        ∙ sym (ap (λ (t : Bool). option_or (inside (cond t (Some (Some page)) (lookup (is_at (row_cmp q)) rest))) (finite.get (kept old.entries) q)) tie)
    moved q false tie None = sym (ap (λ (t : Bool). option_or (inside (cond t (Some None) (lookup (is_at (row_cmp q)) rest))) (finite.get (kept old.entries) q)) tie)
    moved q false tie (Some page) =
        ap (option_or (inside (lookup (is_at (row_cmp q)) rest))) (put q page false tie)
        ∙ sym (ap (λ (t : Bool). option_or (inside (cond t (Some (Some page)) (lookup (is_at (row_cmp q)) rest))) (finite.get (kept old.entries) q)) tie)

-- the first of those that are left has room
pub lays_room : (slots others start : Slots) (left rest : Entries) (place : ℕ × ℕ) (slot : Option (List ℕ)) → left ≡ (place, slot) ∷ rest → Lays left slots others start → IsSome slot → IsSome (get row_cmp slots place)
lays_room slots others start left rest place slot cut lays some =
    lays.room place (ap (λ (es : Entries). is_some (inside (lookup (is_at (row_cmp place)) es))) cut ∙ ap (λ (b : Bool). is_some (inside (cond b (Some slot) (lookup (is_at (row_cmp place)) rest)))) (ties row_cmp_total row_cmp_exact place) ∙ some)

pub lays_all : (slots others start : Slots) (left : Entries) → left ≡ [] → Lays left slots others start → (q : ℕ × ℕ) → finite.get (kept slots.entries) q ≡ option_or (finite.get (kept others.entries) q) (finite.get (kept start.entries) q)
lays_all slots others start left none lays q =
    sym (ap (λ (es : Entries). option_or (inside (lookup (is_at (row_cmp q)) es)) (finite.get (kept slots.entries) q)) none) ∙ lays.pages q
