-- Pages by place: pages that are laid over others, and what the slots of a map make of them.
use Rattle.std.proofs.Common.{◌≡◌, ℕ, List, [], ◌∷◌, ◌++◌, Bool, true, false, cond, ◌||◌, Some, None, is_some, IsSome, refl, sym, ap, subst, ◌∙◌, option_map}
use Rattle.std.specs.Option.{option_or}
use Rattle.std.specs.declared.option.Option.{Option}
use Rattle.std.specs.FinMap as finite
use Rattle.std.specs.FinMap.{same_map, get-from_entries, get-entries, get-insert, get-retain_keys}
use Rattle.std.specs.BTreeMap.{BTreeMap, get, Updates, is_at}
use Rattle.std.specs.List.{filter}
use Rattle.std.specs.Map.{lookup}
use Rattle.std.specs.Ordering.{eq_by_cmp}
use Rattle.std.proofs.lemmas.Map.Entries.{lookup-filter-keys}
use Rattle.clone_base.proofs.MapEntries.{is_equal}
use Rattle.clone_model.specs.Keys.{row_cmp}
use Rattle.clone_model.specs.History.{set_or_remove}
use Rattle.clone_model.specs.Room.{kept}
use Rattle.clone_model.proofs.RowMaps.{row_cmp_total, row_cmp_exact, inside, get_rows, updated_rows}
use Rattle.clone_outside.specs.Disk.{DiskImage}
use Rattle.clone_increment.specs.Copies.{PagesByPlace, laid}
use Rattle.clone_increment.specs.Readings.{ReadsPage}
use Rattle.clone_increment.specs.Slots.{HasRoomFor, HasRoomForPages, IsRead, Slots}

-- ---- pages that are laid over others

chosen : (b : Bool) (v : List ℕ) (x y : Option (List ℕ)) → cond b (Some v) (option_or x y) ≡ option_or (cond b (Some v) x) y
chosen true v x y = refl
chosen false v x y = refl

find-both : (over under : List ((ℕ × ℕ) × List ℕ)) (q : ℕ × ℕ) → finite.find row_cmp q (over ++ under) ≡ option_or (finite.find row_cmp q over) (finite.find row_cmp q under)
find-both [] under q = refl
find-both (e ∷ over) under q =
    ap (cond (eq_by_cmp row_cmp q e.0) (Some e.1)) (find-both over under q) ∙ chosen (eq_by_cmp row_cmp q e.0) e.1 (finite.find row_cmp q over) (finite.find row_cmp q under)

pub get-laid : (over under : PagesByPlace) (q : ℕ × ℕ) → finite.get (laid over under) q ≡ option_or (finite.get over q) (finite.get under q)
get-laid over under q =
    get-from_entries row_cmp_total (finite.entries over ++ finite.entries under) q ∙ find-both (finite.entries over) (finite.entries under) q
    ∙ sym (λ i. option_or (get-entries over q i) (get-entries under q i))

pub get-staying : (pages : PagesByPlace) (stays : ℕ × ℕ → Bool) (q : ℕ × ℕ) → finite.get (finite.retain_keys pages stays) q ≡ cond (stays q) (finite.get pages q) None
get-staying pages stays q = get-retain_keys pages stays q (λ x tie. sym (ap stays (row_cmp_exact q x tie)))

-- ---- slots

-- a page that was read has joined
pub read_joins : (told : Option DiskImage) (old new : Slots) (space number : ℕ) (slot : Option (List ℕ)) → IsRead told space number slot → Updates row_cmp old new (space, number) (Some slot)
    → ReadsPage told space number (kept old.entries) (kept new.entries)
read_joins told old new space number None read is = absurd read
read_joins told old new space number (Some bytes) read is = (bytes, updated_rows old new (space, number) (Some bytes) is, read)

-- a page that was laid into its slot
pub filled : (old new : Slots) (place : ℕ × ℕ) (slot after : Option (List ℕ)) (page : List ℕ) → Some slot ≡ get row_cmp old place → (IsSome (get row_cmp old place) → Updates row_cmp old new place (Some after)) → after ≡ Some page
    → kept new.entries ≡ finite.insert (kept old.entries) place page
filled old new place slot after page there is same =
    updated_rows old new place after (is (ap is_some (sym there))) ∙ ap (set_or_remove (kept old.entries) place) same

-- slots that are kept by their places
pub get-kept : (old new : Slots) (stays : ℕ × ℕ → Bool) → new.entries ≡ filter (λ e. stays e.0) old.entries → (q : ℕ × ℕ) → get row_cmp new q ≡ cond (stays q) (get row_cmp old q) None
get-kept old new stays is q =
    ap (lookup (is_at (row_cmp q))) is ∙ lookup-filter-keys (is_at (row_cmp q)) stays (stays q) (λ k tie. sym (ap stays (row_cmp_exact q k (is_equal _ tie)))) old.entries

kept_some : (b a : Bool) (p : Option (Option (List ℕ))) → a ≡ true → IsSome p → IsSome (cond (b || a) p None)
kept_some true a p is some = some
kept_some false true p is some = some
kept_some false false p is some = cc

has_slot : (o : Option (Option (List ℕ))) → IsSome (inside o) → IsSome o
has_slot None some = some
has_slot (Some v) some = refl

-- there is room for the pages of others among the slots that are kept
pub room_left : (old new others : Slots) (stays : ℕ × ℕ → Bool) → HasRoomFor old others
    → ((q : ℕ × ℕ) → get row_cmp new q ≡ cond (stays q || is_some (finite.get (kept others.entries) q)) (get row_cmp old q) None) → HasRoomForPages new others
room_left old new others stays room is q some =
    let slot : IsSome (get row_cmp others q) = has_slot (get row_cmp others q) (subst (λ (o : Option (List ℕ)). IsSome o) (get_rows others q) some) in
    ap is_some (is q) ∙ kept_some (stays q) (is_some (finite.get (kept others.entries) q)) (get row_cmp old q) some (room q slot)

inside_kept : (b : Bool) (p : Option (Option (List ℕ))) → inside (cond b p None) ≡ cond b (inside p) None
inside_kept true p = refl
inside_kept false p = refl

laid_at : (b : Bool) (o p : Option (List ℕ)) → option_or o (cond (b || is_some o) p None) ≡ option_or o (cond b p None)
laid_at b (Some x) p = refl
laid_at true None p = refl
laid_at false None p = refl

-- pages are laid over those that stay
pub laid_over : (old mid room new others : Slots) (stays : ℕ × ℕ → Bool) → kept room.entries ≡ kept old.entries
    → ((q : ℕ × ℕ) → get row_cmp mid q ≡ cond (stays q || is_some (finite.get (kept others.entries) q)) (get row_cmp room q) None)
    → ((q : ℕ × ℕ) → finite.get (kept new.entries) q ≡ option_or (finite.get (kept others.entries) q) (finite.get (kept mid.entries) q))
    → kept new.entries ≡ laid (kept others.entries) (finite.retain_keys (kept old.entries) stays)
laid_over old mid room new others stays same keeps writes =
    same_map row_cmp_total row_cmp_exact (kept new.entries) (laid (kept others.entries) (finite.retain_keys (kept old.entries) stays)) (λ q.
    let o = finite.get (kept others.entries) q in
    let left : finite.get (kept mid.entries) q ≡ cond (stays q || is_some o) (finite.get (kept old.entries) q) None =
    get_rows mid q ∙ ap inside (keeps q) ∙ inside_kept (stays q || is_some o) (get row_cmp room q)
    ∙ ap (λ (p : Option (List ℕ)). cond (stays q || is_some o) p None) (sym (get_rows room q) ∙ ap (λ (m : PagesByPlace). finite.get m q) same) in
    writes q ∙ ap (option_or o) left ∙ laid_at (stays q) o (finite.get (kept old.entries) q)
    ∙ sym (get-laid (kept others.entries) (finite.retain_keys (kept old.entries) stays) q ∙ ap (option_or o) (get-staying (kept old.entries) stays q)))
