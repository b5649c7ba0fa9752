-- A disk on which room was made for files: each of their pages is a zero page.
use Rattle.std.proofs.Common.{◌≡◌, ◌<◌, ◌≢◌, ◌∷◌, ◌∙◌, ◌==◌, ◌&&◌, ◌≤◌, ◌⊎◌, inl, inr, [], ℕ, zero, suc, Bool, true, false, if◌then◌else◌, List, length, get_or, None, Some, refl, sym, ap, subst, arith, slice_get}
use Rattle.std.specs.Prelude.{nat_lt, unwrap_or, option_and_then, IfSome}
use Rattle.std.specs.declared.option.Option.{Option}
use Rattle.std.specs.FinMap as finite
use Rattle.std.specs.FinMap.{get-empty}
use Rattle.std.specs.List.{All, AllByRecursion, Contains}
use Rattle.std.specs.Ordering.{nat_cmp}
use Rattle.std.proofs.lemmas.Bool.{eq-eqb, le-ltb}
use Rattle.std.proofs.lemmas.Bool.Decides.{eqb_tells}
use Rattle.std.proofs.lemmas.List.Elements.{All-head, All-tail}
use Rattle.clone_base.specs.declared.limits.TheConstants.{REDO_SPACE}
use Rattle.clone_outside.specs.Disk as disk
use Rattle.clone_outside.specs.Disk.{DiskImage, Spaces, extended, pages_in}
use Rattle.clone_outside.specs.declared.disk.Held.{Held}
use Rattle.clone_contents.specs.Records.{system_size}
use Rattle.clone_image.specs.Redone.{Standing, no_space, past_end, stands, standing_of}
use Rattle.clone_page.specs.Header.{zero_page}
use Rattle.clone_law.specs.Touches.{Lax}
use Rattle.clone_standing.specs.Latest.{IsLowRoom, made_standing}
use Rattle.clone_overlay.specs.Images.{redo_space, image_of, IsQuiet}
use Rattle.clone_lay.specs.Laid.{standing, with_room}
use Rattle.clone_lay.proofs.PageLemmas.{room_place}
use Rattle.clone_outside.proofs.SpaceLemmas.{get_there, get_here}
use Rattle.clone_accepted.specs.Disk.{with_rooms}
use Rattle.clone_standing.proofs.StandingLemmas.{IsShort, given_lax, held_standing, lax_same, lax_trans, short_from, short_on, space_standing, standing_low, standing_still}

pub blank_there : (m : DiskImage) → m.spaces ≡ finite.empty → (s : ℕ) → finite.get m.spaces s ≡ None
blank_there m empty s = ap (λ (x : Spaces). finite.get x s) empty ∙ get-empty nat_cmp s

pub blank_standing : (m : DiskImage) (s n : ℕ) → m.spaces ≡ finite.empty → s < redo_space → standing_of (image_of m) s n ≡ no_space
blank_standing m s n empty low = standing_low m s n low ∙ ap (λ (o : Option (List Held)). space_standing o n) (blank_there m empty s)

room_lax : (m : DiskImage) (space count s n : ℕ) → s < redo_space → Lax (standing_of (image_of (with_room space count m)) s n) (standing_of (image_of m) s n)
room_lax m space count s n low =
    given_lax m space (extended count (pages_in m space)) s n (space == s && nat_lt n count) low (room_place m space count s n)

pub rooms_lax : (spaces : List (ℕ × ℕ)) (m : DiskImage) (s n : ℕ) → s < redo_space → Lax (standing_of (image_of (with_rooms spaces m)) s n) (standing_of (image_of m) s n)
rooms_lax [] m s n low = lax_same (standing_of (image_of m) s n)
rooms_lax (space ∷ spaces) m s n low =
    let next = with_room space.0 space.1 m in
    lax_trans (standing_of (image_of (with_rooms spaces next)) s n) (standing_of (image_of next) s n) (standing_of (image_of m) s n) (rooms_lax spaces next s n low) (room_lax m space.0 space.1 s n low)

-- no page that isn't zero stands on the disk
pub rooms_standing : (spaces : List (ℕ × ℕ)) (m : DiskImage) → m.spaces ≡ finite.empty → (s n : ℕ) → s < redo_space → Lax (standing_of (image_of (with_rooms spaces m)) s n) no_space
rooms_standing spaces m empty s n low = subst (Lax (standing_of (image_of (with_rooms spaces m)) s n)) (blank_standing m s n empty low) (rooms_lax spaces m s n low)

pub held_past : (o : Option Held) → Lax (held_standing o) no_space → Lax (held_standing o) past_end
held_past None lax = tt
held_past (Some held) lax = lax

-- where there is no page, a space that gets room has one of zero bytes, or none past its end
room_past : (m : DiskImage) (s count n : ℕ) → s < redo_space → Lax (standing_of (image_of m) s n) no_space → Lax (standing_of (image_of (with_room s count m)) s n) past_end
room_past m s count n low before =
    let now = standing_low (with_room s count m) s n low ∙ ap (λ (o : Option (List Held)). space_standing o n) (get_here m s (extended count (pages_in m s))) in
    let lax = lax_trans (standing_of (image_of (with_room s count m)) s n) (standing_of (image_of m) s n) no_space (room_lax m s count s n low) before in
    subst (λ (v : Standing). Lax v past_end) (sym now) (held_past (slice_get (extended count (pages_in m s)) n) (subst (λ (v : Standing). Lax v no_space) now lax))

listed_past : (spaces : List (ℕ × ℕ)) (m : DiskImage) (s size n : ℕ) → s < redo_space → Lax (standing_of (image_of m) s n) no_space → (index : ℕ) → index < length spaces → get_or spaces index (s, size) ≡ (s, size) → Lax (standing_of (image_of (with_rooms spaces m)) s n) past_end
listed_past [] m s size n low before index within is = absurd (omega (arith, within))
listed_past (space ∷ spaces) m s size n low before zero within is =
    let next = with_room space.0 space.1 m in
    lax_trans (standing_of (image_of (with_rooms spaces next)) s n) (standing_of (image_of next) s n) past_end (rooms_lax spaces next s n low)
    (subst (λ (x : ℕ). Lax (standing_of (image_of (with_room x space.1 m)) s n) past_end) (sym (ap (λ (p : ℕ × ℕ). p.0) is)) (room_past m s space.1 n low before))
listed_past (space ∷ spaces) m s size n low before (suc index) within is =
    let next = with_room space.0 space.1 m in
    listed_past spaces next s size n low (lax_trans (standing_of (image_of next) s n) (standing_of (image_of m) s n) no_space (room_lax m space.0 space.1 s n low) before) index (omega (arith, within)) is

-- and a space that is listed is there
pub rooms_past : (spaces : List (ℕ × ℕ)) (m : DiskImage) (s size n : ℕ) → m.spaces ≡ finite.empty → s < redo_space → Contains spaces (s, size) → Lax (standing_of (image_of (with_rooms spaces m)) s n) past_end
rooms_past spaces m s size n empty low listed =
    listed_past spaces m s size n low (subst (λ (v : Standing). Lax v no_space) (sym (blank_standing m s n empty low)) tt) listed.0 listed.1 listed.2

-- a space that is made has zero pages, as many as it was made with
made_held : (o : Option Held) (size n : ℕ) (past : Bool) → nat_lt n size ≡ past → (past ≡ true → o ≡ None → ⊥) → Lax (held_standing o) no_space → Lax (held_standing o) (if past then stands zero_page else past_end)
made_held None size n true is some lax = absurd (some refl refl)
made_held (Some held) size n true is some lax = ap (λ (b : List ℕ). stands b) lax
made_held o size n false is some lax = held_past o lax

room_made : (m : DiskImage) (s size n : ℕ) → s < redo_space → Lax (standing_of (image_of m) s n) no_space → Lax (standing_of (image_of (with_room s size m)) s n) (made_standing size n)
room_made m s size n low before =
    let there : standing_of (image_of (with_room s size m)) s n ≡ held_standing (slice_get (extended size (pages_in m s)) n) = standing_low (with_room s size m) s n low ∙ ap (λ (o : Option (List Held)). space_standing o n) (get_here m s (extended size (pages_in m s))) in
    let lax = lax_trans (standing_of (image_of (with_room s size m)) s n) (standing_of (image_of m) s n) no_space (room_lax m s size s n low) before in
    subst (λ (v : Standing). Lax v (made_standing size n)) (sym there)
    (made_held (slice_get (extended size (pages_in m s)) n) size n (nat_lt n size) refl (is_there) (subst (λ (v : Standing). Lax v no_space) there lax))
  where
    some_standing : (o : Option Held) (b : Bool) → b ≡ true → standing None o b ≡ None → ⊥
    some_standing (Some h) b is none = absurd (cc)
    some_standing None true is none = absurd (cc)
    some_standing None false is none = absurd (cc)

    is_there : nat_lt n size ≡ true → slice_get (extended size (pages_in m s)) n ≡ None → ⊥
    is_there within none =
        some_standing (disk.page_of m s n) (s == s && nat_lt n size) (ap (λ (b : Bool). b && nat_lt n size) (eq-eqb s s refl) ∙ within)
        (sym (room_place m s size s n) ∙ ap (option_and_then (λ (ps : List Held). slice_get ps n)) (get_here m s (extended size (pages_in m s))) ∙ none)

pub made_stands : (made : List (ℕ × ℕ)) (m : DiskImage) (s size n : ℕ) → s < redo_space → Lax (standing_of (image_of m) s n) no_space → Contains made (s, size) → Lax (standing_of (image_of (with_rooms made m)) s n) (made_standing size n)
made_stands [] m s size n low before (index, within, is) = absurd (omega (arith, within))
made_stands (space ∷ spaces) m s size n low before (zero, within, is) =
    let next = with_room space.0 space.1 m in
    lax_trans (standing_of (image_of (with_rooms spaces next)) s n) (standing_of (image_of next) s n) (made_standing size n) (rooms_lax spaces next s n low)
    (subst (λ (p : ℕ × ℕ). Lax (standing_of (image_of (with_room p.0 p.1 m)) s n) (made_standing size n)) (sym is) (room_made m s size n low before))
made_stands (space ∷ spaces) m s size n low before (suc index, within, is) =
    let next = with_room space.0 space.1 m in
    made_stands spaces next s size n low (lax_trans (standing_of (image_of next) s n) (standing_of (image_of m) s n) no_space (room_lax m space.0 space.1 s n low) before) (index, omega (arith, within), is)

pub made_beside : (made : List (ℕ × ℕ)) (m : DiskImage) → AllByRecursion IsLowRoom made → pages_in (with_rooms made m) REDO_SPACE ≡ pages_in m REDO_SPACE
made_beside [] m low = refl
made_beside (space ∷ spaces) m low =
    made_beside spaces (with_room space.0 space.1 m) low.1
    ∙ ap (λ (o : Option (List Held)). unwrap_or o []) (get_there m space.0 REDO_SPACE (extended space.1 (pages_in m space.0)) (λ same. absurd (omega (arith, low.0.0, same))))

-- a space that isn't listed stays
pub rooms_beside : (spaces : List (ℕ × ℕ)) (m : DiskImage) (q : ℕ) → All (λ (t : ℕ × ℕ). t.0 ≢ q) spaces → finite.get (with_rooms spaces m).spaces q ≡ finite.get m.spaces q
rooms_beside [] m q others = refl
rooms_beside (space ∷ spaces) m q others =
    rooms_beside spaces (with_room space.0 space.1 m) q (λ i d less. others (suc i) d (omega (arith, less)))
    ∙ get_there m space.0 q (extended space.1 (pages_in m space.0)) (λ same. others 0 space (omega arith) (sym same))

-- The system space gets no more pages than it may.

pub room_short : (m : DiskImage) (space count : ℕ) → (space ≡ 0 → count ≤ system_size) → IsShort m → IsShort (with_room space count m)
room_short m space count most short n past =
    short_from (with_room space count m) n
    (room_place m space count 0 n
    ∙ ap (λ (o : Option Held). standing None o (space == 0 && nat_lt n count)) (short_on m n (short n past))
    ∙ ap (λ (b : Bool). standing None None b) (beside (eqb_tells space 0)))
  where
    beside : (((space == 0) ≡ true) × (space ≡ 0)) ⊎ (((space == 0) ≡ false) × (space ≢ 0)) → (space == 0 && nat_lt n count) ≡ false
    beside (inl is) = ap (λ (x : Bool). x && nat_lt n count) is.0 ∙ le-ltb n count (omega (arith, most is.1, past))
    beside (inr is) = ap (λ (x : Bool). x && nat_lt n count) is.0

all_short : (spaces : List (ℕ × ℕ)) (m : DiskImage) → IsShort m → All (λ (t : ℕ × ℕ). t.0 ≡ 0 → t.1 ≤ system_size) spaces → IsShort (with_rooms spaces m)
all_short [] m short most = short
all_short (space ∷ spaces) m short most =
    all_short spaces (with_room space.0 space.1 m) (room_short m space.0 space.1 (All-head (λ (t : ℕ × ℕ). t.0 ≡ 0 → t.1 ≤ system_size) space spaces most) short)
    (All-tail (λ (t : ℕ × ℕ). t.0 ≡ 0 → t.1 ≤ system_size) space spaces most)

pub rooms_short : (spaces : List (ℕ × ℕ)) (m : DiskImage) → m.spaces ≡ finite.empty → All (λ (t : ℕ × ℕ). t.0 ≡ 0 → t.1 ≤ system_size) spaces → IsShort (with_rooms spaces m)
rooms_short spaces m empty most =
    all_short spaces m (λ n past. short_from m n (ap (λ (o : Option (List Held)). option_and_then (λ (ps : List Held). slice_get ps n) o) (blank_there m empty 0))) most

pub rooms_still : (spaces : List (ℕ × ℕ)) (m : DiskImage) → IsQuiet m → IsQuiet (with_rooms spaces m)
rooms_still [] m quiet = quiet
rooms_still (space ∷ spaces) m quiet =
    rooms_still spaces (with_room space.0 space.1 m) (λ s n. subst (λ (o : Option Held). IfSome o (λ held. held.writing ≡ false)) (sym (room_place m space.0 space.1 s n)) (standing_still None (disk.page_of m s n) _ (quiet s n)))

pub rooms_quiet : (spaces : List (ℕ × ℕ)) (m : DiskImage) → m.spaces ≡ finite.empty → IsQuiet (with_rooms spaces m)
rooms_quiet spaces m empty =
    rooms_still spaces m (λ s n. subst (λ (o : Option (List Held)). IfSome (option_and_then (λ (ps : List Held). slice_get ps n) o) (λ held. held.writing ≡ false)) (sym (blank_there m empty s)) tt)

pub rooms_beside_redo : (spaces : List (ℕ × ℕ)) (m : DiskImage) → m.spaces ≡ finite.empty → All (λ (t : ℕ × ℕ). t.0 < redo_space) spaces → pages_in (with_rooms spaces m) REDO_SPACE ≡ []
rooms_beside_redo spaces m empty low =
    ap (λ (o : Option (List Held)). unwrap_or o [])
    (rooms_beside spaces m REDO_SPACE (λ i d less is. absurd (omega (arith, low i d less, is))) ∙ blank_there m empty REDO_SPACE)

pub made_short : (made : List (ℕ × ℕ)) (m : DiskImage) → AllByRecursion IsLowRoom made → IsShort m → IsShort (with_rooms made m)
made_short [] m low short = short
made_short (space ∷ spaces) m low short = made_short spaces (with_room space.0 space.1 m) low.1 (room_short m space.0 space.1 low.0.1 short)
