-- How pages stand on a disk once others were laid.
use Rattle.std.proofs.Common.{◌≡◌, ◌≢◌, ◌+◌, ◌-◌, ◌/◌, ◌<◌, ◌≤◌, ◌⊎◌, ◌∙◌, ◌∷◌, ◌==◌, ◌&&◌, ◌||◌, [], ℕ, Bool, true, false, cond, List, length, None, Some, refl, sym, ap, subst, arith, inl, inr, slice_get}
use Rattle.std.specs.Prelude.{nat_lt, unwrap_or, option_map, option_and_then, IfSome}
use Rattle.std.specs.List.{range_with_len}
use Rattle.std.specs.declared.option.Option.{Option}
use Rattle.std.specs.FinMap as finite
use Rattle.std.proofs.lemmas.Bool.{cases_eq, cases_lt, le-ltb, lt-ltb}
use Rattle.std.proofs.lemmas.Bool.Decides.{eqb_tells}
use Rattle.std.proofs.lemmas.Option.{slice_get-map}
use Rattle.clone_base.specs.declared.limits.TheConstants.{PAGE_SIZE, REDO_SPACE}
use Rattle.clone_outside.specs.Disk as disk
use Rattle.clone_outside.specs.Disk.{DiskImage, pages_in, whole, with_space, IsSameBut}
use Rattle.clone_outside.specs.declared.disk.Held.{Held}
use Rattle.clone_contents.specs.Records.{system_size}
use Rattle.clone_image.specs.Image.{page_of}
use Rattle.clone_image.specs.Redone.{Standing, no_space, past_end, stands, standing_at, standing_in, standing_of}
use Rattle.clone_law.specs.Machine.{Copy, Idle, Untracked, Tracked, Copied, Stopped}
use Rattle.clone_law.specs.Starts.{IsStart}
use Rattle.clone_law.specs.Touches.{Lax}
use Rattle.clone_overlay.specs.Images.{redo_space, bytes_of, image_of, IsQuiet}
use Rattle.clone_overlay.proofs.Bases.{get_image}
use Rattle.clone_lay.specs.Laid.{laid_over, laid_page, standing}
use Rattle.clone_lay.specs.Redo.{laid_redo, pages_for, redo_page, redo_pages}
use Rattle.clone_lay.proofs.LaidLemmas.{extended_there, extended_zero, laid_before, laid_behind, laid_here}
use Rattle.clone_lay.proofs.PageLemmas.{page_in_pages, pages_place}
use Rattle.clone_outside.proofs.SpaceLemmas.{get_here, get_there}
use Rattle.clone_standing.specs.Counting.{Counts}

pub lax_trans : (v u s : Standing) → Lax v u → Lax u s → Lax v s
lax_trans v u (stands page) first second = subst (Lax v) second first
lax_trans v (stands page) no_space first second = subst (λ (x : Standing). Lax x no_space) (sym first) second
lax_trans v (stands page) past_end first second = subst (λ (x : Standing). Lax x past_end) (sym first) second
lax_trans v no_space no_space first second = first
lax_trans v past_end past_end first second = first
lax_trans v no_space past_end first second = absurd second
lax_trans no_space past_end no_space first second = absurd first
lax_trans past_end past_end no_space first second = tt
lax_trans (stands page) past_end no_space first second = first

pub lax_same : (v : Standing) → Lax v v
lax_same no_space = tt
lax_same past_end = tt
lax_same (stands page) = refl

start_lax : (starts : List Standing) (u v : Standing) → Lax v u → IsStart starts u → IsStart starts v
start_lax [] u v lax start = start
start_lax (s ∷ ss) u v lax (inl here) = inl (lax_trans v u s lax here)
start_lax (s ∷ ss) u v lax (inr later) = inr (start_lax ss u v lax later)

-- what stands there grows: it counts as before
pub counts_lax : (copy : Copy) (u v : Standing) → Lax v u → Counts copy u → Counts copy v
counts_lax copy u v lax (inl tracked) = inl tracked
counts_lax Idle u v lax (inr start) = inr start
counts_lax (Untracked starts) u v lax (inr start) = inr (start_lax starts u v lax start)
counts_lax Tracked u v lax (inr start) = inr start
counts_lax (Copied base starts) u v lax (inr start) = inr (start_lax starts u v lax start)
counts_lax (Stopped base log starts) u v lax (inr start) = inr (start_lax starts u v lax start)

-- How a page stands on a disk.

abbrev pub held_standing : Option Held → Standing
held_standing None = past_end
held_standing (Some held) = stands held.bytes

abbrev pub space_standing : Option (List Held) → ℕ → Standing
space_standing None n = no_space
space_standing (Some pages) n = held_standing (slice_get pages n)

standing_bytes : (o : Option (List Held)) (n : ℕ) → standing_in (option_map bytes_of o) n ≡ space_standing o n
standing_bytes None n = refl
standing_bytes (Some pages) n = ap standing_at (slice_get-map (λ (h : Held). h.bytes) pages n) ∙ held (slice_get pages n)
  where
    held : (o : Option Held) → standing_at (option_map (λ (h : Held). h.bytes) o) ≡ held_standing o
    held None = refl
    held (Some h) = refl

-- below the redo's space it stands as the disk has it
pub standing_low : (m : DiskImage) (s n : ℕ) → s < redo_space → standing_of (image_of m) s n ≡ space_standing (finite.get m.spaces s) n
standing_low m s n low =
    ap (λ (o : Option (List (List ℕ))). standing_in o n) (get_image m s ∙ ap (λ (b : Bool). cond b (option_map bytes_of (finite.get m.spaces s)) None) (lt-ltb s redo_space low))
    ∙ standing_bytes (finite.get m.spaces s) n

page_bytes : (o : Option (List Held)) (n : ℕ) → option_and_then (λ (ps : List (List ℕ)). slice_get ps n) (option_map bytes_of o) ≡ option_map (λ (h : Held). h.bytes) (option_and_then (λ (ps : List Held). slice_get ps n) o)
page_bytes None n = refl
page_bytes (Some pages) n = slice_get-map (λ (h : Held). h.bytes) pages n

-- a page of the system space is in the image where the disk has it
pub system_page : (m : DiskImage) (n : ℕ) → page_of (image_of m) 0 n ≡ option_map (λ (h : Held). h.bytes) (disk.page_of m 0 n)
system_page m n = ap (option_and_then (λ (ps : List (List ℕ)). slice_get ps n)) (get_image m 0) ∙ page_bytes (finite.get m.spaces 0) n

no_page : (o : Option Held) → option_map (λ (h : Held). h.bytes) o ≡ None → o ≡ None
no_page None none = refl
no_page (Some h) none = absurd (cc)

-- A space gets pages, and what stood at a place stays, or it was nothing.

stays_lax : (o : Option (List Held)) (n : ℕ) (past : Bool) → Lax (held_standing (standing None (option_and_then (λ (ps : List Held). slice_get ps n) o) past)) (space_standing o n)
stays_lax None n true = refl
stays_lax None n false = tt
stays_lax (Some pages) n past = at (slice_get pages n) past
  where
    at : (o : Option Held) (past : Bool) → Lax (held_standing (standing None o past)) (held_standing o)
    at None true = refl
    at None false = tt
    at (Some h) past = refl

pub given_lax : (m : DiskImage) (space : ℕ) (pages : List Held) (s n : ℕ) (past : Bool) → s < redo_space → disk.page_of (with_space space pages m) s n ≡ standing None (disk.page_of m s n) past
    → Lax (standing_of (image_of (with_space space pages m)) s n) (standing_of (image_of m) s n)
given_lax m space pages s n past low is = at (cases_eq s space)
  where
    at : (s ≡ space) ⊎ (s ≢ space) → Lax (standing_of (image_of (with_space space pages m)) s n) (standing_of (image_of m) s n)
    at (inl same) =
        let here : finite.get (with_space space pages m).spaces s ≡ Some pages = ap (finite.get (with_space space pages m).spaces) same ∙ get_here m space pages in
        let page : slice_get pages n ≡ standing None (disk.page_of m s n) past = sym (ap (option_and_then (λ (ps : List Held). slice_get ps n)) here) ∙ is in
        let now : standing_of (image_of (with_space space pages m)) s n ≡ held_standing (standing None (disk.page_of m s n) past) = standing_low (with_space space pages m) s n low ∙ ap (λ (o : Option (List Held)). space_standing o n) here ∙ ap held_standing page in
        subst (Lax (standing_of (image_of (with_space space pages m)) s n)) (sym (standing_low m s n low))
        (subst (λ (v : Standing). Lax v (space_standing (finite.get m.spaces s) n)) (sym now) (stays_lax (finite.get m.spaces s) n past))
    at (inr other) =
        let now : standing_of (image_of (with_space space pages m)) s n ≡ standing_of (image_of m) s n = standing_low (with_space space pages m) s n low ∙ ap (λ (o : Option (List Held)). space_standing o n) (get_there m space s pages other) ∙ sym (standing_low m s n low) in
        subst (λ (v : Standing). Lax v (standing_of (image_of m) s n)) (sym now) (lax_same (standing_of (image_of m) s n))

-- A page is laid.
pub laid_there : (m : DiskImage) (space number : ℕ) (bytes : List ℕ) → space < redo_space → standing_of (image_of (laid_page space number bytes m)) space number ≡ stands bytes
laid_there m space number bytes low =
    standing_low (laid_page space number bytes m) space number low
    ∙ ap (λ (o : Option (List Held)). space_standing o number) (get_here m space (laid_over number (whole bytes ∷ []) (pages_in m space)))
    ∙ ap held_standing (laid_here number (whole bytes ∷ []) (pages_in m space) number 0 (omega arith) (omega arith))

page_place : (m : DiskImage) (space number : ℕ) (bytes : List ℕ) (s n : ℕ) → disk.page_of (laid_page space number bytes m) s n ≡ standing (cond (space == s && number == n) (Some bytes) None) (disk.page_of m s n) ((space == s && nat_lt n number) || false)
page_place m space number bytes s n = pages_place m (record { space = space; number = number; bytes = bytes } ∷ []) s n

apart : (space number s n : ℕ) → (s ≡ space → n ≡ number → ⊥) → (space == s && number == n) ≡ false
apart space number s n other = at (eqb_tells space s) (eqb_tells number n)
  where
    at : (((space == s) ≡ true) × (space ≡ s)) ⊎ (((space == s) ≡ false) × (space ≢ s)) → (((number == n) ≡ true) × (number ≡ n)) ⊎ (((number == n) ≡ false) × (number ≢ n)) → (space == s && number == n) ≡ false
    at (inl a) (inl b) = absurd (other (sym a.1) (sym b.1))
    at (inl a) (inr b) = ap (λ (x : Bool). x && number == n) a.0 ∙ b.0
    at (inr a) either = ap (λ (x : Bool). x && number == n) a.0

other_place : (m : DiskImage) (space number : ℕ) (bytes : List ℕ) (s n : ℕ) → (s ≡ space → n ≡ number → ⊥) → disk.page_of (laid_page space number bytes m) s n ≡ standing None (disk.page_of m s n) ((space == s && nat_lt n number) || false)
other_place m space number bytes s n other =
    page_place m space number bytes s n
    ∙ ap (λ (b : Bool). standing (cond b (Some bytes) None) (disk.page_of m s n) ((space == s && nat_lt n number) || false)) (apart space number s n other)

pub laid_others : (m : DiskImage) (space number : ℕ) (bytes : List ℕ) (s n : ℕ) → s < redo_space → (s ≡ space → n ≡ number → ⊥)
    → Lax (standing_of (image_of (laid_page space number bytes m)) s n) (standing_of (image_of m) s n)
laid_others m space number bytes s n low other =
    given_lax m space (laid_over number (whole bytes ∷ []) (pages_in m space)) s n ((space == s && nat_lt n number) || false) low (other_place m space number bytes s n other)

abbrev pub IsShort : DiskImage → Type 0
IsShort m = (number : ℕ) → system_size ≤ number → page_of (image_of m) 0 number ≡ None

-- the disk itself has no page of the system space there
pub short_on : (m : DiskImage) (n : ℕ) → page_of (image_of m) 0 n ≡ None → disk.page_of m 0 n ≡ None
short_on m n none = no_page (disk.page_of m 0 n) (sym (system_page m n) ∙ none)

pub short_from : (m : DiskImage) (n : ℕ) → disk.page_of m 0 n ≡ None → page_of (image_of m) 0 n ≡ None
short_from m n none = system_page m n ∙ ap (option_map (λ (h : Held). h.bytes)) none

pub laid_short : (m : DiskImage) (space number : ℕ) (bytes : List ℕ) → (space ≡ 0 → number < system_size) → IsShort m → IsShort (laid_page space number bytes m)
laid_short m space number bytes within short n past =
    short_from (laid_page space number bytes m) n
    (other_place m space number bytes 0 n (λ same there. absurd (omega (arith, within (sym same), there, past)))
    ∙ ap (λ (o : Option Held). standing None o ((space == 0 && nat_lt n number) || false)) (short_on m n (short n past))
    ∙ ap (λ (b : Bool). standing None None (b || false)) (beside (eqb_tells space 0)))
  where
    beside : (((space == 0) ≡ true) × (space ≡ 0)) ⊎ (((space == 0) ≡ false) × (space ≢ 0)) → (space == 0 && nat_lt n number) ≡ false
    beside (inl is) = ap (λ (x : Bool). x && nat_lt n number) is.0 ∙ le-ltb n number (omega (arith, within is.1, past))
    beside (inr is) = ap (λ (x : Bool). x && nat_lt n number) is.0

abbrev IsStill : Option Held → Type 0
IsStill o = IfSome o (λ held. held.writing ≡ false)

pub standing_still : (last : Option (List ℕ)) (o : Option Held) (past : Bool) → IsStill o → IsStill (standing last o past)
standing_still (Some bytes) o past still = refl
standing_still None (Some page) past still = still
standing_still None None true still = refl
standing_still None None false still = still

pub laid_quiet : (m : DiskImage) (space number : ℕ) (bytes : List ℕ) → IsQuiet m → IsQuiet (laid_page space number bytes m)
laid_quiet m space number bytes quiet s n =
    subst IsStill (sym (page_place m space number bytes s n)) (standing_still _ (disk.page_of m s n) _ (quiet s n))

pub laid_beside_redo : (m : DiskImage) (space number : ℕ) (bytes : List ℕ) → space < redo_space → pages_in (laid_page space number bytes m) REDO_SPACE ≡ pages_in m REDO_SPACE
laid_beside_redo m space number bytes low =
    ap (λ (o : Option (List Held)). unwrap_or o []) (get_there m space REDO_SPACE (laid_over number (whole bytes ∷ []) (pages_in m space)) (λ same. absurd (omega (arith, low, same))))

-- Redo is laid: the pages below stay.
pub redo_standing : (m n : DiskImage) (s number : ℕ) → s < redo_space → IsSameBut REDO_SPACE m n → standing_of (image_of n) s number ≡ standing_of (image_of m) s number
redo_standing m n s number low same =
    standing_low n s number low
    ∙ ap (λ (o : Option (List Held)). space_standing o number) (same.others s (λ is. absurd (omega (arith, low, is))))
    ∙ sym (standing_low m s number low)

pub redo_short : (m n : DiskImage) → IsSameBut REDO_SPACE m n → IsShort m → IsShort n
redo_short m n same short number past =
    short_from n number
    (ap (option_and_then (λ (ps : List Held). slice_get ps number)) (same.others 0 (λ is. absurd (omega (arith, is)))) ∙ short_on m number (short number past))

-- pages that were laid are whole
redo_still : (bytes : List ℕ) (k : ℕ) → IsStill (slice_get (redo_pages bytes) k)
redo_still bytes k = subst IsStill (sym (slice_get-map (λ (number : ℕ). whole (redo_page bytes number)) numbers k)) (still (slice_get numbers k))
  where
    numbers : List ℕ
    numbers = range_with_len 0 (pages_for (length bytes))

    still : (o : Option ℕ) → IsStill (option_map (λ (number : ℕ). whole (redo_page bytes number)) o)
    still None = tt
    still (Some number) = refl

over_still : (first : ℕ) (new old : List Held) → ((k : ℕ) → IsStill (slice_get new k)) → ((k : ℕ) → IsStill (slice_get old k)) → (k : ℕ) → IsStill (slice_get (laid_over first new old) k)
over_still first new old fresh still k = at (cases_lt k first) (cases_lt k (length old)) (cases_lt k (first + length new))
  where
    at : (k < first) ⊎ (first ≤ k) → (k < length old) ⊎ (length old ≤ k) → (k < first + length new) ⊎ (first + length new ≤ k) → IsStill (slice_get (laid_over first new old) k)
    at (inl before) (inl there) side = subst IsStill (sym (laid_before first new old k before ∙ extended_there first old k there)) (still k)
    at (inl before) (inr gone) side = subst IsStill (sym (laid_before first new old k before ∙ extended_zero first old k gone before)) refl
    at (inr after) order (inl here) = subst IsStill (sym (laid_here first new old k (k - first) (omega (arith, after)) (omega (arith, after, here)))) (fresh (k - first))
    at (inr after) order (inr behind) = subst IsStill (sym (laid_behind first new old k behind)) (still k)

pub redo_quiet : (m : DiskImage) (distance : ℕ) (bytes : List ℕ) → IsQuiet m → IsQuiet (laid_redo distance bytes m)
redo_quiet m distance bytes quiet s k = at (cases_eq s REDO_SPACE)
  where
    new : List Held
    new = laid_over (distance / PAGE_SIZE) (redo_pages bytes) (pages_in m REDO_SPACE)

    old_still : (k : ℕ) → IsStill (slice_get (pages_in m REDO_SPACE) k)
    old_still k = subst IsStill (page_in_pages (finite.get m.spaces REDO_SPACE) k) (quiet REDO_SPACE k)

    at : (s ≡ REDO_SPACE) ⊎ (s ≢ REDO_SPACE) → IsStill (disk.page_of (laid_redo distance bytes m) s k)
    at (inl same) =
        subst IsStill (sym (ap (option_and_then (λ (ps : List Held). slice_get ps k)) (ap (finite.get (with_space REDO_SPACE new m).spaces) same ∙ get_here m REDO_SPACE new)))
        (over_still (distance / PAGE_SIZE) (redo_pages bytes) (pages_in m REDO_SPACE) (redo_still bytes) old_still k)
    at (inr other) = subst IsStill (sym (ap (option_and_then (λ (ps : List Held). slice_get ps k)) (get_there m REDO_SPACE s new other))) (quiet s k)
