-- What a recipient's disk holds at a place, by what it accepted.
use Rattle.std.proofs.Common.{◌≡◌, ◌<◌, ◌≤◌, ◌*◌, ◌/◌, ◌⊎◌, ◌∙◌, ◌∷◌, ◌==◌, [], ℕ, zero, suc, Bool, true, false, cond, List, None, Some, refl, sym, ap, subst, arith, inl, inr}
use Rattle.std.specs.Prelude.{Contains}
use Rattle.std.specs.declared.option.Option.{Option}
use Rattle.std.specs.Option.{option_or}
use Rattle.std.specs.List.{AllByRecursion, flat_map}
use Rattle.std.proofs.lemmas.Bool.{cases_lt, eqb-true}
use Rattle.std.proofs.lemmas.Bool.Decides.{eqb_tells}
use Rattle.clone_base.specs.declared.limits.TheConstants.{PAGE_SIZE, REDO_SPACE}
use Rattle.clone_outside.specs.Disk.{DiskImage, pages_in, IsSameBut}
use Rattle.clone_outside.specs.declared.disk.Held.{Held}
use Rattle.clone_image.specs.Redone.{Standing, no_space, stands}
use Rattle.clone_law.specs.Touches.{Lax}
use Rattle.clone_overlay.specs.Images.{redo_space, IsQuiet}
use Rattle.clone_lay.specs.declared.laying.TheConstants.{REDO_BLOCK}
use Rattle.clone_lay.specs.Laid.{PageAt, laid_over, laid_pages, last_bytes}
use Rattle.clone_lay.specs.Redo.{laid_blocks, laid_redo, redo_block, redo_pages}
use Rattle.clone_outside.proofs.SpaceLemmas.{get_there, pages_here}
use Rattle.clone_accepted.specs.Answers.{Item, Moves, PageBlock, RedoBlock, Stage, Takes, Told, ToldDone, ToldFiles, ToldPages, ToldRedo, answer_in}
use Rattle.clone_accepted.specs.Disk.{distance_of, laid, with_item, with_told}
use Rattle.clone_accepted.specs.Turns.{InTurn, IsNext, stage_with}
use Rattle.clone_standing.specs.Latest.{IsPlain, MakesLow, blocks_said, latest, latest_in, made_standing, redo_number}
use Rattle.clone_standing.proofs.PageLemmas.{at, or_none, or_some, pages_beside, pages_laid, pages_quiet, pages_short, pages_stay}
use Rattle.clone_standing.proofs.RoomLemmas.{made_beside, made_short, made_stands, rooms_lax, rooms_still}
use Rattle.clone_standing.proofs.StandingLemmas.{IsShort, lax_same, lax_trans, redo_quiet, redo_short, redo_standing}

pub redo_beside : (m : DiskImage) (distance : ℕ) (bytes : List ℕ) → IsSameBut REDO_SPACE m (laid_redo distance bytes m)
redo_beside m distance bytes = record { mark = refl; others = λ s other. get_there m REDO_SPACE s _ other }

lax_is : (u v : Standing) → u ≡ v → Lax u v
lax_is u v is = subst (Lax u) is (lax_same u)

told_stay : (told : Told) (m : DiskImage) (s n : ℕ) → s < redo_space → Lax (at (with_told told m) s n) (at m s n)
told_stay (ToldFiles spaces) m s n low = lax_same (at m s n)
told_stay (ToldPages count made) m s n low = rooms_lax made m s n low
told_stay (ToldRedo checkpoint lsn position) m s n low = lax_same (at m s n)
told_stay ToldDone m s n low = lax_same (at m s n)

-- a stage that is 1 or 2
one_or_two : (k : ℕ) → 1 ≤ k → k ≤ 2 → (k ≡ 1) ⊎ (k ≡ 2)
one_or_two k low high = elim (cases_lt k 2) [ inl below ↦ inl (omega (arith, low, below)) | inr past ↦ inr (omega (arith, high, past)) ]

pub in_stage : (k : ℕ) (s n : ℕ) (pages : List PageAt) → cond (k == k) (last_bytes s n pages) None ≡ last_bytes s n pages
in_stage k s n pages = ap (λ (b : Bool). cond b (last_bytes s n pages) None) (by (eqb_tells k k))
  where
    by : (((k == k) ≡ true) × (k ≡ k)) ⊎ (((k == k) ≡ false) × (k ≡ k → ⊥)) → (k == k) ≡ true
    by (inl is) = is.0
    by (inr is) = absurd (is.1 refl)

-- One item.

item_stay : (stage : ℕ) (item : Item) (m : DiskImage) (s n : ℕ) → s < redo_space → IsNext stage item → latest_in 1 s n item ≡ None → latest_in 2 s n item ≡ None → Lax (at (with_item item m) s n) (at m s n)
item_stay stage (Moves told) m s n low next first second = told_stay told m s n low
item_stay stage (Takes (Stage told)) m s n low next first second = told_stay told m s n low
item_stay stage (Takes (PageBlock k chunk block pages)) m s n low next first second = by (one_or_two k next.1 next.2)
  where
    by : (k ≡ 1) ⊎ (k ≡ 2) → Lax (at (laid_pages pages m) s n) (at m s n)
    by (inl is) = pages_stay pages m s n low (sym (in_stage 1 s n pages) ∙ sym (ap (λ (x : ℕ). cond (x == 1) (last_bytes s n pages) None) is) ∙ first)
    by (inr is) = pages_stay pages m s n low (sym (in_stage 2 s n pages) ∙ sym (ap (λ (x : ℕ). cond (x == 2) (last_bytes s n pages) None) is) ∙ second)
item_stay stage (Takes (RedoBlock chunk block from bytes)) m s n low next first second =
    lax_is (at (laid_redo (distance_of chunk block) bytes m) s n) (at m s n) (redo_standing m (laid_redo (distance_of chunk block) bytes m) s n low (redo_beside m (distance_of chunk block) bytes))

pub cond_some : (b : Bool) (o : Option (List ℕ)) (bytes : List ℕ) → cond b o None ≡ Some bytes → (b ≡ true) × (o ≡ Some bytes)
cond_some true o bytes some = (refl, some)
cond_some false o bytes some = absurd (cc)

item_laid : (stage : ℕ) (item : Item) (m : DiskImage) (s n : ℕ) (bytes : List ℕ) → s < redo_space → latest_in stage s n item ≡ Some bytes → at (with_item item m) s n ≡ stands bytes
item_laid stage (Moves told) m s n bytes low some = absurd (cc)
item_laid stage (Takes (Stage told)) m s n bytes low some = absurd (cc)
item_laid stage (Takes (PageBlock k chunk block pages)) m s n bytes low some = pages_laid pages m s n bytes low (cond_some (k == stage) (last_bytes s n pages) bytes some).1
item_laid stage (Takes (RedoBlock chunk block from b)) m s n bytes low some = absurd (cc)

-- the stage of an item that lays a page
item_at : (now stage : ℕ) (item : Item) (s n : ℕ) (bytes : List ℕ) → IsNext now item → latest_in stage s n item ≡ Some bytes → (now ≡ stage) × (stage_with now item ≡ stage)
item_at now stage (Moves told) s n bytes next some = absurd (cc)
item_at now stage (Takes (Stage told)) s n bytes next some = absurd (cc)
item_at now stage (Takes (PageBlock k chunk block pages)) s n bytes next some =
    let is : now ≡ stage = sym next.0 ∙ eqb-true k stage (cond_some (k == stage) (last_bytes s n pages) bytes some).0 in
    (is, is)
item_at now stage (Takes (RedoBlock chunk block from b)) s n bytes next some = absurd (cc)

told_later : (now : ℕ) (item : Item) → IsNext now item → now ≤ stage_with now item
told_later now (Moves told) next = omega (arith, next.0)
told_later now (Takes answer) next = omega arith

-- All items.

no_file : (now : ℕ) (item : Item) (s n : ℕ) → IsNext now item → 2 ≤ now → (o : Option (List ℕ)) → latest_in 1 s n item ≡ o → latest_in 1 s n item ≡ None
no_file now item s n next late None none = none
no_file now item s n next late (Some bytes) some = absurd (omega (arith, late, (item_at now 1 item s n bytes next some).0))

-- from the copy of pages on no file is copied
no_files : (now : ℕ) (items : List Item) (s n : ℕ) → InTurn now items → 2 ≤ now → latest 1 s n items ≡ None
no_files now [] s n turn late = refl
no_files now (item ∷ items) s n turn late =
    ap (λ (o : Option (List ℕ)). option_or o (latest_in 1 s n item)) (no_files (stage_with now item) items s n turn.1 (omega (arith, late, told_later now item turn.0)))
    ∙ no_file now item s n turn.0 late (latest_in 1 s n item) refl

pub items_stay : (now : ℕ) (items : List Item) (m : DiskImage) (s n : ℕ) → s < redo_space → InTurn now items → latest 1 s n items ≡ None → latest 2 s n items ≡ None → Lax (at (laid items m) s n) (at m s n)
items_stay now [] m s n low turn first second = lax_same (at m s n)
items_stay now (item ∷ items) m s n low turn first second =
    let a = or_none (latest 1 s n items) (latest_in 1 s n item) first in
    let b = or_none (latest 2 s n items) (latest_in 2 s n item) second in
    let next = with_item item m in
    lax_trans (at (laid items next) s n) (at next s n) (at m s n) (items_stay (stage_with now item) items next s n low turn.1 a.0 b.0) (item_stay now item m s n low turn.0 a.1 b.1)

-- a page of a space that was made, of which nothing was laid
pub items_made : (now : ℕ) (items : List Item) (m : DiskImage) (s n count size : ℕ) (made : List (ℕ × ℕ)) → s < redo_space → InTurn now items → latest 1 s n items ≡ None → latest 2 s n items ≡ None → Lax (at m s n) no_space
    → Contains items (Moves (ToldPages count made)) → Contains made (s, size) → Lax (at (laid items m) s n) (made_standing size n)
items_made now [] m s n count size made low turn first second before (i, within, is) has = absurd (omega (arith, within))
items_made now (item ∷ items) m s n count size made low turn first second before (zero, within, is) has =
    let a = or_none (latest 1 s n items) (latest_in 1 s n item) first in
    let b = or_none (latest 2 s n items) (latest_in 2 s n item) second in
    let next = with_item item m in
    lax_trans (at (laid items next) s n) (at next s n) (made_standing size n) (items_stay (stage_with now item) items next s n low turn.1 a.0 b.0)
    (subst (λ (i : Item). Lax (at (with_item i m) s n) (made_standing size n)) (sym is) (made_stands made m s size n low before has))
items_made now (item ∷ items) m s n count size made low turn first second before (suc i, within, is) has =
    let a = or_none (latest 1 s n items) (latest_in 1 s n item) first in
    let b = or_none (latest 2 s n items) (latest_in 2 s n item) second in
    let next = with_item item m in
    items_made (stage_with now item) items next s n count size made low turn.1 a.0 b.0 (lax_trans (at next s n) (at m s n) no_space (item_stay now item m s n low turn.0 a.1 b.1) before) (i, omega (arith, within), is) has

-- what was laid last in the copy of pages stands
pub second_stands : (now : ℕ) (items : List Item) (m : DiskImage) (s n : ℕ) (bytes : List ℕ) → s < redo_space → InTurn now items → latest 2 s n items ≡ Some bytes → at (laid items m) s n ≡ stands bytes
second_stands now [] m s n bytes low turn some = absurd (cc)
second_stands now (item ∷ items) m s n bytes low turn some =
    let next = with_item item m in
    elim (or_some (latest 2 s n items) (latest_in 2 s n item) bytes some) [
      | inl later ↦ second_stands (stage_with now item) items next s n bytes low turn.1 later
      | inr here ↦
          let is = item_at now 2 item s n bytes turn.0 here.1 in
          let none = no_files (stage_with now item) items s n turn.1 (omega (arith, is.1)) in
          subst (Lax (at (laid items next) s n)) (item_laid 2 item m s n bytes low here.1) (items_stay (stage_with now item) items next s n low turn.1 none here.0)
    ]

-- and where nothing was, what was laid last in the copy of files
pub first_stands : (now : ℕ) (items : List Item) (m : DiskImage) (s n : ℕ) (bytes : List ℕ) → s < redo_space → InTurn now items → latest 2 s n items ≡ None → latest 1 s n items ≡ Some bytes → at (laid items m) s n ≡ stands bytes
first_stands now [] m s n bytes low turn second some = absurd (cc)
first_stands now (item ∷ items) m s n bytes low turn second some =
    let next = with_item item m in
    let none = (or_none (latest 2 s n items) (latest_in 2 s n item) second).0 in
    elim (or_some (latest 1 s n items) (latest_in 1 s n item) bytes some) [
      | inl later ↦ first_stands (stage_with now item) items next s n bytes low turn.1 none later
      | inr here ↦ subst (Lax (at (laid items next) s n)) (item_laid 1 item m s n bytes low here.1) (items_stay (stage_with now item) items next s n low turn.1 here.0 none)
    ]

-- the numbers of the blocks of redo that were taken
abbrev pub numbers : List Item → List ℕ
numbers items = flat_map (λ (item : Item). blocks_said (answer_in item)) items

-- The whole disk.
module _ (redo : List ℕ) where
  abbrev pub ArePlain : List Item → Type 0
  ArePlain items = AllByRecursion (λ (item : Item). IsPlain redo (answer_in item)) items

  told_short : (told : Told) (m : DiskImage) → MakesLow told → IsShort m → IsShort (with_told told m)
  told_short (ToldFiles spaces) m low short = short
  told_short (ToldPages count made) m low short = made_short made m low short
  told_short (ToldRedo checkpoint lsn position) m low short = short
  told_short ToldDone m low short = short

  told_quiet : (told : Told) (m : DiskImage) → IsQuiet m → IsQuiet (with_told told m)
  told_quiet (ToldFiles spaces) m quiet = quiet
  told_quiet (ToldPages count made) m quiet = rooms_still made m quiet
  told_quiet (ToldRedo checkpoint lsn position) m quiet = quiet
  told_quiet ToldDone m quiet = quiet

  told_redo : (told : Told) (m : DiskImage) → MakesLow told → pages_in (with_told told m) REDO_SPACE ≡ pages_in m REDO_SPACE
  told_redo (ToldFiles spaces) m low = refl
  told_redo (ToldPages count made) m low = made_beside made m low
  told_redo (ToldRedo checkpoint lsn position) m low = refl
  told_redo ToldDone m low = refl

  item_short : (item : Item) (m : DiskImage) → IsPlain redo (answer_in item) → IsShort m → IsShort (with_item item m)
  item_short (Moves told) m plain short = told_short told m plain short
  item_short (Takes (Stage told)) m plain short = told_short told m plain short
  item_short (Takes (PageBlock k chunk block pages)) m plain short = pages_short pages m plain short
  item_short (Takes (RedoBlock chunk block from bytes)) m plain short = redo_short m (laid_redo (distance_of chunk block) bytes m) (redo_beside m (distance_of chunk block) bytes) short

  pub items_short : (items : List Item) (m : DiskImage) → ArePlain items → IsShort m → IsShort (laid items m)
  items_short [] m plain short = short
  items_short (item ∷ items) m plain short = items_short items (with_item item m) plain.1 (item_short item m plain.0 short)

  item_quiet : (item : Item) (m : DiskImage) → IsPlain redo (answer_in item) → IsQuiet m → IsQuiet (with_item item m)
  item_quiet (Moves told) m plain quiet = told_quiet told m quiet
  item_quiet (Takes (Stage told)) m plain quiet = told_quiet told m quiet
  item_quiet (Takes (PageBlock k chunk block pages)) m plain quiet = pages_quiet pages m quiet
  item_quiet (Takes (RedoBlock chunk block from bytes)) m plain quiet = redo_quiet m (distance_of chunk block) bytes quiet

  pub items_quiet : (items : List Item) (m : DiskImage) → ArePlain items → IsQuiet m → IsQuiet (laid items m)
  items_quiet [] m plain quiet = quiet
  items_quiet (item ∷ items) m plain quiet = items_quiet items (with_item item m) plain.1 (item_quiet item m plain.0 quiet)

  redo_laid : (distance : ℕ) (bytes : List ℕ) (m n : DiskImage) → pages_in m REDO_SPACE ≡ pages_in n REDO_SPACE → pages_in (laid_redo distance bytes m) REDO_SPACE ≡ pages_in (laid_redo distance bytes n) REDO_SPACE
  redo_laid distance bytes m n same =
      pages_here m REDO_SPACE _ ∙ ap (λ (ps : List Held). laid_over (distance / PAGE_SIZE) (redo_pages bytes) ps) same ∙ sym (pages_here n REDO_SPACE _)

  pub items_redo : (items : List Item) (m n : DiskImage) → ArePlain items → pages_in m REDO_SPACE ≡ pages_in n REDO_SPACE → pages_in (laid items m) REDO_SPACE ≡ pages_in (laid_blocks redo (numbers items) n) REDO_SPACE
  items_redo [] m n plain same = same
  items_redo (Moves told ∷ items) m n plain same = items_redo items (with_told told m) n plain.1 (told_redo told m plain.0 ∙ same)
  items_redo (Takes (Stage told) ∷ items) m n plain same = items_redo items (with_told told m) n plain.1 (told_redo told m plain.0 ∙ same)
  items_redo (Takes (PageBlock k chunk block pages) ∷ items) m n plain same = items_redo items (laid_pages pages m) n plain.1 (pages_beside pages m plain.0 ∙ same)
  items_redo (Takes (RedoBlock chunk block from bytes) ∷ items) m n plain same =
      let far : distance_of chunk block ≡ REDO_BLOCK * redo_number chunk block = omega arith in
      items_redo items (laid_redo (distance_of chunk block) bytes m) (laid_redo (REDO_BLOCK * redo_number chunk block) (redo_block redo (redo_number chunk block)) n) plain.1
      (ap (λ (d : ℕ). pages_in (laid_redo d bytes m) REDO_SPACE) far
      ∙ ap (λ (b : List ℕ). pages_in (laid_redo (REDO_BLOCK * redo_number chunk block) b m) REDO_SPACE) plain.0.1
      ∙ redo_laid (REDO_BLOCK * redo_number chunk block) (redo_block redo (redo_number chunk block)) m n same)
