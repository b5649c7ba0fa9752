-- What counts of a page, while it is noted and answered, and as the stages end.
use Rattle.std.proofs.Common.{◌≡◌, ◌⊎◌, ◌∷◌, ◌==◌, ◌&&◌, [], ℕ, List, Bool, true, false, cond, Option, None, Some, map, refl, sym, ap, subst, inl, inr, ◌∙◌}
use Rattle.std.specs.FinMap as finite
use Rattle.std.specs.FinMap.{contains_key-keys}
use Rattle.std.specs.List.{Contains}
use Rattle.std.proofs.lemmas.Bool.{eq-eqb, true≢false}
use Rattle.std.proofs.lemmas.Map.Views.{Contains-from_any}
use Rattle.clone_base.proofs.MapEntries.{is_equal}
use Rattle.clone_model.specs.Keys.{row_cmp}
use Rattle.clone_model.proofs.RowMaps.{row_cmp_exact}
use Rattle.clone_mtr.specs.declared.record.Record.{Record}
use Rattle.clone_image.specs.Redone.{Standing, stands}
use Rattle.clone_law.specs.Machine as machine
use Rattle.clone_law.specs.Machine.{Copy}
use Rattle.clone_pool.specs.Index.{is_same}
use Rattle.clone_pool.specs.declared.frame.PageName.{PageName}
use Rattle.clone_buffer.specs.OnePage.{Copies}
use Rattle.clone_flush.specs.Calls.{after_begin}
use Rattle.clone_track.specs.TrackedPages.{Pages, listed}
use Rattle.clone_calls.specs.declared.block.Block.{Block}
use Rattle.clone_calls.specs.declared.block.Block.TheVariants as block
use Rattle.clone_engine.specs.Copies.{AreInFiles, AreInPages, IsInFiles, PageRead, answered, files_over, is_noted, with_page, with_pages}
use Rattle.clone_engine.specs.Copying.{taken_from}
use Rattle.clone_engine.specs.Taken.{Taken}
use Rattle.clone_standing.specs.Counting.{Counts}

noted_counts : (same : Bool) (copy : Copy) (v : Standing) → Counts copy v → Counts (cond same (machine.noted copy) copy) v
noted_counts false copy v counts = counts
noted_counts true machine.Idle v counts = counts
noted_counts true (machine.Untracked starts) v counts = inl refl
noted_counts true machine.Tracked v counts = counts
noted_counts true (machine.Copied base starts) v counts = counts
noted_counts true (machine.Stopped base log starts) v counts = counts

-- a flush began, or didn't
pub begun_counts : (page : PageName) (begun : Bool) (copies : Copies) (s n : ℕ) (v : Standing) → Counts (copies s n) v → Counts (after_begin page begun copies s n) v
begun_counts page true copies s n v counts = noted_counts (is_same page (record { space = s; number = n })) (copies s n) v counts
begun_counts page false copies s n v counts = counts

-- an answered block of the page counts
abbrev pub MayCount : Copy → Type 0
MayCount machine.Idle = ⊥
MayCount (machine.Untracked starts) = Unit {0}
MayCount machine.Tracked = Unit {0}
MayCount (machine.Copied base starts) = Unit {0}
MayCount (machine.Stopped base log starts) = ⊥

-- so it is while files or pages are copied
pub files_may : (tracked : Option Pages) (copies : Copies) → AreInFiles tracked copies → (s n : ℕ) → MayCount (copies s n)
files_may tracked copies files s n = by (is_noted tracked s n) (copies s n) (files s n)
  where
    by : (noted : Bool) (copy : Copy) → IsInFiles noted copy → MayCount copy
    by true copy is = subst MayCount (sym is) tt
    by false copy is = subst MayCount (sym is.1) tt

pub pages_may : (start : ℕ) (copies : Copies) → AreInPages start copies → (s n : ℕ) → MayCount (copies s n)
pages_may start copies pages s n = subst MayCount (sym (pages s n).1) tt

-- THE BYTES THAT WERE ANSWERED count, and what counted before does so still.

answered_counts : (copy : Copy) (bytes : List ℕ) → MayCount copy → Counts (answered bytes copy) (stands bytes)
answered_counts machine.Idle bytes may = absurd may
answered_counts (machine.Untracked starts) bytes may = inr (inl refl)
answered_counts machine.Tracked bytes may = inl refl
answered_counts (machine.Copied base starts) bytes may = inr (inl refl)
answered_counts (machine.Stopped base log starts) bytes may = absurd may

answered_may : (copy : Copy) (bytes : List ℕ) → MayCount copy → MayCount (answered bytes copy)
answered_may machine.Idle bytes may = may
answered_may (machine.Untracked starts) bytes may = tt
answered_may machine.Tracked bytes may = tt
answered_may (machine.Copied base starts) bytes may = tt
answered_may (machine.Stopped base log starts) bytes may = may

pub page_may : (same : Bool) (copy : Copy) (bytes : List ℕ) → MayCount copy → MayCount (cond same (answered bytes copy) copy)
page_may true copy bytes may = answered_may copy bytes may
page_may false copy bytes may = may

answered_keeps : (copy : Copy) (bytes : List ℕ) (v : Standing) → Counts copy v → Counts (answered bytes copy) v
answered_keeps machine.Idle bytes v counts = counts
answered_keeps (machine.Untracked starts) bytes v (inl is) = absurd (cc)
answered_keeps (machine.Untracked starts) bytes v (inr start) = inr (inr start)
answered_keeps machine.Tracked bytes v counts = counts
answered_keeps (machine.Copied base starts) bytes v (inl is) = absurd (cc)
answered_keeps (machine.Copied base starts) bytes v (inr start) = inr (inr start)
answered_keeps (machine.Stopped base log starts) bytes v counts = counts

page_keeps : (same : Bool) (copy : Copy) (bytes : List ℕ) (v : Standing) → Counts copy v → Counts (cond same (answered bytes copy) copy) v
page_keeps true copy bytes v counts = answered_keeps copy bytes v counts
page_keeps false copy bytes v counts = counts

pub pages_keep : (reads : List PageRead) (copies : Copies) (s n : ℕ) (v : Standing) → Counts (copies s n) v → Counts (with_pages reads copies s n) v
pages_keep [] copies s n v counts = counts
pages_keep (p ∷ ps) copies s n v counts = pages_keep ps (with_page p copies) s n v (page_keeps ((s == p.0.0) && (n == p.0.1)) (copies s n) p.1 v counts)

pub page_counts : (p : PageRead) (copies : Copies) → MayCount (copies p.0.0 p.0.1) → Counts (with_page p copies p.0.0 p.0.1) (stands p.1)
page_counts p copies may =
    subst (λ (b : Bool). Counts (cond b (answered p.1 (copies p.0.0 p.0.1)) (copies p.0.0 p.0.1)) (stands p.1))
    (sym (ap (λ (x : Bool). x && (p.0.1 == p.0.1)) (eq-eqb p.0.0 p.0.0 refl) ∙ eq-eqb p.0.1 p.0.1 refl)) (answered_counts (copies p.0.0 p.0.1) p.1 may)

pub block_keeps : (read : Block) (taken : Taken) (s n : ℕ) (v : Standing) → Counts (taken.copies s n) v → Counts ((taken_from read taken).copies s n) v
block_keeps (block.Pages read) taken s n v counts = pages_keep (map (λ p. ((p.space, p.number), p.page)) read) taken.copies s n v counts
block_keeps (block.Redo from bytes) taken s n v counts = counts

pub block_stop : (read : Block) (taken : Taken) → (taken_from read taken).stop ≡ taken.stop
block_stop (block.Pages read) taken = refl
block_stop (block.Redo from bytes) taken = refl

-- THE STAGES END.

-- a page that was noted is listed
noted_listed : (tracked : Option Pages) (s n : ℕ) → is_noted tracked s n ≡ true → Contains (listed tracked) (s, n)
noted_listed None s n is = absurd (true≢false (sym is))
noted_listed (Some set) s n is = Contains-from_any (λ x y same. row_cmp_exact x y (is_equal (row_cmp x y) same)) (s, n) (finite.keys set) (sym (contains_key-keys set (s, n)) ∙ is)

-- the copy of files is over: what counts of a page that isn't tracked counts still
pub over_counts : (tracked : Option Pages) (copies : Copies) (base s n : ℕ) (u : Standing) → AreInFiles tracked copies → Counts (copies s n) u → Counts (files_over base copies s n) u ⊎ Contains (listed tracked) (s, n)
over_counts tracked copies base s n u are counts = by (is_noted tracked s n) refl (are s n)
  where
    untracked : (starts : List Standing) → Counts (machine.Untracked starts) u → Counts (machine.Copied base starts) u
    untracked starts (inl is) = absurd (cc)
    untracked starts (inr start) = inr start

    by : (noted : Bool) → is_noted tracked s n ≡ noted → IsInFiles noted (copies s n) → Counts (machine.files_ended base (copies s n)) u ⊎ Contains (listed tracked) (s, n)
    by true noted is = inr (noted_listed tracked s n noted)
    by false noted is = inl (subst (λ (c : Copy). Counts (machine.files_ended base c) u) (sym is.1) (untracked is.0 (subst (λ (c : Copy). Counts c u) is.1 counts)))

pub stop_counts : (log : List (List Record)) (copy : Copy) (u : Standing) → Counts copy u → Counts (machine.pages_ended log copy) u
stop_counts log machine.Idle u counts = counts
stop_counts log (machine.Untracked starts) u counts = counts
stop_counts log machine.Tracked u counts = counts
stop_counts log (machine.Copied base starts) u (inl is) = absurd (cc)
stop_counts log (machine.Copied base starts) u (inr start) = inr start
stop_counts log (machine.Stopped base before starts) u counts = counts
