-- From nothing, every record of a log counts, so a page by itself becomes what the whole log makes of it.
use Rattle.std.proofs.Common.{◌≡◌, ◌<◌, ◌≤◌, ◌+◌, ◌^◌, ◌==◌, ◌&&◌, ℕ, Bool, true, false, cond, List, [], ◌∷◌, length, refl, sym, ap, subst, ◌∙◌, arith, inl, Option, Some, None}
use Rattle.std.specs.Prelude.{nat_lt}
use Rattle.std.specs.FinMap as finite
use Rattle.std.specs.FinMap.{get-empty}
use Rattle.std.specs.Ordering.{nat_cmp}
use Rattle.std.proofs.lemmas.Bool.{lt-ltb}
use Rattle.std.proofs.lemmas.List.{length-append, length-take, length-drop}
use Rattle.byteorder.specs.Endian.{big_bytes}
use Rattle.byteorder.specs.Numbers.{length-bytes_high_first}
use Rattle.clone_page.specs.Bytes.{put_at}
use Rattle.clone_page.specs.declared.kind.PageKind.{PageKind}
use Rattle.clone_page.specs.Header.{zero_page, with_lsn, lsn_of}
use Rattle.clone_page.proofs.Parts.{length-put_at, field-put_at_other, field-put_at_same, length-initialised, lsn_of-initialised}
use Rattle.clone_mtr.specs.Effects.{effect}
use Rattle.clone_mtr.specs.Patches.{Patched}
use Rattle.clone_mtr.specs.Spelling.{spelling, log_of}
use Rattle.clone_mtr.specs.declared.record.Record.{Record}
use Rattle.clone_mtr.specs.declared.record.Record.TheVariants.{Init, Write, Extend, Create, Drop}
use Rattle.clone_mtr.proofs.Spellings.{spelling_some}
use Rattle.clone_image.specs.Image.{Image, after_record, after_records}
use Rattle.clone_image.specs.Replay.{first_lsn, end_of, after_log, replayed}
use Rattle.clone_image.specs.Redone.{Standing, no_space, past_end, stands, Redoing, named_on, named, made, stretched, redone_by, redone_records, redone_from, redone, standing_in, standing_of}
use Rattle.clone_image.proofs.Standings.{edited_standing, after_standing, after_record-standing}

-- Pages and their LSN. A page never gets shorter.

longer : (at : ℕ) (piece page : List ℕ) → length page ≤ length (put_at at piece page)
longer at piece page = simp (length-append, length-take, length-drop) (omega arith)

pub record Marked (end : ℕ) (page : List ℕ) : Type 0 where
  pub long : 4096 ≤ length page
  pub lsn : lsn_of page ≡ end

marked : (end : ℕ) (page : List ℕ) → end < 2 ^ 64 → 4096 ≤ length page → Marked end (with_lsn end page)
marked end page small long =
    let eight : length (big_bytes 8 end) ≡ 8 = length-bytes_high_first 8 end in
    let inner : List ℕ = put_at 16 (big_bytes 8 end) page in
    let same : length inner ≡ length page = length-put_at 16 (big_bytes 8 end) page (omega (arith, eight, long)) in
    record {
      long = omega (arith, long, longer 16 (big_bytes 8 end) page, longer 4092 (big_bytes 4 end) inner);
      lsn = field-put_at_other 16 8 4092 (big_bytes 4 end) inner (inl (omega arith)) (omega (arith, long, same)) ∙ field-put_at_same 16 8 end page (omega (arith, long)) small;
    }

-- a record that names a page
abbrev Names : Record → Type 0
Names r = (end : ℕ) (page : List ℕ) → end < 2 ^ 64 → 4096 ≤ length page → Marked end (effect end r page)

init_names : (s n : ℕ) (kind : PageKind) → Names (Init s n kind)
init_names s n kind = λ end page small long. record { long = omega (arith, length-initialised s n kind end); lsn = lsn_of-initialised s n kind end small }

write_names : (s n : ℕ) (patch : Patched) → Names (Write s n patch)
write_names s n patch = λ end page small long. marked end (put_at patch.offset patch.bytes page) small (omega (arith, long, longer patch.offset patch.bytes page))

-- A page within a mini-transaction.

-- the page's LSN is at most this
abbrev NotAbove : ℕ → Standing → Type 0
NotAbove bound no_space = Unit {0}
NotAbove bound past_end = Unit {0}
NotAbove bound (stands page) = (4096 ≤ length page) × (lsn_of page ≤ bound)

-- before a record met the page it is older than the mini-transaction, and then they count
abbrev Fresh : ℕ → ℕ → Option Bool → Standing → Type 0
Fresh start end None p = NotAbove start p
Fresh start end (Some true) p = NotAbove end p
Fresh start end (Some false) p = ⊥

abbrev Stepped : ℕ → ℕ → Redoing → Standing → Type 0
Stepped start end q p = (q.standing ≡ p) × Fresh start end q.counts q.standing

not_above_zero : (bound : ℕ) → NotAbove bound (stands zero_page)
not_above_zero bound = (omega arith, omega arith)

made_not_above : (bound number count : ℕ) → NotAbove bound (made number count)
made_not_above bound number count = at (nat_lt number count)
  where
    at : (b : Bool) → NotAbove bound (cond b (stands zero_page) past_end)
    at true = not_above_zero bound
    at false = tt

-- the page is there newly, or no longer
renewed : (start end : ℕ) (counts : Option Bool) (p q : Standing) → ((bound : ℕ) → NotAbove bound q) → Fresh start end counts p → Fresh start end counts q
renewed start end None p q new fresh = new start
renewed start end (Some true) p q new fresh = new end
renewed start end (Some false) p q new fresh = fresh

stretched_fresh : (start end number count : ℕ) (counts : Option Bool) (p : Standing) → Fresh start end counts p → Fresh start end counts (stretched number count p)
stretched_fresh start end number count counts no_space fresh = fresh
stretched_fresh start end number count counts past_end fresh = renewed start end counts past_end (made number count) (λ bound. made_not_above bound number count) fresh
stretched_fresh start end number count counts (stands page) fresh = fresh

-- a record that counts
counted : (start end : ℕ) (r : Record) (page : List ℕ) → Names r → end < 2 ^ 64 → 4096 ≤ length page → Stepped start end (record { standing = stands (effect end r page); counts = Some true }) (stands (effect end r page))
counted start end r page names small long = let m = names end page small long in (refl, (m.long, omega (arith, m.lsn)))

named_fresh : (start end : ℕ) (r : Record) (counts : Option Bool) (p : Standing) → Names r → start < end → end < 2 ^ 64 → Fresh start end counts p → Stepped start end (named_on end r counts p) (edited_standing (effect end r) p)
named_fresh start end r counts no_space names grows small fresh = (refl, fresh)
named_fresh start end r counts past_end names grows small fresh = (refl, fresh)
named_fresh start end r None (stands page) names grows small fresh =
    subst (λ (b : Bool). Stepped start end (record { standing = stands (cond b (effect end r page) page); counts = Some b }) (stands (effect end r page)))
    (sym (lt-ltb (lsn_of page) end (omega (arith, fresh.1, grows)))) (counted start end r page names small fresh.0)
named_fresh start end r (Some true) (stands page) names grows small fresh = counted start end r page names small fresh.0
named_fresh start end r (Some false) (stands page) names grows small fresh = absurd fresh

-- a record that concerns the page, or not
either : (start end : ℕ) (b : Bool) (p q : Redoing) (s : Standing) → Stepped start end q s → Fresh start end p.counts p.standing → Stepped start end (cond b q p) (cond b s p.standing)
either start end true p q s stepped fresh = stepped
either start end false p q s stepped fresh = (refl, fresh)

step : (start end space number : ℕ) (p : Redoing) (r : Record) → start < end → end < 2 ^ 64 → Fresh start end p.counts p.standing → Stepped start end (redone_by end space number p r) (after_standing end space number p.standing r)
step start end space number p (Init s n kind) grows small fresh =
    either start end ((s == space) && (n == number)) p (named end (Init s n kind) p) (edited_standing (effect end (Init s n kind)) p.standing) (named_fresh start end (Init s n kind) p.counts p.standing (init_names s n kind) grows small fresh) fresh
step start end space number p (Write s n patch) grows small fresh =
    either start end ((s == space) && (n == number)) p (named end (Write s n patch) p) (edited_standing (effect end (Write s n patch)) p.standing) (named_fresh start end (Write s n patch) p.counts p.standing (write_names s n patch) grows small fresh) fresh
step start end space number p (Extend s count) grows small fresh =
    either start end (s == space) p (record { standing = stretched number count p.standing; counts = p.counts }) (stretched number count p.standing) (refl, stretched_fresh start end number count p.counts p.standing fresh) fresh
step start end space number p (Create s count) grows small fresh =
    either start end (s == space) p (record { standing = made number count; counts = p.counts }) (made number count) (refl, renewed start end p.counts p.standing (made number count) (λ bound. made_not_above bound number count) fresh) fresh
step start end space number p (Drop s) grows small fresh =
    either start end (s == space) p (record { standing = no_space; counts = p.counts }) no_space (refl, renewed start end p.counts p.standing no_space (λ bound. tt) fresh) fresh

-- Mini-transactions and logs.

-- the records of a mini-transaction, over the image and over the page
records_step : (start end space number : ℕ) (image : Image) (p : Redoing) (rs : List Record) → start < end → end < 2 ^ 64 → standing_of image space number ≡ p.standing → Fresh start end p.counts p.standing
    → Stepped start end (redone_records end space number p rs) (standing_of (after_records end image rs) space number)
records_step start end space number image p [] grows small same fresh = (sym same, fresh)
records_step start end space number image p (r ∷ rs) grows small same fresh =
    let one = step start end space number p r grows small fresh in
    records_step start end space number (after_record end image r) (redone_by end space number p r) rs grows small
    (after_record-standing end image r space number ∙ ap (λ s. after_standing end space number s r) same ∙ sym one.0) one.1

settled_below : (start end : ℕ) (counts : Option Bool) (p : Standing) → start < end → Fresh start end counts p → NotAbove end p
settled_below start end None no_space grows fresh = tt
settled_below start end None past_end grows fresh = tt
settled_below start end None (stands page) grows fresh = (fresh.0, omega (arith, fresh.1, grows))
settled_below start end (Some true) p grows fresh = fresh
settled_below start end (Some false) p grows fresh = absurd fresh

log_step : (start space number : ℕ) (image : Image) (p : Standing) (ms : List (List Record)) → start + length (log_of ms) < 2 ^ 64 → standing_of image space number ≡ p → NotAbove start p → standing_of (after_log start image ms) space number ≡ redone_from start space number p ms
log_step start space number image p [] small same old = same
log_step start space number image p (m ∷ ms) small same old =
    let end : ℕ = end_of start m in
    let long = length-append (spelling m) (log_of ms) in
    let some = spelling_some m in
    let grows : start < end = omega (arith, some) in
    let first : Redoing = record { standing = p; counts = None } in
    let one = records_step start end space number image first m grows (omega (arith, small, long)) same old in
    let last : Redoing = redone_records end space number first m in
    log_step end space number (after_records end image m) last.standing ms (omega (arith, small, long)) (sym one.0) (settled_below start end last.counts last.standing grows one.1)

pub replayed_is_redone : (mtrs : List (List Record)) (space number : ℕ) → first_lsn + length (log_of mtrs) < 2 ^ 64 → standing_of (replayed mtrs) space number ≡ redone space number mtrs
replayed_is_redone mtrs space number small = log_step first_lsn space number finite.empty no_space mtrs small (ap (λ o. standing_in o number) (get-empty nat_cmp space)) tt
