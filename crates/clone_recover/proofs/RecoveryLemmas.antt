-- Redo, taking back and writing as one recovery.
use Rattle.std.proofs.Common.{◌≡◌, ◌==◌, ◌&&◌, ◌<◌, ◌≤◌, ℕ, zero, suc, List, [], ◌∷◌, replicate, refl, sym, ap, subst, ◌∙◌, arith, Bool, true, false, cond, Some, None, inl, inr}
use Rattle.std.specs.Prelude.{option_map}
use Rattle.std.specs.declared.option.Option.{Option}
use Rattle.std.specs.FinMap as finite
use Rattle.std.specs.List.{AllByRecursion}
use Rattle.std.proofs.lemmas.Bool.{le-ltb}
use Rattle.std.proofs.lemmas.Bool.Decides.{eqb_tells}
use Rattle.clone_page.specs.Bytes.{put_at}
use Rattle.clone_page.specs.Slots.{slot_at}
use Rattle.clone_mtr.specs.declared.record.Record.{Record}
use Rattle.clone_mtr.specs.declared.record.Record.TheVariants.{Init, Write, Extend, Create, Drop}
use Rattle.clone_outside.specs.Disk.{DiskImage, ForTold, Steps, with_mark}
use Rattle.clone_outside.specs.Mark.{mark_bytes}
use Rattle.clone_outside.specs.declared.mark.CloneEnd.{CloneEnd}
use Rattle.clone_outside.specs.declared.mark.Mark.TheVariants as mark
use Rattle.clone_undo.specs.Changes.{slot_before}
use Rattle.clone_undo.specs.Entries.{UndoEntry}
use Rattle.clone_undo.specs.Places.{undo_slot_count, header_page, header_offset}
use Rattle.clone_undo.specs.Slots.{UndoSlot}
use Rattle.clone_image.specs.Image.{Image, with_edit, edited}
use Rattle.clone_image.specs.Recovered.{undo_slot_of, all_undone, taken_back, taken_back_below, recovered}
use Rattle.clone_image.specs.Redone.{Standing, no_space, past_end, stands, Redoing, named_on, made, stretched, redone_by, redone_records, redone_from, standing_in, standing_of}
use Rattle.clone_image.specs.Replay.{end_of}
use Rattle.clone_image.proofs.Standings.{edited_standing, edited_is}
use Rattle.clone_overlay.specs.Covers.{Overlay}
use Rattle.clone_overlay.specs.Images.{redo_space, bytes_of, image_of, IsQuiet}
use Rattle.clone_overlay.specs.Shown.{Shows, ShowsSame}
use Rattle.clone_overlay.proofs.Bases.{get_image}
use Rattle.clone_recover.specs.Chains.{IsFirstBrokenChain}
use Rattle.clone_recover.specs.Damage.{ForImage, ShowsEdited, IsPageOr, PageOrOn, IsChainOr, ChainOrOn, IsAgainst, AgainstOn, HasBroken}
use Rattle.clone_recover.specs.Reading.{IsOfTable, AreOfTables, redo_length, HasRedoOn, IsNoRedoOn}
use Rattle.clone_recover.specs.Restores.{IsLeft, LeavesOn, HasNoBrokenChain, UndoesOn, RestoresOn, IsDamage, by_header, by_dictionary, by_undo, by_chain, IsDamaged, IsRedoCause, DamagedOn}
use Rattle.clone_recover.specs.Written.{written_out, HasTablesOnly}
use Rattle.clone_recover.specs.declared.refusal.Why.TheVariants as why
use Rattle.clone_recover.specs.declared.refusal.RecoverRefusal.{RecoverRefusal}
use Rattle.clone_recover.specs.declared.refusal.RecoverRefusal.TheVariants.{Incomplete, Damaged, DiskFault, NoMemory}
use Rattle.clone_recover.proofs.RedoLemmas.{no_redo_damage}
use Rattle.clone_recover.proofs.OverlayWriteLemmas.{no_space_none, writes}

-- What is against the format of what redo leaves.

pub page_damage : (e : RecoverRefusal) (m : DiskImage) (end : CloneEnd) (left : Image) → IsLeft m end left → IsPageOr (HasBroken left) m e → IsDamaged m end e
page_damage Incomplete m end left is damage = absurd damage
page_damage (Damaged s p why.Header) m end left is damage = by_header s p (is.mtrs, is.redo) damage
page_damage (Damaged s p why.Redo) m end left is damage = absurd damage
page_damage (Damaged s p why.Dictionary) m end left is damage = absurd damage
page_damage (Damaged s p why.Undo) m end left is damage = subst (λ (k : ℕ). IsDamage m end k p why.Undo) (sym damage.0) (by_undo p left is damage.1.0 damage.1.1)
page_damage (Damaged s p why.Chain) m end left is damage = absurd damage
page_damage DiskFault m end left is damage = tt
page_damage NoMemory m end left is damage = tt

pub against_damage : (e : RecoverRefusal) (m : DiskImage) (end : CloneEnd) (left : Image) → IsLeft m end left → IsAgainst m left e → IsDamaged m end e
against_damage Incomplete m end left is damage = absurd damage
against_damage (Damaged s p why.Header) m end left is damage = by_header s p (is.mtrs, is.redo) damage
against_damage (Damaged s p why.Redo) m end left is damage = absurd damage
against_damage (Damaged s p why.Dictionary) m end left is damage =
    subst (λ (k : ℕ). IsDamage m end k p why.Dictionary) (sym damage.0) (subst (λ (k : ℕ). IsDamage m end 0 k why.Dictionary) (sym damage.1) (by_dictionary left is damage.2))
against_damage (Damaged s p why.Undo) m end left is damage = subst (λ (k : ℕ). IsDamage m end k p why.Undo) (sym damage.0) (by_undo p left is damage.1.0 damage.1.1)
against_damage (Damaged s p why.Chain) m end left is damage = absurd damage
against_damage DiskFault m end left is damage = tt
against_damage NoMemory m end left is damage = tt

-- The steps of a recovery over what was told.

pub log_fails : (told : Option DiskImage) (end : CloneEnd) (e : RecoverRefusal) → IsNoRedoOn told (redo_length end) e → DamagedOn told end e
log_fails None end e none = tt
log_fails (Some m) end e none = λ quiet. no_redo_damage e m end (redo_length end) refl (none quiet)

pub redo_fails : (told : Option DiskImage) (end : CloneEnd) (first : Overlay) (e : RecoverRefusal) → HasRedoOn told (redo_length end) → ForTold told (λ m. Shows (image_of m) (image_of m) first) → IsRedoCause told end first e → DamagedOn told end e
redo_fails None end first e has shows cause = tt
redo_fails (Some m) end first e has shows cause = λ quiet. cause quiet (has quiet) shows

pub dictionary_fails : (told : Option DiskImage) (end : CloneEnd) (first overlay : Overlay) (e : RecoverRefusal) → ForTold told (λ m. Shows (image_of m) (image_of m) first) → LeavesOn told end first overlay → AgainstOn told overlay e → DamagedOn told end e
dictionary_fails None end first overlay e shows leaves against = tt
dictionary_fails (Some m) end first overlay e shows leaves against = λ quiet.
    let l = leaves quiet shows in against_damage e m end l.left l.is_left (against quiet l.left l.shows)

pub undo_fails : (told : Option DiskImage) (end : CloneEnd) (first overlay tested : Overlay) (e : RecoverRefusal) → ForTold told (λ m. Shows (image_of m) (image_of m) first) → LeavesOn told end first overlay → ShowsSame told overlay tested → PageOrOn told tested HasBroken e
    → DamagedOn told end e
undo_fails None end first overlay tested e shows leaves same broken = tt
undo_fails (Some m) end first overlay tested e shows leaves same broken = λ quiet.
    let l = leaves quiet shows in page_damage e m end l.left l.is_left (broken quiet l.left (same quiet l.left l.shows))

chain_damage : (e : RecoverRefusal) (m : DiskImage) (end : CloneEnd) (left : Image) → IsLeft m end left → IsChainOr (IsFirstBrokenChain (recovered left)) m e → IsDamaged m end e
chain_damage Incomplete m end left is damage = absurd damage
chain_damage (Damaged s p why.Header) m end left is damage = by_header s p (is.mtrs, is.redo) damage
chain_damage (Damaged s p why.Redo) m end left is damage = absurd damage
chain_damage (Damaged s p why.Dictionary) m end left is damage = absurd damage
chain_damage (Damaged s p why.Undo) m end left is damage = absurd damage
chain_damage (Damaged s p why.Chain) m end left is damage = by_chain s p left is damage
chain_damage DiskFault m end left is damage = tt
chain_damage NoMemory m end left is damage = tt

-- the overlay shows the recovered pages, as taking back leaves it
abbrev pub TakesBackOn : Option DiskImage → CloneEnd → Overlay → Type 0
TakesBackOn told end overlay = ForTold told (λ m. IsQuiet m → (left : Image) × IsLeft m end left × Shows (image_of m) (recovered left) overlay)

takes : (told : Option DiskImage) (end : CloneEnd) (first overlay tested new : Overlay) → ForTold told (λ m. Shows (image_of m) (image_of m) first) → LeavesOn told end first overlay → ShowsSame told overlay tested → ShowsEdited told tested new recovered → TakesBackOn told end new
takes None end first overlay tested new shows leaves same edits = tt
takes (Some m) end first overlay tested new shows leaves same edits = λ quiet.
    let l = leaves quiet shows in (l.left, l.is_left, edits quiet l.left (same quiet l.left l.shows))

-- the same, where each step tells what the one before told
pub takes_back : (told logged opened redone tested : Option DiskImage) (end : CloneEnd) (first left over new : Overlay) → logged ≡ told → opened ≡ logged → redone ≡ opened → tested ≡ redone → ForTold logged (λ m. Shows (image_of m) (image_of m) first)
    → LeavesOn opened end first left → ShowsSame redone left over → ShowsEdited tested over new recovered → TakesBackOn told end new
takes_back told logged opened redone tested end first left over new one two three four shows leaves same edits =
    takes told end first left over new (subst (λ t. ForTold t (λ m. Shows (image_of m) (image_of m) first)) one shows) (subst (λ t. LeavesOn t end first left) (two ∙ one) leaves) (subst (λ t. ShowsSame t left over) (three ∙ two ∙ one) same)
    (subst (λ t. ShowsEdited t over new recovered) (four ∙ three ∙ two ∙ one) edits)

pub chains_damage : (told now : Option DiskImage) (end : CloneEnd) (overlay : Overlay) (e : RecoverRefusal) → now ≡ told → TakesBackOn told end overlay → ChainOrOn now overlay IsFirstBrokenChain e → DamagedOn told end e
chains_damage None now end overlay e same takes cause = tt
chains_damage (Some m) now end overlay e same takes cause = λ quiet.
    let l = takes quiet in chain_damage e m end l.0 l.1 (subst (λ t. ChainOrOn t overlay IsFirstBrokenChain e) same cause quiet (recovered l.0) l.2)

pub undoes : (told now : Option DiskImage) (end : CloneEnd) (overlay new : Overlay) → now ≡ told → TakesBackOn told end overlay → ShowsSame now overlay new → ForImage now overlay (λ m image. HasNoBrokenChain image) → UndoesOn told end new
undoes None now end overlay new same takes shows sound = tt
undoes (Some m) now end overlay new same takes shows sound = λ quiet.
    let l = takes quiet in
    record {
      left = l.0;
      is_left = l.1;
      shows = subst (λ t. ShowsSame t overlay new) same shows quiet (recovered l.0) l.2;
      chains = subst (λ t. ForImage t overlay (λ m image. HasNoBrokenChain image)) same sound quiet (recovered l.0) l.2;
    }

-- Neither redo nor taking back makes a space that has the number of the redo's or a higher one.

apart : (t s : ℕ) → t < redo_space → redo_space ≤ s → (t == s) ≡ false
apart t s low high = elim (eqb_tells t s) [ inl same ↦ absurd (omega (arith, low, high, same.1)) | inr other ↦ other.0 ]

named_none : (end : ℕ) (r : Record) (o : Option Bool) (p : Standing) → p ≡ no_space → (named_on end r o p).standing ≡ no_space
named_none end r o no_space e = refl
named_none end r o past_end e = absurd (cc)
named_none end r o (stands page) e = absurd (cc)

chosen : (b : Bool) (x y : Redoing) → x.standing ≡ no_space → y.standing ≡ no_space → (cond b x y).standing ≡ no_space
chosen true x y a b = a
chosen false x y a b = b

stretched_none : (n count : ℕ) (p : Standing) → p ≡ no_space → stretched n count p ≡ no_space
stretched_none n count no_space e = refl
stretched_none n count past_end e = absurd (cc)
stretched_none n count (stands page) e = absurd (cc)

none_by : (end s n : ℕ) (p : Redoing) (r : Record) → redo_space ≤ s → IsOfTable r → p.standing ≡ no_space → (redone_by end s n p r).standing ≡ no_space
none_by end s n p (Init t k kind) high of none = chosen ((t == s) && (k == n)) (named_on end (Init t k kind) p.counts p.standing) p (named_none end (Init t k kind) p.counts p.standing none) none
none_by end s n p (Write t k patch) high of none = chosen ((t == s) && (k == n)) (named_on end (Write t k patch) p.counts p.standing) p (named_none end (Write t k patch) p.counts p.standing none) none
none_by end s n p (Extend t count) high of none = chosen (t == s) (record p { standing = stretched n count p.standing }) p (stretched_none n count p.standing none) none
none_by end s n p (Create t count) high of none = ap (λ (b : Bool). (cond b (record p { standing = made n count }) p).standing) (apart t s of high) ∙ none
none_by end s n p (Drop t) high of none = chosen (t == s) (record p { standing = no_space }) p refl none

none_records : (end s n : ℕ) (p : Redoing) (rs : List Record) → redo_space ≤ s → AllByRecursion IsOfTable rs → p.standing ≡ no_space → (redone_records end s n p rs).standing ≡ no_space
none_records end s n p [] high of none = none
none_records end s n p (r ∷ rs) high of none = none_records end s n (redone_by end s n p r) rs high of.1 (none_by end s n p r high of.0 none)

pub none_log : (start s n : ℕ) (p : Standing) (mtrs : List (List Record)) → redo_space ≤ s → AreOfTables mtrs → p ≡ no_space → redone_from start s n p mtrs ≡ no_space
none_log start s n p [] high of none = none
none_log start s n p (mtr ∷ mtrs) high of none =
    none_log (end_of start mtr) s n (redone_records (end_of start mtr) s n (record { standing = p; counts = None }) mtr).standing mtrs high of.1
    (none_records (end_of start mtr) s n (record { standing = p; counts = None }) mtr high of.0 none)

-- no page of such a space
abbrev pub HasNone : Image → Type 0
HasNone image = (s n : ℕ) → redo_space ≤ s → standing_of image s n ≡ no_space

pub base_none : (m : DiskImage) → HasNone (image_of m)
base_none m s n high =
    ap (λ o. standing_in o n) (get_image m s ∙ ap (λ (b : Bool). cond b (option_map bytes_of (finite.get m.spaces s)) None) (le-ltb s redo_space high))

left_none : (m : DiskImage) (end : CloneEnd) (left : Image) → IsLeft m end left → HasNone left
left_none m end left is s n high = is.by_page s n ∙ none_log end.checkpoint s n (standing_of (image_of m) s n) is.mtrs high is.redo.tables (base_none m s n high)

edited_none : (b : Bool) (edit : List ℕ → List ℕ) (p : Standing) → p ≡ no_space → cond b (edited_standing edit p) p ≡ no_space
edited_none true edit no_space e = refl
edited_none true edit past_end e = absurd (cc)
edited_none true edit (stands page) e = absurd (cc)
edited_none false edit p e = e

edit_none : (image : Image) (t k : ℕ) (edit : List ℕ → List ℕ) → HasNone image → HasNone (with_edit image t (edited k edit))
edit_none image t k edit none s n high = edited_is image t k s n edit ∙ edited_none ((t == s) && (k == n)) edit (standing_of image s n) (none s n high)

undone_none : (image : Image) (es : List UndoEntry) → HasNone image → HasNone (all_undone image es)
undone_none image [] none = none
undone_none image (e ∷ es) none = edit_none (all_undone image es) e.table e.page (put_at (slot_at e.slot) (slot_before e)) (undone_none image es none)

slot_none : (image : Image) (s : ℕ) (slot : Option UndoSlot) → HasNone image → HasNone (taken_back image s slot)
slot_none image s None none = none
slot_none image s (Some u) none = edit_none (all_undone image u.records) 0 (header_page s) (put_at header_offset (replicate 16 0)) (undone_none image u.records none)

below_none : (s : ℕ) (image : Image) → HasNone image → HasNone (taken_back_below s image)
unfolding taken_back_below
below_none zero image none = none
below_none (suc s) image none = slot_none (taken_back_below s image) s (undo_slot_of (taken_back_below s image) s) (below_none s image none)

recovered_none : (image : Image) → HasNone image → HasNone (recovered image)
unfolding recovered
recovered_none image none = below_none undo_slot_count image none

tables_only : (m : DiskImage) (end : CloneEnd) (left : Image) → IsLeft m end left → HasTablesOnly (recovered left)
tables_only m end left is s high = no_space_none (finite.get (recovered left) s) (recovered_none left (left_none m end left is) s 0 high)

pub restores : (old new : Option DiskImage) (end : CloneEnd) (overlay : Overlay) → UndoesOn old end overlay → Steps old new (λ m. with_mark (written_out overlay m) (mark_bytes (mark.Recovered end))) → RestoresOn old new end
restores None new end overlay undoes steps = tt
restores (Some m) new end overlay undoes steps = (
  with_mark (written_out overlay m) (mark_bytes (mark.Recovered end)),
  (
    steps,
    λ quiet.
        let u = undoes quiet in
        let w = writes m overlay (recovered u.left) quiet (tables_only m end u.left u.is_left) u.shows in
        record { left = u.left; is_left = u.is_left; image = w.is; chains = u.chains; quiet = w.quiet; others = w.others; mark = refl },
  ),
)
