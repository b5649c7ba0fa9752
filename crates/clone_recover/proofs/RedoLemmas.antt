-- The redo of a disk is carried out over its pages.
use Rattle.std.proofs.Common.{◌≡◌, ◌+◌, ℕ, List, [], ◌∷◌, ◌++◌, length, refl, sym, ap, subst, ◌∙◌, arith, Some, None}
use Rattle.std.specs.declared.option.Option.{Option}
use Rattle.std.proofs.lemmas.List.{length-append}
use Rattle.clone_mtr.specs.Spelling.{spelling, log_of}
use Rattle.clone_mtr.specs.declared.record.Record.{Record}
use Rattle.clone_outside.specs.Disk.{DiskImage, ForTold}
use Rattle.clone_outside.specs.declared.mark.CloneEnd.{CloneEnd}
use Rattle.clone_image.specs.Image.{Image}
use Rattle.clone_image.specs.Redone.{Standing, redone_from, redone_records, standing_of}
use Rattle.clone_image.specs.Replay.{end_of}
use Rattle.clone_overlay.specs.Covers.{Overlay}
use Rattle.clone_overlay.specs.Images.{image_of, IsQuiet}
use Rattle.clone_overlay.specs.Shown.{Shows}
use Rattle.clone_recover.specs.Damage.{HeaderOn, IsHeader}
use Rattle.clone_recover.specs.Reading.{HasRedoOn, IsNoRedoOn, redo_of, redo_length, HasRedo, IsRedo, IsNoRedo, total_of, HasRead, ReadsOn, KeepsOn}
use Rattle.clone_recover.specs.Redo.{RedoesOn}
use Rattle.clone_recover.specs.Restores.{LeavesOn, IsDamage, by_redo, by_header, IsDamaged, IsRedoCause}
use Rattle.clone_recover.specs.declared.log.Log.{Log}
use Rattle.clone_recover.specs.declared.refusal.Why.TheVariants as why
use Rattle.clone_recover.specs.declared.refusal.RecoverRefusal.{RecoverRefusal}
use Rattle.clone_recover.specs.declared.refusal.RecoverRefusal.TheVariants.{Incomplete, Damaged, DiskFault, NoMemory}

-- one mini-transaction more
redone-push : (start s n : ℕ) (p : Standing) (done : List (List Record)) (mtr : List Record) (end : ℕ) → end ≡ start + length (log_of (done ++ mtr ∷ []))
    → redone_from start s n p (done ++ mtr ∷ []) ≡ (redone_records end s n (record { standing = redone_from start s n p done; counts = None }) mtr).standing
redone-push start s n p [] mtr end is =
    ap (λ e. (redone_records e s n (record { standing = p; counts = None }) mtr).standing) (omega (arith, is, length-append (spelling mtr) []))
redone-push start s n p (x ∷ done) mtr end is =
    redone-push (end_of start x) s n (redone_records (end_of start x) s n (record { standing = p; counts = None }) x).standing done mtr end (omega (arith, is, length-append (spelling x) (log_of (done ++ mtr ∷ []))))

-- one mini-transaction more was read
abbrev pub ReadsMore : Log → Log → List Record → Type 0
ReadsMore before after mtr = (m : DiskImage) (done : List (List Record)) → HasRead m done before → HasRead m (done ++ mtr ∷ []) after

-- none was read, which says of the redo what the refusal says
abbrev pub ReadsNone : Log → RecoverRefusal → Type 0
ReadsNone log e = (m : DiskImage) (done : List (List Record)) → HasRead m done log → IsNoRedo m (total_of log) e

-- all of the log was read
all_read : (m : DiskImage) (done : List (List Record)) (log : Log) (total : ℕ) → HasRead m done log → log.at ≡ total → IsRedo m total done
all_read m done log total r all = record { each = r.each; tables = r.tables; text = ap (redo_of m) (sym all) ∙ r.text; whole = r.long ∙ all }

-- what was read of the redo was carried out
pub record Progress (m : DiskImage) (end : CloneEnd) (overlay : Overlay) (log : Log) : Type 0 where
  pub done : List (List Record)
  pub reads : HasRead m done log
  pub left : Image
  pub shows : Shows (image_of m) left overlay
  pub by_page : (s n : ℕ) → standing_of left s n ≡ redone_from end.checkpoint s n (standing_of (image_of m) s n) done

abbrev pub ProgressOn : Option DiskImage → CloneEnd → Overlay → Overlay → Log → Type 0
ProgressOn told end first overlay log = ForTold told (λ m. IsQuiet m → Shows (image_of m) (image_of m) first → Progress m end overlay log)

pub progress_begins : (told : Option DiskImage) (end : CloneEnd) (first : Overlay) (log : Log) → ReadsOn told [] log → ProgressOn told end first first log
progress_begins None end first log reads = tt
progress_begins (Some m) end first log reads = λ quiet shows. record { done = []; reads = reads quiet; left = image_of m; shows = shows; by_page = λ s n. refl }

-- a fact of what was told holds of what is told now, which is the same
pub retold : (now told : Option DiskImage) (P : Option DiskImage → Type 0) → now ≡ told → P now → P told
retold now told P same fact = subst P same fact

-- the page with the next byte is at hand
pub progress_kept : (told : Option DiskImage) (end : CloneEnd) (first overlay : Overlay) (before after : Log) → ProgressOn told end first overlay before → KeepsOn told before after → ProgressOn told end first overlay after
progress_kept None end first overlay before after p keeps = tt
progress_kept (Some m) end first overlay before after p keeps = λ quiet shows.
    let was = p quiet shows in
    record { done = was.done; reads = keeps quiet was.done was.reads; left = was.left; shows = was.shows; by_page = was.by_page }

pub progress_goes_on : (told : Option DiskImage) (end : CloneEnd) (first old new : Overlay) (before after : Log) (mtr : List Record) (lsn : ℕ) → lsn ≡ end.checkpoint + after.at
    → ReadsMore before after mtr → ProgressOn told end first old before → RedoesOn told lsn old new mtr → ProgressOn told end first new after
progress_goes_on None end first old new before after mtr lsn is next p redoes = tt
progress_goes_on (Some m) end first old new before after mtr lsn is next p redoes = λ quiet shows.
    let was = p quiet shows in
    let reads = next m was.done was.reads in
    let now = redoes quiet was.left was.shows in
    record {
      done = was.done ++ mtr ∷ [];
      reads = reads;
      left = now.next;
      shows = now.shows;
      by_page = λ s n.
          now.each s n
          ∙ ap (λ p. (redone_records lsn s n (record { standing = p; counts = None }) mtr).standing) (was.by_page s n)
          ∙ sym (redone-push end.checkpoint s n (standing_of (image_of m) s n) was.done mtr lsn (is ∙ ap (λ k. end.checkpoint + k) (sym reads.long)));
    }

pub progress_ends : (told : Option DiskImage) (end : CloneEnd) (first overlay : Overlay) (log : Log) → log.at ≡ redo_length end → ProgressOn told end first overlay log → LeavesOn told end first overlay
progress_ends None end first overlay log all p = tt
progress_ends (Some m) end first overlay log all p = λ quiet shows.
    let was = p quiet shows in
    record { left = was.left; is_left = record { mtrs = was.done; redo = all_read m was.done log (redo_length end) was.reads all; by_page = was.by_page }; shows = was.shows }

-- Why redo wasn't carried out.

pub no_redo_damage : (e : RecoverRefusal) (m : DiskImage) (end : CloneEnd) (total : ℕ) → total ≡ redo_length end → IsNoRedo m total e → IsDamaged m end e
no_redo_damage Incomplete m end total is none = absurd none
no_redo_damage (Damaged s p why.Header) m end total is none = absurd none
no_redo_damage (Damaged s p why.Redo) m end total is none =
    subst (λ (k : ℕ). IsDamage m end k p why.Redo) (sym none.0) (by_redo p (λ has. none.1 (subst (HasRedo m) (sym is) has)))
no_redo_damage (Damaged s p why.Dictionary) m end total is none = absurd none
no_redo_damage (Damaged s p why.Undo) m end total is none = absurd none
no_redo_damage (Damaged s p why.Chain) m end total is none = absurd none
no_redo_damage DiskFault m end total is none = tt
no_redo_damage NoMemory m end total is none = tt

pub header_damage : (e : RecoverRefusal) (m : DiskImage) (end : CloneEnd) → HasRedo m (redo_length end) → IsHeader m e → IsDamaged m end e
header_damage Incomplete m end has is = absurd is
header_damage (Damaged s p why.Header) m end has is = by_header s p has is
header_damage (Damaged s p why.Redo) m end has is = absurd is
header_damage (Damaged s p why.Dictionary) m end has is = absurd is
header_damage (Damaged s p why.Undo) m end has is = absurd is
header_damage (Damaged s p why.Chain) m end has is = absurd is
header_damage DiskFault m end has is = tt
header_damage NoMemory m end has is = tt

pub stopped : (told : Option DiskImage) (e : RecoverRefusal) (end : CloneEnd) (first overlay : Overlay) (log : Log) → total_of log ≡ redo_length end → ProgressOn told end first overlay log → ReadsNone log e → IsRedoCause told end first e
stopped None e end first overlay log total p none = tt
stopped (Some m) e end first overlay log total p none = λ quiet has shows.
    let was = p quiet shows in no_redo_damage e m end (total_of log) total (none m was.done was.reads)

pub misplaced : (told : Option DiskImage) (e : RecoverRefusal) (end : CloneEnd) (first overlay : Overlay) (log : Log) → ProgressOn told end first overlay log → HeaderOn told overlay e → IsRedoCause told end first e
misplaced None e end first overlay log p header = tt
misplaced (Some m) e end first overlay log p header = λ quiet has shows.
    let was = p quiet shows in header_damage e m end has (header quiet was.left was.shows)

-- All of the redo is read and tested.

-- some mini-transactions were read of a quiet disk
abbrev pub ReadOn : Option DiskImage → Log → Type 0
ReadOn told log = ForTold told (λ m. IsQuiet m → (done : List (List Record)) × HasRead m done log)

pub read_begins : (told : Option DiskImage) (log : Log) → ReadsOn told [] log → ReadOn told log
read_begins None log reads = tt
read_begins (Some m) log reads = λ quiet. ([], reads quiet)

pub read_kept : (told : Option DiskImage) (before after : Log) → ReadOn told before → KeepsOn told before after → ReadOn told after
read_kept None before after read keeps = tt
read_kept (Some m) before after read keeps = λ quiet. let was = read quiet in (was.0, keeps quiet was.0 was.1)

pub read_goes_on : (told : Option DiskImage) (before after : Log) (mtr : List Record) → ReadsMore before after mtr → ReadOn told before → ReadOn told after
read_goes_on None before after mtr next read = tt
read_goes_on (Some m) before after mtr next read = λ quiet. let was = read quiet in (was.0 ++ mtr ∷ [], next m was.0 was.1)

pub read_ends : (told : Option DiskImage) (log : Log) (total : ℕ) → log.at ≡ total → ReadOn told log → HasRedoOn told total
read_ends None log total all read = tt
read_ends (Some m) log total all read = λ quiet. let was = read quiet in (was.0, all_read m was.0 log total was.1 all)

pub read_fails : (told : Option DiskImage) (log : Log) (total : ℕ) (e : RecoverRefusal) → total_of log ≡ total → ReadOn told log → ReadsNone log e → IsNoRedoOn told total e
read_fails None log total e is read none = tt
read_fails (Some m) log total e is read none = λ quiet. let was = read quiet in subst (λ (t : ℕ). IsNoRedo m t e) is (none m was.0 was.1)
