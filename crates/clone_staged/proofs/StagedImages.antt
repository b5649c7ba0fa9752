-- The image that redo leaves on a disk that a clone was laid on in stages has the pages that the donor's log makes.
use Rattle.std.proofs.Common.{◌≡◌, ◌<◌, ◌^◌, ◌++◌, ℕ, List, [], ◌∷◌, length, refl, sym, ap, subst, ◌∙◌, arith, Option, Some, None, inl, inr}
use Rattle.std.specs.Prelude.{slice_get, option_map}
use Rattle.std.specs.FinMap as finite
use Rattle.std.specs.List.{AllByRecursion}
use Rattle.std.proofs.lemmas.Bool.{cases_lt}
use Rattle.std.proofs.lemmas.List.{length-append}
use Rattle.clone_model.specs.History.{Rows}
use Rattle.clone_outside.specs.Disk.{DiskImage}
use Rattle.clone_outside.specs.declared.mark.CloneEnd.{CloneEnd}
use Rattle.clone_mtr.specs.Spelling.{log_of}
use Rattle.clone_mtr.specs.declared.record.Record.{Record}
use Rattle.clone_image.specs.Image.{Image, page_of, page_count}
use Rattle.clone_image.specs.Recovered.{recovered}
use Rattle.clone_image.specs.Redone.{Standing, no_space, past_end, stands, redone, redone_from, standing_at, standing_in, standing_of}
use Rattle.clone_image.specs.Replay.{first_lsn, IsSpelled, replayed}
use Rattle.clone_image.specs.Rows.{HasRows}
use Rattle.clone_image.proofs.Logs.{log_of-append, same_logs}
use Rattle.clone_image.proofs.RedoLemmas.{replayed_is_redone}
use Rattle.clone_law.specs.Alike.{Alike, CanTakeBack}
use Rattle.clone_law.specs.Since.{ends}
use Rattle.clone_law.specs.Touches.{Lax}
use Rattle.clone_law.proofs.AlikeLemmas as alike
use Rattle.clone_law.proofs.RedoLemmas.{in_parts}
use Rattle.clone_law.proofs.TouchLemmas.{IsNothing, Lax-same}
use Rattle.clone_overlay.specs.Images.{redo_space, image_of}
use Rattle.clone_overlay.proofs.OverlayImageLemmas.{page_standing, page_stands}
use Rattle.clone_recover.specs.Reading.{IsOfTable, AreOfTables, redo_length, redo_of, IsRedo}
use Rattle.clone_recover.specs.Restores.{IsLeft}
use Rattle.clone_recover.proofs.RecoveryLemmas.{base_none, none_log}
use Rattle.clone_staged.specs.Staged.{IsLogTo, IsStaged, completed}
use Rattle.clone_staged.proofs.AbsentPages.{IsWithin, nothing_within, redone_within}
use Rattle.clone_staged.proofs.EndMarks.{OneEnd}

recursion-rest : {X : Type 0} (P : X → Type 0) (xs ys : List X) → AllByRecursion P (xs ++ ys) → AllByRecursion P ys
recursion-rest P [] ys h = h
recursion-rest P (x ∷ xs) ys h = recursion-rest P xs ys h.1

-- a page of no space, and the space
none_in : (o : Option (List (List ℕ))) (n : ℕ) → standing_in o n ≡ no_space → o ≡ None
none_in None n is = refl
none_in (Some pages) n is = absurd (at (slice_get pages n) is)
  where
    at : (p : Option (List ℕ)) → standing_at p ≡ no_space → ⊥
    at None e = absurd (cc)
    at (Some page) e = absurd (cc)

nothing_at : (v : Standing) → page_standing v ≡ None → IsNothing v
nothing_at no_space is = tt
nothing_at past_end is = tt
nothing_at (stands page) is = absurd (cc)

-- in a space that is there
same_page : (u v : Standing) → (v ≡ no_space → ⊥) → IsWithin u v → Lax u v → page_standing u ≡ page_standing v
same_page u no_space some within lax = absurd (some refl)
same_page no_space past_end some within lax = absurd lax
same_page past_end past_end some within lax = refl
same_page (stands page) past_end some within lax = absurd within
same_page u (stands page) some within lax = ap page_standing lax

module _ (log : List (List Record)) (end : CloneEnd) (m : DiskImage) (to : IsLogTo end log) (staged : IsStaged end.checkpoint log m) (e : CloneEnd) (one : OneEnd end e) where
  abbrev front : List (List Record)
  front = staged.begin.before

  abbrev rest : List (List Record)
  rest = staged.begin.behind

  small : ends log < 2 ^ 64
  small = omega (arith, to.stop, end.within)

  long : redo_length e ≡ length (log_of rest)
  long = omega (arith, one.lsn, one.checkpoint, to.stop, staged.begin.moment, ap (λ (x : List (List Record)). length (log_of x)) staged.begin.split, ap length (log_of-append front rest), length-append (log_of front) (log_of rest))

  each : AllByRecursion IsSpelled rest
  each = recursion-rest IsSpelled front rest (subst (AllByRecursion IsSpelled) staged.begin.split to.each)

  tables : AreOfTables rest
  tables = recursion-rest (λ records. AllByRecursion IsOfTable records) front rest (subst AreOfTables staged.begin.split to.tables)

  text : redo_of m (redo_length e) ≡ log_of rest
  text = ap (redo_of m) long ∙ staged.redo

  -- its redo is the log from the checkpoint on
  pub is_redo : IsRedo (completed end m) (redo_length e) rest
  is_redo = record { each = each; tables = tables; text = text; whole = sym long }

  module _ (left : Image) (l : IsLeft (completed end m) e left) (size : page_count (replayed log) 0 ≡ Some 257) where
    left_is : (s n : ℕ) → standing_of left s n ≡ redone_from end.checkpoint s n (standing_of (image_of m) s n) rest
    left_is s n =
        l.by_page s n
        ∙ ap (redone_from e.checkpoint s n (standing_of (image_of m) s n)) (same_logs l.mtrs rest l.redo.each each (sym l.redo.text ∙ text))
        ∙ ap (λ c. redone_from c s n (standing_of (image_of m) s n) rest) (sym one.checkpoint)

    log_is : (s n : ℕ) → standing_of (replayed log) s n ≡ redone s n log
    log_is s n = replayed_is_redone log s n small

    -- each page is the log's, or nothing or a zero page where the log makes none
    pub pages : (s n : ℕ) → Lax (standing_of left s n) (standing_of (replayed log) s n)
    pages s n = elim (cases_lt s redo_space) [
      | inl low ↦
          subst (λ (v : Standing). Lax v (standing_of (replayed log) s n)) (sym (left_is s n))
          (subst (λ (v : Standing). Lax (redone_from end.checkpoint s n (standing_of (image_of m) s n) rest) v) (sym (log_is s n)) (staged.gives s n low front rest staged.begin.split staged.begin.moment))
      | inr high ↦
          Lax-same (standing_of left s n) (standing_of (replayed log) s n)
          (left_is s n ∙ none_log end.checkpoint s n (standing_of (image_of m) s n) rest high tables (base_none m s n high)
          ∙ sym (log_is s n ∙ none_log first_lsn s n no_space log high to.tables refl))
    ]

    -- the system space has no page behind the log's
    within : (n : ℕ) → IsWithin (standing_of left 0 n) (standing_of (replayed log) 0 n)
    within n = at (standing_of (replayed log) 0 n) refl
      where
        at : (v : Standing) → standing_of (replayed log) 0 n ≡ v → IsWithin (standing_of left 0 n) v
        at no_space is = tt
        at (stands page) is = tt
        at past_end is =
            let none : page_of (image_of m) 0 n ≡ None = staged.system n (page_stands (replayed log) 0 n ∙ ap page_standing is) in
            let old : Standing = standing_of (image_of m) 0 n in
            let was : IsNothing old = nothing_at old (sym (page_stands (image_of m) 0 n) ∙ none) in
            let now : redone_from (ends front) 0 n (redone 0 n front) rest ≡ past_end = sym (in_parts 0 n front rest) ∙ ap (redone 0 n) (sym staged.begin.split) ∙ sym (log_is 0 n) ∙ is in
            let left_end : standing_of left 0 n ≡ redone_from (ends front) 0 n old rest = left_is 0 n ∙ ap (λ c. redone_from c 0 n old rest) (sym staged.begin.moment) in
            subst (λ (u : Standing). IsWithin u past_end) (sym left_end)
            (subst (λ (v : Standing). IsWithin (redone_from (ends front) 0 n old rest) v) now (redone_within (ends front) 0 n old (redone 0 n front) rest (nothing_within old (redone 0 n front) was)))

    system : (n : ℕ) → page_of left 0 n ≡ page_of (replayed log) 0 n
    system n = page_stands left 0 n ∙ same_page (standing_of left 0 n) (standing_of (replayed log) 0 n) some (within n) (pages 0 n) ∙ sym (page_stands (replayed log) 0 n)
      where
        some : standing_of (replayed log) 0 n ≡ no_space → ⊥
        some is = let gone : page_count (replayed log) 0 ≡ None = ap (option_map length) (none_in (finite.get (replayed log) 0) n is) in absurd (let e : None ≡ Some 257 = sym gone ∙ size in cc)

    pub left_alike : Alike left (replayed log)
    left_alike = alike.alike_from left (replayed log) system pages

    pub left_rows : (rows : Rows) → CanTakeBack (replayed log) → HasRows (page_of (recovered (replayed log))) rows → HasRows (page_of (recovered left)) rows
    left_rows rows can has = alike.recovered_rows left (replayed log) rows system pages can has
