-- Runs that mislead the wrong machines.
use Rattle.std.proofs.Common.{◌≡◌, ◌++◌, ℕ, List, [], ◌∷◌, refl, sym, ap, subst, ◌∙◌, arith, inl, None}
use Rattle.std.proofs.lemmas.Bool.{true≢false}
use Rattle.clone_page.specs.Header.{zero_page, kind_of}
use Rattle.clone_page.specs.declared.kind.PageKind.TheVariants.{Bucket, Overflow}
use Rattle.clone_page.proofs.Parts.{kind_of-initialised, kind_of-with_lsn, lsn_of-with_lsn}
use Rattle.clone_mtr.specs.declared.record.Record.{Record}
use Rattle.clone_image.specs.Redone.{Standing, no_space, past_end, stands, redone, redone_from}
use Rattle.clone_law.specs.Touches.{Lax}
use Rattle.clone_law.specs.Since.{ends}
use Rattle.clone_law.specs.Starts.{Gives}
use Rattle.clone_law.specs.Mistakes.{Mistake, LeavesFlightOut, BeginsUnnoted, ArchivesLate, LandsClean, ChecksPast, Misleads}
use Rattle.clone_law.specs.Examples.{first_change, made_log, changed_log, last_log, first_page, second_page, torn_page, misleading, misled}
use Rattle.clone_law.proofs.RedoLemmas.{newer_stays}
use Rattle.clone_law.proofs.ExampleLemmas.{made_suits, first_suits, first_now, second_suits, second_now, at_end}

kind_at : Standing → ℕ
kind_at no_space = 0
kind_at past_end = 0
kind_at (stands page) = kind_of page

-- a page that redo leaves as it is, and that is of another kind than the page now
misgives : (log front rest : List (List Record)) (start now : List ℕ) → log ≡ front ++ rest → redone_from (ends front) 1 0 (stands start) rest ≡ stands start → redone 1 0 log ≡ stands now → (kind_of start ≡ kind_of now → ⊥) → ¬ Gives 1 0 (ends front) log (stands start)
unfolding kind_at
misgives log front rest start now split stays is differ gives =
    let same : redone_from (ends front) 1 0 (stands start) rest ≡ stands now = subst (λ (v : Standing). Lax (redone_from (ends front) 1 0 (stands start) rest) v) is (gives front rest split refl) in
    differ (ap kind_at (sym stays ∙ same))

-- the pages differ
kind_of-first : kind_of first_page ≡ 3
kind_of-first = kind_of-initialised 1 0 Bucket (ends changed_log)

kind_of-second : kind_of second_page ≡ 4
kind_of-second = kind_of-initialised 1 0 Overflow (ends last_log)

zero_differs : kind_of zero_page ≡ kind_of first_page → ⊥
zero_differs same = omega (arith, same ∙ kind_of-first)

torn_differs : kind_of torn_page ≡ kind_of first_page → ⊥
torn_differs same = zero_differs (sym (kind_of-with_lsn (ends changed_log) zero_page refl) ∙ same)

first_differs : kind_of first_page ≡ kind_of second_page → ⊥
first_differs same = omega (arith, sym kind_of-first ∙ same ∙ kind_of-second)

-- a torn page with the new page LSN stays
torn_stays : redone_from (ends made_log) 1 0 (stands torn_page) (first_change ∷ []) ≡ stands torn_page
torn_stays = newer_stays 1 0 (ends made_log) torn_page first_change (omega (arith, lsn_of-with_lsn (ends changed_log) zero_page (omega arith) refl)) refl

pub misled_by : (mistake : Mistake) → Misleads mistake 1 0 (misleading mistake) (misled mistake)
misled_by LeavesFlightOut = record {
  world = _;
  run = (made_suits, ((omega arith, at_end made_log), ((refl, refl, tt), ((first_suits, first_now, tt), (refl, (tt, ((record { image = first_page; later = None }, refl), ((tt, λ closed. absurd (true≢false closed)), (tt, (tt, (tt, refl)))))))))));
  base = ends made_log;
  log = changed_log;
  starts = stands torn_page ∷ [];
  stopped = refl;
  is_start = inl refl;
  wrong = misgives changed_log made_log (first_change ∷ []) torn_page first_page refl torn_stays first_now torn_differs;
}
misled_by BeginsUnnoted = record {
  world = _;
  run = (made_suits, ((omega arith, at_end made_log), ((refl, refl, tt), ((first_suits, first_now, tt), (tt, (refl, ((record { image = first_page; later = None }, refl), ((tt, λ closed. absurd (true≢false closed)), (tt, (tt, (tt, refl)))))))))));
  base = ends made_log;
  log = changed_log;
  starts = stands torn_page ∷ [];
  stopped = refl;
  is_start = inl refl;
  wrong = misgives changed_log made_log (first_change ∷ []) torn_page first_page refl torn_stays first_now torn_differs;
}
misled_by ArchivesLate = record {
  world = _;
  run = (made_suits, ((omega arith, at_end made_log), ((refl, refl, tt), ((first_suits, first_now, tt), (tt, ((tt, λ closed. refl), (tt, (tt, refl))))))));
  base = ends changed_log;
  log = changed_log;
  starts = stands zero_page ∷ [];
  stopped = refl;
  is_start = inl refl;
  wrong = misgives changed_log changed_log [] zero_page first_page refl refl first_now zero_differs;
}
misled_by LandsClean = record {
  world = _;
  run = (made_suits, ((omega arith, at_end made_log), ((refl, refl, tt), ((first_suits, first_now, tt), (refl, ((second_suits, second_now, tt), (tt, ((omega arith, at_end last_log), (tt, ((tt, λ closed. refl), (tt, (tt, refl))))))))))));
  base = ends last_log;
  log = last_log;
  starts = stands first_page ∷ [];
  stopped = refl;
  is_start = inl refl;
  wrong = misgives last_log last_log [] first_page second_page refl refl second_now first_differs;
}
misled_by ChecksPast = record {
  world = _;
  run = (made_suits, (at_end made_log, ((refl, refl, tt), ((first_suits, first_now, tt), (at_end changed_log, (tt, ((tt, λ closed. refl), (tt, (tt, refl)))))))));
  base = ends changed_log;
  log = changed_log;
  starts = stands zero_page ∷ [];
  stopped = refl;
  is_start = inl refl;
  wrong = misgives changed_log changed_log [] zero_page first_page refl refl first_now zero_differs;
}
