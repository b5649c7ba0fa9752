-- Redo of a page by records is redo by touches.
use Rattle.std.proofs.Common.{◌≡◌, ◌<◌, ◌≤◌, ◌+◌, ◌^◌, ◌++◌, ◌==◌, ◌&&◌, ℕ, Bool, true, false, cond, List, [], ◌∷◌, length, refl, sym, ap, subst, ◌∙◌, arith, inl, Option}
use Rattle.std.specs.Prelude.{nat_lt}
use Rattle.std.proofs.lemmas.List.{length-append, length-take, length-drop}
use Rattle.byteorder.specs.Endian.{big_bytes}
use Rattle.byteorder.specs.Numbers.{length-bytes_high_first}
use Rattle.clone_page.specs.Bytes.{put_at}
use Rattle.clone_page.specs.Header.{zero_page, with_lsn, lsn_of}
use Rattle.clone_page.proofs.Parts.{length-put_at, field-put_at_other, field-put_at_same, length-initialised, lsn_of-initialised}
use Rattle.clone_mtr.specs.Effects.{effect}
use Rattle.clone_mtr.specs.Spelling.{spelling, log_of}
use Rattle.clone_mtr.specs.declared.record.Record.{Record}
use Rattle.clone_mtr.specs.declared.record.Record.TheVariants.{Init, Write, Extend, Create, Drop}
use Rattle.clone_mtr.proofs.Spellings.{spelling_some}
use Rattle.clone_image.specs.Replay.{first_lsn, end_of}
use Rattle.clone_image.specs.Redone.{Standing, no_space, past_end, stands, Redoing, named_on, named, made, stretched, redone_by, redone_records, redone_from, redone}
use Rattle.clone_image.proofs.Logs.{log_of-append}
use Rattle.clone_law.specs.Touches.{Touch, passes, edits, becomes, reaches, Step, touch, touches, step, steps, edited_on, reached, touched, all_touched, fresh, runs, Sound, Marks, IsMade, Proper, NotAbove, FitsStep, Fits, Lax, resets, touches}
use Rattle.clone_law.specs.Since.{ends, Since, Suits, AllFit}
use Rattle.clone_law.proofs.TouchLemmas.{newer}
use Rattle.clone_law.proofs.StepLemmas.{last, runs-append, redone_again, fits_front, fits_rest, fits_join, not_above, caught_up}

named_is : (end : ℕ) (r : Record) (counts : Option Bool) (p : Standing) → named_on end r counts p ≡ edited_on end (effect end r) counts p
named_is end r counts no_space = refl
named_is end r counts past_end = refl
named_is end r counts (stands page) = refl

names_it : (end : ℕ) (b : Bool) (r : Record) (p : Redoing) → cond b (named end r p) p ≡ touched end (cond b (edits (effect end r)) passes) p
names_it end true r p = named_is end r p.counts p.standing
names_it end false r p = refl

stretched_is : (number count : ℕ) (p : Standing) → stretched number count p ≡ reached (made number count) p
stretched_is number count no_space = refl
stretched_is number count past_end = refl
stretched_is number count (stands page) = refl

reaches_it : (end number count : ℕ) (b : Bool) (p : Redoing) → cond b (record { standing = stretched number count p.standing; counts = p.counts }) p ≡ touched end (cond b (reaches (made number count)) passes) p
reaches_it end number count true p = ap (λ (s : Standing). record { standing = s; counts = p.counts }) (stretched_is number count p.standing)
reaches_it end number count false p = refl

becomes_it : (end : ℕ) (s : Standing) (b : Bool) (p : Redoing) → cond b (record { standing = s; counts = p.counts }) p ≡ touched end (cond b (becomes s) passes) p
becomes_it end s true p = refl
becomes_it end s false p = refl

by_touch : (end space number : ℕ) (p : Redoing) (r : Record) → redone_by end space number p r ≡ touched end (touch end space number r) p
by_touch end space number p (Init s n kind) = names_it end ((s == space) && (n == number)) (Init s n kind) p
by_touch end space number p (Write s n patch) = names_it end ((s == space) && (n == number)) (Write s n patch) p
by_touch end space number p (Extend s count) = reaches_it end number count (s == space) p
by_touch end space number p (Create s count) = becomes_it end (made number count) (s == space) p
by_touch end space number p (Drop s) = becomes_it end no_space (s == space) p

by_touches : (end space number : ℕ) (p : Redoing) (rs : List Record) → redone_records end space number p rs ≡ all_touched end p (touches end space number rs)
by_touches end space number p [] = refl
by_touches end space number p (r ∷ rs) = by_touches end space number (redone_by end space number p r) rs ∙ ap (λ q. all_touched end q (touches end space number rs)) (by_touch end space number p r)

pub by_steps : (start space number : ℕ) (p : Standing) (ms : List (List Record)) → redone_from start space number p ms ≡ runs p (steps start space number ms)
by_steps start space number p [] = refl
by_steps start space number p (m ∷ ms) =
    by_steps (end_of start m) space number _ ms ∙ ap (λ (q : Redoing). runs q.standing (steps (end_of start m) space number ms)) (by_touches (end_of start m) space number (fresh p) m)

-- logs in two parts

pub steps-append : (start mid space number : ℕ) (a b : List (List Record)) → mid ≡ start + length (log_of a) → steps start space number (a ++ b) ≡ steps start space number a ++ steps mid space number b
steps-append start mid space number [] b is = let e : start ≡ mid = omega (arith, is) in ap (λ k. steps k space number b) e
steps-append start mid space number (m ∷ a) b is =
    ap (λ xs. step (end_of start m) space number m ∷ xs) (steps-append (end_of start m) mid space number a b (omega (arith, is, length-append (spelling m) (log_of a))))

pub last-steps : (start space number : ℕ) (a : List (List Record)) → last start (steps start space number a) ≡ start + length (log_of a)
last-steps start space number [] = omega arith
last-steps start space number (m ∷ a) = last-steps (end_of start m) space number a ∙ omega (arith, length-append (spelling m) (log_of a))

-- each mini-transaction is a proper step

longer : (at : ℕ) (piece page : List ℕ) → length page ≤ length (put_at at piece page)
longer at piece page = simp (length-append, length-take, length-drop) (omega arith)

marks : (end : ℕ) (page : List ℕ) → end < 2 ^ 64 → 4096 ≤ length page → (4096 ≤ length (with_lsn end page)) × (lsn_of (with_lsn end page) ≡ end)
marks end page small long =
    let eight : length (big_bytes 8 end) ≡ 8 = length-bytes_high_first 8 end in
    let inner : List ℕ = put_at 16 (big_bytes 8 end) page in
    let same : length inner ≡ length page = length-put_at 16 (big_bytes 8 end) page (omega (arith, eight, long)) in (
      omega (arith, long, longer 16 (big_bytes 8 end) page, longer 4092 (big_bytes 4 end) inner),
      field-put_at_other 16 8 4092 (big_bytes 4 end) inner (inl (omega arith)) (omega (arith, long, same)) ∙ field-put_at_same 16 8 end page (omega (arith, long)) small,
    )

made_is : (number count : ℕ) → IsMade (made number count)
made_is number count = at (nat_lt number count)
  where
    at : (b : Bool) → IsMade (cond b (stands zero_page) past_end)
    at true = refl
    at false = tt

made_low : (number count : ℕ) → NotAbove 0 (made number count)
made_low number count = at (nat_lt number count)
  where
    at : (b : Bool) → NotAbove 0 (cond b (stands zero_page) past_end)
    at true = (omega arith, omega arith)
    at false = tt

edits_proper : (end : ℕ) (f : List ℕ → List ℕ) (b : Bool) (ts : List Touch) → Marks end f → Proper end ts → Proper end (cond b (edits f) passes ∷ ts)
edits_proper end f true ts one rest = (one, rest)
edits_proper end f false ts one rest = rest

reaches_proper : (end : ℕ) (s : Standing) (b : Bool) (ts : List Touch) → IsMade s → Proper end ts → Proper end (cond b (reaches s) passes ∷ ts)
reaches_proper end s true ts one rest = (one, rest)
reaches_proper end s false ts one rest = rest

becomes_proper : (end : ℕ) (s : Standing) (b : Bool) (ts : List Touch) → NotAbove 0 s → Proper end ts → Proper end (cond b (becomes s) passes ∷ ts)
becomes_proper end s true ts one rest = (one, rest)
becomes_proper end s false ts one rest = rest

pub proper : (end space number : ℕ) (rs : List Record) → end < 2 ^ 64 → Proper end (touches end space number rs)
proper end space number [] small = tt
proper end space number (Init s n kind ∷ rs) small =
    edits_proper end (effect end (Init s n kind)) ((s == space) && (n == number)) (touches end space number rs) (λ page long. (omega (arith, length-initialised s n kind end), lsn_of-initialised s n kind end small)) (proper end space number rs small)
proper end space number (Write s n patch ∷ rs) small =
    edits_proper end (effect end (Write s n patch)) ((s == space) && (n == number)) (touches end space number rs) (λ page long. marks end (put_at patch.offset patch.bytes page) small (omega (arith, long, longer patch.offset patch.bytes page))) (proper end space number rs small)
proper end space number (Extend s count ∷ rs) small = reaches_proper end (made number count) (s == space) (touches end space number rs) (made_is number count) (proper end space number rs small)
proper end space number (Create s count ∷ rs) small = becomes_proper end (made number count) (s == space) (touches end space number rs) (made_low number count) (proper end space number rs small)
proper end space number (Drop s ∷ rs) small = becomes_proper end no_space (s == space) (touches end space number rs) tt (proper end space number rs small)

-- The log grows.

pub fits_push : (space number : ℕ) (log : List (List Record)) (m : List Record) → AllFit space number log → Suits space number log m → AllFit space number (log ++ m ∷ [])
fits_push space number log m fits suits =
    let end : ℕ = end_of (ends log) m in
    let at = last-steps first_lsn space number log in
    let one : FitsStep (last first_lsn (steps first_lsn space number log)) (runs no_space (steps first_lsn space number log)) (step end space number m) = record {
      grows = omega (arith, at, spelling_some m);
      sound = subst (λ (v : Standing). Sound v (touches end space number m)) (by_steps first_lsn space number no_space log) suits.sound;
      ordered = suits.ordered;
      proper = proper end space number m suits.small;
    } in
    subst (λ (ss : List Step). Fits first_lsn no_space ss) (sym (steps-append first_lsn (ends log) space number log (m ∷ []) refl)) (fits_join first_lsn no_space (steps first_lsn space number log) (step end space number m ∷ []) fits (one, tt))

-- Two cuts of a log.

pub record Between (front rest before behind : List (List Record)) : Type 0 where
  pub mid : List (List Record)
  pub longer : before ≡ front ++ mid
  pub shorter : rest ≡ mid ++ behind

pub cuts : (front rest before behind : List (List Record)) → front ++ rest ≡ before ++ behind → length (log_of front) ≤ length (log_of before) → Between front rest before behind
cuts [] rest before behind same le = record { mid = before; longer = refl; shorter = same }
cuts (m ∷ front) rest [] behind same le = absurd (omega (arith, le, spelling_some m, length-append (spelling m) (log_of front)))
cuts (m ∷ front) rest (n ∷ before) behind same le =
    let head : m ≡ n = cc in
    let tail : front ++ rest ≡ before ++ behind = cc in
    let long : length (spelling m) ≡ length (spelling n) = ap (λ (x : List Record). length (spelling x)) head in
    let b = cuts front rest before behind tail (omega (arith, le, long, length-append (spelling m) (log_of front), length-append (spelling n) (log_of before))) in
    record { mid = b.mid; longer = (λ i. sym head i ∷ b.longer i); shorter = b.shorter }

-- THE LAW OF REDO. What the page was at a moment of the log that isn't before the redo's start, redone up to the log's end, is what the whole log makes of the page.
pub since_redone : (space number from : ℕ) (s : Standing) (log front rest : List (List Record)) → AllFit space number log → Since space number from s log → log ≡ front ++ rest → ends front ≡ from
    → Lax (redone_from from space number s rest) (redone space number log)
since_redone space number from s log front rest fits since split moment =
    let b = cuts front rest since.before since.behind (sym split ∙ since.split) (omega (arith, moment, since.late)) in
    let begin = steps first_lsn space number front in
    let mid = steps from space number b.mid in
    let behind = steps (ends since.before) space number since.behind in
    let v : Standing = runs no_space begin in
    let joint : ends since.before ≡ from + length (log_of b.mid) = omega (arith, moment, ap (λ (x : List (List Record)). length (log_of x)) b.longer, ap length (log_of-append front b.mid), length-append (log_of front) (log_of b.mid)) in
    let cut : steps from space number rest ≡ mid ++ behind = ap (λ (x : List (List Record)). steps from space number x) b.shorter ∙ steps-append from (ends since.before) space number b.mid since.behind joint in
    let whole : steps first_lsn space number log ≡ begin ++ (mid ++ behind) =
    ap (λ (x : List (List Record)). steps first_lsn space number x) split ∙ steps-append first_lsn from space number front rest (sym moment) ∙ ap (λ (x : List Step). begin ++ x) cut in
    let all : Fits first_lsn no_space (begin ++ (mid ++ behind)) = subst (λ (x : List Step). Fits first_lsn no_space x) whole fits in
    let was : Lax s (runs v mid) = subst (λ (x : Standing). Lax s x)
    (by_steps first_lsn space number no_space since.before
    ∙ ap (λ (x : List (List Record)). runs no_space (steps first_lsn space number x)) b.longer
    ∙ ap (λ (x : List Step). runs no_space x) (steps-append first_lsn from space number front b.mid (sym moment))
    ∙ runs-append no_space begin mid) since.was in
    let done = caught_up (last first_lsn begin) s v mid behind (not_above first_lsn no_space begin tt (fits_front first_lsn no_space begin (mid ++ behind) all)) (fits_rest first_lsn no_space begin (mid ++ behind) all) was in
    let left : redone_from from space number s rest ≡ runs s (mid ++ behind) = by_steps from space number s rest ∙ ap (λ (x : List Step). runs s x) cut in
    let right : redone space number log ≡ runs v (mid ++ behind) = by_steps first_lsn space number no_space log ∙ ap (λ (x : List Step). runs no_space x) whole ∙ runs-append no_space begin (mid ++ behind) in
    subst (λ (x : Standing). Lax x (redone space number log)) (sym left) (subst (λ (x : Standing). Lax (runs s (mid ++ behind)) x) (sym right) done)

-- A page that is at least as new stays.
pub newer_stays : (space number start : ℕ) (page : List ℕ) (m : List Record) → end_of start m ≤ lsn_of page → resets (touches (end_of start m) space number m) ≡ false → redone_from start space number (stands page) (m ∷ []) ≡ stands page
newer_stays space number start page m late no_reset = by_steps start space number (stands page) (m ∷ []) ∙ newer (end_of start m) page (touches (end_of start m) space number m) no_reset (λ some. late)

-- A log in two parts.
pub in_parts : (space number : ℕ) (front rest : List (List Record)) → redone space number (front ++ rest) ≡ redone_from (ends front) space number (redone space number front) rest
in_parts space number front rest =
    let ss = steps (ends front) space number rest in
    by_steps first_lsn space number no_space (front ++ rest)
    ∙ ap (λ (x : List Step). runs no_space x) (steps-append first_lsn (ends front) space number front rest refl)
    ∙ runs-append no_space (steps first_lsn space number front) ss
    ∙ ap (λ (v : Standing). runs v ss) (sym (by_steps first_lsn space number no_space front))
    ∙ sym (by_steps (ends front) space number (redone space number front) rest)

-- Redo again changes nothing.
pub again : (space number : ℕ) (front rest : List (List Record)) → AllFit space number (front ++ rest) → redone_from (ends front) space number (redone space number (front ++ rest)) rest ≡ redone space number (front ++ rest)
again space number front rest fits =
    let begin = steps first_lsn space number front in
    let ss = steps (ends front) space number rest in
    let v : Standing = runs no_space begin in
    let all : Fits first_lsn no_space (begin ++ ss) = subst (λ (x : List Step). Fits first_lsn no_space x) (steps-append first_lsn (ends front) space number front rest refl) fits in
    let whole : redone space number (front ++ rest) ≡ runs v ss =
    by_steps first_lsn space number no_space (front ++ rest) ∙ ap (λ (x : List Step). runs no_space x) (steps-append first_lsn (ends front) space number front rest refl) ∙ runs-append no_space begin ss in
    by_steps (ends front) space number (redone space number (front ++ rest)) rest
    ∙ ap (λ (x : Standing). runs x ss) whole
    ∙ redone_again (last first_lsn begin) v ss (not_above first_lsn no_space begin tt (fits_front first_lsn no_space begin ss all)) (fits_rest first_lsn no_space begin ss all)
    ∙ sym whole
