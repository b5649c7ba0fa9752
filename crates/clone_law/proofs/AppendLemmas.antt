-- What the engine shows of a mini-transaction that it appends.
use Rattle.std.proofs.Common.{◌≡◌, ◌<◌, ◌==◌, ◌+◌, ◌++◌, ◌^◌, ℕ, Bool, true, false, cond, List, [], ◌∷◌, length, refl, sym, ap, subst, ◌∙◌, arith, Some, None}
use Rattle.std.proofs.lemmas.Bool.{lt-ltb, eq-eqb, true≢false}
use Rattle.clone_page.specs.Header.{lsn_of}
use Rattle.clone_mtr.specs.Spelling.{spelling}
use Rattle.clone_mtr.specs.declared.record.Record.{Record}
use Rattle.clone_mtr.specs.declared.record.Record.TheVariants.{Extend, Create, Drop}
use Rattle.clone_mtr.proofs.Spellings.{spelling_some}
use Rattle.clone_image.specs.Replay.{first_lsn, end_of}
use Rattle.clone_image.specs.Redone.{Standing, no_space, past_end, stands, made, stretched, redone}
use Rattle.clone_law.specs.Touches.{Touch, passes, edits, becomes, reaches, Step, touches, step, steps, reached, all_touched, fresh, after, runs, resets, names, passes_by, Sound, Ordered, NotAbove, Proper, applied}
use Rattle.clone_law.specs.Since.{ends, Suits, AllFit}
use Rattle.clone_law.proofs.TouchLemmas.{sooner, reached_low}
use Rattle.clone_law.proofs.StepLemmas.{runs-append, not_above}
use Rattle.clone_law.proofs.RedoLemmas.{in_parts, by_steps, steps-append, last-steps, proper}

-- once a record counted, the others do
on : (end : ℕ) (b : List ℕ) (ts : List Touch) → resets ts ≡ false → (all_touched end (record { standing = stands b; counts = Some true }) ts).standing ≡ applied (stands b) ts
on end b [] no_reset = refl
on end b (passes ∷ ts) no_reset = on end b ts no_reset
on end b (edits f ∷ ts) no_reset = on end (f b) ts no_reset
on end b (becomes s ∷ ts) no_reset = absurd (true≢false no_reset)
on end b (reaches s ∷ ts) no_reset = on end b ts no_reset

all_count : (start end : ℕ) (v : Standing) (ts : List Touch) → start < end → NotAbove start v → Sound v ts → Ordered ts → Proper end ts → (all_touched end (fresh v) ts).standing ≡ applied v ts
all_count start end v [] grows low sound ordered proper = refl
all_count start end v (passes ∷ ts) grows low sound ordered proper = all_count start end v ts grows low sound ordered proper
all_count start end no_space (edits f ∷ ts) grows low sound ordered proper = absurd sound
all_count start end past_end (edits f ∷ ts) grows low sound ordered proper = absurd sound
all_count start end (stands b) (edits f ∷ ts) grows low sound ordered proper =
    subst (λ (t : Bool). (all_touched end (record { standing = stands (cond t (f b) b); counts = Some t }) ts).standing ≡ applied (stands (f b)) ts) (sym (lt-ltb (lsn_of b) end (omega arith))) (on end (f b) ts ordered)
all_count start end v (becomes s ∷ ts) grows low sound ordered proper = all_count start end s ts grows (sooner 0 start s (omega arith) proper.0) sound ordered proper.1
all_count start end v (reaches s ∷ ts) grows low sound ordered proper = all_count start end (reached s v) ts grows (reached_low start s v proper.0 low) sound ordered proper.1

-- The log's new end: each record of the mini-transaction counts.
pub appended : (space number : ℕ) (log : List (List Record)) (m : List Record) → AllFit space number log → Suits space number log m
    → redone space number (log ++ m ∷ []) ≡ applied (redone space number log) (touches (end_of (ends log) m) space number m)
appended space number log m fits suits =
    let end : ℕ = end_of (ends log) m in
    let ss = steps first_lsn space number log in
    let is = by_steps first_lsn space number no_space log in
    let low : NotAbove (ends log) (redone space number log) = subst (λ (v : Standing). NotAbove (ends log) v) (sym is) (subst (λ (k : ℕ). NotAbove k (runs no_space ss)) (last-steps first_lsn space number log) (not_above first_lsn no_space ss tt fits)) in
    by_steps first_lsn space number no_space (log ++ m ∷ [])
    ∙ ap (λ (x : List Step). runs no_space x) (steps-append first_lsn (ends log) space number log (m ∷ []) refl)
    ∙ runs-append no_space ss (step end space number m ∷ [])
    ∙ ap (λ (v : Standing). after (step end space number m) v) (sym is)
    ∙ all_count (ends log) end (redone space number log) (touches end space number m) (omega (arith, spelling_some m)) low suits.sound suits.ordered (proper end space number m suits.small)

-- A mini-transaction that doesn't make or drop the space fits where the page stands or isn't named.

stands_sound : (b : List ℕ) (ts : List Touch) → resets ts ≡ false → Sound (stands b) ts × Ordered ts
stands_sound b [] no_reset = (tt, tt)
stands_sound b (passes ∷ ts) no_reset = stands_sound b ts no_reset
stands_sound b (edits f ∷ ts) no_reset = ((stands_sound b ts no_reset).0, no_reset)
stands_sound b (becomes s ∷ ts) no_reset = absurd (true≢false no_reset)
stands_sound b (reaches s ∷ ts) no_reset = stands_sound b ts no_reset

pub suits_there : (space number : ℕ) (log : List (List Record)) (m : List Record) (b : List ℕ) → ends log + length (spelling m) < 2 ^ 64 → redone space number log ≡ stands b → resets (touches (end_of (ends log) m) space number m) ≡ false → Suits space number log m
suits_there space number log m b small is no_reset =
    let both = stands_sound b (touches (end_of (ends log) m) space number m) no_reset in
    record { small = small; sound = subst (λ (v : Standing). Sound v (touches (end_of (ends log) m) space number m)) (sym is) both.0; ordered = both.1 }

unnamed_sound : (v : Standing) (ts : List Touch) → names ts ≡ false → Sound v ts × Ordered ts
unnamed_sound v [] unnamed = (tt, tt)
unnamed_sound v (passes ∷ ts) unnamed = unnamed_sound v ts unnamed
unnamed_sound v (edits f ∷ ts) unnamed = absurd (true≢false unnamed)
unnamed_sound v (becomes s ∷ ts) unnamed = unnamed_sound s ts unnamed
unnamed_sound v (reaches s ∷ ts) unnamed = unnamed_sound (reached s v) ts unnamed

pub suits_unnamed : (space number : ℕ) (log : List (List Record)) (m : List Record) → ends log + length (spelling m) < 2 ^ 64 → names (touches (end_of (ends log) m) space number m) ≡ false → Suits space number log m
suits_unnamed space number log m small unnamed =
    let both = unnamed_sound (redone space number log) (touches (end_of (ends log) m) space number m) unnamed in
    record { small = small; sound = both.0; ordered = both.1 }

-- A mini-transaction that leaves the page, or is one record of its space.

passed_by : (end : ℕ) (v : Standing) (ts : List Touch) → passes_by ts ≡ true → (all_touched end (fresh v) ts).standing ≡ v
passed_by end v [] by = refl
passed_by end v (passes ∷ ts) by = passed_by end v ts by
passed_by end v (edits f ∷ ts) by = absurd (true≢false (sym by))
passed_by end v (becomes s ∷ ts) by = absurd (true≢false (sym by))
passed_by end v (reaches s ∷ ts) by = absurd (true≢false (sym by))

pub others_pass : (space number : ℕ) (log : List (List Record)) (m : List Record) → passes_by (touches (end_of (ends log) m) space number m) ≡ true → redone space number (log ++ m ∷ []) ≡ redone space number log
others_pass space number log m by =
    in_parts space number log (m ∷ []) ∙ by_steps (ends log) space number (redone space number log) (m ∷ []) ∙ passed_by (end_of (ends log) m) (redone space number log) (touches (end_of (ends log) m) space number m) by

own : (space : ℕ) → (space == space) ≡ true
own space = eq-eqb space space refl

pub space_made : (space number count : ℕ) (log : List (List Record)) → redone space number (log ++ (Create space count ∷ []) ∷ []) ≡ made number count
space_made space number count log = in_parts space number log ((Create space count ∷ []) ∷ []) ∙ ap (λ (b : Bool). (cond b (record { standing = made number count; counts = None }) (fresh (redone space number log))).standing) (own space)

pub space_longer : (space number count : ℕ) (log : List (List Record)) → redone space number (log ++ (Extend space count ∷ []) ∷ []) ≡ stretched number count (redone space number log)
space_longer space number count log =
    in_parts space number log ((Extend space count ∷ []) ∷ [])
    ∙ ap (λ (b : Bool). (cond b (record { standing = stretched number count (redone space number log); counts = None }) (fresh (redone space number log))).standing) (own space)

pub space_dropped : (space number : ℕ) (log : List (List Record)) → redone space number (log ++ (Drop space ∷ []) ∷ []) ≡ no_space
space_dropped space number log = in_parts space number log ((Drop space ∷ []) ∷ []) ∙ ap (λ (b : Bool). (cond b (record { standing = no_space; counts = None }) (fresh (redone space number log))).standing) (own space)
