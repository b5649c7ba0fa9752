-- A log and one page.
use Rattle.std.proofs.Common.{◌≡◌, ◌≤◌, ◌++◌, ◌||◌, ℕ, Bool, true, false, List, [], ◌∷◌, refl, sym, ap, subst, ◌∙◌, arith, inl, inr}
use Rattle.std.proofs.lemmas.Bool.{false≢true, cases_Bool, or_cases, or_parts}
use Rattle.clone_page.specs.Header.{lsn_of}
use Rattle.clone_image.specs.Redone.{Standing, no_space, past_end, stands, Redoing}
use Rattle.clone_law.specs.Touches.{Step, after, runs, resets, names, NotAbove, FitsStep, Fits, Lax}
use Rattle.clone_law.proofs.TouchLemmas.{newer, levelled, IsMarked, taken, Gone, IsNothing, nothing_before, Lax-same, lax_touched}

pub runs-append : (v : Standing) (a b : List Step) → runs v (a ++ b) ≡ runs (runs v a) b
runs-append v [] b = refl
runs-append v (s ∷ a) b = runs-append (after s v) a b

-- the end of the last step
abbrev pub last : ℕ → List Step → ℕ
last start [] = start
last start (s ∷ ss) = last s.end ss

pub last-append : (start : ℕ) (a b : List Step) → last start (a ++ b) ≡ last (last start a) b
last-append start [] b = refl
last-append start (s ∷ a) b = last-append s.end a b

pub fits_front : (start : ℕ) (v : Standing) (a b : List Step) → Fits start v (a ++ b) → Fits start v a
fits_front start v [] b fits = tt
fits_front start v (s ∷ a) b fits = (fits.0, fits_front s.end (after s v) a b fits.1)

pub fits_rest : (start : ℕ) (v : Standing) (a b : List Step) → Fits start v (a ++ b) → Fits (last start a) (runs v a) b
fits_rest start v [] b fits = fits
fits_rest start v (s ∷ a) b fits = fits_rest s.end (after s v) a b fits.1

pub fits_join : (start : ℕ) (v : Standing) (a b : List Step) → Fits start v a → Fits (last start a) (runs v a) b → Fits start v (a ++ b)
fits_join start v [] b front rest = rest
fits_join start v (s ∷ a) b front rest = (front.0, fits_join s.end (after s v) a b front.1 rest)

abbrev pub any_resets : List Step → Bool
any_resets [] = false
any_resets (s ∷ ss) = resets s.touches || any_resets ss

step_taken : (start : ℕ) (v : Standing) (s : Step) → NotAbove start v → FitsStep start v s → Gone s.end s.touches (after s v)
step_taken start v s low fits = taken start s.end v s.touches fits.grows low fits.sound fits.ordered fits.proper

pub not_above : (start : ℕ) (v : Standing) (ss : List Step) → NotAbove start v → Fits start v ss → NotAbove (last start ss) (runs v ss)
not_above start v [] low fits = low
not_above start v (s ∷ ss) low fits = not_above s.end (after s v) ss (step_taken start v s low fits.0).low fits.1

-- Once the space is made or dropped, what the page was doesn't matter.
pub level : (start : ℕ) (v0 : Standing) (u v : Standing) (ss : List Step) → any_resets ss ≡ true → Fits start v0 ss → runs u ss ≡ runs v ss
level start v0 u v [] some fits = absurd (false≢true some)
level start v0 u v (s ∷ ss) some fits =
    elim (or_cases (resets s.touches) (any_resets ss) some) [
      | inl here ↦ ap (λ (p : Redoing). runs p.standing ss) (levelled s.end u v s.touches here fits.0.ordered)
      | inr later ↦ level s.end (after s v0) (after s u) (after s v) ss later fits.1
    ]

-- it stands, and its LSN is at least this
abbrev pub IsFrom : ℕ → Standing → Type 0
IsFrom n no_space = ⊥
IsFrom n past_end = ⊥
IsFrom n (stands page) = n ≤ lsn_of page

from_marked : (n end : ℕ) (w : Standing) → n ≤ end → IsMarked end w → IsFrom n w
from_marked n end no_space le is = is
from_marked n end past_end le is = is
from_marked n end (stands page) le is = omega (arith, is.1)

step_from : (n start : ℕ) (v : Standing) (s : Step) → resets s.touches ≡ false → NotAbove start v → FitsStep start v s → IsFrom n v → IsFrom n (after s v)
step_from n start no_space s no_reset low fits is = absurd is
step_from n start past_end s no_reset low fits is = absurd is
step_from n start (stands b) s no_reset low fits is =
    elim (cases_Bool (names s.touches)) [
      | inl some ↦ from_marked n s.end (after s (stands b)) (omega (arith, fits.grows, low.1, is)) ((step_taken start (stands b) s low fits).named no_reset some)
      | inr none ↦ subst (λ (w : Standing). IsFrom n w) (sym (newer s.end b s.touches no_reset (λ some. absurd (false≢true (sym none ∙ some))))) is
    ]

from_on : (n start : ℕ) (v : Standing) (ss : List Step) → any_resets ss ≡ false → NotAbove start v → Fits start v ss → IsFrom n v → IsFrom n (runs v ss)
from_on n start v [] no_reset low fits is = is
from_on n start v (s ∷ ss) no_reset low fits is =
    let no = or_parts (resets s.touches) (any_resets ss) no_reset in
    from_on n s.end (after s v) ss no.1 (step_taken start v s low fits.0).low fits.1 (step_from n start v s no.0 low fits.0 is)

-- a page that isn't there at the end wasn't before
pub nothing_ever : (start : ℕ) (v : Standing) (ss : List Step) → any_resets ss ≡ false → Fits start v ss → IsNothing (runs v ss) → runs v ss ≡ v
nothing_ever start v [] no_reset fits none = refl
nothing_ever start v (s ∷ ss) no_reset fits none =
    let no = or_parts (resets s.touches) (any_resets ss) no_reset in
    let rest = nothing_ever s.end (after s v) ss no.1 fits.1 none in
    rest ∙ nothing_before s.end v _ s.touches no.0 fits.0.proper (subst (λ (w : Standing). IsNothing w) rest none)

-- A page as it was at the end of a log is the same after the log is redone on it.

plain : (start : ℕ) (v : Standing) (ss : List Step) (w : Standing) → any_resets ss ≡ false → NotAbove start v → Fits start v ss → w ≡ runs v ss → runs w ss ≡ w
plain start v [] w no_reset low fits is = refl
plain start v (s ∷ ss) no_space no_reset low fits is =
    let same = nothing_ever start v (s ∷ ss) no_reset fits (subst (λ (x : Standing). IsNothing x) is tt) in
    ap (λ (x : Standing). runs x (s ∷ ss)) (is ∙ same) ∙ sym is
plain start v (s ∷ ss) past_end no_reset low fits is =
    let same = nothing_ever start v (s ∷ ss) no_reset fits (subst (λ (x : Standing). IsNothing x) is tt) in
    ap (λ (x : Standing). runs x (s ∷ ss)) (is ∙ same) ∙ sym is
plain start v (s ∷ ss) (stands b) no_reset low fits is =
    let no = or_parts (resets s.touches) (any_resets ss) no_reset in
    let gone = step_taken start v s low fits.0 in
    let late : names s.touches ≡ true → s.end ≤ lsn_of b =
    λ some. subst (λ (x : Standing). IsFrom s.end x) (sym is) (from_on s.end s.end (after s v) ss no.1 gone.low fits.1 (from_marked s.end s.end (after s v) (omega arith) (gone.named no.0 some))) in
    ap (λ (x : Standing). runs x ss) (newer s.end b s.touches no.0 late) ∙ plain s.end (after s v) ss (stands b) no.1 gone.low fits.1 is

pub redone_again : (start : ℕ) (v : Standing) (ss : List Step) → NotAbove start v → Fits start v ss → runs (runs v ss) ss ≡ runs v ss
redone_again start v ss low fits =
    elim (cases_Bool (any_resets ss)) [
      | inl some ↦ level start v (runs v ss) v ss some fits
      | inr none ↦ plain start v ss (runs v ss) none low fits refl
    ]

-- nothing or a zero page where there is nothing
pub lax_runs : (start : ℕ) (u v : Standing) (ss : List Step) → Lax u v → Fits start v ss → Lax (runs u ss) (runs v ss)
lax_runs start u v [] lax fits = lax
lax_runs start u v (s ∷ ss) lax fits = lax_runs s.end (after s u) (after s v) ss (lax_touched s.end u v _ s.touches lax fits.0.sound fits.0.proper) fits.1

lax_again : (start : ℕ) (u v : Standing) (ss : List Step) → NotAbove start v → Fits start v ss → Lax u (runs v ss) → Lax (runs u ss) (runs v ss)
lax_again start u v ss low fits lax =
    elim (cases_Bool (any_resets ss)) [
      | inl some ↦ Lax-same (runs u ss) (runs v ss) (level start v u v ss some fits)
      | inr none ↦ calm none (runs v ss) refl
    ]
  where
    calm : any_resets ss ≡ false → (w : Standing) → w ≡ runs v ss → Lax (runs u ss) (runs v ss)
    calm none no_space is =
        let same = nothing_ever start v ss none fits (subst (λ (x : Standing). IsNothing x) is tt) in
        lax_runs start u v ss (subst (λ (x : Standing). Lax u x) same lax) fits
    calm none past_end is =
        let same = nothing_ever start v ss none fits (subst (λ (x : Standing). IsNothing x) is tt) in
        lax_runs start u v ss (subst (λ (x : Standing). Lax u x) same lax) fits
    calm none (stands b) is =
        let stood : u ≡ stands b = subst (λ (x : Standing). Lax u x) (sym is) lax in
        Lax-same (runs u ss) (runs v ss) (ap (λ (x : Standing). runs x ss) (stood ∙ is) ∙ redone_again start v ss low fits)

-- A page that was so at some moment, redone by a log that begins before that moment and goes on behind it, is what the log made of the page.
pub caught_up : (start : ℕ) (u v : Standing) (mid rest : List Step) → NotAbove start v → Fits start v (mid ++ rest) → Lax u (runs v mid) → Lax (runs u (mid ++ rest)) (runs v (mid ++ rest))
caught_up start u v mid rest low fits lax =
    let whole = lax_runs (last start mid) (runs u mid) (runs v mid) rest (lax_again start u v mid low (fits_front start v mid rest fits) lax) (fits_rest start v mid rest fits) in
    subst (λ (x : Standing). Lax x (runs v (mid ++ rest))) (sym (runs-append u mid rest)) (subst (λ (x : Standing). Lax (runs (runs u mid) rest) x) (sym (runs-append v mid rest)) whole)
