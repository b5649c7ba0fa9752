-- What mini-transactions do to one page: the records are seen from the page alone.
use Rattle.std.specs.Prelude.{ℕ, ◌≡◌, ◌<◌, ◌≤◌, ◌==◌, ◌&&◌, Bool, true, false, List, [], ◌∷◌, length, if◌then◌else◌, None, Some}
use Rattle.std.specs.declared.option.Option.{Option}
use Rattle.clone_base.specs.declared.limits.TheConstants.{PAGE_SIZE}
use Rattle.clone_page.specs.Header.{zero_page, lsn_of}
use Rattle.clone_mtr.specs.Effects.{effect}
use Rattle.clone_mtr.specs.declared.record.Record.{Record}
use Rattle.clone_mtr.specs.declared.record.Record.TheVariants.{Init, Write, Extend, Create, Drop}
use Rattle.clone_image.specs.Replay.{end_of}
use Rattle.clone_image.specs.Redone.{Standing, no_space, past_end, stands, Redoing, settled, made}

-- what a record is to a page: nothing, an edit, a new standing, or, for a page past the end, a new
-- standing
pub data Touch : Type 0 where
  passes : Touch
  edits : (List ℕ → List ℕ) → Touch
  becomes : Standing → Touch
  reaches : Standing → Touch

-- a mini-transaction, as a page sees it
pub record Step : Type 0 where
  pub end : ℕ
  pub touches : List Touch

abbrev pub touch : ℕ → ℕ → ℕ → Record → Touch
touch end space number (Init s n kind) =
    if (s == space) && (n == number) then edits (effect end (Init s n kind)) else passes
touch end space number (Write s n patch) =
    if (s == space) && (n == number) then edits (effect end (Write s n patch)) else passes
touch end space number (Extend s count) = if s == space then reaches (made number count) else passes
touch end space number (Create s count) = if s == space then becomes (made number count) else passes
touch end space number (Drop s) = if s == space then becomes no_space else passes

abbrev pub touches : ℕ → ℕ → ℕ → List Record → List Touch
touches end space number [] = []
touches end space number (r ∷ rs) = touch end space number r ∷ touches end space number rs

abbrev pub step : ℕ → ℕ → ℕ → List Record → Step
step end space number m = record { end = end; touches = touches end space number m }

abbrev pub steps : ℕ → ℕ → ℕ → List (List Record) → List Step
steps start space number [] = []
steps start space number (m ∷ ms) =
    step (end_of start m) space number m ∷ steps (end_of start m) space number ms

-- an edit counts where the page is older than the mini-transaction
abbrev pub edited_on : ℕ → (List ℕ → List ℕ) → Option Bool → Standing → Redoing
edited_on end f counts no_space = record { standing = no_space; counts = counts }
edited_on end f counts past_end = record { standing = past_end; counts = counts }
edited_on end f counts (stands page) =
    record {
      standing = stands (if settled end counts page then f page else page);
      counts = Some (settled end counts page);
    }

abbrev pub reached : Standing → Standing → Standing
reached s no_space = no_space
reached s past_end = s
reached s (stands page) = stands page

abbrev pub touched : ℕ → Touch → Redoing → Redoing
touched end passes p = p
touched end (edits f) p = edited_on end f p.counts p.standing
touched end (becomes s) p = record { standing = s; counts = p.counts }
touched end (reaches s) p = record { standing = reached s p.standing; counts = p.counts }

abbrev pub all_touched : ℕ → Redoing → List Touch → Redoing
all_touched end p [] = p
all_touched end p (t ∷ ts) = all_touched end (touched end t p) ts

abbrev pub fresh : Standing → Redoing
fresh v = record { standing = v; counts = None }

abbrev pub after : Step → Standing → Standing
after s v = (all_touched s.end (fresh v) s.touches).standing

abbrev pub runs : Standing → List Step → Standing
runs v [] = v
runs v (s ∷ ss) = runs (after s v) ss

-- the space is made or dropped
abbrev pub resets : List Touch → Bool
resets [] = false
resets (passes ∷ ts) = resets ts
resets (edits f ∷ ts) = resets ts
resets (becomes s ∷ ts) = true
resets (reaches s ∷ ts) = resets ts

-- a record names the page
abbrev pub names : List Touch → Bool
names [] = false
names (passes ∷ ts) = names ts
names (edits f ∷ ts) = true
names (becomes s ∷ ts) = names ts
names (reaches s ∷ ts) = names ts

-- each record leaves the page, and its space
abbrev pub passes_by : List Touch → Bool
passes_by [] = true
passes_by (passes ∷ ts) = passes_by ts
passes_by (edits f ∷ ts) = false
passes_by (becomes s ∷ ts) = false
passes_by (reaches s ∷ ts) = false

-- Each record that names the page meets it standing.
abbrev pub Sound : Standing → List Touch → Type 0
Sound v [] = Unit {0}
Sound v (passes ∷ ts) = Sound v ts
Sound no_space (edits f ∷ ts) = ⊥
Sound past_end (edits f ∷ ts) = ⊥
Sound (stands page) (edits f ∷ ts) = Sound (stands page) ts
Sound v (becomes s ∷ ts) = Sound s ts
Sound v (reaches s ∷ ts) = Sound (reached s v) ts

-- The space isn't made or dropped behind a record that names the page.
abbrev pub Ordered : List Touch → Type 0
Ordered [] = Unit {0}
Ordered (passes ∷ ts) = Ordered ts
Ordered (edits f ∷ ts) = resets ts ≡ false
Ordered (becomes s ∷ ts) = Ordered ts
Ordered (reaches s ∷ ts) = Ordered ts

-- a page has its header, and its LSN is at most this
abbrev pub NotAbove : ℕ → Standing → Type 0
NotAbove bound no_space = Unit {0}
NotAbove bound past_end = Unit {0}
NotAbove bound (stands page) = (PAGE_SIZE ≤ length page) × (lsn_of page ≤ bound)

-- an edit leaves the mini-transaction's end on the page
abbrev pub Marks : ℕ → (List ℕ → List ℕ) → Type 0
Marks end f =
    (page : List ℕ) → PAGE_SIZE ≤ length page
    → (PAGE_SIZE ≤ length (f page)) × (lsn_of (f page) ≡ end)

abbrev pub IsMade : Standing → Type 0
IsMade no_space = ⊥
IsMade past_end = Unit {0}
IsMade (stands page) = page ≡ zero_page

abbrev pub Proper : ℕ → List Touch → Type 0
Proper end [] = Unit {0}
Proper end (passes ∷ ts) = Proper end ts
Proper end (edits f ∷ ts) = Marks end f × Proper end ts
Proper end (becomes s ∷ ts) = NotAbove 0 s × Proper end ts
Proper end (reaches s ∷ ts) = IsMade s × Proper end ts

pub record FitsStep (start : ℕ) (v : Standing) (s : Step) : Type 0 where
  pub grows : start < s.end
  pub sound : Sound v s.touches
  pub ordered : Ordered s.touches
  pub proper : Proper s.end s.touches

abbrev pub Fits : ℕ → Standing → List Step → Type 0
Fits start v [] = Unit {0}
Fits start v (s ∷ ss) = FitsStep start v s × Fits s.end (after s v) ss

-- The one is the other, or it is nothing or a zero page where the other is nothing. Where the space
-- is there, nothing is 'past its end'.
abbrev pub Lax : Standing → Standing → Type 0
Lax no_space no_space = Unit {0}
Lax past_end no_space = Unit {0}
Lax (stands page) no_space = page ≡ zero_page
Lax no_space past_end = ⊥
Lax past_end past_end = Unit {0}
Lax (stands page) past_end = page ≡ zero_page
Lax u (stands page) = u ≡ stands page

-- the touches on a page that is older than the mini-transaction: all of them count
abbrev pub applied : Standing → List Touch → Standing
applied v [] = v
applied v (passes ∷ ts) = applied v ts
applied no_space (edits f ∷ ts) = applied no_space ts
applied past_end (edits f ∷ ts) = applied past_end ts
applied (stands page) (edits f ∷ ts) = applied (stands (f page)) ts
applied v (becomes s ∷ ts) = applied s ts
applied v (reaches s ∷ ts) = applied (reached s v) ts
