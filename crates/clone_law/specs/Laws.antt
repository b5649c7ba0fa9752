-- The laws of redo and of the machine of one page, as the public functions state them.
use Rattle.std.specs.Prelude.{ℕ, ◌≡◌, ◌<◌, ◌≤◌, ◌+◌, ◌^◌, ◌++◌, ◌∷◌, [], List, length, true, false, None, Some}
use Rattle.std.specs.List.{AllByRecursion}
use Rattle.clone_model.specs.History.{Rows}
use Rattle.clone_page.specs.Header.{lsn_of}
use Rattle.clone_mtr.specs.Spelling.{spelling}
use Rattle.clone_mtr.specs.declared.record.Record.{Record}
use Rattle.clone_mtr.specs.declared.record.Record.TheVariants.{Extend, Create, Drop}
use Rattle.clone_image.specs.Image.{Image, page_of}
use Rattle.clone_image.specs.Recovered.{recovered}
use Rattle.clone_image.specs.Redone.{Standing, no_space, stands, made, stretched, redone, redone_from, standing_of}
use Rattle.clone_image.specs.Replay.{end_of, replayed}
use Rattle.clone_image.specs.Rows.{HasRows}
use Rattle.clone_law.specs.Alike.{CanTakeBack}
use Rattle.clone_law.specs.Machine.{PageEngine, PageWorld, Event, Stopped, nothing, happens, Allowed, Runs}
use Rattle.clone_law.specs.Rule.{EngineRule, Rule}
use Rattle.clone_law.specs.Since.{ends, Since, IsAt, Suits, AllFit}
use Rattle.clone_law.specs.Starts.{Gives, IsStart, HasStart, HasCopied, InCalm, InSession}
use Rattle.clone_law.specs.Touches.{Lax, touches, resets, names, passes_by, applied}

-- Redo by page LSN.

-- a page that is at least as new as a mini-transaction that doesn't make or drop its space stays
abbrev pub NewerStays : Type 0
NewerStays =
    (space number start : ℕ) (page : List ℕ) (m : List Record) → end_of start m ≤ lsn_of page
    → resets (touches (end_of start m) space number m) ≡ false
    → redone_from start space number (stands page) (m ∷ []) ≡ stands page

-- a log may be redone in two parts, where a mini-transaction ends
abbrev pub RedoneInParts : Type 0
RedoneInParts =
    (space number : ℕ) (front rest : List (List Record))
    → redone space number (front ++ rest)
    ≡ redone_from (ends front) space number (redone space number front) rest

-- redo of a page by mini-transactions that the page has already changes nothing
abbrev pub RedoneAgain : Type 0
RedoneAgain =
    (space number : ℕ) (front rest : List (List Record)) → AllFit space number (front ++ rest)
    → redone_from (ends front) space number (redone space number (front ++ rest)) rest
    ≡ redone space number (front ++ rest)

-- what the page was at a moment that isn't before the redo's start becomes what it is at the log's
-- end
abbrev pub RedoneSince : Type 0
RedoneSince =
    (space number from : ℕ) (s : Standing) (log front rest : List (List Record))
    → AllFit space number log → Since space number from s log
    → log ≡ front ++ rest → ends front ≡ from
    → Lax (redone_from from space number s rest) (redone space number log)

-- A log that grows.

-- a moment of a log is one of each longer log
abbrev pub SinceLonger : Type 0
SinceLonger =
    (space number from : ℕ) (s : Standing) (log : List (List Record)) (m : List Record)
    → Since space number from s log → Since space number from s (log ++ m ∷ [])

-- where the page was nothing, a file that is too short or one that was lengthened by zero pages
-- serves as well
abbrev pub SinceLengthened : Type 0
SinceLengthened =
    (space number from : ℕ) (u s : Standing) (log : List (List Record)) → Lax u s
    → Since space number from s log → Since space number from u log

abbrev pub FitsLonger : Type 0
FitsLonger =
    (space number : ℕ) (log : List (List Record)) (m : List Record) → AllFit space number log
    → Suits space number log m → AllFit space number (log ++ m ∷ [])

-- all records of the mini-transaction that is appended count, also where several of them name the
-- page
abbrev pub AllCount : Type 0
AllCount =
    (space number : ℕ) (log : List (List Record)) (m : List Record) → AllFit space number log
    → Suits space number log m
    → redone space number (log ++ m ∷ [])
    ≡ applied (redone space number log) (touches (end_of (ends log) m) space number m)

-- a mini-transaction that names neither the page nor its space leaves the page
abbrev pub OthersPass : Type 0
OthersPass =
    (space number : ℕ) (log : List (List Record)) (m : List Record)
    → passes_by (touches (end_of (ends log) m) space number m) ≡ true
    → redone space number (log ++ m ∷ []) ≡ redone space number log

-- the space of the page is made, gets longer, or is dropped
abbrev pub SpaceMade : Type 0
SpaceMade =
    (space number count : ℕ) (log : List (List Record))
    → redone space number (log ++ (Create space count ∷ []) ∷ []) ≡ made number count

abbrev pub SpaceLonger : Type 0
SpaceLonger =
    (space number count : ℕ) (log : List (List Record))
    → redone space number (log ++ (Extend space count ∷ []) ∷ [])
    ≡ stretched number count (redone space number log)

abbrev pub SpaceDropped : Type 0
SpaceDropped =
    (space number : ℕ) (log : List (List Record))
    → redone space number (log ++ (Drop space ∷ []) ∷ []) ≡ no_space

-- What suits: no record makes or drops the space, and the page stands; or no record names the page.

abbrev pub SuitsThere : Type 0
SuitsThere =
    (space number : ℕ) (log : List (List Record)) (m : List Record) (page : List ℕ)
    → ends log + length (spelling m) < 2 ^ 64 → redone space number log ≡ stands page
    → resets (touches (end_of (ends log) m) space number m) ≡ false → Suits space number log m

abbrev pub SuitsUnnamed : Type 0
SuitsUnnamed =
    (space number : ℕ) (log : List (List Record)) (m : List Record)
    → ends log + length (spelling m) < 2 ^ 64
    → names (touches (end_of (ends log) m) space number m) ≡ false → Suits space number log m

-- The machine of a page.

abbrev pub RuleBegins : Type 0
RuleBegins = (space number : ℕ) → Rule space number nothing

abbrev pub RuleKept : Type 0
RuleKept =
    (space number : ℕ) (w : PageWorld) (event : Event) → Rule space number w
    → Allowed space number w event → Rule space number (happens space number w event)

-- a clean frame is the disk's page
abbrev pub CleanIsDisk : Type 0
CleanIsDisk =
    (space number : ℕ) (e : PageEngine) (bytes : List ℕ) → EngineRule space number e → e.writing ≡ false
    → e.frame ≡ Some bytes → e.oldest ≡ None
    → e.disk ≡ stands bytes

-- a dirty frame is what redo from its oldest modification makes of the disk's page
abbrev pub DirtyIsRedone : Type 0
DirtyIsRedone =
    (space number : ℕ) (e : PageEngine) (bytes : List ℕ) (o : ℕ) → EngineRule space number e
    → e.writing ≡ false → e.frame ≡ Some bytes → e.oldest ≡ Some o
    → (front rest : List (List Record)) → e.log ≡ front ++ rest → ends front ≡ o
    → redone_from o space number e.disk rest ≡ stands bytes

-- at the stop, redo by the archived log makes each starting value the page as it is
abbrev pub StartsGive : Type 0
StartsGive =
    (space number : ℕ) (events : List Event) (w : PageWorld) (base : ℕ) (log : List (List Record))
    (starts : List Standing) (u : Standing)
    → Runs space number nothing events w → w.copy ≡ Stopped base log starts → IsStart starts u
    → IsAt base log × Gives space number base log u

-- an answer of FILE COPY stays a start as long as the page isn't tracked, and then as long as the
-- session stands
abbrev pub FilesStay : Type 0
FilesStay =
    (space number : ℕ) (u : Standing) (w v : PageWorld) (es : List Event) → Runs space number w es v
    → AllByRecursion (λ e. InCalm e ≡ true) es
    → HasStart w.copy u → HasStart v.copy u

-- and one that counts in PAGE COPY as long as the session stands
abbrev pub PagesStay : Type 0
PagesStay =
    (space number : ℕ) (u : Standing) (w v : PageWorld) (es : List Event) → Runs space number w es v
    → AllByRecursion (λ e. InSession e ≡ true) es
    → HasCopied w.copy u → HasCopied v.copy u

-- The composition.

-- A copy that is laid from starting values, redone by the archived log.
pub record IsLaid (base : ℕ) (log : List (List Record)) (copy : Image) : Type 0 where
  pub small : ends log < 2 ^ 64
  pub front : List (List Record)
  pub rest : List (List Record)
  pub split : log ≡ front ++ rest
  pub moment : ends front ≡ base
  pub start : ℕ → ℕ → Standing
  pub gives : (s n : ℕ) → Gives s n base log (start s n)
  pub pages : (s n : ℕ) → standing_of copy s n ≡ redone_from base s n (start s n) rest
  pub system : (n : ℕ) → page_of (replayed log) 0 n ≡ None → page_of copy 0 n ≡ None

-- with undo taken back it has the rows that the donor's pages have with undo taken back
abbrev pub CopyRecovers : Type 0
CopyRecovers =
    (base : ℕ) (log : List (List Record)) (copy : Image) (rows : Rows) → IsLaid base log copy
    → CanTakeBack (replayed log)
    → HasRows (page_of (recovered (replayed log))) rows → HasRows (page_of (recovered copy)) rows
