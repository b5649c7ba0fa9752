-- A script: texts ended by line feeds, each of which is passed over, is a head line, or is a line.
use Rattle.std.specs.Prelude.{ℕ, ◌≡◌, ◌+◌, ◌==◌, List, [], ◌∷◌, ◌++◌, None, Some, length, codes, if◌then◌else◌}
use Rattle.std.specs.Fmt.{decimal}
use Rattle.clone_model.specs.Config.{IsPoolSize, IsRingSize}
use Rattle.clone_script.specs.Lines.{line_text, IsInRange}
use Rattle.clone_model.specs.declared.config.Config.{Config}
use Rattle.clone_script.specs.declared.terms.Terms.{Terms}
use Rattle.clone_script.specs.declared.lines.Line.{Line}
use Rattle.clone_script.specs.Given.{Given, IsLimit, IsTaskCount, IsVersion, nothing, with_pool, with_ring, with_line, config_of, terms_of}
use Rattle.clone_script.specs.declared.head.HeadLine.{HeadLine}
use Rattle.clone_script.specs.declared.head.HeadLine.TheVariants.{Limit, Pool, Ring, Tasks, Version}

abbrev pub line_feed : ℕ
line_feed = 10

-- a byte at the front of the first text
abbrev pub with_byte : ℕ → List (List ℕ) → List (List ℕ)
with_byte b [] = (b ∷ []) ∷ []
with_byte b (text ∷ texts) = (b ∷ text) ∷ texts

-- the texts that line feeds end. The last may lack its line feed
abbrev pub texts_of : List ℕ → List (List ℕ)
texts_of [] = []
texts_of (b ∷ bytes) = if b == line_feed then [] ∷ texts_of bytes else with_byte b (texts_of bytes)

-- an empty text, or a comment: it begins with a number sign
abbrev pub IsPassed : List ℕ → Type 0
IsPassed [] = Unit {0}
IsPassed (b ∷ text) = b ≡ 35

-- each head line has exactly one text
abbrev pub head_text : HeadLine → List ℕ
head_text (Pool frames) = codes "pool " ++ decimal frames
head_text (Ring bytes) = codes "ring " ++ decimal bytes
head_text (Version version) = codes "version " ++ decimal version
head_text (Tasks tasks) = codes "tasks " ++ decimal tasks
head_text (Limit losses) = codes "limit " ++ decimal losses

abbrev pub IsHeadInRange : HeadLine → Type 0
IsHeadInRange (Pool frames) = IsPoolSize frames
IsHeadInRange (Ring bytes) = IsRingSize bytes
IsHeadInRange (Version version) = IsVersion version
IsHeadInRange (Tasks tasks) = IsTaskCount tasks
IsHeadInRange (Limit losses) = IsLimit losses

-- the text is that of a head line in its range
pub record IsHead (text : List ℕ) (h : HeadLine) : Type 0 where
  pub same : text ≡ head_text h
  pub range : IsHeadInRange h

-- the text is that of a line in its ranges
pub record IsLine (text : List ℕ) (l : Line) : Type 0 where
  pub same : text ≡ line_text l
  pub ranges : IsInRange l

-- a head line gives its size, where no line and no size of its kind is given yet
abbrev pub GivesSize : Given → HeadLine → Given → Type 0
GivesSize before (Pool frames) after =
    (before.lines ≡ []) × (before.pool ≡ None) × (after ≡ with_pool before frames)
GivesSize before (Ring bytes) after =
    (before.lines ≡ []) × (before.ring ≡ None) × (after ≡ with_ring before bytes)
GivesSize before (Version version) after =
    (before.lines ≡ []) × (before.version ≡ None)
    × (after ≡ record before { version = Some version })
GivesSize before (Tasks tasks) after =
    (before.lines ≡ []) × (before.tasks ≡ None) × (after ≡ record before { tasks = Some tasks })
GivesSize before (Limit losses) after =
    (before.lines ≡ []) × (before.limit ≡ None) × (after ≡ record before { limit = Some losses })

-- what is given before a text, and what is given with it
pub data Gives (before : Given) (text : List ℕ) (after : Given) : Type 0 where
  passed : IsPassed text → after ≡ before → Gives before text after
  size : (h : HeadLine) → IsHead text h → GivesSize before h after → Gives before text after
  line : (l : Line) → IsLine text l → after ≡ with_line before l → Gives before text after

-- the same of several texts, one behind the other
abbrev pub Give : Given → List (List ℕ) → Given → Type 0
Give before [] after = after ≡ before
Give before (text ∷ texts) after =
    (between : Given) × Gives before text between × Give between texts after

-- the sizes and the lines of a script
pub record IsScript (bytes : List ℕ) (config : Config) (terms : Terms) (lines : List Line)
    : Type 0 where
  pub given : Given
  pub texts : Give nothing (texts_of bytes) given
  pub sizes : config ≡ config_of given
  pub terms_are : terms ≡ terms_of given
  pub ordered : lines ≡ given.lines

-- The text of this number, counted from 1, is the first outside the grammar: it gives nothing
-- behind those before it.
pub record IsFirstBad (bytes : List ℕ) (number : ℕ) : Type 0 where
  pub front : List (List ℕ)
  pub text : List ℕ
  pub behind : List (List ℕ)
  pub split : texts_of bytes ≡ front ++ text ∷ behind
  pub count : number ≡ length front + 1
  pub before : Given
  pub good : Give nothing front before
  pub bad : (after : Given) → Gives before text after → ⊥
