-- Which line may follow, by how many changes of a commit are missing, and where lines stop.
use Rattle.std.specs.Prelude.{ℕ, ◌≡◌, ◌+◌, ◌<◌, ◌^◌, ◌⊎◌, List, [], ◌∷◌, ◌++◌, length, ⊤}
use Rattle.std.specs.List.{flat_map}
use Rattle.clone_model.specs.Texts.{ended, change_text}
use Rattle.clone_model.specs.Reading.{IsChange, first_line}
use Rattle.clone_model.specs.declared.change.Change.{Change}
use Rattle.clone_model.specs.declared.reading.ReadRefusal.{ReadRefusal}
use Rattle.clone_model.specs.declared.reading.ReadRefusal.TheVariants.{BadLine, NoMemory}

-- the line is the first of a commit with so many changes
pub record IsFirstLine (line : List ℕ) (count : ℕ) : Type 0 where
  pub writer : ℕ
  pub index : ℕ
  pub writer_fits : writer < 2 ^ 32
  pub index_fits : index < 2 ^ 64
  pub count_fits : count < 2 ^ 64
  pub same : line ≡ first_line writer index count

-- the line is that of a change
pub record IsChangeLine (line : List ℕ) : Type 0 where
  pub change : Change
  pub is_change : IsChange change
  pub same : line ≡ change_text change

-- Where so many changes of a commit are missing, the line may follow, and so many are missing
-- behind it.
abbrev pub Follows : ℕ → List ℕ → ℕ → Type 0
Follows missing line after =
    ((missing ≡ 0) × IsFirstLine line after) ⊎ ((missing ≡ after + 1) × IsChangeLine line)

-- the same of lines, one after the other
abbrev pub Follow : ℕ → List (List ℕ) → ℕ → Type 0
Follow missing [] after = after ≡ missing
Follow missing (line ∷ lines) after =
    (between : ℕ) × Follows missing line between × Follow between lines after

-- Where so many changes are missing and so many lines stand before the text, the line of this
-- number is the first that may not follow or that is missing.
pub record StopsAt (missing : ℕ) (text : List ℕ) (before number : ℕ) : Type 0 where
  pub front : List (List ℕ)
  pub rest : List ℕ
  pub after : ℕ
  pub split : text ≡ flat_map ended front ++ rest
  pub count : number ≡ before + length front + 1
  pub good : Follow missing front after
  pub no_line : (line behind : List ℕ) (more : ℕ) → rest ≡ ended line ++ behind
      → Follows after line more → ⊥
  pub no_end : rest ≡ [] → after ≡ 0 → ⊥

-- the refusal has that number. Want of memory is free
abbrev pub IsRefusedBy : ℕ → List ℕ → ℕ → ReadRefusal → Type 0
IsRefusedBy missing text before (BadLine number) = StopsAt missing text before number
IsRefusedBy missing text before NoMemory = ⊤
