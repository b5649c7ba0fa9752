-- The image that a log leaves of the empty one. An LSN counts the bytes of the log from its first
-- one on, and the pages that a mini-transaction changes take its end as their page LSN. From the
-- empty image each mini-transaction is newer than every page, so all of them count.
use Rattle.std.specs.Prelude.{ℕ, ◌≡◌, ◌+◌, List, [], ◌∷◌, length}
use Rattle.std.specs.List.{AllByRecursion}
use Rattle.std.specs.FinMap as finite
use Rattle.clone_mtr.specs.declared.record.Record.{Record}
use Rattle.clone_mtr.specs.Spelling.{spelling, Spells, log_of}
use Rattle.clone_image.specs.Image.{Image, after_records}
use Rattle.clone_base.specs.declared.limits.TheConstants.{FIRST_LSN}

-- where the log begins
abbrev pub first_lsn : ℕ
first_lsn = FIRST_LSN

-- the end of a mini-transaction that begins here
abbrev pub end_of : ℕ → List Record → ℕ
end_of start records = start + length (spelling records)

-- mini-transactions in their order, the first of which begins at start
abbrev pub after_log : ℕ → Image → List (List Record) → Image
after_log start image [] = image
after_log start image (m ∷ ms) =
    after_log (end_of start m) (after_records (end_of start m) image m) ms

abbrev pub replayed : List (List Record) → Image
replayed mtrs = after_log first_lsn finite.empty mtrs

abbrev pub IsSpelled : List Record → Type 0
IsSpelled records = Spells (spelling records) records

-- the bytes are the log of some mini-transactions: their spellings, one after the other
pub record IsLog (bytes : List ℕ) : Type 0 where
  pub mtrs : List (List Record)
  pub each : AllByRecursion IsSpelled mtrs
  pub text : bytes ≡ log_of mtrs

-- The bytes are the log of mini-transactions, and the image is what these leave of the empty one.
pub record Replays (bytes : List ℕ) (image : Image) : Type 0 where
  pub log : IsLog bytes
  pub made : image ≡ replayed log.mtrs
