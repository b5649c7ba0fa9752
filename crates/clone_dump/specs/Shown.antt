-- What is shown of a clone's disk, and that it is recovered.
use Rattle.std.specs.Prelude.{ℕ, ◌≡◌, ◌<◌, ◌^◌, ◌++◌, List, codes}
use Rattle.std.specs.Fmt.{decimal}
use Rattle.std.specs.declared.option.Option.{Option}
use Rattle.clone_outside.specs.Disk.{DiskImage}
use Rattle.clone_model.specs.History.{Row, Rows, rows_in}
use Rattle.clone_model.specs.Texts.{ended}
use Rattle.clone_plain.specs.Answers.{Text, rows_answer}
use Rattle.clone_recover.specs.Listing.{ListsRows}
use Rattle.clone_recover.specs.Restores.{Answers, ForStep}
use Rattle.clone_recover.specs.declared.recovery.Recovered.{Recovered}
use Rattle.clone_recover.specs.declared.refusal.Why.{Why}
use Rattle.clone_recover.specs.declared.refusal.Why.TheVariants.{Header, Redo, Dictionary, Undo, Chain}

-- up to where a disk is recovered, and how many commits it has
abbrev pub recovered_text : Recovered → Text
recovered_text numbers =
    codes "recovered lsn " ++ decimal numbers.lsn ++ codes " position " ++ decimal numbers.position

-- what is against the format, in a word
abbrev pub why_text : Why → Text
why_text Header = codes "header"
why_text Redo = codes "redo"
why_text Dictionary = codes "dictionary"
why_text Undo = codes "undo"
why_text Chain = codes "chain"

-- a page, or the redo from a page on, is against the format
abbrev pub damage_text : ℕ → ℕ → Why → Text
damage_text space page why =
    codes "damaged " ++ decimal space ++ codes " " ++ decimal page ++ codes " " ++ why_text why

-- the disk is recovered, and these are its rows
pub record ShowsRecovered (old new : DiskImage) (list : List Row) : Type 0 where
  pub numbers : Recovered
  pub range : numbers.position < 2 ^ 64
  pub recovers : Answers old new numbers
  pub lists : ListsRows new list

-- THE LINE OF `recover`: the disk, where it is told, is recovered up to where the line says.
pub record SaysRecovered (old new : Option DiskImage) (text : Text) : Type 0 where
  pub numbers : Recovered
  pub recovers : ForStep old new (λ m n. Answers m n numbers)
  pub is : text ≡ ended (recovered_text numbers)

-- THE LINES OF `dump`: the disk, where it is told, is recovered, and the lines are its rows,
-- ascending by table and key, and their number.
pub record SaysRows (old new : Option DiskImage) (text : Text) : Type 0 where
  pub rows : Rows
  pub shows : ForStep old new (λ m n. ShowsRecovered m n (rows_in rows))
  pub is : text ≡ ended (rows_answer (rows_in rows))
