-- THE FLUSHER, THE CHECKPOINTER AND THE ARCHIVER: what each does in a turn.
use Rattle.std.specs.Prelude.{ℕ, ◌≡◌, List, [], ◌∷◌, Result, Ok, None, OnOk, OnErr, ⊤}
use Rattle.std.specs.declared.alloc.AllocError.{AllocError}
use Rattle.std.specs.declared.option.Option.{Option}
use Rattle.std.specs.Option.{option_map_or}
use Rattle.clone_plain.specs.declared.call.EngineAnswer.{EngineAnswer}
use Rattle.clone_plain.specs.declared.call.EngineAnswer.TheVariants as given
use Rattle.clone_plain.specs.declared.call.EngineCall.{EngineCall}
use Rattle.clone_plain.specs.declared.call.EngineCall.TheVariants as asked
use Rattle.clone_plain.specs.declared.refusal.EngineRefusal.{EngineRefusal}
use Rattle.clone_jobs.specs.Said.{Said, archiving, engine}
use Rattle.clone_jobs.specs.Turns.{IsJob}
use Rattle.clone_jobs.specs.declared.ending.Ending.{Ending}
use Rattle.clone_jobs.specs.declared.upkeep.Upkeep.{Upkeep}
use Rattle.clone_jobs.specs.declared.upkeep.Upkeep.TheVariants as upkeep
use Rattle.clone_jobs.specs.declared.upkeep.TheConstants.{ARCHIVED_AT_ONCE}

-- THESE CALLS WERE MADE, one after the other, up to the first that was refused.
abbrev pub AreMade : List EngineCall → List Said → Type 0
AreMade [] said = said ≡ []
AreMade (c ∷ cs) [] = ⊥
AreMade (c ∷ cs) (x ∷ said) =
    (result : Result EngineAnswer EngineRefusal) × (x ≡ engine c result)
    × OnOk result (AreMade cs said) × OnErr result (said ≡ [])

-- the page that the engine named, if it named one
abbrev pub page_in : Result EngineAnswer EngineRefusal → Option (ℕ × ℕ)
page_in (Ok (given.OldestDirty page)) = page
page_in result = None

-- its flush: the image is taken, and its two halves are written
abbrev pub flush_of : ℕ × ℕ → List EngineCall
flush_of page =
    asked.FlushBegin page.0 page.1 ∷ asked.FlushHalf page.0 page.1
    ∷ asked.FlushLand page.0 page.1 ∷ []

-- The page that has waited the longest is flushed, if one waits.
abbrev pub FlushesOldest : List Said → Type 0
FlushesOldest said =
    (result : Result EngineAnswer EngineRefusal) × (more : List Said)
    × (said ≡ engine asked.OldestDirty result ∷ more)
    × AreMade (option_map_or flush_of (page_in result) []) more

-- WHAT IS DONE IN A TURN: one page is flushed, a checkpoint is taken, or some redo is archived.
abbrev pub KeepsUp : Upkeep → List Said → Type 0
KeepsUp upkeep.Flusher said = FlushesOldest said
KeepsUp upkeep.Checkpointer said = AreMade (asked.Checkpoint ∷ []) said
KeepsUp upkeep.Archiver said =
    (result : Result (Option ℕ) AllocError) × (said ≡ archiving ARCHIVED_AT_ONCE result ∷ [])

-- each turn is so, and it is never done
abbrev pub UpkeepTurn : Upkeep → ⊤ → List Said → ⊤ → Type 0
UpkeepTurn work s said t = KeepsUp work said

abbrev pub NeverDone : ⊤ → Type 0
NeverDone s = ⊥

-- ALL CALLS OF SUCH A JOB
abbrev pub IsUpkeep : Upkeep → Ending → List Said → Type 0
IsUpkeep work end said = IsJob (UpkeepTurn work) NeverDone end tt said tt
