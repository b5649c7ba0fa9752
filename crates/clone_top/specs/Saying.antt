-- What a run does that ends with one text.
use Rattle.std.specs.Prelude.{ℕ, ◌≡◌, ◌⊎◌, ◌++◌, List, codes}
use Rattle.std.specs.Fmt.{decimal}
use Rattle.clone_outside.specs.Causes.{Rose}
use Rattle.clone_outside.specs.Bytes.{appended, TakesSome}
use Rattle.clone_model.specs.Texts.{ended}
use Rattle.clone_recover.specs.declared.refusal.RecoverRefusal.{RecoverRefusal}
use Rattle.clone_recover.specs.declared.refusal.RecoverRefusal.TheVariants as refused
use Rattle.clone_dump.specs.Shown.{damage_text}
use Rattle.clone_events.specs.Events.{recipient_fault}
use Rattle.clone_top.specs.Ends.{End}
use Rattle.clone_top.specs.declared.status.Status.{Status}
use Rattle.clone_top.specs.declared.status.Status.TheVariants.{Memory, Usage, BadLine, SourceFault, SinkFault, DonorFault, RecipientFault, NotEmpty, Incomplete, Damaged, TooLong}
use Rattle.clone_words.specs.declared.reading.WordsRefusal.{WordsRefusal}
use Rattle.clone_words.specs.declared.reading.WordsRefusal.TheVariants as words
use Rattle.clone_top.specs.declared.reading.Unread.{Unread}
use Rattle.clone_top.specs.declared.reading.Unread.TheVariants as unread
use Rattle.clone_top.specs.declared.run.Unready.{Unready}
use Rattle.clone_top.specs.declared.run.Unready.TheVariants as unready

-- a text was written and the run ended as asked, or a front of it was written and the run ended
-- otherwise
abbrev pub Says : Status → Status → End → End → List ℕ → Type 0
Says asked got old new text =
    ((got ≡ asked) × (new.told ≡ appended old.told text))
    ⊎ ((got ≡ Memory) × TakesSome old.told new.told text)
    ⊎ ((got ≡ SinkFault) × Rose old.faults new.faults × TakesSome old.told new.told text)

-- why the words give no command is said, or there was no memory
abbrev pub SaysNoCommand : WordsRefusal → Status → End → End → Type 0
SaysNoCommand words.Usage got old new = Says Usage got old new (ended (codes "usage"))
SaysNoCommand words.NoMemory got old new = (got ≡ Memory) × (new.told ≡ old.told)

-- why no script was read is said, or there was no memory
abbrev pub SaysUnread : Unread → Status → End → End → Type 0
SaysUnread unread.SourceFault got old new =
    Says SourceFault got old new (ended (codes "source fault"))
SaysUnread unread.TooLong got old new = Says TooLong got old new (ended (codes "script too long"))
SaysUnread (unread.BadLine line) got old new =
    Says BadLine got old new (ended (codes "bad line " ++ decimal line))
SaysUnread unread.Memory got old new = (got ≡ Memory) × (new.told ≡ old.told)

-- the same of why a disk isn't recovered
abbrev pub SaysNoClone : RecoverRefusal → Status → End → End → Type 0
SaysNoClone refused.Incomplete got old new =
    Says Incomplete got old new (ended (codes "incomplete"))
SaysNoClone (refused.Damaged space page why) got old new =
    Says Damaged got old new (ended (damage_text space page why))
SaysNoClone refused.DiskFault got old new =
    Says RecipientFault got old new (ended recipient_fault)
SaysNoClone refused.NoMemory got old new = (got ≡ Memory) × (new.told ≡ old.told)

-- the same of why nothing is begun over two disks
abbrev pub SaysUnready : Unready → Status → End → End → Type 0
SaysUnready unready.DonorFault got old new =
    Says DonorFault got old new (ended (codes "donor disk fault"))
SaysUnready unready.RecipientFault got old new =
    Says RecipientFault got old new (ended recipient_fault)
SaysUnready unready.NotEmpty got old new = Says NotEmpty got old new (ended (codes "not empty"))
SaysUnready unready.Memory got old new = (got ≡ Memory) × (new.told ≡ old.told)
