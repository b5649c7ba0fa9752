-- What comes of a command over the recipient's disk, which is recovered.
use Rattle.std.specs.Prelude.{ℕ, ◌≡◌, codes}
use Rattle.std.specs.declared.option.Option.{Option}
use Rattle.clone_outside.specs.Causes.{Rose}
use Rattle.clone_outside.specs.Disk.{DiskImage, ForTold}
use Rattle.clone_outside.specs.DiskCalls.{DiskState}
use Rattle.clone_model.specs.Texts.{ended}
use Rattle.clone_plain.specs.Answers.{Text}
use Rattle.clone_recover.specs.Restores.{IsCause, IsIncomplete}
use Rattle.clone_recover.specs.declared.refusal.Why.{Why}
use Rattle.clone_recover.specs.declared.refusal.RecoverRefusal.TheVariants as refused
use Rattle.clone_dump.specs.Shown.{damage_text}
use Rattle.clone_events.specs.Events.{recipient_fault}
use Rattle.clone_top.specs.Ends.{End}
use Rattle.clone_top.specs.Saying.{Says}
use Rattle.clone_top.specs.declared.status.Status.{Status}
use Rattle.clone_top.specs.declared.status.Status.TheVariants.{Done, Memory, RecipientFault, Incomplete, Damaged}

-- what a text says of a disk that is recovered, of what was told of it and of what is
abbrev pub Showing : Type 1
Showing = Option DiskImage → Option DiskImage → Text → Type 0

-- WHY A STATUS IS DUE, and its text. The disk is recovered, as the text shows. Or it had no mark or
-- that of a clone under way; or the text names what on it is against the format; both leave it as
-- it was. Or it failed, and its count rose.
abbrev pub IsDue : Showing → Status → DiskState → DiskState → Text → Type 0
IsDue Shows Done old new text = Shows old.told new.told text
IsDue Shows Incomplete old new text =
    ForTold old.told IsIncomplete × (new.told ≡ old.told) × (text ≡ ended (codes "incomplete"))
IsDue Shows Damaged old new text =
    (space : ℕ) × (page : ℕ) × (why : Why)
    × ForTold old.told (λ m. IsCause m (refused.Damaged space page why))
    × (new.told ≡ old.told) × (text ≡ ended (damage_text space page why))
IsDue Shows RecipientFault old new text =
    Rose old.failures new.failures × (text ≡ ended recipient_fault)
IsDue Shows status old new text = ⊥

-- The text is said, alone, or as far as memory and the sink allowed; or memory ran out before
-- anything was said.
pub data Comes (Shows : Showing) (status : Status) (old new : DiskState) (out out_new : End)
    : Type 0 where
  says : (due : Status) (text : Text) → IsDue Shows due old new text
      → Says due status out out_new text → Comes Shows status old new out out_new
  silent : status ≡ Memory → out_new.told ≡ out.told → Comes Shows status old new out out_new
