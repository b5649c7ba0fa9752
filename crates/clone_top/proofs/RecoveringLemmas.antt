-- What comes of a command over the recipient's disk, by what recovery answered.
use Rattle.std.proofs.Common.{◌≡◌, ℕ, List, refl, sym, ap, ◌∙◌, subst, Option, Some, None, String, string_bytes, Result, Ok, Err, IfErr, codes, [], option_map}
use Rattle.std.specs.Prelude.{IsErrOf}
use Rattle.std.specs.declared.alloc.Global.{Global}
use Rattle.clone_outside.specs.Disk.{DiskImage, ForTold}
use Rattle.clone_outside.specs.DiskCalls.{Alters, DiskState}
use Rattle.clone_model.specs.Texts.{ended}
use Rattle.clone_plain.specs.Answers.{Text}
use Rattle.clone_recover.specs.Restores.{IsCause}
use Rattle.clone_recover.specs.declared.refusal.Why.{Why}
use Rattle.clone_recover.specs.declared.refusal.RecoverRefusal.{RecoverRefusal}
use Rattle.clone_recover.specs.declared.refusal.RecoverRefusal.TheVariants as refused
use Rattle.clone_dump.specs.Shown.{damage_text}
use Rattle.clone_events.specs.Events.{recipient_fault}
use Rattle.clone_engine.specs.Disks.{Visits}
use Rattle.clone_core.specs.Acting.{stop_of}
use Rattle.clone_model.specs.History.{Drops}
use Rattle.clone_session.specs.declared.info.Stop.{Stop}
use Rattle.clone_top.specs.Ends.{End, disks, ends, streams}
use Rattle.clone_top.specs.Main.{DiskOutcome}
use Rattle.clone_top.specs.Recovering.{Comes, Showing, says, silent}
use Rattle.clone_top.specs.Saying.{Says, SaysNoClone}
use Rattle.clone_top.specs.declared.status.Status.{Status}
use Rattle.clone_top.specs.declared.status.Status.TheVariants.{Done, Memory, RecipientFault, Incomplete, Damaged}

pub visits : (Faulty : Type 0) (old new : DiskState) → Alters Faulty old new → Visits old new
visits Faulty old new is = record { later = is.later; orders = is.orders; tells = is.tells }

-- the disk is recovered, and the text is said
pub comes_shown : (Shows : Showing) (status : Status) (old new : DiskState) (out out_new : End) (text said : Text) → said ≡ text → Shows old.told new.told text → Says Done status out out_new said → Comes Shows status old new out out_new
comes_shown Shows status old new out out_new text said is shows done = says Done said (subst (Shows old.told new.told) (sym is) shows) done

-- what recovery answered, and what is left of the disk
pub record IsAnswered (answer : Result (String Global) RecoverRefusal) (old new : DiskState) : Type 0 where
  pub cause : IfErr answer (λ refusal. ForTold old.told (λ m. IsCause m refusal))
  pub works : Alters (IsErrOf answer refused.DiskFault) old new
  pub incomplete : IsErrOf answer refused.Incomplete → new.told ≡ old.told
  pub damaged : (space page : ℕ) (why : Why) → IsErrOf answer (refused.Damaged space page why) → new.told ≡ old.told

refusal_comes : (Shows : Showing) (refusal : RecoverRefusal) (status : Status) (old new : DiskState) (out out_new : End) → IsAnswered (Err refusal) old new → SaysNoClone refusal status out out_new → Comes Shows status old new out out_new
refusal_comes Shows refused.Incomplete status old new out out_new is said = says Incomplete _ (is.cause, is.incomplete refl, refl) said
refusal_comes Shows (refused.Damaged space page why) status old new out out_new is said = says Damaged _ (space, page, why, is.cause, is.damaged space page why refl, refl) said
refusal_comes Shows refused.DiskFault status old new out out_new is said = says RecipientFault _ (is.works.fault refl, refl) said
refusal_comes Shows refused.NoMemory status old new out out_new is said = silent said.0 said.1

-- the disk isn't recovered
pub comes_refused : (Shows : Showing) (answer : Result (String Global) RecoverRefusal) (refusal : RecoverRefusal) (status : Status) (old new : DiskState) (out out_new : End) → answer ≡ Err refusal → IsAnswered answer old new → SaysNoClone refusal status out out_new → Comes Shows status old new out out_new
comes_refused Shows answer refusal status old new out out_new is all said =
    let P : Result (String Global) RecoverRefusal → Type 0 = λ r. IsAnswered r old new in
    refusal_comes Shows refusal status old new out out_new (subst P is all) said

-- and where nothing else was touched
pub over_disk : (Shows : Showing) (status due : Status) (number : ℕ) (source binlog out out_new : End) (donor donor_back given recipient recipient_back : DiskState) (drops : Drops) (stop : Option Stop) → status ≡ due → donor_back ≡ donor → recipient_back ≡ recipient → drops ≡ [] → stop ≡ None → Visits given recipient
    → Comes Shows due given recipient out out_new → DiskOutcome Shows status (streams source out binlog) (streams source out_new binlog) (disks donor given) (ends number (disks donor_back recipient_back) drops (option_map stop_of stop))
over_disk Shows status due number source binlog out out_new donor donor_back given recipient recipient_back drops stop is_due same_donor same_recipient no_drops no_stop visited came =
    let back : Status → Type 0 = λ s. Comes Shows s given recipient_back out out_new in
    record {
      source = refl;
      donor = same_donor;
      recipient = subst (Visits given) (sym same_recipient) visited;
      comes = subst back (sym is_due) (subst (λ (d : DiskState). Comes Shows due given d out out_new) (sym same_recipient) came);
      alone = record { binlog = refl; drops = no_drops; stop = ap (option_map stop_of) no_stop };
    }
