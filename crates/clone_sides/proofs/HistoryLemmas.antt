-- The history of a donor only gets longer.
use Rattle.std.proofs.Common.{◌≡◌, ◌++◌, ◌∷◌, [], ℕ, List, length, refl, sym, ap, ◌∙◌}
use Rattle.std.proofs.lemmas.List.{append-nil}
use Rattle.clone_model.specs.History.{Drops}
use Rattle.clone_model.specs.declared.change.Commit.{Commit}
use Rattle.clone_plain.specs.Calls.{Does}
use Rattle.clone_plain.specs.Donor.{Donor}
use Rattle.clone_plain.specs.Effects.{Undoes, dropped}
use Rattle.clone_plain.specs.declared.call.EngineAnswer.{EngineAnswer}
use Rattle.clone_plain.specs.declared.call.EngineAnswer.TheVariants as answers
use Rattle.clone_plain.specs.declared.call.EngineCall.{EngineCall}
use Rattle.clone_plain.specs.declared.call.EngineCall.TheVariants as call
use Rattle.clone_plain.specs.declared.refusal.Undone.{Undone}
use Rattle.clone_plain.specs.declared.refusal.Undone.TheVariants.{Ended, Left}

-- THE HISTORY only gets longer.
pub record Lengthens (old new : Donor) : Type 0 where
  pub commits : List Commit
  pub binlog : new.binlog ≡ old.binlog ++ commits
  pub dropped : Drops
  pub drops : new.drops ≡ old.drops ++ dropped

pub lengthens_same : (d e : Donor) → e.binlog ≡ d.binlog → e.drops ≡ d.drops → Lengthens d e
lengthens_same d e binlog drops = record { commits = []; binlog = binlog ∙ sym (append-nil d.binlog); dropped = []; drops = drops ∙ sym (append-nil d.drops) }

pub lengthens_none : (d e : Donor) → e ≡ d → Lengthens d e
lengthens_none d e is = lengthens_same d e (ap (λ (x : Donor). x.binlog) is) (ap (λ (x : Donor). x.drops) is)

lengthens_as : (d like e : Donor) → like.binlog ≡ d.binlog → like.drops ≡ d.drops → e ≡ like → Lengthens d e
lengthens_as d like e binlog drops is = lengthens_same d e (ap (λ (x : Donor). x.binlog) is ∙ binlog) (ap (λ (x : Donor). x.drops) is ∙ drops)

pub drop_lengthens : (d e : Donor) (table : ℕ) → e ≡ dropped table d → Lengthens d e
drop_lengthens d e table is = record {
  commits = [];
  binlog = ap (λ (x : Donor). x.binlog) is ∙ sym (append-nil d.binlog);
  dropped = (length d.binlog, table) ∷ [];
  drops = ap (λ (x : Donor). x.drops) is;
}

undoes_lengthens : (d e : Donor) (trx : ℕ) (undone : Undone) → Undoes d trx undone e → Lengthens d e
undoes_lengthens d e trx (Left left) is = lengthens_as d _ e refl refl is.is
undoes_lengthens d e trx Ended is = lengthens_as d _ e refl refl is.is

pub does_lengthens : (asked : EngineCall) (did : EngineAnswer) (d e : Donor) → Does d asked did e → Lengthens d e
does_lengthens (call.Create table buckets) answers.Create d e is = lengthens_as d _ e refl refl is
does_lengthens (call.Drop table) answers.Drop d e is = drop_lengthens d e table is
does_lengthens (call.Begin writer index) (answers.Begin trx) d e is = lengthens_as d _ e refl refl is.1
does_lengthens (call.Put trx table key value) answers.Put d e is = lengthens_as d _ e refl refl is.is
does_lengthens (call.Delete trx table key) answers.Delete d e is = lengthens_as d _ e refl refl is.is
does_lengthens (call.Get trx table key) (answers.Get value) d e is = lengthens_none d e is
does_lengthens (call.UndoOne trx) (answers.UndoOne undone) d e is = undoes_lengthens d e trx undone is
does_lengthens (call.Commit trx) (answers.Commit position) d e is = record {
  commits = is.commit ∷ [];
  binlog = ap (λ (x : Donor). x.binlog) is.is;
  dropped = [];
  drops = ap (λ (x : Donor). x.drops) is.is ∙ sym (append-nil d.drops);
}
does_lengthens (call.FlushBegin space page) answers.FlushBegin d e is = lengthens_none d e is
does_lengthens (call.FlushHalf space page) answers.FlushHalf d e is = lengthens_none d e is
does_lengthens (call.FlushLand space page) answers.FlushLand d e is = lengthens_none d e is
does_lengthens call.OldestDirty (answers.OldestDirty page) d e is = lengthens_none d e is
does_lengthens call.Checkpoint (answers.Checkpoint lsn) d e is = lengthens_none d e is
does_lengthens call.End (answers.End lsn) d e is = lengthens_none d e is
does_lengthens asked did d e is = absurd is
