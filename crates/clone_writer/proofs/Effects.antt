-- What a call does to the open transactions and the commits of a donor, in four kinds.
use Rattle.std.proofs.Common.{◌≡◌, ◌⊎◌, ◌++◌, ◌∷◌, [], ℕ, List, Some, Result, Ok, Err, refl, ap, inl, inr}
use Rattle.clone_plain.specs.Causes.{least_unused}
use Rattle.clone_plain.specs.declared.call.EngineAnswer.TheVariants as answers
use Rattle.clone_plain.specs.declared.call.EngineCall.TheVariants as call
use Rattle.std.specs.FinMap as finite
use Rattle.clone_writer.proofs.Common.{Change, Commit, Donor, EngineAnswer, EngineCall, EngineRefusal, Left, Ended, Changes, trx_of, Leads}

-- a transaction is open that wasn't
pub record Opens (d : Donor) (writer index : ℕ) (after : Donor) : Type 0 where
  pub trx : ℕ
  pub unused : least_unused d.active ≡ Some trx
  pub active : after.active ≡ finite.insert d.active trx (record { writer = writer; index = index; changes = [] })
  pub binlog : after.binlog ≡ d.binlog

-- an open transaction has other changes
pub record Sets (d : Donor) (trx : ℕ) (after : Donor) : Type 0 where
  pub old : Commit
  pub changes : List Change
  pub was : finite.get d.active trx ≡ Some old
  pub active : after.active ≡ finite.insert d.active trx (record old { changes = changes })
  pub binlog : after.binlog ≡ d.binlog

-- an open transaction has ended, with or without a commit
pub record Closes (d : Donor) (trx : ℕ) (after : Donor) : Type 0 where
  pub old : Commit
  pub was : finite.get d.active trx ≡ Some old
  pub active : after.active ≡ finite.remove d.active trx
  pub binlog : (after.binlog ≡ d.binlog) ⊎ (after.binlog ≡ d.binlog ++ old ∷ [])

pub data Effect (d : Donor) (asked : EngineCall) (after : Donor) : Type 0 where
  leaves : after.active ≡ d.active → after.binlog ≡ d.binlog → Effect d asked after
  opens : (writer index : ℕ) → asked ≡ call.Begin writer index → Opens d writer index after → Effect d asked after
  sets : (trx : ℕ) → trx_of asked ≡ Some trx → Sets d trx after → Effect d asked after
  closes : (trx : ℕ) → trx_of asked ≡ Some trx → Closes d trx after → Effect d asked after

module _ (d after : Donor) where
  same : (asked : EngineCall) → after ≡ d → Effect d asked after
  same asked is = leaves (ap (λ (e : Donor). e.active) is) (ap (λ (e : Donor). e.binlog) is)

  changes : (asked : EngineCall) (trx : ℕ) (change : Change) → trx_of asked ≡ Some trx → Changes d trx change after → Effect d asked after
  changes asked trx change names is = sets trx names (record
      { old = is.commit; changes = is.commit.changes ++ change ∷ []; was = is.was_active; active = ap (λ (e : Donor). e.active) is.is; binlog = ap (λ (e : Donor). e.binlog) is.is })

  pub effect : (asked : EngineCall) (given : Result EngineAnswer EngineRefusal) → Leads d asked given after → Effect d asked after
  effect asked (Err refusal) is = leaves is.0 is.1
  effect (call.Create table buckets) (Ok answers.Create) is = leaves (ap (λ (e : Donor). e.active) is) (ap (λ (e : Donor). e.binlog) is)
  effect (call.Create table buckets) (Ok did) is = absurd is
  effect (call.Drop table) (Ok answers.Drop) is = leaves (ap (λ (e : Donor). e.active) is) (ap (λ (e : Donor). e.binlog) is)
  effect (call.Drop table) (Ok did) is = absurd is
  effect (call.Begin writer index) (Ok (answers.Begin trx)) is = opens writer index refl (record
      { trx = trx; unused = is.0; active = ap (λ (e : Donor). e.active) is.1; binlog = ap (λ (e : Donor). e.binlog) is.1 })
  effect (call.Begin writer index) (Ok did) is = absurd is
  effect (call.Put trx table key value) (Ok answers.Put) is = changes _ trx _ refl is
  effect (call.Put trx table key value) (Ok did) is = absurd is
  effect (call.Delete trx table key) (Ok answers.Delete) is = changes _ trx _ refl is
  effect (call.Delete trx table key) (Ok did) is = absurd is
  effect (call.Get trx table key) (Ok (answers.Get value)) is = same _ is
  effect (call.Get trx table key) (Ok did) is = absurd is
  effect (call.UndoOne trx) (Ok (answers.UndoOne (Left left))) is = sets trx refl (record
      { old = is.commit; changes = is.front; was = is.was_active; active = ap (λ (e : Donor). e.active) is.is; binlog = ap (λ (e : Donor). e.binlog) is.is })
  effect (call.UndoOne trx) (Ok (answers.UndoOne Ended)) is = closes trx refl (record
      { old = is.commit; was = is.was_active; active = ap (λ (e : Donor). e.active) is.is; binlog = inl (ap (λ (e : Donor). e.binlog) is.is) })
  effect (call.UndoOne trx) (Ok did) is = absurd is
  effect (call.Commit trx) (Ok (answers.Commit position)) is = closes trx refl (record
      { old = is.commit; was = is.was_active; active = ap (λ (e : Donor). e.active) is.is; binlog = inr (ap (λ (e : Donor). e.binlog) is.is) })
  effect (call.Commit trx) (Ok did) is = absurd is
  effect (call.FlushBegin space page) (Ok answers.FlushBegin) is = same _ is
  effect (call.FlushBegin space page) (Ok did) is = absurd is
  effect (call.FlushHalf space page) (Ok answers.FlushHalf) is = same _ is
  effect (call.FlushHalf space page) (Ok did) is = absurd is
  effect (call.FlushLand space page) (Ok answers.FlushLand) is = same _ is
  effect (call.FlushLand space page) (Ok did) is = absurd is
  effect call.OldestDirty (Ok (answers.OldestDirty page)) is = same _ is
  effect call.OldestDirty (Ok did) is = absurd is
  effect call.Checkpoint (Ok (answers.Checkpoint lsn)) is = same _ is
  effect call.Checkpoint (Ok did) is = absurd is
  effect call.End (Ok (answers.End lsn)) is = same _ is
  effect call.End (Ok did) is = absurd is
