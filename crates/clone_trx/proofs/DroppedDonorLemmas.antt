-- A donor drops a table against which there is no cause, and the image keeps what it is then.
use Rattle.std.specs.FinMap as finite
use Rattle.clone_model.proofs.DropLemmas.{fold-dropped, without_other}
use Rattle.clone_contents.proofs.DropLemmas.{dropped_is}
use Rattle.clone_trx.proofs.Common.{◌≡◌, ◌≢◌, ℕ, refl, sym, ap, subst, ◌∙◌, None, records_of_drop, named, MayDrop, dropped_locked, dropped_free, dropped_value, dropped_value_other, drop_cause, dropped, Rows, Image, after_records, contents_of, Donor, IsLocked, IsSound, IsKept, committed_rows}
use Rattle.clone_trx.proofs.DroppedLemmas.{IsDropped, dropped_sound}

pub is_dropped : (d : Donor) (table : ℕ) → IsLocked d → drop_cause d table ≡ None → IsDropped d table (dropped table d)
is_dropped d table locked free = record {
  locked = dropped_locked d table locked;
  tables = refl;
  active = refl;
  commits = refl;
  gone = λ key. dropped_value d table key locked free;
  values = λ other key apart. dropped_value_other d table other key apart;
  rows = λ other key apart. ap (λ (rows : Rows). finite.get rows (other, key)) (fold-dropped d.binlog d.drops table) ∙ without_other table other key (committed_rows d) apart;
  unlocked = λ key. dropped_free d table key locked free;
}

pub drop_keeps : (lsn entry_number table : ℕ) (d : Donor) (image : Image) → IsKept d image → named (contents_of image) entry_number ≡ table → table ≢ 0 → drop_cause d table ≡ None → IsKept (dropped table d) (after_records lsn image (records_of_drop entry_number table))
drop_keeps lsn entry_number table d image kept name used free =
    let may : MayDrop (contents_of image) entry_number table = record { named = name; used = used } in
    let has = dropped_is image lsn entry_number table kept.formed may in
    record { formed = has.0; sound = subst (IsSound (dropped table d)) (sym has.1) (dropped_sound d (dropped table d) (contents_of image) entry_number table kept.sound may (is_dropped d table kept.sound.locked free)) }
