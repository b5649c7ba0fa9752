-- A transaction begins, or ends without a change, and the contents stay sound.
use Rattle.clone_trx.proofs.Common.{◌≡◌, ◌<◌, ℕ, [], length, refl, sym, ap, subst, ◌∙◌, inl, inr, Option, Some, None, nat_cmp-IsAntisymmetric, nat_cmp_total, cases_eq, Commit, row_slot, UndoSlot, Contents, with_undo, set_at-same, set_at-other, Donor, begun, Leaves, Slots, Nexts, HoldsRows, HoldsUndo, StandsFor, IsSound, committed_rows, value_of, get-removed_same, SameOthers, own-set, others-set, others-removed, begun_value, left_value, begun_locked, left_locked}
use Rattle.std.specs.FinMap as finite
use Rattle.clone_trx.proofs.ChainLemmas.{same_chains}
use Rattle.clone_trx.proofs.UndoRecordLemmas.{stands_still}
use Rattle.clone_trx.proofs.SoundChangeLemmas.{same_tables}

-- the rows stay where each shows the value that it showed
pub rows_still : (d after : Donor) (next : Nexts) (slot : Slots) → after.tables ≡ d.tables → ((table key : ℕ) → value_of after table key ≡ value_of d table key) → HoldsRows d next slot → HoldsRows after next slot
rows_still d after next slot tables same rows = record {
  shown = λ t p j key bound. rows.shown t p j key bound ∙ ap (row_slot key) (sym (same t key));
  clean = rows.clean;
  own = λ t p j key bound. let had = rows.own t p j key bound in (had.0, ap (λ m. finite.get m t) tables ∙ had.1, had.2);
  once = rows.once;
  found = λ t key value is. rows.found t key value (sym (same t key) ∙ is);
}

-- one undo slot stands for its transaction anew
undo_one : (d after : Donor) (c : Contents) (trx : ℕ) (found : Option UndoSlot) → committed_rows after ≡ committed_rows d → SameOthers trx d after → StandsFor after c.slot (finite.get after.active trx) found → HoldsUndo d c.slot c.undo → HoldsUndo after c.slot (with_undo trx found c).undo
undo_one d after c trx found history others own holds s low =
    elim (cases_eq s trx) [
      | inl same ↦ subst (λ (n : ℕ). StandsFor after c.slot (finite.get after.active n) ((with_undo trx found c).undo n)) (sym same)
          (subst (StandsFor after c.slot (finite.get after.active trx)) (sym (set_at-same trx trx found c.undo refl)) own)
      | inr other ↦ stands_still d after c.slot c.slot (finite.get d.active s) (finite.get after.active s) (c.undo s) ((with_undo trx found c).undo s) history (λ t p j key was. was) (others s other) (set_at-other trx s found c.undo other) (holds s low)
    ]

pub begun_sound : (d : Donor) (c : Contents) (trx writer index : ℕ) → trx < 64 → finite.get d.active trx ≡ None → IsSound d c → IsSound (begun trx writer index d) (with_undo trx (Some (record { writer = writer; index = index; records = [] })) c)
begun_sound d c trx writer index small none sound =
    let after : Donor = begun trx writer index d in
    let new : Commit = record { writer = writer; index = index; changes = [] } in
    let slot : UndoSlot = record { writer = writer; index = index; records = [] } in
    record {
      locked = begun_locked d trx writer index small sound.locked;
      tables = same_tables d after c (with_undo trx (Some slot) c) refl refl refl sound.tables;
      chains = same_chains d after c (with_undo trx (Some slot) c) refl refl refl sound.chains;
      rows = rows_still d after c.next c.slot refl (begun_value d trx writer index sound.locked none) sound.rows;
      undo = undo_one d after c trx (Some slot) refl (others-set d after trx new refl)
          (subst (λ (o : Option Commit). StandsFor after c.slot o (Some slot)) (sym (own-set d after trx new refl)) (record { records = []; is = refl; tells = tt })) sound.undo;
      position = sound.position;
    }

pub left_sound : (d after : Donor) (c : Contents) (trx : ℕ) → Leaves d trx after → IsSound d c → IsSound after (with_undo trx None c)
left_sound d after c trx l sound =
    let tables : after.tables ≡ d.tables = ap (λ (x : Donor). x.tables) l.is in
    let active : after.active ≡ finite.remove d.active trx = ap (λ (x : Donor). x.active) l.is in
    let gone : finite.get after.active trx ≡ None = ap (λ m. finite.get m trx) active ∙ get-removed_same nat_cmp_total nat_cmp-IsAntisymmetric d.active trx in
    record {
      locked = left_locked sound.locked l;
      tables = same_tables d after c (with_undo trx None c) tables refl refl sound.tables;
      chains = same_chains d after c (with_undo trx None c) tables refl refl sound.chains;
      rows = rows_still d after c.next c.slot tables (left_value sound.locked l) sound.rows;
      undo = undo_one d after c trx None (ap committed_rows l.is) (others-removed d after trx active) (subst (λ (o : Option Commit). StandsFor after c.slot o None) (sym gone) refl) sound.undo;
      position = sound.position ∙ ap (λ (x : Donor). length x.binlog) (sym l.is);
    }
