-- A transaction commits, and the contents stay sound. At first, with no table and no transaction,
-- they are.
use Rattle.clone_trx.proofs.Common.{◌≡◌, ◌≢◌, ℕ, suc, List, [], ◌∷◌, refl, sym, ap, subst, ◌∙◌, inl, inr, Option, Some, None, slice_get, arith, length, is_some, nat_cmp, nat_cmp-IsAntisymmetric, get-empty, len-empty, nat_cmp_total, cases_eq, same_Some, none-some, length_push, row_cmp, Rows, after_change, after_changes, Change, Commit, unused, bound_key, UndoEntry, Contents, set_at, system_size, committed, opened, set_at-same, set_at-other, Donor, no_donor, Commits, Slots, TellsChanges, StandsFor, IsSound, committed_rows, changes_by, value_of, get-removed_same, after_changes_same, others-removed, committed_other, committed_value, committed_locked}
use Rattle.std.specs.FinMap as finite
use Rattle.clone_trx.proofs.ChainLemmas.{same_chains}
use Rattle.clone_trx.proofs.DictionaryLemmas.{names_none}
use Rattle.clone_trx.proofs.SoundChangeLemmas.{same_tables}
use Rattle.clone_trx.proofs.OpenTransactionLemmas.{rows_still}

-- records go on telling where the rows of the changes were the same at first
tells_rows : (slot : Slots) (rows now : Rows) (cs : List Change) (es : List UndoEntry) → ((i : ℕ) (x : Change) → slice_get cs i ≡ Some x → finite.get now (x.table, x.key) ≡ finite.get rows (x.table, x.key)) → TellsChanges slot rows cs es → TellsChanges slot now cs es
tells_rows slot rows now [] [] same tells = tt
tells_rows slot rows now [] (e ∷ es) same tells = absurd tells
tells_rows slot rows now (c ∷ cs) [] same tells = absurd tells
tells_rows slot rows now (c ∷ cs) (e ∷ es) same tells = (
  record { in_range = tells.0.in_range; table = tells.0.table; key = tells.0.key; bound = tells.0.bound; before = tells.0.before ∙ sym (same 0 c refl) },
  tells_rows slot (after_change rows c) (after_change now c) cs es (λ i x is. after_changes_same now rows (c ∷ []) (x.table, x.key) (same (suc i) x is)) tells.1,
)

pub committed_sound : (d after : Donor) (c : Contents) (trx position : ℕ) → Commits d trx position after → IsSound d c → IsSound after (committed trx position c)
committed_sound d after c trx position k sound = record {
  locked = committed_locked sound.locked k;
  tables = same_tables d after c (committed trx position c) tables refl refl sound.tables;
  chains = same_chains d after c (committed trx position c) tables refl refl sound.chains;
  rows = rows_still d after c.next c.slot tables (committed_value sound.locked k) sound.rows;
  undo = λ s low. elim (cases_eq s trx) [
    | inl same ↦ subst (λ (n : ℕ). StandsFor after c.slot (finite.get after.active n) ((set_at trx None c.undo) n)) (sym same)
        (subst (λ (o : Option Commit). StandsFor after c.slot o ((set_at trx None c.undo) trx)) (sym gone) (set_at-same trx trx None c.undo refl))
    | inr other ↦ subst (λ (o : Option Commit). StandsFor after c.slot o ((set_at trx None c.undo) s)) (sym (others-removed d after trx active s other))
        (still s other (finite.get d.active s) refl (set_at-other trx s None c.undo other) (sound.undo s low))
  ];
  position = k.count ∙ sym (length_push d.binlog k.commit) ∙ ap (λ (x : Donor). length x.binlog) (sym k.is);
}
  where
    tables : after.tables ≡ d.tables
    tables = ap (λ (x : Donor). x.tables) k.is

    active : after.active ≡ finite.remove d.active trx
    active = ap (λ (x : Donor). x.active) k.is

    gone : finite.get after.active trx ≡ None
    gone = ap (λ m. finite.get m trx) active ∙ get-removed_same nat_cmp_total nat_cmp-IsAntisymmetric d.active trx

    still : (s : ℕ) → s ≢ trx → (o : Option Commit) → finite.get d.active s ≡ o → (set_at trx None c.undo) s ≡ c.undo s → StandsFor d c.slot o (c.undo s) → StandsFor after c.slot o ((set_at trx None c.undo) s)
    still s other None is same free = same ∙ free
    still s other (Some commit) is same own = record {
      records = own.records;
      is = same ∙ own.is;
      tells = tells_rows c.slot (committed_rows d) (committed_rows after) commit.changes own.records
          (λ i x at. committed_other sound.locked k (x.table, x.key) (λ held. other (same_Some s trx (sym (sound.locked.own s commit i x is at) ∙ held)))) own.tells;
    }

no_value : (t key : ℕ) → value_of no_donor t key ≡ None
no_value t key = ap (λ o. finite.get (after_changes finite.empty (changes_by no_donor o)) (t, key)) (get-empty row_cmp (t, key)) ∙ get-empty row_cmp (t, key)

pub opened_sound : IsSound no_donor opened
opened_sound = record {
  locked = record {
    few = record { numbers = λ n there. absurd (let e = sym (ap is_some (get-empty nat_cmp n)) ∙ there in cc); few = λ n k is. absurd (none-some k (sym (get-empty nat_cmp n) ∙ is)) };
    own = λ n k i x is at. absurd (none-some k (sym (get-empty nat_cmp n) ∙ is));
    holders = λ t key n is. absurd (none-some n (sym (get-empty row_cmp (t, key)) ∙ is));
    drops = tt;
  };
  tables = record {
    sizes = λ t n is. absurd (none-some n (sym (get-empty nat_cmp t) ∙ is));
    spaces = λ t behind none. set_at-other 0 t (Some system_size) (λ (n : ℕ). None) behind;
    listed = λ t there. absurd (let e = sym (ap is_some (get-empty nat_cmp t)) ∙ there in cc);
    told = λ t n pages j is. absurd (none-some n (sym (get-empty nat_cmp t) ∙ is));
    tables = λ j used. absurd (used (names_none j));
    once = λ i j used same. absurd (used (names_none i));
    few = omega (arith, len-empty nat_cmp ℕ);
  };
  chains = record {
    buckets = λ t n bucket is low. absurd (none-some n (sym (get-empty nat_cmp t) ∙ is));
    none = λ t page none. refl;
  };
  rows = record {
    shown = λ t p j key is. absurd (nowhere key is);
    clean = λ t p j none. refl;
    own = λ t p j key is. absurd (nowhere key is);
    once = λ t key p i q j is also. absurd (nowhere key is);
    found = λ t key value is. absurd (none-some value (sym (no_value t key) ∙ is));
  };
  undo = λ s low. subst (λ (o : Option Commit). StandsFor no_donor opened.slot o None) (sym (get-empty nat_cmp s)) refl;
  position = refl;
}
  where
    nowhere : (key : ℕ) → bound_key unused ≡ Some key → ⊥
    nowhere key is = cc
