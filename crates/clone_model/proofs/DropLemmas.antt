-- A drop takes the rows of its table, and no others.
use Rattle.std.proofs.Common.{◌≡◌, ◌≢◌, ◌==◌, ℕ, List, [], ◌∷◌, ◌++◌, length, Bool, true, false, cond, not, Option, None, refl, sym, ap, ◌∙◌}
use Rattle.std.proofs.lemmas.Bool.{false_from_ne_true, eq-eqb, eqb-true}
use Rattle.std.specs.FinMap as finite
use Rattle.std.specs.FinMap.{get-retain_keys}
use Rattle.clone_model.specs.History.{Drops, Rows, Dropped, fold, history_of, without_table}
use Rattle.clone_model.specs.declared.change.Commit.{Commit}
use Rattle.clone_model.proofs.HistoryLemmas.{history-dropped, after_entries-append}
use Rattle.clone_model.proofs.RowMaps.{row_cmp_exact}

-- what is left of a row
get-without_table : (table : ℕ) (rows : Rows) (row : ℕ × ℕ) → finite.get (without_table table rows) row ≡ cond (not (row.0 == table)) (finite.get rows row) None
get-without_table table rows row = get-retain_keys rows (λ r. not (r.0 == table)) row (λ r same. ap (λ (q : ℕ × ℕ). not (q.0 == table)) (sym (row_cmp_exact row r same)))

pub without_own : (table key : ℕ) (rows : Rows) → finite.get (without_table table rows) (table, key) ≡ None
without_own table key rows = get-without_table table rows (table, key) ∙ ap (λ (b : Bool). cond (not b) (finite.get rows (table, key)) None) (eq-eqb table table refl)

pub without_other : (table other key : ℕ) (rows : Rows) → other ≢ table → finite.get (without_table table rows) (other, key) ≡ finite.get rows (other, key)
without_other table other key rows apart = get-without_table table rows (other, key) ∙ ap (λ (b : Bool). cond (not b) (finite.get rows (other, key)) None) (false_from_ne_true (other == table) (λ same. apart (eqb-true other table same)))

-- a drop behind a history
pub fold-dropped : (binlog : List Commit) (drops : Drops) (table : ℕ) → fold (history_of binlog (drops ++ (length binlog, table) ∷ [])) ≡ without_table table (fold (history_of binlog drops))
fold-dropped binlog drops table = ap fold (history-dropped binlog drops table) ∙ after_entries-append finite.empty (history_of binlog drops) (Dropped table ∷ [])

pub dropped_own : (binlog : List Commit) (drops : Drops) (table key : ℕ) → finite.get (fold (history_of binlog (drops ++ (length binlog, table) ∷ []))) (table, key) ≡ None
dropped_own binlog drops table key = ap (λ (rows : Rows). finite.get rows (table, key)) (fold-dropped binlog drops table) ∙ without_own table key (fold (history_of binlog drops))

pub dropped_other : (binlog : List Commit) (drops : Drops) (table other key : ℕ) → other ≢ table
    → finite.get (fold (history_of binlog (drops ++ (length binlog, table) ∷ []))) (other, key) ≡ finite.get (fold (history_of binlog drops)) (other, key)
dropped_other binlog drops table other key apart = ap (λ (rows : Rows). finite.get rows (other, key)) (fold-dropped binlog drops table) ∙ without_other table other key (fold (history_of binlog drops)) apart
