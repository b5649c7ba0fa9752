-- A history is longer by one entry where its binlog or its drops are.
use Rattle.std.proofs.Common.{◌≡◌, ℕ, ◌+◌, ◌-◌, ◌≤◌, List, [], ◌∷◌, ◌++◌, length, map, take, drop, refl, sym, ap, ◌∙◌, arith, append_assoc}
use Rattle.std.proofs.lemmas.List.{drop-append-le, take-append-le, take_all, length-drop, map-append}
use Rattle.std.proofs.Math.Seq.{drop-length}
use Rattle.std.specs.List.{AllByRecursion}
use Rattle.std.specs.FinMap as finite
use Rattle.clone_model.specs.History.{Entry, Committed, Dropped, Drops, Rows, after_commit, after_commits, after_entries, after_entry, fold, history_from, history_of}
use Rattle.clone_model.specs.declared.change.Commit.{Commit}

-- the commits from a position on up to a drop
between : ℕ → ℕ → List Commit → List Entry
between n m binlog = map Committed (take (m - n) (drop n binlog))

between-longer : (n m : ℕ) (binlog : List Commit) (c : Commit) → n ≤ length binlog → m ≤ length binlog → between n m (binlog ++ c ∷ []) ≡ between n m binlog
unfolding between
between-longer n m binlog c low high =
    let within : m - n ≤ length (drop n binlog) = omega (arith, length-drop n binlog) in
    ap (λ cs. map Committed (take (m - n) cs)) (drop-append-le n binlog (c ∷ []) low) ∙ ap (map Committed) (take-append-le (m - n) (drop n binlog) (c ∷ []) within)

from-committed : (n : ℕ) (binlog : List Commit) (drops : Drops) (c : Commit) → n ≤ length binlog → AllByRecursion (λ (d : ℕ × ℕ). d.0 ≤ length binlog) drops
    → history_from n (binlog ++ c ∷ []) drops ≡ history_from n binlog drops ++ Committed c ∷ []
unfolding between
from-committed n binlog [] c le all = ap (map Committed) (drop-append-le n binlog (c ∷ []) le) ∙ map-append Committed (drop n binlog) (c ∷ [])
from-committed n binlog (d ∷ drops) c le all =
    ap (λ front. front ++ Dropped d.1 ∷ history_from d.0 (binlog ++ c ∷ []) drops) (between-longer n d.0 binlog c le all.0)
    ∙ ap (λ rest. between n d.0 binlog ++ Dropped d.1 ∷ rest) (from-committed d.0 binlog drops c all.0 all.1)
    ∙ sym (append_assoc (between n d.0 binlog) (Dropped d.1 ∷ history_from d.0 binlog drops) (Committed c ∷ []))

pub history-committed : (binlog : List Commit) (drops : Drops) (c : Commit) → AllByRecursion (λ (d : ℕ × ℕ). d.0 ≤ length binlog) drops → history_of (binlog ++ c ∷ []) drops ≡ history_of binlog drops ++ Committed c ∷ []
history-committed binlog drops c all = from-committed 0 binlog drops c (omega arith) all

from-dropped : (n : ℕ) (binlog : List Commit) (drops : Drops) (table : ℕ) → history_from n binlog (drops ++ (length binlog, table) ∷ []) ≡ history_from n binlog drops ++ Dropped table ∷ []
unfolding between
from-dropped n binlog [] table =
    ap (λ front. map Committed front ++ Dropped table ∷ map Committed (drop (length binlog) binlog)) (take_all (length binlog - n) (drop n binlog) (omega (arith, length-drop n binlog)))
    ∙ ap (λ rest. map Committed (drop n binlog) ++ Dropped table ∷ map Committed rest) (drop-length binlog)
from-dropped n binlog (d ∷ drops) table =
    ap (λ rest. between n d.0 binlog ++ Dropped d.1 ∷ rest) (from-dropped d.0 binlog drops table)
    ∙ sym (append_assoc (between n d.0 binlog) (Dropped d.1 ∷ history_from d.0 binlog drops) (Dropped table ∷ []))

pub history-dropped : (binlog : List Commit) (drops : Drops) (table : ℕ) → history_of binlog (drops ++ (length binlog, table) ∷ []) ≡ history_of binlog drops ++ Dropped table ∷ []
history-dropped binlog drops table = from-dropped 0 binlog drops table

-- entries that come behind others
pub after_entries-append : (rows : Rows) (xs ys : List Entry) → after_entries rows (xs ++ ys) ≡ after_entries (after_entries rows xs) ys
after_entries-append rows [] ys = refl
after_entries-append rows (x ∷ xs) ys = after_entries-append (after_entry rows x) xs ys

-- a commit behind a history
pub fold-committed : (binlog : List Commit) (drops : Drops) (c : Commit) → AllByRecursion (λ (d : ℕ × ℕ). d.0 ≤ length binlog) drops → fold (history_of (binlog ++ c ∷ []) drops) ≡ after_commit (fold (history_of binlog drops)) c
fold-committed binlog drops c all = ap fold (history-committed binlog drops c all) ∙ after_entries-append finite.empty (history_of binlog drops) (Committed c ∷ [])

-- where nothing was dropped
committed_only : (rows : Rows) (commits : List Commit) → after_entries rows (map Committed commits) ≡ after_commits rows commits
committed_only rows [] = refl
committed_only rows (c ∷ commits) = committed_only (after_commit rows c) commits
