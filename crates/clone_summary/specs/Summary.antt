-- The texts of a run: how many commits each writer has, and that the clone is complete; and, where
-- it is asked for, at what the clone is complete, and the rows that it has.
use Rattle.std.specs.Prelude.{ℕ, ◌==◌, ◌++◌, List, [], codes, count_by, if◌then◌else◌, nat_le}
use Rattle.std.specs.Fmt.{decimal}
use Rattle.std.specs.List.{enumerate_from, flat_map, range_with_len}
use Rattle.clone_model.specs.History.{Row}
use Rattle.clone_model.specs.Texts.{ended}
use Rattle.clone_model.specs.declared.change.Commit.{Commit}
use Rattle.clone_plain.specs.Answers.{Text, rows_answer}

-- how many commits of a binlog are of a writer
abbrev pub commits_of : List Commit → ℕ → ℕ
commits_of binlog writer = count_by (λ c. c.writer == writer) binlog

-- what was asked for
abbrev pub load_text : (seed writers transactions : ℕ) → Text
load_text seed writers transactions =
    codes "seed " ++ decimal seed ++ codes " writers " ++ decimal writers
    ++ codes " transactions " ++ decimal transactions

abbrev pub writer_text : (writer count : ℕ) → Text
writer_text writer count = codes "writer " ++ decimal writer ++ codes " commits " ++ decimal count

-- so many writers, the first of which is 0, each on a line
abbrev pub writers_text : List Commit → ℕ → Text
writers_text binlog writers =
    flat_map (λ writer. ended (writer_text writer (commits_of binlog writer)))
    (range_with_len 0 writers)

-- the same of writers by their counts
abbrev pub counted_text : List ℕ → Text
counted_text counts =
    flat_map (λ (counted : ℕ × ℕ). ended (writer_text counted.0 counted.1))
    (enumerate_from 0 counts)

-- whether the clone has as many commits as were looked up before
abbrev pub floor_text : (position floor : ℕ) → Text
floor_text position floor = if nat_le floor position then ended (codes "floor met") else []

-- THE SUMMARY of a run with a binlog, whose clone is complete
abbrev pub summary_text : (seed writers transactions : ℕ) → List Commit → (position floor : ℕ)
    → Text
summary_text seed writers transactions binlog position floor =
    ended (load_text seed writers transactions) ++ writers_text binlog writers
    ++ ended (codes "clone complete") ++ floor_text position floor

-- at what a clone is complete, and what was looked up before
abbrev pub cloned_text : (lsn position floor : ℕ) → Text
cloned_text lsn position floor =
    codes "lsn " ++ decimal lsn ++ codes " position " ++ decimal position
    ++ codes " floor " ++ decimal floor

-- THE REPORT: that, and then the rows of the clone and their number
abbrev pub report_text : (lsn position floor : ℕ) → List Row → Text
report_text lsn position floor rows =
    ended (cloned_text lsn position floor) ++ ended (rows_answer rows)
