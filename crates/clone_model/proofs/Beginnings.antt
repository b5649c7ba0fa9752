-- The lines with which the text of a binlog begins are those that follow each other.
use Rattle.std.proofs.Common.{◌≡◌, ℕ, List, [], ◌∷◌, ◌++◌, length, map, zero, suc, None, Err, refl, sym, ap, ◌∙◌, subst, arith, inl, inr, append-nil}
use Rattle.std.specs.List.{AllByRecursion}
use Rattle.clone_model.specs.Texts.{change_text}
use Rattle.clone_model.specs.Reading.{IsChange, IsCommit, AreCommits, first_line, binlog_lines, Begins, IsFirstBad, ReadsBinlog}
use Rattle.clone_model.specs.Following.{Follows, Follow, StopsAt, IsRefusedBy}
use Rattle.clone_model.specs.declared.change.Change.{Change}
use Rattle.clone_model.specs.declared.change.Commit.{Commit}
use Rattle.clone_model.specs.declared.reading.ReadRefusal.{ReadRefusal}
use Rattle.clone_model.specs.declared.reading.ReadRefusal.TheVariants.{BadLine, NoMemory}
use Rattle.clone_model.proofs.BinlogLines.{Follow-commits}
use Rattle.clone_model.proofs.LineTexts.{same_first_lines}

-- behind a front of lines, the others follow
pub Follow-split : (missing after : ℕ) (front lines : List (List ℕ)) → Follow missing (front ++ lines) after → (between : ℕ) × Follow missing front between × Follow between lines after
Follow-split missing after [] lines h = (missing, refl, h)
Follow-split missing after (line ∷ front) lines h =
    let others = Follow-split h.0 after front lines h.2 in
    (others.0, (h.0, h.1, others.1), others.2)

-- a line leaves one number of changes missing
Follows-same : (missing m n : ℕ) (line : List ℕ) → Follows missing line m → Follows missing line n → m ≡ n
Follows-same missing m n line (inl a) (inl b) =
    let first = same_first_lines a.1.writer a.1.index m b.1.writer b.1.index n a.1.writer_fits a.1.index_fits a.1.count_fits b.1.writer_fits b.1.index_fits b.1.count_fits (sym a.1.same ∙ b.1.same) in
    first.2
Follows-same missing m n line (inl a) (inr b) = omega (arith, a.0, b.0)
Follows-same missing m n line (inr a) (inl b) = omega (arith, a.0, b.0)
Follows-same missing m n line (inr a) (inr b) = omega (arith, a.0, b.0)

Follow-same : (missing m n : ℕ) (lines : List (List ℕ)) → Follow missing lines m → Follow missing lines n → m ≡ n
Follow-same missing m n [] h k = h ∙ sym k
Follow-same missing m n (line ∷ lines) h k =
    let between = Follows-same missing h.0 k.0 line h.1 k.1 in
    Follow-same k.0 m n lines (subst (λ b. Follow b lines m) between h.2) k.2

-- The lines are the front of those of some changes, as many as are missing, and of commits behind them.
record Rest (missing : ℕ) (lines : List (List ℕ)) : Type 0 where
  changes : List Change
  commits : List Commit
  behind : List (List ℕ)
  are_changes : AllByRecursion IsChange changes
  are : AreCommits commits
  count : length changes ≡ missing
  same : map change_text changes ++ binlog_lines commits ≡ lines ++ behind

-- so many changes, whatever they are
some_changes : (n : ℕ) → (changes : List Change) × (length changes ≡ n) × AllByRecursion IsChange changes
some_changes zero = ([], refl, tt)
some_changes (suc n) =
    let others = some_changes n in
    let change : Change = record { table = 0; key = 0; value = None } in
    let is : IsChange change = record { table_fits = omega arith; key_fits = omega arith; is_value = tt } in
    (change ∷ others.0, omega (arith, others.1), (is, others.2))

Rest-none : (missing : ℕ) → Rest missing []
Rest-none missing =
    let some = some_changes missing in
    record { changes = some.0; commits = []; behind = map change_text some.0; are_changes = some.2; are = tt; count = some.1; same = append-nil (map change_text some.0) }

Rest-line : (missing between : ℕ) (line : List ℕ) (lines : List (List ℕ)) → Follows missing line between → Rest between lines → Rest missing (line ∷ lines)
Rest-line missing between line lines (inl first) h =
    let commit : Commit = record { writer = first.1.writer; index = first.1.index; changes = h.changes } in
    let is : IsCommit commit = record {
      writer_fits = first.1.writer_fits;
      index_fits = first.1.index_fits;
      count_fits = omega (arith, h.count, first.1.count_fits);
      changes = h.are_changes;
    } in
    let head : first_line first.1.writer first.1.index (length h.changes) ≡ line = ap (λ n. first_line first.1.writer first.1.index n) h.count ∙ sym first.1.same in
    record {
      changes = [];
      commits = commit ∷ h.commits;
      behind = h.behind;
      are_changes = tt;
      are = (is, h.are);
      count = sym first.0;
      same = ap (λ l. l ∷ (map change_text h.changes ++ binlog_lines h.commits)) head ∙ ap (λ ls. line ∷ ls) h.same;
    }
Rest-line missing between line lines (inr next) h =
    record {
      changes = next.1.change ∷ h.changes;
      commits = h.commits;
      behind = h.behind;
      are_changes = (next.1.is_change, h.are_changes);
      are = h.are;
      count = omega (arith, h.count, next.0);
      same = ap (λ l. l ∷ (map change_text h.changes ++ binlog_lines h.commits)) (sym next.1.same) ∙ ap (λ ls. line ∷ ls) h.same;
    }

Rest-from : (missing after : ℕ) (lines : List (List ℕ)) → Follow missing lines after → Rest missing lines
Rest-from missing after [] h = Rest-none missing
Rest-from missing after (line ∷ lines) h = Rest-line missing h.0 line lines h.1 (Rest-from h.0 after lines h.2)

-- lines that follow each other begin a binlog
pub Begins-from : (after : ℕ) (lines : List (List ℕ)) → Follow 0 lines after → Begins lines
Begins-from after lines h =
    let r = Rest-from 0 after lines h in
    (elim r.changes as (λ cs. length cs ≡ 0 → map change_text cs ++ binlog_lines r.commits ≡ lines ++ r.behind → Begins lines) [
      | [] ↦ λ count same. record { commits = r.commits; are = r.are; behind = r.behind; same = same }
      | c ∷ cs ↦ λ count same. absurd (omega (arith, count))
    ]) r.count r.same

-- and only such lines do
pub Follow-begins : (lines : List (List ℕ)) → Begins lines → (after : ℕ) × Follow 0 lines after
Follow-begins lines h =
    let parts = Follow-split 0 0 lines h.behind (subst (λ ls. Follow 0 ls 0) h.same (Follow-commits h.commits h.are)) in
    (parts.0, parts.1)

-- where lines stop, the next is the first bad one
pub IsFirstBad-from : (text : List ℕ) (number : ℕ) → StopsAt 0 text 0 number → IsFirstBad text number
IsFirstBad-from text number h =
    record {
      front = h.front;
      rest = h.rest;
      split = h.split;
      count = omega (arith, h.count);
      good = Begins-from h.after h.front h.good;
      no_line = λ line behind e begins.
          let all = Follow-begins (h.front ++ line ∷ []) begins in
          let parts = Follow-split 0 all.0 h.front (line ∷ []) all.1 in
          let between = Follow-same 0 parts.0 h.after h.front parts.1 h.good in
          h.no_line line behind parts.2.0 e (subst (λ b. Follows b line parts.2.0) between parts.2.1);
      no_end = λ e commits are same.
          h.no_end e (Follow-same 0 h.after 0 h.front h.good (subst (λ ls. Follow 0 ls 0) same (Follow-commits commits are)));
    }

pub ReadsBinlog-from : (text : List ℕ) (refusal : ReadRefusal) → IsRefusedBy 0 text 0 refusal → ReadsBinlog text (Err refusal)
ReadsBinlog-from text (BadLine number) h = IsFirstBad-from text number h
ReadsBinlog-from text NoMemory h = tt
