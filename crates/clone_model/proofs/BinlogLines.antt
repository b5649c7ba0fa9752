-- The lines that were read so far, and those that may follow.
use Rattle.std.proofs.Common.{◌≡◌, ℕ, ◌+◌, ◌-◌, ◌<◌, ◌≤◌, ◌^◌, List, [], ◌∷◌, ◌++◌, length, map, refl, sym, ap, ◌∙◌, subst, arith, inl, inr, append_assoc, append-nil, length-append}
use Rattle.std.specs.List.{AllByRecursion, flat_map}
use Rattle.std.proofs.lemmas.List.{flat_map_more, length-map}
use Rattle.std.proofs.lemmas.List.Concat.{flat_map-append}
use Rattle.std.proofs.lemmas.List.Folds.{flat_map-map}
use Rattle.clone_model.specs.Texts.{ended, change_text, changes_text, commit_text, binlog_text}
use Rattle.clone_model.specs.Reading.{IsChange, IsCommit, AreCommits, first_line, commit_lines, binlog_lines}
use Rattle.clone_model.specs.Following.{IsFirstLine, Follow, StopsAt, IsRefusedBy}
use Rattle.clone_model.specs.declared.change.Change.{Change}
use Rattle.clone_model.specs.declared.change.Commit.{Commit}
use Rattle.clone_model.specs.declared.reading.ReadRefusal.{ReadRefusal}
use Rattle.clone_model.specs.declared.reading.ReadRefusal.TheVariants.{BadLine, NoMemory}
use Rattle.clone_model.proofs.Cuts.{recursion-append}

pub commit_text-lines : (commit : Commit) → commit_text commit ≡ flat_map ended (commit_lines commit)
commit_text-lines commit = ap (λ t. ended (first_line commit.writer commit.index (length commit.changes)) ++ t) (sym (flat_map-map ended change_text commit.changes))

pub binlog_text-lines : (commits : List Commit) → binlog_text commits ≡ flat_map ended (binlog_lines commits)
binlog_text-lines [] = refl
binlog_text-lines (c ∷ commits) =
    ap (λ t. t ++ binlog_text commits) (commit_text-lines c) ∙ ap (λ t. flat_map ended (commit_lines c) ++ t) (binlog_text-lines commits) ∙ sym (flat_map-append ended (commit_lines c) (binlog_lines commits))

pub Follow-append : (missing between after : ℕ) (front lines : List (List ℕ)) → Follow missing front between → Follow between lines after → Follow missing (front ++ lines) after
Follow-append missing between after [] lines h k = subst (λ n. Follow n lines after) h k
Follow-append missing between after (line ∷ front) lines h k = (h.0, h.1, Follow-append h.0 between after front lines h.2 k)

pub Follow-changes : (changes : List Change) (missing after : ℕ) → AllByRecursion IsChange changes → missing ≡ after + length changes → Follow missing (map change_text changes) after
Follow-changes [] missing after h e = omega arith
Follow-changes (c ∷ changes) missing after h e =
    (missing - 1, inr (omega arith, record { change = c; is_change = h.0; same = refl }), Follow-changes changes (missing - 1) after h.1 (omega arith))

pub Follow-commit : (commit : Commit) → IsCommit commit → Follow 0 (commit_lines commit) 0
Follow-commit commit is =
    let first : IsFirstLine (first_line commit.writer commit.index (length commit.changes)) (length commit.changes) = record {
      writer = commit.writer;
      index = commit.index;
      writer_fits = is.writer_fits;
      index_fits = is.index_fits;
      count_fits = is.count_fits;
      same = refl;
    } in
    (length commit.changes, inl (refl, first), Follow-changes commit.changes (length commit.changes) 0 is.changes (omega arith))

pub Follow-commits : (commits : List Commit) → AreCommits commits → Follow 0 (binlog_lines commits) 0
Follow-commits [] are = refl
Follow-commits (c ∷ commits) are = Follow-append 0 0 0 (commit_lines c) (binlog_lines commits) (Follow-commit c are.0) (Follow-commits commits are.1)

-- a stop behind lines that may stand there
pub StopsAt-behind : (lines : List (List ℕ)) (text rest : List ℕ) (missing between before more number : ℕ) → text ≡ flat_map ended lines ++ rest → Follow missing lines between
    → more ≡ before + length lines → StopsAt between rest more number → StopsAt missing text before number
StopsAt-behind lines text rest missing between before more number e good count h =
    record {
      front = lines ++ h.front;
      rest = h.rest;
      after = h.after;
      split = e ∙ ap (λ t. flat_map ended lines ++ t) h.split ∙ sym (append_assoc (flat_map ended lines) (flat_map ended h.front) h.rest) ∙ ap (λ t. t ++ h.rest) (sym (flat_map-append ended lines h.front));
      count = omega (arith, length-append lines h.front, h.count);
      good = Follow-append missing between h.after lines h.front good h.good;
      no_line = h.no_line;
      no_end = h.no_end;
    }

pub IsRefusedBy-behind : (lines : List (List ℕ)) (text rest : List ℕ) (missing between before more : ℕ) (refusal : ReadRefusal) → text ≡ flat_map ended lines ++ rest → Follow missing lines between
    → more ≡ before + length lines → IsRefusedBy between rest more refusal → IsRefusedBy missing text before refusal
IsRefusedBy-behind lines text rest missing between before more (BadLine number) e good count h = StopsAt-behind lines text rest missing between before more number e good count h
IsRefusedBy-behind lines text rest missing between before more NoMemory e good count h = tt

-- a refusal behind the first line of a commit
pub IsRefusedBy-first : (text rest : List ℕ) (writer index count before : ℕ) (refusal : ReadRefusal) → writer < 2 ^ 32 → index < 2 ^ 64 → count < 2 ^ 64
    → text ≡ ended (first_line writer index count) ++ rest → IsRefusedBy count rest (before + 1) refusal → IsRefusedBy 0 text before refusal
IsRefusedBy-first text rest writer index count before refusal w i n e h =
    let line = first_line writer index count in
    let first : IsFirstLine line count = record { writer = writer; index = index; writer_fits = w; index_fits = i; count_fits = n; same = refl } in
    let good : Follow 0 (line ∷ []) count = (count, inl (refl, first), refl) in
    IsRefusedBy-behind (line ∷ []) text rest 0 count before (before + 1) refusal (e ∙ ap (λ t. t ++ rest) (sym (append-nil (ended line)))) good (omega arith) h

-- the changes before the rest
pub record HasChanges (text : List ℕ) (changes : List Change) (number : ℕ) (rest : List ℕ) : Type 0 where
  pub are : AllByRecursion IsChange changes
  pub count : length changes ≡ number
  pub same : text ≡ changes_text changes ++ rest
  pub within : number + length rest ≤ length text

-- no change is read where one is missing
pub StopsAt-changes : (text rest : List ℕ) (changes : List Change) (number count before : ℕ) → HasChanges text changes number rest → number < count
    → ((change : Change) (behind : List ℕ) → IsChange change → rest ≡ ended (change_text change) ++ behind → ⊥) → StopsAt count text before (before + number + 1)
StopsAt-changes text rest changes number count before h lt none =
    record {
      front = map change_text changes;
      rest = rest;
      after = count - number;
      split = h.same ∙ ap (λ t. t ++ rest) (sym (flat_map-map ended change_text changes));
      count = omega (arith, length-map changes change_text, h.count);
      good = Follow-changes changes count (count - number) h.are (omega (arith, h.count));
      no_line = λ line behind more e follows. elim follows as (λ _. ⊥) [
        | inl first ↦ omega (arith, first.0)
        | inr next ↦ none next.1.change behind next.1.is_change (e ∙ ap (λ l. ended l ++ behind) next.1.same)
      ];
      no_end = λ e zero. omega arith;
    }

-- the commits before the rest
pub record HasCommits (text : List ℕ) (commits : List Commit) (number : ℕ) (rest : List ℕ) : Type 0 where
  pub are : AreCommits commits
  pub same : text ≡ binlog_text commits ++ rest
  pub count : number ≡ length (binlog_lines commits)
  pub within : number + length rest ≤ length text

changes_text_is_longer : (changes : List Change) → length changes ≤ length (changes_text changes)
changes_text_is_longer [] = omega arith
changes_text_is_longer (c ∷ changes) =
    omega (arith, changes_text_is_longer changes, length-append (ended (change_text c)) (changes_text changes), length-append (change_text c) (10 ∷ []))

pub commit_is_longer : (commit : Commit) (behind rest : List ℕ) → rest ≡ commit_text commit ++ behind → length commit.changes + 1 + length behind ≤ length rest
commit_is_longer commit behind rest e =
    let first = first_line commit.writer commit.index (length commit.changes) in
    omega (arith, ap length e, length-append (commit_text commit) behind, length-append (ended first) (changes_text commit.changes), length-append first (10 ∷ []), changes_text_is_longer commit.changes)

pub HasCommits-more : (text rest behind : List ℕ) (commits : List Commit) (commit : Commit) (number : ℕ) → HasCommits text commits number rest → IsCommit commit
    → rest ≡ commit_text commit ++ behind → HasCommits text (commits ++ commit ∷ []) (number + (1 + length commit.changes)) behind
HasCommits-more text rest behind commits commit number h is e =
    record {
      are = recursion-append IsCommit commits (commit ∷ []) h.are (is, tt);
      same = h.same ∙ ap (λ r. binlog_text commits ++ r) e ∙ sym (append_assoc (binlog_text commits) (commit_text commit) behind) ∙ ap (λ t. t ++ behind) (flat_map_more commit_text [] commits commit);
      count = omega (arith, ap length (flat_map_more commit_lines [] commits commit), length-append (binlog_lines commits) (commit_lines commit), length-map commit.changes change_text, h.count);
      within = omega (arith, h.within, commit_is_longer commit behind rest e);
    }

-- a refusal behind the commits that were read
pub IsRefusedBy-commits : (text rest : List ℕ) (commits : List Commit) (number : ℕ) (refusal : ReadRefusal) → HasCommits text commits number rest → IsRefusedBy 0 rest number refusal → IsRefusedBy 0 text 0 refusal
IsRefusedBy-commits text rest commits number refusal h k =
    IsRefusedBy-behind (binlog_lines commits) text rest 0 0 0 number refusal (h.same ∙ ap (λ t. t ++ rest) (binlog_text-lines commits)) (Follow-commits commits h.are) (omega (arith, h.count)) k
