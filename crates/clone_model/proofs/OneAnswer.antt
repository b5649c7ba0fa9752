-- A text has one answer.
use Rattle.std.proofs.Common.{◌≡◌, ◌≢◌, ℕ, List, [], ◌∷◌, ◌++◌, length, map, Result, Ok, Err, refl, sym, ap, ◌∙◌, arith, inl, inr, ◌⊎◌, append_assoc, append-nil, length-append}
use Rattle.std.specs.List.{AllByRecursion, flat_map}
use Rattle.clone_model.specs.Texts.{ended, change_text, binlog_text}
use Rattle.clone_model.specs.Reading.{IsChange, AreCommits, commit_lines, binlog_lines, Begins, IsFirstBad, ReadsBinlog}
use Rattle.clone_model.specs.declared.change.Change.{Change}
use Rattle.clone_model.specs.declared.change.Commit.{Commit}
use Rattle.clone_model.specs.declared.reading.ReadRefusal.{ReadRefusal}
use Rattle.clone_model.specs.declared.reading.ReadRefusal.TheVariants.{BadLine, NoMemory}
use Rattle.clone_model.proofs.Cuts.{Lacks, recursion-append, recursion-front, same_cuts}
use Rattle.clone_model.proofs.LineTexts.{Lacks-change_text, Lacks-first_line}
use Rattle.clone_model.proofs.BinlogLines.{binlog_text-lines}
use Rattle.clone_model.proofs.Values.{same_commits}

-- each is one line
abbrev AreLines : List (List ℕ) → Type 0
AreLines lines = AllByRecursion (Lacks 10) lines

AreLines-changes : (changes : List Change) → AllByRecursion IsChange changes → AreLines (map change_text changes)
AreLines-changes [] h = tt
AreLines-changes (c ∷ changes) h = (Lacks-change_text c h.0, AreLines-changes changes h.1)

AreLines-commits : (commits : List Commit) → AreCommits commits → AreLines (binlog_lines commits)
AreLines-commits [] h = tt
AreLines-commits (c ∷ commits) h =
    let first = Lacks-first_line c.writer c.index (length c.changes) h.0.writer_fits h.0.index_fits h.0.count_fits in
    recursion-append (Lacks 10) (commit_lines c) (binlog_lines commits) (first, AreLines-changes c.changes h.0.changes) (AreLines-commits commits h.1)

AreLines-begins : (lines : List (List ℕ)) → Begins lines → AreLines lines
AreLines-begins lines h = recursion-front (Lacks 10) lines h.behind (rw (← h.same) (AreLines-commits h.commits h.are))

Begins-front : (front lines : List (List ℕ)) → Begins (front ++ lines) → Begins front
Begins-front front lines h = record { commits = h.commits; are = h.are; behind = lines ++ h.behind; same = h.same ∙ append_assoc front lines h.behind }

-- one text of lines is the front of the other
abbrev IsFrontOf : List (List ℕ) → List (List ℕ) → List ℕ → List ℕ → Type 0
IsFrontOf xs ys rest others = (more : List (List ℕ)) × (ys ≡ xs ++ more) × (rest ≡ flat_map ended more ++ others)

-- the first of two lines and what stands behind them
same_lines : (l m rest others : List ℕ) → Lacks 10 l → Lacks 10 m → ended l ++ rest ≡ ended m ++ others → (l ≡ m) × (rest ≡ others)
same_lines l m rest others p q e = same_cuts 10 l m rest others p q (sym (append_assoc l (10 ∷ []) rest) ∙ e ∙ append_assoc m (10 ∷ []) others)

IsFrontOf-more : (l m : List ℕ) (xs ys : List (List ℕ)) (rest others : List ℕ) → l ≡ m → IsFrontOf xs ys rest others → IsFrontOf (l ∷ xs) (m ∷ ys) rest others
IsFrontOf-more l m xs ys rest others e h =
    let whole : m ∷ ys ≡ l ∷ (xs ++ h.0) = cc (e, h.1) in
    (h.0, whole, h.2)

compared : (xs ys : List (List ℕ)) (rest others : List ℕ) → AreLines xs → AreLines ys → flat_map ended xs ++ rest ≡ flat_map ended ys ++ others
    → IsFrontOf xs ys rest others ⊎ IsFrontOf ys xs others rest
compared [] ys rest others p q e = inl (ys, refl, e)
compared (x ∷ xs) [] rest others p q e = inr (x ∷ xs, refl, sym e)
compared (x ∷ xs) (y ∷ ys) rest others p q e =
    let cut = same_lines x y (flat_map ended xs ++ rest) (flat_map ended ys ++ others) p.0 q.0 (sym (append_assoc (ended x) (flat_map ended xs) rest) ∙ e ∙ append_assoc (ended y) (flat_map ended ys) others) in
    (elim (compared xs ys rest others p.1 q.1 cut.1) as (λ _. IsFrontOf (x ∷ xs) (y ∷ ys) rest others ⊎ IsFrontOf (y ∷ ys) (x ∷ xs) others rest) [
      | inl h ↦ inl (IsFrontOf-more x y xs ys rest others cut.0 h)
      | inr h ↦ inr (IsFrontOf-more y x ys xs others rest (sym cut.0) h)
    ])

-- behind the lines before the first bad one stand no others with which a binlog goes on
no_more : (text : List ℕ) (n : ℕ) (h : IsFirstBad text n) (more : List (List ℕ)) (others : List ℕ) → h.rest ≡ flat_map ended more ++ others → Begins (h.front ++ more) → more ≡ []
no_more text n h [] others e begins = refl
no_more text n h (l ∷ more) others e begins =
    let split = e ∙ append_assoc (ended l) (flat_map ended more) others in
    let regrouped = sym (append_assoc h.front (l ∷ []) more) in
    absurd (h.no_line l (flat_map ended more ++ others) split (Begins-front (h.front ++ l ∷ []) more (rw (← regrouped) begins)))

front_is_same : (text : List ℕ) (m n : ℕ) (a : IsFirstBad text m) (b : IsFirstBad text n) → IsFrontOf a.front b.front a.rest b.rest → m ≡ n
front_is_same text m n a b h =
    let none = no_more text m a h.0 b.rest h.2 (rw (← h.1) b.good) in
    let same : b.front ≡ a.front = h.1 ∙ ap (λ more. a.front ++ more) none ∙ append-nil a.front in
    omega (arith, a.count, b.count, ap length same)

same_bad_lines : (text : List ℕ) (m n : ℕ) → IsFirstBad text m → IsFirstBad text n → m ≡ n
same_bad_lines text m n a b =
    elim (compared a.front b.front a.rest b.rest (AreLines-begins a.front a.good) (AreLines-begins b.front b.good) (sym a.split ∙ b.split)) as (λ _. m ≡ n) [
      | inl h ↦ front_is_same text m n a b h
      | inr h ↦ sym (front_is_same text n m b a h)
    ]

-- the lines of commits and no others
whole_lines : (text : List ℕ) (commits : List Commit) → text ≡ binlog_text commits → text ≡ flat_map ended (binlog_lines commits) ++ []
whole_lines text commits e = e ∙ binlog_text-lines commits ∙ sym (append-nil (flat_map ended (binlog_lines commits)))

-- no lines are shorter than one
no_lines : (lines : List (List ℕ)) (rest : List ℕ) → [] ≡ flat_map ended lines ++ rest → (lines ≡ []) × (rest ≡ [])
no_lines [] rest e = (refl, sym e)
no_lines (l ∷ lines) rest e =
    absurd (omega (arith, ap length e, length-append (ended l ++ flat_map ended lines) rest, length-append (ended l) (flat_map ended lines), length-append l (10 ∷ [])))

-- the text of a binlog has no bad line
no_bad_line : (text : List ℕ) (commits : List Commit) (n : ℕ) → text ≡ binlog_text commits → AreCommits commits → IsFirstBad text n → ⊥
no_bad_line text commits n e are h =
    let lines = binlog_lines commits in
    elim (compared h.front lines h.rest [] (AreLines-begins h.front h.good) (AreLines-commits commits are) (sym h.split ∙ whole_lines text commits e)) as (λ _. ⊥) [
      | inl k ↦
          let begins : Begins lines = record { commits = commits; are = are; behind = []; same = sym (append-nil lines) } in
          let none = no_more text n h k.0 [] k.2 (rw (← k.1) begins) in
          h.no_end (k.2 ∙ ap (λ more. flat_map ended more ++ []) none) commits are (k.1 ∙ ap (λ more. h.front ++ more) none ∙ append-nil h.front)
      | inr k ↦
          let none = no_lines k.0 h.rest k.2 in
          h.no_end none.1 commits are (sym (k.1 ∙ ap (λ more. lines ++ more) none.0 ∙ append-nil lines))
    ]

-- two binlogs with one text are one
pub same_binlogs : (a b : List Commit) → AreCommits a → AreCommits b → binlog_text a ≡ binlog_text b → a ≡ b
same_binlogs a b p q e =
    let lines : binlog_lines a ≡ binlog_lines b = elim (compared (binlog_lines a) (binlog_lines b) [] [] (AreLines-commits a p) (AreLines-commits b q) (sym (whole_lines (binlog_text a) a refl) ∙ whole_lines (binlog_text a) b e)) as (λ _. binlog_lines a ≡ binlog_lines b) [
      | inl h ↦ sym (h.1 ∙ ap (λ more. binlog_lines a ++ more) (no_lines h.0 [] h.2).0 ∙ append-nil (binlog_lines a))
      | inr h ↦ h.1 ∙ ap (λ more. binlog_lines b ++ more) (no_lines h.0 [] h.2).0 ∙ append-nil (binlog_lines b)
    ] in
    same_commits a b p q lines

-- two answers to one text are one, unless memory runs out
pub one_answer : (text : List ℕ) (a b : Result (List Commit) ReadRefusal) → ReadsBinlog text a → ReadsBinlog text b → a ≢ Err NoMemory → b ≢ Err NoMemory → a ≡ b
one_answer text (Ok a) (Ok b) h k p q = ap Ok (same_binlogs a b h.1 k.1 (sym h.0 ∙ k.0))
one_answer text (Ok a) (Err (BadLine n)) h k p q = absurd (no_bad_line text a n h.0 h.1 k)
one_answer text (Ok a) (Err NoMemory) h k p q = absurd (q refl)
one_answer text (Err (BadLine m)) (Ok b) h k p q = absurd (no_bad_line text b m k.0 k.1 h)
one_answer text (Err (BadLine m)) (Err (BadLine n)) h k p q = ap (λ number. Err (BadLine number)) (same_bad_lines text m n h k)
one_answer text (Err (BadLine m)) (Err NoMemory) h k p q = absurd (q refl)
one_answer text (Err NoMemory) b h k p q = absurd (p refl)

-- a binlog is read back from its text
pub read_back : (commits : List Commit) (answer : Result (List Commit) ReadRefusal) → AreCommits commits → ReadsBinlog (binlog_text commits) answer → answer ≢ Err NoMemory → answer ≡ Ok commits
read_back commits answer are h some = one_answer (binlog_text commits) answer (Ok commits) h (refl, are) some (λ e. cc)
