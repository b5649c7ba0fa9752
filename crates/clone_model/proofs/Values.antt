-- A value, a change and a commit each have a text of their own.
use Rattle.std.proofs.Common.{◌≡◌, ℕ, ◌/◌, ◌<◌, List, [], ◌∷◌, ◌++◌, length, map, drop, None, Some, refl, sym, ap, ◌∙◌, arith, append-nil}
use Rattle.std.specs.Prelude.{codes}
use Rattle.std.specs.Fmt.{decimal}
use Rattle.std.specs.List.{AllByRecursion}
use Rattle.std.specs.declared.option.Option.{Option}
use Rattle.std.proofs.lemmas.Bool.Decides.{nat_tests}
use Rattle.clone_model.specs.Texts.{hex_digit, hex, value_text, value_or_none, change_text}
use Rattle.clone_model.specs.Reading.{AreBytes, IsValueOrNone, IsChange, AreCommits, first_line, binlog_lines}
use Rattle.clone_model.specs.declared.change.Change.{Change}
use Rattle.clone_model.specs.declared.change.Commit.{Commit}
use Rattle.clone_model.proofs.HexTexts.{hex_rest}
use Rattle.clone_model.proofs.LineTexts.{same_fields, regrouped, same_first_lines}

-- the first byte of a text
abbrev first_of : List ℕ → ℕ
first_of [] = 0
first_of (b ∷ text) = b

-- the first text of texts
abbrev head_of : List (List ℕ) → List ℕ
head_of [] = []
head_of (text ∷ texts) = text

hex_digit-low : (n : ℕ) → n < 16 → hex_digit n < 103
hex_digit-low n h = grind (arith, nat_tests)

-- where a value is in front of nothing, it is the whole
nothing_behind : (v w others : List ℕ) → w ≡ v ++ others → [] ≡ hex others → v ≡ w
nothing_behind v w [] e none = sym (append-nil v) ∙ sym e
nothing_behind v w (b ∷ others) e none = absurd (omega (arith, ap length none))

same_values : (v w : List ℕ) → AreBytes v → AreBytes w → value_text v ≡ value_text w → v ≡ w
same_values [] [] p q e = refl
same_values [] (c ∷ w) p q e = absurd (omega (arith, ap length e))
same_values (b ∷ v) [] p q e = absurd (omega (arith, ap length e))
same_values (b ∷ v) (c ∷ w) p q e =
    let rest = hex_rest (b ∷ v) [] (c ∷ w) p q (append-nil (hex (b ∷ v)) ∙ e) in
    nothing_behind (b ∷ v) (c ∷ w) rest.0 rest.1 rest.2

-- the text `none` is of no value
none_is_no_value : (v : List ℕ) → AreBytes v → codes "none" ≡ value_text v → ⊥
none_is_no_value [] p e = omega (arith, ap first_of e)
none_is_no_value (b ∷ v) p e =
    let low = hex_digit-low (b / 16) (omega (arith, p.0)) in
    let same : 110 ≡ hex_digit (b / 16) = ap first_of e in
    omega (arith, low, same)

same_values_or_none : (v w : Option (List ℕ)) → IsValueOrNone v → IsValueOrNone w → value_or_none v ≡ value_or_none w → v ≡ w
same_values_or_none None None p q e = refl
same_values_or_none None (Some w) p q e = absurd (none_is_no_value w q.1 e)
same_values_or_none (Some v) None p q e = absurd (none_is_no_value v p.1 (sym e))
same_values_or_none (Some v) (Some w) p q e = ap Some (same_values v w p.1 q.1 e)

made_change : (table key : ℕ) (value : Option (List ℕ)) (d : Change) → table ≡ d.table → key ≡ d.key → value ≡ d.value → ◌≡◌ {A = Change} (record { table = table; key = key; value = value }) d
made_change table key value d t k v = rw (t, k, v) refl

same_change : (c d : Change) → IsChange c → IsChange d → change_text c ≡ change_text d → c ≡ d
same_change c d p q e =
    let fields = sym (regrouped (decimal c.table) (decimal c.key) (value_or_none c.value)) ∙ e ∙ regrouped (decimal d.table) (decimal d.key) (value_or_none d.value) in
    let first = same_fields c.table d.table (decimal c.key ++ 32 ∷ value_or_none c.value) (decimal d.key ++ 32 ∷ value_or_none d.value) (omega (arith, p.table_fits)) (omega (arith, q.table_fits)) fields in
    let second = same_fields c.key d.key (value_or_none c.value) (value_or_none d.value) p.key_fits q.key_fits first.1 in
    made_change c.table c.key c.value d first.0 second.0 (same_values_or_none c.value d.value p.is_value q.is_value second.1)

-- so many changes and what stands behind them
same_changes : (xs ys : List Change) (rest others : List (List ℕ)) → AllByRecursion IsChange xs → AllByRecursion IsChange ys → length xs ≡ length ys
    → map change_text xs ++ rest ≡ map change_text ys ++ others → (xs ≡ ys) × (rest ≡ others)
same_changes [] [] rest others p q n e = (refl, e)
same_changes [] (y ∷ ys) rest others p q n e = absurd (omega (arith, n))
same_changes (x ∷ xs) [] rest others p q n e = absurd (omega (arith, n))
same_changes (x ∷ xs) (y ∷ ys) rest others p q n e =
    let head = same_change x y p.0 q.0 (ap head_of e) in
    let count : length xs ≡ length ys = omega (arith, n) in
    let tail = same_changes xs ys rest others p.1 q.1 count (ap (drop 1) e) in
    let whole : x ∷ xs ≡ y ∷ ys = cc (head, tail.0) in
    (whole, tail.1)

made_commit : (writer index : ℕ) (changes : List Change) (d : Commit) → writer ≡ d.writer → index ≡ d.index → changes ≡ d.changes → ◌≡◌ {A = Commit} (record { writer = writer; index = index; changes = changes }) d
made_commit writer index changes d w i c = rw (w, i, c) refl

-- commits have lines of their own
pub same_commits : (a b : List Commit) → AreCommits a → AreCommits b → binlog_lines a ≡ binlog_lines b → a ≡ b
same_commits [] [] p q e = refl
same_commits [] (d ∷ b) p q e = absurd (omega (arith, ap length e))
same_commits (c ∷ a) [] p q e = absurd (omega (arith, ap length e))
same_commits (c ∷ a) (d ∷ b) p q e =
    let line : first_line c.writer c.index (length c.changes) ≡ first_line d.writer d.index (length d.changes) = ap head_of e in
    let first = same_first_lines c.writer c.index (length c.changes) d.writer d.index (length d.changes) p.0.writer_fits p.0.index_fits p.0.count_fits q.0.writer_fits q.0.index_fits q.0.count_fits line in
    let tail = same_changes c.changes d.changes (binlog_lines a) (binlog_lines b) p.0.changes q.0.changes first.2 (ap (drop 1) e) in
    let head = made_commit c.writer c.index c.changes d first.0 first.1 tail.0 in
    let others = same_commits a b p.1 q.1 tail.1 in
    cc (head, others)
