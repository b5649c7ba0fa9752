-- No line feed stands in the texts of the lines of a binlog.
use Rattle.std.proofs.Common.{◌≡◌, ◌≢◌, ℕ, ◌<◌, ◌≤◌, ◌/◌, ◌%◌, ◌^◌, List, [], ◌∷◌, ◌++◌, drop, None, Some, sym, ap, ◌∙◌, append_assoc, arith}
use Rattle.std.specs.Prelude.{codes}
use Rattle.std.specs.Fmt.{decimal}
use Rattle.std.specs.declared.option.Option.{Option}
use Rattle.std.proofs.lemmas.Bool.Decides.{nat_tests}
use Rattle.std.proofs.lemmas.Fmt.{decimal_is_IsNumeral}
use Rattle.std.specs.Str.Parse.{digits_value}
use Rattle.clone_model.specs.Texts.{hex_digit, hex, value_text, value_or_none, change_text}
use Rattle.clone_model.specs.Reading.{IsChange, first_line}
use Rattle.clone_model.specs.declared.change.Change.{Change}
use Rattle.clone_model.proofs.Cuts.{Lacks, Lacks-append, same_cuts}
use Rattle.clone_model.proofs.Decimals.{Lacks-decimal}

hex_digit-high : (n : ℕ) → 48 ≤ hex_digit n
hex_digit-high n = grind (arith, nat_tests)

digit-is_other : (n : ℕ) → hex_digit n ≢ 10
digit-is_other n e = let high = hex_digit-high n in omega (arith, high, e)

is_other : (b : ℕ) → 10 < b → b ≢ 10
is_other b high e = omega arith

Lacks-hex : (v : List ℕ) → Lacks 10 (hex v)
Lacks-hex [] = tt
Lacks-hex (b ∷ v) = (digit-is_other (b / 16), (digit-is_other (b % 16), Lacks-hex v))

Lacks-value_text : (v : List ℕ) → Lacks 10 (value_text v)
Lacks-value_text [] = (is_other 45 (omega arith), tt)
Lacks-value_text (b ∷ v) = Lacks-hex (b ∷ v)

Lacks-value_or_none : (v : Option (List ℕ)) → Lacks 10 (value_or_none v)
Lacks-value_or_none None = (is_other 110 (omega arith), (is_other 111 (omega arith), (is_other 110 (omega arith), (is_other 101 (omega arith), tt))))
Lacks-value_or_none (Some v) = Lacks-value_text v

Lacks-blank : Lacks 10 (codes " ")
Lacks-blank = (is_other 32 (omega arith), tt)

Lacks-commit : Lacks 10 (codes "commit ")
Lacks-commit = (is_other 99 (omega arith), (is_other 111 (omega arith), (is_other 109 (omega arith), (is_other 109 (omega arith), (is_other 105 (omega arith), (is_other 116 (omega arith), (is_other 32 (omega arith), tt)))))))

Lacks-number : (n : ℕ) → n < 2 ^ 64 → Lacks 10 (decimal n)
Lacks-number n small = Lacks-decimal 10 n (omega arith) small

pub Lacks-change_text : (change : Change) → IsChange change → Lacks 10 (change_text change)
Lacks-change_text change is =
    let table = Lacks-number change.table (omega (arith, is.table_fits)) in
    let with_blank = Lacks-append 10 (decimal change.table) (codes " ") table Lacks-blank in
    let with_key = Lacks-append 10 (decimal change.table ++ codes " ") (decimal change.key) with_blank (Lacks-number change.key is.key_fits) in
    let fields = Lacks-append 10 (decimal change.table ++ codes " " ++ decimal change.key) (codes " ") with_key Lacks-blank in
    Lacks-append 10 (decimal change.table ++ codes " " ++ decimal change.key ++ codes " ") (value_or_none change.value) fields (Lacks-value_or_none change.value)

pub Lacks-first_line : (writer index count : ℕ) → writer < 2 ^ 32 → index < 2 ^ 64 → count < 2 ^ 64 → Lacks 10 (first_line writer index count)
Lacks-first_line writer index count w i n =
    let start = Lacks-append 10 (codes "commit ") (decimal writer) Lacks-commit (Lacks-number writer (omega arith)) in
    let with_blank = Lacks-append 10 (codes "commit " ++ decimal writer) (codes " ") start Lacks-blank in
    let with_index = Lacks-append 10 (codes "commit " ++ decimal writer ++ codes " ") (decimal index) with_blank (Lacks-number index i) in
    let fields = Lacks-append 10 (codes "commit " ++ decimal writer ++ codes " " ++ decimal index) (codes " ") with_index Lacks-blank in
    Lacks-append 10 (codes "commit " ++ decimal writer ++ codes " " ++ decimal index ++ codes " ") (decimal count) fields (Lacks-number count n)

-- a number has a text of its own
same_numbers : (m n : ℕ) → m < 2 ^ 64 → n < 2 ^ 64 → decimal m ≡ decimal n → m ≡ n
same_numbers m n p q e = sym (decimal_is_IsNumeral m p).1 ∙ ap (digits_value 10) e ∙ (decimal_is_IsNumeral n q).1

-- a number and what stands behind its blank
pub same_fields : (m n : ℕ) (xs ys : List ℕ) → m < 2 ^ 64 → n < 2 ^ 64 → decimal m ++ 32 ∷ xs ≡ decimal n ++ 32 ∷ ys → (m ≡ n) × (xs ≡ ys)
same_fields m n xs ys p q e =
    let cut = same_cuts 32 (decimal m) (decimal n) xs ys (Lacks-decimal 32 m (omega arith) p) (Lacks-decimal 32 n (omega arith) q) e in
    (same_numbers m n p q cut.0, cut.1)

-- fields and their blanks, grouped to the left and to the right
pub regrouped : (a b c : List ℕ) → (((a ++ 32 ∷ []) ++ b) ++ 32 ∷ []) ++ c ≡ a ++ 32 ∷ (b ++ 32 ∷ c)
regrouped a b c = simp append_assoc

first_line-fields : (writer index count : ℕ) → first_line writer index count ≡ codes "commit " ++ (decimal writer ++ 32 ∷ (decimal index ++ 32 ∷ decimal count))
first_line-fields writer index count = ap (λ t. codes "commit " ++ t) (regrouped (decimal writer) (decimal index) (decimal count))

-- a first line shows one writer, one index and one number of changes
pub same_first_lines : (w i n x j m : ℕ) → w < 2 ^ 32 → i < 2 ^ 64 → n < 2 ^ 64 → x < 2 ^ 32 → j < 2 ^ 64 → m < 2 ^ 64 → first_line w i n ≡ first_line x j m → (w ≡ x) × (i ≡ j) × (n ≡ m)
same_first_lines w i n x j m hw hi hn hx hj hm e =
    let fields : decimal w ++ 32 ∷ (decimal i ++ 32 ∷ decimal n) ≡ decimal x ++ 32 ∷ (decimal j ++ 32 ∷ decimal m) =
    ap (drop 7) (sym (first_line-fields w i n) ∙ e ∙ first_line-fields x j m) in
    let first = same_fields w x _ _ (omega arith) (omega arith) fields in
    let second = same_fields i j (decimal n) (decimal m) hi hj first.1 in
    (first.0, second.0, same_numbers n m hn hm second.1)
