-- Numbers and their decimal texts.
use Rattle.std.proofs.Common.{◌≡◌, ◌≢◌, ℕ, ◌<◌, ◌^◌, List, length, get_or, Some, None, Result, Ok, Err, refl, sym, ap, ◌∙◌, arith, inl, inr, subst}
use Rattle.std.specs.Fmt.{decimal}
use Rattle.std.specs.Option.{IfSome}
use Rattle.std.specs.Result.{MatchResult, result_ok}
use Rattle.std.specs.Str.{IsUtf8}
use Rattle.std.specs.Str.Parse.{AllDigits, digits_value, ParsesUnsigned}
use Rattle.std.proofs.lemmas.Bool.{cases_lt}
use Rattle.std.proofs.lemmas.Fmt.{decimal_digit, first_decimal, digits_decimal, decimal-digits_value, parse-decimal, IsAscii-decimal}
use Rattle.std.proofs.lemmas.Str.{IsUtf8-from_ascii}
use Rattle.std.proofs.lemmas.List.Elements.{All-from_get_or}
use Rattle.std.proofs.lemmas.Result.{OkIff-at_ok}
use Rattle.std.proofs.lemmas.Str.Parse.{IsNumeralModel, numerals_by_value, tells_digits, parse_plain, not_in_digits}
use Rattle.clone_model.proofs.Cuts.{Lacks, lacks_from_All}

-- std's own words for digits and their value
numerals : IsNumeralModel (AllDigits 10) (digits_value 10)
numerals = numerals_by_value (AllDigits 10) tells_digits

-- neither a sign stands in front, nor a zero in front of others
abbrev pub IsPlain : List ℕ → Type 0
IsPlain text = (get_or text 0 0 ≢ 43) × (get_or text 0 0 ≡ 48 → length text ≡ 1)

-- the text of a number is so
pub decimal_is_plain : (n : ℕ) → n < 2 ^ 64 → IsPlain (decimal n)
decimal_is_plain n small = elim (cases_lt 0 n) [
  | inl some ↦ let first = first_decimal n some small in (λ e. omega arith, λ e. absurd (omega arith))
  | inr none ↦ let zero : n ≡ 0 = omega arith in rw (zero, decimal_digit 0 (omega arith)) (λ e. absurd (omega arith), λ e. refl)
]

-- what is read of a plain text has this text
pub IfSome-parse : {E : Type 0} (text : List ℕ) (r : Result ℕ E) → IsPlain text → ParsesUnsigned 64 10 text r → IfSome (result_ok r) (λ n. (n < 2 ^ 64) × (text ≡ decimal n))
IfSome-parse text (Err e) plain h = tt
IfSome-parse {E} text (Ok n) plain h =
    let parsed : Result ℕ E = Ok n in
    let p = OkIff-at_ok {E = E} parsed (AllDigits 10 text × (0 < length text) × (digits_value 10 text < 2 ^ 64)) (digits_value 10 text) n (parse_plain numerals {E = E} 64 text parsed h plain.0) refl in
    let same = decimal-digits_value numerals text p.0.0 p.0.1 plain.1 p.0.2 in
    (omega (arith, p.1, p.0.2), sym same ∙ ap decimal (sym p.1))

-- the text of a number is read as that number
pub parse-of_decimal : {E : Type 0} (text : List ℕ) (r : Result ℕ E) (n : ℕ) → n < 2 ^ 64 → text ≡ decimal n → ParsesUnsigned 64 10 text r → result_ok r ≡ Some n
parse-of_decimal text r n small e h = ap result_ok (parse-decimal 64 n text r small small e h)

-- the text of a number is UTF-8
pub IsUtf8-decimal : (text : List ℕ) (n : ℕ) → n < 2 ^ 64 → text ≡ decimal n → IsUtf8 text
IsUtf8-decimal text n small e = subst IsUtf8 (sym e) (IsUtf8-from_ascii (decimal n) (IsAscii-decimal n small))

-- what a match says of the value of a result, and of its error
pub value_of_match : {S E : Type 0} (r : Result S E) (P : S → Type 0) (Q : E → Type 0) (s : S) → MatchResult r P Q → result_ok r ≡ Some s → P s
value_of_match (Ok x) P Q s h e = let same : x ≡ s = cc in subst P same h
value_of_match (Err x) P Q s h e = absurd (cc)

pub error_of_match : {S E : Type 0} (r : Result S E) (P : S → Type 0) (Q : E → Type 0) → MatchResult r P Q → result_ok r ≡ None → (x : E) × Q x
error_of_match (Ok x) P Q h e = absurd (cc)
error_of_match (Err x) P Q h e = (x, h)

-- only digits stand in a number
pub Lacks-decimal : (byte n : ℕ) → byte < 48 → n < 2 ^ 64 → Lacks byte (decimal n)
Lacks-decimal byte n low small =
    lacks_from_All byte (decimal n) (All-from_get_or (λ b. b ≢ byte) (decimal n) 0 (λ i within. not_in_digits numerals (decimal n) byte (digits_decimal numerals n small) (λ r. omega (arith, r)) i within))
