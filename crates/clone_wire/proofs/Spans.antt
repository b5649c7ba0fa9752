-- A wanted number is read byte after byte, or all at once by the span of the numbers that begin with the bytes that are there.
use Rattle.std.proofs.Common.{◌≡◌, ℕ, zero, suc, ◌+◌, ◌-◌, ◌*◌, ◌^◌, ◌<◌, ◌≤◌, ◌==◌, min, Bool, true, false, cond, ltb, List, [], ◌∷◌, length, drop, Result, Ok, Err, refl, sym, ap, subst, ◌∙◌, arith, inl, inr}
use Rattle.std.proofs.lemmas.Bool.{cases_Bool, cases_lt, false_from_ne_true, both_ways, lt-ltb, le-ltb, eqb-true, eqb-false}
use Rattle.std.proofs.Math.Nat.{one-le-pow, pow-succ', pow-le-pow_right, add-mul, mul_assoc, mul-le-mul_right}
use Rattle.std.proofs.lemmas.Nat.{pow-add}
use Rattle.byteorder.specs.Endian.{big_from, big_number}
use Rattle.byteorder.specs.Numbers.{big_from-cons}
use Rattle.clone_bytes.specs.Fields.{IsBytes}
use Rattle.clone_bytes.specs.Formats.{judged_at, least_of, most_of, IsFormat}
use Rattle.clone_bytes.proofs.Answers.{either_way, same_err, not_both, bind}
use Rattle.clone_bytes.proofs.Fields.{judged_laws}
use Rattle.clone_wire.specs.declared.fault.Fault.{Fault}
use Rattle.clone_wire.specs.declared.fault.Fault.TheVariants.{Short, Garbled}
use Rattle.clone_wire.specs.Reading.{refusals, judge_by, wanted_at, wanted_in}

-- the test says whether a wanted number lies between two
pub record IsTest (Wanted : ℕ → Type 0) (has : ℕ → ℕ → Bool) : Type 0 where
  pub lets : (x low high : ℕ) → Wanted x → low ≤ x → x ≤ high → has low high ≡ true
  pub finds : (low high : ℕ) → low ≤ high → has low high ≡ true → (x : ℕ) × Wanted x × (low ≤ x) × (x ≤ high)

-- there is a wanted number, and each has so many bytes
pub record AreWide (Wanted : ℕ → Type 0) (width : ℕ) : Type 0 where
  pub some : (x : ℕ) × Wanted x
  pub within : (x : ℕ) → Wanted x → x < 256 ^ width

pub wanted_laws : (at width p : ℕ) (Wanted : ℕ → Type 0) (has : ℕ → ℕ → Bool) → IsTest Wanted has → AreWide Wanted width → at ≤ p → IsFormat refusals p (wanted_in at width Wanted has)
unfolding wanted_at
wanted_laws at width p Wanted has test wide there = judged_laws (record {
  some = wide.some;
  within = wide.within;
  lets = λ x low high one p q. (let passes = test.lets x low high one p q in rw passes refl);
  finds = λ low high p e. elim (either_way (has low high) (Ok tt) (Err (Garbled at)) (Ok tt) e) [ inl h ↦ test.finds low high p h.0 | inr h ↦ absurd (not_both refl (sym h.1)) ];
  refuses = λ low high e f. elim (either_way (has low high) (Ok tt) (Err (Garbled at)) (Err e) f) [
    | inl h ↦ absurd (not_both refl h.1)
    | inr h ↦ (let same = same_err refl h.1 in (λ short. cc, rw (← same) there))
  ];
})

-- what passes between two passes between any two around them
around : {Wanted : ℕ → Type 0} {has : ℕ → ℕ → Bool} → IsTest Wanted has → (low high least most : ℕ) → low ≤ least → least ≤ most → most ≤ high → has least most ≡ true → has low high ≡ true
around test low high least most a b c e = let x = test.finds least most b e in test.lets x.0 low high x.1 (omega (arith, x.2)) (omega (arith, x.3))

-- ---- the numbers that begin with these bytes

big_from-nil : (i n : ℕ) → big_from i n [] ≡ 0
big_from-nil i zero = refl
big_from-nil i (suc n) = let rest = big_from-nil (suc i) n in omega arith

-- the bytes that are missing make it greater, but not too great
big_number-room : (w : ℕ) (bytes : List ℕ) → IsBytes bytes → big_number w bytes + 256 ^ (w - length bytes) ≤ 256 ^ w
big_number-room zero bytes fit = let none : 0 - length bytes ≡ 0 = omega arith in rw none (omega arith)
big_number-room (suc w) [] fit = let gap : suc w - 0 ≡ suc w = omega arith in rw (big_from-nil 0 (suc w), gap) (omega arith)
big_number-room (suc w) (b ∷ t) fit =
    let rest = big_number-room w t (λ i. fit (suc i)) in
    let byte : b < 256 = fit 0 in
    let most = mul-le-mul_right {m = b} {n = 255} (256 ^ w) (omega arith) in
    let gap : suc w - suc (length t) ≡ w - length t = omega arith in
    rw (gap, big_from-cons 0 w b t, pow-succ' 256 w) (omega arith)

-- the bytes that are missing count as zeros
padded : (w : ℕ) (bytes : List ℕ) → big_number w bytes ≡ big_number (min w (length bytes)) bytes * 256 ^ (w - min w (length bytes))
padded zero bytes = let none : min 0 (length bytes) ≡ 0 = omega arith in rw none (omega arith)
padded (suc w) [] = let none : min (suc w) 0 ≡ 0 = omega arith in rw (none, big_from-nil 0 (suc w)) (omega arith)
padded (suc w) (b ∷ t) =
    let k = min w (length t) in
    let front : min (suc w) (suc (length t)) ≡ suc k = omega arith in
    let gap : suc w - suc k ≡ w - k = omega arith in
    let sum : k + (w - k) ≡ w = omega arith in
    let power : 256 ^ k * 256 ^ (w - k) ≡ 256 ^ w = sym (pow-add 256 k (w - k)) ∙ ap (λ n. 256 ^ n) sum in
    rw (front, gap, big_from-cons 0 w b t, big_from-cons 0 k b t, add-mul (b * 256 ^ k) (big_number k t) (256 ^ (w - k)), mul_assoc b (256 ^ k) (256 ^ (w - k)), power, padded w t) refl

-- the span of a number of up to eight bytes, of which one at least is there
pub record Fits (width there : ℕ) (bytes : List ℕ) : Type 0 where
  pub unit : 256 ^ (width - there) ≤ 256 ^ 7
  pub some : 1 ≤ 256 ^ (width - there)
  pub low : big_number there bytes * 256 ^ (width - there) ≡ big_number width bytes
  pub whole : big_number width bytes + 256 ^ (width - there) ≤ 2 ^ 64
  pub same : 256 ^ (width - there) ≡ 256 ^ (width - length bytes)

pub fits : (width there : ℕ) (bytes : List ℕ) → IsBytes bytes → 1 ≤ width → width ≤ 8 → 1 ≤ length bytes → there ≡ min width (length bytes) → Fits width there bytes
fits width there bytes fit wide narrow some e =
    let gap : width - there ≡ width - length bytes = omega arith in
    let room = big_number-room width bytes fit in
    let most : 256 ^ width ≤ 256 ^ 8 = pow-le-pow_right {n = 256} (omega arith) narrow in
    record {
      unit = pow-le-pow_right {n = 256} (omega arith) {j = 7} (omega arith);
      some = one-le-pow (width - there) 256 (omega arith);
      low = rw e (sym (padded width bytes));
      whole = rw gap (omega arith);
      same = ap (λ n. 256 ^ n) gap;
    }

abbrev pub low_of : ℕ → ℕ → List ℕ → ℕ
low_of front w bytes = front * 256 ^ w + big_number w bytes

abbrev pub high_of : ℕ → ℕ → List ℕ → ℕ
high_of front w bytes = low_of front w bytes + (256 ^ (w - length bytes) - 1)

low_of-cons : (front w b : ℕ) (t : List ℕ) → low_of front (suc w) (b ∷ t) ≡ low_of (front * 256 + b) w t
low_of-cons front w b t = rw (big_from-cons 0 w b t, pow-succ' 256 w, add-mul (front * 256) b (256 ^ w), mul_assoc front 256 (256 ^ w)) (omega arith)

high_of-cons : (front w b : ℕ) (t : List ℕ) → high_of front (suc w) (b ∷ t) ≡ high_of (front * 256 + b) w t
high_of-cons front w b t = let gap : suc w - suc (length t) ≡ w - length t = omega arith in rw (gap, low_of-cons front w b t) refl

-- what reading all at once answers: it looks at the span, and then whether all bytes are there
abbrev pub told : ℕ → (ℕ → ℕ → Bool) → ℕ → List ℕ → ℕ → ℕ → Result (ℕ × List ℕ) Fault
told at has w bytes low high = cond (has low high) (cond (ltb (length bytes) w) (Err Short) (Ok (low, drop w bytes))) (Err (Garbled at))

told_out : (at w low high : ℕ) (has : ℕ → ℕ → Bool) (bytes : List ℕ) → has low high ≡ false → told at has w bytes low high ≡ Err (Garbled at)
told_out at w low high has bytes none = rw none refl

told_short : (at w low high : ℕ) (has : ℕ → ℕ → Bool) (bytes : List ℕ) → has low high ≡ true → length bytes < w → told at has w bytes low high ≡ Err Short
told_short at w low high has bytes one less = rw (one, lt-ltb (length bytes) w less) refl

told_whole : (at w low high : ℕ) (has : ℕ → ℕ → Bool) (bytes : List ℕ) → has low high ≡ true → w ≤ length bytes → told at has w bytes low high ≡ Ok (low, drop w bytes)
told_whole at w low high has bytes one enough = rw (one, le-ltb (length bytes) w enough) refl

same_told : (at w : ℕ) (has : ℕ → ℕ → Bool) (bytes : List ℕ) {low least high most : ℕ} → low ≡ least → high ≡ most → told at has w bytes low high ≡ told at has w bytes least most
same_told at w has bytes {least = least} {high = high} p q = ap (λ n. told at has w bytes n high) p ∙ ap (λ n. told at has w bytes least n) q

ltb_suc : (a b : ℕ) → ltb (suc a) (suc b) ≡ ltb a b
ltb_suc a b = elim (cases_lt a b) [ inl less ↦ lt-ltb (suc a) (suc b) (omega arith) ∙ sym (lt-ltb a b less) | inr more ↦ le-ltb (suc a) (suc b) (omega arith) ∙ sym (le-ltb a b more) ]

told_cons : (at w low high b : ℕ) (has : ℕ → ℕ → Bool) (t : List ℕ) → told at has (suc w) (b ∷ t) low high ≡ told at has w t low high
told_cons at w low high b has t = ap (λ (short : Bool). cond (has low high) (cond short (Err Short) (Ok (low, drop w t))) (Err (Garbled at))) (ltb_suc (length t) w)

abbrev AtOnce : (ℕ → ℕ → Bool) → ℕ → ℕ → ℕ → List ℕ → Type 0
AtOnce has at w front bytes = judged_at Short (judge_by at has) front w bytes ≡ told at has w bytes (low_of front w bytes) (high_of front w bytes)

next : {Wanted : ℕ → Type 0} {has : ℕ → ℕ → Bool} → IsTest Wanted has → (at w front b : ℕ) (t : List ℕ) → IsBytes t
    → (has (least_of w (front * 256 + b)) (most_of w (front * 256 + b)) ≡ true → AtOnce has at w (front * 256 + b) t) → AtOnce has at (suc w) front (b ∷ t)
next {has = has} test at w front b t fit more =
    let f = front * 256 + b in
    let low = low_of f w t in
    let high = high_of f w t in
    let same = same_told at (suc w) has (b ∷ t) (low_of-cons front w b t) (high_of-cons front w b t) in
    let some = one-le-pow (w - length t) 256 (omega arith) in
    let room = big_number-room w t fit in
    elim (cases_Bool (has (least_of w f) (most_of w f))) [
      | inl reached ↦
          let passes : judge_by at has (least_of w f) (most_of w f) ≡ Ok tt = rw reached refl in
          bind (λ one. judged_at Short (judge_by at has) f w t) passes ∙ more reached ∙ sym (told_cons at w low high b has t) ∙ sym same
      | inr missed ↦
          let fails : judge_by at has (least_of w f) (most_of w f) ≡ Err (Garbled at) = rw missed refl in
          let none : has low high ≡ false = false_from_ne_true _ (λ e. both_ways _ missed (around test (least_of w f) (most_of w f) low high (omega arith) (omega arith) (omega arith) e)) in
          bind (λ one. judged_at Short (judge_by at has) f w t) fails ∙ sym (told_out at (suc w) low high has (b ∷ t) none) ∙ sym same
    ]

at_once : {Wanted : ℕ → Type 0} {has : ℕ → ℕ → Bool} → IsTest Wanted has → (at w front : ℕ) (bytes : List ℕ) → IsBytes bytes → has (least_of w front) (most_of w front) ≡ true → AtOnce has at w front bytes
at_once {has = has} test at zero front bytes fit begun =
    let none : 0 - length bytes ≡ 0 = omega arith in
    let one : 256 ^ (0 - length bytes) ≡ 1 = ap (λ n. 256 ^ n) none in
    let low : low_of front 0 bytes ≡ front = omega arith in
    let high : high_of front 0 bytes ≡ front = omega arith in
    let least : least_of 0 front ≡ front = omega arith in
    let most : most_of 0 front ≡ front = omega arith in
    let here : has front front ≡ true = ap (λ n. has n front) (sym least) ∙ ap (λ n. has (least_of 0 front) n) (sym most) ∙ begun in
    sym (same_told at 0 has bytes low high ∙ told_whole at 0 front front has bytes here (omega arith))
at_once {has = has} test at (suc w) front [] fit begun =
    let none = big_from-nil 0 (suc w) in
    let gap : suc w - 0 ≡ suc w = omega arith in
    let power : 256 ^ (suc w - length {A = ℕ} []) ≡ 256 ^ suc w = ap (λ n. 256 ^ n) gap in
    let low : low_of front (suc w) [] ≡ least_of (suc w) front = omega arith in
    let high : high_of front (suc w) [] ≡ most_of (suc w) front = omega arith in
    sym (same_told at (suc w) has [] low high ∙ told_short at (suc w) (least_of (suc w) front) (most_of (suc w) front) has [] begun (omega arith))
at_once test at (suc w) front (b ∷ t) fit begun = next test at w front b t (λ i. fit (suc i)) (λ reached. at_once test at w (front * 256 + b) t (λ i. fit (suc i)) reached)

-- ---- what the code answers

nothing_there : (at width : ℕ) (has : ℕ → ℕ → Bool) (bytes : List ℕ) → 1 ≤ width → length bytes ≡ 0 → wanted_at at has width bytes ≡ Err Short
unfolding wanted_at
nothing_there at zero has bytes wide none = absurd (omega arith)
nothing_there at (suc w) has [] wide none = refl
nothing_there at (suc w) has (b ∷ t) wide none = absurd (omega arith)

-- the bytes that are left are none
pub none_left : (at width : ℕ) (has : ℕ → ℕ → Bool) (bytes left : List ℕ) (empty : Bool) → 1 ≤ width → empty ≡ (length bytes == 0) → empty ≡ true → bytes ≡ left → wanted_at at has width left ≡ Err Short
none_left at width has bytes left empty wide is none same = nothing_there at width has left wide (ap length (sym same) ∙ eqb-true (length bytes) 0 (sym is ∙ none))

-- the least and the greatest number of so many bytes that begin with those that are there, one at least
pub record IsSpan (width : ℕ) (bytes : List ℕ) (low high : ℕ) : Type 0 where
  pub fit : IsBytes bytes
  pub wide : 1 ≤ width
  pub some : 1 ≤ length bytes
  pub low_is : low ≡ big_number width bytes
  pub high_is : high ≡ low + (256 ^ (width - length bytes) - 1)

-- the span of the bytes that are left, which are some
pub span_left : (width : ℕ) (bytes left : List ℕ) (low high : ℕ) (empty : Bool) → IsBytes bytes → 1 ≤ width → empty ≡ (length bytes == 0) → empty ≡ false → low ≡ big_number width bytes → high ≡ low + (256 ^ (width - length bytes) - 1) → bytes ≡ left
    → IsSpan width left low high
span_left width bytes left low high empty fit wide is some low_is high_is same =
    let more : length bytes ≡ 0 → ⊥ = eqb-false (length bytes) 0 (sym is ∙ some) in
    subst (λ (t : List ℕ). IsSpan width t low high) same (record { fit = fit; wide = wide; some = omega arith; low_is = low_is; high_is = high_is })

found_at_once : {Wanted : ℕ → Type 0} {has : ℕ → ℕ → Bool} → IsTest Wanted has → (at width : ℕ) (bytes : List ℕ) (low high : ℕ) → IsSpan width bytes low high → wanted_at at has width bytes ≡ told at has width bytes low high
unfolding wanted_at
found_at_once {has = has} test at zero bytes low high span = absurd (let wide = span.wide in omega arith)
found_at_once {has = has} test at (suc w) [] low high span = absurd (let some = span.some in omega arith)
found_at_once {has = has} test at (suc w) (b ∷ t) low high span =
    let least : low_of 0 (suc w) (b ∷ t) ≡ low = sym (span.low_is ∙ omega arith) in
    let most : low + (256 ^ (suc w - length (b ∷ t)) - 1) ≡ high = sym span.high_is in
    let read = next test at w 0 b t (λ i. span.fit (suc i)) (λ reached. at_once test at w (0 * 256 + b) t (λ i. span.fit (suc i)) reached) in
    read ∙ same_told at (suc w) has (b ∷ t) least (ap (λ n. n + (256 ^ (suc w - length (b ∷ t)) - 1)) least ∙ most)

pub garbled_at_once : {Wanted : ℕ → Type 0} {has : ℕ → ℕ → Bool} → IsTest Wanted has → (at width : ℕ) (bytes : List ℕ) (low high : ℕ) → IsSpan width bytes low high → has low high ≡ false → wanted_at at has width bytes ≡ Err (Garbled at)
garbled_at_once {has = has} test at width bytes low high span none = found_at_once test at width bytes low high span ∙ told_out at width low high has bytes none

pub short_at_once : {Wanted : ℕ → Type 0} {has : ℕ → ℕ → Bool} → IsTest Wanted has → (at width : ℕ) (bytes : List ℕ) (low high : ℕ) → IsSpan width bytes low high → has low high ≡ true → length bytes < width → wanted_at at has width bytes ≡ Err Short
short_at_once {has = has} test at width bytes low high span one less = found_at_once test at width bytes low high span ∙ told_short at width low high has bytes one less

pub whole_at_once : {Wanted : ℕ → Type 0} {has : ℕ → ℕ → Bool} → IsTest Wanted has → (at width : ℕ) (bytes : List ℕ) (low high : ℕ) → IsSpan width bytes low high → has low high ≡ true → width ≤ length bytes → (wanted_at at has width bytes ≡ Ok (low, drop width bytes)) × Wanted low
whole_at_once {Wanted = Wanted} {has = has} test at width bytes low high span one enough =
    let same : high ≡ low = (let none : width - length bytes ≡ 0 = omega arith in span.high_is ∙ rw none (omega arith)) in
    let x = test.finds low high (omega arith) one in
    let it : x.0 ≡ low = omega (arith, x.2, x.3) in
    (found_at_once test at width bytes low high span ∙ told_whole at width low high has bytes one enough, subst Wanted it x.1)
