-- The fields of frames are formats, and how a wanted number is read byte by byte.
use Rattle.std.proofs.Common.{◌≡◌, ℕ, suc, ◌+◌, ◌-◌, ◌*◌, ◌^◌, ◌<◌, ◌≤◌, ◌⊎◌, min, max, Bool, true, false, cond, ◌&&◌, ◌||◌, leb, List, [], ◌∷◌, length, drop, Result, Ok, Err, refl, sym, ap, subst, ◌∙◌, arith, inl, inr}
use Rattle.std.proofs.lemmas.Bool.{cases_lt}
use Rattle.std.proofs.lemmas.Bool.Decides.{nat_tests}
use Rattle.std.proofs.lemmas.Nat.{pow-add}
use Rattle.std.proofs.Math.Nat.{one-le-pow, pow-le-pow_right, add-mul, mul-le-mul_right}
use Rattle.byteorder.specs.Endian.{big_number}
use Rattle.clone_bytes.specs.Formats.{◌>>=◌, judged_at, least_of, most_of, IsFormat}
use Rattle.clone_bytes.proofs.Answers.{either_way, same_err, not_both, bind}
use Rattle.clone_bytes.proofs.Fields.{number_laws, judged_laws}
use Rattle.clone_follow.specs.declared.numbers.Numbers.{Numbers}
use Rattle.clone_follow.specs.declared.fault.Fault.{Fault}
use Rattle.clone_follow.specs.declared.fault.Fault.TheVariants.{Short, Garbled}
use Rattle.clone_follow.specs.Choices.{AreInOrder, IsOneOf, has_between, between, only}
use Rattle.clone_follow.specs.Reading.{refusals, word, judge_by, one_in, number_in}

pub words : {p : ℕ} (n : ℕ) → IsFormat refusals p (word n)
words {p} n = number_laws p n

-- ---- numbers that are one of some

tells : (a b c d e f : ℕ) → ((leb a b && leb c d) || leb e f) ≡ true → ((a ≤ b) × (c ≤ d)) ⊎ (e ≤ f)
tells a b c d e f h = elim (cases_lt f e) [
  | inr second ↦ inr second
  | inl less ↦ inl (grind (arith, nat_tests))
]

first_again : (a b c d e f : ℕ) → a ≤ b → c ≤ d → ((leb a b && leb c d) || leb e f) ≡ true
first_again a b c d e f p q = grind (arith, nat_tests)

second_again : (a b c d e f : ℕ) → e ≤ f → ((leb a b && leb c d) || leb e f) ≡ true
second_again a b c d e f p = grind (arith, nat_tests)

-- there is one of these numbers, and each has so many bytes
pub record IsChoice (width : ℕ) (numbers : Numbers) : Type 0 where
  pub order : AreInOrder numbers
  pub within : numbers.most < 256 ^ width

has_again : (numbers : Numbers) (x low high : ℕ) → IsOneOf numbers x → low ≤ x → x ≤ high → has_between numbers low high ≡ true
has_again numbers x low high one p q = elim (cases_lt x numbers.next) [
  | inl less ↦ (let is = one.gap less in first_again low numbers.least numbers.least high (max numbers.next low) (min numbers.most high) (omega arith) (omega arith))
  | inr more ↦ second_again low numbers.least numbers.least high (max numbers.next low) (min numbers.most high) (omega (arith, one.high))
]

has_tells : (numbers : Numbers) (low high : ℕ) → AreInOrder numbers → has_between numbers low high ≡ true → (x : ℕ) × IsOneOf numbers x × (low ≤ x) × (x ≤ high)
has_tells numbers low high order e = elim (tells low numbers.least numbers.least high (max numbers.next low) (min numbers.most high) e) [
  | inl first ↦ (numbers.least, record { low = omega arith; high = omega (arith, order.low, order.high); gap = λ less. refl }, first.0, first.1)
  | inr second ↦ (max numbers.next low, record { low = omega (arith, order.low); high = omega arith; gap = λ less. absurd (omega arith) }, omega arith, omega arith)
]

pub number_in_laws : (at width p : ℕ) (numbers : Numbers) → IsChoice width numbers → at ≤ p → IsFormat refusals p (number_in at width numbers)
unfolding one_in
number_in_laws at width p numbers choice there = judged_laws (record {
  some = (numbers.least, record { low = omega arith; high = omega (arith, choice.order.low, choice.order.high); gap = λ less. refl });
  within = λ x one. omega (arith, one.high, choice.within);
  lets = λ x low high one p q. (let passes = has_again numbers x low high one p q in rw passes refl);
  finds = λ low high p e. elim (either_way (has_between numbers low high) (Ok tt) (Err (Garbled at)) (Ok tt) e) [ inl h ↦ has_tells numbers low high choice.order h.0 | inr h ↦ absurd (not_both refl (sym h.1)) ];
  refuses = λ low high e f. elim (either_way (has_between numbers low high) (Ok tt) (Err (Garbled at)) (Err e) f) [
    | inl h ↦ absurd (not_both refl h.1)
    | inr h ↦ (let same = same_err refl h.1 in (λ short. cc, rw (← same) there))
  ];
})

pub range_choice : (width least most : ℕ) → least ≤ most → most < 256 ^ width → IsChoice width (between least most)
range_choice width least most some within = record { order = record { low = omega arith; high = some }; within = within }

pub in_range : (least most x : ℕ) → least ≤ x → x ≤ most → IsOneOf (between least most) x
in_range least most x low high = record { low = low; high = high; gap = λ less. absurd (omega arith) }

pub only_one : (n : ℕ) → IsOneOf (only n) n
only_one n = in_range n n n (omega arith) (omega arith)

pub same_number : (n x : ℕ) → IsOneOf (only n) x → x ≡ n
same_number n x one = omega (arith, one.low, one.high)

-- ---- a wanted number is read byte by byte

abbrev pub Judged : ℕ → Numbers → ℕ → ℕ → List ℕ → Result (ℕ × List ℕ) Fault
Judged at numbers front w bytes = judged_at Short (judge_by at numbers) front w bytes

pub whole_number : (at width w : ℕ) (numbers : Numbers) (bytes : List ℕ) → w ≡ width → Judged at numbers 0 w bytes ≡ one_in at width numbers bytes
unfolding one_in
whole_number at width w numbers bytes same = ap (λ w. Judged at numbers 0 w bytes) same

-- the bytes that were read, and those that are left, have room for so many more
pub record Fits (front unit : ℕ) : Type 0 where
  pub unit_room : unit ≤ 2 ^ 32
  pub some : 1 ≤ unit
  pub room : front * unit + unit ≤ 2 ^ 32

fits : (width read front unit : ℕ) → width ≤ 4 → read < width → front < 256 ^ (read + 1) → unit ≡ 256 ^ (width - read - 1) → Fits front unit
fits width read front unit narrow less below is =
    let sum : (read + 1) + (width - read - 1) ≡ width = omega arith in
    let product : 256 ^ (read + 1) * unit ≡ 256 ^ width = ap (λ n. 256 ^ (read + 1) * n) is ∙ sym (pow-add 256 (read + 1) (width - read - 1)) ∙ ap (λ n. 256 ^ n) sum in
    let whole : 256 ^ width ≤ 256 ^ 4 = pow-le-pow_right {n = 256} (omega arith) narrow in
    let one : 256 ^ (width - read - 1) ≤ 256 ^ 4 = pow-le-pow_right {n = 256} (omega arith) {j = 4} (omega arith) in
    let some = one-le-pow (width - read - 1) 256 (omega arith) in
    let more = mul-le-mul_right {m = front + 1} {n = 256 ^ (read + 1)} unit (omega arith) in
    record { unit_room = omega arith; some = omega arith; room = omega (arith, add-mul front 1 unit) }

pub unit_room : (width read : ℕ) → width ≤ 4 → 256 ^ (width - read - 1) < 2 ^ 64
unit_room width read narrow = (let one : 256 ^ (width - read - 1) ≤ 256 ^ 4 = pow-le-pow_right {n = 256} (omega arith) {j = 4} (omega arith) in omega arith)

pub next_front : (read front byte : ℕ) → front < 256 ^ read → byte < 256 → front * 256 + byte < 256 ^ (read + 1)
next_front read front byte below small = omega (arith, pow-add 256 read 1)

-- the same of the bytes that were read with one more
pub next_fits : (width read front byte unit : ℕ) → width ≤ 4 → read < width → front < 256 ^ read → byte < 256 → unit ≡ 256 ^ (width - read - 1) → Fits (front * 256 + byte) unit
next_fits width read front byte unit narrow less below small is = fits width read (front * 256 + byte) unit narrow less (next_front read front byte below small) is

pub front_room : (width read front : ℕ) → width ≤ 4 → read < width → front < 256 ^ read → front < 2 ^ 24
front_room width read front narrow less below = (let most : 256 ^ read ≤ 256 ^ 3 = pow-le-pow_right {n = 256} (omega arith) {j = 3} (omega arith) in omega arith)

first_byte : (bytes : List ℕ) (byte : ℕ) (after : List ℕ) → 1 ≤ length bytes → byte ≡ big_number 1 bytes → after ≡ drop 1 bytes → bytes ≡ byte ∷ after
first_byte [] byte after some is left = absurd (omega arith)
first_byte (b ∷ bytes) byte after some is left = (let same : byte ≡ b = is ∙ omega arith in cc)

no_byte : (at : ℕ) (numbers : Numbers) (front w : ℕ) (bytes : List ℕ) → length bytes < 1 → Judged at numbers front (suc w) bytes ≡ Err Short
no_byte at numbers front w [] none = refl
no_byte at numbers front w (b ∷ bytes) none = absurd (omega arith)

-- the byte that was read is the first of those that were left
pub record IsRead (bytes : List ℕ) (byte : ℕ) (after : List ℕ) : Type 0 where
  pub some : 1 ≤ length bytes
  pub is : byte ≡ big_number 1 bytes
  pub left : after ≡ drop 1 bytes

abbrev judge_next : ℕ → Numbers → ℕ → ℕ → Result (Unit {0}) Fault
judge_next at numbers w front = judge_by at numbers (least_of w front) (most_of w front)

judged_next : (at : ℕ) (numbers : Numbers) (front w byte : ℕ) (bytes after : List ℕ) (judged : Result (Unit {0}) Fault) → IsRead bytes byte after → judge_next at numbers w (front * 256 + byte) ≡ judged
    → Judged at numbers front (suc w) bytes ≡ (judged >>= λ one. Judged at numbers (front * 256 + byte) w after)
judged_next at numbers front w byte bytes after judged read is =
    ap (Judged at numbers front (suc w)) (first_byte bytes byte after read.some read.is read.left) ∙ bind (λ one. Judged at numbers (front * 256 + byte) w after) is

-- whether one of the numbers begins with the bytes that were read
abbrev pub HasNext : Numbers → ℕ → ℕ → Bool
HasNext numbers front unit = has_between numbers (front * unit) (front * unit + (unit - 1))

judged_is : (at width read front unit : ℕ) (numbers : Numbers) (has : Bool) → unit ≡ 256 ^ (width - read - 1) → HasNext numbers front unit ≡ has → judge_next at numbers (width - (read + 1)) front ≡ cond has (Ok tt) (Err (Garbled at))
judged_is at width read front unit numbers has is e =
    let rest : width - read - 1 ≡ width - (read + 1) = omega arith in
    let power : 256 ^ (width - (read + 1)) ≡ unit = ap (λ n. 256 ^ n) (sym rest) ∙ sym is in
    rw (power, e) refl

pub short_next : (at width read front : ℕ) (numbers : Numbers) (bytes : List ℕ) (total : Result (ℕ × List ℕ) Fault) → read < width → length bytes < 1 → Judged at numbers front (width - read) bytes ≡ total → total ≡ Err Short
short_next at width read front numbers bytes total less none so_far =
    let k : width - read ≡ suc (width - (read + 1)) = omega arith in
    sym so_far ∙ ap (λ w. Judged at numbers front w bytes) k ∙ no_byte at numbers front (width - (read + 1)) bytes none

pub wrong_next : (at width read front byte unit : ℕ) (numbers : Numbers) (bytes after : List ℕ) (total : Result (ℕ × List ℕ) Fault) → read < width → unit ≡ 256 ^ (width - read - 1) → IsRead bytes byte after → HasNext numbers (front * 256 + byte) unit ≡ false
    → Judged at numbers front (width - read) bytes ≡ total → total ≡ Err (Garbled at)
wrong_next at width read front byte unit numbers bytes after total less is found none so_far =
    let k : width - read ≡ suc (width - (read + 1)) = omega arith in
    sym so_far ∙ ap (λ w. Judged at numbers front w bytes) k ∙ judged_next at numbers front (width - (read + 1)) byte bytes after _ found (judged_is at width read (front * 256 + byte) unit numbers false is none)

pub right_next : (at width read front byte unit : ℕ) (numbers : Numbers) (bytes after : List ℕ) (total : Result (ℕ × List ℕ) Fault) → read < width → unit ≡ 256 ^ (width - read - 1) → IsRead bytes byte after → HasNext numbers (front * 256 + byte) unit ≡ true
    → Judged at numbers front (width - read) bytes ≡ total → Judged at numbers (front * 256 + byte) (width - (read + 1)) after ≡ total
right_next at width read front byte unit numbers bytes after total less is found one so_far =
    let k : width - read ≡ suc (width - (read + 1)) = omega arith in
    sym (judged_next at numbers front (width - (read + 1)) byte bytes after _ found (judged_is at width read (front * 256 + byte) unit numbers true is one)) ∙ ap (λ w. Judged at numbers front w bytes) (sym k) ∙ so_far

-- the number that was read is one of the wanted ones, since one of them begins with all of its bytes
pub last_front : (width read front : ℕ) (numbers : Numbers) → AreInOrder numbers → read ≡ width → HasNext numbers front (256 ^ (width - read)) ≡ true → IsOneOf numbers front
last_front width read front numbers order all has =
    let none : width - read ≡ 0 = omega arith in
    let unit : 256 ^ (width - read) ≡ 1 = ap (λ n. 256 ^ n) none in
    let low : front * 256 ^ (width - read) ≡ front = omega (arith, ap (λ n. front * n) unit) in
    let high : front * 256 ^ (width - read) + (256 ^ (width - read) - 1) ≡ front = omega arith in
    let one : has_between numbers front front ≡ true = ap (λ n. has_between numbers n front) (sym low) ∙ ap (has_between numbers (front * 256 ^ (width - read))) (sym high) ∙ has in
    only_between (has_tells numbers front front order one)
  where
    only_between : (x : ℕ) × IsOneOf numbers x × (front ≤ x) × (x ≤ front) → IsOneOf numbers front
    only_between x = (let same : x.0 ≡ front = omega (arith, x.2, x.3) in subst (IsOneOf numbers) same x.1)

pub next_has : (width read front unit : ℕ) (numbers : Numbers) → unit ≡ 256 ^ (width - read - 1) → HasNext numbers front unit ≡ true → HasNext numbers front (256 ^ (width - (read + 1))) ≡ true
next_has width read front unit numbers is has =
    let rest : width - read - 1 ≡ width - (read + 1) = omega arith in
    let power : 256 ^ (width - (read + 1)) ≡ unit = ap (λ n. 256 ^ n) (sym rest) ∙ sym is in
    rw power has
