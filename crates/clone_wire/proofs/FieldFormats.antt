-- The fields of frames are formats.
use Rattle.std.proofs.Common.{◌≡◌, ℕ, zero, suc, ◌-◌, ◌*◌, ◌^◌, ◌<◌, ◌≤◌, ◌==◌, Bool, true, false, get_or, List, [], ◌∷◌, ◌++◌, length, replicate, refl, sym, ap, ◌∙◌, arith}
use Rattle.std.proofs.Math.Nat.{zero-mod, one-le-pow}
use Rattle.std.proofs.lemmas.Bool.{lt-ltb}
use Rattle.std.proofs.lemmas.List.{length-append, length-replicate, get_or-append_right, get_or-replicate}
use Rattle.byteorder.specs.Endian.{big_bytes}
use Rattle.clone_bytes.specs.Fields.{IsBytes}
use Rattle.clone_bytes.specs.Formats.{run, tested, Begun, IsFormat}
use Rattle.clone_bytes.proofs.Numbers.{IsBytes-append, IsBytes-replicate}
use Rattle.clone_bytes.proofs.Fields.{number_laws, run_laws}
use Rattle.clone_bytes.proofs.Formats.{followed_laws, seen_laws, made_laws, tested_laws}
use Rattle.clone_wire.specs.declared.numbers.Numbers.{Numbers}
use Rattle.clone_wire.specs.declared.fault.Fault.TheVariants.{Short, Garbled}
use Rattle.clone_chunk.specs.declared.copy_stage.CopyStage.{CopyStage}
use Rattle.clone_chunk.specs.declared.copy_stage.CopyStage.TheVariants as copy
use Rattle.clone_wire.specs.declared.stage.PageStage.{PageStage}
use Rattle.clone_wire.specs.declared.stage.PageStage.TheVariants as page
use Rattle.clone_chunk.specs.Bitmaps.{Bits, ends_at}
use Rattle.clone_wire.specs.Choices.{has_between, between, only, any_if}
use Rattle.clone_wire.specs.Frames.{IsOneOf}
use Rattle.clone_chunk.specs.Stages.{copy_number, copy_numbered}
use Rattle.clone_wire.specs.Stages.{page_number, page_numbered}
use Rattle.clone_wire.specs.Spelling.{flag}
use Rattle.clone_wire.specs.Reading.{refusals, word, one_in, number_in, bitmap, flag_in, copy_in, pages_in, attempt, space}
use Rattle.clone_wire.specs.Reading as Reading
use Rattle.clone_wire.proofs.Spans.{wanted_laws}
use Rattle.clone_wire.proofs.Choosing.{numbers_test}

pub words : {p : ℕ} (n : ℕ) → IsFormat refusals p (word n)
words {p} n = number_laws p n

-- ---- numbers that are one of some

-- there is one of these numbers, and each has so many bytes
pub record IsChoice (width : ℕ) (numbers : Numbers) : Type 0 where
  pub steps : 0 < numbers.step
  pub some : numbers.least ≤ numbers.most
  pub within : numbers.most < 256 ^ width

pub number_in_laws : (at width p : ℕ) (numbers : Numbers) → IsChoice width numbers → at ≤ p → IsFormat refusals p (number_in at width numbers)
unfolding one_in
number_in_laws at width p numbers choice there = wanted_laws at width p (IsOneOf numbers) (has_between numbers) (numbers_test numbers choice.steps) (record {
  some = (numbers.least, record { low = omega arith; high = choice.some; steps = (let none : numbers.least - numbers.least ≡ 0 = omega arith in rw none (zero-mod numbers.step)) });
  within = λ x one. omega (arith, one.high, choice.within);
}) there

pub range_choice : (width least most : ℕ) → least ≤ most → most < 256 ^ width → IsChoice width (between least most)
range_choice width least most some within = record { steps = omega arith; some = some; within = within }

pub any_choice : (width : ℕ) (has : Bool) (most : ℕ) → most < 256 ^ width → IsChoice width (any_if has most)
any_choice width true most within = range_choice width 0 most (omega arith) within
any_choice width false most within = range_choice width 0 0 (omega arith) (omega arith)

pub in_range : (least most x : ℕ) → least ≤ x → x ≤ most → IsOneOf (between least most) x
in_range least most x low high = record { low = low; high = high; steps = omega arith }

pub same_number : (n x : ℕ) → IsOneOf (only n) x → x ≡ n
same_number n x one = omega (arith, one.low, one.high)

-- ---- flags and stages

copy_is : (n : ℕ) → IsOneOf (between 1 3) n → copy_number (copy_numbered n) ≡ n
copy_is zero one = absurd (omega (arith, one.low))
copy_is (suc zero) one = refl
copy_is (suc (suc zero)) one = refl
copy_is (suc (suc (suc zero))) one = refl
copy_is (suc (suc (suc (suc n)))) one = absurd (omega (arith, one.high))

page_is : (n : ℕ) → IsOneOf (between 1 2) n → page_number (page_numbered n) ≡ n
page_is zero one = absurd (omega (arith, one.low))
page_is (suc zero) one = refl
page_is (suc (suc zero)) one = refl
page_is (suc (suc (suc n))) one = absurd (omega (arith, one.high))

flag_is : (n : ℕ) → IsOneOf (between 0 1) n → flag (n == 1) ≡ n
flag_is zero one = refl
flag_is (suc zero) one = refl
flag_is (suc (suc n)) one = absurd (omega (arith, one.high))

pub flag_laws : (at p : ℕ) → at ≤ p → IsFormat refusals p (flag_in at)
flag_laws at p there = made_laws (λ set. big_bytes 1 (flag set)) (λ n. n == 1) (number_in_laws at 1 p (between 0 1) (range_choice 1 0 1 (omega arith) (omega arith)) there) (λ n one. ap (big_bytes 1) (flag_is n one))

pub copy_laws : (at p : ℕ) → at ≤ p → IsFormat refusals p (copy_in at)
copy_laws at p there = made_laws (λ stage. big_bytes 1 (copy_number stage)) copy_numbered (number_in_laws at 1 p (between 1 3) (range_choice 1 1 3 (omega arith) (omega arith)) there) (λ n one. ap (big_bytes 1) (copy_is n one))

pub pages_in_laws : (at p : ℕ) → at ≤ p → IsFormat refusals p (pages_in at)
pages_in_laws at p there = made_laws (λ stage. big_bytes 1 (page_number stage)) page_numbered (number_in_laws at 1 p (between 1 2) (range_choice 1 1 2 (omega arith) (omega arith)) there) (λ n one. ap (big_bytes 1) (page_is n one))

-- each has its number
pub has_flag : (at : ℕ) (set : Bool) → (flag_in at).Has set
has_flag at true = (1, in_range 0 1 1 (omega arith) (omega arith), refl)
has_flag at false = (0, in_range 0 1 0 (omega arith) (omega arith), refl)

pub has_copy : (at : ℕ) (stage : CopyStage) → (copy_in at).Has stage
has_copy at copy.FileCopy = (1, in_range 1 3 1 (omega arith) (omega arith), refl)
has_copy at copy.PageCopy = (2, in_range 1 3 2 (omega arith) (omega arith), refl)
has_copy at copy.RedoCopy = (3, in_range 1 3 3 (omega arith) (omega arith), refl)

pub has_pages : (at : ℕ) (stage : PageStage) → (pages_in at).Has stage
has_pages at page.FileCopy = (1, in_range 1 2 1 (omega arith) (omega arith), refl)
has_pages at page.PageCopy = (2, in_range 1 2 2 (omega arith) (omega arith), refl)

-- ---- bitmaps

zero_ends : (count : ℕ) (bits : List ℕ) → get_or bits (length bits - 1) 0 ≡ 0 → ends_at count bits ≡ true
zero_ends count bits zero_last = let some = one-le-pow (count - 8 * (length bits - 1)) 2 (omega arith) in rw zero_last (lt-ltb _ _ (omega arith))

-- a bitmap that has begun goes on with bits that aren't set
filled : (at count n : ℕ) (bytes : List ℕ) → IsBytes bytes → Begun (run Short n) bytes → Begun (tested (ends_at count) (Garbled at) (run Short n)) bytes
filled at count n bytes fit begun =
    let more : List ℕ = replicate (n - length bytes) 0 in
    let more_long : length more ≡ n - length bytes = length-replicate {A = ℕ} (n - length bytes) 0 in
    let less : length bytes < n = omega (arith, begun.some, begun.has.0, ap length begun.parts, length-append bytes begun.more) in
    let whole : length (bytes ++ more) ≡ n = length-append bytes more ∙ omega arith in
    let last : get_or (bytes ++ more) (length (bytes ++ more) - 1) 0 ≡ 0 =
    rw whole (get_or-append_right bytes more (length bytes) (n - 1) 0 refl (omega arith) ∙ get_or-replicate (n - length bytes) (n - 1 - length bytes) 0 0 (omega arith)) in
    record {
      value = bytes ++ more;
      more = more;
      has = ((whole, IsBytes-append bytes more fit (IsBytes-replicate (n - length bytes) 0 (omega arith))), zero_ends count (bytes ++ more) last);
      some = omega arith;
      parts = refl;
    }

none_set : (count n : ℕ) → ends_at count (replicate n 0) ≡ true
none_set count zero = zero_ends count [] refl
none_set count (suc n) = zero_ends count (replicate (suc n) 0) (get_or-replicate (suc n) (length (replicate (suc n) 0) - 1) 0 0 (omega (arith, length-replicate {A = ℕ} (suc n) 0)))

some_bytes : (count : ℕ) (bits : List ℕ) → ends_at count bits ≡ false → 1 ≤ length bits
some_bytes count [] e = absurd (let both = sym (zero_ends count [] refl) ∙ e in cc)
some_bytes count (b ∷ bits) e = omega arith

pub bitmap_laws : (at count n p : ℕ) → at ≤ p → IsFormat refusals p (bitmap at count n)
bitmap_laws at count n p there =
    made_laws (λ bits. bits.bytes) (λ bytes. (let made : Bits = record { count = count; bytes = bytes } in made))
    (tested_laws (ends_at count) (Garbled at) (run_laws p n) (replicate n 0, ((length-replicate {A = ℕ} n 0, IsBytes-replicate n 0 (omega arith)), none_set count n)) (filled at count n) (λ e. cc) (λ x has e. omega (arith, some_bytes count x e))) (λ x has. refl)

-- ---- parts

pub attempt_laws : {p : ℕ} → IsFormat refusals p attempt
attempt_laws = seen_laws _ _ _ (followed_laws (words 8) (λ session s. words 4)) (λ x has. (has, refl)) (λ attempt is. ((attempt.session, attempt.incarnation), is, refl))

pub space_laws : {p : ℕ} → IsFormat refusals p space
space_laws = seen_laws _ _ _ (followed_laws (words 4) (λ space s. words 4)) (λ x has. (has, refl)) (λ space is. ((space.space, space.pages), is, refl))

pub page_laws : {p : ℕ} → IsFormat refusals p Reading.page
page_laws = seen_laws _ _ _ (followed_laws (words 4) (λ space s. followed_laws (words 4) (λ number n. run_laws _ 4096))) (λ x has. (record { space = has.0; number = has.1.0; long = has.1.1.0; bytes = has.1.1.1 }, refl))
    (λ page is. ((page.space, (page.number, page.page)), (is.space, (is.number, (is.long, is.bytes))), refl))
