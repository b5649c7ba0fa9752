-- The laws hold of numbers, of runs of bytes, and of constrained numbers.
use Rattle.std.proofs.Common.{◌≡◌, ℕ, zero, suc, ◌+◌, ◌-◌, ◌*◌, ◌/◌, ◌%◌, ◌^◌, ◌<◌, ◌≤◌, ◌⊎◌, true, false, cond, ltb, List, [], ◌∷◌, ◌++◌, length, take, drop, replicate, Result, Ok, Err, refl, sym, ap, subst, ◌∙◌, arith, inl, inr}
use Rattle.std.proofs.Math.Nat.{div-mul-le_self, lt-div-mul-add, div-eq_of_lt-le, div-div-eq-div-mul, div-eq_of_lt, one-le-pow, pow-suc}
use Rattle.std.proofs.lemmas.Bool.{cases_lt, lt-ltb, le-ltb}
use Rattle.std.proofs.lemmas.List.{length-append, length-take, length-replicate, take-append-drop, take_all, take_at, drop_at}
use Rattle.std.specs.Int.{byte_at as byte_of}
use Rattle.byteorder.specs.Endian.{big_number, big_bytes}
use Rattle.byteorder.specs.Numbers.{big_from-lt, big_number-reads_back, length-bytes_high_first}
use Rattle.clone_bytes.specs.Fields.{IsBytes}
use Rattle.clone_bytes.specs.Formats.{Format, number, run, Judge, judged_at, judged, code_at, code, two_at, two, least_of, most_of, Refusals, IsFormat}
use Rattle.clone_bytes.proofs.Numbers.{IsBytes-cons, IsBytes-append, IsBytes-take, IsBytes-replicate, IsBytes-big_bytes, big_bytes-big_number}
use Rattle.clone_bytes.proofs.Formats.{worded}
use Rattle.clone_bytes.proofs.Answers.{same_ok, same_err, not_both, bind, bind_ok, bind_err}

-- ---- fields of any bytes

abbrev pub plain : {E A : Type 0} → E → ℕ → (List ℕ → A) → List ℕ → Result (A × List ℕ) E
plain short n v bytes = cond (ltb (length bytes) n) (Err short) (Ok (v bytes, drop n bytes))

plain_short : {E A : Type 0} (short : E) (n : ℕ) (v : List ℕ → A) (bytes : List ℕ) → length bytes < n → plain short n v bytes ≡ Err short
plain_short short n v bytes less = let test : ltb (length bytes) n ≡ true = lt-ltb _ _ less in rw test refl

plain_ok : {E A : Type 0} (short : E) (n : ℕ) (v : List ℕ → A) (bytes : List ℕ) → n ≤ length bytes → plain short n v bytes ≡ Ok (v bytes, drop n bytes)
plain_ok short n v bytes long = let test : ltb (length bytes) n ≡ false = le-ltb _ _ long in rw test refl

-- what a field of n bytes, any bytes, says
record IsPlain {E A : Type 0} (format : Format E A) (n : ℕ) (v : List ℕ → A) : Type 0 where
  written : (x : A) → format.Has x → IsBytes (format.text x) × (length (format.text x) ≡ n)
  again : (x : A) (rest : List ℕ) → format.Has x → v (format.text x ++ rest) ≡ x
  known : (bytes : List ℕ) → IsBytes bytes → n ≤ length bytes → format.Has (v bytes) × (format.text (v bytes) ≡ take n bytes)

plain_laws : {E A : Type 0} {refusals : Refusals E} {at : ℕ} (format : Format E A) (n : ℕ) (v : List ℕ → A) → IsPlain format n v → ((bytes : List ℕ) → format.read bytes ≡ plain refusals.short n v bytes) → IsFormat refusals at format
plain_laws {E = E} {A = A} {refusals = refusals} format n v laws reads =
    let short = refusals.short in
    let filled : (bytes : List ℕ) → length bytes ≤ n → (bytes ++ replicate (n - length bytes) 0 ≡ take n (bytes ++ replicate (n - length bytes) 0)) × (length (bytes ++ replicate (n - length bytes) 0) ≡ n) =
    λ bytes less. (let long = length-append bytes (replicate (n - length bytes) 0) ∙ ap (λ k. length bytes + k) (length-replicate {A = ℕ} (n - length bytes) 0) in (sym (take_all n (bytes ++ replicate (n - length bytes) 0) (omega arith)), omega arith)) in
    record {
      one = (let all = replicate n 0 in (v all, (laws.known all (IsBytes-replicate n 0 (omega arith)) (omega (arith, length-replicate {A = ℕ} n 0))).0));
      fit = λ x has. (laws.written x has).0;
      back = λ x rest has. (let count = (laws.written x has).1 in
          reads (format.text x ++ rest) ∙ plain_ok short n v (format.text x ++ rest) (omega (arith, length-append (format.text x) rest)) ∙ rw (drop_at (format.text x) rest n count, laws.again x rest has) refl);
      from = λ bytes x rest fit e. elim (cases_lt (length bytes) n) [
        | inl less ↦ absurd (not_both e (reads bytes ∙ plain_short short n v bytes less))
        | inr long ↦
            let k = laws.known bytes fit long in
            let same = same_ok (reads bytes ∙ plain_ok short n v bytes long) e in
            let value : v bytes ≡ x = ap (λ p. p.0) same in
            (subst format.Has value k.0, sym (take-append-drop n bytes) ∙ ap (λ t. t ++ drop n bytes) (sym k.1 ∙ ap format.text value) ∙ ap (λ t. format.text x ++ t) (ap (λ p. p.1) same))
      ];
      opens = λ bytes fit e. elim (cases_lt (length bytes) n) [
        | inr long ↦ absurd (not_both (reads bytes ∙ plain_ok short n v bytes long) e)
        | inl less ↦
            let more = replicate (n - length bytes) 0 in
            let whole = filled bytes (omega arith) in
            let k = laws.known (bytes ++ more) (IsBytes-append bytes more fit (IsBytes-replicate (n - length bytes) 0 (omega arith))) (omega (arith, whole.1)) in
            record { value = v (bytes ++ more); more = more; has = k.0; some = omega (arith, length-replicate {A = ℕ} (n - length bytes) 0); parts = whole.0 ∙ sym k.1 }
      ];
      stays = λ bytes more e fit other h. elim (cases_lt (length bytes) n) [
        | inl less ↦ absurd (other (same_err h (reads bytes ∙ plain_short short n v bytes less)))
        | inr long ↦ absurd (not_both (reads bytes ∙ plain_ok short n v bytes long) h)
      ];
    }

pub number_laws : {E : Type 0} {refusals : Refusals E} (at n : ℕ) → IsFormat refusals at (number refusals.short n)
number_laws {refusals = refusals} at n =
    plain_laws (number refusals.short n) n (big_number n) (record {
      written = λ x has. (IsBytes-big_bytes n x, length-bytes_high_first n x);
      again = λ x rest has. big_number-reads_back n x rest has;
      known = λ bytes fit long. (big_from-lt 0 n bytes fit, big_bytes-big_number n bytes long fit);
    }) (λ bytes. refl)

pub run_laws : {E : Type 0} {refusals : Refusals E} (at n : ℕ) → IsFormat refusals at (run refusals.short n)
run_laws {refusals = refusals} at n =
    plain_laws (run refusals.short n) n (take n) (record {
      written = λ x has. (has.1, has.0);
      again = λ x rest has. take_at x rest n has.0;
      known = λ bytes fit long. ((length-take n bytes ∙ omega arith, IsBytes-take n bytes fit), refl);
    }) (λ bytes. refl)

-- ---- a number that is wanted

-- The judge lets pass where a wanted number lies between, and only there.
pub record IsJudge {E : Type 0} (refusals : Refusals E) (at width : ℕ) (Wanted : ℕ → Type 0) (judge : Judge E) : Type 0 where
  pub some : (x : ℕ) × Wanted x
  pub within : (x : ℕ) → Wanted x → x < 256 ^ width
  pub lets : (x low high : ℕ) → Wanted x → low ≤ x → x ≤ high → judge low high ≡ Ok tt
  pub finds : (low high : ℕ) → low ≤ high → judge low high ≡ Ok tt → (x : ℕ) × Wanted x × (low ≤ x) × (x ≤ high)
  pub refuses : (low high : ℕ) (e : E) → judge low high ≡ Err e → (e ≡ refusals.short → ⊥) × (refusals.place e ≤ at)

byte_is : (w x : ℕ) → byte_of w x ≡ x / 256 ^ w % 256
byte_is zero x = omega arith
byte_is (suc w) x = refl

-- a number begins with its higher bytes
next_front : (w x : ℕ) → x / 256 ^ w / 256 ≡ x / 256 ^ suc w
next_front w x = div-div-eq-div-mul x (256 ^ w) 256 ∙ ap (λ k. x / k) (sym (pow-suc 256 w))

between : (w x front : ℕ) → x / 256 ^ w ≡ front → (least_of w front ≤ x) × (x ≤ most_of w front)
between w x front e =
    let some = one-le-pow w 256 (omega arith) in
    let under = div-mul-le_self x (256 ^ w) in
    let above = lt-div-mul-add {a = x} {b = 256 ^ w} (omega arith) in
    (rw (← e) under, rw (← e) (omega arith))

begins : (w x front : ℕ) → least_of w front ≤ x → x ≤ most_of w front → x / 256 ^ w ≡ front
begins w x front low high =
    let some = one-le-pow w 256 (omega arith) in
    div-eq_of_lt-le (256 ^ w) low (omega arith)

-- The bytes behind those whose number is front, w of them, were judged so far.
abbrev IsBegun : {E : Type 0} → Judge E → ℕ → ℕ → Type 0
IsBegun judge w front = judge (least_of w front) (most_of w front) ≡ Ok tt

again : {E : Type 0} {refusals : Refusals E} {at width : ℕ} {Wanted : ℕ → Type 0} {judge : Judge E} → IsJudge refusals at width Wanted judge → (w front x : ℕ) (rest : List ℕ) → Wanted x → x / 256 ^ w ≡ front
    → judged_at refusals.short judge front w (big_bytes w x ++ rest) ≡ Ok (x, rest)
again laws zero front x rest wanted e = let same : front ≡ x = sym e ∙ omega arith in ap (λ n. Ok (n, rest)) same
again {refusals = refusals} {judge = judge} laws (suc w) front x rest wanted e =
    let now : x / 256 ^ w ≡ front * 256 + byte_of w x = (let q = next_front w x ∙ e in rw byte_is (omega arith)) in
    let b = between w x (front * 256 + byte_of w x) now in
    bind (λ one. judged_at refusals.short judge (front * 256 + byte_of w x) w (big_bytes w x ++ rest)) (laws.lets x _ _ wanted b.0 b.1) ∙ again laws w (front * 256 + byte_of w x) x rest wanted now

-- the next byte of a number
next_byte : (w x front b : ℕ) → b < 256 → x / 256 ^ w ≡ front * 256 + b → (x / 256 ^ suc w ≡ front) × (byte_of w x ≡ b)
next_byte w x front b below e = (sym (next_front w x) ∙ ap (λ q. q / 256) e ∙ omega arith, byte_is w x ∙ ap (λ q. q % 256) e ∙ omega arith)

known : {E : Type 0} {refusals : Refusals E} {at width : ℕ} {Wanted : ℕ → Type 0} {judge : Judge E} → IsJudge refusals at width Wanted judge → (w front : ℕ) (bytes : List ℕ) (x : ℕ) (rest : List ℕ) → IsBegun judge w front → IsBytes bytes
    → judged_at refusals.short judge front w bytes ≡ Ok (x, rest) → Wanted x × (x / 256 ^ w ≡ front) × (bytes ≡ big_bytes w x ++ rest)
known {Wanted = Wanted} laws zero front bytes x rest begun fit e =
    let same = same_ok refl e in
    let value : front ≡ x = ap (λ p. p.0) same in
    let y = laws.finds _ _ (omega arith) begun in
    let it : y.0 ≡ x = omega (arith, y.2, y.3) in
    (subst Wanted it y.1, omega arith, ap (λ p. p.1) same)
known laws (suc w) front [] x rest begun fit e = absurd (not_both e refl)
known laws (suc w) front (b ∷ t) x rest begun fit e =
    let a = bind_ok _ _ (x, rest) e in
    let p = known laws w (front * 256 + b) t x rest a.1 (λ i. fit (suc i)) a.2 in
    let q = next_byte w x front b (fit 0) p.1 in
    (p.0, q.0, cc)

record Missing (Wanted : ℕ → Type 0) (w front : ℕ) (bytes : List ℕ) : Type 0 where
  value : ℕ
  more : List ℕ
  wanted : Wanted value
  begun : value / 256 ^ w ≡ front
  some : 1 ≤ length more
  parts : bytes ++ more ≡ big_bytes w value

missing : {E : Type 0} {refusals : Refusals E} {at width : ℕ} {Wanted : ℕ → Type 0} {judge : Judge E} → IsJudge refusals at width Wanted judge → (w front : ℕ) (bytes : List ℕ) → IsBegun judge w front → IsBytes bytes
    → judged_at refusals.short judge front w bytes ≡ Err refusals.short → Missing Wanted w front bytes
missing laws zero front bytes begun fit e = absurd (not_both refl e)
missing laws (suc w) front [] begun fit e =
    let x = laws.finds _ _ (omega arith) begun in
    record { value = x.0; more = big_bytes (suc w) x.0; wanted = x.1; begun = begins (suc w) x.0 front x.2 x.3; some = omega arith; parts = refl }
missing laws (suc w) front (b ∷ t) begun fit e =
    elim (bind_err _ _ _ e) [
      | inl failed ↦ absurd ((laws.refuses _ _ _ failed).0 refl)
      | inr a ↦
          let x = missing laws w (front * 256 + b) t a.1 (λ i. fit (suc i)) a.2 in
          let q = next_byte w x.value front b (fit 0) x.begun in
          record { value = x.value; more = x.more; wanted = x.wanted; begun = q.0; some = x.some; parts = (let parts = x.parts in let byte = q.1 in cc) }
    ]

remains : {E : Type 0} {refusals : Refusals E} {at width : ℕ} {Wanted : ℕ → Type 0} {judge : Judge E} → IsJudge refusals at width Wanted judge → (w front : ℕ) (bytes more : List ℕ) (e : E) → (e ≡ refusals.short → ⊥)
    → judged_at refusals.short judge front w bytes ≡ Err e → (judged_at refusals.short judge front w (bytes ++ more) ≡ Err e) × (refusals.place e < at + length bytes)
remains laws zero front bytes more e other h = absurd (not_both refl h)
remains laws (suc w) front [] more e other h = absurd (other (same_err h refl))
remains {refusals = refusals} {judge = judge} laws (suc w) front (b ∷ t) more e other h =
    elim (bind_err _ _ _ h) [
      | inl failed ↦ (bind (λ one. judged_at refusals.short judge (front * 256 + b) w (t ++ more)) failed, omega (arith, (laws.refuses _ _ e failed).1))
      | inr a ↦ (let p = remains laws w (front * 256 + b) t more e other a.2 in (bind (λ one. judged_at refusals.short judge (front * 256 + b) w (t ++ more)) a.1 ∙ p.0, omega (arith, p.1)))
    ]

pub judged_laws : {E : Type 0} {refusals : Refusals E} {at width : ℕ} {Wanted : ℕ → Type 0} {judge : Judge E} → IsJudge refusals at width Wanted judge → IsFormat refusals at (judged refusals.short Wanted judge width)
judged_laws {refusals = refusals} {width = width} {Wanted = Wanted} {judge = judge} laws =
    let none : (x : ℕ) → Wanted x → x / 256 ^ width ≡ 0 = λ x wanted. div-eq_of_lt (laws.within x wanted) in
    let begun : IsBegun judge width 0 = (let x = laws.some in let b = between width x.0 0 (none x.0 x.1) in laws.lets x.0 _ _ x.1 b.0 b.1) in
    record {
      one = laws.some;
      fit = λ x wanted. IsBytes-big_bytes width x;
      back = λ x rest wanted. again laws width 0 x rest wanted (none x wanted);
      from = λ bytes x rest fit e. (let p = known laws width 0 bytes x rest begun fit e in (p.0, p.2));
      opens = λ bytes fit e. (let x = missing laws width 0 bytes begun fit e in record { value = x.value; more = x.more; has = x.wanted; some = x.some; parts = x.parts });
      stays = λ bytes more e fit other h. remains laws width 0 bytes more e other h;
    }

-- ---- one byte and two

-- a code is a number of one byte whose judge looks at it alone
pub record IsCode {E : Type 0} (refusals : Refusals E) (at : ℕ) (judge : ℕ → Result (Unit {0}) E) : Type 0 where
  pub some : (x : ℕ) × ((x < 256) × (judge x ≡ Ok tt))
  pub refuses : (x : ℕ) (e : E) → judge x ≡ Err e → (e ≡ refusals.short → ⊥) × (refusals.place e ≤ at)

code_from : {E : Type 0} (short : E) (judge : ℕ → Result (Unit {0}) E) (bytes : List ℕ) (x : ℕ) (rest : List ℕ) → IsBytes bytes → code_at short judge bytes ≡ Ok (x, rest) → ((x < 256) × (judge x ≡ Ok tt)) × (bytes ≡ x ∷ rest)
code_from short judge [] x rest fit e = absurd (not_both e refl)
code_from short judge (b ∷ t) x rest fit e =
    let a = bind_ok (judge b) _ (x, rest) e in
    let same = same_ok refl a.2 in
    let value : b ≡ x = ap (λ p. p.0) same in
    (subst (λ n. (n < 256) × (judge n ≡ Ok tt)) value (fit 0, a.1), (let left : t ≡ rest = ap (λ p. p.1) same in cc))

code_fails : {E : Type 0} {refusals : Refusals E} {at : ℕ} {judge : ℕ → Result (Unit {0}) E} → IsCode refusals at judge → (bytes : List ℕ) (e : E) → code_at refusals.short judge bytes ≡ Err e
    → ((bytes ≡ []) × (e ≡ refusals.short)) ⊎ ((e ≡ refusals.short → ⊥) × ((more : List ℕ) → code_at refusals.short judge (bytes ++ more) ≡ Err e) × (refusals.place e < at + length bytes))
code_fails laws [] e h = inl (refl, same_err h refl)
code_fails {judge = judge} laws (b ∷ t) e h =
    elim (bind_err (judge b) _ e h) [
      | inl failed ↦ (let p = laws.refuses b e failed in inr (p.0, λ more. bind _ failed, omega (arith, p.1)))
      | inr a ↦ absurd (not_both refl a.2)
    ]

pub code_laws : {E : Type 0} {refusals : Refusals E} {at : ℕ} {judge : ℕ → Result (Unit {0}) E} → IsCode refusals at judge → IsFormat refusals at (code refusals.short judge)
code_laws {refusals = refusals} {judge = judge} laws = record {
  one = laws.some;
  fit = λ x has. IsBytes-cons x [] has.0 (λ i. omega arith);
  back = λ x rest has. bind (λ one. Ok (x, rest)) has.1;
  from = code_from refusals.short judge;
  opens = λ bytes fit e. elim (code_fails laws bytes refusals.short e) [
    | inl none ↦ (let x = laws.some in record { value = x.0; more = x.0 ∷ []; has = x.1; some = omega arith; parts = ap (λ t. t ++ x.0 ∷ []) none.0 })
    | inr failed ↦ absurd (failed.0 refl)
  ];
  stays = λ bytes more e fit other h. elim (code_fails laws bytes e h) [ inl none ↦ absurd (other none.1) | inr failed ↦ (failed.1 more, failed.2) ];
}

two_is : {E : Type 0} (short : E) (judge : Judge E) (bytes : List ℕ) → two_at short judge bytes ≡ judged_at short judge 0 2 bytes
two_is short judge [] = refl
two_is short judge (h ∷ []) =
    let front : 0 * 256 + h ≡ h = omega arith in
    rw front refl
two_is short judge (h ∷ l ∷ t) =
    let front : 0 * 256 + h ≡ h = omega arith in
    let least : least_of 0 (h * 256 + l) ≡ h * 256 + l = omega arith in
    let most : h * 256 + l + 0 ≡ h * 256 + l = omega arith in
    rw (front, least, most) refl

pub two_laws : {E : Type 0} {refusals : Refusals E} {at : ℕ} {Wanted : ℕ → Type 0} {judge : Judge E} → IsJudge refusals at 2 Wanted judge → IsFormat refusals at (two refusals.short Wanted judge)
two_laws {refusals = refusals} {Wanted = Wanted} {judge = judge} laws =
    worded (judged refusals.short Wanted judge 2) (two refusals.short Wanted judge) (judged_laws laws) (two_is refusals.short judge) (λ x has. (has, refl)) (λ x has. has)
