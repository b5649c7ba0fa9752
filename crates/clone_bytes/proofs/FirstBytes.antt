-- What follows of a format: no spelling begins another, and a refusal comes at its first byte.
use Rattle.std.proofs.Common.{◌≡◌, ℕ, zero, suc, ◌+◌, ◌<◌, ◌≤◌, ◌⊎◌, List, [], ◌++◌, length, take, drop, Err, sym, ap, subst, ◌∙◌, append_assoc, add-one, arith, inl, inr}
use Rattle.std.proofs.Math.Seq.{take-add}
use Rattle.std.proofs.lemmas.List.{append-nil, length-append, length-take, take_all, take-append-drop, take-take}
use Rattle.clone_bytes.specs.Fields.{IsBytes}
use Rattle.clone_bytes.specs.Formats.{Format, Refusals, Begun, IsFormat}
use Rattle.clone_bytes.proofs.Numbers.{IsBytes-take, IsBytes-front}
use Rattle.clone_bytes.proofs.Answers.{same_ok, same_err, not_both, outcome}

-- whether a refusal says that the bytes end
abbrev pub Decides : {E : Type 0} → Refusals E → Type 0
Decides {E} refusals = (e : E) → (e ≡ refusals.short) ⊎ (e ≡ refusals.short → ⊥)

-- no spelling begins another
pub unique : {E A : Type 0} {refusals : Refusals E} {at : ℕ} {format : Format E A} → IsFormat refusals at format → (x y : A) (a b : List ℕ) → format.Has x → format.Has y → format.text x ++ a ≡ format.text y ++ b → (x ≡ y) × (a ≡ b)
unique {format = format} laws x y a b p q e =
    let same = same_ok (laws.back x a p) (ap format.read e ∙ laws.back y b q) in
    (ap (λ r. r.0) same, ap (λ r. r.1) same)

-- where reading is refused no spelling is at the front
pub none_yet : {E A : Type 0} {refusals : Refusals E} {at : ℕ} {format : Format E A} → IsFormat refusals at format → (bytes rest : List ℕ) (e : E) (x : A) → format.read bytes ≡ Err e → format.Has x → bytes ≡ format.text x ++ rest → ⊥
none_yet {format = format} laws bytes rest e x failed has parts = not_both (ap format.read parts ∙ laws.back x rest has) failed

-- nor will one be, where more bytes don't help
pub none_ever : {E A : Type 0} {refusals : Refusals E} {at : ℕ} {format : Format E A} → IsFormat refusals at format → (bytes more rest : List ℕ) (e : E) (x : A) → IsBytes bytes → (e ≡ refusals.short → ⊥) → format.read bytes ≡ Err e → format.Has x
    → bytes ++ more ≡ format.text x ++ rest → ⊥
none_ever laws bytes more rest e x fit other failed has parts = none_yet laws (bytes ++ more) rest e x (laws.stays bytes more e fit other failed).0 has parts

-- a proper front of a spelling is too short
pub front_short : {E A : Type 0} {refusals : Refusals E} {at : ℕ} {format : Format E A} → IsFormat refusals at format → Decides refusals → (bytes : List ℕ) → Begun format bytes → format.read bytes ≡ Err refusals.short
front_short {format = format} laws decides bytes front =
    let whole = format.text front.value in
    let fit : IsBytes bytes = IsBytes-front bytes front.more (subst IsBytes (sym front.parts) (laws.fit front.value front.has)) in
    let read = laws.back front.value [] front.has in
    elim (outcome (format.read bytes)) [
      | inl found ↦
          let p = laws.from bytes found.0.0 found.0.1 fit found.1 in
          let same = unique laws found.0.0 front.value (found.0.1 ++ front.more) [] p.0 front.has (sym (append_assoc (format.text found.0.0) found.0.1 front.more) ∙ ap (λ t. t ++ front.more) (sym p.1) ∙ front.parts ∙ sym (append-nil whole)) in
          absurd (omega (arith, front.some, ap length same.1, length-append found.0.1 front.more))
      | inr failed ↦ elim (decides failed.0) [
        | inl short ↦ failed.1 ∙ ap (λ e. Err e) short
        | inr other ↦ absurd (not_both read (ap format.read (append-nil whole ∙ sym front.parts) ∙ (laws.stays bytes front.more failed.0 fit other failed.1).0))
      ]
    ]

-- what comes before in a front of a spelling is one
front_of_front : {E A : Type 0} {format : Format E A} (k n : ℕ) (bytes : List ℕ) → k ≤ n → Begun format (take n bytes) → Begun format (take k bytes)
front_of_front k n bytes less front =
    let rest = drop k (take n bytes) in
    record {
      value = front.value;
      more = rest ++ front.more;
      has = front.has;
      some = omega (arith, front.some, length-append rest front.more);
      parts = sym (append_assoc (take k bytes) rest front.more) ∙ ap (λ t. t ++ front.more) (ap (λ t. t ++ rest) (sym (take-take k n bytes less)) ∙ take-append-drop k (take n bytes)) ∙ front.parts;
    }

-- The byte with which a refusal comes: the bytes before it are a front of a spelling. So are those before the byte that it names.
pub record Turns {E A : Type 0} (refusals : Refusals E) (format : Format E A) (bytes : List ℕ) (e : E) : Type 0 where
  pub count : ℕ
  pub within : count < length bytes
  pub before : Begun format (take count bytes)
  pub refused : format.read (take (count + 1) bytes) ≡ Err e
  pub place : refusals.place e ≤ count
  pub named : Begun format (take (refusals.place e) bytes)

turns_below : {E A : Type 0} {refusals : Refusals E} {format : Format E A} → IsFormat refusals 0 format → Decides refusals → (bytes : List ℕ) (e : E) → IsBytes bytes → (e ≡ refusals.short → ⊥) → (k : ℕ) → k ≤ length bytes → format.read (take k bytes) ≡ Err e
    → Turns refusals format bytes e
turns_below laws decides bytes e fit other zero within failed = absurd (omega (arith, (laws.stays [] [] e (λ i. omega arith) other failed).1))
turns_below {refusals = refusals} {format = format} laws decides bytes e fit other (suc k) within failed =
    let front = take k bytes in
    let next = take 1 (drop k bytes) in
    let here : take (suc k) bytes ≡ take (k + 1) bytes = ap (λ n. take n bytes) (sym (add-one k)) in
    let parts : take (suc k) bytes ≡ front ++ next = here ∙ take-add k 1 bytes in
    let front_fit = IsBytes-take k bytes fit in
    elim (outcome (format.read front)) [
      | inl found ↦
          let p = laws.from front found.0.0 found.0.1 front_fit found.1 in
          absurd (not_both (ap format.read (parts ∙ ap (λ t. t ++ next) p.1 ∙ append_assoc (format.text found.0.0) found.0.1 next) ∙ laws.back found.0.0 (found.0.1 ++ next) p.0) failed)
      | inr stopped ↦ elim (decides stopped.0) [
        | inl short ↦
            let before = laws.opens front front_fit (stopped.1 ∙ ap (λ d. Err d) short) in
            let place : refusals.place e ≤ k = omega (arith, (laws.stays (take (suc k) bytes) [] e (IsBytes-take (suc k) bytes fit) other failed).1, length-take (suc k) bytes) in
            record { count = k; within = omega (arith, within); before = before; refused = ap format.read (sym here) ∙ failed; place = place; named = front_of_front (refusals.place e) k bytes place before }
        | inr still ↦
            let same = same_err (laws.stays front next stopped.0 front_fit still stopped.1).0 (ap format.read (sym parts) ∙ failed) in
            turns_below laws decides bytes e fit other k (omega (arith, within)) (stopped.1 ∙ ap (λ d. Err d) same)
      ]
    ]

pub first_byte : {E A : Type 0} {refusals : Refusals E} {format : Format E A} → IsFormat refusals 0 format → Decides refusals → (bytes : List ℕ) (e : E) → IsBytes bytes → (e ≡ refusals.short → ⊥) → format.read bytes ≡ Err e → Turns refusals format bytes e
first_byte {format = format} laws decides bytes e fit other failed = turns_below laws decides bytes e fit other (length bytes) (omega arith) (ap format.read (take_all (length bytes) bytes (omega arith)) ∙ failed)
