-- One answer fits the bytes.
use Rattle.std.proofs.Common.{◌≡◌, ℕ, ◌≤◌, List, ◌++◌, length, take, drop, Result, Ok, Err, sym, ap, ◌∙◌, arith, inl, inr}
use Rattle.std.proofs.lemmas.List.{length-drop, take-append-drop}
use Rattle.clone_bytes.proofs.Answers.{same_ok, same_err, not_both}
use Rattle.clone_bytes.proofs.FirstBytes.{front_short}
use Rattle.clone_mtr.specs.Answers.{IsFront, Stops, Decodes}
use Rattle.clone_mtr.specs.declared.record.Record.{Record}
use Rattle.clone_mtr.specs.declared.refusal.DecodeRefusal.{DecodeRefusal}
use Rattle.clone_mtr.specs.declared.refusal.DecodeRefusal.TheVariants.{Short, BadKind, OutOfPage, TooLong}
use Rattle.clone_mtr.proofs.Spellings.{mtr, mtr_laws, has_of, end_alone}
use Rattle.clone_mtr.proofs.Decoding.{decides, refused_by}

-- what reading gave where this is the answer
abbrev Told : List ℕ → Result (List Record × ℕ) DecodeRefusal → Type 0
Told bytes (Ok found) = (mtr.read bytes ≡ Ok (found.0, drop found.1 bytes)) × (found.1 ≤ length bytes)
Told bytes (Err e) = mtr.read bytes ≡ Err e

front_told : (bytes : List ℕ) → IsFront bytes → mtr.read bytes ≡ Err Short
front_told bytes front = front_short mtr_laws decides bytes (record { value = front.1.0; more = front.0; has = has_of (bytes ++ front.0) front.1.0 front.1.1.1; some = front.1.1.0; parts = front.1.1.1.text })

stop_told : (bytes : List ℕ) (e : DecodeRefusal) → Stops bytes e → mtr.read bytes ≡ Err e
stop_told bytes e s = ap mtr.read s.parts ∙ refused_by s.records s.rest e s.each (omega (arith, s.below)) s.refused

told : (bytes : List ℕ) (a : Result (List Record × ℕ) DecodeRefusal) → Decodes bytes a → Told bytes a
told bytes (Ok found) k = (ap mtr.read (sym (take-append-drop found.1 bytes) ∙ ap (λ t. t ++ drop found.1 bytes) k.0.text) ∙ mtr_laws.back found.0 (drop found.1 bytes) (has_of (take found.1 bytes) found.0 k.0), k.1)
told bytes (Err Short) k = front_told bytes k.1
told bytes (Err (BadKind at)) k = elim k.2 [ inl s ↦ stop_told bytes (BadKind at) s | inr e ↦ ap mtr.read e.1 ∙ end_alone (drop 1 bytes) ∙ ap (λ n. Err (BadKind n)) (sym e.0) ]
told bytes (Err (OutOfPage at)) k = stop_told bytes (OutOfPage at) k.2
told bytes (Err TooLong) k = stop_told bytes TooLong k.2

same : (bytes : List ℕ) (a b : Result (List Record × ℕ) DecodeRefusal) → Told bytes a → Told bytes b → a ≡ b
same bytes (Ok x) (Ok y) p q =
    let both = same_ok p.0 q.0 in
    let left = ap length (ap (λ r. r.1) both) in
    let n : x.1 ≡ y.1 = omega (arith, p.1, q.1, length-drop x.1 bytes, length-drop y.1 bytes) in
    let made : List Record → ℕ → List Record × ℕ = λ rs n. (rs, n) in
    ap (λ z. Ok z) (ap (λ rs. made rs x.1) (ap (λ r. r.0) both) ∙ ap (made y.0) n)
same bytes (Ok x) (Err e) p q = absurd (not_both p.0 q)
same bytes (Err d) (Ok y) p q = absurd (not_both q.0 p)
same bytes (Err d) (Err e) p q = ap (λ z. Err z) (same_err p q)

-- one answer fits
pub one_answer : (bytes : List ℕ) (a b : Result (List Record × ℕ) DecodeRefusal) → Decodes bytes a → Decodes bytes b → a ≡ b
one_answer bytes a b p q = same bytes a b (told bytes a p) (told bytes b q)
