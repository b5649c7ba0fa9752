-- Bytes and their hex digits.
use Rattle.std.proofs.Common.{◌≡◌, ℕ, ◌+◌, ◌/◌, ◌%◌, ◌<◌, ◌≤◌, List, [], ◌∷◌, ◌++◌, length, take, Option, Some, None, IfSome, IfNone, refl, sym, ap, ◌∙◌, arith, append-nil, length-append}
use Rattle.std.proofs.lemmas.Bool.Decides.{nat_tests}
use Rattle.std.proofs.lemmas.List.{length-take-le, nil_from_length}
use Rattle.clone_model.specs.Texts.{hex_digit, hex_byte, hex}
use Rattle.clone_model.specs.Reading.{AreBytes}

-- the first bytes are what the digits before the rest show
pub record Decoded (text bytes : List ℕ) (len : ℕ) (rest : List ℕ) : Type 0 where
  pub within : len ≤ length bytes
  pub small : AreBytes (take len bytes)
  pub same : text ≡ hex (take len bytes) ++ rest

-- different digits look different
hex_digit-injective : (m n : ℕ) → m < 16 → n < 16 → hex_digit m ≡ hex_digit n → m ≡ n
hex_digit-injective m n p q e = grind (arith, nat_tests)

-- the first two digits of a text are those of one byte
hex_byte-injective : (b c : ℕ) (xs ys : List ℕ) → b < 256 → c < 256 → hex_byte b ++ xs ≡ hex_byte c ++ ys → (b ≡ c) × (xs ≡ ys)
hex_byte-injective b c xs ys p q e =
    let high_digit : hex_digit (b / 16) ≡ hex_digit (c / 16) = cc in
    let low_digit : hex_digit (b % 16) ≡ hex_digit (c % 16) = cc in
    let high = hex_digit-injective (b / 16) (c / 16) (omega arith) (omega arith) high_digit in
    let low = hex_digit-injective (b % 16) (c % 16) (omega arith) (omega arith) low_digit in
    (omega arith, cc)

-- Where the digits of a value begin with those of some bytes, the rest are those of the value's other bytes.
pub hex_rest : (front rest v : List ℕ) → AreBytes front → AreBytes v → hex front ++ rest ≡ hex v
    → (others : List ℕ) × (v ≡ front ++ others) × (rest ≡ hex others) × AreBytes others
hex_rest [] rest v p q e = (v, refl, e, q)
hex_rest (b ∷ front) rest [] p q e = absurd (omega (arith, ap length e))
hex_rest (b ∷ front) rest (c ∷ v) p q e =
    let first = hex_byte-injective b c (hex front ++ rest) (hex v) p.0 q.0 e in
    let tail = hex_rest front rest v p.1 q.1 first.1 in
    let whole : c ∷ v ≡ b ∷ (front ++ tail.0) = cc in
    (tail.0, whole, tail.2, tail.3)

-- the bytes of the value that the text shows, behind those that were decoded
others_of : (text bytes : List ℕ) (len : ℕ) (rest v : List ℕ) → Decoded text bytes len rest → AreBytes v → text ≡ hex v
    → (others : List ℕ) × (v ≡ take len bytes ++ others) × (rest ≡ hex others) × AreBytes others
others_of text bytes len rest v h small e = hex_rest (take len bytes) rest v h.small small (sym h.same ∙ e)

-- no digits are left where all the room is taken
pub full : (text bytes : List ℕ) (len : ℕ) (rest v : List ℕ) → Decoded text bytes len rest → len ≡ length bytes → 0 < length rest → length v ≤ length bytes → AreBytes v → text ≡ hex v → ⊥
full text bytes len rest v h limit some short small e =
    let others = others_of text bytes len rest v h small e in
    let count : length v ≡ len + length others.0 = ap length others.1 ∙ length-append (take len bytes) others.0 ∙ ap (λ n. n + length others.0) (length-take-le len bytes (omega (arith, h.within))) in
    let none = nil_from_length others.0 (omega (arith, short)) in
    let empty : rest ≡ [] = others.2 ∙ ap hex none in
    omega (arith, ap length empty)

-- the digits that are left begin with those of a byte
pub next_byte : (text bytes : List ℕ) (len : ℕ) (rest v : List ℕ) → Decoded text bytes len rest → 0 < length rest → AreBytes v → text ≡ hex v
    → (b : ℕ) × (behind : List ℕ) × (b < 256) × (rest ≡ hex_byte b ++ behind)
next_byte text bytes len rest v h some small e =
    let others = others_of text bytes len rest v h small e in
    (elim others.0 as (λ o. rest ≡ hex o → AreBytes o → (b : ℕ) × (behind : List ℕ) × (b < 256) × (rest ≡ hex_byte b ++ behind)) [
      | [] ↦ λ same bytes. absurd (omega (arith, ap length same))
      | b ∷ o ↦ λ same bytes. (b, hex o, bytes.0, same)
    ]) others.2 others.3

-- no other value has this text
pub only_decoded : (text bytes : List ℕ) (len : ℕ) (rest v : List ℕ) → Decoded text bytes len rest → length rest ≡ 0 → AreBytes v → text ≡ hex v → v ≡ take len bytes
only_decoded text bytes len rest v h none small e =
    let others = others_of text bytes len rest v h small e in
    (elim others.0 as (λ o. v ≡ take len bytes ++ o → rest ≡ hex o → v ≡ take len bytes) [
      | [] ↦ λ whole same. whole ∙ append-nil (take len bytes)
      | b ∷ o ↦ λ whole same. absurd (omega (arith, ap length same))
    ]) others.1 others.2

-- a value is made of these bytes where there are no more than so many
pub made : (limit : ℕ) (result : Option (List ℕ)) (bytes : List ℕ) → IfSome result (λ v. v ≡ bytes) → IfNone result (limit < length bytes) → length bytes ≤ limit → result ≡ Some bytes
made limit (Some v) bytes value none short = ap Some value
made limit None bytes value none short = absurd (omega arith)
