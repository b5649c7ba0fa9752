-- A test of two facts, one after the other.
use Rattle.std.proofs.Common.{◌≡◌, ◌↔◌, ◌⊎◌, Bool, true, false, IsTrue, inl, inr}

pub first_holds : {P Q : Type 0} {a : Bool} → (IsTrue a ↔ P) → a ≡ true → (IsTrue a ↔ (P ⊎ Q))
first_holds decides holds = (λ t. inl (decides.0 t), λ _. holds)

pub second_decides : {P Q : Type 0} {a b : Bool} → (IsTrue a ↔ P) → a ≡ false → (IsTrue b ↔ Q) → (IsTrue b ↔ (P ⊎ Q))
second_decides {P = P} {Q = Q} {a = a} {b = b} decides fails more =
    (λ t. inr (more.0 t), λ either. elim either as (λ _. IsTrue b) [ inl p ↦ absurd (let t : a ≡ true = decides.1 p in cc) | inr q ↦ more.1 q ])

-- a test that fails refuses what needs its fact
pub refused : {P W : Type 0} {a : Bool} → (IsTrue a ↔ P) → a ≡ false → (W → P) → (IsTrue false ↔ W)
refused {P = P} {W = W} {a = a} decides fails needs =
    (λ t. absurd (let e : false ≡ true = t in cc), λ w. absurd (let t : a ≡ true = decides.1 (needs w) in cc))

pub refuses : {P W : Type 0} {a : Bool} → (IsTrue a ↔ P) → a ≡ false → (W → P) → (IsTrue a ↔ W)
refuses {P = P} {W = W} {a = a} decides fails needs =
    (λ t. absurd (let e : a ≡ true = t in cc), λ w. decides.1 (needs w))
