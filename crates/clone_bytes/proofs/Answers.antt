-- What a step of a reading answered.
use Rattle.std.proofs.Common.{◌≡◌, ◌⊎◌, Bool, true, false, cond, Result, Ok, Err, refl, sym, ap, ◌∙◌, inl, inr}
use Rattle.clone_bytes.specs.Formats.{◌>>=◌}

-- a value or a refusal
pub outcome : {E X : Type 0} (r : Result X E) → ((x : X) × (r ≡ Ok x)) ⊎ ((e : E) × (r ≡ Err e))
outcome (Ok x) = inl (x, refl)
outcome (Err e) = inr (e, refl)

pub same_ok : {E X : Type 0} {x y : X} {r : Result X E} → r ≡ Ok x → r ≡ Ok y → x ≡ y
same_ok p q = let both = sym p ∙ q in cc

pub same_err : {E X : Type 0} {d e : E} {r : Result X E} → r ≡ Err d → r ≡ Err e → d ≡ e
same_err p q = let both = sym p ∙ q in cc

pub not_both : {E X : Type 0} {x : X} {e : E} {r : Result X E} → r ≡ Ok x → r ≡ Err e → ⊥
not_both p q = let both = sym p ∙ q in cc

pub bind : {E A B : Type 0} {r s : Result A E} (f : A → Result B E) → r ≡ s → (r >>= f) ≡ (s >>= f)
bind f e = ap (λ r. r >>= f) e

-- both steps went well
pub bind_ok : {E A B : Type 0} (r : Result A E) (f : A → Result B E) (y : B) → (r >>= f) ≡ Ok y → (x : A) × (r ≡ Ok x) × (f x ≡ Ok y)
bind_ok (Ok x) f y e = (x, refl, e)
bind_ok (Err d) f y e = absurd cc

-- one of the two was refused
pub bind_err : {E A B : Type 0} (r : Result A E) (f : A → Result B E) (e : E) → (r >>= f) ≡ Err e → (r ≡ Err e) ⊎ ((x : A) × (r ≡ Ok x) × (f x ≡ Err e))
bind_err (Ok x) f e h = inr (x, refl, h)
bind_err (Err d) f e h = inl (ap (λ d. Err d) (let same : d ≡ e = cc in same))

-- which way a test went
pub either_way : {A : Type 0} (b : Bool) (x y z : A) → cond b x y ≡ z → ((b ≡ true) × (x ≡ z)) ⊎ ((b ≡ false) × (y ≡ z))
either_way true x y z e = inl (refl, e)
either_way false x y z e = inr (refl, e)
