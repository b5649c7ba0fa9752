-- Pieces of bytes that are known.
use Rattle.std.proofs.Common.{◌≡◌, ℕ, List, [], ◌∷◌, ◌∙◌}
use Rattle.clone_page.specs.Bytes.{put_at}

-- what a piece leaves of bytes that are known
pub told : (at : ℕ) (piece was bytes : List ℕ) {new written : List ℕ} → new ≡ put_at at written was → written ≡ piece → was ≡ bytes → new ≡ put_at at piece bytes
told at piece was bytes p q r = p ∙ (λ i. put_at at (q i) (r i))

pub pair : {a b x y : ℕ} → a ≡ b → x ≡ y → a ∷ x ∷ [] ≡ b ∷ y ∷ []
pair p q = cc
