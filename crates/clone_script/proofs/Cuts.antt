-- Scripts that are cut at their line feeds.
use Rattle.std.proofs.Common.{◌≡◌, ℕ, ◌<◌, List, [], ◌∷◌, ◌++◌, length, false, refl, ap, arith, eqb}
use Rattle.std.proofs.lemmas.Bool.Decides.{nat_tests}
use Rattle.clone_model.proofs.Cuts.{Lacks}
use Rattle.clone_script.specs.Script.{texts_of, with_byte}

-- the first text ends at the first line feed
pub texts_of-ended : (text rest : List ℕ) → Lacks 10 text → texts_of (text ++ 10 ∷ rest) ≡ text ∷ texts_of rest
texts_of-ended [] rest h = refl
texts_of-ended (b ∷ text) rest h =
    let other : eqb b 10 ≡ false = grind (arith, nat_tests, h.0) in
    rw other (ap (with_byte b) (texts_of-ended text rest h.1))

-- a text with no line feed is the only one
pub texts_of-last : (text : List ℕ) → 0 < length text → Lacks 10 text → texts_of text ≡ text ∷ []
texts_of-last [] some h = absurd (omega arith)
texts_of-last (b ∷ []) some h =
    let other : eqb b 10 ≡ false = grind (arith, nat_tests, h.0) in
    rw other refl
texts_of-last (b ∷ c ∷ text) some h =
    let other : eqb b 10 ≡ false = grind (arith, nat_tests, h.0) in
    rw other (ap (with_byte b) (texts_of-last (c ∷ text) (omega arith) h.1))
