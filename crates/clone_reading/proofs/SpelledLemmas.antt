-- Frames are told from each other by their bytes.
use Rattle.std.proofs.Common.{◌≡◌, ◌∙◌, ◌<◌, true, false, List, [], ◌∷◌, ◌++◌, length, refl, sym, ap, subst, arith, length-append, eqb→eq, T}
use Rattle.std.specs.List.{AllByRecursion}
use Rattle.byteorder.specs.Endian.{big_bytes}
use Rattle.clone_runs.specs.Spellings.{AreToldFrom, IsToldFrom}
use Rattle.clone_wire.specs.Spelling.{code_of, payload, spelling}
use Rattle.clone_wire.specs.declared.frame.Frame.{Frame}
use Rattle.clone_wire.specs.declared.frame.Side.{Side}
use Rattle.clone_stream.specs.Streams.{IsFrameOf}
use Rattle.clone_stream.proofs.Orders.{same_front}
use Rattle.clone_reading.specs.Reading.{AreSpelled, Bytes, as_they_are, has_code, is_exit, is_init}

spelling_some : (frame : Frame) → 0 < length (spelling frame)
unfolding spelling
spelling_some frame = omega (arith, length-append (big_bytes 1 (code_of frame)) (big_bytes 4 (length (payload frame)) ++ payload frame))

module _ (side : Side) where
  abbrev IsSpelled : Bytes → Type 0
  IsSpelled bytes = (frame : Frame) × IsFrameOf side frame × (bytes ≡ spelling frame)

  one_apart : (x y : Bytes) → IsSpelled x → IsSpelled y → IsToldFrom as_they_are x y
  one_apart x y (m, is_m, x_is) (n, is_n, y_is) r q same =
      let fronts : spelling m ++ r ≡ spelling n ++ q = ap (λ t. t ++ r) (sym x_is) ∙ (same ∙ ap (λ t. t ++ q) y_is) in
      x_is ∙ (ap spelling (same_front side m n r q is_m is_n fronts).0 ∙ sym y_is)

  each_apart : (x : Bytes) (ys : List Bytes) → IsSpelled x → AreSpelled side ys → AllByRecursion (IsToldFrom as_they_are x) ys
  each_apart x [] is are = tt
  each_apart x (y ∷ ys) is are = (one_apart x y is are.0, each_apart x ys is are.1)

  some_bytes : (x : Bytes) → IsSpelled x → 0 < length x
  some_bytes x (m, is_m, x_is) = subst (λ t. 0 < length t) (sym x_is) (spelling_some m)

  pub apart : (xs ys : List Bytes) → AreSpelled side xs → AreSpelled side ys → AreToldFrom as_they_are xs ys
  apart [] ys are others = tt
  apart (x ∷ xs) ys are others = ((some_bytes x are.0, each_apart x ys are.0 others), apart xs ys are.1 others)

pub not_exit : (bytes : Bytes) → is_init bytes ≡ true → is_exit bytes ≡ false
not_exit [] init = absurd cc
not_exit (first ∷ bytes) init = subst (λ n. has_code 6 (n ∷ bytes) ≡ false) (sym (eqb→eq first 1 (subst T (sym init) tt))) refl
