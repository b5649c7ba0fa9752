-- The frame that a step took is among those that were heard.
use Rattle.std.proofs.Common.{ℕ, ◌≡◌, ◌∙◌, ◌-◌, ◌++◌, ◌∷◌, [], List, length, take, refl, sym, ap, subst, arith}
use Rattle.std.specs.Prelude.{Contains}
use Rattle.std.proofs.lemmas.List.{length-append}
use Rattle.std.proofs.lemmas.List.Elements.{Contains-push}
use Rattle.std.proofs.Math.Seq.{take-append_seam}
use Rattle.clone_wire.specs.Spelling.{spelling}
use Rattle.clone_wire.specs.declared.frame.Frame.{Frame}
use Rattle.clone_wire.specs.declared.frame.Frame.TheVariants as frame
use Rattle.clone_wire.specs.declared.frame.Side.TheVariants.{Answer}
use Rattle.clone_stream.specs.Streams.{IsFrameOf}
use Rattle.clone_sides.specs.Trace.{Entry}
use Rattle.clone_told.specs.Told.{IsOf, IsTold}
use Rattle.clone_reading.specs.Reading.{Bytes, if_any}
use Rattle.clone_held.specs.Held.{AreTold}

-- the bytes before those that are left
front : (xs ys zs : List ℕ) → zs ≡ xs ++ ys → take (length zs - length ys) zs ≡ xs
front xs ys zs is =
    let n : length zs - length ys ≡ length xs = (let l = length-append xs ys in let m = ap length is in omega (arith, l, m)) in
    ap (λ k. take k zs) n ∙ ap (take (length xs)) is ∙ take-append_seam xs ys

-- a frame has bytes
one_frame : (f : Frame) → if_any (spelling f) ≡ spelling f ∷ []
unfolding spelling
one_frame frame.Exit = refl
one_frame _ = refl

pub heard_frame : (number : ℕ) (trace : List Entry) (got : Frame) (received left : List ℕ) → AreTold number trace (if_any (take (length received - length left) received)) → IsFrameOf Answer got → received ≡ spelling got ++ left → IsOf number got → IsTold number trace got
heard_frame number trace got received left told of is =
    let one : if_any (take (length received - length left) received) ≡ spelling got ∷ [] = ap if_any (front (spelling got) left received is) ∙ one_frame got in
    told got of (subst (λ (frames : List Bytes). Contains frames (spelling got)) (sym one) (Contains-push [] (spelling got)))
