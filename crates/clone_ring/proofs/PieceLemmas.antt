-- Bytes that are copied in pieces, one behind the other.
use Rattle.std.proofs.Common.{◌≡◌, ℕ, ◌+◌, ◌-◌, ◌≤◌, List, ◌++◌, length, take, drop, arith, ◌∙◌, ap}
use Rattle.std.proofs.Common.{append_assoc, length-take, length-drop, length-append}
use Rattle.std.proofs.lemmas.List.{drop-drop, take_at}
use Rattle.std.proofs.Math.Seq.{take-add, take-append-add}
use borrow.Rule.Slice.PartMut.{put_mid, post_of}
use Rattle.clone_ring.specs.Row.{written}

-- a slice whose front is filled, after one more piece
pub filled_more : (into part rest bytes : List ℕ) (done at count k : ℕ) → done ≤ length into → at + done + count ≤ length bytes
    → part ≡ take count (drop (at + done) bytes) ++ rest → take done into ≡ take done (drop at bytes)
    → take (done + count) (put_mid done k into part) ≡ take (done + count) (drop at bytes)
filled_more into part rest bytes done at count k within there is front =
    let piece = take count (drop (at + done) bytes) in
    let size : length (take done into) ≡ done = omega (arith, length-take done into) in
    let long : length piece ≡ count = omega (arith, length-take count (drop (at + done) bytes), length-drop (at + done) bytes) in
    let after = take-append-add (take done into) (part ++ post_of done k into) count in
    let here : take count (part ++ post_of done k into) ≡ piece =
    ap (λ ys. take count (ys ++ post_of done k into)) is
    ∙ (ap (take count) (append_assoc piece rest (post_of done k into)) ∙ take_at piece (rest ++ post_of done k into) count long) in
    let split = take-add done count (drop at bytes) in
    let behind = drop-drop done at bytes in
    cc

-- how many bytes there are once some were written
pub length-written : (at : ℕ) (new bytes : List ℕ) → at ≤ length bytes
    → length (written at new bytes) ≡ at + length new + (length bytes - (at + length new))
length-written at new bytes within =
    let rest = drop (at + length new) bytes in
    omega (arith, length-append (take at bytes) (new ++ rest), length-append new rest, length-take at bytes, length-drop (at + length new) bytes)
