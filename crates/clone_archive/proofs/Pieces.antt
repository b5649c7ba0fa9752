-- Bytes that are copied in pieces, one behind the other.
use Rattle.std.proofs.Common.{◌≡◌, ℕ, ◌+◌, ◌-◌, ◌≤◌, List, ◌++◌, take, drop, arith, ◌∙◌, ap, sym}
use Rattle.std.proofs.Common.{append_assoc}
use Rattle.std.proofs.lemmas.List.{drop-drop}
use Rattle.std.proofs.Math.Seq.{take-add}

-- one more piece of a list behind a front of it, both behind other bytes
pub appended_more : (bytes from_list : List ℕ) (floor from at count : ℕ) → floor ≤ from → from ≤ at
    → (bytes ++ take (at - from) (drop (from - floor) from_list)) ++ take count (drop (at - floor) from_list)
    ≡ bytes ++ take (at + count - from) (drop (from - floor) from_list)
appended_more bytes from_list floor from at count above later =
    let rest = drop (from - floor) from_list in
    let longer : at + count - from ≡ (at - from) + count = omega arith in
    let offset : at - floor ≡ (from - floor) + (at - from) = omega arith in
    let behind : drop (at - floor) from_list ≡ drop (at - from) rest = ap (λ n. drop n from_list) offset ∙ sym (drop-drop (at - from) (from - floor) from_list) in
    let split = take-add (at - from) count rest in
    let joined = append_assoc bytes (take (at - from) rest) (take count (drop (at - from) rest)) in
    cc
