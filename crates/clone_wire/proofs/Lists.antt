-- Reading items one after the other, as a loop does.
use Rattle.std.proofs.Common.{◌≡◌, ℕ, suc, ◌-◌, ◌+◌, ◌*◌, ◌<◌, List, [], ◌∷◌, ◌++◌, Result, Ok, Err, refl, sym, ap, ◌∙◌, append_assoc, arith}
use Rattle.clone_wire.specs.declared.fault.Fault.{Fault}
use Rattle.clone_wire.specs.declared.fault.Fault.TheVariants.{Short, Garbled, NoMemory}
use Rattle.clone_bytes.specs.Formats.{◌>>=◌, list_at}
use Rattle.clone_chunk.specs.declared.partials.PartialChunk.{PartialChunk}
use Rattle.clone_wire.specs.Reading.{Fails, partial_in, partials_at}

-- what was read before, and what is still read
abbrev pub with_front : {X : Type 0} → List X → Result (List X × List ℕ) Fault → Result (List X × List ℕ) Fault
with_front front read = read >>= λ x. Ok (front ++ x.0, x.1)

regroup : {X : Type 0} (front : List X) (x : X) (read : Result (List X × List ℕ) Fault) → with_front front (read >>= λ more. Ok (x ∷ more.0, more.1)) ≡ with_front (front ++ x ∷ []) read
regroup {X = X} front x (Ok y) = ap (λ (xs : List X). Ok (xs, y.1)) (simp append_assoc)
regroup front x (Err f) = refl

pub goes_on : {X : Type 0} (item : List ℕ → Result (X × List ℕ) Fault) (front : List X) (count i : ℕ) (bytes : List ℕ) (x : X) (after : List ℕ) (total : Result (List X × List ℕ) Fault) → i < count → item bytes ≡ Ok (x, after)
    → with_front front (list_at item (count - i) bytes) ≡ total → with_front (front ++ x ∷ []) (list_at item (count - (i + 1)) after) ≡ total
goes_on item front count i bytes x after total lt h so_far =
    let k : count - i ≡ suc (count - (i + 1)) = omega arith in
    let one : with_front front (list_at item (count - i) bytes) ≡ with_front (front ++ x ∷ []) (list_at item (count - (i + 1)) after) = rw (k, h) (regroup front x (list_at item (count - (i + 1)) after)) in
    sym one ∙ so_far

pub ends : {X : Type 0} (item : List ℕ → Result (X × List ℕ) Fault) (e : Fault) (front : List X) (count i : ℕ) (bytes : List ℕ) (total : Result (List X × List ℕ) Fault) → i < count → Fails e (item bytes)
    → with_front front (list_at item (count - i) bytes) ≡ total → Fails e total
ends item NoMemory front count i bytes total lt h so_far = tt
ends item Short front count i bytes total lt h so_far =
    let k : count - i ≡ suc (count - (i + 1)) = omega arith in
    let one : with_front front (list_at item (count - i) bytes) ≡ Err Short = rw (k, h) refl in
    sym so_far ∙ one
ends item (Garbled at) front count i bytes total lt h so_far =
    let k : count - i ≡ suc (count - (i + 1)) = omega arith in
    let one : with_front front (list_at item (count - i) bytes) ≡ Err (Garbled at) = rw (k, h) refl in
    sym so_far ∙ one

-- ---- partial chunks, of which each is read by the one before it

pub more_listed : (at : ℕ) (bitmap : List ℕ) (from : ℕ) (front : List PartialChunk) (count i : ℕ) (bytes : List ℕ) (x : PartialChunk) (after : List ℕ) (total : Result (List PartialChunk × List ℕ) Fault) → i < count
    → (partial_in (at + 5 * i) bitmap from (count - i - 1)).read bytes ≡ Ok (x, after) → with_front front (partials_at (at + 5 * i) bitmap from (count - i) bytes) ≡ total
    → with_front (front ++ x ∷ []) (partials_at (at + 5 * (i + 1)) bitmap (x.chunk + 1) (count - (i + 1)) after) ≡ total
more_listed at bitmap from front count i bytes x after total lt h so_far =
    let k : count - i ≡ suc (count - (i + 1)) = omega arith in
    let rest : count - i - 1 ≡ count - (i + 1) = omega arith in
    let place : at + 5 * (i + 1) ≡ at + 5 * i + 5 = omega arith in
    let read : (partial_in (at + 5 * i) bitmap from (count - (i + 1))).read bytes ≡ Ok (x, after) = rw rest at h in
    let one : with_front front (partials_at (at + 5 * i) bitmap from (count - i) bytes) ≡ with_front (front ++ x ∷ []) (partials_at (at + 5 * i + 5) bitmap (x.chunk + 1) (count - (i + 1)) after) =
    rw (k, read) (regroup front x (partials_at (at + 5 * i + 5) bitmap (x.chunk + 1) (count - (i + 1)) after)) in
    rw place (sym one ∙ so_far)
