-- Reading changes one after the other, as a loop does.
use Rattle.std.proofs.Common.{◌≡◌, ℕ, suc, ◌-◌, ◌+◌, ◌<◌, List, [], ◌∷◌, ◌++◌, length, Result, Ok, Err, refl, sym, ap, ◌∙◌, append_assoc, arith}
use Rattle.clone_bytes.specs.Formats.{◌>>=◌}
use Rattle.clone_model.specs.declared.change.Change.{Change}
use Rattle.clone_follow.specs.declared.fault.Fault.{Fault}
use Rattle.clone_follow.specs.declared.fault.Fault.TheVariants.{Short, Garbled, NoMemory}
use Rattle.clone_follow.specs.Spelling.{change_bytes}
use Rattle.clone_follow.specs.Reading.{Fails, change_in, changes_at}

-- what was read before, and what is still read
abbrev pub with_front : List Change → Result (List Change × List ℕ) Fault → Result (List Change × List ℕ) Fault
with_front front read = read >>= λ x. Ok (front ++ x.0, x.1)

regroup : (front : List Change) (x : Change) (read : Result (List Change × List ℕ) Fault) → with_front front (read >>= λ more. Ok (x ∷ more.0, more.1)) ≡ with_front (front ++ x ∷ []) read
regroup front x (Ok y) = ap (λ (xs : List Change). Ok (xs, y.1)) (simp append_assoc)
regroup front x (Err f) = refl

pub next_change : (at long : ℕ) (front : List Change) (count i : ℕ) (bytes : List ℕ) (x : Change) (after : List ℕ) (total : Result (List Change × List ℕ) Fault) → i < count → (change_in at (count - i - 1) long).read bytes ≡ Ok (x, after)
    → with_front front (changes_at at (count - i) long bytes) ≡ total → with_front (front ++ x ∷ []) (changes_at (at + length (change_bytes x)) (count - (i + 1)) (long - length (change_bytes x)) after) ≡ total
next_change at long front count i bytes x after total less h so_far =
    let k : count - i ≡ suc (count - (i + 1)) = omega arith in
    let rest : count - i - 1 ≡ count - (i + 1) = omega arith in
    let read : (change_in at (count - (i + 1)) long).read bytes ≡ Ok (x, after) = rw rest at h in
    let one : with_front front (changes_at at (count - i) long bytes) ≡ with_front (front ++ x ∷ []) (changes_at (at + length (change_bytes x)) (count - (i + 1)) (long - length (change_bytes x)) after) =
    rw (k, read) (regroup front x (changes_at (at + length (change_bytes x)) (count - (i + 1)) (long - length (change_bytes x)) after)) in
    sym one ∙ so_far

pub change_fails : (at long : ℕ) (e : Fault) (front : List Change) (count i : ℕ) (bytes : List ℕ) (total : Result (List Change × List ℕ) Fault) → i < count → Fails e ((change_in at (count - i - 1) long).read bytes)
    → with_front front (changes_at at (count - i) long bytes) ≡ total → Fails e total
change_fails at long NoMemory front count i bytes total less h so_far = tt
change_fails at long Short front count i bytes total less h so_far =
    let k : count - i ≡ suc (count - (i + 1)) = omega arith in
    let rest : count - i - 1 ≡ count - (i + 1) = omega arith in
    let read : (change_in at (count - (i + 1)) long).read bytes ≡ Err Short = rw rest at h in
    let one : with_front front (changes_at at (count - i) long bytes) ≡ Err Short = rw (k, read) refl in
    sym so_far ∙ one
change_fails at long (Garbled place) front count i bytes total less h so_far =
    let k : count - i ≡ suc (count - (i + 1)) = omega arith in
    let rest : count - i - 1 ≡ count - (i + 1) = omega arith in
    let read : (change_in at (count - (i + 1)) long).read bytes ≡ Err (Garbled place) = rw rest at h in
    let one : with_front front (changes_at at (count - i) long bytes) ≡ Err (Garbled place) = rw (k, read) refl in
    sym so_far ∙ one
