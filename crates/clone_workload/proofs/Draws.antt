-- What is drawn of words, one at a time.
use Rattle.std.proofs.Common.{◌≡◌, ◌∙◌, ℕ, zero, suc, ◌+◌, ◌-◌, ◌<◌, ◌%◌, [], ◌∷◌, ◌++◌, length, ap, refl, arith, add-one}
use Rattle.std.proofs.lemmas.List.{length-append}
use Rattle.rand_pcg.specs.Lcg.{Lcg}
use Rattle.clone_workload.specs.Words.{first, rest, after}
use Rattle.clone_workload.specs.Transactions.{bytes, change, after_change, changes, commit, stream}

-- where i of n are drawn, one more is drawn
pub next_byte : (n i : ℕ) (words : Lcg) → i < n
    → bytes (n - i) words ≡ first words % 256 ∷ bytes (n - (i + 1)) (rest words)
next_byte n i words more =
    let left : n - i ≡ suc (n - (i + 1)) = omega arith in rw left refl

pub next_after : (n i : ℕ) (words : Lcg) → i < n
    → after (n - i) words ≡ after (n - (i + 1)) (rest words)
next_after n i words more =
    let left : n - i ≡ suc (n - (i + 1)) = omega arith in rw left refl

pub next_change : (n i tables : ℕ) (words : Lcg) → i < n
    → changes tables (n - i) words
    ≡ change tables words ∷ changes tables (n - (i + 1)) (after_change words)
next_change n i tables words more =
    let left : n - i ≡ suc (n - (i + 1)) = omega arith in rw left refl

-- a stream has as many commits as it was asked for
pub stream_count : (seed writer count tables : ℕ) → length (stream seed writer count tables) ≡ count
stream_count seed writer zero tables = refl
stream_count seed writer (suc count) tables =
    length-append (stream seed writer count tables) _ ∙ (ap (λ n. n + 1) (stream_count seed writer count tables) ∙ add-one count)

-- and with one more its last commit is the next
pub stream_next : (seed writer count tables : ℕ)
    → stream seed writer (count + 1) tables ≡ stream seed writer count tables ++ commit seed writer count tables ∷ []
stream_next seed writer count tables = rw (add-one count) refl
