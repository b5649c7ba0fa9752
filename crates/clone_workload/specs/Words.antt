-- The words that a transaction is made of: those of a PCG32 generator, each of 32 bits. What they
-- are is a function of the generator's state, the first one and the generator that gives the rest.
use Rattle.std.specs.Prelude.{ℕ, zero, suc, ◌+◌, ◌*◌}
use Rattle.rand_pcg.specs.Lcg.{Lcg, started, increment_of}
use Rattle.rand_pcg.specs.Pcg.{pcg32, multiplier_64}
use Rattle.clone_workload.specs.declared.generator.TheConstants.{INDEX_LIMIT}

unfoldable pub first : Lcg → ℕ
first words = (pcg32 words).0

unfoldable pub rest : Lcg → Lcg
rest words = (pcg32 words).1

-- what is left after so many words
abbrev pub after : ℕ → Lcg → Lcg
after zero words = words
after (suc n) words = after n (rest words)

-- the word that so many others come before
abbrev pub word : ℕ → Lcg → ℕ
word n words = first (after n words)

-- The words of a transaction: the seed is the state, and each transaction of a writer has a stream
-- of its own.
unfoldable pub words_of : ℕ → ℕ → ℕ → Lcg
words_of seed writer index =
    started 64 multiplier_64 seed (increment_of 64 (writer * INDEX_LIMIT + index))
