-- What the words of a transaction mean.
use Rattle.std.specs.Prelude.{ℕ, zero, suc, ◌+◌, ◌%◌, ◌==◌, List, [], ◌∷◌, ◌++◌}
use Rattle.std.specs.Prelude.{Bool, None, Some, if◌then◌else◌}
use Rattle.std.specs.declared.option.Option.{Option}
use Rattle.rand_pcg.specs.Lcg.{Lcg}
use Rattle.clone_base.specs.declared.limits.TheConstants.{VALUE_LIMIT}
use Rattle.clone_model.specs.declared.change.Change.{Change}
use Rattle.clone_model.specs.declared.change.Commit.{Commit}
use Rattle.clone_workload.specs.Words.{first, rest, after, word, words_of}
use Rattle.clone_workload.specs.declared.generator.TheConstants.{KEYS, KINDS, MOST_CHANGES}

-- so many bytes, each from a word
abbrev pub bytes : ℕ → Lcg → List ℕ
bytes zero words = []
bytes (suc n) words = first words % 256 ∷ bytes n (rest words)

-- The first word is the kind, and a deletion where it is a multiple of 8. Otherwise the second
-- word is the length of the value, and its bytes follow.
abbrev pub is_deletion : Lcg → Bool
is_deletion words = word 0 words % KINDS == 0

abbrev pub length_of : Lcg → ℕ
length_of words = word 1 words % (VALUE_LIMIT + 1)

abbrev pub value : Lcg → Option (List ℕ)
value words = if is_deletion words then None else Some (bytes (length_of words) (after 2 words))

abbrev pub after_value : Lcg → Lcg
after_value words =
    if is_deletion words then after 1 words else after (length_of words) (after 2 words)

-- a change: its table, its key, and then its value
abbrev pub change : ℕ → Lcg → Change
change tables words = record {
  table = 1 + word 0 words % tables;
  key = word 1 words % KEYS;
  value = value (after 2 words);
}

abbrev pub after_change : Lcg → Lcg
after_change words = after_value (after 2 words)

-- so many changes, one after the other
abbrev pub changes : ℕ → ℕ → Lcg → List Change
changes tables zero words = []
changes tables (suc n) words = change tables words ∷ changes tables n (after_change words)

-- the changes of a transaction: the first word is their number
abbrev pub generated : ℕ → ℕ → ℕ → ℕ → List Change
generated seed writer index tables =
    let words = words_of seed writer index in
    changes tables (1 + word 0 words % MOST_CHANGES) (after 1 words)

abbrev pub commit : ℕ → ℕ → ℕ → ℕ → Commit
commit seed writer index tables = record {
  writer = writer;
  index = index;
  changes = generated seed writer index tables;
}

-- The stream of a writer: the commits of its first transactions, so many, in their order.
abbrev pub stream : ℕ → ℕ → ℕ → ℕ → List Commit
stream seed writer zero tables = []
stream seed writer (suc count) tables =
    stream seed writer count tables ++ commit seed writer count tables ∷ []
