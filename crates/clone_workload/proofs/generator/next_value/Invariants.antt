-- The bytes so far and those of the words that are left are the bytes of the value.
use Rattle.std.proofs.Common.{◌≡◌, ◌++◌, ◌-◌, length, take}
use Rattle.clone_base.specs.declared.limits.TheConstants.{VALUE_LIMIT}
use Rattle.clone_workload.specs.Words.{after}
use Rattle.clone_workload.specs.Transactions.{bytes}
use Rattle.clone_workload.proofs.generator.next_value.Given as goal

abbrev pub invariant-bytes : goal.invariant-bytes
invariant-bytes l =
    (take l.i l.bytes ++ bytes (l.length - l.i) l.words ≡ bytes l.length l.initial.words)
    × (after (l.length - l.i) l.words ≡ after l.length l.initial.words)
    × (length l.bytes ≡ VALUE_LIMIT)
