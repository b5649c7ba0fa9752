-- A count of faults over a legal run: it never falls, and each answer that tells of a fault let it rise.
use Rattle.std.proofs.Common.{ℕ, ◌≡◌, ◌≤◌, List, [], ◌∷◌, arith}
use Rattle.std.specs.List.{AllByRecursion}
use Rattle.clone_outside.specs.Causes.{Rose}
use Rattle.clone_turn.specs.declared.view.Entry.{Entry}
use Rattle.clone_turn.specs.Runs.{IsLegalRun, end_of}
use Rattle.clone_turn.proofs.EachLemmas.{each_map}

-- the count doesn't fall, and it rises where there was a fault
pub record Counts (Faulty : Type 0) (before now : ℕ) : Type 0 where
  pub later : before ≤ now
  pub fault : Faulty → Rose before now

pub counts_same : (Faulty : Type 0) (before now : ℕ) → now ≡ before → (Faulty → ⊥) → Counts Faulty before now
counts_same Faulty before now same never = record { later = omega (arith, same); fault = λ faulty. absurd (never faulty) }

pub later_on : (a b c : ℕ) → a ≤ b → b ≤ c → a ≤ c
later_on a b c first second = omega (arith, first, second)

pub rose_before : (a b c : ℕ) → Rose a b → b ≤ c → Rose a c
rose_before a b c rose later = omega (arith, rose, later)

pub rose_behind : (a b c : ℕ) → a ≤ b → Rose b c → Rose a c
rose_behind a b c later rose = omega (arith, later, rose)

module _ {S C A : Type 0} (steps : S → C → A → S → Type 0) (count : S → ℕ) (Faulty : A → Type 0) (counts : (s : S) (c : C) (a : A) (t : S) → steps s c a t → Counts (Faulty a) (count s) (count t)) where
  pub never_falls : (first : S) (run : List (Entry S C A)) → IsLegalRun steps first run → count first ≤ count (end_of first run)
  never_falls first [] legal = omega arith
  never_falls first (e ∷ es) legal =
      later_on (count first) (count e.after) (count (end_of e.after es)) (counts first e.call e.answer e.after legal.0).later (never_falls e.after es legal.1)

  pub each_rises : (first : S) (run : List (Entry S C A)) → IsLegalRun steps first run → AllByRecursion (λ (e : Entry S C A). Faulty e.answer → Rose (count first) (count (end_of first run))) run
  each_rises first [] legal = tt
  each_rises first (e ∷ es) legal =
      let now = counts first e.call e.answer e.after legal.0 in
      let last = end_of e.after es in (
        (λ faulty. rose_before (count first) (count e.after) (count last) (now.fault faulty) (never_falls e.after es legal.1)),
        each_map (λ (x : Entry S C A). Faulty x.answer → Rose (count e.after) (count last)) (λ (x : Entry S C A). Faulty x.answer → Rose (count first) (count last))
            (λ x rose faulty. rose_behind (count first) (count e.after) (count last) now.later (rose faulty)) es (each_rises e.after es legal.1),
      )
