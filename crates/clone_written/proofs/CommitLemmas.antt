-- What the writers have committed, once the jobs of a run are done.
use Rattle.std.proofs.Common.{◌≡◌, ◌≢◌, ◌==◌, ◌∙◌, ◌⊎◌, ◌≤◌, ◌<◌, ◌+◌, ℕ, Bool, true, false, cond, List, [], ◌∷◌, map, filter, Contains, Option, None, refl, sym, ap, subst, inl, inr, arith}
use Rattle.std.specs.List.{AllByRecursion}
use Rattle.std.proofs.lemmas.Bool.{cases_lt, eq-eqb, true≢false}
use Rattle.std.proofs.lemmas.List.Elements.{All-contains}
use Rattle.clone_outside.specs.declared.link.Link.{Ghosts as Link}
use Rattle.clone_turn.specs.Runs.{IsLegalRun, end_of}
use Rattle.clone_turn.proofs.EachLemmas.{all_of_each, each_map}
use Rattle.clone_runs.specs.Shuffles.{IsShuffled}
use Rattle.clone_model.specs.declared.change.Commit.{Commit}
use Rattle.clone_plain.specs.Donor.{Donor}
use Rattle.clone_machine.specs.Running.{JobEntry}
use Rattle.clone_machine.specs.Sharing.{SharedDonor, Steps}
use Rattle.clone_workload.specs.Transactions.{stream}
use Rattle.clone_writer.specs.Writers.{Writer, asked, starting}
use Rattle.clone_writer.specs.Writing.{Agree, of_writer}
use Rattle.clone_jobs.specs.Said.{said_in}
use Rattle.clone_jobs.specs.Written.{AreApart, Begins, Ends, Follows, IsPart, Other, Part, Written, made_by, plain}
use Rattle.clone_jobs.proofs.WriterLemmas.{all_written, later}
use Rattle.clone_run.specs.declared.failure.Failure.{Failure}
use Rattle.clone_run.specs.declared.load.Load.{Load}
use Rattle.clone_run.specs.declared.outcome.Outcome.{Outcome}
use Rattle.clone_run.specs.Done.{AreDone, served_from}
use Rattle.clone_run.specs.Teams.{Parts}
use Rattle.clone_written.specs.Commits.{AreOfWriters, HasAllCommits, HasCommits, HasCommitted}
use Rattle.clone_written.proofs.AsideLemmas.{IsAnswered, each_shuffled, legal_answered, shuffled_with_none}
use Rattle.clone_written.proofs.MoveLemmas.{moves}
use Rattle.clone_written.proofs.NumberLemmas.{AreDistinct, at_number, last_numbers, numbers_distinct, numbers_of_run, numbers_within}
use Rattle.clone_written.proofs.PartLemmas.{IsOwn, IsWhole, Parted, apart_from, are_apart, numbers_of, parted}
use Rattle.clone_written.proofs.ProgressLemmas.{all_done, within}

-- ---- before the run

one_begins : (load : Load) (w : Writer) (d : Donor) → d.binlog ≡ [] → w ≡ starting load.seed w.number load.tables load.transactions → Agree w d
one_begins load w d empty own = subst (λ (x : Writer). Agree x d) (sym own) (record { commits = ap (of_writer w.number) empty; place = tt })

all_begin : (load : Load) (d : Donor) (parts : List Part) → d.binlog ≡ [] → AllByRecursion (IsOwn load) parts → AllByRecursion (Begins d) parts
all_begin load d [] empty own = tt
all_begin load d (Written w v made ∷ parts) empty own = (one_begins load w d empty own.0, all_begin load d parts empty own.1)
all_begin load d (Other made ∷ parts) empty own = (tt, all_begin load d parts empty own.1)

-- ---- after it

-- a front of a writer's stream
abbrev Front : Load → Donor → ℕ → Type 0
Front load d number = (count : ℕ) × (count ≤ load.transactions) × HasCommitted load number count d

module _ (load : Load) (d : Donor) where
  module _ (w v : Writer) (made : List JobEntry) (own : w ≡ starting load.seed w.number load.tables load.transactions) (follows : Follows w (said_in made) v) where
    pub comes : (v.index ≤ load.transactions) × (v.count ≡ load.transactions)
    comes =
        let begins : w.index ≡ 0 = ap (λ (x : Writer). x.index) own in
        let count : w.count ≡ load.transactions = ap (λ (x : Writer). x.count) own in
        let far = within w (said_in made) v follows (omega (arith, begins)) in
        (omega (arith, far.0, count), far.1 ∙ count)

    pub committed : Agree v d → HasCommitted load w.number v.index d
    committed agree =
        let far = later w (said_in made) v follows in
        let as_begun = subst (λ (x : Writer). of_writer x.number d.binlog ≡ stream x.seed x.number v.index x.tables) far.2 agree.commits in
        subst (λ (x : Writer). of_writer w.number d.binlog ≡ stream x.seed w.number v.index x.tables) own as_begun

    pub all_committed : Agree v d → asked v ≡ None → HasCommitted load w.number load.transactions d
    all_committed agree none = subst (λ n. HasCommitted load w.number n d) (all_done v none ∙ comes.1) (committed agree)

  fronts : (parts : List Part) → AllByRecursion IsPart parts → AllByRecursion (IsOwn load) parts → AllByRecursion (Ends d) parts → AllByRecursion (Front load d) (numbers_of parts)
  fronts [] are own end = tt
  fronts (Written w v made ∷ parts) are own end = ((v.index, (comes w v made own.0 are.0).0, committed w v made own.0 are.0 end.0), fronts parts are.1 own.1 end.1)
  fronts (Other made ∷ parts) are own end = fronts parts are.1 own.1 end.1

  wholes : (parts : List Part) → AllByRecursion IsPart parts → AllByRecursion (IsOwn load) parts → AllByRecursion IsWhole parts → AllByRecursion (Ends d) parts → AllByRecursion (λ number. HasCommitted load number load.transactions d) (numbers_of parts)
  wholes [] are own whole end = tt
  wholes (Written w v made ∷ parts) are own whole end = (all_committed w v made own.0 are.0 end.0 whole.0, wholes parts are.1 own.1 whole.1 end.1)
  wholes (Other made ∷ parts) are own whole end = wholes parts are.1 own.1 whole.1 end.1

-- ---- nobody else has committed anything

module _ {A : Type 0} (p : A → Bool) where
  none_passes : (xs : List A) → filter p xs ≡ [] → AllByRecursion (λ x. p x ≡ false) xs
  none_passes [] none = tt
  none_passes (x ∷ xs) none = by (p x) refl none (none_passes xs)
    where
      by : (b : Bool) → p x ≡ b → cond b (x ∷ filter p xs) (filter p xs) ≡ [] → (filter p xs ≡ [] → AllByRecursion (λ y. p y ≡ false) xs) → (p x ≡ false) × AllByRecursion (λ y. p y ≡ false) xs
      by true is none later = absurd cc
      by false is none later = (is, later none)

  pub never_there : (xs : List A) (x : A) → filter p xs ≡ [] → Contains xs x → p x ≡ true → ⊥
  never_there xs x none there is = true≢false (sym is ∙ All-contains (λ y. p y ≡ false) xs x (all_of_each (λ y. p y ≡ false) xs (none_passes xs none)) there)

-- ---- a run

module _ (load : Load) (made : List (List JobEntry)) (failure : Option Failure) (s : SharedDonor) (run : List JobEntry) (all : Parted load (served_from load 0) made failure) (legal : IsLegalRun Steps s run) (shuffled : IsShuffled made run) (empty : (plain s).binlog ≡ []) where
  abbrev last : Donor
  last = plain (end_of s run)

  numbers : numbers_of all.parts ≡ last_numbers load.writers 0
  numbers = all.numbers ∙ numbers_of_run load

  apart : AreApart all.parts
  apart = are_apart all.parts (subst AreDistinct (sym numbers) (numbers_distinct load.writers 0))

  of_parts : IsShuffled (map made_by all.parts) run
  of_parts = subst (λ ess. IsShuffled ess run) (sym all.made_is) shuffled

  ended : AllByRecursion (Ends last) all.parts
  ended = all_written s run all.parts (moves s run legal) of_parts all.are apart (all_begin load (plain s) all.parts empty all.own)

  none_of : (number : ℕ) → load.writers ≤ number → of_writer number last.binlog ≡ []
  none_of number past =
      let w = starting load.seed number load.tables load.transactions in
      let other = each_map (λ n. (0 ≤ n) × (n < 0 + load.writers)) (λ n. number ≢ n) (λ n low same. omega (arith, low.1, same, past)) (last_numbers load.writers 0) (numbers_within load.writers 0) in
      let beside = apart_from w w [] all.parts (subst (AllByRecursion (λ n. number ≢ n)) (sym numbers) other) in
      let end = all_written s run (Written w w [] ∷ all.parts) (moves s run legal) (shuffled_with_none (map made_by all.parts) run of_parts) (refl, all.are) (beside, apart)
      (one_begins load w (plain s) empty refl, all_begin load (plain s) all.parts empty all.own) in
      end.0.commits

  others : AreOfWriters load last
  others commit there = by (cases_lt commit.writer load.writers)
    where
      by : (commit.writer < load.writers) ⊎ (load.writers ≤ commit.writer) → commit.writer < load.writers
      by (inl less) = less
      by (inr past) = absurd (never_there (λ (c : Commit). c.writer == commit.writer) last.binlog commit (none_of commit.writer past) there (eq-eqb commit.writer commit.writer refl))

  has_commits : HasCommits load last
  has_commits = record {
    fronts = λ number below. at_number (Front load last) load.writers 0 (subst (AllByRecursion (Front load last)) numbers (fronts load last all.parts all.are all.own ended)) number (omega arith) (omega (arith, below));
    others = others;
  }

  has_all : failure ≡ None → HasAllCommits load last
  has_all none = record {
    whole = λ number below. at_number (λ n. HasCommitted load n load.transactions last) load.writers 0
        (subst (AllByRecursion (λ n. HasCommitted load n load.transactions last)) numbers (wholes load last all.parts all.are all.own (all.whole none) ended)) number (omega arith) (omega (arith, below));
    others = others;
  }

module _ {N L X R : Type 0} (link : Link L X) (load : Load) (parts : Parts N L R) (o : Outcome) (s : SharedDonor) (run : List JobEntry) (done : AreDone link load (served_from load 0) parts o) (legal : IsLegalRun Steps s run) (shuffled : IsShuffled parts.donor run) (empty : (plain s).binlog ≡ []) where
  all_parted : Parted load (served_from load 0) parts.donor o.failure
  all_parted = parted link load (served_from load 0) parts o done (each_shuffled IsAnswered parts.donor run shuffled (legal_answered s run legal))

  pub run_commits : HasCommits load (plain (end_of s run))
  run_commits = has_commits load parts.donor o.failure s run all_parted legal shuffled empty

  pub run_commits_all : o.failure ≡ None → HasAllCommits load (plain (end_of s run))
  run_commits_all none = has_all load parts.donor o.failure s run all_parted legal shuffled empty none
