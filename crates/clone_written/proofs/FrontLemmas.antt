-- The first commits of a donor are fronts of its writers' streams too, and how many there are.
use Rattle.std.proofs.Common.{◌≡◌, ◌==◌, ◌∙◌, ◌⊎◌, ◌≤◌, ◌<◌, ℕ, zero, suc, List, [], ◌∷◌, ◌++◌, take, drop, length, count_by, Contains, refl, sym, ap, subst, inl, inr, arith, length-append}
use Rattle.std.proofs.lemmas.Bool.{cases_lt}
use Rattle.std.proofs.lemmas.List.{take-append-drop, take-append-le, take_all}
use Rattle.std.proofs.lemmas.List.Elements.{Contains-append_left, filter-append}
use Rattle.std.proofs.lemmas.List.Sums.{length-filter}
use Rattle.clone_model.specs.declared.change.Commit.{Commit}
use Rattle.clone_plain.specs.Donor.{Donor}
use Rattle.clone_workload.specs.Transactions.{commit, stream}
use Rattle.clone_writer.specs.Writing.{of_writer}
use Rattle.clone_run.specs.declared.load.Load.{Load}
use Rattle.clone_written.specs.Commits.{HasCommits, HasCommitted}

module _ (seed writer tables : ℕ) where
  stream_length : (count : ℕ) → length (stream seed writer count tables) ≡ count
  stream_length zero = refl
  stream_length (suc count) = omega (arith, length-append (stream seed writer count tables) (commit seed writer count tables ∷ []), stream_length count)

  take_stream : (count k : ℕ) → k ≤ count → take k (stream seed writer count tables) ≡ stream seed writer k tables
  take_stream zero k few =
      let none : 0 ≡ k = omega (arith, few) in
      subst (λ j. take j (stream seed writer zero tables) ≡ stream seed writer j tables) none refl
  take_stream (suc count) k few = by (cases_lt k (suc count)) (λ less. take_stream count k (omega (arith, less)))
    where
      by : (k < suc count) ⊎ (suc count ≤ k) → (k < suc count → take k (stream seed writer count tables) ≡ stream seed writer k tables) → take k (stream seed writer (suc count) tables) ≡ stream seed writer k tables
      by (inl less) front = take-append-le k (stream seed writer count tables) (commit seed writer count tables ∷ []) (omega (arith, less, stream_length count)) ∙ front less
      by (inr more) front =
          let all : suc count ≡ k = omega (arith, few, more) in
          subst (λ j. take j (stream seed writer (suc count) tables) ≡ stream seed writer j tables) all
          (take_all (suc count) (stream seed writer (suc count) tables) (omega (arith, stream_length (suc count))))

  -- a front of a stream is the stream of so many
  front_of : (xs ys : List Commit) (count : ℕ) → xs ++ ys ≡ stream seed writer count tables → (length xs ≤ count) × (xs ≡ stream seed writer (length xs) tables)
  front_of xs ys count is =
      let few : length xs ≤ count = omega (arith, length-append xs ys, ap length is, stream_length count) in
      (few, sym (take-append-le (length xs) xs ys (omega arith) ∙ take_all (length xs) xs (omega arith)) ∙ ap (take (length xs)) is ∙ take_stream count (length xs) few)

pub counted : (load : Load) (d : Donor) (number count : ℕ) → HasCommitted load number count d → count_by (λ (c : Commit). c.writer == number) d.binlog ≡ count
counted load d number count has = sym (length-filter (λ (c : Commit). c.writer == number) d.binlog) ∙ ap length has ∙ stream_length load.seed number load.tables count

module _ (load : Load) (d was : Donor) (n : ℕ) (is : take n d.binlog ≡ was.binlog) where
  both : (number : ℕ) → of_writer number was.binlog ++ of_writer number (drop n d.binlog) ≡ of_writer number d.binlog
  both number =
      ap (λ commits. of_writer number commits ++ of_writer number (drop n d.binlog)) (sym is)
      ∙ sym (filter-append (λ (c : Commit). c.writer == number) (take n d.binlog) (drop n d.binlog)) ∙ ap (of_writer number) (take-append-drop n d.binlog)

  front : (number : ℕ) → (count : ℕ) × (count ≤ load.transactions) × HasCommitted load number count d → (count : ℕ) × (count ≤ load.transactions) × HasCommitted load number count was
  front number (count, few, has) =
      let own = front_of load.seed number load.tables (of_writer number was.binlog) (of_writer number (drop n d.binlog)) count (both number ∙ has) in
      (length (of_writer number was.binlog), omega (arith, own.0, few), own.1)

  pub has_front : HasCommits load d → HasCommits load was
  has_front has = record {
    fronts = λ number below. front number (has.fronts number below);
    others = λ commit there. has.others commit
        (subst (λ commits. Contains commits commit) (take-append-drop n d.binlog) (Contains-append_left (take n d.binlog) (drop n d.binlog) commit (subst (λ commits. Contains commits commit) (sym is) there)));
  }
