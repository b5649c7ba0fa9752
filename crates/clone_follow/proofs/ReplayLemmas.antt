-- Whatever is delivered of what a donor sent, the commits are applied in order, each once.
use Rattle.std.proofs.Common.{◌≡◌, ℕ, zero, suc, ◌+◌, ◌-◌, ◌≤◌, ◌==◌, List, [], ◌∷◌, ◌++◌, length, take, drop, None, Some, Result, Ok, Err, refl, sym, ap, subst, ◌∙◌, arith, inl, inr}
use Rattle.std.specs.Prelude.{slice_get}
use Rattle.std.specs.FinMap as finite
use Rattle.std.specs.declared.option.Option.{Option}
use Rattle.std.proofs.lemmas.Bool.{cases_Bool, eqb-true}
use Rattle.std.proofs.lemmas.Option.{slice_get_within}
use Rattle.clone_base.proofs.Lists.{slice_get-append_left}
use Rattle.clone_model.specs.History.{Rows, after_commit, after_commits}
use Rattle.clone_model.specs.declared.change.Commit.{Commit}
use Rattle.clone_follow.specs.declared.frame.FollowFrame.TheVariants as frame
use Rattle.clone_follow.specs.declared.follower.FollowTook.{FollowTook}
use Rattle.clone_follow.specs.declared.follower.FollowTook.TheVariants as took
use Rattle.clone_follow.specs.declared.follower.FollowRefusal.{FollowRefusal}
use Rattle.clone_follow.specs.declared.follower.FollowRefusal.TheVariants as refusal
use Rattle.clone_follow.specs.Binlog.{commit_at, answered, IsSent}
use Rattle.clone_follow.specs.Following.{Following, applied, TakesCommit}
use Rattle.clone_follow.specs.Histories.{Event, Delivered, Lost, AreSent, Meets, Runs, Follows}

-- ---- commits by their positions

commit_next : (binlog : List Commit) (want : ℕ) → commit_at binlog (want + 1) ≡ slice_get binlog want
commit_next binlog want = elim (cases_Bool (want + 1 == 0)) [
  | inl none ↦ absurd (let never = eqb-true (want + 1) 0 none in omega arith)
  | inr some ↦ (let back : want + 1 - 1 ≡ want = omega arith in rw (some, back) refl)
]

-- the commit of a frame that was sent is the one at the frame's position
pub record IsAt (binlog : List Commit) (got : ℕ) (commit : Commit) : Type 0 where
  pub want : ℕ
  pub next : got ≡ want + 1
  pub found : slice_get binlog want ≡ Some commit

sent_commit : (binlog : List Commit) (got : ℕ) (commit : Commit) → IsSent binlog (frame.Commit got commit) → IsAt binlog got commit
sent_commit binlog got commit sent = by (commit_at sent.front (sent.want + 1)) refl sent.is
  where
    by : (o : Option Commit) → commit_at sent.front (sent.want + 1) ≡ o → frame.Commit got commit ≡ answered sent.front sent.want o → IsAt binlog got commit
    by None at is = absurd cc
    by (Some c) at is =
        let here : slice_get sent.front sent.want ≡ Some c = sym (commit_next sent.front sent.want) ∙ at in
        let same : c ≡ commit = cc in
        record {
          want = sent.want;
          next = cc;
          found = ap (λ xs. slice_get xs sent.want) sent.grown ∙ slice_get-append_left sent.front sent.later sent.want (slice_get_within sent.front sent.want c here) ∙ here ∙ ap (λ (x : Commit). Some x) same;
        }

-- ---- one commit more

take_next : (xs : List Commit) (k : ℕ) (x : Commit) → slice_get xs k ≡ Some x → take (suc k) xs ≡ take k xs ++ x ∷ []
take_next [] k x at = absurd cc
take_next (y ∷ ys) zero x at = (let same : y ≡ x = cc in ap (λ z. z ∷ []) same)
take_next (y ∷ ys) (suc k) x at = ap (λ zs. y ∷ zs) (take_next ys k x at)

get_dropped : (xs : List Commit) (n k i : ℕ) → n + k ≡ i → slice_get (drop n xs) k ≡ slice_get xs i
get_dropped xs zero k i e = ap (slice_get xs) (let same : k ≡ i = omega arith in same)
get_dropped [] (suc n) k i e = refl
get_dropped (x ∷ xs) (suc n) k zero e = absurd (omega arith)
get_dropped (x ∷ xs) (suc n) k (suc i) e = get_dropped xs n k i (omega arith)

after_both : (rows : Rows) (xs ys : List Commit) → after_commits rows (xs ++ ys) ≡ after_commits (after_commits rows xs) ys
after_both rows [] ys = refl
after_both rows (x ∷ xs) ys = after_both (after_commit rows x) xs ys

one_more : (binlog : List Commit) (first old : Following) (got : ℕ) (commit : Commit) → Follows binlog first old → IsAt binlog got commit → got ≡ old.position + 1 → Follows binlog first (applied old commit)
one_more binlog first old got commit so_far place next =
    let n = first.position in
    let k = old.position - n in
    let forward = so_far.forward in
    let want : place.want ≡ old.position = omega (arith, place.next) in
    let here : slice_get (drop n binlog) k ≡ Some commit = get_dropped binlog n k place.want (omega arith) ∙ place.found in
    let count : old.position + 1 - n ≡ suc k = omega arith in
    record {
      forward = omega arith;
      within = (let within = slice_get_within binlog place.want commit place.found in omega arith);
      rows = ap (λ rows. after_commit rows commit) so_far.rows ∙ sym (after_both first.rows (take k (drop n binlog)) (commit ∷ [])) ∙ ap (after_commits first.rows) (sym (take_next (drop n binlog) k commit here) ∙ ap (λ i. take i (drop n binlog)) (sym count));
    }

-- ---- events

met_commit : (binlog : List Commit) (first old new : Following) (got : ℕ) (commit : Commit) (result : Result FollowTook FollowRefusal) → Follows binlog first old → IsAt binlog got commit → TakesCommit old got commit result new → Follows binlog first new
met_commit binlog first old new got commit (Ok (took.Applied position)) so_far place takes = subst (Follows binlog first) (sym takes.2) (one_more binlog first old got commit so_far place takes.0)
met_commit binlog first old new got commit (Ok (took.Ignored position)) so_far place takes = subst (Follows binlog first) (sym takes.2) so_far
met_commit binlog first old new got commit (Ok (took.Current position)) so_far place takes = absurd takes
met_commit binlog first old new got commit (Err (refusal.Ahead have it)) so_far place takes = subst (Follows binlog first) (sym takes.3) so_far
met_commit binlog first old new got commit (Err (refusal.Behind have it)) so_far place takes = absurd takes
met_commit binlog first old new got commit (Err refusal.Unexpected) so_far place takes = absurd takes
met_commit binlog first old new got commit (Err refusal.NoMemory) so_far place takes = subst (Follows binlog first) (sym takes.1) so_far

met : (binlog : List Commit) (first old new : Following) (event : Event) → Follows binlog first old → AreSent binlog (event ∷ []) → Meets old event new → Follows binlog first new
met binlog first old new (Lost lost) so_far sent same = subst (Follows binlog first) (sym same) so_far
met binlog first old new (Delivered (frame.Want position) result) so_far sent takes = subst (Follows binlog first) (sym takes.1) so_far
met binlog first old new (Delivered (frame.Current position) result) so_far sent takes = subst (Follows binlog first) (sym takes.1) so_far
met binlog first old new (Delivered (frame.Commit got commit) result) so_far sent takes = met_commit binlog first old new got commit result so_far (sent_commit binlog got commit sent.0) takes

replay : (binlog : List Commit) (first old new : Following) (events : List Event) → Follows binlog first old → AreSent binlog events → Runs old events new → Follows binlog first new
replay binlog first old new [] so_far sent run = subst (Follows binlog first) (sym run) so_far
replay binlog first old new (event ∷ events) so_far sent run = replay binlog first run.0 new events (met binlog first old run.0 event so_far (sent.0, tt) run.1) sent.1 run.2

none_yet : (binlog : List Commit) (old : Following) → old.position ≤ length binlog → Follows binlog old old
none_yet binlog old within = (let none : old.position - old.position ≡ 0 = omega arith in record { forward = omega arith; within = within; rows = rw none refl })

pub each_once : (binlog : List Commit) (old new : Following) (events : List Event) → old.position ≤ length binlog → AreSent binlog events → Runs old events new → Follows binlog old new
each_once binlog old new events within sent run = replay binlog old old new events (none_yet binlog old within) sent run

-- ---- from the first commit on

split : (xs : List Commit) (n k m : ℕ) → n + k ≡ m → take m xs ≡ take n xs ++ take k (drop n xs)
split xs zero k m e = ap (λ i. take i xs) (let same : m ≡ k = omega arith in same)
split [] (suc n) k zero e = absurd (omega arith)
split [] (suc n) k (suc m) e = sym (nothing k)
  where
    nothing : (k : ℕ) → take {A = Commit} k [] ≡ []
    nothing zero = refl
    nothing (suc k) = refl
split (x ∷ xs) (suc n) k zero e = absurd (omega arith)
split (x ∷ xs) (suc n) k (suc m) e = ap (λ ys. x ∷ ys) (split xs n k m (omega arith))

pub folded : (binlog : List Commit) (old new : Following) → Follows binlog old new → old.rows ≡ after_commits finite.empty (take old.position binlog) → new.rows ≡ after_commits finite.empty (take new.position binlog)
folded binlog old new follows begun =
    let k = new.position - old.position in
    let forward = follows.forward in
    let parts : take new.position binlog ≡ take old.position binlog ++ take k (drop old.position binlog) = split binlog old.position k new.position (omega arith) in
    follows.rows ∙ ap (λ rows. after_commits rows (take k (drop old.position binlog))) begun ∙ sym (after_both finite.empty (take old.position binlog) (take k (drop old.position binlog))) ∙ ap (after_commits finite.empty) (sym parts)
