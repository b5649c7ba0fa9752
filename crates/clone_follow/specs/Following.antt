-- A follower, and what it does with a frame.
use Rattle.std.specs.Prelude.{ℕ, ◌≡◌, ◌+◌, ◌<◌, ◌≤◌, List, [], ◌∷◌, length, nat_lt}
use Rattle.std.specs.Prelude.{if◌then◌else◌, Result, Ok, Err, refl}
use Rattle.std.specs.Coded.{Coded, code_by, coded×, coded_ℕ, coded_list}
use Rattle.std.specs.FinMap as finite
use Rattle.clone_model.specs.History.{Rows, Row, after_commit}
use Rattle.clone_model.specs.declared.change.Commit.{Commit}
use Rattle.clone_follow.specs.declared.frame.FollowFrame.{FollowFrame}
use Rattle.clone_follow.specs.declared.frame.FollowFrame.TheVariants as frame
use Rattle.clone_follow.specs.declared.follower.FollowTook.{FollowTook}
use Rattle.clone_follow.specs.declared.follower.FollowTook.TheVariants as took
use Rattle.clone_follow.specs.declared.follower.FollowRefusal.{FollowRefusal}
use Rattle.clone_follow.specs.declared.follower.FollowRefusal.TheVariants as refusal

-- its rows, and the position of the last commit in them
pub record Following : Type 0 where
  pub rows : Rows
  pub position : ℕ

-- how a follower is stored
abbrev pub following_code : Coded Following
following_code =
    code_by (Rows × ℕ)
    (coded× (finite.code (coded× coded_ℕ coded_ℕ) (coded_list coded_ℕ)) coded_ℕ)
    (λ f. (f.rows, f.position)) (λ p. record { rows = p.0; position = p.1 }) (λ f. refl)

-- each row of a list gets its value, in their order
abbrev pub with_rows : Rows → List Row → Rows
with_rows rows [] = rows
with_rows rows (row ∷ more) = with_rows (finite.insert rows (row.0, row.1) row.2) more

-- the follower with one commit more
abbrev pub applied : Following → Commit → Following
applied old commit =
    record { rows = after_commit old.rows commit; position = old.position + 1 }

-- What a follower does with a commit at a position: it ignores one that it has, and applies the
-- next one; a later one is F1.
abbrev pub TakesCommit : Following → ℕ → Commit → Result FollowTook FollowRefusal → Following
    → Type 0
TakesCommit old got commit (Ok (took.Applied position)) new =
    (got ≡ old.position + 1) × (position ≡ got) × (new ≡ applied old commit)
TakesCommit old got commit (Ok (took.Ignored position)) new =
    (got ≤ old.position) × (position ≡ old.position) × (new ≡ old)
TakesCommit old got commit (Ok (took.Current position)) new = ⊥
TakesCommit old got commit (Err (refusal.Ahead have it)) new =
    (old.position + 1 < got) × (have ≡ old.position) × (it ≡ got) × (new ≡ old)
TakesCommit old got commit (Err (refusal.Behind have it)) new = ⊥
TakesCommit old got commit (Err refusal.Unexpected) new = ⊥
TakesCommit old got commit (Err refusal.NoMemory) new =
    (got ≡ old.position + 1) × (new ≡ old)

-- What a follower at a position answers to a CURRENT of another: F1 where that is above its own,
-- and F2 where it is below.
abbrev pub current : ℕ → ℕ → Result FollowTook FollowRefusal
current have got =
    if nat_lt have got then Err (refusal.Ahead have got)
    else (if nat_lt got have then Err (refusal.Behind have got)
    else Ok (took.Current have))

-- A WANT is F3. Only a commit that is applied changes the follower, and only it may find no memory.
abbrev pub Takes : Following → FollowFrame → Result FollowTook FollowRefusal → Following → Type 0
Takes old (frame.Want position) result new = (result ≡ Err refusal.Unexpected) × (new ≡ old)
Takes old (frame.Commit position commit) result new = TakesCommit old position commit result new
Takes old (frame.Current position) result new =
    (result ≡ current old.position position) × (new ≡ old)

-- What a follower at a position of the binlog does with the donor's answer to it.
abbrev pub TakesInTurn : List Commit → ℕ → Result FollowTook FollowRefusal → Type 0
TakesInTurn binlog have (Ok (took.Applied position)) =
    (have < length binlog) × (position ≡ have + 1)
TakesInTurn binlog have (Ok (took.Ignored position)) = ⊥
TakesInTurn binlog have (Ok (took.Current position)) =
    (have ≡ length binlog) × (position ≡ have)
TakesInTurn binlog have (Err refusal.NoMemory) = have < length binlog
TakesInTurn binlog have (Err (refusal.Ahead mine its)) = ⊥
TakesInTurn binlog have (Err (refusal.Behind mine its)) = ⊥
TakesInTurn binlog have (Err refusal.Unexpected) = ⊥
