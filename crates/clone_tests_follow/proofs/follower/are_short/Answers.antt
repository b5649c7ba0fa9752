use Rattle.std.proofs.Common.{◌≡◌, ℕ, ◌+◌, ◌<◌, List, [], ◌∷◌, length, get_or, take, sym, ap, subst, ◌∙◌, arith}
use Rattle.std.specs.List.{AllByRecursion}
use Rattle.std.proofs.lemmas.List.{take_more}
use Rattle.clone_model.proofs.Cuts.{recursion-append}
use Rattle.clone_model.specs.declared.change.Commit.{Commit}
use Rattle.clone_follow.specs.Binlog.{IsShort}
use Rattle.clone_tests_follow.proofs.follower.are_short.Goals as goal

one_more : (commits : List Commit) (i : ℕ) (x : Commit) → i < length commits → x ≡ get_or commits i x → AllByRecursion IsShort (take i commits) → IsShort x → AllByRecursion IsShort (take (i + 1) commits)
one_more commits i x less is are short = subst (AllByRecursion IsShort) (sym (take_more commits i x less)) (recursion-append IsShort (take i commits) (get_or commits i x ∷ []) are (subst IsShort is short, tt))

pub loop-commit-preserved : goal.loop-commit-preserved
loop-commit-preserved c = one_more c.args.commits.now c.loop-commit.commit-index c.commit-item.result c.loop-commit-test.true c.commit-item.is c.loop-commit.invariant (omega arith)
