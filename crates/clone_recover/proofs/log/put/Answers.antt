use Rattle.std.proofs.Common.{◌≡◌, ◌+◌, ◌-◌, ◌++◌, ◌∙◌, ℕ, take, drop, ap, arith}
use Rattle.clone_recover.proofs.JoinedPageLemmas.{drop_twice}
use Rattle.clone_recover.proofs.log.put.Goals as goal

behind : (to : ℕ) → to + ((to + 4096) - to) ≡ to + 4096
behind to = omega arith

pub returns-clause-value : goal.returns-clause-value
returns-clause-value c =
    let to = c.args.to in
    let old = c.args.window.now in
    ap (λ xs. take to old ++ (xs ++ drop ((to + 4096) - to) (drop to old))) c.copy_from_slice.ensures.after
    ∙ ap (λ ys. take to old ++ (c.args.bytes.now ++ ys)) (drop_twice to ((to + 4096) - to) old ∙ ap (λ n. drop n old) (behind to))
