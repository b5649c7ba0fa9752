use Rattle.std.proofs.Common.{ℕ, zero, suc, ◌≡◌, ◌+◌, ◌<◌, List, [], ◌∷◌, ◌++◌, length, map, take, drop, set, get_or, refl, ap, arith}
use Rattle.clone_tasks.specs.declared.standing.Standing.{Standing}
use Rattle.clone_tasks.specs.declared.standing.Standing.TheVariants.{Apart}
use Rattle.clone_tasks.specs.Tables.{renewed}
use Rattle.clone_tasks.proofs.moves.renew.Goals as goal

abbrev renewed_to : ℕ → List Standing → List Standing
renewed_to i standings = map renewed (take i standings) ++ drop i standings

one_more : (standings : List Standing) (i : ℕ) → i < length standings → set (renewed_to i standings) i (renewed (get_or (renewed_to i standings) i Apart)) ≡ renewed_to (i + 1) standings
one_more [] i within = absurd (omega arith)
one_more (s ∷ standings) zero within = refl
one_more (s ∷ standings) (suc i) within = let e : suc i + 1 ≡ suc (i + 1) = omega arith in rw e (ap (λ rest. renewed s ∷ rest) (one_more standings i (omega arith)))

pub loop-standing-preserved : goal.loop-standing-preserved
loop-standing-preserved c =
    let first = c.args.standings.now in
    let i = c.loop-standing.standing-index in
    rw (c.renewed.ensures, c.loop-standing.invariant) (one_more first i c.loop-standing-test.true)
