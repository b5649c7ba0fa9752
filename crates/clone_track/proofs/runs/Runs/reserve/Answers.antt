use Rattle.std.proofs.Common.{◌≡◌, ◌≢◌, ◌+◌, ◌*◌, ◌≤◌, ◌++◌, ◌∷◌, [], length, vec_capacity, ap, ◌∙◌, arith}
use Rattle.clone_track.specs.declared.runs.TheConstants.{RUN_PAGES, RUN_LIMIT}
use Rattle.clone_track.proofs.RunLemmas.{next_run}
use Rattle.clone_track.proofs.runs.Runs.reserve.Goals as goal

pub invariant_of-self-2 : goal.invariant_of-self-2
invariant_of-self-2 c =
    let was = c.self.inside in
    let more : c.push_reserved.new.self.items ≡ was.earlier.items ++ was.last ∷ [] = rw (c.in_ok-reserve-2.ensures.items, c.replace-full.ensures.value) at c.push_reserved.ensures.items in
    let full : RUN_PAGES ≤ length was.last.items = omega (arith, c.if-len-lt-RUN_PAGES.false, c.len.ensures, was.last.ok.0) in
    let below : length was.earlier.items + 1 ≢ RUN_LIMIT = omega (arith, c.if-runs-eq-RUN_LIMIT.false, c.len-runs.ensures, was.earlier.ok.0) in
    let room : (length was.earlier.items + 2) * RUN_PAGES ≤ vec_capacity c.reserve.new.self = omega (arith, c.in_ok-reserve.ensures.ok, c.len-runs.ensures, was.earlier.ok.0) in
    next_run was.earlier.items c.push_reserved.new.self.items was.last c.replace-full.new.dest was.list c.reserve.new.self c.self.invariant more full below
    (ap (λ run. run.items) c.replace-full.ensures.after ∙ c.in_ok-next.ensures.items) (rw c.replace-full.ensures.after c.in_ok-next.ensures.capacity) (c.in_ok-reserve.ensures.items ∙ c.self.invariant.list_empty) room
