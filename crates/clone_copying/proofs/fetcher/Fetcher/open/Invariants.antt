use Rattle.std.proofs.Common.{◌≡◌}
use Rattle.clone_turn.specs.Worked.{Worked}
use Rattle.clone_copying.specs.Calls.{Works, put}
use Rattle.clone_copying.specs.Turning.{Waits}
use Rattle.clone_copying.specs.Watching.{AreLooks, HasLooked}
use Rattle.clone_copying.proofs.fetcher.Fetcher.open.Given as goal

-- all that was put out so far is to be sent
abbrev pub invariant-loop : goal.invariant-loop
invariant-loop g l =
    (goal.iterator-loop g).can_next l.iterator' × (goal.iterator-loop g).is_finite l.iterator'
    × Works (λ made. Waits l.fn.self.task (HasLooked g.M.Watched.asks_position g.M.Watched.position_of l.watch) l.fn.self.core made l.self.core × (l.sent.items ≡ put made)) l.fn.self l.self
    × HasLooked g.M.Watched.asks_position g.M.Watched.position_of l.watch l.self.floor
    × Worked (AreLooks g.M.Watched.asks_halted g.M.Watched.asks_position) l.fn.watch l.watch
