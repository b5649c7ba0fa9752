use Rattle.std.proofs.Common.{List}
use Rattle.clone_turn.specs.Worked.{Worked}
use Rattle.clone_copying.specs.Calls.{AreCalls, Works}
use Rattle.clone_copying.specs.Connecting.{AreLent}
use Rattle.clone_copying.specs.Fetching.{AreOver}
use Rattle.clone_copying.specs.Watching.{AreLooks, HasLooked}
use Rattle.clone_copying.proofs.fetcher.Fetcher.fetch.Given as goal

-- each connection so far is over
abbrev pub invariant-loop : goal.invariant-loop
invariant-loop g l =
    (goal.iterator-loop g).can_next l.iterator' × (goal.iterator-loop g).is_finite l.iterator'
    × ((ends : List (g.row.N-End.Denot × g.row.N-End.Denot)) × Worked (AreLent l.fn.self.task ends) l.fn.desk l.desk
    × Works (λ made. AreOver g.N.End.Link ends made × AreCalls l.fn.self.task (HasLooked g.M.Watched.asks_position g.M.Watched.position_of l.watch) l.fn.self.core made l.self.core) l.fn.self l.self)
    × HasLooked g.M.Watched.asks_position g.M.Watched.position_of l.watch l.self.floor
    × Worked (AreLooks g.M.Watched.asks_halted g.M.Watched.asks_position) l.fn.watch l.watch
