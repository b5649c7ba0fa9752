use Rattle.std.proofs.Common.{[]}
use Rattle.clone_turn.specs.Worked.{Worked}
use Rattle.clone_copying.specs.Calls.{Works, put, taken}
use Rattle.clone_copying.specs.Passing.{Acts, GoesOn}
use Rattle.clone_copying.specs.Watching.{AreLooks, HasLooked}
use Rattle.clone_copying.proofs.fetcher.Fetcher.take_turns.Given as goal

-- the task goes on with its connection
abbrev pub invariant-loop : goal.invariant-loop
invariant-loop g l =
    (goal.iterator-loop g).can_next l.iterator' × (goal.iterator-loop g).is_finite l.iterator'
    × Works (λ made. Acts g.L.Link l.fn.self.task (HasLooked g.M.Watched.asks_position g.M.Watched.position_of l.watch) l.fn.self.core [] l.fn.talk l.talk.end made l.self.core
    × GoesOn g.L.Link l.fn.talk l.talk (taken made) (put made)) l.fn.self l.self
    × HasLooked g.M.Watched.asks_position g.M.Watched.position_of l.watch l.self.floor
    × Worked (AreLooks g.M.Watched.asks_halted g.M.Watched.asks_position) l.fn.watch l.watch
