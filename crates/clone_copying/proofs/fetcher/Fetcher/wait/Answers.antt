use Rattle.std.proofs.Common.{refl}
use Rattle.clone_copying.specs.Watching.{HasLooked, WasHalted}
use Rattle.clone_copying.specs.declared.fetch_end.FetchEnd.TheVariants as ending
use Rattle.clone_copying.specs.declared.turn.Turn.TheVariants as turn
use Rattle.clone_copying.proofs.TurnLemmas.{end_stops, turn_none, turn_rests, works_none}
use Rattle.clone_copying.proofs.fetcher.Fetcher.wait.Goals as goal

pub returns-in-Ok-true-clause-is_turn : goal.returns-in-Ok-true-clause-is_turn
returns-in-Ok-true-clause-is_turn g c =
    let v = c.args.self.now in
    works_none _ v v refl refl
    (turn_none g.L.Link v.task (HasLooked g.M.Watched.asks_position g.M.Watched.position_of c.args.watch.now) v.core (WasHalted g.M.Watched.asks_halted g.M.Watched.is_halted c.args.watch.now)
    c.args.talk.now c.receive.new.self turn.GoesOn c.receive.ensures.passes (λ on. c.in-Ok-true.ensures.goes) tt)

pub returns-in-Ok-false-clause-is_turn : goal.returns-in-Ok-false-clause-is_turn
returns-in-Ok-false-clause-is_turn g c =
    turn_rests g.L.Link (HasLooked g.M.Watched.asks_position g.M.Watched.position_of c.rest.new.watch) (WasHalted g.M.Watched.asks_halted g.M.Watched.is_halted c.rest.new.watch)
    c.args.self.now c.rest.new.self c.args.talk.now c.receive.new.self c.rest.result c.in-Ok-false.ensures.goes c.rest.ensures.core c.rest.ensures.rests

pub returns-in-Err-clause-is_turn : goal.returns-in-Err-clause-is_turn
returns-in-Err-clause-is_turn g c =
    let v = c.args.self.now in
    works_none _ v v refl refl
    (turn_none g.L.Link v.task (HasLooked g.M.Watched.asks_position g.M.Watched.position_of c.args.watch.now) v.core (WasHalted g.M.Watched.asks_halted g.M.Watched.is_halted c.args.watch.now)
    c.args.talk.now c.receive.new.self (turn.Ended ending.NoMemory) c.receive.ensures.passes (λ on. absurd (end_stops ending.NoMemory on)) tt)
