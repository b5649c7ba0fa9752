use Rattle.std.proofs.Common.{[], refl}
use Rattle.clone_turn.proofs.WorkedLemmas.{worked_none}
use Rattle.clone_copying.specs.Calls.{put, taken}
use Rattle.clone_copying.specs.Passing.{Acts, GoesOn}
use Rattle.clone_copying.specs.Watching.{AreLooks, HasLooked, WasHalted}
use Rattle.clone_copying.specs.declared.turn.Turn.TheVariants as turn
use Rattle.clone_copying.proofs.ActLemmas.{acts_none}
use Rattle.clone_copying.proofs.LoopLemmas.{turns_more}
use Rattle.clone_copying.proofs.PassingLemmas.{goes_none}
use Rattle.clone_copying.proofs.TurnLemmas.{works_as, works_none}
use Rattle.clone_copying.proofs.WatchLemmas.{looked_later, looks_more}
use Rattle.clone_copying.proofs.fetcher.Fetcher.take_turns.Goals as goal

pub loop-init : goal.loop-init
loop-init g c =
    let v = c.args.self.now in
    let a = c.args.talk.now in
    let P = HasLooked g.M.Watched.asks_position g.M.Watched.position_of c.args.watch.now in (
      tt,
      tt,
      works_none (λ made. Acts g.L.Link v.task P v.core [] a a.end made v.core × GoesOn g.L.Link a a (taken made) (put made)) v v refl refl
          (acts_none g.L.Link v.task P v.core [] a a.end (goes_none g.L.Link a).passes, goes_none g.L.Link a),
      c.requires.looked,
      worked_none (AreLooks g.M.Watched.asks_halted g.M.Watched.asks_position) c.args.watch.now tt,
    )

pub loop-preserved : goal.loop-preserved
loop-preserved g c =
    let w = g.M.Watched in
    let P = HasLooked w.asks_position w.position_of c.loop.watch in
    let Q = HasLooked w.asks_position w.position_of c.turn.new.watch in
    let H = WasHalted w.asks_halted w.is_halted c.turn.new.watch in
    let keeps = looked_later w.asks_halted w.asks_position w.is_halted w.position_of c.loop.watch c.turn.new.watch c.turn.ensures.looks in
    let all = turns_more P Q keeps H c.args.self.now c.loop.self c.turn.new.self g.L.Link c.args.talk.now c.loop.talk c.turn.new.talk c.turn.result c.loop.invariant.2 c.turn.ensures.is_turn in (
      tt,
      tt,
      works_as _ _ c.args.self.now c.turn.new.self all (λ made is. (is.acts, is.goes c.in-GoesOn.is)),
      c.turn.ensures.looked,
      looks_more w.asks_halted w.asks_position w.is_halted w.position_of c.args.watch.now c.loop.watch c.turn.new.watch c.loop.invariant.4 c.turn.ensures.looks,
    )

pub returns-in-Over-clause-acts : goal.returns-in-Over-clause-acts
returns-in-Over-clause-acts g c =
    let w = g.M.Watched in
    let P = HasLooked w.asks_position w.position_of c.loop.watch in
    let Q = HasLooked w.asks_position w.position_of c.turn.new.watch in
    let H = WasHalted w.asks_halted w.is_halted c.turn.new.watch in
    let keeps = looked_later w.asks_halted w.asks_position w.is_halted w.position_of c.loop.watch c.turn.new.watch c.turn.ensures.looks in
    let all = turns_more P Q keeps H c.args.self.now c.loop.self c.turn.new.self g.L.Link c.args.talk.now c.loop.talk c.turn.new.talk c.turn.result c.loop.invariant.2 c.turn.ensures.is_turn in
    works_as _ _ c.args.self.now c.turn.new.self all (λ made is. (is.acts, tt))

pub returns-in-Over-clause-looks : goal.returns-in-Over-clause-looks
returns-in-Over-clause-looks g c =
    let w = g.M.Watched in
    looks_more w.asks_halted w.asks_position w.is_halted w.position_of c.args.watch.now c.loop.watch c.turn.new.watch c.loop.invariant.4 c.turn.ensures.looks

pub returns-in-Ended-clause-acts : goal.returns-in-Ended-clause-acts
returns-in-Ended-clause-acts g c =
    let w = g.M.Watched in
    let P = HasLooked w.asks_position w.position_of c.loop.watch in
    let Q = HasLooked w.asks_position w.position_of c.turn.new.watch in
    let H = WasHalted w.asks_halted w.is_halted c.turn.new.watch in
    let keeps = looked_later w.asks_halted w.asks_position w.is_halted w.position_of c.loop.watch c.turn.new.watch c.turn.ensures.looks in
    let all = turns_more P Q keeps H c.args.self.now c.loop.self c.turn.new.self g.L.Link c.args.talk.now c.loop.talk c.turn.new.talk (turn.Ended c.in-Ended.end) c.loop.invariant.2 c.in-Ended.ensures.is_turn in
    works_as _ _ c.args.self.now c.turn.new.self all (λ made is. (is.acts, is.because))

pub returns-in-Ended-clause-looks : goal.returns-in-Ended-clause-looks
returns-in-Ended-clause-looks g c =
    let w = g.M.Watched in
    looks_more w.asks_halted w.asks_position w.is_halted w.position_of c.args.watch.now c.loop.watch c.turn.new.watch c.loop.invariant.4 c.turn.ensures.looks
