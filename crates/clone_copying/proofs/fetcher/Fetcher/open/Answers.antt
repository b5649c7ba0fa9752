use Rattle.std.proofs.Common.{◌≡◌, refl, sym}
use Rattle.clone_turn.proofs.WorkedLemmas.{worked_none}
use Rattle.clone_copying.specs.Calls.{put}
use Rattle.clone_copying.specs.Turning.{Waits}
use Rattle.clone_copying.specs.Watching.{AreLooks, HasLooked, WasHalted}
use Rattle.clone_copying.specs.declared.turn.Turn.TheVariants as turn
use Rattle.clone_copying.proofs.CallLemmas.{waits_none}
use Rattle.clone_copying.proofs.LoopLemmas.{opens_more}
use Rattle.clone_copying.proofs.TurnLemmas.{works_as, works_none}
use Rattle.clone_copying.proofs.WatchLemmas.{looked_later, looks_more}
use Rattle.clone_copying.proofs.fetcher.Fetcher.open.Goals as goal

pub loop-init : goal.loop-init
loop-init g c =
    let v = c.args.self.now in
    let P = HasLooked g.M.Watched.asks_position g.M.Watched.position_of c.args.watch.now in (
      tt,
      tt,
      works_none (λ made. Waits v.task P v.core made v.core × (c.new-sent.result.items ≡ put made)) v v refl refl (waits_none v.task P v.core, c.new-sent.ensures.items),
      c.requires.looked,
      worked_none (AreLooks g.M.Watched.asks_halted g.M.Watched.asks_position) c.args.watch.now tt,
    )

pub loop-preserved : goal.loop-preserved
loop-preserved g c =
    let w = g.M.Watched in
    let P = HasLooked w.asks_position w.position_of c.loop.watch in
    let Q = HasLooked w.asks_position w.position_of c.wait_apart.new.watch in
    let H = WasHalted w.asks_halted w.is_halted c.wait_apart.new.watch in
    let keeps = looked_later w.asks_halted w.asks_position w.is_halted w.position_of c.loop.watch c.wait_apart.new.watch c.wait_apart.ensures.looks in
    let all = opens_more P Q keeps H c.args.self.now c.loop.self c.wait_apart.new.self c.loop.sent.items c.wait_apart.new.sent.items c.wait_apart.result c.loop.invariant.2 c.wait_apart.ensures.waits in (
      tt,
      tt,
      works_as _ _ c.args.self.now c.wait_apart.new.self all (λ made is. (is.0, is.1)),
      c.wait_apart.ensures.looked,
      looks_more w.asks_halted w.asks_position w.is_halted w.position_of c.args.watch.now c.loop.watch c.wait_apart.new.watch c.loop.invariant.4 c.wait_apart.ensures.looks,
    )

pub returns-in-Over-clause-opens : goal.returns-in-Over-clause-opens
returns-in-Over-clause-opens g c =
    let w = g.M.Watched in
    let P = HasLooked w.asks_position w.position_of c.loop.watch in
    let Q = HasLooked w.asks_position w.position_of c.wait_apart.new.watch in
    let H = WasHalted w.asks_halted w.is_halted c.wait_apart.new.watch in
    let keeps = looked_later w.asks_halted w.asks_position w.is_halted w.position_of c.loop.watch c.wait_apart.new.watch c.wait_apart.ensures.looks in
    let all = opens_more P Q keeps H c.args.self.now c.loop.self c.wait_apart.new.self c.loop.sent.items c.wait_apart.new.sent.items c.wait_apart.result c.loop.invariant.2 c.wait_apart.ensures.waits in
    works_as _ _ c.args.self.now c.wait_apart.new.self all (λ made is. (is.0, sym is.1, tt))

pub returns-in-Ended-clause-opens : goal.returns-in-Ended-clause-opens
returns-in-Ended-clause-opens g c =
    let w = g.M.Watched in
    let P = HasLooked w.asks_position w.position_of c.loop.watch in
    let Q = HasLooked w.asks_position w.position_of c.wait_apart.new.watch in
    let H = WasHalted w.asks_halted w.is_halted c.wait_apart.new.watch in
    let keeps = looked_later w.asks_halted w.asks_position w.is_halted w.position_of c.loop.watch c.wait_apart.new.watch c.wait_apart.ensures.looks in
    let all = opens_more P Q keeps H c.args.self.now c.loop.self c.wait_apart.new.self c.loop.sent.items c.wait_apart.new.sent.items (turn.Ended c.in-Ended.end) c.loop.invariant.2 c.in-Ended.ensures.waits in
    works_as _ _ c.args.self.now c.wait_apart.new.self all (λ made is. (is.0, tt, is.2))

pub returns-in-Over-clause-looks : goal.returns-in-Over-clause-looks
returns-in-Over-clause-looks g c =
    let w = g.M.Watched in
    looks_more w.asks_halted w.asks_position w.is_halted w.position_of c.args.watch.now c.loop.watch c.wait_apart.new.watch c.loop.invariant.4 c.wait_apart.ensures.looks

pub returns-in-Ended-clause-looks : goal.returns-in-Ended-clause-looks
returns-in-Ended-clause-looks g c =
    let w = g.M.Watched in
    looks_more w.asks_halted w.asks_position w.is_halted w.position_of c.args.watch.now c.loop.watch c.wait_apart.new.watch c.loop.invariant.4 c.wait_apart.ensures.looks
