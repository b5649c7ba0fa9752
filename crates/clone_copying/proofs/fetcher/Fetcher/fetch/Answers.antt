use Rattle.std.proofs.Common.{[], refl, subst, sym}
use Rattle.clone_turn.proofs.WorkedLemmas.{worked_none}
use Rattle.clone_copying.specs.Calls.{AreCalls, FetcherModel, Works}
use Rattle.clone_copying.specs.Connecting.{AreLent, WasRefused}
use Rattle.clone_copying.specs.Fetching.{AreOver}
use Rattle.clone_copying.specs.Watching.{HasLooked, WasHalted}
use Rattle.clone_copying.proofs.LoopLemmas.{fetch_ends, over_too}
use Rattle.clone_copying.proofs.OnceLemmas.{halts_first}
use Rattle.clone_copying.proofs.TurnLemmas.{works_none}
use Rattle.clone_copying.proofs.WatchLemmas.{looked_later, looks_more}
use Rattle.clone_copying.proofs.fetcher.Fetcher.fetch.Goals as goal

pub returns-then-not-look-clause-fetches : goal.returns-then-not-look-clause-fetches
returns-then-not-look-clause-fetches g c =
    let m = g.M.Watched in
    let halted = c.look.ensures.halted c.if-not-look.true in
    halts_first g.N.End.Link (WasRefused c.args.self.now.task c.args.desk.now) (WasHalted m.asks_halted m.is_halted c.look.new.watch) (HasLooked m.asks_position m.position_of c.look.new.watch)
    c.args.self.now c.look.new.self c.args.desk.now halted.1 halted.0

pub loop-init : goal.loop-init
loop-init g c =
    let m = g.M.Watched in
    let v = c.args.self.now in
    let P = HasLooked m.asks_position m.position_of c.look.new.watch in (
      tt,
      tt,
      (
        [],
        worked_none (AreLent v.task []) c.args.desk.now refl,
        subst (λ (z : FetcherModel _). Works (λ made. AreOver g.N.End.Link [] made × AreCalls v.task P v.core made z.core) v z) (sym c.look.ensures.same)
            (works_none (λ made. AreOver g.N.End.Link [] made × AreCalls v.task P v.core made v.core) v v refl refl (refl, refl)),
      ),
      c.look.ensures.looked c.if-not-look.false,
      c.look.ensures.looks,
    )

pub fetch_once-requires-clause-looked : goal.fetch_once-requires-clause-looked
fetch_once-requires-clause-looked g c = λ κs outlive. c.loop.invariant.3

pub loop-preserved : goal.loop-preserved
loop-preserved g c =
    let m = g.M.Watched in
    let P = HasLooked m.asks_position m.position_of c.loop.watch in
    let Q = HasLooked m.asks_position m.position_of c.fetch_once.new.watch in
    let H = WasHalted m.asks_halted m.is_halted c.fetch_once.new.watch in
    let keeps = looked_later m.asks_halted m.asks_position m.is_halted m.position_of c.loop.watch c.fetch_once.new.watch c.fetch_once.ensures.looks in (
      tt,
      tt,
      over_too g.N.End.Link P Q keeps H c.args.self.now c.loop.self c.fetch_once.new.self c.args.desk.now c.loop.desk c.fetch_once.new.desk c.loop.invariant.2 c.in_default.ensures.fetches,
      c.fetch_once.ensures.looked,
      looks_more m.asks_halted m.asks_position m.is_halted m.position_of c.args.watch.now c.loop.watch c.fetch_once.new.watch c.loop.invariant.4 c.fetch_once.ensures.looks,
    )

pub returns-in-Some-fetch_once-clause-fetches : goal.returns-in-Some-fetch_once-clause-fetches
returns-in-Some-fetch_once-clause-fetches g c =
    let m = g.M.Watched in
    let P = HasLooked m.asks_position m.position_of c.loop.watch in
    let Q = HasLooked m.asks_position m.position_of c.fetch_once.new.watch in
    let H = WasHalted m.asks_halted m.is_halted c.fetch_once.new.watch in
    let keeps = looked_later m.asks_halted m.asks_position m.is_halted m.position_of c.loop.watch c.fetch_once.new.watch c.fetch_once.ensures.looks in
    fetch_ends g.N.End.Link P Q keeps H c.args.self.now c.loop.self c.fetch_once.new.self c.args.desk.now c.loop.desk c.fetch_once.new.desk c.loop.invariant.2 c.in-Some-fetch_once.end c.in-Some-fetch_once.ensures.fetches

pub returns-in-Some-fetch_once-clause-looks : goal.returns-in-Some-fetch_once-clause-looks
returns-in-Some-fetch_once-clause-looks g c =
    let m = g.M.Watched in
    looks_more m.asks_halted m.asks_position m.is_halted m.position_of c.args.watch.now c.loop.watch c.fetch_once.new.watch c.loop.invariant.4 c.fetch_once.ensures.looks
