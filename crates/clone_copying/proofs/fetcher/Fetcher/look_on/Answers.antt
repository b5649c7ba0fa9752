use Rattle.std.proofs.Common.{ap, subst, sym}
use Rattle.clone_copying.specs.Calls.{FetcherModel}
use Rattle.clone_copying.specs.Watching.{HasLooked}
use Rattle.clone_copying.proofs.WatchLemmas.{looked_later}
use Rattle.clone_copying.proofs.fetcher.Fetcher.look_on.Goals as goal

pub returns-else-look-clause-looked : goal.returns-else-look-clause-looked
returns-else-look-clause-looked g c =
    let w = g.M.Watched in
    let same = (c.look.ensures.halted c.if-look.false).1 in
    subst (λ n. HasLooked w.asks_position w.position_of c.look.new.watch n) (sym (ap (λ (v : FetcherModel _). v.floor) same))
    (looked_later w.asks_halted w.asks_position w.is_halted w.position_of c.args.watch.now c.look.new.watch c.look.ensures.looks c.args.self.now.floor c.requires.looked)
