use Rattle.std.proofs.Common.{refl}
use Rattle.clone_copying.specs.Watching.{HasLooked}
use Rattle.clone_copying.proofs.ActLemmas.{acts_none, acts_sent}
use Rattle.clone_copying.proofs.TurnLemmas.{works_as, works_none}
use Rattle.clone_copying.proofs.fetcher.Fetcher.converse.Goals as goal

pub returns-in-Ok-clause-acts : goal.returns-in-Ok-clause-acts
returns-in-Ok-clause-acts g c =
    let v = c.args.self.now in
    let Q = HasLooked g.M.Watched.asks_position g.M.Watched.position_of c.take_turns.new.watch in
    works_as _ _ v c.take_turns.new.self c.take_turns.ensures.acts
    (λ made is. (acts_sent g.L.Link v.task Q v.core c.take_turns.new.self.core c.args.first.now c.args.talk.now c.send.new.self c.take_turns.new.talk.end made c.in-Ok.ensures.goes is.0, is.1))

pub returns-in-Err-clause-acts : goal.returns-in-Err-clause-acts
returns-in-Err-clause-acts g c =
    let v = c.args.self.now in
    let Q = HasLooked g.M.Watched.asks_position g.M.Watched.position_of c.args.watch.now in
    works_none _ v v refl refl (acts_none g.L.Link v.task Q v.core c.args.first.now c.args.talk.now c.send.new.self.end c.send.ensures.passes, tt)
