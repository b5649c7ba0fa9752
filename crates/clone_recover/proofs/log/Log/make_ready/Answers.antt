use Rattle.std.proofs.Common.{refl}
use Rattle.std.proofs.lemmas.Result.{on_ok_weaker}
use Rattle.clone_recover.proofs.RedoPageLemmas.{turned}
use Rattle.clone_recover.proofs.log.Log.make_ready.Goals as goal

pub returns-clause-keeps : goal.returns-clause-keeps
returns-clause-keeps g c =
    on_ok_weaker c.load.result
    (λ loads. turned (g.R.PageDisk.state c.args.disk.now).told (g.R.PageDisk.state c.args.disk.now).told c.args.self.now c.turn.new.self c.load.new.self refl c.turn.ensures.long c.turn.ensures.first c.turn.ensures.at c.turn.ensures.total c.turn.ensures.available c.turn.ensures.front
    (record { first = c.load.ensures.first; at = c.load.ensures.at; total = c.load.ensures.total; available = c.load.ensures.available }) loads) c.load.ensures.loads
