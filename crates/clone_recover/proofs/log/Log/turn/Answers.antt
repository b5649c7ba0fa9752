use Rattle.std.proofs.Common.{◌∙◌, ap, take, drop, arith}
use Rattle.std.proofs.lemmas.List.{length-drop}
use Rattle.clone_recover.proofs.JoinedPageLemmas.{take_front}
use Rattle.clone_recover.proofs.log.Log.turn.Goals as goal

pub returns-clause-front : goal.returns-clause-front
returns-clause-front c =
    let old = c.args.self.now.window in
    ap (take 4096) c.rotate_left.ensures.after ∙ take_front (drop 4096 old) (take 4096 old) 4096 (omega (arith, length-drop 4096 old))
