use Rattle.std.proofs.Common.{◌≡◌, length, refl, rules}
use Rattle.clone_recover.specs.declared.log.Log.{Log}
use Rattle.clone_recover.proofs.RedoFrontLemmas.{in_order, reads_next}
use Rattle.clone_recover.proofs.log.Log.pass.Goals as goal

pub returns-clause-read : goal.returns-clause-read
returns-clause-read c = λ m done mtr r ahead.
    let log : Log = c.args.self.now in
    let long : length log.window ≡ 8192 = search rules in
    reads_next m done log _ c.args.count mtr (in_order log long) r ahead refl refl refl refl refl
