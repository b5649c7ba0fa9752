use Rattle.clone_trx.proofs.Common.{◌∙◌, sym}
use Rattle.clone_trx.proofs.LastChangeLemmas.{get_opened}
use Rattle.clone_trx.proofs.active.Active.get.Goals as goal

pub returns : goal.returns
returns c = c.get.ensures.value ∙ sym (get_opened c.self.inside.commits c.args.self.now c.args.trx c.self.view_is)
