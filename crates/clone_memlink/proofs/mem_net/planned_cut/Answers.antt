use Rattle.std.proofs.Common.{rules, ◌≡◌, sym, ◌∙◌}
use Rattle.std.specs.Ordering.{nat_cmp}
use Rattle.std.specs.BTreeMap.{get}
use Rattle.clone_memlink.proofs.ConnectionLemmas.{get_cut}
use Rattle.clone_memlink.proofs.mem_net.planned_cut.Goals as goal

pub returns : goal.returns
returns c =
    let found : c.copied.result ≡ get nat_cmp c.args.cuts.now c.args.number = search rules in
    found ∙ sym (get_cut c.args.cuts.now c.args.number)
