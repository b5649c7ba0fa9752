use Rattle.std.proofs.Common.{◌∙◌, ap}
use Rattle.std.specs.Cmp.{nat_cmp_total}
use Rattle.std.specs.FinSet as set
use Rattle.std.specs.Ordering.{nat_cmp}
use Rattle.std.proofs.lemmas.Map.Lookups.{exact_unsigned}
use Rattle.clone_increment.specs.Tracked.{Changed, with_made}
use Rattle.clone_increment.proofs.SetLemmas.{set_inserted}
use Rattle.clone_increment.proofs.changes.Changes.make.Goals as goal

pub returns-clause-ok : goal.returns-clause-ok
returns-clause-ok c =
    let with : set.FinSet nat_cmp → Changed = λ spaces. record { written = set.from_list c.self.inside.written.keys; made = spaces } in
    ap with (set_inserted nat_cmp_total exact_unsigned c.self.inside.made c.insert.new.self c.args.space c.in_ok-insert.ensures.updates) ∙ ap (λ (changed : Changed). with_made changed c.args.space) c.self.view_is
