use Rattle.std.proofs.Common.{subst}
use Rattle.clone_increment.specs.Increments.{Delta, IsMerged}
use Rattle.clone_increment.proofs.IncrementLemmas.{is_merged}
use Rattle.clone_increment.proofs.increment.merged.Goals as goal

pub returns : goal.returns
returns c =
    let a = c.first.inside in
    let b = c.second.inside in
    let first : Delta = record { number = a.number; next = a.next; sizes = a.sizes; stay = a.stay; pages = a.pages } in
    let second : Delta = record { number = b.number; next = b.next; sizes = b.sizes; stay = b.stay; pages = b.pages } in
    let both : Delta = record { number = a.number; next = b.next; sizes = c.in_ok-copied.field-0; stay = c.in_ok-staying_by_both.field-0; pages = c.lay-2.new.self } in
    let is = is_merged first second c.new-pages.result c.lay.new.self c.lay-2.new.self c.in_ok-copied.field-0 c.in_ok-staying_by_both.field-0 c.new-pages.ensures c.in_ok-lay.ensures.ok c.in_ok-lay-2.ensures.ok c.in_ok-copied.ensures c.in_ok-staying_by_both.ensures in
    subst (λ (d : Delta). IsMerged d c.args.second.now both) c.first.view_is (subst (λ (d : Delta). IsMerged first d both) c.second.view_is is)
