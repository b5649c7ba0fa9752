use Rattle.std.proofs.Common.{◌∙◌, ap, sym, subst, is_some, IsSome}
use Rattle.std.specs.Cmp.{nat_cmp_total}
use Rattle.std.proofs.lemmas.Map.Lookups.{exact_unsigned}
use Rattle.clone_base.proofs.OrderedMaps.{get_listed, inserted}
use Rattle.clone_base.proofs.counts.raise_in.Goals as goal

pub returns-in_default : goal.returns-in_default
returns-in_default c = λ known.
    let none = c.in_default.ensures.value ∙ sym (get_listed nat_cmp_total c.args.map.now c.args.key) in
    absurd (let e = subst IsSome (sym none) known in cc)

pub returns-in-Some : goal.returns-in-Some
returns-in-Some c = λ known.
    inserted nat_cmp_total exact_unsigned c.args.map.now (c.get_mut.follows.lender c.args.value) c.args.key c.args.value ((c.get_mut.follows.holds c.args.value).3 (ap is_some (sym c.in-Some.ensures.value)))
