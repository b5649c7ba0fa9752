use Rattle.std.proofs.Common.{◌≡◌, ℕ, List, IfOk, ap, map, subst, sym}
use Rattle.std.proofs.lemmas.Map.Keys.{IsStrictlyIncreasing-from_sorted}
use Rattle.std.proofs.lemmas.Result.{IfOk-weaker}
use Rattle.std.specs.Cmp.{nat_cmp_total}
use Rattle.std.specs.List.Sorted.{IsStrictlyIncreasing}
use Rattle.clone_base.proofs.OrderedMaps.{entries_listed}
use Rattle.clone_outside.specs.declared.disk.Held.{Held}
use Rattle.clone_memdisk.proofs.image.numbers_of.Goals as goal

pub returns-clause-all : goal.returns-clause-all
returns-clause-all c =
    let entries = entries_listed nat_cmp_total c.args.spaces.now c.len-count.ensures.ordered in
    subst (λ (ks : List ℕ). IfOk c.listed.result (λ all. all.items ≡ ks)) (sym (ap (map (λ (e : ℕ × List Held). e.0)) entries)) c.listed.ensures

pub returns-clause-ascending : goal.returns-clause-ascending
returns-clause-ascending c =
    IfOk-weaker c.listed.result _ _ (λ all is. subst IsStrictlyIncreasing (sym is) (IsStrictlyIncreasing-from_sorted _ c.len-count.ensures.ordered)) c.listed.ensures
