use Rattle.std.proofs.Common.{◌<◌, ◌≤◌, ◌∙◌, List, ℕ, length, set, None, option_map, sym, ap, subst, arith}
use Rattle.std.proofs.lemmas.List.{length-set, get_or_read}
use Rattle.clone_pool.specs.Index.{Names, bucket_of, IsIndex, LeadsTo}
use Rattle.clone_pool.proofs.ChainLemmas.{unlinked}
use Rattle.clone_pool.proofs.index.Index.unlink.Goals as goal

pub invariant_of-self : goal.invariant_of-self
invariant_of-self c =
    let names = c.self.inside.names.items in
    let cells = c.self.inside.cells.items in
    let at = c.args.at in
    let cell = c.cell_before-cell.result in
    let name = c.in-Some.name in
    let b = bucket_of (length names) name in
    let Leads : Names × List ℕ → Type 0 = λ t. LeadsTo (length t.0) t.0 t.1 (bucket_of (length t.0) name) at cell in
    let leads = subst Leads (λ i. (c.deref.ensures.value i, c.deref-2.ensures.value i)) c.cell_before-cell.ensures.leads in
    let low_b = subst (λ (ns : Names). bucket_of (length ns) name ≤ length ns) c.deref.ensures.value c.cell_before-cell.ensures.bucket in
    let low = subst (λ (ns : Names). at < length ns) (sym c.self.view_is) c.requires in
    let was = get_or_read names at c.index.result.now low c.index.ensures None in
    let read = get_or_read cells at c.index-2.result.now (omega (arith, low, c.self.invariant.long)) c.index-2.ensures 0 in
    let done = unlinked (length names) names cells c.self.invariant b low_b at low cell leads (ap (option_map (bucket_of (length names))) (sym was ∙ c.in-Some.is)) in
    subst (λ (n : ℕ). IsIndex n (set names at None) (set cells cell c.index-2.result.now)) (sym (length-set names at None))
    (subst (λ (n : ℕ). IsIndex (length names) (set names at None) (set cells cell n)) (sym read) done)
