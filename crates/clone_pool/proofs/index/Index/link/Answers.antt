use Rattle.std.proofs.Common.{◌≡◌, ◌<◌, ◌≤◌, List, ℕ, length, get_or, set, None, Some, option_map, refl, sym, ap, subst}
use Rattle.std.proofs.lemmas.List.{length-set, get_or_read}
use Rattle.clone_pool.specs.Index.{Names, bucket_of, IsIndex, LeadsTo}
use Rattle.clone_pool.proofs.ChainLemmas.{linked}
use Rattle.clone_pool.proofs.index.Index.link.Goals as goal

pub invariant_of-self : goal.invariant_of-self
invariant_of-self c =
    let names = c.self.inside.names.items in
    let cells = c.self.inside.cells.items in
    let at = c.args.at in
    let cell = c.cell_before-cell.result in
    let b = bucket_of (length names) c.args.name in
    let Leads : Names × List ℕ → Type 0 = λ t. LeadsTo (length t.0) t.0 t.1 (bucket_of (length t.0) c.args.name) at cell in
    let leads = subst Leads (λ i. (c.deref.ensures.value i, c.deref-2.ensures.value i)) c.cell_before-cell.ensures.leads in
    let low_b = subst (λ (ns : Names). bucket_of (length ns) c.args.name ≤ length ns) c.deref.ensures.value c.cell_before-cell.ensures.bucket in
    let within = subst (λ (cs : List ℕ). cell < length cs) c.deref-2.ensures.value c.cell_before-cell.ensures.within in
    let low = subst (λ (ns : Names). at < length ns) (sym c.self.view_is) c.requires.at in
    let unnamed = subst (λ (ns : Names). get_or ns at None ≡ None) (sym c.self.view_is) c.requires.unnamed in
    let read = get_or_read cells cell c.index.result.now within c.index.ensures 0 in
    let done = linked (length names) names cells c.self.invariant b low_b at low cell leads c.args.name refl (ap (option_map (bucket_of (length names))) unnamed) in
    subst (λ (n : ℕ). IsIndex n (set names at (Some c.args.name)) (set (set cells at c.index.result.now) cell at)) (sym (length-set names at (Some c.args.name)))
    (subst (λ (n : ℕ). IsIndex (length names) (set names at (Some c.args.name)) (set (set cells at n) cell at)) (sym read) done)
