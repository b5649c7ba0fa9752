use Rattle.std.proofs.Common.{◌≡◌, ◌∙◌, ℕ, List, replicate}
use Rattle.std.proofs.lemmas.Result.{err_from_is_err_and, on_ok_weaker, IfErr-weaker}
use Rattle.clone_recover.specs.Damage.{IsChainOr}
use Rattle.clone_recover.specs.Walks.{AreWhole, BreaksBelow}
use Rattle.clone_recover.specs.declared.refusal.RecoverRefusal.TheVariants.{NoMemory}
use Rattle.clone_recover.proofs.TableLemmas.{from_none, disk_chain}
use Rattle.clone_recover.proofs.chains.check_table.Goals as goal

pub returns-in_err-stamps-clause-cause : goal.returns-in_err-stamps-clause-cause
returns-in_err-stamps-clause-cause g c =
    let p = err_from_is_err_and c.from_residual.result c.from_residual.ensures.1 in
    rw (p.1, p.2) (disk_chain (g.R.PageDisk.state c.args.disk.now).told c.args.overlay.now (BreaksBelow c.args.table c.args.buckets) NoMemory tt)

pub returns-clause-sound : goal.returns-clause-sound
returns-clause-sound g c =
    let stamps : List ℕ = c.deref_mut.result.now in
    let made : stamps ≡ replicate c.unwrap_or-pages.result 0 = c.deref_mut.ensures.value ∙ c.in_ok-stamps.ensures.items_if_clones_equal (λ y is. is) in
    on_ok_weaker c.check_buckets.result
    (from_none (g.R.PageDisk.state c.args.disk.now).told c.args.overlay.now c.args.table c.unwrap_or-pages.result c.pages.result stamps (λ m image. AreWhole image c.args.table c.args.buckets) c.pages.ensures c.unwrap_or-pages.ensures made) c.check_buckets.ensures.sound

pub returns-clause-cause : goal.returns-clause-cause
returns-clause-cause g c =
    let stamps : List ℕ = c.deref_mut.result.now in
    let made : stamps ≡ replicate c.unwrap_or-pages.result 0 = c.deref_mut.ensures.value ∙ c.in_ok-stamps.ensures.items_if_clones_equal (λ y is. is) in
    IfErr-weaker c.check_buckets.result _ _
    (λ e. from_none (g.R.PageDisk.state c.args.disk.now).told c.args.overlay.now c.args.table c.unwrap_or-pages.result c.pages.result stamps (λ m image. IsChainOr (BreaksBelow c.args.table c.args.buckets image) m e) c.pages.ensures c.unwrap_or-pages.ensures made)
    c.check_buckets.ensures.cause
