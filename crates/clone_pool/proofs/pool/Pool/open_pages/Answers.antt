use Rattle.std.proofs.Common.{◌≡◌, ◌∙◌, ap, subst}
use Rattle.std.specs.List.Sorted.{IsPermutation}
use Rattle.clone_pool.specs.Pool.{Frames, AreOpenPages}
use Rattle.clone_pool.proofs.OpenLemmas.{listed, open_pages}
use Rattle.clone_pool.proofs.pool.Pool.open_pages.Goals as goal

pub returns : goal.returns
returns c =
    let i = c.self.inside in
    let v : Frames = record { frames = i.frames.items; uses = i.uses; missed = i.missed } in
    let pages = c.sort_unstable.new.self.items in
    let all : c.in_ok-pages.pages.items ≡ listed i.frames.items = c.in_ok-pages.ensures ∙ ap listed c.deref.ensures.value in
    subst (λ (v : Frames). AreOpenPages v.frames pages) c.self.view_is
    (open_pages v c.self.invariant.pool pages (subst (λ others. IsPermutation others pages) all c.sort_unstable.ensures.permutation) c.sort_unstable.ensures.sorted)
