use Rattle.std.proofs.Common.{◌∙◌, ap, arith}
use Rattle.clone_session.specs.Cloning.{Session}
use Rattle.clone_session.proofs.SessionLemmas.{restaged, same_blocks}
use Rattle.clone_session.proofs.cloning.Cloning.claim.Goals as goal

pub invariant_of-self : goal.invariant_of-self
invariant_of-self c =
    let was = c.session.view_is in
    let inside = c.session.inside in
    let new : Session = record { number = inside.number; incarnation = inside.incarnation; tasks = inside.tasks; version = inside.version; snap = c.claim.new.self; created = inside.created.items } in
    restaged _ c.in-Some.session new c.self.invariant c.in-Some.is (ap (λ (s : Session). s.number) was) (ap (λ (s : Session). s.tasks) was) (ap (λ (s : Session). s.created) was)
    (c.claim.ensures.list ∙ ap (λ (s : Session). s.snap.list) was) (omega (arith, c.claim.ensures.room, ap (λ (s : Session). s.snap.room) was))
    (same_blocks c.in-Some.session new (ap (λ (s : Session). s.version) was) (c.claim.ensures.kept ∙ ap (λ (s : Session). s.snap.kept) was))
