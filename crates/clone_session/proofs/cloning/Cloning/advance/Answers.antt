use Rattle.std.proofs.Common.{◌∙◌, sym, ap}
use Rattle.clone_session.specs.Cloning.{Session}
use Rattle.clone_session.proofs.SessionLemmas.{no_blocks, redo_over}
use Rattle.clone_session.proofs.cloning.Cloning.advance.Goals as goal

pub invariant_of-self-in-RedoCopy : goal.invariant_of-self-in-RedoCopy
invariant_of-self-in-RedoCopy c =
    let was = c.session.view_is in
    let inside = c.session.inside in
    let new : Session = record { number = inside.number; incarnation = inside.incarnation; tasks = inside.tasks; version = inside.version; snap = c.done.new.self; created = inside.created.items } in
    redo_over _ c.in-Some.session new c.self.invariant c.in-Some.is (sym c.stage.ensures ∙ c.in-RedoCopy.is) (ap (λ (s : Session). s.number) was) (ap (λ (s : Session). s.tasks) was) (ap (λ (s : Session). s.created) was) c.done.ensures.list
    (no_blocks new 0 c.done.ensures.kept)
