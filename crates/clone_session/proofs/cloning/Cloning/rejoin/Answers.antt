use Rattle.std.proofs.Common.{◌≡◌, ◌∙◌, [], Some, sym, ap, arith}
use Rattle.clone_session.specs.Cloning.{Cloning, Session}
use Rattle.clone_session.specs.declared.limits.TheConstants.{VERSION}
use Rattle.clone_session.proofs.SessionLemmas.{none_of_stage, reset_blocks, restaged}
use Rattle.clone_session.proofs.cloning.Cloning.rejoin.Goals as goal

module _ (c : goal.After-reset) where
  abbrev was : Session
  was = c.in-Some.session

  abbrev inside : Session
  inside = record { number = c.session.inside.number; incarnation = c.args.incarnation; tasks = c.session.inside.tasks; version = c.session.inside.version; snap = c.session.inside.snapshot; created = c.session.inside.created.items }

  -- in the first version the requester told no blocks
  told_none : c.reset.new.self.version ≡ VERSION → c.args.partials.now ≡ []
  told_none first =
      let (s, is, none) = c.requires.stands in
      let same : Some was ≡ Some s = sym c.in-Some.is ∙ ap (λ (x : Cloning). x.session) c.self.view_is ∙ is in
      let one : was ≡ s = cc in
      none (ap (λ (x : Session). x.version) (sym one) ∙ ap (λ (x : Session). x.version) (sym c.session.view_is) ∙ ap (λ (x : Session). x.version) (sym c.reset.ensures.session) ∙ first)

pub invariant_of-self-2 : goal.invariant_of-self-2
invariant_of-self-2 c =
    let before = c.session.view_is in
    let kept = c.reset.ensures.session in
    restaged _ (was c) c.reset.new.self c.self.invariant c.in-Some.is
    (ap (λ (s : Session). s.number) kept ∙ ap (λ (s : Session). s.number) before) (ap (λ (s : Session). s.tasks) kept ∙ ap (λ (s : Session). s.tasks) before) (ap (λ (s : Session). s.created) kept ∙ ap (λ (s : Session). s.created) before)
    (c.reset.ensures.list ∙ ap (λ (s : Session). s.snap.list) before) (omega (arith, c.reset.ensures.room, ap (λ (s : Session). s.snap.room) before))
    (λ _. reset_blocks c.reset.new.self _ _ _ c.reset.ensures.chunks (λ first. none_of_stage c.args.stage (inside c) c.args.partials.now (told_none c first)))
