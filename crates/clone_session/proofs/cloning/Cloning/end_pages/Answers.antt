use Rattle.std.proofs.Common.{◌≡◌, ◌∙◌, ℕ, List, Some, sym, subst, ap}
use Rattle.clone_archive.specs.Archived.{start_of}
use Rattle.clone_snapshot.specs.StageLists.{Pages, Redo, chunk_count}
use Rattle.clone_session.specs.Cloning.{Cloning, Session}
use Rattle.clone_session.specs.Effects.{Becomes, pages_ended}
use Rattle.clone_session.proofs.SessionLemmas.{no_blocks}
use Rattle.clone_session.proofs.StopLemmas.{after, stops, becomes}
use Rattle.clone_session.proofs.cloning.Cloning.end_pages.Goals as goal

module _ (c : goal.After-self-2-1) where
  abbrev old : Cloning
  old = record { session = c.self.inside.session; tracking = c.self.inside.tracker; archive = c.self.inside.archive; stop = c.self.inside.stop; ring = c.self.inside.ring }

  abbrev was : Session
  was = c.in-Some-session.session

  abbrev now : Session
  now = record { number = c.session.inside.number; incarnation = c.session.inside.incarnation; tasks = c.session.inside.tasks; version = c.session.inside.version; snap = c.redo_copy.new.self; created = c.session.inside.created.items }

  in_pages : (pages : List (ℕ × ℕ)) × (was.snap.list ≡ Pages pages)
  in_pages =
      let (s, pages, is, list) = c.requires.stands in
      let same : Some was ≡ Some s = sym c.in-Some-session.is ∙ ap (λ (x : Cloning). x.session) c.self.view_is ∙ is in
      let one : was ≡ s = cc in
      (pages, ap (λ (x : Session). x.snap.list) one ∙ list)

  first : start_of c.self.inside.archive ≡ Some c.in-Some.start
  first = sym c.first.ensures.value ∙ c.in-Some.is

pub invariant_of-self : goal.invariant_of-self
invariant_of-self c =
    stops c.args.now (old c) (was c) (now c) c.in-Some.start c.stop.new.self (in_pages c).0 c.self.invariant c.in-Some-session.is (in_pages c).1 (first c) c.stop.ensures c.redo_copy.ensures.list
    (ap (λ (s : Session). s.tasks) c.session.view_is) (ap (λ (s : Session). s.created) c.session.view_is) (no_blocks (now c) (chunk_count (Redo c.in-Some.start c.args.now.end)) c.redo_copy.ensures.kept)

pub returns : goal.returns
returns c =
    let new = becomes c.args.now (old c) (was c) (now c) c.in-Some.start c.stop.new.self (in_pages c).0 c.self.invariant c.in-Some-session.is (in_pages c).1 (first c) c.stop.ensures c.redo_copy.ensures.list
    (ap (λ (s : Session). s.number) c.session.view_is) (ap (λ (s : Session). s.incarnation) c.session.view_is) (ap (λ (s : Session). s.tasks) c.session.view_is)
    (ap (λ (s : Session). s.version) c.session.view_is) (ap (λ (s : Session). s.created) c.session.view_is) c.redo_copy.ensures.chunks c.redo_copy.ensures.kept in (
      was c,
      sym (ap (λ (x : Cloning). x.session) c.self.view_is) ∙ c.in-Some-session.is,
      subst (λ (x : Cloning). Becomes (after c.args.now (old c) (was c) (now c) c.in-Some.start c.stop.new.self) (pages_ended c.args.now (was c) x)) c.self.view_is new,
    )
