use Rattle.std.proofs.Common.{◌≡◌, ◌≤◌, ◌<◌, ◌+◌, ◌-◌, ◌∙◌, ℕ, min, arith, refl, sym, subst, ap, Option, Some, option_map}
use Rattle.clone_base.specs.declared.limits.TheConstants.{LSN_LIMIT}
use Rattle.clone_chunk.specs.declared.stage.Stage.TheVariants.{PageCopy}
use Rattle.clone_archive.specs.Archived.{Archived, archived_of, next_count, copied}
use Rattle.clone_ring.specs.Window.{Window}
use Rattle.clone_snapshot.specs.StageLists.{Redo, chunk_count, stage_of}
use Rattle.clone_session.specs.Cloning.{Cloning, Session, IsCloning, reach}
use Rattle.clone_session.specs.CloneCalls.{archived_on}
use Rattle.clone_session.proofs.ArchiveLemmas.{standing, archives}
use Rattle.clone_session.proofs.cloning.Cloning.archive.Goals as goal

pub invariant_of-self-2 : goal.invariant_of-self-2
invariant_of-self-2 c =
    let ring : Window = c.args.ring.now in
    let limit : ℕ = c.args.limit in
    let (a, was, told) = standing (λ a. (a.start, archived_of (archived_on limit ring a))) c.args.self.now.archive (c.in-Some.start, c.in-Some.reached) (sym c.reached.ensures.reached ∙ c.in-Some.is) in
    let old : Cloning = record { session = c.self.inside.session; tracking = c.self.inside.tracker; archive = c.self.inside.archive; stop = c.self.inside.stop; ring = c.self.inside.ring } in
    let stands : old.archive ≡ Some a = ap (λ (x : Cloning). x.archive) c.self.view_is ∙ ap (λ (x : Cloning). x.archive) c.reserve_redo.ensures.same ∙ was in
    let ring_is : old.ring ≡ c.args.self.now.ring = ap (λ (x : Cloning). x.ring) c.self.view_is ∙ ap (λ (x : Cloning). x.ring) c.reserve_redo.ensures.same in
    let more : Archived = archived_on limit ring a in
    let new : c.copy_some.new.self ≡ Some more = c.in_ok-copy_some.ensures.copied ∙ ap (option_map (λ a. copied (next_count limit a ring) a ring)) stands in
    let start : a.start ≡ c.in-Some.start = ap (λ p. p.0) told in
    let reached : archived_of more ≡ c.in-Some.reached = ap (λ p. p.1) told in
    let far : reach old.ring more ≡ c.reach.result = (λ i. min (reached i + ring_is i) (LSN_LIMIT - 1)) ∙ sym c.reach.ensures in
    let range = c.in-Some.ensures.in_log in
    let below : archived_of more < LSN_LIMIT = omega (arith, reached, range.1) in
    let room : (s : Session) → old.session ≡ Some s → stage_of s.snap.list ≡ PageCopy → chunk_count (Redo more.start (reach old.ring more)) ≤ s.snap.room =
    λ s is in_pages. subst (λ n. n ≤ s.snap.room) (λ i. chunk_count (Redo (sym start i) (sym far i))) (c.in_ok-reserve_redo.ensures.room s (sym (ap (λ (x : Cloning). x.session) c.self.view_is) ∙ is) in_pages) in
    subst (λ (o : Option Archived). IsCloning (record old { archive = o })) (sym new) (archives old a more stands refl refl below c.self.invariant room)
