-- The stop: what the copy of pages leaves when it ends.
use Rattle.std.proofs.Common.{◌≡◌, ◌≤◌, ◌∙◌, ℕ, List, refl, sym, subst, ap, arith, Option, Some, option_map, length, replicate}
use Rattle.clone_base.specs.declared.limits.TheConstants.{SPACE_LIMIT}
use Rattle.std.specs.Option.{option_map_or}
use Rattle.clone_chunk.specs.declared.chunk.Chunk.TheVariants.{Free}
use Rattle.clone_archive.specs.Archived.{Archived, start_of, stopped}
use Rattle.clone_snapshot.specs.StageLists.{Pages, Redo, chunk_count}
use Rattle.clone_session.specs.declared.ending.Moment.{Moment}
use Rattle.clone_session.specs.declared.info.Stop.{Stop}
use Rattle.clone_session.specs.Cloning.{Cloning, Session, CopiesPages, IsInStage, IsInSession, IsOfVersion, IsCloning}
use Rattle.clone_session.specs.Effects.{Becomes, aside, pages_ended, stopped_at}

module _ (now : Moment) (c : Cloning) (s t : Session) (start : ℕ) (archive : Option Archived) where
  abbrev last : Stop
  last = record { session = t.number; position = now.position; drops = now.drops }

  -- the clone with its session in the copy of redo
  abbrev pub after : Cloning
  after = record c { session = Some t; archive = archive; stop = Some last }

  module _ (pages : List (ℕ × ℕ)) (k : IsCloning c) (is : c.session ≡ Some s) (list : s.snap.list ≡ Pages pages) (first : start_of c.archive ≡ Some start) (ends : archive ≡ option_map (stopped now.end) c.archive) (next : t.snap.list ≡ Redo start now.end) where
    in_pages : IsInSession c (Some s)
    in_pages = subst (IsInSession c) is k.session

    copies : CopiesPages c s.snap.room
    copies = subst (IsInStage c s) list in_pages.2

    starts : copies.archive.start ≡ start
    starts = let same : Some copies.archive.start ≡ Some start = sym (ap start_of copies.stands) ∙ first in cc

    ended : archive ≡ Some (stopped now.end copies.archive)
    ended = ends ∙ ap (option_map (stopped now.end)) copies.stands

    pub stops : t.tasks ≡ s.tasks → t.created ≡ s.created → IsOfVersion t → IsCloning after
    stops tasks created blocks = record {
      ring = k.ring;
      session = (
        omega (arith, tasks, in_pages.0),
        omega (arith, tasks, in_pages.1),
        subst (IsInStage after t) (sym next) (record {
          untracked = copies.untracked;
          archive = stopped now.end copies.archive;
          stands = ended;
          starts = starts;
          ended = refl;
          last = last;
          stopped = refl;
          own = refl;
        }),
        subst (λ (xs : List (ℕ × ℕ)). length xs ≤ SPACE_LIMIT) (sym created) in_pages.3,
        blocks,
      );
    }

    pub becomes : t.number ≡ s.number → t.incarnation ≡ s.incarnation → t.tasks ≡ s.tasks → t.version ≡ s.version → t.created ≡ s.created → t.snap.chunks ≡ replicate (chunk_count (Redo start now.end)) Free → t.snap.kept ≡ replicate (chunk_count (Redo start now.end)) 0
        → Becomes after (pages_ended now s c)
    becomes number incarnation tasks version created chunks kept =
        let list : t.snap.list ≡ Redo copies.archive.start now.end = next ∙ ap (λ n. Redo n now.end) (sym starts) in
        let free : t.snap.chunks ≡ replicate (chunk_count (Redo copies.archive.start now.end)) Free = chunks ∙ ap (λ n. replicate (chunk_count (Redo n now.end)) Free) (sym starts) in
        let none : t.snap.kept ≡ replicate (chunk_count (Redo copies.archive.start now.end)) 0 = kept ∙ ap (λ n. replicate (chunk_count (Redo n now.end)) 0) (sym starts) in
        let there : aside after ≡ aside (stopped_at now s copies.archive c) = λ i. record {
          session = Some (record { number = number i; incarnation = incarnation i; tasks = tasks i; version = version i; snap = record { list = list i; chunks = free i; kept = none i; room = 0 }; created = created i });
          tracking = record c.tracking { kept = 0; room = 0 };
          archive = ended i;
          stop = Some (record { session = number i; position = now.position; drops = now.drops });
          ring = c.ring;
        } in
        there ∙ ap (λ (o : Option Archived). aside (option_map_or (λ a. stopped_at now s a c) o c)) (sym copies.stands)
