use Rattle.std.proofs.Common.{◌≡◌, ◌∙◌, ap, subst, arith}
use Rattle.clone_ring.specs.Window.{end_of}
use Rattle.clone_archive.specs.Archived.{Archived, until, IsArchived}
use Rattle.clone_archive.proofs.Ends.{in_order, LieInOrder}
use Rattle.clone_archive.proofs.log_copy.LogCopy.next_count.Goals as goal

-- how archive and ring lie, and that the end of archiving is what was computed
lies : (c : goal.After-archived) → LieInOrder c.args.self.now c.args.ring.now × (c.unwrap_or-until.result ≡ until c.args.self.now (end_of c.args.ring.now))
lies c =
    let a = c.args.self.now in (
      in_order a c.args.ring.now (subst IsArchived c.self.view_is c.self.invariant) c.requires.kept c.requires.within,
      c.unwrap_or-until.ensures ∙ (ap (λ (b : Archived). until b c.end.result) c.self.view_is ∙ ap (until a) c.end.ensures.value),
    )

pub overflow_sub-until : goal.overflow_sub-until
overflow_sub-until c = omega (arith, (lies c).0.before, (lies c).1, c.archived.ensures)

pub returns-clause-above : goal.returns-clause-above
returns-clause-above c =
    let lie = lies c.before in
    λ some. lie.0.has_next (omega (arith, lie.1, c.archived.ensures, c.min.ensures))

pub returns-clause-within : goal.returns-clause-within
returns-clause-within c = let lie = lies c.before in omega (arith, lie.0.before, lie.0.in_ring, lie.1, c.archived.ensures, c.min.ensures)
