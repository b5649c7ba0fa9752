use Rattle.std.proofs.Common.{◌≡◌, ◌++◌, ap, arith, length-append}
use Rattle.clone_track.specs.SortedRuns.{joined}
use Rattle.clone_track.proofs.PageSets.{set_of, length-keys, len-set_of}
use Rattle.clone_track.proofs.RunLemmas.{length-joined}
use Rattle.clone_track.proofs.runs.Runs.most.Goals as goal

pub returns-clause-kept : goal.returns-clause-kept
returns-clause-kept c =
    let earlier = c.self.inside.earlier in
    let last = c.self.inside.last in
    omega (
      arith,
      ap (λ n. n.kept) c.self.view_is,
      length-append (joined earlier.items) last.items,
      length-joined earlier.items c.self.invariant.full,
      earlier.ok.0,
      last.ok.0,
      c.len.ensures,
      c.len-2.ensures,
    )

pub returns-clause-pages : goal.returns-clause-pages
returns-clause-pages c =
    let earlier = c.self.inside.earlier in
    let last = c.self.inside.last in
    let shown : set_of (joined earlier.items ++ last.items) ≡ c.args.self.now.pages = ap (λ n. n.pages) c.self.view_is in
    rw (← shown, length-keys) (omega (
      arith,
      len-set_of (joined earlier.items ++ last.items),
      length-append (joined earlier.items) last.items,
      length-joined earlier.items c.self.invariant.full,
      earlier.ok.0,
      last.ok.0,
      c.len.ensures,
      c.len-2.ensures,
    ))
