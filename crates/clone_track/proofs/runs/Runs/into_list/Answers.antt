use Rattle.std.proofs.Common.{◌≡◌, ◌++◌, length, ap, ◌∙◌, arith, length-append}
use Rattle.std.specs.FinMap as finite
use Rattle.clone_track.specs.SortedRuns.{joined}
use Rattle.clone_track.proofs.PageSets.{set_of, keys-sorted}
use Rattle.clone_track.proofs.RunLemmas.{length-joined, length-kept}
use Rattle.clone_track.proofs.runs.Runs.into_list.Goals as goal

pub append_runs-requires : goal.append_runs-requires
append_runs-requires c =
    let was = c.self.inside in
    omega (arith, ap length c.self.invariant.list_empty, was.list.ok.0, ap (λ runs. length (joined runs)) c.deref.ensures.value, length-joined was.earlier.items c.self.invariant.full, c.self.invariant.list_room)

pub append-requires : goal.append-requires
append-requires c =
    let was = c.self.inside in
    let runs : c.append_runs.new.list.items ≡ joined was.earlier.items = rw (c.self.invariant.list_empty, c.deref.ensures.value) at c.append_runs.ensures.items in
    omega (
      arith,
      ap length runs,
      ap length c.deref-2.ensures.value,
      c.append_runs.new.list.ok.0,
      length-kept was.earlier.items was.last was.list c.self.invariant,
      c.self.invariant.list_room,
      c.append_runs.ensures.room,
    )

pub returns-clause-pages : goal.returns-clause-pages
returns-clause-pages c =
    let was = c.self.inside in
    let shown : set_of (joined was.earlier.items ++ was.last.items) ≡ c.args.self.pages = ap (λ n. n.pages) c.self.view_is in
    let whole : c.append.new.list.items ≡ joined was.earlier.items ++ was.last.items =
    rw (c.append_runs.ensures.items, c.self.invariant.list_empty, c.deref.ensures.value, c.deref-2.ensures.value) at c.append.ensures.items in
    keys-sorted c.append.new.list.items c.sort_unstable.new.self.items c.dedup.new.self.items c.sort_unstable.ensures.permutation c.sort_unstable.ensures.sorted c.dedup.ensures.filtered
    ∙ ap (λ pages. finite.keys pages) (ap set_of whole ∙ shown)

pub returns-clause-limit : goal.returns-clause-limit
returns-clause-limit c =
    let was = c.self.inside in
    let whole : c.append.new.list.items ≡ joined was.earlier.items ++ was.last.items =
    rw (c.append_runs.ensures.items, c.self.invariant.list_empty, c.deref.ensures.value, c.deref-2.ensures.value) at c.append.ensures.items in
    omega (
      arith,
      ap length whole,
      length-append (joined was.earlier.items) was.last.items,
      length-kept was.earlier.items was.last was.list c.self.invariant,
      c.self.invariant.few,
      c.append.new.list.ok.0,
      c.sort_unstable.ensures.len,
      c.dedup.ensures.bound,
      c.dedup.new.self.ok.0,
    )
