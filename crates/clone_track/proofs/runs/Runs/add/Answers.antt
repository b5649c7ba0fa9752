use Rattle.std.proofs.Common.{◌≡◌, ◌<◌, ◌++◌, length, vec_len, vec_capacity, ap, ◌∙◌, arith}
use Rattle.std.specs.FinMap as finite
use Rattle.std.specs.List.{insert}
use Rattle.clone_track.specs.SortedRuns.{joined}
use Rattle.clone_track.specs.declared.runs.TheConstants.{RUN_PAGES}
use Rattle.clone_track.proofs.PageSets.{set_of, set_of-insert, set_of-found}
use Rattle.clone_track.proofs.RunLemmas.{after_insert, found}
use Rattle.clone_track.proofs.runs.Runs.add.Goals as goal

pub invariant_of-self : goal.invariant_of-self
invariant_of-self c =
    let run = c.self.inside.last in
    let within : length run.items < RUN_PAGES = omega (arith, ap (λ n. n.room) c.self.view_is, c.requires) in
    let room : vec_len run < vec_capacity run = omega (arith, within, c.self.invariant.last_room, run.ok.0) in
    let items : c.insert-inserted.new.self.items ≡ insert run.items c.in-Err.index c.args.page = rw (c.insert-inserted.ensures.succeeds room) at c.insert-inserted.ensures.items in
    let search = rw c.deref.ensures.value at c.in-Err.ensures.position in
    let index = rw c.deref.ensures.value at c.in-Err.ensures.bound in
    record {
      earlier_runs = c.self.invariant.earlier_runs;
      full = c.self.invariant.full;
      last_run = after_insert run c.insert-inserted.new.self c.in-Err.index c.args.page c.self.invariant.last_run within index search items;
      last_room = omega (arith, c.self.invariant.last_room, c.insert-inserted.ensures.capacity);
      few = c.self.invariant.few;
      list_empty = c.self.invariant.list_empty;
      list_room = c.self.invariant.list_room;
    }

pub returns-in-Err-clause-pages : goal.returns-in-Err-clause-pages
returns-in-Err-clause-pages c =
    let run = c.self.inside.last in
    let front = joined c.self.inside.earlier.items in
    let within : length run.items < RUN_PAGES = omega (arith, ap (λ n. n.room) c.self.view_is, c.requires) in
    let room : vec_len run < vec_capacity run = omega (arith, within, c.self.invariant.last_room, run.ok.0) in
    let items : c.insert-inserted.new.self.items ≡ insert run.items c.in-Err.index c.args.page = rw (c.insert-inserted.ensures.succeeds room) at c.insert-inserted.ensures.items in
    let shown : set_of (front ++ run.items) ≡ c.args.self.now.pages = ap (λ n. n.pages) c.self.view_is in
    ap (λ pages. set_of (front ++ pages)) items ∙ set_of-insert front run.items c.in-Err.index c.args.page ∙ ap (λ pages. finite.insert pages c.args.page tt) shown

pub returns-in_default-clause-pages : goal.returns-in_default-clause-pages
returns-in_default-clause-pages c =
    let shown : set_of (joined c.self.inside.earlier.items ++ c.self.inside.last.items) ≡ c.args.self.now.pages = ap (λ n. n.pages) c.self.view_is in
    let there = found c.deref.result.now c.in_default.field-0 c.args.page c.in_default.ensures.bound c.in_default.ensures.ok in
    rw (← shown) (set_of-found (joined c.self.inside.earlier.items) c.self.inside.last.items c.args.page (rw c.deref.ensures.value at there))
