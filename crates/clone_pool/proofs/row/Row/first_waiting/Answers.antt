use Rattle.std.proofs.Common.{◌≡◌, ◌<◌, ◌∙◌, List, length, true, sym, ap, subst, arith}
use Rattle.std.proofs.lemmas.List.{get_or_read}
use Rattle.clone_pool.specs.declared.tournament.Rank.{Rank}
use Rattle.clone_pool.specs.Frames.{frame_at, is_waiting, no_frame}
use Rattle.clone_pool.specs.Row.{IsFirstWaiting, frame_in}
use Rattle.clone_pool.proofs.RowLemmas.{part_within}
use Rattle.clone_pool.proofs.WaitingLemmas.{first_waits}
use Rattle.clone_pool.proofs.row.Row.first_waiting.Goals as goal

pub bounds-frames-at : goal.bounds-frames-at
bounds-frames-at c =
    let i = c.self.inside in
    let row = i.row.items in
    let place = c.loop-place.place in
    let low : place < length row = omega (arith, c.loop-place-test.true, i.row.ok) in
    let read = get_or_read row place c.index.result.now low c.index.ensures 0 in
    let there = part_within i.ranks.items (frame_in row place) (c.self.invariant.0.part place low) in
    let long : length i.ranks.items ≡ length c.args.frames.now = ap length c.self.view_is ∙ c.requires in
    omega (arith, read, there, long)

pub returns-then-is_waiting-clause-some : goal.returns-then-is_waiting-clause-some
returns-then-is_waiting-clause-some c =
    let i = c.self.inside in
    let row = i.row.items in
    let place = c.loop-place.place in
    let low : place < length row = omega (arith, c.loop-place-test.true, i.row.ok) in
    let read = get_or_read row place c.index.result.now low c.index.ensures 0 in
    let there = part_within i.ranks.items (frame_in row place) (c.self.invariant.0.part place low) in
    let long : length i.ranks.items ≡ length c.args.frames.now = ap length c.self.view_is ∙ c.requires in
    let within : c.index.result.now < length c.args.frames.now = omega (arith, read, there, long) in
    let frame = get_or_read c.args.frames.now c.index.result.now c.index-frames-at.result within c.index-frames-at.is no_frame in
    let waits : is_waiting (frame_at c.args.frames.now (frame_in row place)) ≡ true = ap (λ n. is_waiting (frame_at c.args.frames.now n)) (sym read) ∙ ap is_waiting (sym frame) ∙ sym c.is_waiting.ensures ∙ c.if-is_waiting.true in
    subst (λ (ranks : List Rank). IsFirstWaiting ranks c.args.frames.now c.index.result.now) c.self.view_is (subst (IsFirstWaiting i.ranks.items c.args.frames.now) (sym read) (first_waits i.ranks.items row c.self.invariant.0 c.args.frames.now place low c.loop-place.invariant.before waits))
