use Rattle.std.proofs.Common.{◌≤◌, ◌++◌, ◌∷◌, [], length, subst, sym, IsTrue}
use Rattle.clone_buffer.proofs.Common.{spelling, free_in, Frames, IsPool, Buffered, IsBuffer, Shows, replayed, written, Writes}
use Rattle.clone_buffer.specs.Keeping.{Stands}
use Rattle.clone_buffer.specs.Dropping.{AreUnpinned, DropsSpace}
use Rattle.clone_buffer.proofs.DropLemmas.{buffer_without, shows_dropped, writes_without, stands_dropped}
use Rattle.clone_buffer.proofs.buffer.Buffer.drop_space.Goals as goal

pub give_up-requires : goal.give_up-requires
give_up-requires c = subst (λ (s : Buffered). AreUnpinned c.args.space s.pool.frames) (sym c.self.view_is) c.requires.unpinned

pub invariant_of-self : goal.invariant_of-self
invariant_of-self c =
    let i = c.self.inside in
    let v : Buffered = record { log = i.shadow.state.log; right = i.shadow.state.right; ring = i.ring; pool = i.pool } in
    subst (λ (w : Frames). IsBuffer (record v { pool = w })) (sym c.give_up.ensures) (buffer_without c.args.space c.args.pages v c.self.invariant)

pub append-requires-clause-shows : goal.append-requires-clause-shows
append-requires-clause-shows c =
    let i = c.self.inside in
    let v : Buffered = record { log = i.shadow.state.log; right = i.shadow.state.right; ring = i.ring; pool = i.pool } in
    let records = c.args.records.now in
    let drops = subst (λ (s : Buffered). IsTrue s.right → DropsSpace s c.args.space c.args.pages records) (sym c.self.view_is) c.requires.drops in
    λ t. subst (λ (w : Frames). Shows (replayed (v.log ++ records ∷ [])) (written records (record v { pool = w })).pool.frames) (sym c.give_up.ensures)
    (shows_dropped c.args.space c.args.pages v records (drops t) c.laws.ensures (subst IsPool c.give_up.ensures c.laws-2.ensures) c.self.invariant t)

pub returns-clause-stands : goal.returns-clause-stands
returns-clause-stands c =
    let i = c.self.inside in
    let v : Buffered = record { log = i.shadow.state.log; right = i.shadow.state.right; ring = i.ring; pool = i.pool } in
    let records = c.args.records.now in
    let drops = subst (λ (s : Buffered). IsTrue s.right → DropsSpace s c.args.space c.args.pages records) (sym c.self.view_is) c.requires.drops in
    let writes = subst (λ (w : Frames). Writes records (record v { pool = w }) c.append.new.self c.append.result) c.give_up.ensures c.append.ensures.written in
    let room = subst (λ (s : Buffered). length (spelling records) ≤ free_in s.ring) (sym c.self.view_is) c.in_ok-room_for.ensures.room in
    λ beside told calm quiet st. stands_dropped c.args.space c.args.pages v c.append.new.self beside told records c.append.result c.laws.ensures (subst IsPool c.give_up.ensures c.laws-2.ensures) c.self.invariant c.append.ensures.spelled drops
    (writes_without c.args.space c.args.pages v c.append.new.self records c.append.result room writes) calm quiet (subst (λ (s : Buffered). Stands s beside told) (sym c.self.view_is) st)
