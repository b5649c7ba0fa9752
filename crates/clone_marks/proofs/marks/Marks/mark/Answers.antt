use Rattle.std.proofs.Common.{◌≡◌, ◌∙◌, true, sym}
use Rattle.clone_marks.specs.Blocks.{is_left}
use Rattle.clone_marks.proofs.MarkLemmas.{is_marked, marked_finished, marked_unfinished}
use Rattle.clone_marks.proofs.marks.Marks.mark.Goals as goal

pub is_finished-requires : goal.is_finished-requires
is_finished-requires c =
    let marks = c.self.inside.chunks.items in
    let left : is_left marks c.args.chunk c.args.block ≡ true = rw (← c.self.view_is) at c.requires in
    let marked = is_marked marks c.args.chunk c.args.block c.index.result.now c.with-marked.result c.self.invariant.chunks left c.index.ensures c.with-marked.ensures in
    marked.is

pub invariant_of-self : goal.invariant_of-self
invariant_of-self c =
    let marks = c.self.inside.chunks.items in
    let left : is_left marks c.args.chunk c.args.block ≡ true = rw (← c.self.view_is) at c.requires in
    let marked = is_marked marks c.args.chunk c.args.block c.index.result.now c.with-marked.result c.self.invariant.chunks left c.index.ensures c.with-marked.ensures in
    marked_finished marks c.args.chunk c.args.block c.self.inside.finished c.with-marked.result marked c.self.invariant (sym c.is_finished.ensures ∙ c.if-is_finished.true)

pub invariant_of-self-else-is_finished : goal.invariant_of-self-else-is_finished
invariant_of-self-else-is_finished c =
    let marks = c.self.inside.chunks.items in
    let left : is_left marks c.args.chunk c.args.block ≡ true = rw (← c.self.view_is) at c.requires in
    let marked = is_marked marks c.args.chunk c.args.block c.index.result.now c.with-marked.result c.self.invariant.chunks left c.index.ensures c.with-marked.ensures in
    marked_unfinished marks c.args.chunk c.args.block c.self.inside.finished c.with-marked.result marked c.self.invariant (sym c.is_finished.ensures ∙ c.if-is_finished.false)

pub returns-then-is_finished-clause-chunks : goal.returns-then-is_finished-clause-chunks
returns-then-is_finished-clause-chunks c =
    let marks = c.self.inside.chunks.items in
    let left : is_left marks c.args.chunk c.args.block ≡ true = rw (← c.self.view_is) at c.requires in
    let marked = is_marked marks c.args.chunk c.args.block c.index.result.now c.with-marked.result c.self.invariant.chunks left c.index.ensures c.with-marked.ensures in
    rw (← c.self.view_is) marked.blocks

pub returns-then-is_finished-clause-taken : goal.returns-then-is_finished-clause-taken
returns-then-is_finished-clause-taken c =
    let marks = c.self.inside.chunks.items in
    let left : is_left marks c.args.chunk c.args.block ≡ true = rw (← c.self.view_is) at c.requires in
    let marked = is_marked marks c.args.chunk c.args.block c.index.result.now c.with-marked.result c.self.invariant.chunks left c.index.ensures c.with-marked.ensures in
    rw (← c.self.view_is) marked.taken

pub returns-else-is_finished-clause-chunks : goal.returns-else-is_finished-clause-chunks
returns-else-is_finished-clause-chunks c =
    let marks = c.self.inside.chunks.items in
    let left : is_left marks c.args.chunk c.args.block ≡ true = rw (← c.self.view_is) at c.requires in
    let marked = is_marked marks c.args.chunk c.args.block c.index.result.now c.with-marked.result c.self.invariant.chunks left c.index.ensures c.with-marked.ensures in
    rw (← c.self.view_is) marked.blocks

pub returns-else-is_finished-clause-taken : goal.returns-else-is_finished-clause-taken
returns-else-is_finished-clause-taken c =
    let marks = c.self.inside.chunks.items in
    let left : is_left marks c.args.chunk c.args.block ≡ true = rw (← c.self.view_is) at c.requires in
    let marked = is_marked marks c.args.chunk c.args.block c.index.result.now c.with-marked.result c.self.invariant.chunks left c.index.ensures c.with-marked.ensures in
    rw (← c.self.view_is) marked.taken
