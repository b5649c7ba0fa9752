use Rattle.std.proofs.Common.{◌≡◌, ◌≤◌, ◌+◌, ◌++◌, ◌∙◌, ap, sym, subst, arith, length, take, drop, append_assoc, length-take}
use Rattle.std.proofs.lemmas.List.{drop-append-le, take-append-drop}
use Rattle.clone_ring.specs.Window.{Window}
use Rattle.clone_ring.specs.Row.{IsFurther}
use Rattle.clone_ring.proofs.RoundLemmas.{round_read, part_written, length-round}
use Rattle.clone_ring.proofs.ring.Ring.read_piece.Goals as goal

pub returns-clause-filled : goal.returns-clause-filled
returns-clause-filled c =
    let row = c.self.inside.row in
    let start = c.self.inside.start in
    let len = c.self.inside.len in
    let offset = c.args.offset in
    let place = c.further-at.result in
    let into = c.args.into.now in
    let front = c.min-front.result in
    let count = c.read_piece.result in
    let lies = c.self.invariant.0 in
    let further = subst (λ s. IsFurther s start offset place) c.size.ensures.value c.further-at.ensures.place in
    let shown = ap (λ (w : Window). length w.bytes) c.self.view_is in
    let cut = c.min-front.ensures in
    let within : offset + length into ≤ len = omega (arith, c.requires.within, shown, length-round row start len lies) in
    let there = part_written row start len offset place (length into) lies further within in
    let few : count ≤ front = omega (arith, c.read_piece.ensures.within, length-take front into) in
    let read = round_read row start len offset place count lies further (omega (arith, within, few, cut)) (omega (arith, there, few, cut, c.size-2.ensures.value)) in
    let filled = read ∙ ap (λ (w : Window). take count (drop offset w.bytes)) c.self.view_is in
    let rest = drop count (take front into) in
    let behind : rest ++ drop front into ≡ drop count into =
    sym (drop-append-le count (take front into) (drop front into) (omega (arith, few, cut, length-take front into))) ∙ ap (drop count) (take-append-drop front into) in
    ap (λ ys. ys ++ drop front into) c.read_piece.ensures.filled
    ∙ (append_assoc (take count (drop place row.bytes)) rest (drop front into)
    ∙ (ap (λ ys. take count (drop place row.bytes) ++ ys) behind ∙ ap (λ ys. ys ++ drop count into) filled))
