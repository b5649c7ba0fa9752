use Rattle.std.proofs.Common.{◌≡◌, ◌≤◌, ◌+◌, ◌∙◌, ap, sym, subst, arith, List, ℕ, length, take, length-take}
use Rattle.std.proofs.lemmas.List.{take-take}
use Rattle.clone_ring.specs.Window.{Window, appended}
use Rattle.clone_ring.specs.Row.{IsFurther, round_from, written}
use Rattle.clone_ring.proofs.RoundLemmas.{round_appended, length-round}
use Rattle.clone_ring.proofs.ring.Ring.append_piece.Goals as goal

pub returns-clause-appended : goal.returns-clause-appended
returns-clause-appended c =
    let row = c.self.inside.row in
    let start = c.self.inside.start in
    let len = c.self.inside.len in
    let place = c.further-at.result in
    let front = c.min-front.result in
    let count = c.write_piece-count.result in
    let bytes = c.args.bytes.now in
    let piece = take count bytes in
    let now = c.write_piece-count.new.self.bytes in
    let lies = c.self.invariant.0 in
    let further = subst (λ s. IsFurther s start len place) c.size.ensures.value c.further-at.ensures.place in
    let shown = ap (λ (w : Window). length w.bytes) c.self.view_is in
    let sized = ap (λ (w : Window). w.size) c.self.view_is in
    let cut = c.min-front.ensures in
    let few : count ≤ front = omega (arith, c.write_piece-count.ensures.within, length-take front bytes) in
    let long : length piece ≡ count = omega (arith, few, cut, length-take count bytes) in
    let room : len + length piece ≤ row.size = omega (arith, long, few, cut, c.requires.free, shown, sized, length-round row start len lies) in
    let fits : place + length piece ≤ row.size = omega (arith, long, few, cut, c.size-2.ensures.value, c.size.ensures.value, c.further-at.ensures.within) in
    let is : now ≡ written place piece row.bytes = c.write_piece-count.ensures.bytes ∙ ap (λ ys. written place ys row.bytes) (take-take count front bytes few) in
    let done = round_appended row start len place piece lies further room fits in
    let bytes_are = ap (λ n. take (len + n) (round_from start now)) (sym long) ∙ (ap (λ ys. take (len + length piece) (round_from start ys)) is ∙ done.shows) in
    ap (λ (n : ℕ). record { floor = c.self.inside.floor; bytes = take (len + count) (round_from start now); size = n }) c.write_piece-count.ensures.size
    ∙ (ap (λ (ys : List ℕ). record { floor = c.self.inside.floor; bytes = ys; size = row.size }) bytes_are ∙ ap (appended piece) c.self.view_is)
