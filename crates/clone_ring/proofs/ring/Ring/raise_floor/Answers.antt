use Rattle.std.proofs.Common.{◌-◌, ◌∙◌, ap, subst, arith, length, List, ℕ}
use Rattle.clone_ring.specs.Window.{Window, raised}
use Rattle.clone_ring.specs.Row.{IsFurther}
use Rattle.clone_ring.proofs.RoundLemmas.{round_dropped, length-round}
use Rattle.clone_ring.proofs.ring.Ring.raise_floor.Goals as goal

pub returns : goal.returns
returns c =
    let row = c.self.inside.row in
    let start = c.self.inside.start in
    let len = c.self.inside.len in
    let gone = c.args.lsn - c.self.inside.floor in
    let place = c.further-self-inside.result in
    let lies = c.self.invariant.0 in
    let further = subst (λ s. IsFurther s start gone place) c.size.ensures.value c.further-self-inside.ensures.place in
    let floor = ap (λ (w : Window). w.floor) c.self.view_is in
    let size = ap (λ (w : Window). length w.bytes) c.self.view_is in
    let dropped = round_dropped row start len gone place lies further (omega (arith, c.requires.within, floor, size, length-round row start len lies)) in
    ap (λ (bytes : List ℕ). record { floor = c.args.lsn; bytes = bytes; size = row.size }) dropped ∙ ap (raised c.args.lsn) c.self.view_is
