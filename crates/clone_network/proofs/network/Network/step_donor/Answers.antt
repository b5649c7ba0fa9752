use Rattle.std.proofs.Common.{◌≡◌, ◌∙◌, ◌<◌, length, Some, slice_get, sym, ap, arith}
use Rattle.std.proofs.lemmas.Option.{slice_get-get_or}
use Rattle.clone_network.specs.Connections.{Connection}
use Rattle.clone_network.proofs.KeptLemmas.{kept_set, steps_at, still_ended}
use Rattle.clone_network.proofs.network.Network.step_donor.Goals as goal

pub invariant_of-self : goal.invariant_of-self
invariant_of-self g c =
    let cs = c.self.inside.connections.items in
    let at = c.index_mut.result.now in
    let within : c.args.number < length cs = omega (arith, c.if-number-len.false, c.len.ensures, c.self.inside.connections.ok.0) in
    let here : slice_get cs c.args.number ≡ Some at = slice_get-get_or cs c.args.number at within ∙ ap (λ (x : Connection). Some x) (sym c.index_mut.ensures.value) in
    kept_set cs c.self.inside.seats.items c.self.inside.first_open c.args.number at c.step-answer.new.self here (still_ended _ _ _ at c.step-answer.new.self _ c.step-answer.ensures) c.self.invariant

pub returns : goal.returns
returns g c =
    let cs = c.self.inside.connections.items in
    let at = c.index_mut.result.now in
    let within : c.args.number < length cs = omega (arith, c.if-number-len.false, c.len.ensures, c.self.inside.connections.ok.0) in
    let here : slice_get cs c.args.number ≡ Some at = slice_get-get_or cs c.args.number at within ∙ ap (λ (x : Connection). Some x) (sym c.index_mut.ensures.value) in
    rw (← c.self.view_is) (steps_at _ _ _ _ _ _ at c.step-answer.new.self _ here c.step-answer.ensures c.pass_ended.ensures)
