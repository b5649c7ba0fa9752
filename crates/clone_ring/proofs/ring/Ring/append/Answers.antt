use Rattle.std.proofs.Common.{◌≡◌, ◌≤◌, ◌+◌, ◌-◌, ◌∙◌, ap, sym, subst, arith, List, ℕ, ◌++◌, length, take, drop}
use Rattle.std.proofs.Common.{append_assoc, length-append, length-take}
use Rattle.std.proofs.lemmas.List.{take-take}
use Rattle.std.proofs.Math.Seq.{take-add}
use Rattle.clone_ring.specs.Window.{Window, appended, free_in}
use Rattle.clone_ring.proofs.ring.Ring.append.Goals as goal

pub loop-done-preserved : goal.loop-done-preserved
loop-done-preserved c =
    let old = c.args.self.now in
    let bytes = c.args.bytes.now in
    let done = c.loop-done.done in
    let count = c.append_piece-done.result in
    let rule = c.loop-done.invariant in
    let left = length bytes - done in
    let few : count ≤ left = omega (arith, c.append_piece-done.ensures.within, length-take left (drop done bytes)) in
    let piece = take count (drop done bytes) in
    let joined : (old.bytes ++ take done bytes) ++ piece ≡ old.bytes ++ take (done + count) bytes =
    append_assoc old.bytes (take done bytes) piece ∙ ap (λ ys. old.bytes ++ ys) (sym (take-add done count bytes)) in
    let now : c.append_piece-done.new.self ≡ appended (take (done + count) bytes) old =
    c.append_piece-done.ensures.appended
    ∙ (ap (λ ys. appended ys c.loop-done.self) (take-take count left (drop done bytes) few)
    ∙ (ap (appended piece) rule.appended ∙ ap (λ (ys : List ℕ). record { floor = old.floor; bytes = ys; size = old.size }) joined)) in
    record {
      within = omega (arith, few, rule.within);
      free = subst (λ (w : Window). length bytes - (done + count) ≤ free_in w) (sym now)
          (omega (arith, few, rule.within, c.if-free-need.false, c.free-free.ensures.value, length-append old.bytes (take (done + count) bytes), length-take (done + count) bytes));
      appended = now;
    }
