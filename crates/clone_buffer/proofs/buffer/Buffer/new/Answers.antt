use Rattle.std.proofs.Common.{ap, subst, sym, IsTrue, refl}
use Rattle.clone_buffer.proofs.Common.{State}
use Rattle.clone_buffer.proofs.LawLemmas.{new_stands}
use Rattle.clone_buffer.proofs.buffer.Buffer.new.Goals as goal

pub returns-clause-stands : goal.returns-clause-stands
returns-clause-stands c =
    new_stands _ c.args.frames (ap (λ (s : State). s.log) c.new-3.ensures) (subst (λ (s : State). IsTrue s.right) (sym c.new-3.ensures) refl) c.in_ok-new.ensures
