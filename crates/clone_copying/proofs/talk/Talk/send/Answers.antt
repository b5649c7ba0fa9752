use Rattle.std.proofs.Common.{◌∙◌, refl, sym, arith}
use Rattle.std.proofs.lemmas.Bool.{false≢true}
use Rattle.std.proofs.lemmas.List.{nil_from_length}
use Rattle.clone_copying.proofs.TalkLemmas.{send_rose, sends_none, sends_on}
use Rattle.clone_copying.proofs.talk.Talk.send.Goals as goal
use Rattle.clone_copying.proofs.talk.Talk.send.Goals.{then-self-via-then-self, then-self-via-else-self+then-is_empty}

pub returns-then-self-clause-goes : goal.returns-then-self-clause-goes
returns-then-self-clause-goes g c = elim c.then-self.branch [
  | then-self-via-then-self w ↦ sends_none g.L.Link c.args.self.now c.args.bytes.now (λ sound. absurd (false≢true (sym sound ∙ w.if-self.true)))
  | then-self-via-else-self+then-is_empty w ↦ sends_none g.L.Link c.args.self.now c.args.bytes.now (λ sound. nil_from_length c.args.bytes.now (grind (arith, w.is_empty.ensures, w.if-is_empty.true)))
]

pub returns-in-Ok-clause-goes : goal.returns-in-Ok-clause-goes
returns-in-Ok-clause-goes g c =
    let after = c.send.ensures in
    sends_on g.L.Link c.args.self.now _ c.if-self.false (record { name = after.name; side = after.side; opened = after.open; later = after.count }) c.args.bytes.now
    after.some after.received refl (λ on. c.in-Ok.ensures.all) (λ lost. absurd (false≢true (sym c.if-self.false ∙ lost)))

pub returns-in-Err-Lost-clause-goes : goal.returns-in-Err-Lost-clause-goes
returns-in-Err-Lost-clause-goes g c =
    let after = c.send.ensures in
    sends_on g.L.Link c.args.self.now _ c.if-self.false (record { name = after.name; side = after.side; opened = after.open; later = after.count }) c.args.bytes.now
    after.some after.received refl (λ on. absurd (false≢true (sym on))) (λ lost. send_rose _ _ c.send.result c.in-Err-Lost.field-0 c.in-Err-Lost.is c.in-Err-Lost.field-0-is after.cause)
