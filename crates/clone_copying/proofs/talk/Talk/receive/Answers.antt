use Rattle.std.proofs.Common.{◌∙◌, [], Ok, Err, ap, refl, sym, take}
use Rattle.std.proofs.lemmas.List.{append-nil}
use Rattle.std.proofs.lemmas.Bool.{false≢true}
use Rattle.clone_outside.specs.declared.link.LinkRefusal.TheVariants as refused
use Rattle.clone_copying.proofs.PassingLemmas.{appended_none}
use Rattle.clone_copying.proofs.TalkLemmas.{loss_rose, receive_rose, received_bytes, received_error, received_lost, received_nothing, receives_on, sends_none}
use Rattle.clone_copying.proofs.talk.Talk.receive.Goals as goal

pub returns-then-self-clause-goes : goal.returns-then-self-clause-goes
returns-then-self-clause-goes g c = sends_none g.L.Link c.args.self.now [] (λ sound. refl)

pub returns-in_ok-extend_from_slice-in-Ok-Bytes-clause-goes : goal.returns-in_ok-extend_from_slice-in-Ok-Bytes-clause-goes
returns-in_ok-extend_from_slice-in-Ok-Bytes-clause-goes g c =
    let after = c.receive.ensures in
    let arm = c.in-Ok-Bytes in
    receives_on g.L.Link c.args.self.now _ c.if-self.false (record { name = after.name; side = after.side; opened = after.open; later = after.count }) (take arm.count c.receive.new.into)
    (received_bytes _ _ c.receive.result arm.field-0 arm.count c.receive.new.into arm.is arm.field-0-is after.bytes) after.sent c.in_ok-extend_from_slice-in-Ok-Bytes.ensures.items
    (λ lost. absurd (false≢true (sym c.if-self.false ∙ lost)))

pub returns-in-Ok-Nothing-clause-goes : goal.returns-in-Ok-Nothing-clause-goes
returns-in-Ok-Nothing-clause-goes g c =
    let after = c.receive.ensures in
    let received = received_nothing _ _ c.receive.result c.in-Ok-Nothing.field-0 c.receive.new.into c.in-Ok-Nothing.is c.in-Ok-Nothing.field-0-is after.bytes in
    receives_on g.L.Link c.args.self.now _ c.if-self.false (record { name = after.name; side = after.side; opened = after.open; later = after.count }) []
    (received ∙ sym (appended_none (g.L.Link.received c.args.self.now.end))) after.sent (sym (append-nil c.args.self.now.left.items)) (λ lost. absurd (false≢true (sym c.if-self.false ∙ lost)))

pub returns-in-Ok-Lost-clause-goes : goal.returns-in-Ok-Lost-clause-goes
returns-in-Ok-Lost-clause-goes g c =
    let after = c.receive.ensures in
    let is = c.in-Ok-Lost.is ∙ ap Ok c.in-Ok-Lost.field-0-is in
    receives_on g.L.Link c.args.self.now _ c.if-self.false (record { name = after.name; side = after.side; opened = after.open; later = after.count }) []
    (received_lost _ _ c.receive.result c.receive.new.into is after.bytes ∙ sym (appended_none (g.L.Link.received c.args.self.now.end))) after.sent (sym (append-nil c.args.self.now.left.items))
    (λ lost. loss_rose _ _ c.receive.result is after.cause)

pub returns-in-Err-Lost-clause-goes : goal.returns-in-Err-Lost-clause-goes
returns-in-Err-Lost-clause-goes g c =
    let after = c.receive.ensures in
    let is = c.in-Err-Lost.is ∙ ap Err c.in-Err-Lost.field-0-is in
    receives_on g.L.Link c.args.self.now _ c.if-self.false (record { name = after.name; side = after.side; opened = after.open; later = after.count }) []
    (received_error _ _ c.receive.result c.receive.new.into refused.Lost is after.bytes ∙ sym (appended_none (g.L.Link.received c.args.self.now.end))) after.sent (sym (append-nil c.args.self.now.left.items))
    (λ lost. receive_rose _ _ c.receive.result is after.cause)
