use Rattle.std.proofs.Common.{◌≡◌, ◌∙◌, ap, Err}
use Rattle.clone_recipient.specs.declared.refusal.TakeRefusal.{TakeRefusal}
use Rattle.clone_recipient.specs.declared.refusal.TakeRefusal.TheVariants.{Unexpected}
use Rattle.clone_wire.specs.declared.frame.Frame.{Frame}
use Rattle.clone_fetch.specs.Fetching.{rejects}
use Rattle.clone_fetch.proofs.receiving.take.Goals as goal

pub returns-in-Ok-encode-clause-takes : goal.returns-in-Ok-encode-clause-takes
returns-in-Ok-encode-clause-takes g c =
    let is : c.take.result ≡ Err (Unexpected c.in-Err-Unexpected.frame) = c.in-Err-Unexpected.is ∙ ap (λ (e : TakeRefusal). Err e) c.in-Err-Unexpected.field-0-is in
    let same : c.in-Err-Unexpected.frame ≡ c.args.frame = c.take.ensures.frame c.in-Err-Unexpected.frame is in
    let fails = c.take.ensures.unexpected.0 (is ∙ ap (λ (f : Frame). Err (Unexpected f)) same) in
    let unchanged = c.take.ensures.unchanged fails in
    rejects fails (rw (c.deref.ensures.value, c.in-Ok-encode.ensures.text, c.in-Err-Unexpected.frame-is, same, unchanged.0) at c.break_off.ensures) unchanged.1
