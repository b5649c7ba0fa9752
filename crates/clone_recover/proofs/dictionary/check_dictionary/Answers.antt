use Rattle.std.proofs.Common.{refl, sym}
use Rattle.clone_overlay.specs.Images.{image_of}
use Rattle.clone_recover.specs.Damage.{IsAgainst}
use Rattle.clone_recover.specs.declared.refusal.Why.TheVariants as why
use Rattle.clone_recover.specs.declared.refusal.RecoverRefusal.TheVariants.{Damaged}
use Rattle.clone_recover.proofs.OverlayReadLemmas.{for_shown}
use Rattle.clone_recover.proofs.dictionary.check_dictionary.Goals as goal

pub returns-in-Some-clause-cause : goal.returns-in-Some-clause-cause
returns-in-Some-clause-cause g c =
    for_shown (g.R.PageDisk.state c.args.disk.now).told c.args.overlay.now c.fetch.new.overlay (λ m image. IsAgainst m image (Damaged 0 0 why.Dictionary)) c.in_ok-fetch.ensures.shows
    (λ m image shows. (refl, refl, record { system = c.in-Some.system.now; there = sym (c.in-Some.ensures (image_of m) image shows); names = c.names_missing.ensures.yes c.if-names_missing.true (image_of m) image shows }))
