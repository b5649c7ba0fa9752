use Rattle.std.proofs.Common.{◌≡◌, ◌≢◌, ◌<◌, ℕ, None}
use Rattle.std.specs.FinMap as finite
use Rattle.clone_page.specs.Dictionary.{entry_space}
use Rattle.clone_image.specs.Image.{Image}
use Rattle.clone_overlay.specs.Shown.{Shows}
use Rattle.clone_recover.proofs.dictionary.names_missing.Given as goal

-- no entry so far names a space that isn't there
abbrev pub invariant-loop-entry_number : goal.invariant-loop-entry_number
invariant-loop-entry_number l =
    (base image : Image) → Shows base image l.overlay → (k : ℕ) → k < l.entry_number → entry_space k l.system ≢ 0 → finite.get image (entry_space k l.system) ≡ None → ⊥
