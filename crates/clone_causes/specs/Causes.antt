-- Which failures a clone itself ends with.
use Rattle.std.specs.Prelude.{⊤}
use Rattle.clone_run.specs.declared.failure.Failure.{Failure}
use Rattle.clone_run.specs.declared.failure.Failure.TheVariants as failure

-- the clone ended with it, as its recipient tells
abbrev pub IsOfClone : Failure → Type 0
IsOfClone failure.RecipientDisk = ⊤
IsOfClone (failure.Garbled kept) = ⊤
IsOfClone (failure.Refused cause) = ⊤
IsOfClone (failure.Spent losses) = ⊤
IsOfClone other = ⊥
