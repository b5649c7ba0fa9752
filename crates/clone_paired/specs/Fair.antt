-- HOW A CLONE MAY END where both sides say what they should.
use Rattle.clone_tasks.specs.declared.end.CloneEnd.{CloneEnd}
use Rattle.clone_tasks.specs.declared.end.CloneEnd.TheVariants as end

-- not since what the donor sent was garbled, nor since the donor refused
abbrev pub EndsFairly : CloneEnd → Type 0
EndsFairly (end.Garbled kept) = ⊥
EndsFairly (end.Refused cause) = ⊥
EndsFairly other = Unit {0}
