-- Of which kind a disk, a net or an end is, and what is said of the one that is there.
use Rattle.clone_real.specs.declared.any_disk.AnyDisk.{AnyDisk}
use Rattle.clone_real.specs.declared.any_disk.AnyDisk.TheVariants as disk
use Rattle.clone_real.specs.declared.any_net.AnyEnd.{AnyEnd}
use Rattle.clone_real.specs.declared.any_net.AnyEnd.TheVariants as end
use Rattle.clone_real.specs.declared.any_net.AnyName.{AnyName}
use Rattle.clone_real.specs.declared.any_net.AnyName.TheVariants as name
use Rattle.clone_real.specs.declared.any_net.AnyNet.{AnyNet}
use Rattle.clone_real.specs.declared.any_net.AnyNet.TheVariants as net

-- what is said of the disk that is there, and so of an end and of a net
abbrev pub of_disk : {M F T : Type 0} → (M → T) → (F → T) → AnyDisk M F → T
of_disk memory real (disk.Memory d) = memory d
of_disk memory real (disk.Real d) = real d

abbrev pub of_end : {M S T : Type 0} → (M → T) → (S → T) → AnyEnd M S → T
of_end memory real (end.Memory e) = memory e
of_end memory real (end.Real e) = real e

abbrev pub of_net : {M S T : Type 0} → (M → T) → (S → T) → AnyNet M S → T
of_net memory real (net.Memory n) = memory n
of_net memory real (net.Real n) = real n

-- the name of the connection of the end that is there
abbrev pub end_name : {M S N P : Type 0} → (M → N) → (S → P) → AnyEnd M S → AnyName N P
end_name memory real (end.Memory e) = name.Memory (memory e)
end_name memory real (end.Real e) = name.Real (real e)

-- the net that is there made the connection, which is of its kind
abbrev pub IsMade : {M S N P : Type 0} → (M → N → Type 0) → (S → P → Type 0) → AnyNet M S
    → AnyName N P → Type 0
IsMade memory real (net.Memory n) (name.Memory x) = memory n x
IsMade memory real (net.Memory n) (name.Real x) = ⊥
IsMade memory real (net.Real n) (name.Memory x) = ⊥
IsMade memory real (net.Real n) (name.Real x) = real n x
