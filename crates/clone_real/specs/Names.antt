-- The names of the files that hold a disk's spaces.
use Rattle.std.specs.Prelude.{ℕ, List, ◌++◌, codes}
use Rattle.std.specs.Fmt.{decimal}

-- the name of the file of a space
abbrev pub file_name : ℕ → List ℕ
file_name space = codes "space_" ++ (decimal space ++ codes ".pages")
