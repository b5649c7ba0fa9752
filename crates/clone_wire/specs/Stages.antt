-- The numbers of the stages in which pages are copied.
use Rattle.std.specs.Prelude.{ℕ, ◌==◌, if◌then◌else◌}
use Rattle.clone_wire.specs.declared.stage.PageStage.{PageStage}
use Rattle.clone_wire.specs.declared.stage.PageStage.TheVariants as page

abbrev pub page_number : PageStage → ℕ
page_number page.FileCopy = 1
page_number page.PageCopy = 2

-- the stage of the number 1 or 2
abbrev pub page_numbered : ℕ → PageStage
page_numbered n = if n == 1 then page.FileCopy else page.PageCopy
