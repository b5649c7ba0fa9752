-- The kinds of pages, by their numbers. A page of zero bytes has the kind 0: it is unused.
use Rattle.std.specs.Prelude.{ℕ}
use Rattle.clone_page.specs.declared.kind.PageKind.{PageKind}
use Rattle.clone_page.specs.declared.kind.PageKind.TheVariants.{System, Undo, Bucket, Overflow}

abbrev pub kind_number : PageKind → ℕ
kind_number System = 1
kind_number Undo = 2
kind_number Bucket = 3
kind_number Overflow = 4
