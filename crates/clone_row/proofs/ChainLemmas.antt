-- The page behind a page, after a write and on pages that are made.
use Rattle.std.proofs.Common.{◌≡◌, ◌==◌, ◌++◌, ℕ, Bool, true, false, List, Option, Some, None, cond, replicate, arith, refl, ap, ◌∙◌}
use Rattle.std.proofs.lemmas.List.{length-append}
use Rattle.clone_page.specs.declared.kind.PageKind.{PageKind}
use Rattle.clone_page.specs.Header.{kind_of, next_of, no_page, header, trailer, initialised}
use Rattle.clone_page.proofs.Parts.{part-append_left, field-same}
use Rattle.clone_row.specs.Chains.{behind}
use Rattle.clone_row.specs.Writes.{SameHeader}

-- what the kind and the next field of a page say of the page behind it
abbrev follower : ℕ → ℕ → Option ℕ
follower kind next = cond (kind == 0) None (cond (next == no_page) None (Some next))

pub behind-same : (before after : List ℕ) → SameHeader before after → behind after ≡ behind before
behind-same before after same =
    ap (λ kind. follower kind (next_of after)) same.kind ∙ ap (follower (kind_of before)) same.next

next-made : (space number lsn : ℕ) (kind : PageKind) → next_of (initialised space number kind lsn) ≡ no_page
next-made space number lsn kind =
    let whole = length-append (header space number kind lsn) (replicate 4050 0) in
    field-same 12 4 (initialised space number kind lsn) (header space number kind lsn)
    (part-append_left 12 4 (header space number kind lsn ++ replicate 4050 0) (trailer lsn) (omega arith) ∙ part-append_left 12 4 (header space number kind lsn) (replicate 4050 0) (omega arith))

pub behind-made : (space number lsn : ℕ) (kind : PageKind) → behind (initialised space number kind lsn) ≡ None
behind-made space number lsn kind =
    ap (follower (kind_of (initialised space number kind lsn))) (next-made space number lsn kind) ∙ last (kind_of (initialised space number kind lsn) == 0)
  where
    -- whatever its kind, a page whose next field names no page is the last
    last : (unused : Bool) → cond {A = Option ℕ} unused None None ≡ None
    last true = refl
    last false = refl
