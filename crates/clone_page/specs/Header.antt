-- The header and the trailer of a page. The offsets are those of InnoDB.
use Rattle.std.specs.Prelude.{ℕ, ◌≡◌, ◌≤◌, ◌+◌, ◌-◌, ◌⊎◌, List, ◌++◌, replicate}
use Rattle.byteorder.specs.Endian.{big_bytes}
use Rattle.clone_base.specs.declared.limits.TheConstants.{PAGE_SIZE}
use Rattle.clone_page.specs.declared.kind.PageKind.{PageKind}
use Rattle.clone_page.specs.declared.layout.TheConstants.{NUMBER_AT, PREVIOUS_AT, NEXT_AT, LSN_AT, KIND_AT, SPACE_AT, BODY_AT, TRAILER_AT, END_LSN_AT, CHECKSUM, NO_PAGE}
use Rattle.clone_page.specs.Bytes.{field, put_at}
use Rattle.clone_page.specs.Kinds.{kind_number}

abbrev pub zero_page : List ℕ
zero_page = replicate PAGE_SIZE 0

-- what stands in the place of a checksum, at the front and near the end
abbrev pub checksum : ℕ
checksum = CHECKSUM

-- there is no page before or behind
abbrev pub no_page : ℕ
no_page = NO_PAGE

abbrev pub number_of : List ℕ → ℕ
number_of page = field NUMBER_AT 4 page

abbrev pub next_of : List ℕ → ℕ
next_of page = field NEXT_AT 4 page

-- the end of the last mini-transaction that changed the page
abbrev pub lsn_of : List ℕ → ℕ
lsn_of page = field LSN_AT 8 page

abbrev pub kind_of : List ℕ → ℕ
kind_of page = field KIND_AT 2 page

abbrev pub space_of : List ℕ → ℕ
space_of page = field SPACE_AT 4 page

-- the page LSN in the header, and its low 32 bits at the end
abbrev pub with_lsn : ℕ → List ℕ → List ℕ
with_lsn lsn page = put_at END_LSN_AT (big_bytes 4 lsn) (put_at LSN_AT (big_bytes 8 lsn) page)

-- the 38 bytes of a header: checksum, number, previous, next, page LSN, kind, flush LSN, space
abbrev pub header : ℕ → ℕ → PageKind → ℕ → List ℕ
header space number kind lsn =
    big_bytes 4 checksum ++ big_bytes 4 number ++ big_bytes 4 no_page ++ big_bytes 4 no_page
    ++ big_bytes 8 lsn ++ big_bytes 2 (kind_number kind) ++ big_bytes 8 0 ++ big_bytes 4 space

-- the 8 bytes of a trailer
abbrev pub trailer : ℕ → List ℕ
trailer lsn = big_bytes 4 checksum ++ big_bytes 4 lsn

-- a page with a body of zero bytes
abbrev pub initialised : ℕ → ℕ → PageKind → ℕ → List ℕ
initialised space number kind lsn =
    header space number kind lsn ++ replicate (TRAILER_AT - BODY_AT) 0 ++ trailer lsn

-- The bytes that a write may name: the next field with the one before it, or the body. At least one
-- byte.
abbrev pub IsAllowed : ℕ → ℕ → Type 0
IsAllowed offset long =
    (1 ≤ long) × (((PREVIOUS_AT ≤ offset) × (offset + long ≤ LSN_AT))
    ⊎ ((BODY_AT ≤ offset) × (offset + long ≤ TRAILER_AT)))

-- a page that is this page of this space, of one of the kinds, with the constants and the trailer
-- of its LSN
pub record IsWellFormed (space number : ℕ) (page : List ℕ) : Type 0 where
  pub front : field 0 4 page ≡ checksum
  pub back : field TRAILER_AT 4 page ≡ checksum
  pub place : number_of page ≡ number
  pub owner : space_of page ≡ space
  pub kind_low : 1 ≤ kind_of page
  pub kind_high : kind_of page ≤ 4
  pub end : field END_LSN_AT 4 page ≡ field (LSN_AT + 4) 4 page
