-- Items, each a record or the end mark, as formats: how they are read from left to right.
use Rattle.std.specs.Prelude.{ℕ, ◌≡◌, ◌≤◌, ◌+◌, ◌-◌, max, min, Bool, List, [], ◌∷◌, ◌++◌, length}
use Rattle.std.specs.Prelude.{drop, if◌then◌else◌, nat_lt, nat_le, ◌==◌, ◌&&◌, ◌||◌, None, Some}
use Rattle.std.specs.Prelude.{Ok, Err, Result}
use Rattle.std.specs.declared.option.Option.{Option}
use Rattle.byteorder.specs.Endian.{big_bytes}
use Rattle.clone_bytes.specs.Formats.{Format, Judge, number, run, code, two, nothing, led, followed}
use Rattle.clone_bytes.specs.Formats.{◌&◌, made, choose, Refusals}
use Rattle.clone_page.specs.declared.layout.TheConstants.{PREVIOUS_AT, LSN_AT, BODY_AT, TRAILER_AT}
use Rattle.clone_page.specs.declared.kind.PageKind.{PageKind}
use Rattle.clone_page.specs.declared.kind.PageKind.TheVariants.{System, Undo, Bucket, Overflow}
use Rattle.clone_page.specs.Header.{IsAllowed}
use Rattle.clone_page.specs.Kinds.{kind_number}
use Rattle.clone_mtr.specs.Patches.{Patched}
use Rattle.clone_mtr.specs.Spelling.{record_spelling}
use Rattle.clone_mtr.specs.declared.record.Record.{Record}
use Rattle.clone_mtr.specs.declared.record.Record.TheVariants.{Init, Write, Extend, Create, Drop}
use Rattle.clone_mtr.specs.declared.fields.Sought.{Sought}
use Rattle.clone_mtr.specs.declared.fields.Sought.TheVariants.{Kind, Offset, Length}
use Rattle.clone_mtr.specs.declared.refusal.DecodeRefusal.{DecodeRefusal}
use Rattle.clone_mtr.specs.declared.refusal.DecodeRefusal.TheVariants.{Short, BadKind, OutOfPage}
use Rattle.clone_mtr.specs.declared.refusal.DecodeRefusal.TheVariants.{TooLong}
use Rattle.clone_mtr.specs.declared.writing.TheConstants.{LONGEST_MTR}

-- what a function returned, seen by view, is what reading gives
abbrev pub Gives : {X Y : Type 0} → (X → Y) → Result X DecodeRefusal → Result Y DecodeRefusal
    → Type 0
Gives view (Ok x) read = read ≡ Ok (view x)
Gives view (Err e) read = read ≡ Err e

-- the byte that a refusal names
abbrev pub place : DecodeRefusal → ℕ
place (BadKind at) = at
place (OutOfPage at) = at
place Short = 0
place TooLong = 0

abbrev pub refusals : Refusals DecodeRefusal
refusals = record { short = Short; place = place }

-- ---- numbers of two bytes

-- whether a write may name so many bytes from an offset on
abbrev pub allows : ℕ → ℕ → Bool
allows offset long =
    nat_le 1 long && ((nat_le PREVIOUS_AT offset && nat_le (offset + long) LSN_AT)
    || (nat_le BODY_AT offset && nat_le (offset + long) TRAILER_AT))

-- whether a write may begin at one of these offsets
abbrev pub begins : ℕ → ℕ → Bool
begins least most =
    (nat_le PREVIOUS_AT most && nat_lt least LSN_AT)
    || (nat_le BODY_AT most && nat_lt least TRAILER_AT)

-- A write whose offset stands at this byte may have so many bytes: they lie where a write may, and
-- there is room for an end mark after them.
abbrev pub fits : ℕ → ℕ → ℕ → Result (Unit {0}) DecodeRefusal
fits at offset long =
    if allows offset long
    then (if nat_lt (LONGEST_MTR - 1) (at + (4 + long)) then Err TooLong else Ok tt)
    else Err (OutOfPage at)

-- which numbers are sought: a kind of page, the offset of a write, or the length of one
abbrev pub IsSought : ℕ → Sought → ℕ → Type 0
IsSought at Kind n = (1 ≤ n) × (n ≤ 4)
IsSought at Offset n = IsAllowed n 1
IsSought at (Length offset) n = IsAllowed offset n × (at + (4 + n) ≤ LONGEST_MTR - 1)

-- Whether one of the numbers from the least to the most is sought. A kind stands at this byte; so
-- does the offset of a write. The first length above 0 decides.
abbrev pub judge_of : ℕ → Sought → Judge DecodeRefusal
judge_of at Kind least most = if nat_le least 4 && nat_le 1 most then Ok tt else Err (BadKind at)
judge_of at Offset least most = if begins least most then Ok tt else Err (OutOfPage at)
judge_of at (Length offset) least most = fits at offset (max least (min 1 most))

abbrev pub sought : ℕ → Sought → Format DecodeRefusal ℕ
sought at what = two Short (IsSought at what) (judge_of at what)

-- the kind of a number from 1 to 4
abbrev pub kind_numbered : ℕ → PageKind
kind_numbered n =
    if n == 1 then System else (if n == 2 then Undo else (if n == 3 then Bucket else Overflow))

-- ---- items

-- the kind of a page, a number that stands at this byte
abbrev pub kind : ℕ → Format DecodeRefusal PageKind
kind at = made (λ k. big_bytes 2 (kind_number k)) kind_numbered (sought at Kind)

-- the offset, the length and the bytes of a patch
abbrev pub patch_text : Patched → List ℕ
patch_text patch = big_bytes 2 patch.offset ++ (big_bytes 2 (length patch.bytes) ++ patch.bytes)

abbrev pub patched : ℕ × (ℕ × List ℕ) → Patched
patched x = record { offset = x.0; bytes = x.1.1 }

-- a patch, whose offset stands at this byte
abbrev pub patch : ℕ → Format DecodeRefusal Patched
patch at =
    made patch_text patched (followed (sought at Offset) (λ offset.
    followed (sought at (Length offset)) (λ long. run Short long)))

-- an item begins with a code, 1 to 5 of a record and 6 of the end mark
abbrev pub item_code : Option Record → ℕ
item_code (Some (Init space page kind)) = 1
item_code (Some (Write space page patch)) = 2
item_code (Some (Extend space pages)) = 3
item_code (Some (Create space pages)) = 4
item_code (Some (Drop space)) = 5
item_code None = 6

abbrev pub item_text : Option Record → List ℕ
item_text (Some r) = record_spelling r
item_text None = 6 ∷ []

-- a record of so many bytes or more at this offset has to leave room for an end mark
abbrev pub room : ℕ → ℕ → Result (Unit {0}) DecodeRefusal
room at least = if nat_lt (LONGEST_MTR - 1) (at + least) then Err TooLong else Ok tt

-- whether an item may stand at this offset with this code
abbrev pub code_judge : ℕ → ℕ → Result (Unit {0}) DecodeRefusal
code_judge at n =
    if n == 1 then room at 11
    else (if n == 2 then room at 14
    else (if n == 3 then room at 9
    else (if n == 4 then room at 9
    else (if n == 5 then room at 5
    else (if n == 6 then Ok tt else Err (BadKind at))))))

-- what follows a code
abbrev pub fields : ℕ → ℕ → Format DecodeRefusal (Option Record)
fields at n =
    let word : Format DecodeRefusal ℕ = number Short 4 in
    let rest : Option Record → List ℕ = λ x. drop 1 (item_text x) in
    choose (n == 1) (made rest (λ x. Some (Init x.0 x.1.0 x.1.1)) (word & word & kind (at + 9)))
    (choose (n == 2) (made rest (λ x. Some (Write x.0 x.1.0 x.1.1)) (word & word & patch (at + 9)))
    (choose (n == 3) (made rest (λ x. Some (Extend x.0 x.1)) (word & word))
    (choose (n == 4) (made rest (λ x. Some (Create x.0 x.1)) (word & word))
    (choose (n == 5) (made rest (λ x. Some (Drop x)) word) (nothing None)))))

-- the item at the front, which begins at this offset
abbrev pub item : ℕ → Format DecodeRefusal (Option Record)
item at = led (code Short (code_judge at)) (fields at) item_code

-- the item's record, or none where the end mark stands
unfoldable pub item_at : ℕ → List ℕ → Result (Option Record × List ℕ) DecodeRefusal
item_at at = (item at).read
