-- The fields of each frame from left to right, as formats. Reading gives a value and the bytes
-- after it, or stops where the bytes end, or at the first field whose bytes begin nothing that may
-- stand there.
use Rattle.std.specs.Prelude.{ℕ, zero, suc, ◌≡◌, ◌+◌, ◌-◌, ◌*◌, ◌/◌, min, max, nat_le, ◌==◌, ⊤}
use Rattle.std.specs.Prelude.{Bool, true, false, not, if◌then◌else◌, List, [], ◌∷◌, length}
use Rattle.std.specs.Prelude.{Ok, Err, Result}
use Rattle.std.specs.List.{flat_map}
use Rattle.byteorder.specs.Endian.{big_bytes}
use Rattle.clone_bytes.specs.Formats.{Format, ◌>>=◌, Judge, Refusals, number, run, judged_at}
use Rattle.clone_bytes.specs.Formats.{nothing, led, followed, ◌&◌, seen, made, tested, choose, list}
use Rattle.clone_wire.specs.declared.frame.Attempt.{Attempt}
use Rattle.clone_wire.specs.declared.frame.Side.{Side}
use Rattle.clone_wire.specs.declared.frame.Frame.{Frame}
use Rattle.clone_wire.specs.declared.frame.Frame.TheVariants.{Init, Attach, Reinit, Reinit2}
use Rattle.clone_wire.specs.declared.frame.Frame.TheVariants.{Execute, Ack, Exit, Stage, Pages}
use Rattle.clone_wire.specs.declared.frame.Frame.TheVariants.{Redo, End, Refused}
use Rattle.clone_chunk.specs.declared.copy_stage.CopyStage.{CopyStage}
use Rattle.clone_wire.specs.declared.stage.PageStage.{PageStage}
use Rattle.clone_chunk.specs.declared.plan.StagePlan.{StagePlan}
use Rattle.clone_chunk.specs.declared.plan.StagePlan.TheVariants as plan
use Rattle.clone_chunk.specs.declared.cause.CloneCause.{CloneCause}
use Rattle.clone_chunk.specs.declared.spaces.SpaceSize.{SpaceSize}
use Rattle.clone_page.specs.declared.pages.PageAt.{PageAt}
use Rattle.clone_chunk.specs.declared.partials.PartialChunk.{PartialChunk}
use Rattle.clone_chunk.specs.declared.partials.TheConstants.{MOST_MASK}
use Rattle.clone_wire.specs.declared.fault.Fault.{Fault}
use Rattle.clone_wire.specs.declared.fault.Fault.TheVariants.{Short, Garbled, NoMemory}
use Rattle.clone_wire.specs.declared.numbers.Numbers.{Numbers}
use Rattle.clone_base.specs.declared.limits.TheConstants.{PAGE_SIZE}
use Rattle.clone_wire.specs.declared.limits.TheConstants.{SPACE_BYTES, PAGE_AT_BYTES}
use Rattle.clone_wire.specs.declared.limits.TheConstants.{REINIT_FIELDS, REINIT2_FIELDS}
use Rattle.clone_wire.specs.declared.limits.TheConstants.{STAGE_FIELDS, PAGES_FIELDS, REDO_FIELDS}
use Rattle.clone_wire.specs.declared.limits.TheConstants.{PARTIAL_BYTES}
use Rattle.clone_wire.specs.Choices.{between, only, bitmap_sizes, any_if, has_between}
use Rattle.clone_chunk.specs.Bitmaps.{Bits, ends_at}
use Rattle.clone_chunk.specs.Chunks.{has_bit}
use Rattle.clone_chunk.specs.Partials.{Taken}
use Rattle.clone_chunk.specs.Stages.{copy_number, copy_numbered}
use Rattle.clone_wire.specs.Stages.{page_number, page_numbered}
use Rattle.clone_chunk.specs.Causes.{cause_numbered}
use Rattle.clone_wire.specs.Frames.{IsOneOf, codes, lengths}
use Rattle.clone_wire.specs.Ranges.{IsAttempt, IsSpace, IsPageAt, IsNext, IsNextPartial, AreListed}
use Rattle.clone_wire.specs.Spelling.{flag, attempt_bytes, space_bytes, page_bytes, plan_bytes}
use Rattle.clone_wire.specs.Spelling.{partial_bytes, taken_bytes, cause_bytes, code_of, payload}

-- what a function returned, seen by view, is what reading gives, unless memory ran out
abbrev pub Fails : {Y : Type 0} → Fault → Result Y Fault → Type 0
Fails Short read = read ≡ Err Short
Fails (Garbled at) read = read ≡ Err (Garbled at)
Fails NoMemory read = ⊤

abbrev pub Gives : {X Y : Type 0} → (X → Y) → Result X Fault → Result Y Fault → Type 0
Gives view (Ok x) read = read ≡ Ok (view x)
Gives view (Err e) read = Fails e read

-- the byte that a fault names
abbrev pub place : Fault → ℕ
place (Garbled at) = at
place Short = 0
place NoMemory = 0

abbrev pub refusals : Refusals Fault
refusals = record { short = Short; place = place }

-- ---- fields

abbrev pub word : ℕ → Format Fault ℕ
word n = number Short n

-- A test says whether a wanted number lies from the least to the most. The field begins at an
-- offset.
abbrev pub judge_by : ℕ → (ℕ → ℕ → Bool) → Judge Fault
judge_by at has least most = if has least most then Ok tt else Err (Garbled at)

-- reading a wanted number of so many bytes
unfoldable pub wanted_at : ℕ → (ℕ → ℕ → Bool) → ℕ → List ℕ → Result (ℕ × List ℕ) Fault
wanted_at at has width = judged_at Short (judge_by at has) 0 width

-- a wanted number of so many bytes
abbrev pub wanted_in : ℕ → ℕ → (ℕ → Type 0) → (ℕ → ℕ → Bool) → Format Fault ℕ
wanted_in at width Wanted has =
    record { Has = Wanted; text = big_bytes width; read = wanted_at at has width }

-- one of these numbers
unfoldable pub one_in : ℕ → ℕ → Numbers → List ℕ → Result (ℕ × List ℕ) Fault
one_in at width numbers = wanted_at at (has_between numbers) width

abbrev pub number_in : ℕ → ℕ → Numbers → Format Fault ℕ
number_in at width numbers =
    record { Has = IsOneOf numbers; text = big_bytes width; read = one_in at width numbers }

-- how many bytes the bits of so many chunks fill
abbrev pub bytes_for : ℕ → ℕ
bytes_for count = (count + 7) / 8

-- a number of chunks whose bitmap has one of these numbers of bytes
abbrev pub count_in : ℕ → Numbers → Format Fault ℕ
count_in at sizes =
    wanted_in at 4 (λ count. IsOneOf sizes (bytes_for count))
    (λ low high. has_between sizes (bytes_for low) (bytes_for high))

-- whether one of so many chunks, from this one on, has no bit set
unfoldable pub any_unset : List ℕ → ℕ → ℕ → Bool
any_unset bitmap chunk zero = false
any_unset bitmap chunk (suc n) =
    if has_bit bitmap chunk then any_unset bitmap (chunk + 1) n else true

-- whether a chunk that may be listed next lies from the least to the most
abbrev pub has_next : List ℕ → ℕ → ℕ → ℕ → ℕ → Bool
has_next bitmap from more least most =
    let first = max from least in
    any_unset bitmap first (min most (0xFFFFFFFF - more) + 1 - first)

abbrev pub chunk_in : ℕ → List ℕ → ℕ → ℕ → Format Fault ℕ
chunk_in at bitmap from more = wanted_in at 4 (IsNext bitmap from more) (has_next bitmap from more)

-- a bitmap for so many chunks, which has so many bytes and begins at this offset
abbrev pub bitmap : ℕ → ℕ → ℕ → Format Fault Bits
bitmap at count n =
    made (λ bits. bits.bytes) (λ bytes. record { count = count; bytes = bytes })
    (tested (ends_at count) (Garbled at) (run Short n))

-- a flag, and the stages, by their numbers
abbrev pub flag_in : ℕ → Format Fault Bool
flag_in at = made (λ set. big_bytes 1 (flag set)) (λ n. n == 1) (number_in at 1 (between 0 1))

abbrev pub copy_in : ℕ → Format Fault CopyStage
copy_in at =
    made (λ stage. big_bytes 1 (copy_number stage)) copy_numbered (number_in at 1 (between 1 3))

abbrev pub pages_in : ℕ → Format Fault PageStage
pages_in at =
    made (λ stage. big_bytes 1 (page_number stage)) page_numbered (number_in at 1 (between 1 2))

-- ---- parts

-- session and incarnation
abbrev pub attempt : Format Fault Attempt
attempt =
    seen IsAttempt attempt_bytes (λ x. record { session = x.0; incarnation = x.1 })
    (word 8 & word 4)

-- a space and its pages
abbrev pub space : Format Fault SpaceSize
space =
    seen IsSpace space_bytes (λ x. record { space = x.0; pages = x.1 }) (word 4 & word 4)

-- a page and where it belongs
abbrev pub page : Format Fault PageAt
page =
    seen IsPageAt page_bytes (λ x. record { space = x.0; number = x.1.0; page = x.1.1 })
    (word 4 & word 4 & run Short PAGE_SIZE)

-- a partial chunk that may be listed next
abbrev pub partial_in : ℕ → List ℕ → ℕ → ℕ → Format Fault PartialChunk
partial_in at bitmap from more =
    seen (IsNextPartial bitmap from more) partial_bytes (λ x. record { chunk = x.0; mask = x.1 })
    (chunk_in at bitmap from more & number_in (at + 4) 1 (between 1 MOST_MASK))

-- so many partial chunks, one after the other, from this one on
abbrev pub partials_at : ℕ → List ℕ → ℕ → ℕ → List ℕ → Result (List PartialChunk × List ℕ) Fault
partials_at at bitmap from zero bytes = Ok ([], bytes)
partials_at at bitmap from (suc n) bytes =
    (partial_in at bitmap from n).read bytes >>= λ first.
    partials_at (at + PARTIAL_BYTES) bitmap (first.0.chunk + 1) n first.1 >>= λ more.
    Ok (first.0 ∷ more.0, more.1)

abbrev pub partials : ℕ → List ℕ → ℕ → ℕ → Format Fault (List PartialChunk)
partials at bitmap from n = record {
  Has = λ xs. (length xs ≡ n) × AreListed bitmap from xs;
  text = flat_map partial_bytes;
  read = partials_at at bitmap from n;
}

-- their number, and they
abbrev pub listed : ℕ → List ℕ → ℕ → Format Fault (ℕ × List PartialChunk)
listed at bitmap n = number_in at 4 (only n) & partials (at + 4) bitmap 0 n

-- a bitmap and partial chunks, which have so many bytes together
abbrev pub taken_in : ℕ → Format Fault Taken
taken_in long =
    made taken_bytes (λ x. record { finished = x.1.0; partials = x.1.1.1 })
    (followed (count_in 18 (bitmap_sizes long)) (λ count.
    followed (bitmap 22 count (bytes_for count)) (λ bits.
    listed (22 + bytes_for count) bits.bytes ((long - bytes_for count) / PARTIAL_BYTES))))

-- what the fields of a stage say
abbrev pub planned : ℕ → ℕ → ℕ → ℕ → ℕ → List SpaceSize → StagePlan
planned stage chunks checkpoint lsn position spaces =
    if stage == 1 then plan.FileCopy chunks spaces
    else (if stage == 2 then plan.PageCopy chunks position spaces
    else (if stage == 3 then plan.RedoCopy chunks checkpoint lsn position
    else plan.Done checkpoint lsn position))

-- Chunks are 0 in stage 4, checkpoint and LSN in stages 1 and 2, and the position in stage 1.
-- Spaces, so many, are listed in stages 1 and 2 alone.
abbrev pub plan_fields : ℕ → ℕ → Format Fault (ℕ × (ℕ × (ℕ × (ℕ × (ℕ × List SpaceSize)))))
plan_fields n stage =
    number_in 18 4 (any_if (not (stage == 4)) 0xFFFFFFFF)
    & number_in 22 8 (any_if (nat_le 3 stage) 0xFFFFFFFFFFFFFFFF)
    & number_in 30 8 (any_if (nat_le 3 stage) 0xFFFFFFFFFFFFFFFF)
    & number_in 38 8 (any_if (nat_le 2 stage) 0xFFFFFFFFFFFFFFFF)
    & number_in 46 2 (only n) & list space n

abbrev pub stage_plan : ℕ → Format Fault StagePlan
stage_plan n =
    made plan_bytes (λ x. planned x.0 x.1.0 x.1.1.0 x.1.1.1.0 x.1.1.1.1.0 x.1.1.1.1.1.1)
    (followed (number_in 17 1 (between 1 (if n == 0 then 4 else 2))) (plan_fields n))

-- how many values the cause of a number from 1 to 12 has
abbrev pub value_count : ℕ → ℕ
value_count n =
    if n == 4 then 0 else (if n == 6 then 0 else (if n == 11 then 0
    else (if n == 8 then 2 else (if n == 10 then 2 else (if n == 12 then 2 else 1)))))

-- the values that the cause of a refusal doesn't have are 0
abbrev pub cause : Format Fault CloneCause
cause =
    made cause_bytes (λ x. cause_numbered x.0 x.1.0 x.1.1)
    (followed (number_in 5 1 (between 1 12)) (λ number.
    number_in 6 8 (any_if (nat_le 1 (value_count number)) 0xFFFFFFFFFFFFFFFF)
    & number_in 14 8 (any_if (nat_le 2 (value_count number)) 0xFFFFFFFFFFFFFFFF)))

-- ---- frames

abbrev pub framed : {A : Type 0} → (A → Frame) → Format Fault A → Format Fault Frame
framed make f = made payload make f

-- the bitmap has n bytes, so the count is the bits of n bytes or up to 7 fewer
abbrev pub counted : ℕ → Format Fault (ℕ × Bits)
counted n = followed (number_in 18 4 (between (8 * n - 7) (8 * n))) (λ count. bitmap 22 count n)

abbrev pub init : Format Fault Frame
init =
    framed (λ x. Init x.1.1.1.1 x.0 x.1.0 x.1.1.0 x.1.1.1.0)
    (word 2 & word 4 & flag_in 11 & word 1 & attempt)

abbrev pub attach : Format Fault Frame
attach = framed (λ x. Attach x.0 x.1) (attempt & word 1)

abbrev pub reinit : ℕ → Format Fault Frame
reinit n = framed (λ x. Reinit x.0 x.1.0 x.1.1.1) (attempt & copy_in 17 & counted n)

abbrev pub reinit2 : ℕ → Format Fault Frame
reinit2 long =
    framed (λ x. Reinit2 x.0 x.1.0 x.1.1) (attempt & copy_in 17 & taken_in long)

abbrev pub ack : Format Fault Frame
ack = framed (λ x. Ack x.0 x.1) (copy_in 5 & word 8)

abbrev pub exit : Format Fault Frame
exit = framed {A = Unit {0}} (λ none. Exit) (nothing tt)

abbrev pub stage : ℕ → Format Fault Frame
stage n = framed (λ x. Stage x.0 x.1) (attempt & stage_plan n)

abbrev pub pages : ℕ → Format Fault Frame
pages n =
    framed (λ x. Pages x.0 x.1.0 x.1.1.0 x.1.1.1.0 x.1.1.1.1.1)
    (attempt & pages_in 17 & word 4 & word 1 & number_in 23 1 (only n) & list page n)

abbrev pub redo : ℕ → Format Fault Frame
redo n =
    framed (λ x. Redo x.0 x.1.1.0 x.1.1.1.0 x.1.1.1.1.0 x.1.1.1.1.1.1)
    (attempt & number_in 17 1 (only 3) & word 4 & word 1 & word 8
    & number_in 31 4 (only n) & run Short n)

-- the payload of a frame with this code and this length
abbrev pub payload_of : ℕ → ℕ → Format Fault Frame
payload_of code long =
    choose (code == 1) init
    (choose (code == 2) attach
    (choose (code == 3) (reinit (long - REINIT_FIELDS))
    (choose (code == 4) (framed Execute (copy_in 5))
    (choose (code == 5) ack
    (choose (code == 6) exit
    (choose (code == 7) (reinit2 (long - REINIT2_FIELDS))
    (choose (code == 16) (stage ((long - STAGE_FIELDS) / SPACE_BYTES))
    (choose (code == 17) (pages ((long - PAGES_FIELDS) / PAGE_AT_BYTES))
    (choose (code == 18) (redo (long - REDO_FIELDS))
    (choose (code == 19) (framed (λ x. End x.0 x.1) (attempt & copy_in 17))
    (framed Refused cause)))))))))))

-- a frame's code and the length of its payload
abbrev pub head : Side → Format Fault (ℕ × ℕ)
head side = followed (number_in 0 1 (codes side)) (λ code. number_in 1 4 (lengths code))

-- the frame at the front, by its code and its length
abbrev pub frame : Side → Format Fault Frame
frame side = led (head side) (λ h. payload_of h.0 h.1) (λ x. (code_of x, length (payload x)))

unfoldable pub head_at : Side → List ℕ → Result ((ℕ × ℕ) × List ℕ) Fault
head_at side = (head side).read

unfoldable pub payload_at : ℕ → ℕ → List ℕ → Result (Frame × List ℕ) Fault
payload_at code long = (payload_of code long).read

unfoldable pub frame_at : Side → List ℕ → Result (Frame × List ℕ) Fault
frame_at side = (frame side).read
