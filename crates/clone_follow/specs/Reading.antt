-- The fields of each frame from left to right, as formats. Reading gives a value and the bytes
-- after it, or stops where the bytes end, or at the first field whose bytes begin nothing that may
-- stand there.
use Rattle.std.specs.Prelude.{ℕ, zero, suc, ◌≡◌, ◌+◌, ◌-◌, ◌==◌, ⊤, if◌then◌else◌}
use Rattle.std.specs.Prelude.{List, [], ◌∷◌, length, None, Some, Ok, Err, Result}
use Rattle.std.specs.List.{flat_map, AllByRecursion}
use Rattle.std.specs.declared.option.Option.{Option}
use Rattle.byteorder.specs.Endian.{big_bytes}
use Rattle.clone_bytes.specs.Formats.{Format, ◌>>=◌, Judge, Refusals, number, run, judged_at}
use Rattle.clone_bytes.specs.Formats.{led, followed, ◌&◌, seen, made, choose}
use Rattle.clone_model.specs.declared.change.Change.{Change}
use Rattle.clone_follow.specs.declared.fault.Fault.{Fault}
use Rattle.clone_follow.specs.declared.fault.Fault.TheVariants.{Short, Garbled, NoMemory}
use Rattle.clone_follow.specs.declared.frame.FollowFrame.{FollowFrame}
use Rattle.clone_follow.specs.declared.frame.FollowFrame.TheVariants as kind
use Rattle.clone_follow.specs.declared.limits.TheConstants.{COMMIT_FIELDS}
use Rattle.clone_follow.specs.declared.numbers.Numbers.{Numbers}
use Rattle.clone_follow.specs.Choices.{IsOneOf, between, has_between, lengths, counts}
use Rattle.clone_follow.specs.Choices.{sizes, sizes_of, kinds}
use Rattle.clone_follow.specs.Ranges.{IsChange}
use Rattle.clone_follow.specs.Spelling.{size_of, value_bytes, change_bytes, code_of, payload}

-- what a function returned, seen by view, is what reading gives, unless memory ran out
abbrev pub Fails : {Y : Type 0} → Fault → Result Y Fault → Type 0
Fails Short read = read ≡ Err Short
Fails (Garbled at) read = read ≡ Err (Garbled at)
Fails NoMemory read = ⊤

-- the same of all that it may return
abbrev pub Gives : {X Y : Type 0} → (X → Y) → Result X Fault → Result Y Fault → Type 0
Gives view (Ok x) read = read ≡ Ok (view x)
Gives view (Err e) read = Fails e read

-- the byte that a fault names
abbrev pub place : Fault → ℕ
place (Garbled at) = at
place Short = 0
place NoMemory = 0

-- the refusals of reading
abbrev pub refusals : Refusals Fault
refusals = record { short = Short; place = place }

-- ---- fields

-- any number of so many bytes
abbrev pub word : ℕ → Format Fault ℕ
word n = number Short n

-- whether a number of the field that begins at this offset lies from the least to the most
abbrev pub judge_by : ℕ → Numbers → Judge Fault
judge_by at numbers least most =
    if has_between numbers least most then Ok tt else Err (Garbled at)

-- one of these numbers, in so many bytes
unfoldable pub one_in : ℕ → ℕ → Numbers → List ℕ → Result (ℕ × List ℕ) Fault
one_in at width numbers = judged_at Short (judge_by at numbers) 0 width

-- the same as a format
abbrev pub number_in : ℕ → ℕ → Numbers → Format Fault ℕ
number_in at width numbers =
    record { Has = IsOneOf numbers; text = big_bytes width; read = one_in at width numbers }

-- ---- changes

-- none where the kind is 0
abbrev pub valued : ℕ → List ℕ → Option (List ℕ)
valued kind bytes = if kind == 0 then None else Some bytes

-- kind, length and bytes of the value of a change that `more` follow, all of which fill so many
-- bytes
abbrev pub value_in : ℕ → ℕ → ℕ → Format Fault (Option (List ℕ))
value_in at more long =
    made value_bytes (λ x. valued x.0 x.1.1)
    (followed (number_in at 1 (kinds more long)) (λ kind.
    followed (number_in (at + 1) 1 (sizes_of kind more long)) (λ size.
    run Short size)))

-- such a change is one whose value lets the others fill what is left
abbrev pub IsNext : ℕ → ℕ → Change → Type 0
IsNext more long change = IsChange change × IsOneOf (sizes more long) (size_of change.value)

-- table, key and value
abbrev pub change_in : ℕ → ℕ → ℕ → Format Fault Change
change_in at more long =
    seen (IsNext more long) change_bytes
    (λ x. record { table = x.0; key = x.1.0; value = x.1.1 })
    (word 4 & word 8 & value_in (at + 12) more long)

-- so many changes one after the other, which fill so many bytes
abbrev pub changes_at : ℕ → ℕ → ℕ → List ℕ → Result (List Change × List ℕ) Fault
changes_at at zero long bytes = Ok ([], bytes)
changes_at at (suc n) long bytes =
    (change_in at n long).read bytes >>= λ first.
    changes_at (at + length (change_bytes first.0)) n (long - length (change_bytes first.0)) first.1
    >>= λ more. Ok (first.0 ∷ more.0, more.1)

-- so many changes whose spellings have so many bytes together
pub record AreFilling (n long : ℕ) (changes : List Change) : Type 0 where
  pub count : length changes ≡ n
  pub fill : length (flat_map change_bytes changes) ≡ long
  pub are : AllByRecursion IsChange changes

-- the same as a format
abbrev pub changes_in : ℕ → ℕ → ℕ → Format Fault (List Change)
changes_in at n long =
    record { Has = AreFilling n long; text = flat_map change_bytes; read = changes_at at n long }

-- their number, and they
abbrev pub counted : ℕ → Format Fault (ℕ × List Change)
counted long = followed (number_in 25 2 (counts long)) (λ n. changes_in 27 n long)

-- ---- frames

-- the payload of a frame
abbrev pub framed : {A : Type 0} → (A → FollowFrame) → Format Fault A → Format Fault FollowFrame
framed make f = made payload make f

-- the position
abbrev pub want : Format Fault FollowFrame
want = framed kind.Want (word 8)

-- position, writer, index and changes
abbrev pub commit : ℕ → Format Fault FollowFrame
commit long =
    framed (λ x. kind.Commit x.0 (record {
      writer = x.1.0;
      index = x.1.1.0;
      changes = x.1.1.1.1;
    })) (word 8 & word 4 & word 8 & counted (long - COMMIT_FIELDS))

-- the position
abbrev pub current : Format Fault FollowFrame
current = framed kind.Current (word 8)

-- the payload of a frame with this code and this length
abbrev pub payload_of : ℕ → ℕ → Format Fault FollowFrame
payload_of code long = choose (code == 32) want (choose (code == 33) (commit long) current)

-- a frame's code and the length of its payload
abbrev pub head : Format Fault (ℕ × ℕ)
head = followed (number_in 0 1 (between 32 34)) (λ code. number_in 1 4 (lengths code))

-- the frame at the front, by its code and its length
abbrev pub frame : Format Fault FollowFrame
frame = led head (λ h. payload_of h.0 h.1) (λ x. (code_of x, length (payload x)))

-- what reading a head, a payload and a frame gives
unfoldable pub head_at : List ℕ → Result ((ℕ × ℕ) × List ℕ) Fault
head_at = (head).read

unfoldable pub payload_at : ℕ → ℕ → List ℕ → Result (FollowFrame × List ℕ) Fault
payload_at code long = (payload_of code long).read

unfoldable pub frame_at : List ℕ → Result (FollowFrame × List ℕ) Fault
frame_at = (frame).read
