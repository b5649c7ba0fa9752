-- The numbers that may stand in a field: the least, and those from the next up to the most.
use Rattle.std.specs.Prelude.{ℕ, ◌≡◌, ◌+◌, ◌*◌, ◌-◌, ◌/◌, ◌<◌, ◌≤◌, min, max, Bool, nat_le}
use Rattle.std.specs.Prelude.{◌==◌, ◌&&◌, ◌||◌, if◌then◌else◌}
use Rattle.clone_base.specs.declared.limits.TheConstants.{CHANGE_LIMIT, VALUE_LIMIT}
use Rattle.clone_follow.specs.declared.limits.TheConstants.{COMMIT_FIELDS, CHANGE_FIELDS}
use Rattle.clone_follow.specs.declared.limits.TheConstants.{MOST_CHANGE}
use Rattle.clone_follow.specs.declared.numbers.Numbers.{Numbers}

-- those from the least to the most
abbrev pub between : ℕ → ℕ → Numbers
between least most = record { least = least; next = least; most = most }

-- one alone
abbrev pub only : ℕ → Numbers
only n = between n n

-- one of the numbers
pub record IsOneOf (numbers : Numbers) (n : ℕ) : Type 0 where
  pub low : numbers.least ≤ n
  pub high : n ≤ numbers.most
  pub gap : n < numbers.next → n ≡ numbers.least

-- there is one, and those from the next on aren't below the least
pub record AreInOrder (numbers : Numbers) : Type 0 where
  pub low : numbers.least ≤ numbers.next
  pub high : numbers.next ≤ numbers.most

-- whether one of the numbers lies from low to high
abbrev pub has_between : Numbers → ℕ → ℕ → Bool
has_between numbers low high =
    (nat_le low numbers.least && nat_le numbers.least high)
    || nat_le (max numbers.next low) (min numbers.most high)

-- The lengths that a payload may have, by the code: COMMIT without changes, or with some of them;
-- WANT and CURRENT.
abbrev pub lengths : ℕ → Numbers
lengths code =
    if code == 33 then record {
      least = COMMIT_FIELDS;
      next = COMMIT_FIELDS + CHANGE_FIELDS;
      most = COMMIT_FIELDS + MOST_CHANGE * CHANGE_LIMIT;
    }
    else only 8

-- a code and a length that go together
abbrev pub IsHead : ℕ → ℕ → Type 0
IsHead code long = IsOneOf (lengths code) long

-- so many changes can be spelled with so many bytes
pub record MayFill (count long : ℕ) : Type 0 where
  pub low : CHANGE_FIELDS * count ≤ long
  pub high : long ≤ MOST_CHANGE * count

-- how many changes may fill so many bytes
abbrev pub counts : ℕ → Numbers
counts long =
    between ((long + (MOST_CHANGE - 1)) / MOST_CHANGE) (min CHANGE_LIMIT (long / CHANGE_FIELDS))

-- how many bytes the value of a change may have that `more` follow, all of which fill so many bytes
abbrev pub sizes : ℕ → ℕ → Numbers
sizes more long =
    between (long - CHANGE_FIELDS - MOST_CHANGE * more)
    (min VALUE_LIMIT (long - CHANGE_FIELDS - CHANGE_FIELDS * more))

-- the same of a change of this kind
abbrev pub sizes_of : ℕ → ℕ → ℕ → Numbers
sizes_of kind more long = if kind == 0 then only 0 else sizes more long

-- the kinds of such a change: 0 is that it has no value, and then the value has no bytes
abbrev pub kinds : ℕ → ℕ → Numbers
kinds more long = between (if (sizes more long).least == 0 then 0 else 1) 1
