-- HOW MUCH OF A CLONE IS LEFT: each step that isn't idle leaves less, until the clone ends.
use Rattle.std.specs.Prelude.{ℕ, zero, suc, ◌≡◌, ◌<◌, ◌+◌, ◌-◌, ◌*◌, ◌⊎◌, Bool, cond}
use Rattle.std.specs.Prelude.{List, [], ◌∷◌, ◌++◌, length}
use Rattle.clone_rounds.specs.World.{Awaited, Nothing, ForFirst, ForEnd, ForStage}
use Rattle.clone_rounds.specs.World.{Core, New, Ready, Serving, Over}
use Rattle.clone_rounds.specs.World.{Owner, Free, Claimed, Sent, Kept}
use Rattle.clone_rounds.specs.World.{Seat, Sides, World}

-- ---- lists of numbers, of which the first counts most

-- A LIST IS LESS where it is less at the first place at which they differ.
abbrev pub IsLess : List ℕ → List ℕ → Type 0
IsLess [] ys = ⊥
IsLess (x ∷ xs) [] = ⊥
IsLess (x ∷ xs) (y ∷ ys) = (x < y) ⊎ ((x ≡ y) × IsLess xs ys)

-- each number of a list is below its bound
abbrev pub AreBelow : List ℕ → List ℕ → Type 0
AreBelow [] [] = Unit {0}
AreBelow [] (x ∷ xs) = ⊥
AreBelow (b ∷ bounds) [] = ⊥
AreBelow (b ∷ bounds) (x ∷ xs) = (x < b) × AreBelow bounds xs

-- how many lists there are below the bounds
abbrev pub product : List ℕ → ℕ
product [] = 1
product (b ∷ bounds) = b * product bounds

-- A LIST AS ONE NUMBER, by the bounds of its numbers: one that is less is less as a number, too.
abbrev pub as_number : List ℕ → List ℕ → ℕ
as_number [] xs = 0
as_number (b ∷ bounds) [] = 0
as_number (b ∷ bounds) (x ∷ xs) = x * product bounds + as_number bounds xs

-- f 0 + f 1 + .. up to the number before n
abbrev pub sum_below : (ℕ → ℕ) → ℕ → ℕ
sum_below f zero = 0
sum_below f (suc n) = sum_below f n + f n

-- ---- WHAT THE RECIPIENT HAS LEFT

-- a task is absent, then awaits its first answer, asks for blocks, awaits END, took END, and
-- acknowledges
abbrev pub awaited_left : Awaited → Bool → ℕ
awaited_left Nothing ended = cond ended 1 3
awaited_left ForFirst ended = 4
awaited_left ForEnd ended = 2
awaited_left ForStage ended = 0

-- what a task has left in its stage
abbrev pub task_left : Seat → ℕ
task_left s = cond s.connected (awaited_left s.awaits s.ended) 5

-- how many blocks of the stage aren't taken
abbrev pub untaken : Sides → ℕ
untaken a = sum_below (λ b. cond (a.taken b) 0 1) (a.size a.stage)

-- losses that it outlasts, stages, and of its stage the blocks and what each task has to do
abbrev pub recipient_left : World → List ℕ
recipient_left w =
    (w.limit - w.losses) ∷ (4 - w.sides.stage)
    ∷ (untaken w.sides + sum_below (λ k. task_left (w.seats k)) w.sides.tasks) ∷ []

-- ---- WHAT THE DONOR HAS LEFT

-- what a loop has left
abbrev pub core_left : Core → ℕ
core_left New = 1
core_left Ready = 1
core_left (Serving stage rest) = 2
core_left Over = 0

-- a block is claimed, and then sent
abbrev pub block_left : Owner → ℕ
block_left Free = 2
block_left (Claimed k) = 1
block_left (Sent k) = 0
block_left Kept = 0

-- what is left of the blocks of the donor's stage
abbrev pub unsent : Sides → ℕ
unsent a = sum_below (λ b. block_left (a.owner b)) (a.size a.at)

-- steps on connections of earlier incarnations, commands that are unread, and of its stage the
-- blocks and what each loop has to do
abbrev pub donor_left : World → List ℕ
donor_left w =
    w.late ∷ sum_below (λ k. length (w.seats k).commands) w.sides.tasks
    ∷ (unsent w.sides + sum_below (λ k. core_left (w.seats k).core) w.sides.tasks) ∷ []

-- ---- all

-- WHAT IS LEFT: the recipient's counts more.
abbrev pub left : World → List ℕ
left w = recipient_left w ++ donor_left w
