-- WHAT HOLDS OF A CLONE THAT WAS BEGUN, whoever acts in it: it has the tasks that it began with,
-- each donor's end is between two steps, and the connections are few.
use Rattle.std.specs.Prelude.{ℕ, ◌≡◌, ◌≤◌, ◌+◌, ◌-◌, ◌*◌, true, false, is_none, List, length, count_by}
use Rattle.std.specs.List.{AllByRecursion}
use Rattle.clone_base.specs.declared.limits.TheConstants.{MOST_TASKS}
use Rattle.clone_script.specs.declared.terms.Terms.{Terms}
use Rattle.clone_serve.specs.declared.doing.Doing.{Doing}
use Rattle.clone_serve.specs.declared.doing.Doing.TheVariants.{New, Ready, Serving, Over}
use Rattle.clone_serve.specs.declared.doing.Work.{Work}
use Rattle.clone_serve.specs.declared.doing.Work.TheVariants.{Archive, Claim, Read, Weigh}
use Rattle.clone_network.specs.Connections.{Connection}
use Rattle.clone_network.specs.Networks.{Network, Seat}
use Rattle.clone_core.specs.declared.world.Copying.{Copying}
use Rattle.clone_core.specs.declared.world.Course.{Course}
use Rattle.clone_core.specs.declared.world.Course.TheVariants as course

-- ---- between two steps

-- within an EXECUTE a chunk is claimed next, or a block is read for the first time
abbrev pub IsNextWork : Work → Type 0
IsNextWork Claim = Unit {0}
IsNextWork (Read place false) = Unit {0}
IsNextWork (Read place true) = ⊥
IsNextWork (Weigh chunk) = ⊥
IsNextWork (Archive place limit) = ⊥

-- a command is awaited, an EXECUTE is in service, or it is over
abbrev pub IsBetween : Doing → Type 0
IsBetween New = Unit {0}
IsBetween (Ready caller) = Unit {0}
IsBetween (Serving run work) = IsNextWork work
IsBetween Over = Unit {0}
IsBetween other = ⊥

abbrev pub EndIsBetween : Connection → Type 0
EndIsBetween at = IsBetween at.doing

-- ---- few connections

-- how many tasks have no connection
abbrev pub vacant : List Seat → ℕ
vacant seats = count_by (λ (seat : Seat). is_none seat.connection) seats

-- Each task may connect once more, and after each loss that is outlasted each may again.
abbrev pub AreFew : ℕ → ℕ → Network → Type 0
AreFew limit losses n =
    length n.connections + vacant n.seats + MOST_TASKS * (limit - losses)
    ≤ MOST_TASKS * (limit + 1)

-- ---- all of it

-- SUCH A CLONE
pub record IsOnTerms (terms : Terms) (c : Copying) : Type 0 where
  pub count : c.reception.table.count ≡ terms.tasks
  pub limit : c.reception.table.limit ≡ terms.limit
  pub seats : length c.network.seats ≡ terms.tasks
  pub ends : AllByRecursion EndIsBetween c.network.connections
  pub few : AreFew terms.limit c.reception.table.losses c.network

abbrev pub OnTerms : Terms → Course → Type 0
OnTerms terms (course.Begun c) = IsOnTerms terms c
OnTerms terms other = Unit {0}
