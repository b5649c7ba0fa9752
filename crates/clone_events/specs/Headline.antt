-- What a whole run says of its binlog and of its clone.
use Rattle.std.specs.Prelude.{ℕ, ◌≡◌, ◌-◌, ◌≤◌, ◌⊎◌, Bool, List, [], ◌∷◌, ◌++◌, length, take, drop, None, Some, Ok, Err, MatchOption, unwrap_or, slice_get}
use Rattle.std.specs.declared.option.Option.{Option}
use Rattle.std.specs.List.{filter_map, flat_map, range_with_len}
use Rattle.clone_follow.specs.Following.{Following}
use Rattle.clone_model.specs.History.{Drops, after_commits, fold, history_of}
use Rattle.clone_model.specs.declared.change.Commit.{Commit}
use Rattle.clone_script.specs.declared.lines.Line.{Line}
use Rattle.clone_script.specs.declared.lines.Line.TheVariants as lines
use Rattle.clone_plain.specs.Donor.{Donor}
use Rattle.clone_plain.specs.Effects.{put_of}
use Rattle.clone_plain.specs.declared.refusal.Cause.TheVariants.{DiskFault}
use Rattle.clone_plain.specs.declared.call.EngineAnswer.TheVariants as answers
use Rattle.clone_plain.specs.declared.call.EngineCall.TheVariants as call
use Rattle.clone_outside.specs.declared.disk.DiskOrder.{DiskOrder}
use Rattle.clone_outside.specs.declared.disk.DiskOrder.TheVariants as order
use Rattle.clone_events.specs.World.{Clone, Stop, IsSure, before_stop}
use Rattle.clone_events.specs.Events.{Event, made, replicated, Shows, clone_after}

-- the events of lines, one after the other
abbrev pub all_events : List (List Event) → List Event
all_events events = flat_map (λ es. es) events

-- the position that an event was answered by which a transaction committed
abbrev pub committed_at : Event → Option ℕ
committed_at (made (call.Commit trx) (Ok (answers.Commit position))) = Some position
committed_at event = None

-- The positions that were answered are 1, 2, 3 and so on, one for each commit of the binlog.
abbrev pub AreCommits : List Event → List Commit → Type 0
AreCommits events binlog = filter_map committed_at events ≡ range_with_len 1 (length binlog)

-- The drops that an event makes, behind so many commits: the one that was carried out, and maybe
-- the one in which the disk failed.
abbrev pub MakesDrops : ℕ → Event → Drops → Type 0
MakesDrops position (made (call.Drop table) (Ok answers.Drop)) drops =
    drops ≡ (position, table) ∷ []
MakesDrops position (made (call.Drop table) (Err DiskFault)) drops =
    (drops ≡ []) ⊎ (drops ≡ (position, table) ∷ [])
MakesDrops position event drops = drops ≡ []

-- The drops that events make, each behind the commits before it. Before the events there are so
-- many commits.
abbrev pub AreDrops : ℕ → List Event → Drops → Type 0
AreDrops position [] drops = drops ≡ []
AreDrops position (e ∷ es) drops =
    (first rest : Drops) × MakesDrops position e first
    × AreDrops (unwrap_or (committed_at e) position) es rest × (drops ≡ first ++ rest)

-- the commit at a position is one of this writer that gives this row this value, and changes
-- nothing else
abbrev pub IsSet : (writer table key : ℕ) (value : List ℕ) → List Commit → ℕ → Type 0
IsSet writer table key value binlog position =
    (index : ℕ) × (slice_get binlog (position - 1)
    ≡ Some (record { writer = writer; index = index; changes = put_of table key value ∷ [] }))

-- each `set` that committed, at any of its events, has its one change at the position that it was
-- answered
abbrev pub AreSets : List Line → List (List Event) → List Commit → Type 0
AreSets (lines.Set writer table key value ∷ ls) (es ∷ more) binlog =
    ((position : ℕ) → filter_map committed_at es ≡ position ∷ []
    → IsSet writer table key value binlog position) × AreSets ls more binlog
AreSets (l ∷ ls) (es ∷ more) binlog = AreSets ls more binlog
AreSets ls more binlog = Unit {0}

-- WHAT EVENTS SHOW of a clone, by the history of the donor at the end. It comes to its stop, which
-- is within the binlog, and not before what was looked up until then; it is complete at that
-- position, and says so later. The rows shown behind it are exactly those that the history before
-- the stop leaves, where that is known: each commit before the stop whole, none later, and nothing
-- of a transaction that was open then. No damage is found then, and a complete clone isn't found
-- incomplete.
abbrev pub ShowsStop : Donor → Bool → Clone → List Event → Type 0
ShowsStop d tells clone [] = Unit {0}
ShowsStop d tells clone (e ∷ es) =
    Shows d tells clone e × ShowsStop d tells (clone_after e clone) es

-- THE ROWS OF A FOLLOWER, which is now so, of a clone that came to this stop: those that the
-- history before the stop leaves, to which the commits from the stop on are applied in order, each
-- once, up to the follower's position. So without drops they are what the commits up to there
-- leave.
pub record IsReplayed (d : Donor) (at : Stop) (now : Following) : Type 0 where
  pub forward : at.position ≤ now.position
  pub within : now.position ≤ length d.binlog
  pub rows : now.rows ≡ after_commits (fold (before_stop at d))
      (take (now.position - at.position) (drop at.position d.binlog))
  pub folded : d.drops ≡ [] → now.rows ≡ fold (history_of (take now.position d.binlog) [])

-- where the clone's rows are known, those of its follower are, if there is one
abbrev pub FollowsStop : Donor → Bool → Clone → Type 0
FollowsStop d tells clone = IsSure tells clone → MatchOption clone.replica.follower (Unit {0})
    (λ now. MatchOption clone.stop ⊥ (λ at. IsReplayed d at now))

-- WHAT EVENTS SHOW of a follower, by the history of the donor at the end: the rows that are shown
-- of it, which are its own, are those.
abbrev pub ShowsFollower : Donor → Bool → Clone → Event → Type 0
ShowsFollower d tells clone (replicated rows) =
    MatchOption clone.replica.follower ⊥ (λ now. rows ≡ now.rows) × FollowsStop d tells clone
ShowsFollower d tells clone event = Unit {0}

abbrev pub ShowsFollowers : Donor → Bool → Clone → List Event → Type 0
ShowsFollowers d tells clone [] = Unit {0}
ShowsFollowers d tells clone (e ∷ es) =
    ShowsFollower d tells clone e × ShowsFollowers d tells (clone_after e clone) es

-- the orders that lines give to the donor's disk
abbrev pub donor_order : Line → Option DiskOrder
donor_order (lines.Tear byte) = Some (order.Tear byte)
donor_order (lines.FailDonor call) = Some (order.FailAt call)
donor_order line = None

-- those that they give to the recipient's
abbrev pub recipient_order : Line → Option DiskOrder
recipient_order (lines.FailRecipient call) = Some (order.FailAt call)
recipient_order line = None
