-- A CLONE AS THE ROUNDS, over the blocks that the chunks of each stage have.
use Rattle.std.specs.Prelude.{ℕ, ◌≡◌, ◌≢◌, ◌<◌, ◌≤◌, Bool, false, List, None, Some, slice_get}
use Rattle.std.specs.Prelude.{slice_index, ⊤}
use Rattle.std.specs.declared.option.Option.{Option}
use Rattle.clone_chunk.specs.Chunks.{is_kept}
use Rattle.clone_chunk.specs.declared.chunk.Chunk.TheVariants.{Claimed}
use Rattle.clone_snapshot.specs.StageLists.{block_count}
use Rattle.clone_marks.specs.Blocks.{blocks_of}
use Rattle.clone_marks.specs.Counts.{block_counts}
use Rattle.clone_session.specs.Cloning.{Session}
use Rattle.clone_session.specs.CloneCauses.{donor_stage}
use Rattle.clone_tasks.specs.Tables.{Table}
use Rattle.clone_network.specs.Connections.{Connection}
use Rattle.clone_network.specs.Networks.{Network}
use Rattle.clone_rounds.specs.Awaiting.{Rule}
use Rattle.clone_rounds.specs.World.{World, Owner, Claimed as ClaimedBy}
use Rattle.clone_view.specs.Rows.{place_of, places}
use Rattle.clone_view.specs.Tables.{phase_number}
use Rattle.clone_view.specs.Views.{IsView, Line}
use Rattle.clone_paired.specs.Earlier.{IsPast}
use Rattle.clone_paired.specs.Lines.{connection_of}

-- of a chunk that a task has claimed some block is still to be sent
pub record IsUnsent (s : Session) (owner : ℕ → Owner) (chunk task : ℕ) : Type 0 where
  pub block : ℕ
  pub there : block < block_count s.snap.list chunk
  pub unkept : is_kept (slice_index s.snap.kept chunk) block ≡ false
  pub claimed : owner (place_of (block_counts s.snap.list) chunk block) ≡ ClaimedBy task

abbrev pub AreUnsent : Option Session → (ℕ → Owner) → Type 0
AreUnsent None owner = ⊤
AreUnsent (Some s) owner = (chunk task : ℕ)
    → slice_get s.snap.chunks chunk ≡ Some (Claimed task) → IsUnsent s owner chunk task

-- each connection that no task has is of an earlier incarnation
abbrev pub ArePast : Table → Bool → Network → Type 0
ArePast t acknowledged n = (number : ℕ) (at : Connection)
    → slice_get n.connections number ≡ Some at
    → ((task : ℕ) → connection_of n task ≢ Some number) → IsPast t acknowledged at

-- THE ROUNDS that are seen, whose rule holds
pub record IsSeen (t : Table) (session : Option Session) (n : Network) (lines : ℕ → Option Line)
    (counts : ℕ → List ℕ) : Type 0 where
  pub rounds : World
  pub rule : Rule rounds
  pub view : IsView counts t session lines rounds
  pub sizes : (stage : ℕ) → rounds.sides.size stage ≡ places (counts stage)
  pub unsent : AreUnsent session rounds.sides.owner
  pub past : ArePast t rounds.sides.acknowledged n

-- the stage to which a donor has come, 0 without a session of the clone's
abbrev pub stage_at : Option Session → ℕ
stage_at None = 0
stage_at (Some s) = donor_stage s

-- what is copied there has so many blocks
abbrev pub IsCounted : Option Session → (ℕ → List ℕ) → Type 0
IsCounted None known = ⊤
IsCounted (Some s) known = known (donor_stage s) ≡ block_counts s.snap.list

-- SO THE CLONE IS SEEN, however many blocks the stages have to which the donor hasn't come: of the
-- others these are known.
pub record IsKnown (t : Table) (session : Option Session) (n : Network) (lines : ℕ → Option Line)
    (known : ℕ → List ℕ) : Type 0 where
  pub donor : IsCounted session known
  pub recipient : known (phase_number t.phase) ≡ blocks_of t.marks
  pub seen : (counts : ℕ → List ℕ)
      → ((stage : ℕ) → stage ≤ stage_at session → counts stage ≡ known stage)
      → IsSeen t session n lines counts
