-- HOW MUCH A DONOR HAS LEFT TO DO over its connections, as one number, while no task does anything:
-- what counts most are the bytes that it may read, then the chunks that nobody has claimed, and
-- then what is left of each EXECUTE that is in service.
use Rattle.std.specs.Prelude.{ℕ, ◌+◌, ◌-◌, ◌*◌, ◌^◌, ◌<◌, [], ◌∷◌, count_by, length}
use Rattle.std.specs.Prelude.{if◌then◌else◌}
use Rattle.std.specs.List.{sum_by}
use Rattle.std.specs.Option.{option_map_or}
use Rattle.clone_chunk.specs.Chunks.{is_free}
use Rattle.clone_chunk.specs.declared.masks.TheConstants.{CHUNK_BLOCKS}
use Rattle.clone_session.specs.Cloning.{Cloning, Session}
use Rattle.clone_serve.specs.declared.doing.Doing.{Doing}
use Rattle.clone_serve.specs.declared.doing.Doing.TheVariants.{Serving}
use Rattle.clone_serve.specs.declared.doing.Place.{Place}
use Rattle.clone_serve.specs.declared.doing.Work.{Work}
use Rattle.clone_serve.specs.declared.doing.Work.TheVariants.{Archive, Claim, Read, Weigh}
use Rattle.clone_network.specs.Connections.{Connection}
use Rattle.clone_network.specs.Networks.{Network}
use Rattle.clone_engine.specs.Donor.{Donor}
use Rattle.clone_ending.specs.Unread.{donor_left}

-- ---- of the chunks

-- the chunks of its stage have numbers
abbrev pub HasNumbers : Session → Type 0
HasNumbers s = length s.snap.chunks < 2 ^ 32

-- how many chunks of the session's stage nobody has claimed
abbrev pub unclaimed : Cloning → ℕ
unclaimed c = option_map_or (λ (s : Session). count_by is_free s.snap.chunks) c.session 0

-- how many of a chunk's blocks may be sent yet, from this one on
abbrev pub blocks_from : Place → ℕ
blocks_from place = CHUNK_BLOCKS - place.block

-- the most that is left of a chunk: its blocks, that redo of it is archived, and the next claim
abbrev pub a_chunk : ℕ
a_chunk = CHUNK_BLOCKS + 3

-- ---- of an EXECUTE

-- what is left of the chunk that it has claimed, and then the next claim. A block that is read
-- again, once its redo was archived, has more left than one that is to be read.
abbrev pub work_in : Work → ℕ
work_in Claim = 1
work_in (Weigh chunk) = CHUNK_BLOCKS + 2
work_in (Read place again) = blocks_from place + (if again then 3 else 2)
work_in (Archive place limit) = blocks_from place + 3

abbrev pub service_in : Doing → ℕ
service_in (Serving run work) = work_in work
service_in other = 0

-- what is left of all that are in service, with the chunks that they may still claim
abbrev pub service_left : Donor → Network → ℕ
service_left d n = unclaimed d.cloning * a_chunk + sum_by (λ at. service_in at.doing) n.connections

-- ---- of all

-- more than is ever left of what is in service, for a chunk's number is below 2^32
abbrev pub most_service : Network → ℕ
most_service n = (2 ^ 32 + length n.connections) * a_chunk

-- WHAT IS LEFT on all connections
abbrev pub donor_work : Donor → Network → ℕ
donor_work d n = donor_left n * most_service n + service_left d n

-- a connection by itself
abbrev pub alone : Connection → Network
alone at = record { connections = at ∷ []; seats = [] }

-- WHAT IS LEFT on one
abbrev pub end_work : Donor → Connection → ℕ
end_work d at = donor_work d (alone at)
