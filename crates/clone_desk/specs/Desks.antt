-- What each call of a desk does.
use Rattle.std.specs.Prelude.{ℕ, zero, suc, ◌≡◌, ◌≤◌, ◌<◌, ◌+◌, ◌^◌, List, [], ◌∷◌, ◌++◌, length, map, set, get_or, Some, None}
use Rattle.std.specs.List.{AllByRecursion}
use Rattle.std.specs.declared.option.Option.{Option}
use Rattle.std.specs.declared.snapshot.Snapshot.{Snapshot}
use Rattle.clone_outside.specs.declared.link.Side.{Side}
use Rattle.clone_outside.specs.declared.link.Side.TheVariants.{Donor, Requester}
use Rattle.clone_outside.specs.declared.link.Link.{Ghosts as Link}
use Rattle.clone_outside.specs.declared.link.Net.{Ghosts as Net}
use Rattle.clone_runs.specs.Desk.{IsLeast, Waiting, waits_for}
use Rattle.clone_runs.specs.Marks.{NoneIn}
use Rattle.clone_desk.specs.declared.record.DonorEnd.TheVariants.{Waits}
use Rattle.clone_desk.specs.declared.record.Record.{Record}
use Rattle.clone_desk.specs.Records.{HasEnds, IsNew, handed_out, name_of, waiting_of, with_end}

-- the net, and the records of the connections in the order in which they were made
pub record DeskModel (N L : Type 0) : Type 0 where
  pub net : N
  pub records : List (Record L)

module _ {N L : Type 0} where
  -- the connections as the runs of a desk have them
  abbrev pub waiting : DeskModel N L → List Waiting
  waiting s = map waiting_of s.records

  -- AN END IS KEPT in the record at the place
  pub record Keeps (s : DeskModel N L) (place : ℕ) (side : Side) (end : L) (t : DeskModel N L)
      : Type 0 where
    pub there : Record L
    pub at : get_or s.records place there ≡ there
    pub records : t.records ≡ set s.records place (with_end side end there)
    pub net : t.net ≡ s.net

module _ {L X : Type 0} (link : Link L X) where
  -- the record at this place has this name
  abbrev pub IsNamed : List (Record L) → ℕ → X → Type 0
  IsNamed [] place name = ⊥
  IsNamed (r ∷ rs) zero name = name ≡ name_of link r
  IsNamed (r ∷ rs) (suc place) name = IsNamed rs place name

  -- NO RECORD IS REMOVED, and none gets another name
  abbrev pub StayNamed : {N : Type 0} → DeskModel N L → DeskModel N L → Type 0
  StayNamed s t = (place : ℕ) (name : X) → IsNamed s.records place name
      → IsNamed t.records place name

  -- AN END FITS the record that has its name
  abbrev pub Fits : {N : Type 0} → DeskModel N L → ℕ → Side → L → Type 0
  Fits s place side end =
      IsNamed s.records place (link.name end) × (link.side end ≡ side)

module _ {N L X : Type 0} (net : Net N L X) (link : Link L X) where
  -- WHAT A DESK KEEPS: places are numbers of 32 bits, the net made each connection, and the ends
  -- that are here are its own
  pub record IsDesk (n : N) (rs : List (Record L)) : Type 0 where
    pub count : length rs ≤ 2 ^ 32
    pub made : AllByRecursion (λ r. net.made n (name_of link r)) rs
    pub ends : AllByRecursion (HasEnds link) rs

  -- A CONNECTION IS MADE: a record more, in which the donor's end waits. The other is answered.
  pub record Makes (s : DeskModel N L) (task place : ℕ) (end : L) (t : DeskModel N L)
      : Type 0 where
    pub place_is : place ≡ length s.records
    pub about : Snapshot L
    pub donor : L
    pub records : t.records ≡ s.records ++ record {
      task = task;
      about = about;
      donor = Waits donor;
      requester = None;
    } ∷ []
    pub named : about.value ≡ end
    pub donor_is : IsNew link (link.name end) Donor donor
    pub end_is : IsNew link (link.name end) Requester end
    pub made : net.made t.net (link.name end)
    pub more : net.unsettled t.net ≡ net.unsettled s.net + 1

  pub record MakesNone (s t : DeskModel N L) : Type 0 where
    pub records : t.records ≡ s.records
    pub none : net.unsettled t.net ≡ net.unsettled s.net

  -- what the net made stays made
  abbrev pub StayMade : DeskModel N L → DeskModel N L → Type 0
  StayMade s t = (name : X) → net.made s.net name → net.made t.net name

  -- AN END IS HANDED OUT, that which waits for the task at the least place
  pub record Gives (s : DeskModel N L) (task place : ℕ) (end : L) (t : DeskModel N L)
      : Type 0 where
    pub least : IsLeast task (waiting s) place (waiting t)
    pub low : place < length s.records
    pub there : Record L
    pub at : get_or s.records place there ≡ there
    pub waits : there.donor ≡ Waits end
    pub records : t.records ≡ set s.records place (handed_out there)
    pub net_is : t.net ≡ s.net
    pub end_is : IsNew link (name_of link there) Donor end

  -- none is exactly where none waits for the task
  abbrev pub HandsOut : DeskModel N L → ℕ → Option (ℕ × L) → DeskModel N L → Type 0
  HandsOut s task (Some r) t = Gives s task r.0 r.1 t
  HandsOut s task None t = NoneIn (waits_for task) (waiting s) × (t ≡ s)
