-- What is read of a disk, place by place.
use Rattle.std.specs.Prelude.{ℕ, ◌≡◌, ◌==◌, ◌&&◌, ◌||◌, Bool, List, [], ◌∷◌, None, Some, nat_lt, if◌then◌else◌}
use Rattle.std.specs.declared.option.Option.{Option}
use Rattle.std.specs.declared.cmp.Ordering.{Ordering}
use Rattle.std.specs.FinMap as finite
use Rattle.clone_base.specs.Counted.{Counted}
use Rattle.clone_outside.specs.Disk.{DiskImage, ForTold, GivesQuiet, page_count}
use Rattle.clone_increment.specs.Copies.{IsQuiet, PagesByPlace, bytes_at}

-- what the disk has at a place joins the pages
abbrev pub ReadsPage : Option DiskImage → ℕ → ℕ → PagesByPlace → PagesByPlace → Type 0
ReadsPage told space number old new =
    (bytes : List ℕ) × (new ≡ finite.insert old (space, number) bytes)
    × ForTold told (λ m. GivesQuiet m space number bytes)

-- a value joins a map, if there is one
abbrev pub joined : {K X : Type 0} {R : K → K → Ordering} → finite.FinMap R X → K → Option X
    → finite.FinMap R X
joined map key None = map
joined map key (Some value) = finite.insert map key value

-- what is wanted at each of these keys joins a map
abbrev pub all_joined : {K X : Type 0} {R : K → K → Ordering} → (K → Option X)
    → finite.FinMap R X → List K → finite.FinMap R X
all_joined wanted map [] = map
all_joined wanted map (key ∷ keys) = all_joined wanted (joined map key (wanted key)) keys

-- the map has what is wanted at each key that is done, and nothing else
abbrev pub AgreesOn : {K X : Type 0} {R : K → K → Ordering} → (K → Bool) → (K → Option X)
    → finite.FinMap R X → Type 0
AgreesOn {K} done wanted map =
    (key : K) → finite.get map key ≡ (if done key then wanted key else None)

-- the first pages of a space
abbrev pub is_among_first : ℕ → ℕ → ℕ × ℕ → Bool
is_among_first space count place = place.0 == space && nat_lt place.1 count

-- The first pages of a space are read too, where the space has so many.
abbrev pub ReadsFirst : ℕ → ℕ → PagesByPlace → PagesByPlace → DiskImage → Type 0
ReadsFirst space count old new image =
    IsQuiet image → page_count image space ≡ Some count
    → (done : ℕ × ℕ → Bool) → AgreesOn done (bytes_at image) old
    → AgreesOn (λ place. is_among_first space count place || done place) (bytes_at image) new

-- the sizes are those of the disk's spaces
abbrev pub AreSizesOf : Counted → DiskImage → Type 0
AreSizesOf sizes image = (space : ℕ) → finite.get sizes space ≡ page_count image space

-- every page is read, of a disk with these sizes
abbrev pub ReadsAll : Counted → PagesByPlace → DiskImage → Type 0
ReadsAll sizes pages image =
    IsQuiet image → AreSizesOf sizes image
    → (place : ℕ × ℕ) → finite.get pages place ≡ bytes_at image place

-- a place is read too, if it is there
abbrev pub ReadsPlace : Counted → ℕ × ℕ → PagesByPlace → PagesByPlace → DiskImage → Type 0
ReadsPlace sizes place old new image =
    IsQuiet image → AreSizesOf sizes image → new ≡ joined old place (bytes_at image place)

-- these places are read
abbrev pub ReadsPlaces : Counted → List (ℕ × ℕ) → PagesByPlace → DiskImage → Type 0
ReadsPlaces sizes places pages image =
    IsQuiet image → AreSizesOf sizes image
    → pages ≡ all_joined (bytes_at image) finite.empty places
