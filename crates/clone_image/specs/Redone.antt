-- What a log makes of one page by itself, from nothing. It is the textbook rule of redo by page
-- LSN: a record counts where the page is older than its mini-transaction.
use Rattle.std.specs.Prelude.{ℕ, ◌==◌, ◌&&◌, nat_lt, Bool, List, [], ◌∷◌, if◌then◌else◌, None, Some, slice_get}
use Rattle.std.specs.declared.option.Option.{Option}
use Rattle.std.specs.FinMap as finite
use Rattle.clone_page.specs.Header.{zero_page, lsn_of}
use Rattle.clone_mtr.specs.Effects.{effect}
use Rattle.clone_mtr.specs.declared.record.Record.{Record}
use Rattle.clone_mtr.specs.declared.record.Record.TheVariants.{Init, Write, Extend, Create, Drop}
use Rattle.clone_image.specs.Image.{Image}
use Rattle.clone_image.specs.Replay.{end_of, first_lsn}

-- a page's space isn't there, or the page lies past its end, or it stands with these bytes
pub data Standing : Type 0 where
  no_space : Standing
  past_end : Standing
  stands : List ℕ → Standing

-- a page within a mini-transaction: whether the records of it that name the page count is settled
-- by the first of them that meets it
pub record Redoing : Type 0 where
  pub standing : Standing
  pub counts : Option Bool

-- whether a record that meets the page counts: the page's LSN was below the end of the
-- mini-transaction when the first one met it
abbrev pub settled : ℕ → Option Bool → List ℕ → Bool
settled end None page = nat_lt (lsn_of page) end
settled end (Some counts) page = counts

-- a record that names a page that isn't there is passed over
abbrev pub named_on : ℕ → Record → Option Bool → Standing → Redoing
named_on end r counts no_space = record { standing = no_space; counts = counts }
named_on end r counts past_end = record { standing = past_end; counts = counts }
named_on end r counts (stands page) =
    record {
      standing = stands (if settled end counts page then effect end r page else page);
      counts = Some (settled end counts page);
    }

-- a record that names the page
abbrev pub named : ℕ → Record → Redoing → Redoing
named end r p = named_on end r p.counts p.standing

-- a space of so many pages has a page of zero bytes, or none past its end
abbrev pub made : ℕ → ℕ → Standing
made number count = if nat_lt number count then stands zero_page else past_end

-- a space that is there gets so many pages, if it has fewer
abbrev pub stretched : ℕ → ℕ → Standing → Standing
stretched number count no_space = no_space
stretched number count past_end = made number count
stretched number count (stands page) = stands page

-- one record of a mini-transaction that ends here, for the page of this number of this space
abbrev pub redone_by : ℕ → ℕ → ℕ → Redoing → Record → Redoing
redone_by end space number p (Init s n kind) =
    if (s == space) && (n == number) then named end (Init s n kind) p else p
redone_by end space number p (Write s n patch) =
    if (s == space) && (n == number) then named end (Write s n patch) p else p
redone_by end space number p (Extend s count) =
    if s == space then record p { standing = stretched number count p.standing } else p
redone_by end space number p (Create s count) =
    if s == space then record p { standing = made number count } else p
redone_by end space number p (Drop s) = if s == space then record p { standing = no_space } else p

abbrev pub redone_records : ℕ → ℕ → ℕ → Redoing → List Record → Redoing
redone_records end space number p [] = p
redone_records end space number p (r ∷ rs) =
    redone_records end space number (redone_by end space number p r) rs

-- mini-transactions in their order, the first of which begins at start
abbrev pub redone_from : ℕ → ℕ → ℕ → Standing → List (List Record) → Standing
redone_from start space number p [] = p
redone_from start space number p (m ∷ ms) =
    redone_from (end_of start m) space number
    (redone_records (end_of start m) space number (record {
      standing = p;
      counts = None;
    }) m).standing
    ms

-- what a log leaves of a page from nothing
abbrev pub redone : ℕ → ℕ → List (List Record) → Standing
redone space number mtrs = redone_from first_lsn space number no_space mtrs

-- how a page stands in a space that is there
abbrev pub standing_at : Option (List ℕ) → Standing
standing_at None = past_end
standing_at (Some page) = stands page

-- how a page stands in an image
abbrev pub standing_in : Option (List (List ℕ)) → ℕ → Standing
standing_in None number = no_space
standing_in (Some pages) number = standing_at (slice_get pages number)

abbrev pub standing_of : Image → ℕ → ℕ → Standing
standing_of image space number = standing_in (finite.get image space) number
