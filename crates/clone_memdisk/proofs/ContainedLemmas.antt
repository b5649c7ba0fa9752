-- A disk's contents, once a change was made and kept.
use Rattle.std.proofs.Common.{◌≡◌, ℕ, ◌+◌, ◌≤◌, List, length, refl, sym, ap, ◌∙◌, subst, Some, None, arith}
use Rattle.std.specs.Prelude.{Result, Ok, Err, OnOk, OnErr, option_map}
use Rattle.std.specs.declared.option.Option.{Option}
use Rattle.std.specs.FinMap as finite
use Rattle.std.specs.Cmp.{nat_cmp_total}
use Rattle.std.proofs.lemmas.Map.Lookups.{exact_unsigned}
use Rattle.clone_base.proofs.OrderedMaps.{len-without}
use Rattle.clone_outside.specs.Disk.{DiskImage, blank, with_page, with_removed, page_count}
use Rattle.clone_outside.specs.Stops.{IsClosed}
use Rattle.clone_outside.specs.declared.disk.Held.{Held}
use Rattle.clone_memdisk.specs.Changes.{with_change}
use Rattle.clone_memdisk.specs.Contained.{Contained, HasRoom, IsKept, IsKeptList, IsRemoved, IsTied, KeepsList, Notes, RemovedWith, changed_by, stopped}
use Rattle.clone_memdisk.specs.Recorded.{Lived, Recorded, Roomy, left_image, present, unchanged, with_end, with_entry}
use Rattle.clone_memdisk.specs.Stored.{interrupted}
use Rattle.clone_memdisk.specs.declared.change.Entry.{Entry}
use Rattle.clone_memdisk.specs.declared.change.Entry.TheVariants.{Remove}
use Rattle.clone_memdisk.specs.declared.change.TheConstants.{ALL}
use Rattle.clone_memdisk.proofs.LaidLemmas.{blank_len, blank_still, laid_closed, len_change, opened_closed, opened_len}
use Rattle.clone_memdisk.proofs.LivedLemmas.{end_made, left_made, present_noted}

abbrev listed : Option Roomy → Option Recorded
listed list = option_map (λ r. r.list) list

pub kept_tied : (image : DiskImage) (list : Option Roomy) → IsKept image list → IsTied (record { image = image; list = option_map (λ r. r.list) list })
kept_tied image None is = tt
kept_tied image (Some r) is = is.makes

pub same_list : (old new : Option Roomy) → KeepsList old new → option_map (λ r. r.list) new ≡ option_map (λ r. r.list) old
same_list None new is = ap listed is
same_list (Some old) new (r, is, same, more) = ap listed is ∙ ap (λ (x : Recorded). Some x) same

-- more room was made
pub kept_roomier : (image : DiskImage) (old new : Option Roomy) → IsKept image old → KeepsList old new → IsKept image new
kept_roomier image None new is same = subst (IsKept image) (sym same) tt
kept_roomier image (Some old) new is (r, new_is, same, more) = subst (IsKept image) (sym new_is) (record {
  makes = subst (λ (x : Recorded). IsClosed image (present x).image) (sym same) is.makes;
  room = let was = is.room in omega (arith, was, more);
})

pub noted_list : (x : Entry) (old new : Option Roomy) → Notes x old new → option_map (λ r. r.list) new ≡ option_map (with_entry x) (option_map (λ r. r.list) old)
noted_list x None new is = ap listed is
noted_list x (Some old) new (r, is, same, less) = ap listed is ∙ ap (λ (y : Recorded). Some y) same

makes_noted : (x : Entry) (image : DiskImage) (list : Recorded) → IsClosed image (present list).image → IsClosed (with_change x image) (present (with_entry x list)).image
makes_noted x image list makes = subst (λ (l : Lived). IsClosed (with_change x image) l.image) (sym (present_noted x list)) (laid_closed x image (present list).image makes)

-- a change was made, for which there was room
pub kept_changed : (x : Entry) (image : DiskImage) (old mid new : Option Roomy) → IsKept image old → KeepsList old mid → HasRoom (finite.len image.spaces + 2) mid → Notes x mid new → IsKept (with_change x image) new
kept_changed x image old mid new is keeps room notes = at mid room (kept_roomier image old mid is keeps) notes
  where
    at : (o : Option Roomy) → HasRoom (finite.len image.spaces + 2) o → IsKept image o → Notes x o new → IsKept (with_change x image) new
    at None room kept notes = subst (IsKept (with_change x image)) (sym notes) tt
    at (Some m) room kept (r, new_is, same, less) = subst (IsKept (with_change x image)) (sym new_is) (record {
      makes = subst (λ (y : Recorded). IsClosed (with_change x image) (present y).image) (sym same) (makes_noted x image m.list kept.makes);
      room = let most = len_change x image in omega (arith, room, less, most);
    })

-- nothing was changed yet
pub kept_fresh : (image : DiskImage) (r : Roomy) → image ≡ blank → r.list ≡ unchanged → IsKept image (Some r)
kept_fresh image r is fresh = record {
  makes = subst (λ (m : DiskImage). IsClosed m (present r.list).image) (sym is) (subst (λ (x : Recorded). IsClosed blank (present x).image) (sym fresh) blank_still);
  room = let none = ap (λ (m : DiskImage). finite.len m.spaces) is ∙ blank_len in omega (arith, none);
}

-- the write of a page was opened
pub kept_opened : (image new : DiskImage) (s n : ℕ) (list : Option Roomy) → new ≡ with_page image s n interrupted → IsKept image list → IsKept new list
kept_opened image new s n None opens is = tt
kept_opened image new s n (Some r) opens is = record {
  makes = subst (λ (m : DiskImage). IsClosed m (present r.list).image) (sym opens) (opened_closed s n image (present r.list).image is.makes);
  room = let same = ap (λ (m : DiskImage). finite.len m.spaces) opens ∙ opened_len s n image in let room = is.room in omega (arith, same, room);
}

-- a space that is there
counted_there : (image : DiskImage) (s count : ℕ) (o : Option (List Held)) → finite.get image.spaces s ≡ o → page_count image s ≡ Some count → finite.len image.spaces ≡ finite.len (with_removed image s).spaces + 1
counted_there image s count None none is = absurd (let e = sym is ∙ ap (option_map length) none in cc)
counted_there image s count (Some pages) there is = len-without nat_cmp_total exact_unsigned image.spaces s pages there

pub one_more : (image : DiskImage) (s count : ℕ) → page_count image s ≡ Some count → finite.len image.spaces ≡ finite.len (with_removed image s).spaces + 1
one_more image s count is = counted_there image s count (finite.get image.spaces s) refl is

pub room_to_remove : (image : DiskImage) (s count : ℕ) (list : Option Roomy) → page_count image s ≡ Some count → IsKept image list → HasRoom 1 list
room_to_remove image s count None there is = tt
room_to_remove image s count (Some r) there is = let more = one_more image s count there in let room = is.room in omega (arith, more, room)

-- its removal was kept
pub kept_removed : (image : DiskImage) (s count : ℕ) (old new : Option Roomy) → page_count image s ≡ Some count → IsKept image old → Notes (Remove s) old new → IsKept (with_removed image s) new
kept_removed image s count None new there is notes = subst (IsKept (with_removed image s)) (sym notes) tt
kept_removed image s count (Some old) new there is (r, new_is, same, less) = subst (IsKept (with_removed image s)) (sym new_is) (record {
  makes = subst (λ (y : Recorded). IsClosed (with_removed image s) (present y).image) (sym same) (makes_noted (Remove s) image old.list is.makes);
  room = let more = one_more image s count there in let room = is.room in omega (arith, more, room, less);
})

-- WHAT CONTRACTS SEE of an image and a list

abbrev pub contained : DiskImage → Option Roomy → Contained
contained image list = record { image = image; list = option_map (λ r. r.list) list }

-- nothing but the room of the list is another
pub contents_same : (image new : DiskImage) (old mid : Option Roomy) → new ≡ image → KeepsList old mid → contained new mid ≡ contained image old
contents_same image new old mid same keeps =
    ap (λ (m : DiskImage). contained m mid) same ∙ ap (λ (list : Option Recorded). record { image = image; list = list }) (same_list old mid keeps)

-- a change was made and kept, for which room was made
pub kept_made : (x : Entry) (image new : DiskImage) (old mid last : Option Roomy) (n : ℕ) → new ≡ with_change x image → n ≡ finite.len image.spaces → IsKept image old → KeepsList old mid → HasRoom (n + 2) mid → Notes x mid last → IsKept new last
kept_made x image new old mid last n made many is keeps room notes =
    subst (λ (m : DiskImage). IsKept m last) (sym made) (kept_changed x image old mid last is keeps (subst (λ (k : ℕ). HasRoom (k + 2) mid) many room) notes)

pub contents_changed : (x : Entry) (image new : DiskImage) (old mid last : Option Roomy) → new ≡ with_change x image → KeepsList old mid → Notes x mid last → contained new last ≡ changed_by x (contained image old)
contents_changed x image new old mid last made keeps notes =
    ap (λ (m : DiskImage). contained m last) made
    ∙ ap (λ (list : Option Recorded). record { image = with_change x image; list = list }) (noted_list x mid last notes ∙ ap (option_map (with_entry x)) (same_list old mid keeps))

pub room_for_one : (n : ℕ) (list : Option Roomy) → HasRoom (n + 2) list → HasRoom 1 list
room_for_one n None room = tt
room_for_one n (Some r) room = omega (arith, room)

-- a space that is there was removed
pub kept_taken : (image new : DiskImage) (s count : ℕ) (old last : Option Roomy) → page_count image s ≡ Some count → new ≡ with_removed image s → IsKept image old → Notes (Remove s) old last → IsKept new last
kept_taken image new s count old last there made is notes = subst (λ (m : DiskImage). IsKept m last) (sym made) (kept_removed image s count old last there is notes)

pub contents_removed : (image new : DiskImage) (s count : ℕ) (old last : Option Roomy) → page_count image s ≡ Some count → new ≡ with_removed image s → Notes (Remove s) old last → IsRemoved s (contained image old) (contained new last)
contents_removed image new s count old last there made notes =
    subst (λ (o : Option ℕ). RemovedWith o s (contained image old) (contained new last)) (sym there)
    (ap (λ (m : DiskImage). contained m last) made ∙ ap (λ (list : Option Recorded). record { image = with_removed image s; list = list }) (noted_list (Remove s) old last notes))

-- the space isn't there
pub contents_left : (contents : Contained) (s : ℕ) → page_count contents.image s ≡ None → IsRemoved s contents contents
contents_left contents s none = subst (λ (o : Option ℕ). RemovedWith o s contents contents) (sym none) refl

-- the changes since were ended
module _ (image : DiskImage) (old new : Roomy) where
  pub kept_synced : {T E : Type 0} (result : Result T E) (n : ℕ) → OnOk result (new.list ≡ with_end ALL old.list) → OnOk result (n ≤ new.room) → OnErr result (new ≡ old) → n ≡ finite.len image.spaces → IsKeptList image old → IsKeptList image new
  kept_synced (Ok x) n ended room same many is = record {
    makes = subst (λ (r : Recorded). IsClosed image (present r).image) (sym ended) (end_made old.list image is.makes);
    room = omega (arith, room, many);
  }
  kept_synced (Err e) n ended room same many is = subst (IsKeptList image) (sym same) is

  pub kept_stopped : (choice n : ℕ) → image ≡ left_image choice old.list → new.list ≡ with_end choice old.list → n ≤ new.room → n ≡ finite.len image.spaces → IsKeptList image new
  kept_stopped choice n left ended room many = record {
    makes =
        subst (λ (r : Recorded). IsClosed image (present r).image) (sym ended)
        (subst (λ (m : DiskImage). IsClosed m (present (with_end choice old.list)).image) (sym left) (left_made choice old.list));
    room = omega (arith, room, many);
  }

  pub contents_stopped : (was : DiskImage) (choice : ℕ) → image ≡ left_image choice old.list → new.list ≡ with_end choice old.list → contained image (Some new) ≡ stopped choice (contained was (Some old))
  contents_stopped was choice left ended =
      ap (λ (m : DiskImage). contained m (Some new)) left ∙ ap (λ (list : Recorded). record { image = left_image choice old.list; list = Some list }) ended
