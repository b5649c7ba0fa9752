-- The list of its changes makes what a disk holds, and that is among what a stop may leave.
use Rattle.std.proofs.Common.{◌≡◌, inl, inr, ℕ, List, [], ◌∷◌, ◌++◌, refl, sym, ap, ◌∙◌, subst, Some, None}
use Rattle.std.specs.Prelude.{IfSome, fold, option_map}
use Rattle.std.specs.declared.option.Option.{Option}
use Rattle.clone_outside.specs.Disk.{DiskImage}
use Rattle.clone_outside.specs.Stops.{HasNoOpen, IsClosed, IsHeld, MayLeave, Moments, Notes, Settles, GoesOn, noted, settled, then_at}
use Rattle.clone_memdisk.specs.Changes.{change_of}
use Rattle.clone_memdisk.specs.Contained.{Contained, IsTied, moments_of, synced, stopped}
use Rattle.clone_memdisk.specs.Recorded.{Ended, Lived, Recorded, born, changes_by, ended_by, ends, laid, laid_all, left_by, left_image, present, settles, with_end, with_entry}
use Rattle.clone_memdisk.specs.declared.change.Entry.{Entry}
use Rattle.clone_memdisk.specs.declared.change.TheConstants.{ALL}
use Rattle.clone_memdisk.proofs.LaidLemmas.{blank_still, torn_kept, laid_still}

fold_push : {A B : Type 0} (f : B → A → B) (z : B) (xs : List A) (x : A) → fold f z (xs ++ x ∷ []) ≡ f (fold f z xs) x
fold_push f z [] x = refl
fold_push f z (y ∷ ys) x = fold_push f (f z y) ys x

-- the image is among what a stop may leave, and no write of it is open
record Lives (l : Lived) : Type 0 where
  left : MayLeave l.moments.now l.image
  still : HasNoOpen l.image

changes_live : (choice : ℕ) (l : Lived) (xs : List Entry) → Lives l → Lives (fold (changes_by choice) l xs)
changes_live choice l [] is = is
changes_live choice l (x ∷ xs) is = changes_live choice (changes_by choice l x) xs (record {
  left = (l.image, is.left, torn_kept choice l.image x);
  still = laid_still choice l.image x is.still;
})

ends_live : (l : Lived) (es : List Ended) → Lives l → Lives (fold ends l es)
ends_live l [] is = is
ends_live l (e ∷ es) is = ends_live (ends l e) es (record { left = refl; still = (changes_live e.choice l e.changes is).still })

left_lives : (choice : ℕ) (r : Recorded) → Lives (left_by choice r)
left_lives choice r = changes_live choice (ended_by r) r.since (ends_live born r.ended (record { left = refl; still = blank_still }))

-- the image alone
laid_same : (choice : ℕ) (l : Lived) (xs : List Entry) → (fold (changes_by choice) l xs).image ≡ fold (laid choice) l.image xs
laid_same choice l [] = refl
laid_same choice l (x ∷ xs) = laid_same choice (changes_by choice l x) xs

spans_same : (l : Lived) (es : List Ended) → (fold ends l es).image ≡ fold laid_all l.image es
spans_same l [] = refl
spans_same l (e ∷ es) = spans_same (ends l e) es ∙ ap (λ (m : DiskImage). fold laid_all m es) (laid_same e.choice l e.changes)

pub left_is : (choice : ℕ) (r : Recorded) → (left_by choice r).image ≡ left_image choice r
left_is choice r = laid_same choice (ended_by r) r.since ∙ ap (λ (m : DiskImage). fold (laid choice) m r.since) (spans_same born r.ended)

-- what a stop may leave doesn't depend on what one left
same_moments : (k j : ℕ) (a b : Lived) (xs : List Entry) → a.moments ≡ b.moments → (fold (changes_by k) a xs).moments ≡ (fold (changes_by j) b xs).moments
same_moments k j a b [] is = is
same_moments k j a b (x ∷ xs) is = same_moments k j (changes_by k a x) (changes_by j b x) xs (ap (noted (change_of x)) is)

-- A CHANGE MORE

pub present_noted : (x : Entry) (r : Recorded) → present (with_entry x r) ≡ changes_by ALL (present r) x
present_noted x r = fold_push (changes_by ALL) (ended_by r) r.since x

pub notes_entry : (x : Entry) (list : Option Recorded) → Notes (moments_of list) (moments_of (option_map (with_entry x) list)) (change_of x)
notes_entry x None = inl refl
notes_entry x (Some r) = inr (ap (λ (l : Lived). Some l.moments) (present_noted x r))

-- THE CHANGES SINCE ARE ENDED

pub present_ended : (choice : ℕ) (r : Recorded) → present (with_end choice r) ≡ settles (left_by choice r)
present_ended choice r = fold_push ends born r.ended (record { changes = r.since; choice = choice })

-- what is told is among what a stop may leave
pub tied_held : (c : Contained) → IsTied c → IsHeld (Some c.image) (moments_of c.list)
tied_held c tied = at c.list tied
  where
    at : (list : Option Recorded) → IfSome list (λ r. IsClosed c.image (present r).image) → IsHeld (Some c.image) (moments_of list)
    at None is = tt
    at (Some r) is = (c.image, refl, ((present r).image, is, (left_lives ALL r).left))

-- an image that was left has no write open, and the list makes it
pub left_made : (choice : ℕ) (r : Recorded) → IsClosed (left_image choice r) (present (with_end choice r)).image
left_made choice r =
    subst (λ (l : Lived). IsClosed (left_image choice r) l.image) (sym (present_ended choice r))
    (subst (λ (m : DiskImage). IsClosed m (left_by choice r).image) (left_is choice r) (left_lives choice r).still)

-- all changes were made, as they were when they are ended
pub end_made : (r : Recorded) (image : DiskImage) → IsClosed image (present r).image → IsClosed image (present (with_end ALL r)).image
end_made r image is = subst (λ (l : Lived). IsClosed image l.image) (sym (present_ended ALL r)) is

-- after a sync all of it stays
pub tied_settles : (c : Contained) → IsTied c → Settles (Some c.image) (moments_of c.list) (moments_of (synced c).list)
tied_settles c tied = at c.list tied
  where
    at : (list : Option Recorded) → IfSome list (λ r. IsClosed c.image (present r).image) → Settles (Some c.image) (moments_of list) (moments_of (option_map (with_end ALL) list))
    at None is = refl
    at (Some r) is = (c.image, refl, ((present r).image, is, (left_lives ALL r).left, ap (λ (l : Lived). Some l.moments) (present_ended ALL r)))

-- what a stop leaves is among what it may
pub stop_goes_on : (choice : ℕ) (c : Contained) (r : Recorded) → c.list ≡ Some r → GoesOn (moments_of c.list) (Some (stopped choice c).image) (moments_of (stopped choice c).list)
stop_goes_on choice c r is = subst (λ (list : Option Recorded). GoesOn (moments_of list) (Some (stopped choice (record c { list = list })).image) (moments_of (stopped choice (record c { list = list })).list)) (sym is) at
  where
    same : (left_by choice r).moments ≡ (present r).moments
    same = same_moments choice ALL (ended_by r) (ended_by r) r.since refl

    at : GoesOn (moments_of (Some r)) (Some (stopped choice (record c { list = Some r })).image) (moments_of (stopped choice (record c { list = Some r })).list)
    at = (
      (left_by choice r).image,
      subst (λ (ms : Moments). MayLeave ms.now (left_by choice r).image) same (left_lives choice r).left,
      (left_lives choice r).still,
      ap (λ (m : DiskImage). Some m) (sym (left_is choice r)),
      ap (λ (l : Lived). Some l.moments) (present_ended choice r) ∙ ap (λ (ms : Moments). Some (then_at (settled (left_by choice r).image) ms)) same,
    )
