-- An order that a line gives to a disk.
use Rattle.std.proofs.Common.{◌≡◌, ◌&&◌, ℕ, Bool, refl, sym, ap, ◌∙◌, subst, Option, is_some, codes}
use Rattle.std.specs.FinMap as finite
use Rattle.std.specs.Ordering.{nat_cmp}
use Rattle.clone_outside.specs.Disk.{DiskImage, ForTold}
use Rattle.clone_outside.specs.DiskCalls.{DiskState}
use Rattle.clone_outside.specs.declared.disk.DiskOrder.{DiskOrder}
use Rattle.clone_lay.specs.Sized.{AreSizes}
use Rattle.clone_plain.specs.Answers.{Text}
use Rattle.clone_engine.specs.Acts as act
use Rattle.clone_engine.specs.Acts.{Acts}
use Rattle.clone_engine.specs.Disks.{with_order}
use Rattle.clone_engine.specs.Donor as staged
use Rattle.clone_joined.specs.Joined.{IsJoined}
use Rattle.clone_events.specs.Events.{to_donor, to_recipient, ordered}
use Rattle.clone_core.specs.declared.world.Course.{Course}
use Rattle.clone_core.specs.declared.world.Course.TheVariants as course
use Rattle.clone_core.specs.declared.world.TheConstants.{SESSION}
use Rattle.clone_core.specs.System.{System, donor_of}
use Rattle.clone_core.specs.Lines.{State}
use Rattle.clone_core.specs.Called.{Notes}
use Rattle.clone_core.specs.Copied.{GoOnTalking, GoesOn, Holds, KeepsClone, KnowsItsSizes, SaysInProgress, world_of}

-- the donor over another disk
abbrev over : staged.Donor → DiskState → staged.Donor
over d disk = record d { engine = record d.engine { disk = disk } }

-- nothing but the donor's disk has changed
same_donor : (d t : staged.Donor) (disk : DiskState) → t.engine.disk ≡ disk → Acts act.Orders d t → t ≡ over d disk
same_donor d t disk is acts = acts.does.same ∙ ap (over d) (sym (ap (λ (x : staged.Donor). x.engine.disk) acts.does.same) ∙ is)

-- ---- a world as its fields are: w is the same

module _ (w : State) (s : System) (begun : finite.FinMap nat_cmp ℕ) (disturbed doubted shown : Bool) (is : world_of s begun disturbed doubted shown ≡ w) where
  -- its donor's disk got the order
  pub donor_noted : (t : staged.Donor) (order : DiskOrder) (text : Text) → t.engine.disk ≡ with_order order s.donor.engine.disk → Acts act.Orders s.donor t → text ≡ codes "noted"
      → Notes w (ordered to_donor order) text (world_of (record s { donor = t }) begun disturbed doubted shown)
  donor_noted t order text disk acts says =
      let same : t ≡ over s.donor (with_order order s.donor.engine.disk) = same_donor s.donor t (with_order order s.donor.engine.disk) disk acts in
      subst (λ (v : State). Notes v (ordered to_donor order) text (world_of (record s { donor = t }) begun disturbed doubted shown)) is (record {
        happened = record {
          step = ap (λ (x : staged.Donor). record s { donor = x }) same;
          begun = refl;
          clone = record { now = tt; shows = tt; is = refl };
          tells = ap (λ (x : DiskState). is_some x.told && is_some s.recipient.told) disk;
          tasks = refl;
          sees = λ _. tt;
        };
        is = says;
      })

  -- there was no memory for it
  pub donor_kept : (t : staged.Donor) → t.engine.disk ≡ s.donor.engine.disk → Acts act.Orders s.donor t → world_of (record s { donor = t }) begun disturbed doubted shown ≡ w
  donor_kept t disk acts = ap (λ (x : staged.Donor). world_of (record s { donor = x }) begun disturbed doubted shown) (same_donor s.donor t s.donor.engine.disk disk acts) ∙ is

  -- the recipient's disk got it
  pub recipient_noted : (new : DiskState) (order : DiskOrder) (text : Text) → new ≡ with_order order s.recipient → text ≡ codes "noted" → Notes w (ordered to_recipient order) text (world_of (record s { recipient = new }) begun disturbed doubted shown)
  recipient_noted new order text disk says =
      subst (λ (v : State). Notes v (ordered to_recipient order) text (world_of (record s { recipient = new }) begun disturbed doubted shown)) is (record {
        happened = record {
          step = ap (λ (x : DiskState). record s { recipient = x }) disk;
          begun = refl;
          clone = record { now = tt; shows = tt; is = refl };
          tells = ap (λ (x : DiskState). is_some s.donor.engine.disk.told && is_some x.told) disk;
          tasks = refl;
          sees = λ _. tt;
        };
        is = says;
      })

  -- there was no memory for it
  pub recipient_kept : (new : DiskState) → new ≡ s.recipient → world_of (record s { recipient = new }) begun disturbed doubted shown ≡ w
  recipient_kept new disk = ap (λ (x : DiskState). world_of (record s { recipient = x }) begun disturbed doubted shown) disk ∙ is

-- ---- what the recipient's disk holds of the clone stands

module _ (s : System) (new : DiskState) (same : new.told ≡ s.recipient.told) where
  told_sizes : (way : Course) → KnowsItsSizes s way → KnowsItsSizes (record s { recipient = new }) way
  told_sizes course.Absent is = tt
  told_sizes course.Unbegun is = tt
  told_sizes (course.Begun c) is = λ running. subst (λ (o : Option DiskImage). ForTold o (AreSizes c.reception.sizes)) (sym same) (is running)

  told_goes : (way : Course) → GoesOn s way → GoesOn (record s { recipient = new }) way
  told_goes course.Absent is = is
  told_goes course.Unbegun is = tt
  told_goes (course.Begun c) is = λ running. subst (λ (o : Option DiskImage). IsJoined SESSION s.stop s.donor c.reception o c.network) (sym same) (is running)

  told_talks : (way : Course) → GoOnTalking s way → GoOnTalking (record s { recipient = new }) way
  told_talks course.Absent is = is
  told_talks course.Unbegun is = tt
  told_talks (course.Begun c) is = is

  pub recipient_holds : (begun : finite.FinMap nat_cmp ℕ) (disturbed doubted shown : Bool) → Holds (world_of s begun disturbed doubted shown) → Holds (world_of (record s { recipient = new }) begun disturbed doubted shown)
  recipient_holds begun disturbed doubted shown holds =
      let clone = (world_of s begun disturbed doubted shown).clone in
      record {
        terms = holds.terms;
        parts = holds.parts;
        looked = holds.looked;
        short = holds.short;
        unstopped = holds.unstopped;
        sizes = told_sizes s.course holds.sizes;
        marked = subst (SaysInProgress s.course) (sym same) holds.marked;
        goes_on = λ honest. told_goes s.course (holds.goes_on honest);
        talks = λ told honest. told_talks s.course (holds.talks (ap (λ (o : Option DiskImage). is_some s.donor.engine.disk.told && is_some o) (sym same) ∙ told) honest);
        steady = holds.steady;
        keeps = subst (λ (o : Option DiskImage). KeepsClone (donor_of s) (is_some s.donor.engine.disk.told && is_some o) clone o) (sym same) holds.keeps;
      }
