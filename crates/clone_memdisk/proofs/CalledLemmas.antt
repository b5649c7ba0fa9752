-- A call of a disk in memory, and an order: what the disk tells then.
use Rattle.std.proofs.Common.{◌≡◌, ◌≢◌, ◌⊎◌, inl, inr, ℕ, ◌≤◌, List, [], ◌∷◌, ◌++◌, length, drop, refl, sym, ap, ◌∙◌, subst, Some, None, arith}
use Rattle.std.specs.Prelude.{Result, Ok, Err, IsErrAnd, option_map, slice_get}
use Rattle.std.specs.declared.option.Option.{Option}
use Rattle.std.specs.FinMap as finite
use Rattle.std.specs.FinMap.{same_map}
use Rattle.std.specs.Cmp.{nat_cmp_total}
use Rattle.std.proofs.lemmas.Bool.{cases_eq}
use Rattle.std.proofs.lemmas.Map.Lookups.{exact_unsigned}
use Rattle.clone_base.proofs.MapEntries.{get-removed_same, get-removed_other}
use Rattle.clone_outside.specs.Calls.{Calls}
use Rattle.clone_outside.specs.Causes.{Rose, raised}
use Rattle.clone_outside.specs.Disk.{DiskImage, Opens, Spaces, with_page, with_removed}
use Rattle.clone_outside.specs.DiskCalls.{Changes, DiskState, IsGiven, Syncs}
use Rattle.clone_outside.specs.Stops.{DiskChange, Notes, Settles}
use Rattle.clone_outside.specs.Stops as change
use Rattle.clone_outside.specs.declared.Refusal.{Refusal}
use Rattle.clone_outside.specs.declared.Refusal.TheVariants.{Fault, NoMemory}
use Rattle.clone_outside.specs.declared.disk.DiskOrder.{DiskOrder}
use Rattle.clone_outside.specs.declared.disk.DiskOrder.TheVariants.{FailAt, Tear, Stop, Again}
use Rattle.clone_outside.specs.declared.disk.Held.{Held}
use Rattle.clone_memdisk.specs.Changes.{change_of, with_change}
use Rattle.clone_memdisk.specs.Contained.{Contained, IsRemoved, IsTied, RemovedWith, changed_by, left_in, moments_of, synced, stopped}
use Rattle.clone_memdisk.specs.Halts.{Fails, Goes}
use Rattle.clone_memdisk.specs.Recorded.{Recorded, with_end}
use Rattle.clone_memdisk.specs.Stored.{Stored, interrupted, ordered, resumed, state_of}
use Rattle.clone_memdisk.specs.declared.change.Entry.{Entry}
use Rattle.clone_memdisk.specs.declared.change.Entry.TheVariants.{Remove}
use Rattle.clone_memdisk.specs.declared.halts.Halt.{Halt}
use Rattle.clone_memdisk.proofs.LivedLemmas.{notes_entry, stop_goes_on, tied_held, tied_settles}
use Rattle.clone_memdisk.proofs.Spaces.{interrupted_opens}

-- what is told of contents, by the count of faults and the orders
abbrev pub tells : Contained → ℕ → List DiskOrder → DiskState
tells c faults orders = record { told = Some c.image; stops = moments_of c.list; failures = faults; orders = orders }

abbrev pub told : Contained → Option DiskImage
told c = Some c.image

same_most : (n m : ℕ) → m ≡ n → n ≤ m
same_most n m is = omega (arith, is)

some_same : {A : Type 0} {x y : A} → Some x ≡ Some y → x ≡ y
some_same is = cc (is)

pub fails_rose : {a b : Calls} {hs gs : List Halt} → Fails a b hs gs → Rose a.faults b.faults
fails_rose {a} {b} f = same_most (raised a.faults) b.faults (ap (λ (x : Calls). x.faults) f.calls)

pub memory_ran_out : {T : Type 0} (r : Result T Refusal) → IsErrAnd r (λ e. e ≡ NoMemory) → r ≡ Err NoMemory
memory_ran_out (Ok x) is = absurd is
memory_ran_out (Err e) is = ap (λ (x : Refusal). Err x) is

pub goes_same : {a b : Calls} {hs gs : List Halt} → Goes a b hs gs → b.faults ≡ a.faults
goes_same g = ap (λ (x : Calls). x.faults) g.calls

-- a space that isn't there is removed
removed_none : (m : DiskImage) (s : ℕ) → finite.get m.spaces s ≡ None → with_removed m s ≡ m
removed_none m s none = ap (λ (x : Spaces). record m { spaces = x }) (same_map nat_cmp_total exact_unsigned _ _ (λ q. at q (cases_eq q s)))
  where
    at : (q : ℕ) → (q ≡ s) ⊎ (q ≢ s) → finite.get (finite.remove m.spaces s) q ≡ finite.get m.spaces q
    at q (inl eq) = ap (finite.get (finite.remove m.spaces s)) eq ∙ get-removed_same nat_cmp_total exact_unsigned m.spaces s ∙ sym (ap (finite.get m.spaces) eq ∙ none)
    at q (inr other) = get-removed_other nat_cmp_total exact_unsigned m.spaces s q other

-- A CHANGE from contents to others, between two counts of faults
module _ (a b : Contained) (f g : ℕ) (orders : List DiskOrder) (tied : IsTied b) where
  module _ (x : DiskChange) (step : DiskImage → DiskImage) (Faults : Option DiskImage → Option DiskImage → Type 0) where
    pub failed_change : {T : Type 0} → Faults (told a) (told b) → b.list ≡ a.list → f ≤ g → Rose f g → Changes {T = T} x step Faults (tells a f orders) (tells b g orders) (Err Fault)
    failed_change faults same later rose = record {
      done = tt;
      failed = λ _. faults;
      memory = λ e. absurd (cc (e));
      stops = inl (ap moments_of same);
      held = tied_held b tied;
      orders = refl;
      later = later;
      fault = λ _. rose;
    }

    pub refused_change : {T : Type 0} → b ≡ a → g ≡ f → Changes {T = T} x step Faults (tells a f orders) (tells b g orders) (Err NoMemory)
    refused_change same count = record {
      done = tt;
      failed = λ e. absurd (cc (e));
      memory = λ _. ap told same;
      stops = inl (ap (λ (c : Contained). moments_of c.list) same);
      held = tied_held b tied;
      orders = refl;
      later = omega (arith, count);
      fault = λ e. absurd (cc (e));
    }

    done_change : {T : Type 0} (r : T) → told b ≡ Some (step a.image) → Notes (moments_of a.list) (moments_of b.list) x → g ≡ f → Changes {T = T} x step Faults (tells a f orders) (tells b g orders) (Ok r)
    done_change r done notes count = record {
      done = done;
      failed = λ e. absurd (cc (e));
      memory = λ e. absurd (cc (e));
      stops = notes;
      held = tied_held b tied;
      orders = refl;
      later = omega (arith, count);
      fault = λ e. absurd (cc (e));
    }

  pub made_change : {T : Type 0} (r : T) (x : Entry) (Faults : Option DiskImage → Option DiskImage → Type 0) → b ≡ changed_by x a → g ≡ f → Changes {T = T} (change_of x) (with_change x) Faults (tells a f orders) (tells b g orders) (Ok r)
  made_change r x Faults is count = done_change (change_of x) (with_change x) Faults r (ap told is) (subst (λ (c : Contained). Notes (moments_of a.list) (moments_of c.list) (change_of x)) (sym is) (notes_entry x a.list)) count

  pub removed_change : {T : Type 0} (r : T) (s : ℕ) (Faults : Option DiskImage → Option DiskImage → Type 0) → IsRemoved s a b → g ≡ f → Changes {T = T} (change.Remove s) (λ m. with_removed m s) Faults (tells a f orders) (tells b g orders) (Ok r)
  removed_change {T} r s Faults is count = at (finite.get a.image.spaces s) refl is
    where
      made_by : told b ≡ Some (with_removed a.image s) → Notes (moments_of a.list) (moments_of b.list) (change.Remove s) → Changes {T = T} (change.Remove s) (λ m. with_removed m s) Faults (tells a f orders) (tells b g orders) (Ok r)
      made_by done notes = done_change (change.Remove s) (λ m. with_removed m s) Faults r done notes count

      at : (o : Option (List Held)) → finite.get a.image.spaces s ≡ o → RemovedWith (option_map length o) s a b → Changes {T = T} (change.Remove s) (λ m. with_removed m s) Faults (tells a f orders) (tells b g orders) (Ok r)
      at None none same = made_by (ap told same ∙ ap (λ m. Some m) (sym (removed_none a.image s none))) (inl (ap (λ (c : Contained). moments_of c.list) same))
      at (Some pages) there made = made_by (ap told made) (subst (λ (c : Contained). Notes (moments_of a.list) (moments_of c.list) (change.Remove s)) (sym made) (notes_entry (Remove s) a.list))

-- the write of a page was opened
pub opens_by : (a b : Contained) (s n : ℕ) → b ≡ record a { image = with_page a.image s n interrupted } → Opens s n (told a) (told b)
opens_by a b s n is = subst (λ (c : Contained). Opens s n (told a) (told c)) (sym is) (interrupted_opens a.image.spaces _ a.image.mark s n refl)

-- A SYNC

module _ (a b : Contained) (f g : ℕ) (orders : List DiskOrder) where
  pub failed_sync : {T : Type 0} → b ≡ a → f ≤ g → Rose f g → Syncs {T = T} (tells a f orders) (tells b g orders) (Err Fault)
  failed_sync same later rose = record { told = ap told same; stops = ap (λ (c : Contained). moments_of c.list) same; orders = refl; later = later; fault = λ _. rose }

  pub refused_sync : {T : Type 0} → b ≡ a → g ≡ f → Syncs {T = T} (tells a f orders) (tells b g orders) (Err NoMemory)
  refused_sync same count = record { told = ap told same; stops = ap (λ (c : Contained). moments_of c.list) same; orders = refl; later = omega (arith, count); fault = λ e. absurd (cc (e)) }

  pub done_sync : {T : Type 0} (r : T) → IsTied a → b ≡ synced a → g ≡ f → Syncs {T = T} (tells a f orders) (tells b g orders) (Ok r)
  done_sync r tied is count = record {
    told = ap told is;
    stops = subst (λ (c : Contained). Settles (told a) (moments_of a.list) (moments_of c.list)) (sym is) (tied_settles a tied);
    orders = refl;
    later = omega (arith, count);
    fault = λ e. absurd (cc (e));
  }

-- AN ORDER

-- the first of the stops, if there is one
pub first_resumed : (hs : List Halt) (h : Halt) (c : Contained) → Some h ≡ slice_get hs 0 → resumed hs c ≡ stopped h.choice c
first_resumed [] h c is = absurd (cc (is))
first_resumed (x ∷ hs) h c is = ap (λ (y : Halt). stopped y.choice c) (sym (some_same is))

pub none_resumed : (hs : List Halt) (c : Contained) → None ≡ slice_get hs 0 → (resumed hs c ≡ c) × (drop 1 hs ≡ hs)
none_resumed [] c is = (refl, refl)
none_resumed (x ∷ hs) c is = absurd (cc (is))

-- a disk that keeps no list has nothing to go on with
stopped_none : (choice : ℕ) (c : Contained) → c.list ≡ None → stopped choice c ≡ c
stopped_none choice c none =
    ap (λ (list : Option Recorded). record { image = left_in choice c.image list; list = option_map (with_end choice) list }) none ∙ sym (ap (λ (list : Option Recorded). record { image = c.image; list = list }) none)

again_given : (c : Contained) (f : ℕ) (orders : List DiskOrder) (hs : List Halt) → IsGiven Again (tells c f orders) (tells (resumed hs c) f (orders ++ Again ∷ []))
again_given c f orders [] = inl refl
again_given c f orders (h ∷ hs) = at c.list refl
  where
    at : (list : Option Recorded) → c.list ≡ list → IsGiven Again (tells c f orders) (tells (stopped h.choice c) f (orders ++ Again ∷ []))
    at None none = inl (ap (λ (x : Contained). tells x f (orders ++ Again ∷ [])) (stopped_none h.choice c none))
    at (Some r) is = inr (record { goes_on = stop_goes_on h.choice c r is; failures = refl; orders = refl })

given_by : (order : DiskOrder) (old : Stored) → IsGiven order (state_of old) (state_of (ordered order old))
given_by (FailAt call) old = refl
given_by (Tear byte) old = refl
given_by (Stop calls choice) old = refl
given_by Again old = again_given old.contents old.calls.faults old.orders old.halts

pub ordered_given : (order : DiskOrder) (old new : Stored) → new ≡ ordered order old → IsGiven order (state_of old) (state_of new)
ordered_given order old new is = subst (λ (d : Stored). IsGiven order (state_of old) (state_of d)) (sym is) (given_by order old)
