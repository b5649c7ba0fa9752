-- What a change of a disk makes of it, with no write open, and what a stop leaves of the change.
use Rattle.std.proofs.Common.{◌≡◌, ◌≢◌, ◌⊎◌, inl, inr, ℕ, zero, suc, ◌+◌, ◌-◌, ◌≤◌, Bool, true, false, cond, List, [], ◌∷◌, ◌++◌, length, replicate, refl, sym, ap, ◌∙◌, subst, Some, None, is_some, arith}
use Rattle.std.specs.Prelude.{◌==◌, ⊤, map, option_map, unwrap_or}
use Rattle.std.specs.Option.{option_map_or}
use Rattle.std.specs.declared.option.Option.{Option}
use Rattle.std.specs.FinMap as finite
use Rattle.std.specs.FinMap.{get-empty, len-empty, len-insert, len-remove}
use Rattle.std.specs.Ordering.{nat_cmp}
use Rattle.std.specs.Cmp.{nat_cmp_total}
use Rattle.std.proofs.lemmas.Bool.{cases_eq}
use Rattle.std.proofs.lemmas.List.{length-map, length-replicate, map-append}
use Rattle.std.proofs.lemmas.Map.Lookups.{exact_unsigned}
use Rattle.clone_base.proofs.OrderedMaps.{len-again}
use Rattle.clone_base.proofs.MapEntries.{get-set_same, get-set_other, get-removed_same, get-removed_other}
use Rattle.clone_outside.specs.Disk.{DiskImage, Spaces, blank, changed, edited, extended, rest_written, whole, with_page, with_pages, with_space, zero_page}
use Rattle.clone_outside.specs.Stops.{HasNoOpen, IsClosed, Torn, closed, pages_before}
use Rattle.clone_outside.specs.declared.disk.Held.{Held}
use Rattle.clone_memdisk.specs.Changes.{change_of, filled, first_half, half_made, kept, with_change, with_laid}
use Rattle.clone_memdisk.specs.Recorded.{laid}
use Rattle.clone_memdisk.specs.Stored.{interrupted}
use Rattle.clone_memdisk.specs.declared.change.Entry.{Entry}
use Rattle.clone_memdisk.specs.declared.change.Entry.TheVariants.{Half, Rest, Extend, Create, Remove, Mark}

-- what a change of the pages of a space leaves of another
changed_other : (spaces : Spaces) (s q : ℕ) (f : List Held → List Held) (o : Option (List Held)) → q ≢ s → finite.get (changed spaces s f o) q ≡ finite.get spaces q
changed_other spaces s q f None other = refl
changed_other spaces s q f (Some ps) other = get-set_other nat_cmp_total exact_unsigned spaces s (f ps) q other

pages_here : (spaces : Spaces) (s : ℕ) (f : List Held → List Held) (o : Option (List Held)) → finite.get spaces s ≡ o → finite.get (changed spaces s f o) s ≡ option_map f o
pages_here spaces s f None is = is
pages_here spaces s f (Some ps) is = get-set_same nat_cmp_total exact_unsigned spaces s (f ps)

-- the pages of a space are changed alike on both
both_changed : (m c : DiskImage) (s : ℕ) (f g : List Held → List Held) → IsClosed m c → ((ps : List Held) → map closed (f ps) ≡ g (map closed ps)) → IsClosed (record m { spaces = with_pages m.spaces s f }) (record c { spaces = with_pages c.spaces s g })
both_changed m c s f g is same = record { mark = is.mark; spaces = λ q. at q (cases_eq q s) }
  where
    here : (o : Option (List Held)) → option_map g (option_map (map closed) o) ≡ option_map (map closed) (option_map f o)
    here None = refl
    here (Some ps) = ap (λ (x : List Held). Some x) (sym (same ps))

    at : (q : ℕ) → (q ≡ s) ⊎ (q ≢ s) → finite.get (with_pages c.spaces s g) q ≡ option_map (map closed) (finite.get (with_pages m.spaces s f) q)
    at q (inl eq) =
        ap (finite.get (with_pages c.spaces s g)) eq ∙ pages_here c.spaces s g (finite.get c.spaces s) refl ∙ ap (option_map g) (is.spaces s) ∙ here (finite.get m.spaces s)
        ∙ sym (ap (λ (k : ℕ). option_map (map closed) (finite.get (with_pages m.spaces s f) k)) eq ∙ ap (option_map (map closed)) (pages_here m.spaces s f (finite.get m.spaces s) refl))
    at q (inr other) =
        changed_other c.spaces s q g (finite.get c.spaces s) other ∙ is.spaces q ∙ sym (ap (option_map (map closed)) (changed_other m.spaces s q f (finite.get m.spaces s) other))

closed_edited : (n : ℕ) (f g : Held → Held) (ps : List Held) → ((h : Held) → closed (f h) ≡ g (closed h)) → map closed (edited n f ps) ≡ edited n g (map closed ps)
closed_edited n f g [] same = refl
closed_edited zero f g (p ∷ ps) same = ap (λ (h : Held). h ∷ map closed ps) (same p)
closed_edited (suc n) f g (p ∷ ps) same = ap (λ (hs : List Held). closed p ∷ hs) (closed_edited n f g ps same)

closed_zeros : (k : ℕ) → map closed (replicate k zero_page) ≡ replicate k zero_page
closed_zeros zero = refl
closed_zeros (suc k) = ap (λ (hs : List Held). zero_page ∷ hs) (closed_zeros k)

closed_extended : (k : ℕ) (ps : List Held) → map closed (extended k ps) ≡ extended k (map closed ps)
closed_extended k ps =
    map-append closed ps (replicate (k - length ps) zero_page) ∙ ap (λ (hs : List Held). map closed ps ++ hs) (closed_zeros (k - length ps))
    ∙ ap (λ (n : ℕ). map closed ps ++ replicate (k - n) zero_page) (sym (length-map ps closed))

-- a change of a disk, and the same with no write open
pub laid_closed : (x : Entry) (m c : DiskImage) → IsClosed m c → IsClosed (with_change x m) (with_laid x c)
laid_closed (Half s n from) m c is = both_changed m c s (edited n (half_made true from)) (edited n (half_made false from)) is (λ ps. closed_edited n (half_made true from) (half_made false from) ps (λ h. refl))
laid_closed (Rest s n from) m c is = both_changed m c s (edited n (rest_written from)) (edited n (rest_written from)) is (λ ps. closed_edited n (rest_written from) (rest_written from) ps (λ h. refl))
laid_closed (Extend s k) m c is = both_changed m c s (extended k) (extended k) is (closed_extended k)
laid_closed (Create s k) m c is = record { mark = is.mark; spaces = λ q. at q (cases_eq q s) }
  where
    at : (q : ℕ) → (q ≡ s) ⊎ (q ≢ s) → finite.get (finite.insert c.spaces s (replicate k zero_page)) q ≡ option_map (map closed) (finite.get (finite.insert m.spaces s (replicate k zero_page)) q)
    at q (inl eq) =
        ap (finite.get (finite.insert c.spaces s (replicate k zero_page))) eq ∙ get-set_same nat_cmp_total exact_unsigned c.spaces s (replicate k zero_page)
        ∙ ap (λ (hs : List Held). Some hs) (sym (closed_zeros k))
        ∙ sym (ap (λ (x : ℕ). option_map (map closed) (finite.get (finite.insert m.spaces s (replicate k zero_page)) x)) eq ∙ ap (option_map (map closed)) (get-set_same nat_cmp_total exact_unsigned m.spaces s (replicate k zero_page)))
    at q (inr other) =
        get-set_other nat_cmp_total exact_unsigned c.spaces s (replicate k zero_page) q other ∙ is.spaces q ∙ sym (ap (option_map (map closed)) (get-set_other nat_cmp_total exact_unsigned m.spaces s (replicate k zero_page) q other))
laid_closed (Remove s) m c is = record { mark = is.mark; spaces = λ q. at q (cases_eq q s) }
  where
    at : (q : ℕ) → (q ≡ s) ⊎ (q ≢ s) → finite.get (finite.remove c.spaces s) q ≡ option_map (map closed) (finite.get (finite.remove m.spaces s) q)
    at q (inl eq) =
        ap (finite.get (finite.remove c.spaces s)) eq ∙ get-removed_same nat_cmp_total exact_unsigned c.spaces s
        ∙ sym (ap (λ (x : ℕ). option_map (map closed) (finite.get (finite.remove m.spaces s) x)) eq ∙ ap (option_map (map closed)) (get-removed_same nat_cmp_total exact_unsigned m.spaces s))
    at q (inr other) =
        get-removed_other nat_cmp_total exact_unsigned c.spaces s q other ∙ is.spaces q ∙ sym (ap (option_map (map closed)) (get-removed_other nat_cmp_total exact_unsigned m.spaces s q other))
laid_closed (Mark bytes) m c is = record { mark = refl; spaces = is.spaces }

-- a disk with no write open has none
closed_again : (o : Option (List Held)) → option_map (map closed) (option_map (map closed) o) ≡ option_map (map closed) o
closed_again None = refl
closed_again (Some ps) = ap (λ (hs : List Held). Some hs) (twice ps)
  where
    twice : (ps : List Held) → map closed (map closed ps) ≡ map closed ps
    twice [] = refl
    twice (p ∷ ps) = ap (λ (hs : List Held). closed p ∷ hs) (twice ps)

pub closed_twice : (m c : DiskImage) → IsClosed m c → HasNoOpen c
closed_twice m c is = record {
  mark = refl;
  spaces = λ s. is.spaces s ∙ sym (ap (option_map (map closed)) (is.spaces s) ∙ closed_again (finite.get m.spaces s));
}

pub blank_still : HasNoOpen blank
blank_still = record { mark = refl; spaces = λ s. get-empty nat_cmp s ∙ sym (ap (option_map (map closed)) (get-empty nat_cmp s)) }

pub blank_len : finite.len blank.spaces ≡ 0
blank_len = len-empty nat_cmp (List Held)

-- the write of a page is opened
closed_interrupted : (n : ℕ) (ps : List Held) → map closed (edited n interrupted ps) ≡ map closed ps
closed_interrupted n [] = refl
closed_interrupted zero (p ∷ ps) = refl
closed_interrupted (suc n) (p ∷ ps) = ap (λ (hs : List Held). closed p ∷ hs) (closed_interrupted n ps)

pub opened_closed : (s n : ℕ) (m c : DiskImage) → IsClosed m c → IsClosed (with_page m s n interrupted) c
opened_closed s n m c is = record { mark = is.mark; spaces = λ q. is.spaces q ∙ at q (cases_eq q s) }
  where
    here : (o : Option (List Held)) → option_map (map closed) o ≡ option_map (map closed) (option_map (edited n interrupted) o)
    here None = refl
    here (Some ps) = ap (λ (hs : List Held). Some hs) (sym (closed_interrupted n ps))

    at : (q : ℕ) → (q ≡ s) ⊎ (q ≢ s) → option_map (map closed) (finite.get m.spaces q) ≡ option_map (map closed) (finite.get (with_page m s n interrupted).spaces q)
    at q (inl eq) =
        ap (λ (k : ℕ). option_map (map closed) (finite.get m.spaces k)) eq ∙ here (finite.get m.spaces s)
        ∙ sym (ap (λ (k : ℕ). option_map (map closed) (finite.get (with_page m s n interrupted).spaces k)) eq ∙ ap (option_map (map closed)) (pages_here m.spaces s (edited n interrupted) (finite.get m.spaces s) refl))
    at q (inr other) = sym (ap (option_map (map closed)) (changed_other m.spaces s q (edited n interrupted) (finite.get m.spaces s) other))

pub opened_len : (s n : ℕ) (m : DiskImage) → finite.len (with_page m s n interrupted).spaces ≡ finite.len m.spaces
opened_len s n m = at (finite.get m.spaces s) refl
  where
    at : (o : Option (List Held)) → finite.get m.spaces s ≡ o → finite.len (changed m.spaces s (edited n interrupted) o) ≡ finite.len m.spaces
    at None none = refl
    at (Some ps) there = len-again nat_cmp_total exact_unsigned m.spaces s ps (edited n interrupted ps) there

-- WHAT A STOP LEAVES of a change

bytes_of_zeros : (k : ℕ) → map whole (replicate k zero_page.bytes) ≡ replicate k zero_page
bytes_of_zeros zero = refl
bytes_of_zeros (suc k) = ap (λ (hs : List Held). zero_page ∷ hs) (bytes_of_zeros k)

torn_laid : (x : Entry) (m : DiskImage) → Torn (change_of x) m (with_laid x m)
torn_laid (Half s n from) m = (from, refl)
torn_laid (Rest s n from) m = (from, refl)
torn_laid (Extend s k) m =
    (replicate (k - pages_before m s) zero_page.bytes, omega (arith, length-replicate (k - pages_before m s) zero_page.bytes), ap (λ (x : Spaces). record m { spaces = x }) (at (finite.get m.spaces s) refl))
  where
    at : (o : Option (List Held)) → finite.get m.spaces s ≡ o → changed m.spaces s (extended k) o ≡ changed m.spaces s (λ (ps : List Held). ps ++ map whole (replicate (k - pages_before m s) zero_page.bytes)) o
    at None none = refl
    at (Some ps) there =
        let many : pages_before m s ≡ length ps = ap (λ (x : Option (List Held)). unwrap_or (option_map length x) 0) there in
        ap (λ (hs : List Held). finite.insert m.spaces s (ps ++ hs)) (sym (ap (λ (n : ℕ). map whole (replicate (k - n) zero_page.bytes)) many ∙ bytes_of_zeros (k - length ps)))
torn_laid (Create s k) m =
    (replicate k zero_page.bytes, (omega (arith, length-replicate k zero_page.bytes), omega (arith, length-replicate k zero_page.bytes)), ap (λ (hs : List Held). with_space s hs m) (sym (bytes_of_zeros k)))
torn_laid (Remove s) m = inl refl
torn_laid (Mark bytes) m = (Some bytes, (refl, λ i. inl refl), refl)

-- what is kept of a change is nothing, or a change of the same places
abbrev IsKeptOf : Entry → Option Entry → Type 0
IsKeptOf x None = ⊤
IsKeptOf x (Some y) = change_of y ≡ change_of x

kept_first : (x : Entry) → IsKeptOf x (first_half x)
kept_first (Half s n from) = refl
kept_first (Rest s n from) = tt
kept_first (Extend s k) = refl
kept_first (Create s k) = refl
kept_first (Remove s) = refl
kept_first (Mark bytes) = refl

kept_filled : (x : Entry) → IsKeptOf x (Some (filled x))
kept_filled (Half s n from) = refl
kept_filled (Rest s n from) = refl
kept_filled (Extend s k) = refl
kept_filled (Create s k) = refl
kept_filled (Remove s) = refl
kept_filled (Mark bytes) = refl

kept_of : (choice : ℕ) (x : Entry) → IsKeptOf x (kept choice x)
kept_of choice x = at (choice == 0) (choice == 2) (choice == 3)
  where
    at : (a b c : Bool) → IsKeptOf x (cond a None (cond b (first_half x) (cond c (Some (filled x)) (Some x))))
    at true b c = tt
    at false true c = kept_first x
    at false false true = kept_filled x
    at false false false = refl

-- a stop with this choice leaves the disk as it was, or the change torn
pub torn_kept : (choice : ℕ) (m : DiskImage) (x : Entry) → (laid choice m x ≡ m) ⊎ Torn (change_of x) m (laid choice m x)
torn_kept choice m x = at (kept choice x) (kept_of choice x)
  where
    at : (o : Option Entry) → IsKeptOf x o → (option_map_or (λ y. with_laid y m) o m ≡ m) ⊎ Torn (change_of x) m (option_map_or (λ y. with_laid y m) o m)
    at None is = inl refl
    at (Some y) same = inr (subst (λ d. Torn d m (with_laid y m)) same (torn_laid y m))

-- and with no write open
pub laid_still : (choice : ℕ) (m : DiskImage) (x : Entry) → HasNoOpen m → HasNoOpen (laid choice m x)
laid_still choice m x still = at (kept choice x)
  where
    at : (o : Option Entry) → HasNoOpen (option_map_or (λ y. with_laid y m) o m)
    at None = still
    at (Some y) = closed_twice (with_change y m) (with_laid y m) (laid_closed y m m still)

-- HOW MANY SPACES there are after a change

inserted_len : (spaces : Spaces) (s : ℕ) (pages : List Held) → finite.len (finite.insert spaces s pages) ≤ finite.len spaces + 1
inserted_len spaces s pages = at (is_some (finite.get spaces s)) (len-insert nat_cmp_total spaces s pages)
  where
    at : (b : Bool) → finite.len (finite.insert spaces s pages) ≡ cond b (finite.len spaces) (finite.len spaces + 1) → finite.len (finite.insert spaces s pages) ≤ finite.len spaces + 1
    at true is = omega (arith, is)
    at false is = omega (arith, is)

changed_len : (spaces : Spaces) (s : ℕ) (f : List Held → List Held) (o : Option (List Held)) → finite.len (changed spaces s f o) ≤ finite.len spaces + 1
changed_len spaces s f None = omega arith
changed_len spaces s f (Some ps) = inserted_len spaces s (f ps)

removed_len : (spaces : Spaces) (s : ℕ) → finite.len (finite.remove spaces s) ≤ finite.len spaces
removed_len spaces s = at (finite.contains_key spaces s) (len-remove nat_cmp_total spaces s)
  where
    at : (b : Bool) → finite.len (finite.remove spaces s) ≡ cond b (finite.len spaces - 1) (finite.len spaces) → finite.len (finite.remove spaces s) ≤ finite.len spaces
    at true is = omega (arith, is)
    at false is = omega (arith, is)

pub len_change : (x : Entry) (m : DiskImage) → finite.len (with_change x m).spaces ≤ finite.len m.spaces + 1
len_change (Half s n from) m = changed_len m.spaces s (edited n (half_made true from)) (finite.get m.spaces s)
len_change (Rest s n from) m = changed_len m.spaces s (edited n (rest_written from)) (finite.get m.spaces s)
len_change (Extend s k) m = changed_len m.spaces s (extended k) (finite.get m.spaces s)
len_change (Create s k) m = inserted_len m.spaces s (replicate k zero_page)
len_change (Remove s) m = let less = removed_len m.spaces s in omega (arith, less)
len_change (Mark bytes) m = omega arith
