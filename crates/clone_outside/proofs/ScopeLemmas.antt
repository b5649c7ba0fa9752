-- What of a disk stays through a stop within a call that changes some of it.
use Rattle.std.proofs.Common.{◌≡◌, ◌≢◌, ◌⊎◌, inl, inr, ⊎_elim, ℕ, suc, List, [], ◌∷◌, ◌++◌, length, drop, get_or, refl, sym, ap, ◌∙◌, subst, Some, None, arith, codes, replicate}
use Rattle.std.specs.Prelude.{map, take, option_and_then, option_map, slice_get, unwrap_or}
use Rattle.std.specs.Int.{w64, to_be_bytes}
use Rattle.std.specs.declared.option.Option.{Option}
use Rattle.std.specs.FinMap as finite
use Rattle.std.specs.Cmp.{nat_cmp_total}
use Rattle.std.proofs.lemmas.Grind.{same_number_lists}
use Rattle.std.proofs.lemmas.List.{length-set}
use Rattle.std.proofs.lemmas.Map.Lookups.{exact_unsigned}
use Rattle.clone_base.proofs.MapEntries.{get-set_same, get-removed_other, slice_get-set_other}
use Rattle.clone_outside.specs.Disk.{DiskImage, Spaces, IsSameBut, changed, edited, whole, with_page, with_removed, zero_page}
use Rattle.clone_outside.specs.Mark.{end_bytes}
use Rattle.clone_outside.specs.Scopes.{OnlyMark, OnlyPage}
use Rattle.clone_outside.specs.Stops.{WriteHalf, WriteRest, Extend, Create, Remove, WriteMark, Torn, IsTornMark, half_torn, rest_torn}
use Rattle.clone_outside.specs.declared.disk.Held.{Held}
use Rattle.clone_outside.specs.declared.mark.CloneEnd.{CloneEnd}
use Rattle.clone_outside.proofs.FaultLemmas.{pages_change, space_changes}
use Rattle.clone_outside.proofs.StopLemmas.{IsPreorder}

-- ONE SPACE

pub same_but_order : (s : ℕ) → IsPreorder (IsSameBut s)
same_but_order s = record {
  itself = λ m. record { mark = refl; others = λ q other. refl };
  then = λ a b c first second. record {
    mark = second.mark ∙ first.mark;
    others = λ q other. second.others q other ∙ first.others q other;
  };
}

-- a change that makes this of the disk
by_step : (s : ℕ) (d c e : DiskImage) → c ≡ e → IsSameBut s d e → IsSameBut s d c
by_step s d c e is same = subst (IsSameBut s d) (sym is) same

pub half_only : (s n : ℕ) (d c : DiskImage) → Torn (WriteHalf s n) d c → IsSameBut s d c
half_only s n d c (bytes, is) = by_step s d c _ is (pages_change s (edited n (half_torn bytes)) d)

pub rest_only : (s n : ℕ) (d c : DiskImage) → Torn (WriteRest s n) d c → IsSameBut s d c
rest_only s n d c (bytes, is) = by_step s d c _ is (pages_change s (edited n (rest_torn bytes)) d)

pub extend_only : (s k : ℕ) (d c : DiskImage) → Torn (Extend s k) d c → IsSameBut s d c
extend_only s k d c (more, most, is) = by_step s d c _ is (pages_change s (λ ps. ps ++ map whole more) d)

pub create_only : (s k : ℕ) (d c : DiskImage) → Torn (Create s k) d c → IsSameBut s d c
create_only s k d c (pages, between, is) = by_step s d c _ is (space_changes s (map whole pages) d)

removes : (s : ℕ) (m : DiskImage) → IsSameBut s m (with_removed m s)
removes s m = record { mark = refl; others = λ q other. get-removed_other nat_cmp_total exact_unsigned m.spaces s q other }

pub remove_only : (s : ℕ) (d c : DiskImage) → Torn (Remove s) d c → IsSameBut s d c
remove_only s d c (inl is) = by_step s d c _ is (removes s d)
remove_only s d c (inr (count, is)) = by_step s d c _ is (pages_change s (take count) d)

-- ONE PAGE

pub only_page_order : (s n : ℕ) → IsPreorder (OnlyPage s n)
only_page_order s n = record {
  itself = λ m. record { within = (same_but_order s).itself m; count = refl; others = λ k other. refl };
  then = λ a b c first second. record {
    within = (same_but_order s).then a b c first.within second.within;
    count = second.count ∙ first.count;
    others = λ k other. second.others k other ∙ first.others k other;
  };
}

-- the pages of a space where one is edited
edited_count : (n : ℕ) (f : Held → Held) (o : Option (List Held)) → option_map length (option_map (edited n f) o) ≡ option_map length o
edited_count n f None = refl
edited_count n f (Some ps) = ap (λ (k : ℕ). Some k) (length-set ps n (f (get_or ps n zero_page)))

edited_other : (n k : ℕ) (f : Held → Held) (o : Option (List Held)) → k ≢ n → option_and_then (λ ps. slice_get ps k) (option_map (edited n f) o) ≡ option_and_then (λ ps. slice_get ps k) o
edited_other n k f None other = refl
edited_other n k f (Some ps) other = slice_get-set_other ps n k (f (get_or ps n zero_page)) other

pages_here : (spaces : Spaces) (s : ℕ) (f : List Held → List Held) (o : Option (List Held)) → finite.get spaces s ≡ o → finite.get (changed spaces s f o) s ≡ option_map f o
pages_here spaces s f None is = is
pages_here spaces s f (Some ps) is = get-set_same nat_cmp_total exact_unsigned spaces s (f ps)

pub edits_page : (s n : ℕ) (f : Held → Held) (d : DiskImage) → OnlyPage s n d (with_page d s n f)
edits_page s n f d =
    let here = pages_here d.spaces s (edited n f) (finite.get d.spaces s) refl in
    record {
      within = pages_change s (edited n f) d;
      count = ap (option_map length) here ∙ edited_count n f (finite.get d.spaces s);
      others = λ k other. ap (option_and_then (λ (ps : List Held). slice_get ps k)) here ∙ edited_other n k f (finite.get d.spaces s) other;
    }

pub half_page : (s n : ℕ) (d c : DiskImage) → Torn (WriteHalf s n) d c → OnlyPage s n d c
half_page s n d c (bytes, is) = subst (OnlyPage s n d) (sym is) (edits_page s n (half_torn bytes) d)

pub rest_page : (s n : ℕ) (d c : DiskImage) → Torn (WriteRest s n) d c → OnlyPage s n d c
rest_page s n d c (bytes, is) = subst (OnlyPage s n d) (sym is) (edits_page s n (rest_torn bytes) d)

-- THE MARK

pub only_mark : (bytes : List ℕ) (d c : DiskImage) → Torn (WriteMark bytes) d c → OnlyMark bytes d c
only_mark bytes d c (mark, torn, is) = record {
  spaces = ap (λ (m : DiskImage). m.spaces) is;
  mark = inr (subst (λ (o : Option (List ℕ)). IsTornMark bytes d.mark o) (sym (ap (λ (m : DiskImage). m.mark) is)) torn);
}

torn_twice : (bytes : List ℕ) (a b c : Option (List ℕ)) → IsTornMark bytes a b → IsTornMark bytes b c → IsTornMark bytes a c
torn_twice bytes a b None first second = subst (λ (o : Option (List ℕ)). IsTornMark bytes a o) second first
torn_twice bytes a None (Some c) first second = (second.0, λ i. ⊎_elim (λ e. inl e) (λ e. inr (e ∙ ap (λ (o : Option (List ℕ)). get_or (unwrap_or o []) i 0) (sym first))) (second.1 i))
torn_twice bytes a (Some b) (Some c) first second = (second.0, λ i. ⊎_elim (λ e. inl e) (λ e. ⊎_elim (λ f. inl (e ∙ f)) (λ f. inr (e ∙ f)) (first.1 i)) (second.1 i))

marks_then : (bytes : List ℕ) (a b c : Option (List ℕ)) → (b ≡ a) ⊎ IsTornMark bytes a b → (c ≡ b) ⊎ IsTornMark bytes b c → (c ≡ a) ⊎ IsTornMark bytes a c
marks_then bytes a b c (inl e) (inl f) = inl (f ∙ e)
marks_then bytes a b c (inl e) (inr t) = inr (subst (λ (o : Option (List ℕ)). IsTornMark bytes o c) e t)
marks_then bytes a b c (inr t) (inl f) = inr (subst (λ (o : Option (List ℕ)). IsTornMark bytes a o) (sym f) t)
marks_then bytes a b c (inr t) (inr u) = inr (torn_twice bytes a b c t u)

pub only_mark_order : (bytes : List ℕ) → IsPreorder (OnlyMark bytes)
only_mark_order bytes = record {
  itself = λ m. record { spaces = refl; mark = inl refl };
  then = λ a b c first second. record {
    spaces = second.spaces ∙ first.spaces;
    mark = marks_then bytes a.mark b.mark c.mark first.mark second.mark;
  };
}

either_same : (a b : ℕ) → (a ≡ b) ⊎ (a ≡ b) → a ≡ b
either_same a b (inl e) = e
either_same a b (inr e) = e

-- bytes that are each of one or the other of two lists that differ in one place
mixed : (xs ys new : List ℕ) (a b : ℕ) → length new ≡ length (xs ++ a ∷ ys) → ((i : ℕ) → (get_or new i 0 ≡ get_or (xs ++ a ∷ ys) i 0) ⊎ (get_or new i 0 ≡ get_or (xs ++ b ∷ ys) i 0))
    → (new ≡ xs ++ a ∷ ys) ⊎ (new ≡ xs ++ b ∷ ys)
mixed [] ys [] a b long each = absurd (omega (arith, long))
mixed (x ∷ xs) ys [] a b long each = absurd (omega (arith, long))
mixed [] ys (n ∷ ns) a b long each =
    let rest : ns ≡ ys = same_number_lists ns ys (omega (arith, long)) (λ k low. either_same (get_or ns k 0) (get_or ys k 0) (each (suc k))) in
    ⊎_elim (λ e. inl (λ i. e i ∷ rest i)) (λ e. inr (λ i. e i ∷ rest i)) (each 0)
mixed (x ∷ xs) ys (n ∷ ns) a b long each =
    let first : n ≡ x = either_same n x (each 0) in
    ⊎_elim (λ e. inl (λ i. first i ∷ e i)) (λ e. inr (λ i. first i ∷ e i)) (mixed xs ys ns a b (omega (arith, long)) (λ i. each (suc i)))

-- what stands behind the kind
behind : CloneEnd → List ℕ
behind e = replicate 7 0 ++ to_be_bytes w64 e.session ++ to_be_bytes w64 e.checkpoint ++ to_be_bytes w64 e.lsn ++ to_be_bytes w64 e.position ++ replicate 16 0

-- a mark of which the kind alone was written has the one kind or the other
pub torn_kind : (k j : ℕ) (e : CloneEnd) (o : Option (List ℕ)) → IsTornMark (end_bytes k e) (Some (end_bytes j e)) o → (o ≡ Some (end_bytes k e)) ⊎ (o ≡ Some (end_bytes j e))
unfolding behind
torn_kind k j e None torn = absurd cc
torn_kind k j e (Some new) torn = ⊎_elim (λ is. inl (ap Some is)) (λ is. inr (ap Some is)) (mixed (codes "CLONMARK") (behind e) new k j torn.0 torn.1)

-- the mark whose kind was written
pub marked_either : (k j : ℕ) (e : CloneEnd) (d c : DiskImage) → d.mark ≡ Some (end_bytes j e) → OnlyMark (end_bytes k e) d c → (c.mark ≡ Some (end_bytes k e)) ⊎ (c.mark ≡ Some (end_bytes j e))
marked_either k j e d c kind is = at is.mark
  where
    at : (c.mark ≡ d.mark) ⊎ IsTornMark (end_bytes k e) d.mark c.mark → (c.mark ≡ Some (end_bytes k e)) ⊎ (c.mark ≡ Some (end_bytes j e))
    at (inl same) = inr (same ∙ kind)
    at (inr torn) = torn_kind k j e c.mark (subst (λ (o : Option (List ℕ)). IsTornMark (end_bytes k e) o c.mark) kind torn)

pub same_kind : (k j : ℕ) (e f : CloneEnd) → Some (end_bytes k e) ≡ Some (end_bytes j f) → k ≡ j
same_kind k j e f is = ap (λ (o : Option (List ℕ)). get_or (unwrap_or o []) 8 0) is

pub other_kind : (k j : ℕ) (e f : CloneEnd) → Some (end_bytes k e) ≡ Some (end_bytes k f) → Some (end_bytes j e) ≡ Some (end_bytes j f)
other_kind k j e f is = ap (λ (o : Option (List ℕ)). Some (codes "CLONMARK" ++ j ∷ drop 9 (unwrap_or o []))) is
