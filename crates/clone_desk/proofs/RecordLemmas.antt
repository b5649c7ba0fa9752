-- What stays of the records when one comes, and when one is changed.
use Rattle.std.proofs.Common.{ℕ, zero, suc, ◌≡◌, ◌≤◌, ◌<◌, ◌^◌, List, [], ◌∷◌, ◌++◌, length, set, get_or, refl, sym, ap, ◌∙◌, subst, Some, None, Option, length-append, arith}
use Rattle.std.specs.Prelude.{IfSome}
use Rattle.std.specs.List.{AllByRecursion}
use Rattle.std.proofs.lemmas.List.{length-set}
use Rattle.clone_outside.specs.declared.link.Side.{Side}
use Rattle.clone_outside.specs.declared.link.Side.TheVariants.{Donor, Requester}
use Rattle.clone_outside.specs.declared.link.Link.{Ghosts as Link}
use Rattle.clone_outside.specs.declared.link.Net.{Ghosts as Net}
use Rattle.clone_turn.proofs.EachLemmas.{each_append, each_map}
use Rattle.clone_desk.specs.declared.record.DonorEnd.{DonorEnd}
use Rattle.clone_desk.specs.declared.record.DonorEnd.TheVariants.{Waits, Out, Back}
use Rattle.clone_desk.specs.declared.record.Record.{Record}
use Rattle.clone_desk.specs.Records.{HasEnds, IsDonorEnd, IsEnd, IsNew, handed_out, name_of, or_back, or_some, with_end}
use Rattle.clone_desk.specs.Desks.{IsDesk, IsNamed}

module _ {X : Type 0} (P : X → Type 0) where
  each_set : (xs : List X) (at : ℕ) (x : X) → AllByRecursion P xs → P x → AllByRecursion P (set xs at x)
  each_set [] zero x each there = tt
  each_set [] (suc at) x each there = tt
  each_set (y ∷ ys) zero x each there = (there, each.1)
  each_set (y ∷ ys) (suc at) x each there = (each.0, each_set ys at x each.1 there)

  pub each_at : (xs : List X) (at : ℕ) (x : X) → at < length xs → get_or xs at x ≡ x → AllByRecursion P xs → P x
  each_at [] at x low is each = absurd (omega arith)
  each_at (y ∷ ys) zero x low is each = subst P is each.0
  each_at (y ∷ ys) (suc at) x low is each = each_at ys at x (omega arith) is each.1

module _ {L X : Type 0} (link : Link L X) where
  pub named_more : (rs : List (Record L)) (r : Record L) (place : ℕ) (name : X) → IsNamed link rs place name → IsNamed link (rs ++ r ∷ []) place name
  named_more [] r place name is = absurd is
  named_more (x ∷ rs) r zero name is = is
  named_more (x ∷ rs) r (suc place) name is = named_more rs r place name is

  pub named_last : (rs : List (Record L)) (r : Record L) → IsNamed link (rs ++ r ∷ []) (length rs) (name_of link r)
  named_last [] r = refl
  named_last (x ∷ rs) r = named_last rs r

  pub named_set : (rs : List (Record L)) (at : ℕ) (there new : Record L) → get_or rs at there ≡ there → name_of link new ≡ name_of link there
      → (place : ℕ) (name : X) → IsNamed link rs place name → IsNamed link (set rs at new) place name
  named_set [] at there new is same place name named = absurd named
  named_set (x ∷ rs) zero there new is same zero name named = named ∙ (ap (name_of link) is ∙ sym same)
  named_set (x ∷ rs) zero there new is same (suc place) name named = named
  named_set (x ∷ rs) (suc at) there new is same zero name named = named
  named_set (x ∷ rs) (suc at) there new is same (suc place) name named = named_set rs at there new is same place name named

  pub named_here : (rs : List (Record L)) (place : ℕ) (r : Record L) → place < length rs → get_or rs place r ≡ r → IsNamed link rs place (name_of link r)
  named_here [] place r low is = absurd (omega arith)
  named_here (x ∷ rs) zero r low is = sym (ap (name_of link) is)
  named_here (x ∷ rs) (suc place) r low is = named_here rs place r (omega arith) is

  pub named_low : (rs : List (Record L)) (place : ℕ) (name : X) → IsNamed link rs place name → place < length rs
  named_low [] place name is = absurd is
  named_low (x ∷ rs) zero name is = omega arith
  named_low (x ∷ rs) (suc place) name is = let low = named_low rs place name is in omega (arith, low)

  pub named_is : (rs : List (Record L)) (place : ℕ) (name : X) (r : Record L) → IsNamed link rs place name → get_or rs place r ≡ r → name ≡ name_of link r
  named_is [] place name r named is = absurd named
  named_is (x ∷ rs) zero name r named is = named ∙ ap (name_of link) is
  named_is (x ∷ rs) (suc place) name r named is = named_is rs place name r named is

  donor_kept : (name : X) (d : DonorEnd L) (end : L) → IsDonorEnd link name d → IsEnd link name Donor end → IsDonorEnd link name (or_back d end)
  donor_kept name (Waits e) end was is = was
  donor_kept name Out end was is = is
  donor_kept name (Back e) end was is = was

  requester_kept : (name : X) (o : Option L) (end : L) → IfSome o (IsEnd link name Requester) → IsEnd link name Requester end → IfSome (or_some o end) (IsEnd link name Requester)
  requester_kept name None end was is = is
  requester_kept name (Some e) end was is = was

  ends_kept : (side : Side) (end : L) (r : Record L) → HasEnds link r → IsEnd link (name_of link r) side end → HasEnds link (with_end side end r)
  ends_kept Donor end r has is = record { donor = donor_kept (name_of link r) r.donor end has.donor is; requester = has.requester }
  ends_kept Requester end r has is = record { donor = has.donor; requester = requester_kept (name_of link r) r.requester end has.requester is }

  pub same_name : (side : Side) (end : L) (r : Record L) → name_of link (with_end side end r) ≡ name_of link r
  same_name Donor end r = refl
  same_name Requester end r = refl

  pub waiting_end : (name : X) (d : DonorEnd L) (end : L) → IsDonorEnd link name d → d ≡ Waits end → IsNew link name Donor end
  waiting_end name d end is waits = subst (IsDonorEnd link name) waits is

  module _ {N : Type 0} (net : Net N L X) where
    -- a record more
    pub desk_more : (n m : N) (rs : List (Record L)) (r : Record L) → IsDesk net link n rs → length rs < 2 ^ 32
        → ((name : X) → net.made n name → net.made m name) → net.made m (name_of link r) → HasEnds link r → IsDesk net link m (rs ++ r ∷ [])
    desk_more n m rs r was room keeps new ends = record {
      count = omega (arith, room, length-append rs (r ∷ []));
      made = each_append (λ x. net.made m (name_of link x)) rs (r ∷ []) (each_map (λ x. net.made n (name_of link x)) (λ x. net.made m (name_of link x)) (λ x. keeps (name_of link x)) rs was.made) (new, tt);
      ends = each_append (HasEnds link) rs (r ∷ []) was.ends (ends, tt);
    }

    -- the net alone changed
    pub desk_same : (n m : N) (rs : List (Record L)) → IsDesk net link n rs → ((name : X) → net.made n name → net.made m name) → IsDesk net link m rs
    desk_same n m rs was keeps = record {
      count = was.count;
      made = each_map (λ x. net.made n (name_of link x)) (λ x. net.made m (name_of link x)) (λ x. keeps (name_of link x)) rs was.made;
      ends = was.ends;
    }

    -- a record is changed
    desk_set : (n : N) (rs : List (Record L)) (at : ℕ) (there new : Record L) → IsDesk net link n rs → at < length rs → get_or rs at there ≡ there
        → name_of link new ≡ name_of link there → HasEnds link new → IsDesk net link n (set rs at new)
    desk_set n rs at there new was low is same ends = record {
      count = subst (λ k. k ≤ 2 ^ 32) (sym (length-set rs at new)) was.count;
      made = each_set (λ x. net.made n (name_of link x)) rs at new was.made (subst (net.made n) (sym same) (each_at (λ x. net.made n (name_of link x)) rs at there low is was.made));
      ends = each_set (HasEnds link) rs at new was.ends ends;
    }

    pub desk_handed : (n : N) (rs : List (Record L)) (at : ℕ) (there : Record L) → IsDesk net link n rs → at < length rs → get_or rs at there ≡ there
        → IsDesk net link n (set rs at (handed_out there))
    desk_handed n rs at there was low is =
        desk_set n rs at there (handed_out there) was low is refl (record { donor = tt; requester = (each_at (HasEnds link) rs at there low is was.ends).requester })

    pub desk_kept : (n : N) (rs : List (Record L)) (at : ℕ) (side : Side) (end : L) (there : Record L) → IsDesk net link n rs → get_or rs at there ≡ there
        → IsNamed link rs at (link.name end) → link.side end ≡ side → IsDesk net link n (set rs at (with_end side end there))
    desk_kept n rs at side end there was is named on =
        let low = named_low rs at (link.name end) named in
        desk_set n rs at there (with_end side end there) was low is (same_name side end there)
        (ends_kept side end there (each_at (HasEnds link) rs at there low is was.ends) (record { name_is = named_is rs at (link.name end) there named is; side_is = on }))
