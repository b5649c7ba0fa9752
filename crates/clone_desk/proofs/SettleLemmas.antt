-- A desk whose connections are settled, the last first.
use Rattle.std.proofs.Common.{◌≡◌, ◌+◌, ◌-◌, ◌≤◌, List, [], ◌∷◌, ◌++◌, length, refl, ◌∙◌, arith}
use Rattle.std.specs.List.{AllByRecursion}
use Rattle.clone_outside.specs.declared.link.Link.{Ghosts as Link}
use Rattle.clone_outside.specs.declared.link.Net.{Ghosts as Net}
use Rattle.clone_desk.specs.declared.record.Record.{Record}
use Rattle.clone_desk.specs.Records.{HasEnds, name_of}
use Rattle.clone_desk.specs.Desks.{IsDesk}
use Rattle.clone_desk.specs.Settling.{IsSettled, paired_by, paired_count}

module _ {X : Type 0} {P Q : X → Type 0} where
  each_weaker : (xs : List X) → ((x : X) → P x → Q x) → AllByRecursion P xs → AllByRecursion Q xs
  each_weaker [] is each = tt
  each_weaker (x ∷ xs) is each = (is x each.0, each_weaker xs is each.1)

module _ {X : Type 0} (P : X → Type 0) where
  each_front : (xs : List X) (x : X) → AllByRecursion P (xs ++ x ∷ []) → AllByRecursion P xs × P x
  each_front [] x each = (tt, each.0)
  each_front (y ∷ ys) x each = let more = each_front ys x each.1 in ((each.0, more.0), more.1)

  each_last : (xs : List X) (x : X) → AllByRecursion P xs → P x → AllByRecursion P (xs ++ x ∷ [])
  each_last [] x each is = (is, tt)
  each_last (y ∷ ys) x each is = (each.0, each_last ys x each.1 is)

shorter : {X : Type 0} (xs : List X) (x : X) → length xs ≤ length (xs ++ x ∷ [])
shorter [] x = omega arith
shorter (y ∷ ys) x = let less = shorter ys x in omega (arith, less)

module _ {N L X : Type 0} (net : Net N L X) (link : Link L X) where
  -- what is left to be settled, of what there was
  pub record Settles (n : N) (rs : List (Record L)) (m : N) (qs : List (Record L)) : Type 0 where
    pub desk : IsDesk net link m qs
    pub settled : AllByRecursion (IsSettled link) qs → AllByRecursion (IsSettled link) rs
    pub unsettled : net.unsettled m - paired_count qs ≡ net.unsettled n - paired_count rs
    pub planned : net.planned m ≡ net.planned n
    pub count : net.failures n ≤ net.failures m

  pub settles_none : (n : N) (rs : List (Record L)) → IsDesk net link n rs → Settles n rs n rs
  settles_none n rs desk = record { desk = desk; settled = λ is. is; unsettled = refl; planned = refl; count = omega arith }

  count_more : (qs : List (Record L)) (r : Record L) → paired_count (qs ++ r ∷ []) ≡ paired_count qs + paired_by r
  count_more [] r = omega arith
  count_more (q ∷ qs) r = let more = count_more qs r in omega (arith, more)

  pub settles_one : (n : N) (rs : List (Record L)) (m k : N) (qs : List (Record L)) (r : Record L) → Settles n rs m (qs ++ r ∷ [])
      → ((name : X) → net.made m name → net.made k name) → IsSettled link r → net.unsettled k ≡ net.unsettled m - paired_by r
      → net.planned k ≡ net.planned m → net.failures m ≤ net.failures k → Settles n rs k qs
  settles_one n rs m k qs r is keeps settled unsettled planned count = record {
    desk = record {
      count = let low = shorter qs r in let all = is.desk.count in omega (arith, low, all);
      made = each_weaker qs (λ q made. keeps (name_of link q) made) (each_front (λ q. net.made m (name_of link q)) qs r is.desk.made).0;
      ends = (each_front (HasEnds link) qs r is.desk.ends).0;
    };
    settled = λ each. is.settled (each_last (IsSettled link) qs r each settled);
    unsettled = let more = count_more qs r in let before = is.unsettled in omega (arith, more, before, unsettled);
    planned = planned ∙ is.planned;
    count = let before = is.count in omega (arith, before, count);
  }

  pub last_made : (n : N) (rs : List (Record L)) (m : N) (qs : List (Record L)) (r : Record L) → Settles n rs m (qs ++ r ∷ []) → net.made m (name_of link r) × HasEnds link r
  last_made n rs m qs r is = ((each_front (λ q. net.made m (name_of link q)) qs r is.desk.made).1, (each_front (HasEnds link) qs r is.desk.ends).1)
