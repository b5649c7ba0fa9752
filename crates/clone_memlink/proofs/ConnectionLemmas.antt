-- Which connections a net made, and where they are cut.
use Rattle.std.proofs.Common.{ℕ, ◌≡◌, List, [], ◌∷◌, ◌++◌, map, sym, ap, ◌∙◌, subst}
use Rattle.std.proofs.lemmas.List.{map-append}
use Rattle.std.specs.Prelude.{Some}
use Rattle.std.proofs.Common.{inl, inr}
use Rattle.std.specs.FinMap as finite
use Rattle.std.specs.Cmp.{nat_cmp_total}
use Rattle.std.specs.Ordering.{nat_cmp}
use Rattle.std.specs.BTreeMap.{BTreeMap, get, Updates}
use Rattle.std.proofs.lemmas.Map.Lookups.{exact_unsigned}
use Rattle.clone_base.proofs.OrderedMaps.{get_listed, inserted}
use Rattle.clone_turn.specs.Seats.{CellModel}
use Rattle.clone_memlink.specs.declared.connection.Connection.{Connection}
use Rattle.clone_memlink.specs.declared.cut.Cut.{Cut}
use Rattle.clone_memlink.specs.Nets.{IsMade, cuts_of}

last : (ms : List (CellModel Connection)) (m n : CellModel Connection) → n ≡ m → IsMade (ms ++ m ∷ []) n
last [] m n is = inl is
last (x ∷ xs) m n is = inr (last xs m n is)

before : (ms : List (CellModel Connection)) (m n : CellModel Connection) → IsMade ms n → IsMade (ms ++ m ∷ []) n
before [] m n is = absurd is
before (x ∷ xs) m n (inl is) = inl is
before (x ∷ xs) m n (inr is) = inr (before xs m n is)

-- one more was made
module _ {X : Type 0} (f : X → CellModel Connection) (xs ys : List X) (x : X) (ms : List (CellModel Connection)) (n : CellModel Connection) (is : ys ≡ xs ++ x ∷ []) (old : map f xs ≡ ms) where
  all : ms ++ f x ∷ [] ≡ map f ys
  all = sym (ap (map f) is ∙ (map-append f xs (x ∷ []) ∙ ap (λ zs. zs ++ f x ∷ []) old))

  pub made_last : n ≡ f x → IsMade (map f ys) n
  made_last this = subst (λ zs. IsMade zs n) all (last ms (f x) n this)

  pub made_before : IsMade ms n → IsMade (map f ys) n
  made_before made = subst (λ zs. IsMade zs n) all (before ms (f x) n made)

pub get_cut : (m : BTreeMap ℕ Cut) (q : ℕ) → finite.get (cuts_of m.entries) q ≡ get nat_cmp m q
get_cut m q = get_listed nat_cmp_total m q

pub inserted_cut : (m n : BTreeMap ℕ Cut) (k : ℕ) (cut : Cut) → Updates nat_cmp m n k (Some cut) → cuts_of n.entries ≡ finite.insert (cuts_of m.entries) k cut
inserted_cut m n k cut is = inserted nat_cmp_total exact_unsigned m n k cut is
