-- The chains of the buckets.
use Rattle.std.specs.List.{AllByRecursion}
use Rattle.std.specs.FinMap as finite
use Rattle.std.specs.List.{IsDistinct}
use Rattle.clone_trx.proofs.Common.{◌≡◌, ◌<◌, ℕ, List, [], ◌∷◌, sym, ap, subst, ◌∙◌, Option, Some, None, IsChain, Contents, HasPage, Donor, none-some, same_Some, HasChain, HoldsChains, OnChain, begins, goes_on}

-- a page without one behind it is a chain
pub alone : (c : Contents) (table page : ℕ) → HasPage c table page → c.next table page ≡ None → HasChain c table page
unfolding IsDistinct
alone c table page there none = record { behind = []; chain = none; there = (there, tt); once = (tt, tt) }

-- a chain stays in a space that stays
pub same_chain : (c now : Contents) (table first : ℕ) → now.size table ≡ c.size table → now.next table ≡ c.next table → HasChain c table first → HasChain now table first
same_chain c now table first size next chain = record {
  behind = chain.behind;
  chain = subst (λ (f : ℕ → Option ℕ). IsChain f first chain.behind) (sym next) chain.chain;
  there = subst (λ (o : Option ℕ). AllByRecursion (λ (page : ℕ). (count : ℕ) × (o ≡ Some count) × (page < count)) (first ∷ chain.behind)) (sym size) chain.there;
  once = chain.once;
}

pub same_chains : (d after : Donor) (c now : Contents) → after.tables ≡ d.tables → now.size ≡ c.size → now.next ≡ c.next → HoldsChains d c → HoldsChains after now
same_chains d after c now same size next holds = record {
  buckets = λ t count bucket is low. same_chain c now t bucket (ap (λ f. f t) size) (ap (λ f. f t) next) (holds.buckets t count bucket (ap (λ m. finite.get m t) (sym same) ∙ is) low);
  none = λ t page gone. ap (λ f. f t page) next ∙ holds.none t page (λ had. gone (had.0, ap (λ f. f t) size ∙ had.1, had.2));
}

-- What holds of each page of a chain holds of each page that is on it.
module _ (next : ℕ → Option ℕ) (P : ℕ → Type 0) where
  -- the rest of a chain from a page on
  abbrev From : ℕ → Type 0
  From page = (rest : List ℕ) × IsChain next page rest × AllByRecursion P (page ∷ rest)

  from_next : (page one : ℕ) (rest : List ℕ) → next page ≡ Some one → IsChain next page rest → AllByRecursion P (page ∷ rest) → From one
  from_next page one [] is none all = absurd (none-some one (sym none ∙ is))
  from_next page one (q ∷ rest) is linked all = subst From (same_Some q one (sym linked.0 ∙ is)) (rest, linked.1, all.1)

  from : (first : ℕ) (pages : List ℕ) → IsChain next first pages → AllByRecursion P (first ∷ pages) → (page : ℕ) → OnChain next first page → From page
  from first pages chain all page begins = (pages, chain, all)
  from first pages chain all page (goes_on before one on is) = let f = from first pages chain all before on in from_next before one f.0 is f.1 f.2

  pub all_on : (first : ℕ) (pages : List ℕ) → IsChain next first pages → AllByRecursion P (first ∷ pages) → (page : ℕ) → OnChain next first page → P page
  all_on first pages chain all page on = (from first pages chain all page on).2.0

-- a page that is on the chain of a table's bucket is there
pub on_there : {d : Donor} {c : Contents} → HoldsChains d c → (t count bucket page : ℕ) → finite.get d.tables t ≡ Some count → bucket < count → OnChain (c.next t) bucket page → HasPage c t page
on_there {d} {c} holds t count bucket page is low on =
    let h = holds.buckets t count bucket is low in
    all_on (c.next t) (HasPage c t) bucket h.behind h.chain h.there page on
