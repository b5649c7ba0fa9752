-- What a change of one open transaction makes of them all.
use Rattle.clone_trx.proofs.Common.{◌≡◌, ℕ, ◌++◌, List, sym, ap, subst, ◌∙◌, Some, None, IsSome, MatchOption, IfSome, option_to_list, is_some, Option, nat_cmp, BTreeMap, nat_cmp_total, exact_unsigned, Change, Commit, with_change, Opened, opened_of, front_of, TakesLast, Pops, get_listed, inserted, inserted_same}
use Rattle.std.specs.FinMap as finite
use Rattle.std.specs.BTreeMap.{get, Updates}

abbrev pub Kept : Type 0
Kept = BTreeMap ℕ Commit

-- what the open transactions have at a number
pub get_opened : (m : Kept) (old : Opened) (trx : ℕ) → opened_of m.entries ≡ old → finite.get old trx ≡ get nat_cmp m trx
get_opened m old trx is = ap (λ (d : Opened). finite.get d trx) (sym is) ∙ get_listed nat_cmp_total m trx

-- a transaction that has become another
pub written : (m n : Kept) (old : Opened) (trx : ℕ) (commit new : Commit) → opened_of m.entries ≡ old → Some commit ≡ get nat_cmp m trx → (IsSome (get nat_cmp m trx) → Updates nat_cmp m n trx (Some new)) → opened_of n.entries ≡ finite.insert old trx new
written m n old trx commit new is there wrote =
    inserted nat_cmp_total exact_unsigned m n trx new (wrote (ap is_some (sym there))) ∙ ap (λ (d : Opened). finite.insert d trx new) is

-- a transaction that is written as it was
pub rewritten : (m n : Kept) (old : Opened) (trx : ℕ) (commit : Commit) (changes : List Change) → opened_of m.entries ≡ old → Some commit ≡ get nat_cmp m trx → (IsSome (get nat_cmp m trx) → Updates nat_cmp m n trx (Some (record commit { changes = changes }))) → changes ≡ commit.changes → opened_of n.entries ≡ old
rewritten m n old trx commit changes is there wrote same =
    written m n old trx commit (record commit { changes = changes }) is there wrote ∙ ap (λ (cs : List Change). finite.insert old trx (record commit { changes = cs })) same
    ∙ sym (inserted_same nat_cmp_total exact_unsigned old trx commit (get_opened m old trx is ∙ sym there))

pub pushed : (m n : Kept) (old : Opened) (trx : ℕ) (commit : Commit) (changes : List Change) (change : Change) → opened_of m.entries ≡ old → Some commit ≡ get nat_cmp m trx → (IsSome (get nat_cmp m trx) → Updates nat_cmp m n trx (Some (record commit { changes = changes })))
    → changes ≡ (with_change change commit).changes → IfSome (finite.get old trx) (λ c. opened_of n.entries ≡ finite.insert old trx (with_change change c))
pushed m n old trx commit changes change is there wrote more =
    let P : Option Commit → Type 0 = λ o. IfSome o (λ c. opened_of n.entries ≡ finite.insert old trx (with_change change c)) in
    subst P (there ∙ sym (get_opened m old trx is))
    (written m n old trx commit (record commit { changes = changes }) is there wrote ∙ ap (λ (cs : List Change). finite.insert old trx (record commit { changes = cs })) more)

pub popped : (m n : Kept) (old : Opened) (trx : ℕ) (commit : Commit) (changes : List Change) (last : Option Change) → opened_of m.entries ≡ old → Some commit ≡ get nat_cmp m trx → (IsSome (get nat_cmp m trx) → Updates nat_cmp m n trx (Some (record commit { changes = changes })))
    → changes ≡ front_of commit.changes → commit.changes ≡ changes ++ option_to_list last → Pops trx old (opened_of n.entries) last
popped m n old trx commit changes last is there wrote front split =
    let P : Option Commit → Type 0 = λ o. MatchOption o ((last ≡ None) × (opened_of n.entries ≡ old)) (λ c. TakesLast trx c old (opened_of n.entries) last) in
    subst P (there ∙ sym (get_opened m old trx is))
    (record {
      split = split ∙ ap (λ (cs : List Change). cs ++ option_to_list last) front;
      is = written m n old trx commit (record commit { changes = changes }) is there wrote ∙ ap (λ (cs : List Change). finite.insert old trx (record commit { changes = cs })) front;
    })

pub popped_none : (m : Kept) (old new : Opened) (trx : ℕ) (last : Option Change) → opened_of m.entries ≡ old → None ≡ get nat_cmp m trx → new ≡ old → last ≡ None → Pops trx old new last
popped_none m old new trx last is none same nothing =
    let P : Option Commit → Type 0 = λ o. MatchOption o ((last ≡ None) × (new ≡ old)) (λ c. TakesLast trx c old new last) in
    subst P (none ∙ sym (get_opened m old trx is)) (nothing, same)
