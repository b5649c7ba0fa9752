-- Undo records tell of changes, and go on doing so.
use Rattle.clone_trx.proofs.Common.{◌≡◌, ◌++◌, List, [], ◌∷◌, length, refl, sym, subst, ◌∙◌, arith, Option, Some, None, AllByRecursion, Rows, after_change, after_changes, Change, Commit, UndoEntry, IsEntry, UndoSlot, committed_rows, Donor, Slots, TellsChange, TellsChanges, IsUndoSlot, StandsFor}
use Rattle.clone_trx.proofs.RowSlotLemmas.{KeepsBound}

-- as many records as changes, each in its ranges
pub counted : (slot : Slots) (rows : Rows) (cs : List Change) (es : List UndoEntry) → TellsChanges slot rows cs es → length es ≡ length cs
counted slot rows [] [] tells = refl
counted slot rows [] (e ∷ es) tells = absurd tells
counted slot rows (c ∷ cs) [] tells = absurd tells
counted slot rows (c ∷ cs) (e ∷ es) tells = omega (arith, counted slot (after_change rows c) cs es tells.1)

pub in_range : (slot : Slots) (rows : Rows) (cs : List Change) (es : List UndoEntry) → TellsChanges slot rows cs es → AllByRecursion IsEntry es
in_range slot rows [] [] tells = tt
in_range slot rows [] (e ∷ es) tells = absurd tells
in_range slot rows (c ∷ cs) [] tells = absurd tells
in_range slot rows (c ∷ cs) (e ∷ es) tells = (tells.0.in_range, in_range slot (after_change rows c) cs es tells.1)

tells_still : (slot now : Slots) (rows : Rows) (c : Change) (e : UndoEntry) → KeepsBound slot now → TellsChange slot rows c e → TellsChange now rows c e
tells_still slot now rows c e keeps t = record { in_range = t.in_range; table = t.table; key = t.key; bound = keeps e.table e.page e.slot e.key t.bound; before = t.before }

pub tells_on : (slot now : Slots) (rows : Rows) (cs : List Change) (es : List UndoEntry) → KeepsBound slot now → TellsChanges slot rows cs es → TellsChanges now rows cs es
tells_on slot now rows [] [] keeps tells = tt
tells_on slot now rows [] (e ∷ es) keeps tells = absurd tells
tells_on slot now rows (c ∷ cs) [] keeps tells = absurd tells
tells_on slot now rows (c ∷ cs) (e ∷ es) keeps tells = (tells_still slot now rows c e keeps tells.0, tells_on slot now (after_change rows c) cs es keeps tells.1)

-- one more change
pub tells_push : (slot : Slots) (rows : Rows) (cs : List Change) (es : List UndoEntry) (c : Change) (e : UndoEntry) → TellsChanges slot rows cs es → TellsChange slot (after_changes rows cs) c e → TellsChanges slot rows (cs ++ c ∷ []) (es ++ e ∷ [])
tells_push slot rows [] [] c e tells last = (last, tt)
tells_push slot rows [] (y ∷ es) c e tells last = absurd tells
tells_push slot rows (x ∷ cs) [] c e tells last = absurd tells
tells_push slot rows (x ∷ cs) (y ∷ es) c e tells last = (tells.0, tells_push slot (after_change rows x) cs es c e tells.1 last)

none_behind : (slot : Slots) (rows : Rows) (cs : List Change) (c : Change) → TellsChanges slot rows (cs ++ c ∷ []) [] → ⊥
none_behind slot rows [] c tells = tells
none_behind slot rows (x ∷ cs) c tells = tells

-- the last change and its record
last_told : (slot : Slots) (rows : Rows) (cs : List Change) (es : List UndoEntry) (c : Change) (e : UndoEntry) → TellsChanges slot rows (cs ++ c ∷ []) (es ++ e ∷ []) → TellsChanges slot rows cs es × TellsChange slot (after_changes rows cs) c e
last_told slot rows [] [] c e tells = (tt, tells.0)
last_told slot rows [] (y ∷ []) c e tells = absurd tells.1
last_told slot rows [] (y ∷ (z ∷ es)) c e tells = absurd tells.1
last_told slot rows (x ∷ cs) [] c e tells = absurd (none_behind slot (after_change rows x) cs c tells.1)
last_told slot rows (x ∷ cs) (y ∷ es) c e tells = let rest = last_told slot (after_change rows x) cs es c e tells.1 in ((tells.0, rest.0), rest.1)

pub tells_split : (slot : Slots) (rows : Rows) (changes cs : List Change) (records es : List UndoEntry) (c : Change) (e : UndoEntry) → changes ≡ cs ++ c ∷ [] → records ≡ es ++ e ∷ [] → TellsChanges slot rows changes records
    → TellsChanges slot rows cs es × TellsChange slot (after_changes rows cs) c e
tells_split slot rows changes cs records es c e split ends tells = last_told slot rows cs es c e (subst (λ (p : List Change × List UndoEntry). TellsChanges slot rows p.0 p.1) (λ i. (split i, ends i)) tells)

-- the undo slot of a transaction that is open
pub own_slot : (d : Donor) (slot : Slots) (active : Option Commit) (found : Option UndoSlot) (commit : Commit) → active ≡ Some commit → StandsFor d slot active found → IsUndoSlot d slot commit found
own_slot d slot active found commit is stands = subst (λ (o : Option Commit). StandsFor d slot o found) is stands

pub stands_open : (d : Donor) (slot : Slots) (active : Option Commit) (found : Option UndoSlot) (commit : Commit) → active ≡ Some commit → IsUndoSlot d slot commit found → StandsFor d slot active found
stands_open d slot active found commit is own = subst (λ (o : Option Commit). StandsFor d slot o found) (sym is) own

-- an undo slot that stays, with its transaction
pub stands_still : (d after : Donor) (slot now : Slots) (before later : Option Commit) (was found : Option UndoSlot) → committed_rows after ≡ committed_rows d → KeepsBound slot now → later ≡ before → found ≡ was → StandsFor d slot before was → StandsFor after now later found
stands_still d after slot now before later was found history keeps same stays stands = subst (λ (o : Option Commit). StandsFor after now o found) (sym same) (at before stands)
  where
    at : (o : Option Commit) → StandsFor d slot o was → StandsFor after now o found
    at None free = stays ∙ free
    at (Some commit) own = record {
      records = own.records;
      is = stays ∙ own.is;
      tells = subst (λ r. TellsChanges now r commit.changes own.records) (sym history) (tells_on slot now (committed_rows d) commit.changes own.records keeps own.tells);
    }
