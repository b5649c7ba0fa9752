-- A call, from the with_state to the release.
use Rattle.std.proofs.Common.{ℕ, ◌≡◌, List, [], ◌∷◌, ◌++◌, refl, sym, ap, ◌∙◌, subst, suc, cond, ◌+◌, arith, Some, true, false, Bool}
use Rattle.std.specs.declared.snapshot.Snapshot.{Snapshot}
use Rattle.atomic_table.specs.Table.{Me}
use Rattle.clone_turn.specs.declared.view.Entry.{Entry}
use Rattle.clone_turn.specs.declared.view.View.{View}
use Rattle.clone_turn.specs.Runs.{calls, end_of, entries, others, IsLegalRun}
use Rattle.clone_turn.specs.Rule.{Held, Idle, Lifted, Calls, Closes, made_at, stands, with_note, note_in}
use Rattle.clone_turn.proofs.Entries.{entries-append, entries_seen, end_of-append, run_snoc, run_later}

module _ {S C A : Type 0} (steps : S → C → A → S → Type 0) where
  pub fits_later : (fits : C → S → Type 0) → ((d : C) (s : S) (c : C) (a : A) (t : S) → fits d s → steps s c a t → fits d t)
      → (d : C) (first : S) (es : List (Entry S C A)) → IsLegalRun steps first es → fits d first → fits d (end_of first es)
  fits_later fits still d first [] legal now = now
  fits_later fits still d first (e ∷ es) legal now = fits_later fits still d e.after es legal.1 (still d first e.call e.answer e.after now legal.0)

  module _ (first : S) (v w : Me (Held S C A) (View S C A)) (value : S) (t : ℕ) (lifted : Lifted steps first v value t w) where
    pub fits_at : (fits : C → S → Type 0) → ((d : C) (s : S) (c : C) (a : A) (t : S) → fits d s → steps s c a t → fits d t)
        → (d : C) → fits d (end_of first (entries v.0.seen)) → fits d value
    fits_at fits still d now =
        let rest = lifted.0 in
        let end : value ≡ end_of (end_of first (entries v.0.seen)) rest = lifted.4 ∙ end_of-append first (entries v.0.seen) rest in
        subst (λ s. fits d s) (sym end) (fits_later fits still d _ rest (run_later steps first (entries v.0.seen) rest lifted.3) now)

    pub step_at : (call : C) (answer : A) (after : S) → steps value call answer after → steps (end_of first (entries w.0.seen)) call answer after
    step_at call answer after follows =
        let same : end_of first (entries w.0.seen) ≡ value = ap (λ m. end_of first (entries m.0.seen)) lifted.2 ∙ (ap (λ es. end_of first es) (entries_seen v.0.seen lifted.0) ∙ sym lifted.4) in
        subst (λ s. steps s call answer after) (sym same) follows

    pub called : (call : C) (answer : A) (after : S) (said : Snapshot C) (told : Snapshot A) (u : Me (Held S C A) (View S C A))
        → Idle first v → steps value call answer after → said.value ≡ call → told.value ≡ answer → u ≡ (with_note w.0 (note_in after (Some (said, told))), []) → Calls steps first v.0 call answer u.0
    called call answer after said told u idle follows same_call same_answer is =
        let rest = lifted.0 in
        let e : Entry S C A = record { call = call; answer = answer; after = after } in
        let own : note_in after (Some (said, told)) ≡ (e, true) ∷ [] = ap (λ c. (record { call = c; answer = told.value; after = after }, true) ∷ []) same_call ∙ ap (λ a. (record { call = call; answer = a; after = after }, true) ∷ []) same_answer in
        let more : View S C A = record v.0 { seen = (v.0.seen ++ others rest) ++ (e, true) ∷ [] } in
        let new : u.0 ≡ more = ap (λ m. m.0) is ∙ (ap (λ xs. with_note w.0 xs) own ∙ (ap (λ m. with_note m.0 ((e, true) ∷ [])) lifted.2
        ∙ (ap (λ ticket. record more { ticket = ticket; lifted = false }) (sym idle.calm) ∙ ap (λ up. record more { lifted = up }) (sym idle.down)))) in
        let seen : entries more.seen ≡ (entries v.0.seen ++ rest) ++ e ∷ [] = entries-append (v.0.seen ++ others rest) ((e, true) ∷ []) ∙ ap (λ es. es ++ e ∷ []) (entries_seen v.0.seen rest) in
        let legal : IsLegalRun steps first ((entries v.0.seen ++ rest) ++ e ∷ []) = run_snoc steps first (entries v.0.seen ++ rest) e lifted.3 (subst (λ s. steps s call answer after) lifted.4 follows) in
        (rest, e, refl, refl, new, subst (λ (x : View S C A). IsLegalRun steps first (entries x.seen)) (sym new) (subst (λ es. IsLegalRun steps first es) (sym seen) legal))

-- a legal run keeps the key
key_kept : {S C A K : Type 0} (steps : S → C → A → S → Type 0) (key : S → K) → ((s : S) (c : C) (a : A) (t : S) → steps s c a t → key t ≡ key s)
    → (first : S) (es : List (Entry S C A)) → IsLegalRun steps first es → key (end_of first es) ≡ key first
key_kept steps key keeps first [] legal = refl
key_kept steps key keeps first (e ∷ es) legal = key_kept steps key keeps e.after es legal.1 ∙ keeps first e.call e.answer e.after legal.0

pub closed_key : {S C A K : Type 0} (steps : S → C → A → S → Type 0) (key : S → K) → ((s : S) (c : C) (a : A) (t : S) → steps s c a t → key t ≡ key s)
    → (k first : S) (v : View S C A) (value : S) → k ≡ first → Closes steps k v value → key value ≡ key first
closed_key steps key keeps k first v value same closes =
    ap (λ s. key s) closes.2 ∙ (key_kept steps key keeps k (entries v.seen ++ closes.0) closes.1 ∙ ap (λ s. key s) same)

-- where each entry is the seat's own
bit : (b : Bool) → ◌≡◌ {A = ℕ} (cond b 1 0) 1 → b ≡ true
bit true e = refl
bit false e = absurd (let z : ◌≡◌ {A = ℕ} 0 1 = e in omega arith)

module _ {S C A : Type 0} where
  pub own_all : (xs : List (Entry S C A × Bool)) (rest : List (Entry S C A)) → ((p : ℕ) → made_at xs p ≡ stands (entries xs ++ rest) p) → (rest ≡ []) × (calls xs ≡ entries xs)
  own_all [] [] each = (refl, refl)
  own_all [] (e ∷ es) each = absurd (let z : ◌≡◌ {A = ℕ} 0 1 = each 0 in omega arith)
  own_all (x ∷ xs) rest each =
      let more = own_all xs rest (λ p. each (suc p)) in
      (more.0, ap (λ b. cond b (x.0 ∷ calls xs) (calls xs)) (bit x.1 (each 0)) ∙ ap (λ es. x.0 ∷ es) more.1)

  pub closed : (steps : S → C → A → S → Type 0) (first : S) (v w : Me (Held S C A) (View S C A)) (value : S) (t : ℕ) → Idle first v → Lifted steps first v value t w → Closes steps first v.0 value
  closed steps first v w value t idle lifted = (
    lifted.0,
    lifted.3,
    lifted.4,
    λ whole. own_all v.0.seen lifted.0 (λ p. let none : made_at v.0.joined p ≡ 0 = ap (λ xs. made_at xs p) idle.alone in let all : made_at v.0.seen p + made_at v.0.joined p ≡ stands (entries v.0.seen ++ lifted.0) p = lifted.5 whole p in omega arith),
  )
