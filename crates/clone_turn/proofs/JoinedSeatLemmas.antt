-- Seats that are joined one after the other: whose calls the run is made of.
use Rattle.std.proofs.Common.{◌≡◌, List, [], ◌∷◌, ◌++◌, refl, sym, ap, ◌∙◌, subst, append_assoc}
use Rattle.std.proofs.lemmas.List.{append-nil}
use Rattle.std.specs.List.{AllByRecursion}
use Rattle.std.specs.List.Sorted.{IsPermutation}
use Rattle.std.proofs.lemmas.List.Sorted.{IsPermutation-refl, IsPermutation-trans, IsPermutation-append_left}
use Rattle.clone_turn.specs.declared.view.Entry.{Entry}
use Rattle.clone_turn.specs.Runs.{Agree, IsLegalRun, entries, calls, end_of}
use Rattle.clone_turn.specs.Seats.{SeatModel, ClosesAt, HasWhole, joined_seat}
use Rattle.clone_turn.specs.Parts.{IsMadeOf, IsSublist, all_of}
use Rattle.clone_turn.specs.Worked.{Makes}
use Rattle.clone_turn.specs.Shares.{ShareAll}
use Rattle.clone_turn.specs.Joined.{Joins, parts_of}
use Rattle.clone_turn.proofs.MeldedViewLemmas.{calls-meld, meld_within, meld_within_other}
use Rattle.clone_turn.proofs.SublistLemmas.{sublist_same, sublist_trans}
use Rattle.clone_turn.proofs.WorkedLemmas.{makes_calls}
use Rattle.clone_turn.proofs.SeatShareLemmas.{joined_shares, only_share}

module _ {S C A : Type 0} where
  -- one seat more
  pub joins_more : (v : SeatModel S C A) (ws : List (SeatModel S C A)) (t w u : SeatModel S C A) → Joins v ws t → Agree t.seen w.seen → u ≡ joined_seat t w → Joins v (ws ++ w ∷ []) u
  joins_more v [] t w u joins agree is =
      (u, subst (λ (x : SeatModel S C A). Agree x.seen w.seen) joins agree, is ∙ ap (λ (x : SeatModel S C A). joined_seat x w) joins, refl)
  joins_more v (x ∷ xs) t w u joins agree is = (joins.0, joins.1, joins.2, joins_more joins.0 xs t w u joins.3 agree is)

  pub joins_whole : (v : SeatModel S C A) (ws : List (SeatModel S C A)) (u : SeatModel S C A) → Joins v ws u → ShareAll (v ∷ ws) → HasWhole u
  joins_whole v [] u joins all = subst HasWhole (sym joins) (only_share v all)
  joins_whole v (w ∷ ws) u joins all = joins_whole joins.0 ws u joins.3 (joined_shares v w joins.0 ws joins.2 all)

  -- the calls of all, each once
  joins_calls : (v : SeatModel S C A) (ws : List (SeatModel S C A)) (u : SeatModel S C A) → Joins v ws u → IsPermutation (calls v.seen ++ all_of (parts_of ws)) (calls u.seen)
  joins_calls v [] u joins =
      subst (λ (x : SeatModel S C A). IsPermutation (calls v.seen ++ []) (calls x.seen)) (sym joins)
      (subst (λ es. IsPermutation es (calls v.seen)) (sym (append-nil (calls v.seen))) (IsPermutation-refl (calls v.seen)))
  joins_calls v (w ∷ ws) u joins =
      let t = joins.0 in
      let rest = all_of (parts_of ws) in
      let two : IsPermutation (calls v.seen ++ calls w.seen) (calls t.seen) = subst (λ (x : SeatModel S C A). IsPermutation (calls v.seen ++ calls w.seen) (calls x.seen)) (sym joins.2) (calls-meld v.seen w.seen joins.1) in
      let first : IsPermutation ((calls v.seen ++ calls w.seen) ++ rest) (calls t.seen ++ rest) = IsPermutation-append_left rest _ _ two in
      subst (λ es. IsPermutation es (calls u.seen)) (append_assoc (calls v.seen) (calls w.seen) rest)
      (IsPermutation-trans _ _ _ first (joins_calls t ws u joins.3))

  -- and those of each in their order
  joins_own : (v : SeatModel S C A) (ws : List (SeatModel S C A)) (u : SeatModel S C A) → Joins v ws u → IsSublist (calls v.seen) (calls u.seen)
  joins_own v [] u joins = subst (λ (x : SeatModel S C A). IsSublist (calls v.seen) (calls x.seen)) (sym joins) (sublist_same (calls v.seen))
  joins_own v (w ∷ ws) u joins =
      let one : IsSublist (calls v.seen) (calls joins.0.seen) = subst (λ (x : SeatModel S C A). IsSublist (calls v.seen) (calls x.seen)) (sym joins.2) (meld_within v.seen w.seen) in
      sublist_trans _ _ _ one (joins_own joins.0 ws u joins.3)

  joins_order : (v : SeatModel S C A) (ws : List (SeatModel S C A)) (u : SeatModel S C A) → Joins v ws u → AllByRecursion (λ part. IsSublist part (calls u.seen)) (parts_of ws)
  joins_order v [] u joins = tt
  joins_order v (w ∷ ws) u joins =
      let one : IsSublist (calls w.seen) (calls joins.0.seen) = subst (λ (x : SeatModel S C A). IsSublist (calls w.seen) (calls x.seen)) (sym joins.2) (meld_within_other v.seen w.seen joins.1) in
      (sublist_trans _ _ _ one (joins_own joins.0 ws u joins.3), joins_order joins.0 ws u joins.3)

  pub joins_parts : (v : SeatModel S C A) (ws : List (SeatModel S C A)) (u : SeatModel S C A) → Joins v ws u → IsMadeOf (parts_of (v ∷ ws)) (calls u.seen)
  joins_parts v ws u joins = record { once = joins_calls v ws u joins; order = (joins_own v ws u joins, joins_order v ws u joins) }

  -- the run of a cell that is closed by the whole share
  closed_run : (steps : S → C → A → S → Type 0) (first : S) (u : SeatModel S C A) (state : S) → ClosesAt steps first u state → HasWhole u → IsLegalRun steps first (calls u.seen) × (state ≡ end_of first (calls u.seen))
  closed_run steps first u state closed whole =
      let own = closed.3 whole in
      let all : entries u.seen ++ closed.0 ≡ calls u.seen = ap (λ xs. entries u.seen ++ xs) own.0 ∙ (append-nil (entries u.seen) ∙ sym own.1) in
      (subst (IsLegalRun steps first) all closed.1, closed.2 ∙ ap (end_of first) all)

  -- the last calls come after all others
  pub joined_run : (steps : S → C → A → S → Type 0) (first : S) (v : SeatModel S C A) (ws : List (SeatModel S C A)) (t u : SeatModel S C A) (last : List (Entry S C A)) (state : S)
      → Joins v ws t → ShareAll (v ∷ ws) → Makes t last u → ClosesAt steps first u state → IsLegalRun steps first (calls t.seen ++ last) × (state ≡ end_of first (calls t.seen ++ last))
  joined_run steps first v ws t u last state joins all more closed =
      subst (λ run. IsLegalRun steps first run × (state ≡ end_of first run)) (makes_calls t u last more)
      (closed_run steps first u state closed (subst HasWhole (sym more.1) (joins_whole v ws t joins all)))
