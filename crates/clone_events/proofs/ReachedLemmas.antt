-- A line adds at most one commit, and at most one transaction of each writer.
use Rattle.std.proofs.Common.{◌≡◌, ℕ, ◌+◌, ◌≤◌, List, [], ◌∷◌, length, Bool, true, false, cond, refl, sym, ap, ◌∙◌, subst, arith, length-append, Option, Some, None, Result, Ok, Err, unwrap_or, inl, inr, ◌⊎◌, filter_map, nat_cmp}
use Rattle.clone_events.proofs.Common.{cons_option, AllByRecursion, FinMap, get, get-empty, get-insert, eq_by_cmp, Line, Cause, Donor, EngineCall, EngineAnswer, World, opened, index_in, IsWithin, Event, made, PlainEvent, counted, Happens, Events, MakesSet, not_begun, not_changed, set, LineStep, Runs, committed_at}
use Rattle.clone_plain.specs.declared.call.EngineAnswer.TheVariants as answers
use Rattle.clone_plain.specs.declared.call.EngineCall.TheVariants as call
use Rattle.std.specs.FinMap.{insert}
use Rattle.std.proofs.lemmas.Cmp.{nat_cmp_total}
use Rattle.std.proofs.lemmas.List.FromFn.{length-range_with_len}
use Rattle.clone_events.proofs.BinlogLemmas.{events_add}
use Rattle.clone_events.proofs.LineLemmas.{IsQuiet, Shape, one, sets, quiet, shape}

abbrev Begun : Type 0
Begun = FinMap nat_cmp ℕ

-- no transaction begins, or one does
MayBegin : Begun → Begun → Type 0
MayBegin before after = (after ≡ before) ⊎ ((writer : ℕ) × (after ≡ insert before writer (index_in before writer + 1)))

made_begins : (asked : EngineCall) (answer : Result EngineAnswer Cause) (begun : Begun) → MayBegin begun (counted (made asked answer) begun)
unfolding MayBegin
made_begins (call.Begin writer index) (Ok (answers.Begin trx)) begun = inr (writer, refl)
made_begins asked answer begun = inl refl

counted_begins : (e : Event) (begun : Begun) → MayBegin begun (counted e begun)
unfolding MayBegin
counted_begins (made asked answer) begun = made_begins asked answer begun
counted_begins e begun = inl refl

one_more : (b : Bool) (x n : ℕ) (o : Option ℕ) → x ≤ n → unwrap_or o 0 ≤ n → unwrap_or (cond b (Some (x + 1)) o) 0 ≤ n + 1
one_more true x n o le les = omega arith
one_more false x n o le les = omega arith

begins_within : (n : ℕ) (before after : Begun) → ((writer : ℕ) → index_in before writer ≤ n) → MayBegin before after → (writer : ℕ) → index_in after writer ≤ n + 1
unfolding MayBegin
begins_within n before after within (inl same) writer = omega (arith, ap (λ b. index_in b writer) same, within writer)
begins_within n before after within (inr more) writer =
    let P : Option ℕ → Type 0 = λ o. unwrap_or o 0 ≤ n + 1 in
    let grown : index_in (insert before more.0 (index_in before more.0 + 1)) writer ≤ n + 1 = subst P (sym (get-insert nat_cmp_total before more.0 (index_in before more.0 + 1) writer)) (one_more (eq_by_cmp nat_cmp writer more.0) _ n (get before writer) (within more.0) (within writer)) in
    omega (arith, ap (λ b. index_in b writer) more.1, grown)

-- at most one position is answered
at_most_one : (o : Option ℕ) → length (cons_option o []) ≤ 1
at_most_one None = omega arith
at_most_one (Some position) = omega arith

set_commits : (writer index table key : ℕ) (value : List ℕ) (events : List Event) → MakesSet writer index table key value events → length (filter_map committed_at events) ≤ 1
set_commits writer index table key value events (not_begun cause is) = omega (arith, ap (λ es. length (filter_map committed_at es)) is)
set_commits writer index table key value events (not_changed trx cause is) = omega (arith, ap (λ es. length (filter_map committed_at es)) is)
set_commits writer index table key value events (set trx last is) = omega (arith, ap (λ es. length (filter_map committed_at es)) is, at_most_one (committed_at (made (call.Commit trx) last)))

quiet_commits : (events : List Event) → AllByRecursion IsQuiet events → filter_map committed_at events ≡ []
quiet_commits [] all = refl
quiet_commits (e ∷ es) all = ap (λ o. cons_option o (filter_map committed_at es)) all.0.commits ∙ quiet_commits es all.1

shape_commits : (events : List Event) → Shape events → length (filter_map committed_at events) ≤ 1
shape_commits events (one e is) = omega (arith, ap (λ es. length (filter_map committed_at es)) is, at_most_one (committed_at e))
shape_commits events (sets writer index table key value is) = set_commits writer index table key value events is
shape_commits events (quiet all) = omega (arith, ap length (quiet_commits events all))

module _ {D : Type 0} (plain : D → Donor) (Step : D → Event → D → Type 0) (refines : (d e : D) (event : Event) → Step d event e → PlainEvent (plain d) event (plain e)) where
  event_begins : (s : World D) (e : Event) (t : World D) → Happens plain Step s e t → MayBegin s.begun t.begun
  event_begins s e t is = subst (MayBegin s.begun) (sym is.begun) (counted_begins e s.begun)

  begun_of : (s t : World D) → s ≡ t → s.begun ≡ t.begun
  begun_of s t same = ap (λ (w : World D). w.begun) same

  one_begins : (s : World D) (e : Event) (t : World D) → Events plain Step s (e ∷ []) t → MayBegin s.begun t.begun
  one_begins s e t is = subst (MayBegin s.begun) (begun_of is.0 t is.2) (event_begins s e is.0 is.1)

  -- of a `set` the begin alone counts
  refused_begins : (s : World D) (writer index trx table key : ℕ) (value : List ℕ) (cause : Cause) (t : World D)
      → Events plain Step s (made (call.Begin writer index) (Ok (answers.Begin trx)) ∷ made (call.Put trx table key value) (Err cause) ∷ []) t → MayBegin s.begun t.begun
  unfolding MayBegin
  refused_begins s writer index trx table key value cause t is = inr (writer, begun_of _ _ (sym is.2.2) ∙ is.2.1.begun ∙ is.1.begun)

  all_begin : (s : World D) (writer index trx table key : ℕ) (value : List ℕ) (last : Result EngineAnswer Cause) (t : World D)
      → Events plain Step s (made (call.Begin writer index) (Ok (answers.Begin trx)) ∷ made (call.Put trx table key value) (Ok answers.Put) ∷ made (call.Commit trx) last ∷ []) t → MayBegin s.begun t.begun
  unfolding MayBegin
  all_begin s writer index trx table key value last t is = inr (writer, begun_of _ _ (sym is.2.2.2) ∙ is.2.2.1.begun ∙ is.2.1.begun ∙ is.1.begun)

  set_begins : (s : World D) (writer index table key : ℕ) (value : List ℕ) (events : List Event) (t : World D) → MakesSet writer index table key value events → Events plain Step s events t → MayBegin s.begun t.begun
  set_begins s writer index table key value events t (not_begun cause is) happened = let P : List Event → Type 0 = λ es. Events plain Step s es t in one_begins s (made (call.Begin writer index) (Err cause)) t (subst P is happened)
  set_begins s writer index table key value events t (not_changed trx cause is) happened = let P : List Event → Type 0 = λ es. Events plain Step s es t in refused_begins s writer index trx table key value cause t (subst P is happened)
  set_begins s writer index table key value events t (set trx last is) happened =
      let P : List Event → Type 0 = λ es. Events plain Step s es t in
      all_begin s writer index trx table key value last t (subst P is happened)

  quiet_begins : (s : World D) (events : List Event) (t : World D) → AllByRecursion IsQuiet events → Events plain Step s events t → t.begun ≡ s.begun
  quiet_begins s [] t all is = begun_of _ _ (sym is)
  quiet_begins s (e ∷ es) t all is = quiet_begins is.0 es t all.1 is.2 ∙ is.1.begun ∙ all.0.begins s.begun

  shape_begins : (s : World D) (events : List Event) (t : World D) → Shape events → Events plain Step s events t → MayBegin s.begun t.begun
  unfolding MayBegin
  shape_begins s events t (one e is) happened = let P : List Event → Type 0 = λ es. Events plain Step s es t in one_begins s e t (subst P is happened)
  shape_begins s events t (sets writer index table key value is) happened = set_begins s writer index table key value events t is happened
  shape_begins s events t (quiet all) happened = inl (quiet_begins s events t all happened)

  -- a line reaches one further at most
  line_reaches : (n : ℕ) (s : World D) (line : Line) (events : List Event) (t : World D) → LineStep plain Step s line events t → IsWithin plain n s → IsWithin plain (n + 1) t
  line_reaches n s line events t is within =
      let form = shape s.tasks _ line events is.0 in
      let added = events_add plain Step refines s events t is.1 in
      let few : length added.more ≤ 1 = omega (arith, shape_commits events form, ap length added.positions, length-range_with_len (length (plain s.donor).binlog + 1) (length added.more)) in
      record { commits = omega (arith, few, within.commits, ap length added.binlog, length-append (plain s.donor).binlog added.more); transactions = begins_within n s.begun t.begun within.transactions (shape_begins s events t form is.1) }

  -- what is within a number is within a greater one
  wider : (m n : ℕ) (s : World D) → m ≤ n → IsWithin plain m s → IsWithin plain n s
  wider m n s le within = record { commits = omega (arith, within.commits); transactions = λ q. omega (arith, within.transactions q) }

  run_reaches : (n : ℕ) (s : World D) (lines : List Line) (events : List (List Event)) (t : World D) → Runs plain Step s lines events t → IsWithin plain n s → IsWithin plain (n + length lines) t
  run_reaches n s [] [] t run within = wider n _ t (omega arith) (let P : World D → Type 0 = IsWithin plain n in subst P run within)
  run_reaches n s [] (es ∷ more) t run within = absurd run
  run_reaches n s (l ∷ lines) [] t run within = absurd run
  run_reaches n s (l ∷ lines) (es ∷ more) t run within = wider (n + 1 + length lines) _ t (omega arith) (run_reaches (n + 1) run.0 lines more t run.2 (line_reaches n s l es run.0 run.1 within))

  -- A run from the beginning reaches the number of its lines, and so each greater number.
  pub Runs-IsWithin : (first : D) → (plain first).binlog ≡ [] → (tasks : ℕ) (tells : Bool) (lines : List Line) (events : List (List Event)) (t : World D) (n : ℕ) → Runs plain Step (opened first tasks tells) lines events t → length lines ≤ n → IsWithin plain n t
  Runs-IsWithin first none tasks tells lines events t n run le =
      let index : Option ℕ → ℕ = λ o. unwrap_or o 0 in
      let at : (q : ℕ) → index_in (opened first tasks tells).begun q ≤ 0 = λ q. omega (arith, ap index (get-empty nat_cmp q)) in
      wider (0 + length lines) n t (omega arith) (run_reaches 0 (opened first tasks tells) lines events t run (record { commits = omega (arith, ap length none); transactions = at }))
