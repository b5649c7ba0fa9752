-- One more act, and one more item; and what became of the history since the stop.
use Rattle.std.proofs.Common.{◌≡◌, ◌≤◌, ◌∙◌, ◌++◌, ◌∷◌, [], ℕ, List, length, take, refl, sym, ap, subst, arith, inl, inr, append_assoc}
use Rattle.std.specs.List.{Contains}
use Rattle.std.proofs.lemmas.List.{length-append, take-append-le, take_all}
use Rattle.std.proofs.lemmas.List.Elements.{Contains-append_left, Contains-push_cases}
use Rattle.clone_model.specs.History.{Drops}
use Rattle.clone_model.specs.declared.change.Commit.{Commit}
use Rattle.clone_plain.specs.Donor as plain
use Rattle.clone_accepted.specs.Answers.{Answer, Item, answer_in}
use Rattle.clone_session.specs.declared.info.Stop.{Stop}
use Rattle.clone_engine.specs.Acts.{Acts}
use Rattle.clone_engine.specs.Donor.{Donor}
use Rattle.clone_engine.specs.Engine.{Engine}
use Rattle.clone_sides.specs.Trace.{Entry, Runs, end_of}
use Rattle.clone_sides.specs.Answered.{Phase, WereAnswered, answered_by, answers, phase_after, phase_with}
use Rattle.clone_sides.specs.Moment.{HasGoneOn, StopsAt}
use Rattle.clone_sides.proofs.HistoryLemmas.{Lengthens, lengthens_none}
use Rattle.clone_sides.proofs.KnownLemmas.{answers_more}
use Rattle.clone_sides.proofs.WayLemmas.{went}

pub runs_more : (d : Donor) (trace : List Entry) (e : Entry) → Runs d trace → Acts e.act (end_of d trace) e.after → Runs d (trace ++ e ∷ [])
runs_more d [] e run acts = (acts, tt)
runs_more d (x ∷ xs) e run acts = (run.0, runs_more x.after xs e run.1 acts)

pub phase_more : (number : ℕ) (phase : Phase) (trace : List Entry) (e : Entry) → phase_after number phase (trace ++ e ∷ []) ≡ phase_with number (phase_after number phase trace) e.act
phase_more number phase [] e = refl
phase_more number phase (x ∷ xs) e = phase_more number (phase_with number phase x.act) xs e

-- what was answered was answered, however long the run goes on
pub answered_still : (number : ℕ) (trace : List Entry) (e : Entry) (items : List Item) → WereAnswered number trace items → WereAnswered number (trace ++ e ∷ []) items
answered_still number trace e items answered item has =
    subst (λ (all : List Answer). Contains all (answer_in item)) (sym (answers_more number trace e))
    (Contains-append_left (answers number trace) (answered_by number e.act) (answer_in item) (answered item has))

pub answered_too : (number : ℕ) (trace : List Entry) (items : List Item) (item : Item) → WereAnswered number trace items → Contains (answers number trace) (answer_in item) → WereAnswered number trace (items ++ item ∷ [])
answered_too number trace items item answered now x has =
    elim (Contains-push_cases items item x has) [
      | inl old ↦ answered x old
      | inr same ↦ subst (λ (i : Item). Contains (answers number trace) (answer_in i)) same now
    ]

-- THE HISTORY SINCE THE STOP

rest_runs : (d : Donor) (before rest : List Entry) → Runs d (before ++ rest) → Runs (end_of d before) rest
rest_runs d [] rest run = run
rest_runs d (x ∷ xs) rest run = rest_runs x.after xs rest run.1

rest_end : (d : Donor) (before rest : List Entry) → end_of d (before ++ rest) ≡ end_of (end_of d before) rest
rest_end d [] rest = refl
rest_end d (x ∷ xs) rest = rest_end x.after xs rest

lengthens_on : (a b c : plain.Donor) → Lengthens a b → Lengthens b c → Lengthens a c
lengthens_on a b c first second = record {
  commits = first.commits ++ second.commits;
  binlog = second.binlog ∙ ap (λ (xs : List Commit). xs ++ second.commits) first.binlog ∙ append_assoc a.binlog first.commits second.commits;
  dropped = first.dropped ++ second.dropped;
  drops = second.drops ∙ ap (λ (xs : Drops). xs ++ second.dropped) first.drops ∙ append_assoc a.drops first.dropped second.dropped;
}

run_lengthens : (d : Donor) (trace : List Entry) → Runs d trace → Lengthens d.engine.donor (end_of d trace).engine.donor
run_lengthens d [] run = lengthens_none d.engine.donor d.engine.donor refl
run_lengthens d (e ∷ es) run = lengthens_on d.engine.donor e.after.engine.donor (end_of e.after es).engine.donor (went d e.after e.act run.0.does).lengthens (run_lengthens e.after es run.1)

front : {X : Type 0} (xs more all : List X) (n : ℕ) → all ≡ xs ++ more → n ≡ length xs → take n all ≡ xs
front {X} xs more all n is count =
    ap (λ (k : ℕ). take k all) count ∙ ap (take (length xs)) is ∙ take-append-le (length xs) xs more (omega arith) ∙ take_all (length xs) xs (omega arith)

within : {X : Type 0} (xs more all : List X) (n : ℕ) → all ≡ xs ++ more → n ≡ length xs → n ≤ length all
within xs more all n is count = omega (arith, ap length is, length-append xs more)

pub gone_on : (number : ℕ) (d : Donor) (trace : List Entry) (at : Engine) (stop : Stop) → Runs d trace → StopsAt number d trace at stop → HasGoneOn stop at.donor (end_of d trace).engine.donor
gone_on number d trace at stop run stops =
    let rest : List Entry = stops.entry ∷ stops.after in
    let since = run_lengthens (end_of d stops.before) rest (rest_runs d stops.before rest (subst (Runs d) stops.split run)) in
    let longer : Lengthens at.donor (end_of d trace).engine.donor =
    subst (λ (x : Donor). Lengthens at.donor x.engine.donor) (sym (ap (end_of d) stops.split ∙ rest_end d stops.before rest))
    (subst (λ (x : Engine). Lengthens x.donor (end_of (end_of d stops.before) rest).engine.donor) (sym stops.here) since) in
    record {
      position = within at.donor.binlog longer.commits (end_of d trace).engine.donor.binlog stop.position longer.binlog stops.is.commits;
      dropped = within at.donor.drops longer.dropped (end_of d trace).engine.donor.drops stop.drops longer.drops stops.is.drops;
      commits = front at.donor.binlog longer.commits (end_of d trace).engine.donor.binlog stop.position longer.binlog stops.is.commits;
      drops = front at.donor.drops longer.dropped (end_of d trace).engine.donor.drops stop.drops longer.drops stops.is.drops;
    }
