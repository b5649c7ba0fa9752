-- A send makes one call after another.
use Rattle.std.proofs.Common.{ℕ, ◌≡◌, List, [], ◌∷◌, ◌++◌, ◌+◌, ◌≤◌, ◌-◌, length, take, drop, refl, sym, ap, ◌∙◌, subst, true, Bool, append_assoc}
use Rattle.std.proofs.lemmas.List.{append-nil, take_all, take_rest}
use Rattle.std.proofs.Math.Seq.{take-add}
use Rattle.std.specs.Prelude.{Result, Ok, Err}
use Rattle.clone_outside.specs.declared.link.LinkRefusal.{LinkRefusal}
use Rattle.clone_outside.specs.declared.link.LinkRefusal.TheVariants as refused
use Rattle.clone_turn.specs.Runs.{IsLegalRun, end_of, entries, calls}
use Rattle.clone_turn.proofs.Entries.{entries-append, end_of-append}
use Rattle.clone_turn.proofs.OwnCalls.{calls-append}
use Rattle.clone_memlink.specs.declared.connection.LinkAnswer.{LinkAnswer}
use Rattle.clone_memlink.specs.Connections.{Steps}
use Rattle.clone_memlink.specs.Ends.{LinkEntry, sent_in, received_in}
use Rattle.clone_memlink.specs.Held.{EndModel, Sees, EndsWith, IsToldBy, SendsBytes, SendsFront, sent_by, received_by}
use Rattle.clone_memlink.proofs.EndViewLemmas.{LinkSeat, sent_in-append, received_in-append, run_append}

ends_later : (answer : LinkAnswer) (xs ys : List (LinkEntry × Bool)) → EndsWith answer ys → EndsWith answer (xs ++ ys)
ends_later answer xs ys ends = (xs ++ ends.0, ends.1, ap (λ zs. xs ++ zs) ends.2 ∙ sym (append_assoc xs ends.0 ((ends.1, true) ∷ [])), ends.3)

told_later : (T U : Type 0) (e : LinkRefusal) (xs ys : List (LinkEntry × Bool)) → IsToldBy {T = T} (Err e) ys → IsToldBy {T = U} (Err e) (xs ++ ys)
told_later T U refused.Lost xs ys told = ends_later _ xs ys told
told_later T U refused.NoMemory xs ys told = ends_later _ xs ys told

-- after the calls of v to u, those of u to w
module _ (T : Type 0) (x : T) (v u w : EndModel) (bytes : List ℕ) (sent : SendsBytes {T = T} v (Ok x) bytes u) (named : u.name ≡ v.name) (mine : u.side ≡ v.side) where
  sees_then : (more : List (LinkEntry × Bool)) → Sees u more w → Sees v (sent.0 ++ more) w
  sees_then more sees =
      let from : u.seat ≡ record v.seat { seen = v.seat.seen ++ sent.0 } = sent.1.0 in
      let seen : entries u.seat.seen ≡ entries v.seat.seen ++ entries sent.0 = ap (λ (x : LinkSeat). entries x.seen) from ∙ entries-append v.seat.seen sent.0 in
      let start : end_of u.name.first (entries u.seat.seen) ≡ end_of (end_of v.name.first (entries v.seat.seen)) (entries sent.0) =
      ap (λ n. end_of n.first (entries u.seat.seen)) named ∙ (ap (λ es. end_of v.name.first es) seen ∙ end_of-append v.name.first (entries v.seat.seen) (entries sent.0)) in
      let legal = run_append (end_of v.name.first (entries v.seat.seen)) (entries sent.0) (entries more) sent.1.1 (subst (λ s. IsLegalRun Steps s (entries more)) start sees.1) in (
        sees.0 ∙ (ap (λ (x : LinkSeat). record x { seen = x.seen ++ more }) from ∙ ap (λ xs. record v.seat { seen = xs }) (append_assoc v.seat.seen sent.0 more)),
        subst (IsLegalRun Steps (end_of v.name.first (entries v.seat.seen))) (sym (entries-append sent.0 more)) legal,
      )

  sent_both : (more : List (LinkEntry × Bool)) (ys : List ℕ) → sent_in u.side (calls more) ≡ ys → sent_in v.side (calls (sent.0 ++ more)) ≡ bytes ++ ys
  sent_both more ys is =
      ap (sent_in v.side) (calls-append sent.0 more) ∙ (sent_in-append v.side (calls sent.0) (calls more)
      ∙ (ap (λ xs. xs ++ sent_in v.side (calls more)) sent.3 ∙ ap (λ xs. bytes ++ xs) (ap (λ s. sent_in s (calls more)) (sym mine) ∙ is)))

  received_none : (more : List (LinkEntry × Bool)) → received_in u.side (calls more) ≡ [] → received_in v.side (calls (sent.0 ++ more)) ≡ []
  received_none more is =
      ap (received_in v.side) (calls-append sent.0 more) ∙ (received_in-append v.side (calls sent.0) (calls more)
      ∙ (ap (λ xs. xs ++ received_in v.side (calls more)) sent.4 ∙ (ap (λ s. received_in s (calls more)) (sym mine) ∙ is)))

  pub sent_then : (U : Type 0) (n : ℕ) (y : U) (ys : List ℕ) → SendsBytes {T = ℕ} u (Ok n) ys w → SendsBytes {T = U} v (Ok y) (bytes ++ ys) w
  sent_then U n y ys next = (sent.0 ++ next.0, sees_then next.0 next.1, tt, sent_both next.0 ys next.3, received_none next.0 next.4)

  pub refused_then : (U : Type 0) (e : LinkRefusal) (ys : List ℕ) → SendsBytes {T = ℕ} u (Err e) ys w → SendsBytes {T = U} v (Err e) (bytes ++ ys) w
  refused_then U e ys next = (sent.0 ++ next.0, sees_then next.0 next.1, told_later ℕ U e sent.0 next.0 next.2, sent_both next.0 ys next.3, received_none next.0 next.4)

-- after calls that sent nothing
pub front_then : (T : Type 0) (x : T) (v u w : EndModel) (from : List ℕ) (r : Result ℕ LinkRefusal) → SendsBytes {T = T} v (Ok x) [] u → u.name ≡ v.name → u.side ≡ v.side
    → SendsFront u from r w → SendsFront v from r w
front_then T x v u w from (Ok n) sent named mine next = sent_then T x v u w [] sent named mine ℕ n n (take n from) next
front_then T x v u w from (Err e) sent named mine next = refused_then T x v u w [] sent named mine ℕ e [] next

-- what an end sent and received by then
module _ {T : Type 0} (v w : EndModel) (result : Result T LinkRefusal) (bytes : List ℕ) (sent : SendsBytes v result bytes w) (mine : w.side ≡ v.side) where
  calls_are : calls w.seat.seen ≡ calls v.seat.seen ++ calls sent.0
  calls_are = ap (λ (x : LinkSeat). calls x.seen) sent.1.0 ∙ calls-append v.seat.seen sent.0

  pub sent_is : sent_by w ≡ sent_by v ++ bytes
  sent_is =
      ap (λ s. sent_in s (calls w.seat.seen)) mine ∙ (ap (sent_in v.side) calls_are
      ∙ (sent_in-append v.side (calls v.seat.seen) (calls sent.0) ∙ ap (λ xs. sent_by v ++ xs) sent.3))

  pub received_is : received_by w ≡ received_by v
  received_is =
      ap (λ s. received_in s (calls w.seat.seen)) mine ∙ (ap (received_in v.side) calls_are
      ∙ (received_in-append v.side (calls v.seat.seen) (calls sent.0) ∙ (ap (λ xs. received_by v ++ xs) sent.4 ∙ append-nil (received_by v))))

-- where the calls of a send stopped
module _ (v u w : EndModel) (from : List ℕ) (done : ℕ) (sent : SendsBytes {T = Unit {0}} v (Ok tt) (take done from) u) (same : u ≡ record v { seat = u.seat }) where
  named : u.name ≡ v.name
  named = ap (λ (x : EndModel). x.name) same

  pub mine : u.side ≡ v.side
  mine = ap (λ (x : EndModel). x.side) same

  pub sent_more_then : (n : ℕ) → SendsBytes {T = ℕ} u (Ok n) (take n (take (length from - done) (drop done from))) w → SendsBytes {T = Unit {0}} v (Ok tt) (take (done + n) from) w
  sent_more_then n next =
      subst (λ xs. SendsBytes {T = Unit {0}} v (Ok tt) xs w) (sym (take-add done n from)) (sent_then (Unit {0}) tt v u w (take done from) sent named mine (Unit {0}) n tt (take n (drop done from)) (subst (λ xs. SendsBytes {T = ℕ} u (Ok n) (take n xs) w) (take_rest from done) next))

  pub stopped : (e : LinkRefusal) (r : Result (Unit {0}) LinkRefusal) → r ≡ Err e → SendsBytes {T = ℕ} u (Err e) [] w → SendsBytes v r (take done from) w
  stopped e r is next =
      subst (λ (q : Result (Unit {0}) LinkRefusal). SendsBytes v q (take done from) w) (sym is)
      (subst (λ xs. SendsBytes {T = Unit {0}} v (Err e) xs w) (append-nil (take done from)) (refused_then (Unit {0}) tt v u w (take done from) sent named mine (Unit {0}) e [] next))

  pub sent_all : length from ≤ done → SendsBytes {T = Unit {0}} v (Ok tt) from u
  sent_all all = subst (λ xs. SendsBytes {T = Unit {0}} v (Ok tt) xs u) (take_all done from all) sent
