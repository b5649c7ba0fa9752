-- What events add to the binlog: a commit each time that one is answered, and nothing else. To the
-- drops they may add.
use Rattle.std.proofs.Common.{◌≡◌, ℕ, ◌+◌, List, [], ◌∷◌, ◌++◌, length, refl, sym, ap, ◌∙◌, subst, zero, suc, zero-add, add-zero, arith, append_assoc, length-append, Option, Some, None, Result, Ok, Err, append-nil, filter_map, inl, inr, unwrap_or}
use Rattle.clone_events.proofs.Common.{cons_option, range_with_len, Drops, Commit, Donor, Undoes, EngineCall, EngineAnswer, AfterRefusal, Cause, Does, PlainStep, World, Event, made, PlainEvent, Happens, Events, committed_at, AreCommits, MakesDrops, AreDrops}
use Rattle.clone_plain.specs.declared.call.EngineAnswer.TheVariants as answers
use Rattle.clone_plain.specs.declared.call.EngineCall.TheVariants as call
use Rattle.clone_plain.specs.declared.refusal.Cause.TheVariants.{DiskFault}
use Rattle.std.proofs.lemmas.List.FromFn.{length-range_with_len}
use Rattle.clone_plain.specs.declared.refusal.Undone.{Undone}
use Rattle.clone_plain.specs.declared.refusal.Undone.TheVariants.{Left, Ended}

-- commits that were added, answered one after the other behind those before, and drops
pub record Adds (before after : Donor) (answered : List ℕ) : Type 0 where
  pub more : List Commit
  pub binlog : after.binlog ≡ before.binlog ++ more
  pub gone : Drops
  pub drops : after.drops ≡ before.drops ++ gone
  pub positions : answered ≡ range_with_len (length before.binlog + 1) (length more)

abbrev pub adds_none : (before after : Donor) → after.binlog ≡ before.binlog → after.drops ≡ before.drops → Adds before after []
adds_none before after binlog drops = record { more = []; binlog = binlog ∙ sym (append-nil before.binlog); gone = []; drops = drops ∙ sym (append-nil before.drops); positions = refl }

abbrev adds_drop : (before after : Donor) (one : ℕ × ℕ) → after.binlog ≡ before.binlog → after.drops ≡ before.drops ++ one ∷ [] → Adds before after []
adds_drop before after one binlog drops = record { more = []; binlog = binlog ∙ sym (append-nil before.binlog); gone = one ∷ []; drops = drops; positions = refl }

abbrev adds_one : (before after : Donor) (commit : Commit) (position : ℕ) → after.binlog ≡ before.binlog ++ commit ∷ [] → after.drops ≡ before.drops → position ≡ length before.binlog + 1 → Adds before after (position ∷ [])
adds_one before after commit position binlog drops count = record { more = commit ∷ []; binlog = binlog; gone = []; drops = drops ∙ sym (append-nil before.drops); positions = ap (λ n. n ∷ []) count }

binlog_of : {d e : Donor} → d ≡ e → d.binlog ≡ e.binlog
binlog_of is = ap (λ (d : Donor). d.binlog) is

drops_of : {d e : Donor} → d ≡ e → d.drops ≡ e.drops
drops_of is = ap (λ (d : Donor). d.drops) is

-- what one event adds
record AddsBy (before : Donor) (e : Event) (after : Donor) : Type 0 where
  adds : Adds before after (cons_option (committed_at e) [])
  made_drops : MakesDrops (length before.binlog) e adds.gone

undoes_none : (d : Donor) (trx : ℕ) (undone : Undone) (after : Donor) → Undoes d trx undone after → AddsBy d (made (call.UndoOne trx) (Ok (answers.UndoOne undone))) after
undoes_none d trx (Left left) after is = record { adds = adds_none d after (binlog_of is.is) (drops_of is.is); made_drops = refl }
undoes_none d trx Ended after is = record { adds = adds_none d after (binlog_of is.is) (drops_of is.is); made_drops = refl }

does_add : (d : Donor) (asked : EngineCall) (given : EngineAnswer) (after : Donor) → Does d asked given after → AddsBy d (made asked (Ok given)) after
does_add d (call.Create table buckets) answers.Create after is = record { adds = adds_none d after (binlog_of is) (drops_of is); made_drops = refl }
does_add d (call.Drop table) answers.Drop after is = record { adds = adds_drop d after (length d.binlog, table) (binlog_of is) (drops_of is); made_drops = refl }
does_add d (call.Begin writer index) (answers.Begin trx) after is = record { adds = adds_none d after (binlog_of is.1) (drops_of is.1); made_drops = refl }
does_add d (call.Put trx table key value) answers.Put after is = record { adds = adds_none d after (binlog_of is.is) (drops_of is.is); made_drops = refl }
does_add d (call.Delete trx table key) answers.Delete after is = record { adds = adds_none d after (binlog_of is.is) (drops_of is.is); made_drops = refl }
does_add d (call.Get trx table key) (answers.Get value) after is = record { adds = adds_none d after (binlog_of is) (drops_of is); made_drops = refl }
does_add d (call.UndoOne trx) (answers.UndoOne undone) after is = undoes_none d trx undone after is
does_add d (call.Commit trx) (answers.Commit position) after is = record { adds = adds_one d after is.commit position (binlog_of is.is) (drops_of is.is) is.count; made_drops = refl }
does_add d (call.FlushBegin space page) answers.FlushBegin after is = record { adds = adds_none d after (binlog_of is) (drops_of is); made_drops = refl }
does_add d (call.FlushHalf space page) answers.FlushHalf after is = record { adds = adds_none d after (binlog_of is) (drops_of is); made_drops = refl }
does_add d (call.FlushLand space page) answers.FlushLand after is = record { adds = adds_none d after (binlog_of is) (drops_of is); made_drops = refl }
does_add d call.OldestDirty (answers.OldestDirty page) after is = record { adds = adds_none d after (binlog_of is) (drops_of is); made_drops = refl }
does_add d call.Checkpoint (answers.Checkpoint lsn) after is = record { adds = adds_none d after (binlog_of is) (drops_of is); made_drops = refl }
does_add d call.End (answers.End lsn) after is = record { adds = adds_none d after (binlog_of is) (drops_of is); made_drops = refl }
does_add d asked given after is = absurd is

refused_add : (d : Donor) (asked : EngineCall) (cause : Cause) (after : Donor) → AfterRefusal d asked cause after → AddsBy d (made asked (Err cause)) after
refused_add d (call.Drop table) DiskFault after (inl same) = record { adds = adds_none d after (binlog_of same) (drops_of same); made_drops = inl refl }
refused_add d (call.Drop table) DiskFault after (inr gone) = record { adds = adds_drop d after (length d.binlog, table) (binlog_of gone) (drops_of gone); made_drops = inr refl }
refused_add d asked cause after same = record { adds = adds_none d after (binlog_of same) (drops_of same); made_drops = refl }

made_add : (d : Donor) (asked : EngineCall) (answer : Result EngineAnswer Cause) (after : Donor) → PlainStep d asked answer after → AddsBy d (made asked answer) after
made_add d asked (Ok given) after is = does_add d asked given after is.1
made_add d asked (Err cause) after is = refused_add d asked cause after is.1

pub made_adds : (d : Donor) (asked : EngineCall) (answer : Result EngineAnswer Cause) (after : Donor) → PlainStep d asked answer after → Adds d after (cons_option (committed_at (made asked answer)) [])
made_adds d asked answer after is = (made_add d asked answer after is).adds

plain_adds : (d : Donor) (e : Event) (after : Donor) → PlainEvent d e after → AddsBy d e after
plain_adds d (made asked answer) after is = made_add d asked answer after is
plain_adds d e after is = record { adds = adds_none d after (binlog_of is) (drops_of is); made_drops = refl }

-- numbers in a row, in two parts
range-append : (a m n : ℕ) → range_with_len a (m + n) ≡ range_with_len a m ++ range_with_len (a + m) n
range-append a zero n = ap (range_with_len a) (zero-add n) ∙ ap (λ b. range_with_len b n) (sym (add-zero a))
range-append a (suc m) n =
    let more : suc m + n ≡ suc (m + n) = omega arith in
    let behind : (a + 1) + m ≡ a + suc m = omega arith in
    ap (range_with_len a) more ∙ ap (λ xs. a ∷ xs) (range-append (a + 1) m n ∙ ap (λ b. range_with_len (a + 1) m ++ range_with_len b n) behind)

adds_behind : (a b c : Donor) (xs ys : List ℕ) → Adds a b xs → Adds b c ys → Adds a c (xs ++ ys)
adds_behind a b c xs ys first second =
    let start : length b.binlog + 1 ≡ length a.binlog + 1 + length first.more = omega (arith, ap length first.binlog, length-append a.binlog first.more) in
    let rest : ys ≡ range_with_len (length a.binlog + 1 + length first.more) (length second.more) = second.positions ∙ ap (λ n. range_with_len n (length second.more)) start in
    record {
      more = first.more ++ second.more;
      binlog = second.binlog ∙ ap (λ h. h ++ second.more) first.binlog ∙ append_assoc a.binlog first.more second.more;
      gone = first.gone ++ second.gone;
      drops = second.drops ∙ ap (λ h. h ++ second.gone) first.drops ∙ append_assoc a.drops first.gone second.gone;
      positions =
          ap (λ p. p ++ ys) first.positions
          ∙ ap (λ p. range_with_len (length a.binlog + 1) (length first.more) ++ p) rest
          ∙ sym (range-append (length a.binlog + 1) (length first.more) (length second.more))
          ∙ ap (range_with_len (length a.binlog + 1)) (sym (length-append first.more second.more));
    }

cons_option-append : {X : Type 0} (o : Option X) (xs : List X) → cons_option o xs ≡ cons_option o [] ++ xs
cons_option-append None xs = refl
cons_option-append (Some x) xs = refl

-- the position behind an event
abbrev first_of : List ℕ → ℕ
first_of [] = 0
first_of (n ∷ ns) = n

position_behind : (o : Option ℕ) (before after : Donor) → Adds before after (cons_option o []) → length after.binlog ≡ unwrap_or o (length before.binlog)
position_behind None before after added =
    let none : 0 ≡ length (range_with_len (length before.binlog + 1) (length added.more)) = ap length added.positions in
    let same : length after.binlog ≡ length before.binlog = omega (arith, ap length added.binlog, length-append before.binlog added.more, none, length-range_with_len (length before.binlog + 1) (length added.more)) in
    same
position_behind (Some position) before after added =
    let count : 1 ≡ length (range_with_len (length before.binlog + 1) (length added.more)) = ap length added.positions in
    let one : length added.more ≡ suc zero = omega (arith, count, length-range_with_len (length before.binlog + 1) (length added.more)) in
    let next : position ≡ length before.binlog + 1 = ap first_of added.positions ∙ ap (λ n. first_of (range_with_len (length before.binlog + 1) n)) one in
    let is : length after.binlog ≡ position = omega (arith, ap length added.binlog, length-append before.binlog added.more, one, next) in
    is

module _ {D : Type 0} (plain : D → Donor) (Step : D → Event → D → Type 0) (refines : (d e : D) (event : Event) → Step d event e → PlainEvent (plain d) event (plain e)) where
  pub event_adds : (s : World D) (e : Event) (t : World D) → Happens plain Step s e t → Adds (plain s.donor) (plain t.donor) (cons_option (committed_at e) [])
  event_adds s e t is = (plain_adds (plain s.donor) e (plain t.donor) (refines s.donor t.donor e is.step)).adds

  pub events_add : (s : World D) (es : List Event) (t : World D) → Events plain Step s es t → Adds (plain s.donor) (plain t.donor) (filter_map committed_at es)
  events_add s [] t is = adds_none (plain s.donor) (plain t.donor) (ap (λ (w : World D). (plain w.donor).binlog) (sym is)) (ap (λ (w : World D). (plain w.donor).drops) (sym is))
  events_add s (e ∷ es) t is =
      let P : List ℕ → Type 0 = Adds (plain s.donor) (plain t.donor) in
      subst P (sym (cons_option-append (committed_at e) (filter_map committed_at es))) (adds_behind _ (plain is.0.donor) _ _ _ (event_adds s e is.0 is.1) (events_add is.0 es t is.2))

  -- the drops that events make
  pub events_drop : (s : World D) (es : List Event) (t : World D) → Events plain Step s es t → (gone : Drops) × AreDrops (length (plain s.donor).binlog) es gone × ((plain t.donor).drops ≡ (plain s.donor).drops ++ gone)
  events_drop s [] t is = ([], refl, drops_of (ap (λ (w : World D). plain w.donor) (sym is)) ∙ sym (append-nil (plain s.donor).drops))
  events_drop s (e ∷ es) t is =
      let first = plain_adds (plain s.donor) e (plain is.0.donor) (refines s.donor is.0.donor e is.1.step) in
      let rest = events_drop is.0 es t is.2 in
      let more = subst (λ n. AreDrops n es rest.0) (position_behind (committed_at e) (plain s.donor) (plain is.0.donor) first.adds) rest.1 in (
        first.adds.gone ++ rest.0,
        (first.adds.gone, rest.0, first.made_drops, more, refl),
        rest.2 ∙ ap (λ h. h ++ rest.0) first.adds.drops ∙ append_assoc (plain s.donor).drops first.adds.gone rest.0,
      )

-- a run that began with no commit
pub are_commits : (before after : Donor) (events : List Event) → before.binlog ≡ [] → Adds before after (filter_map committed_at events) → AreCommits events after.binlog
are_commits before after events none added =
    added.positions
    ∙ ap (λ (h : List Commit). range_with_len (length h + 1) (length added.more)) none
    ∙ ap (λ (h : List Commit). range_with_len 1 (length h)) (sym (added.binlog ∙ ap (λ (h : List Commit). h ++ added.more) none))

-- a run that began with no drop
pub are_drops : (before after : Donor) (events : List Event) → before.binlog ≡ [] → before.drops ≡ [] → (gone : Drops) × AreDrops (length before.binlog) events gone × (after.drops ≡ before.drops ++ gone) → AreDrops 0 events after.drops
are_drops before after events no_commit no_drop has =
    let same : after.drops ≡ has.0 = has.2 ∙ ap (λ (drops : Drops). drops ++ has.0) no_drop in
    subst (AreDrops 0 events) (sym same) (subst (λ n. AreDrops n events has.0) (ap length no_commit) has.1)
