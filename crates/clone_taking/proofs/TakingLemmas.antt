-- The connections that a task was lent, and what its steps put out and took over them.
use Rattle.std.proofs.Common.{ℕ, ◌≡◌, ◌∙◌, List, [], ◌∷◌, ◌++◌, Option, refl, sym, ap, subst, flat_map, map}
use Rattle.std.specs.Prelude.{if◌then◌else◌, Bool}
use Rattle.std.specs.List.{AllByRecursion}
use Rattle.std.proofs.lemmas.Bool.{eq-eqb}
use Rattle.std.proofs.lemmas.Grind.{flat_map-append}
use Rattle.std.proofs.lemmas.List.{append-nil}
use Rattle.clone_outside.specs.Bytes.{TakesSome, appended}
use Rattle.clone_outside.specs.DiskCalls.{DiskState}
use Rattle.clone_outside.specs.Link.{IsUnused}
use Rattle.clone_outside.specs.declared.link.Link.{Ghosts as Link}
use Rattle.clone_outside.specs.declared.link.Side.TheVariants.{Requester}
use Rattle.clone_turn.specs.Parts.{IsSublist}
use Rattle.clone_turn.proofs.EachLemmas.{each_append, each_left, each_right}
use Rattle.clone_turn.proofs.SublistLemmas.{sublist_both}
use Rattle.clone_runs.specs.Connections.{answers_of, commands_of, place_of}
use Rattle.clone_runs.specs.Desk.{paired, paired_by}
use Rattle.clone_runs.specs.Ends.{WereSent, WereTaken}
use Rattle.clone_runs.specs.Spellings.{spellings}
use Rattle.clone_desk.specs.Steps.{DeskEntry, act_in, act_of}
use Rattle.clone_desk.specs.declared.machine.DeskAnswer.{DeskAnswer}
use Rattle.clone_desk.specs.declared.machine.DeskCall.{DeskCall}
use Rattle.clone_desk.specs.declared.machine.DeskCall.TheVariants as call
use Rattle.clone_wire.specs.Spelling.{spelling}
use Rattle.clone_wire.specs.declared.frame.Frame.{Frame}
use Rattle.clone_wire.specs.declared.frame.Side.{Side}
use Rattle.clone_wire.specs.declared.frame.Side.TheVariants.{Answer, Command}
use Rattle.clone_stream.specs.Streams.{IsFrameOf}
use Rattle.clone_copying.specs.Calls.{RecipientEntry, put_by, taken_by}
use Rattle.clone_copying.specs.Connecting as connecting
use Rattle.clone_copying.specs.Connecting.{AreLent, AsksNoMore, Connects}
use Rattle.clone_copying.specs.Fetching.{AreOver, Fetches, PassedOver}
use Rattle.clone_reading.specs.Lending as seat
use Rattle.clone_reading.specs.Lending.{Lent, Uses}
use Rattle.clone_reading.specs.Passing.{Each, PassedBytes, PassedTask, TakesTask}
use Rattle.clone_reading.specs.Reading.{AreSpelled, Bytes, as_they_are, puts_in, takes_in}
use Rattle.clone_taking.specs.Taking.{IsStepOf}
use Rattle.clone_taking.proofs.CallLemmas.{call_puts, call_takes, task_in}
use Rattle.clone_taking.proofs.FrameLemmas.{any_spelled}
use Rattle.clone_taking.proofs.PieceLemmas.{piece_spellings, pieces_none}
use Rattle.clone_taking.proofs.StepLemmas.{puts_one}

abbrev IsSpelled : Side → Bytes → Type 0
IsSpelled side bytes = (next : Frame) × IsFrameOf side next × (bytes ≡ spelling next)

-- ---- what steps put out, and what they took, are frames

module _ {R : Type 0} (state : R → DiskState) where
  puts_spelled : (made : List (RecipientEntry R)) → AllByRecursion (IsStepOf state) made → AreSpelled Command (flat_map puts_in made)
  puts_spelled [] steps = tt
  puts_spelled (e ∷ es) steps =
      let one = puts_one (task_in e.call) steps.0.0.reception.table e.after.reception.table (put_by e.call e.answer) (call_puts state steps.0.0 e.call e.answer e.after steps.0.1) in
      each_append (IsSpelled Command) (puts_in e) (flat_map puts_in es) (any_spelled Command (put_by e.call e.answer) one) (puts_spelled es steps.1)

  takes_spelled : (made : List (RecipientEntry R)) → AllByRecursion (IsStepOf state) made → AreSpelled Answer (flat_map takes_in made)
  takes_spelled [] steps = tt
  takes_spelled (e ∷ es) steps =
      each_append (IsSpelled Answer) (takes_in e) (flat_map takes_in es) (any_spelled Answer (taken_by e.call e.answer) (call_takes state steps.0.0 e.call e.answer e.after steps.0.1)) (takes_spelled es steps.1)

-- ---- the calls of the desk

abbrev lent_at : {L : Type 0} → ℕ → L × L → Lent L
lent_at place end = record { place = place; taken = end.0; back = end.1 }

module _ {N L : Type 0} (task : ℕ) where
  -- the places of the connections that the task made
  abbrev places : List (DeskEntry N L) → List ℕ
  places made = paired task (map act_of made)

  asks_none : (made : List (DeskEntry N L)) → AsksNoMore task made → Uses Requester task [] made
  asks_none made (connecting.none is) = subst (λ (es : List (DeskEntry N L)). Uses Requester task [] es) (sym is) seat.nothing
  asks_none made (connecting.refused cause one) =
      subst (λ (es : List (DeskEntry N L)). Uses Requester task [] es) (sym one.1) (seat.none [] one.0 [] one.2 (cause, one.3) seat.nothing)

  none_made : (made : List (DeskEntry N L)) → AsksNoMore task made → places made ≡ []
  none_made made (connecting.none is) = ap places is
  none_made made (connecting.refused cause one) =
      ap places one.1
      ∙ (ap (λ (c : DeskCall L). paired_by task (act_in c one.0.answer) ++ []) one.2 ∙ ap (λ (a : DeskAnswer L). paired_by task (act_in (call.Pair task) a) ++ []) one.3)

  -- of one end that was lent
  pub record IsLent (end : L × L) (made later : List (DeskEntry N L)) : Type 0 where
    pub place : ℕ
    pub uses : (lent : List (Lent L)) (asked : List (DeskEntry N L)) → Uses Requester task lent (later ++ asked) → Uses Requester task (lent_at place end ∷ lent) (made ++ asked)
    pub one : (asked : List (DeskEntry N L)) → places (made ++ asked) ≡ place ∷ places (later ++ asked)

  is_lent : (end : L × L) (now later made : List (DeskEntry N L)) → made ≡ now ++ later → connecting.Lends task end now → IsLent end made later
  is_lent end now later made is l =
      let e = l.4.0 in
      let f = l.5.0 in
      let two : now ≡ e ∷ f ∷ [] = l.3 ∙ (ap (λ (es : List (DeskEntry N L)). es ++ l.2) l.4.1 ∙ ap (λ (es : List (DeskEntry N L)). e ∷ es) l.5.1) in
      let all : made ≡ e ∷ f ∷ later = is ∙ ap (λ (es : List (DeskEntry N L)). es ++ later) two in
      let own : paired_by task (act_of e) ≡ l.0 ∷ [] =
      ap (λ (c : DeskCall L). paired_by task (act_in c e.answer)) l.4.2
      ∙ (ap (λ (a : DeskAnswer L). paired_by task (act_in (call.Pair task) a)) l.4.3 ∙ ap (λ (same : Bool). if same then l.0 ∷ [] else []) (eq-eqb task task refl)) in
      let back : paired_by task (act_of f) ≡ [] = ap (λ (c : DeskCall L). paired_by task (act_in c f.answer)) l.5.2 in
      record {
        place = l.0;
        uses = λ lent asked more. subst (λ (es : List (DeskEntry N L)). Uses Requester task (lent_at l.0 end ∷ lent) (es ++ asked)) (sym all) (seat.lends (lent_at l.0 end) lent e f (later ++ asked) l.4.2 l.4.3 l.5.2 l.5.3 more);
        one = λ asked. ap (λ (es : List (DeskEntry N L)). places (es ++ asked)) all
            ∙ (ap (λ (ns : List ℕ). ns ++ (paired_by task (act_of f) ++ places (later ++ asked))) own ∙ ap (λ (ns : List ℕ). l.0 ∷ (ns ++ places (later ++ asked))) back);
      }

-- ---- over the connections

abbrev passed_at : {R : Type 0} → ℕ → List (RecipientEntry R) → PassedBytes
passed_at place made = record { place = place; commands = flat_map puts_in made; answers = flat_map takes_in made }

module _ (were_sent : (spelled : Bytes → List ℕ) (old new : Option (List ℕ)) (xs : List Bytes) → IsUnused old → TakesSome old new (spellings spelled xs) → WereSent spelled new xs)
    (were_taken : (spelled : Bytes → List ℕ) (old new : Option (List ℕ)) (xs : List Bytes) (rest : List ℕ) → IsUnused old → new ≡ appended old (spellings spelled xs ++ rest) → WereTaken spelled new xs)
    {L X R : Type 0} (link : Link L X) (state : R → DiskState) where
  passed_over : (place : ℕ) (end : L × L) (made : List (RecipientEntry R)) → AllByRecursion (IsStepOf state) made → PassedOver link end.0 end.1 made → PassedTask link (lent_at place end) (passed_at place made)
  passed_over place end made steps p = record {
    place = refl;
    commands = puts_spelled state made steps;
    answers = takes_spelled state made steps;
    asked = were_sent as_they_are (link.sent end.0) (link.sent end.1) (flat_map puts_in made) p.unused.0 (subst (TakesSome (link.sent end.0) (link.sent end.1)) (sym (piece_spellings (λ (e : RecipientEntry R). put_by e.call e.answer) made)) p.sent);
    taken = were_taken as_they_are (link.received end.0) (link.received end.1) (flat_map takes_in made) p.rest p.unused.1 (p.received ∙ ap (λ (bytes : Bytes). appended (link.received end.0) (bytes ++ p.rest)) (sym (piece_spellings (λ (e : RecipientEntry R). taken_by e.call e.answer) made)));
  }

  module _ {N : Type 0} where
    -- what passed over the ends that were lent
    pub record Passes (task : ℕ) (asked : List (DeskEntry N L)) (over : List (RecipientEntry R)) : Type 0 where
      pub lent : List (Lent L)
      pub ends : List PassedBytes
      pub uses : Uses Requester task lent asked
      pub each : Each (PassedTask link) lent ends
      pub made : map place_of ends ≡ places task asked
      pub put : commands_of ends ≡ flat_map puts_in over
      pub took : answers_of ends ≡ flat_map takes_in over

    passes : (task : ℕ) (last : List (DeskEntry N L)) → AsksNoMore task last → (ends : List (L × L)) (lent : List (DeskEntry N L)) (over : List (RecipientEntry R)) → AreLent task ends lent → AreOver link ends over → AllByRecursion (IsStepOf state) over
        → Passes task (lent ++ last) over
    passes task last no_more [] lent over are passed steps =
        let asked : lent ++ last ≡ last = ap (λ (es : List (DeskEntry N L)). es ++ last) are in
        record {
          lent = [];
          ends = [];
          uses = subst (λ (es : List (DeskEntry N L)). Uses Requester task [] es) (sym asked) (asks_none task last no_more);
          each = tt;
          made = sym (ap (places task) asked ∙ none_made task last no_more);
          put = sym (ap (λ (es : List (RecipientEntry R)). flat_map puts_in es) passed);
          took = sym (ap (λ (es : List (RecipientEntry R)). flat_map takes_in es) passed);
        }
    passes task last no_more (end ∷ ends) lent over are passed steps =
        let now = passed.0 in
        let later = passed.1 in
        let both : AllByRecursion (IsStepOf state) (now ++ later) = subst (AllByRecursion (IsStepOf state)) passed.2 steps in
        let rest = passes task last no_more ends are.1 later are.4 passed.4 (each_right (IsStepOf state) now later both) in
        let one = is_lent task end are.0 are.1 lent are.2 are.3 in
        record {
          lent = lent_at one.place end ∷ rest.lent;
          ends = passed_at one.place now ∷ rest.ends;
          uses = one.uses rest.lent last rest.uses;
          each = (passed_over one.place end now (each_left (IsStepOf state) now later both) passed.3, rest.each);
          made = ap (λ (ns : List ℕ). one.place ∷ ns) rest.made ∙ sym (one.one last);
          put = ap (λ (bs : List Bytes). flat_map puts_in now ++ bs) rest.put ∙ sym (ap (λ (es : List (RecipientEntry R)). flat_map puts_in es) passed.2 ∙ flat_map-append puts_in now later);
          took = ap (λ (bs : List Bytes). flat_map takes_in now ++ bs) rest.took ∙ sym (ap (λ (es : List (RecipientEntry R)). flat_map takes_in es) passed.2 ∙ flat_map-append takes_in now later);
        }

    pub takes_task : (looked : ℕ → Type 0) (task : ℕ) (core left : Option ℕ) (ends : List (L × L)) (asked : List (DeskEntry N L)) (stepped : List (RecipientEntry R))
        → Connects task ends asked → Fetches link task looked core ends stepped left → AllByRecursion (IsStepOf state) stepped → (lent : List (Lent L)) × TakesTask link task stepped asked lent
    takes_task looked task core left ends asked stepped c f steps =
        let all : AllByRecursion (IsStepOf state) (f.over ++ f.last) = subst (AllByRecursion (IsStepOf state)) f.is steps in
        let p = passes task c.last c.no_more ends c.lent f.over c.ends_lent f.passed (each_left (IsStepOf state) f.over f.last all) in
        let put : flat_map puts_in stepped ≡ flat_map puts_in f.over ++ flat_map puts_in f.last = ap (λ (es : List (RecipientEntry R)). flat_map puts_in es) f.is ∙ flat_map-append puts_in f.over f.last in
        let took : flat_map takes_in stepped ≡ flat_map takes_in f.over ++ flat_map takes_in f.last = ap (λ (es : List (RecipientEntry R)). flat_map takes_in es) f.is ∙ flat_map-append takes_in f.over f.last in
        let none : flat_map takes_in f.last ≡ [] = pieces_none (λ (e : RecipientEntry R). taken_by e.call e.answer) f.last f.apart.0 in (
          p.lent,
          record {
            ends = p.ends;
            uses = subst (λ (es : List (DeskEntry N L)). Uses Requester task p.lent es) (sym c.is) p.uses;
            each = p.each;
            places = p.made ∙ ap (places task) (sym c.is);
            put = subst (λ (bs : List Bytes). IsSublist (commands_of p.ends) bs) (sym put)
                (subst (λ (bs : List Bytes). IsSublist bs (flat_map puts_in f.over ++ flat_map puts_in f.last)) (append-nil (flat_map puts_in f.over) ∙ sym p.put)
                (sublist_both (flat_map puts_in f.over) [] (flat_map puts_in f.last) tt));
            took = took ∙ (ap (λ (bs : List Bytes). flat_map takes_in f.over ++ bs) none ∙ (append-nil (flat_map takes_in f.over) ∙ sym p.took));
          },
        )
