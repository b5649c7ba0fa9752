-- Calls that carry commands out, with others before them and after them.
use Rattle.std.proofs.Common.{◌≡◌, Bool, true, false, ◌||◌, List, [], ◌∷◌, ◌++◌, true≢false, refl, sym, ap, ◌∙◌, append_assoc}
use Rattle.clone_turn.proofs.EachLemmas.{each_append, each_map}
use Rattle.clone_runs.specs.Carried.{Carried}
use Rattle.clone_runs.specs.Marks.{NoneIn, either}

pub not_both : {b : Bool} → b ≡ true → b ≡ false → ⊥
not_both t f = true≢false (sym t ∙ f)

pub or_none : (a b : Bool) → a ≡ false → b ≡ false → (a || b) ≡ false
or_none true b ea eb = ea
or_none false b ea eb = eb

or_left : (a b : Bool) → (a || b) ≡ false → a ≡ false
or_left true b e = e
or_left false b e = refl

or_right : (a b : Bool) → (a || b) ≡ false → b ≡ false
or_right true b e = absurd (not_both refl e)
or_right false b e = e

module _ {E : Type 0} (opens leaves : E → Bool) where
  abbrev Quiet : List E → Type 0
  Quiet es = NoneIn (either opens leaves) es

  pub quiet_one : (e : E) → opens e ≡ false → leaves e ≡ false → Quiet (e ∷ [])
  quiet_one e o l = (or_none (opens e) (leaves e) o l, tt)

  none_opens : (es : List E) → Quiet es → NoneIn opens es
  none_opens es quiet = each_map (λ e. either opens leaves e ≡ false) (λ e. opens e ≡ false) (λ e. or_left (opens e) (leaves e)) es quiet

  none_leaves : (es : List E) → Quiet es → NoneIn leaves es
  none_leaves es quiet = each_map (λ e. either opens leaves e ≡ false) (λ e. leaves e ≡ false) (λ e. or_right (opens e) (leaves e)) es quiet

module _ {C E : Type 0} (inits exits : C → Bool) (opens leaves : E → Bool) where
  abbrev AreCarried : List C → List E → Type 0
  AreCarried cs es = Carried inits exits opens leaves cs es

  -- quiet calls before the others
  pub carried_after : (cs : List C) (qs es : List E) → NoneIn (either opens leaves) qs → AreCarried cs es → AreCarried cs (qs ++ es)
  carried_after [] qs es quiet carried = each_append (λ e. either opens leaves e ≡ false) qs es quiet carried
  carried_after (c ∷ cs) qs es quiet carried = (
    qs ++ carried.0,
    carried.1,
    ap (λ xs. qs ++ xs) carried.2 ∙ sym (append_assoc qs carried.0 carried.1),
    record {
      opened = λ none. each_append (λ e. opens e ≡ false) qs carried.0 (none_opens opens leaves qs quiet) (carried.3.opened none);
      left = λ none. each_append (λ e. leaves e ≡ false) qs carried.0 (none_leaves opens leaves qs quiet) (carried.3.left none);
    },
    carried.4,
  )

  -- a command, whose call is the first one
  pub carried_by : (c : C) (cs : List C) (e : E) (es : List E) → (inits c ≡ false → opens e ≡ false) → (exits c ≡ false → leaves e ≡ false) → AreCarried cs es → AreCarried (c ∷ cs) (e ∷ es)
  carried_by c cs e es o l carried = (e ∷ [], es, refl, record { opened = λ none. (o none, tt); left = λ none. (l none, tt) }, carried)

  -- commands, and then others
  pub carried_append : (cs ds : List C) (es fs : List E) → AreCarried cs es → AreCarried ds fs → AreCarried (cs ++ ds) (es ++ fs)
  carried_append [] ds es fs a b = carried_after ds es fs a b
  carried_append (c ∷ cs) ds es fs a b = (a.0, a.1 ++ fs, ap (λ xs. xs ++ fs) a.2 ∙ append_assoc a.0 a.1 fs, a.3, carried_append cs ds a.1 fs a.4 b)
