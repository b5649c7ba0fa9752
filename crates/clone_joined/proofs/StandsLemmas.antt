-- The session that is open is the one that stands at the donor.
use Rattle.std.proofs.Common.{ℕ, ◌≡◌, ◌∙◌, ◌==◌, ◌∷◌, [], List, Bool, true, false, if◌then◌else◌, Option, None, Some, option_map, refl, sym, ap, subst}
use Rattle.std.specs.Bool.{⊤}
use Rattle.std.specs.Option.{option_map_or}
use Rattle.std.proofs.lemmas.Bool.{eq-eqb, eqb-true, true≢false}
use Rattle.clone_session.specs.declared.info.StageInfo.{StageInfo}
use Rattle.clone_session.specs.Cloning.{Session}
use Rattle.clone_session.specs.Effects.{Tells as TellsInfo}
use Rattle.clone_engine.specs.Acts.{Act}
use Rattle.clone_engine.specs.Donor.{Donor}
use Rattle.clone_sides.specs.Answered.{Again, Gone, Open, Phase, Unopened, ends, opens, phase_after, phase_with}
use Rattle.clone_sides.specs.Facts.{Kept, kept}
use Rattle.clone_sides.specs.Trace.{Entry, Runs, end_of}
use Rattle.clone_sides.proofs.KeptLemmas.{Leaves, block_leaves, number_in}
use Rattle.clone_sides.proofs.OptionLemmas.{same_some, two_none}
use Rattle.clone_sides.proofs.StopLemmas.{ack_leaves}
use Rattle.clone_sides.proofs.WalkLemmas.{IsAway, absent}
use Rattle.clone_sides.proofs.WayLemmas.{Acking, Giving, Leaving, Opening, Quiet, Telling, Way, told_number, went}
use Rattle.clone_joined.specs.Runs.{stands}

module _ (number : ℕ) (d : Donor) where
  -- by the number of the session that stands
  pub stands_in : number_in d.cloning ≡ Some number → stands number d ≡ true
  stands_in is = by d.cloning.session is
    where
      by : (o : Option Session) → option_map (λ (k : Kept). k.0) (option_map kept o) ≡ Some number → option_map_or (λ (s : Session). s.number == number) o false ≡ true
      by None is = absurd (two_none None number refl is)
      by (Some s) is = eq-eqb s.number number (same_some (Some s.number) s.number number refl is)

  in_stands : stands number d ≡ true → number_in d.cloning ≡ Some number
  in_stands is = by d.cloning.session is
    where
      by : (o : Option Session) → option_map_or (λ (s : Session). s.number == number) o false ≡ true → option_map (λ (k : Kept). k.0) (option_map kept o) ≡ Some number
      by None is = absurd (true≢false (sym is))
      by (Some s) is = ap (λ (n : ℕ). Some n) (eqb-true s.number number is)

  stands_not : IsAway number d.cloning → stands number d ≡ false
  stands_not away = by (stands number d) refl
    where
      by : (b : Bool) → stands number d ≡ b → b ≡ false
      by true is = absurd (away (in_stands is))
      by false is = refl

-- how the session of this number stands, by how far it has come
abbrev Sits : ℕ → Donor → Phase → Type 0
Sits number v Unopened = stands number v ≡ false
Sits number v Open = stands number v ≡ true
Sits number v Gone = ⊤
Sits number v Again = ⊤

module _ (number : ℕ) (v t : Donor) (a : Act) where
  told : (info : StageInfo) → TellsInfo t.cloning info → info.session ≡ number → stands number t ≡ true
  told info tells own = stands_in number t (told_number t.cloning info tells ∙ ap (λ (n : ℕ). Some n) own)

  opened : opens number a ≡ true → Way a v t → stands number t ≡ true
  opened own (Quiet q) = absurd (true≢false (sym own ∙ q.neither.opens_none number))
  opened own (Telling info q) = told info q.tells (q.opens_own number own)
  opened own (Opening hello info q) = told info q.tells (eqb-true info.session number (ap (opens number) (sym q.is) ∙ own))
  opened own (Giving caller stage chunk n read last q) = absurd (true≢false (sym own ∙ ap (opens number) q.is))
  opened own (Acking caller stage floor info q) = absurd (true≢false (sym own ∙ ap (opens number) q.is))
  opened own (Leaving q) = absurd (true≢false (sym own ∙ q.opens_none number))

  stays : stands number v ≡ true → ends a ≡ false → Way a v t → stands number t ≡ true
  stays is on way = stands_in number t (by way ∙ in_stands number v is)
    where
      as_left : Leaves v.cloning t.cloning → number_in t.cloning ≡ number_in v.cloning
      as_left leaves = ap (option_map (λ (k : Kept). k.0)) leaves.session

      by : Way a v t → number_in t.cloning ≡ number_in v.cloning
      by (Quiet q) = as_left q.leaves
      by (Telling info q) = as_left q.leaves
      by (Opening hello info q) = absurd (two_none (number_in v.cloning) number (ap (λ (o : Option Session). option_map (λ (k : Kept). k.0) (option_map kept o)) q.none) (in_stands number v is))
      by (Giving caller stage chunk n read last q) = as_left (block_leaves v.cloning t.cloning caller chunk n last q.gives.answers).0
      by (Acking caller stage floor info q) = (ack_leaves v t caller stage info q.acks.acknowledges).number
      by (Leaving q) = absurd (true≢false (sym q.ends_it ∙ on))

  away : stands number v ≡ false → opens number a ≡ false → Way a v t → stands number t ≡ false
  away none other way = stands_not number t (absent number v t (λ is. true≢false (sym (stands_in number v is) ∙ none)) a other way).away_still

  sits_with : Way a v t → (phase : Phase) → Sits number v phase → Sits number t (phase_with number phase a)
  sits_with way Unopened is = by (opens number a) refl
    where
      by : (b : Bool) → opens number a ≡ b → Sits number t (if b then Open else Unopened)
      by true own = opened own way
      by false other = away is other way
  sits_with way Open is = by (ends a) refl
    where
      by : (b : Bool) → ends a ≡ b → Sits number t (if b then Gone else Open)
      by true over = tt
      by false on = stays is on way
  sits_with way Gone is = by (opens number a)
    where
      by : (b : Bool) → Sits number t (if b then Again else Gone)
      by true = tt
      by false = tt
  sits_with way Again is = tt

sits_after : (number : ℕ) (trace : List Entry) (v : Donor) (phase : Phase) → Sits number v phase → Runs v trace → Sits number (end_of v trace) (phase_after number phase trace)
sits_after number [] v phase is run = is
sits_after number (e ∷ es) v phase is run =
    sits_after number es e.after (phase_with number phase e.act) (sits_with number v e.after e.act (went v e.after e.act run.0.does).way phase is) run.1

-- over a run of a donor that had no session
pub open_stands : (number : ℕ) (trace : List Entry) (d : Donor) → d.cloning.session ≡ None → Runs d trace → phase_after number Unopened trace ≡ Open → stands number (end_of d trace) ≡ true
open_stands number trace d none run is =
    subst (Sits number (end_of d trace)) is
    (sits_after number trace d Unopened (ap (λ (o : Option Session). option_map_or (λ (s : Session). s.number == number) o false) none) run)
