-- What the rule gives of each frame that lies unread, and of each block that is still to be sent.
use Rattle.std.proofs.Common.{◌≡◌, ◌≢◌, ◌<◌, ℕ, suc, Bool, true, false, List, ◌∷◌, refl, sym, ap, subst, ◌∙◌, inl, inr, ◌⊎◌}
use Rattle.std.proofs.lemmas.Bool.{cases_Bool, cases_eq}
use Rattle.clone_rounds.specs.World.{Command, First, Execute, Acknowledge, Answer, Stage, Block, End, Awaited, Nothing, ForFirst, ForEnd, ForStage, Serving, Claimed, fresh, World, AllTaken, NoneLeft}
use Rattle.clone_rounds.specs.Awaiting.{Has, rest_of, Waits, Awaits, AreBlocks, IsDue, IsLevel, IsTaken, IsAt, Rule}
use Rattle.clone_rounds.specs.Fitting.{MayComeBack, FitsStage, Fits, IsPresent, Renews, Accepts, waiting_for, IsInTurn, AreClaimed, AllFit}
use Rattle.clone_rounds.proofs.Talks.{Unread, asked_of, heard_of, InService, serving_of, unread_of}

-- a seat that isn't fresh is connected
pub connected_of : (w : World) → Rule w → (k : ℕ) → (w.seats k ≡ fresh → ⊥) → (w.seats k).connected ≡ true
connected_of w r k other = at (cases_Bool (w.seats k).connected)
  where
    at : ((w.seats k).connected ≡ true) ⊎ ((w.seats k).connected ≡ false) → (w.seats k).connected ≡ true
    at (inl c) = c
    at (inr apart) = absurd (other ((r.seats k).absent apart))

-- a task that awaits more than the answer to its first command is of the donor's incarnation
pub present_of : (w : World) → Rule w → (k : ℕ) → (w.seats k).connected ≡ true → (w.seats k).awaits ≢ ForFirst → IsPresent w.sides
present_of w r k c more = at (cases_Bool w.sides.met)
  where
    never : w.sides.joined ≡ false → (k ≡ 0) ⊎ (k ≢ 0) → ⊥
    never e (inl zero_is) = more ((r.seats k).may.joins zero_is e c)
    never e (inr other) = cc (c, (r.seats k).may.follows other e)

    at : (w.sides.met ≡ true) ⊎ (w.sides.met ≡ false) → IsPresent w.sides
    at (inl holds) = (holds, r.sides.session holds)
    at (inr apart) = absurd (never (r.sides.apart apart).0 (cases_eq k 0))

-- a task that awaits an END is of the donor's stage
pub level_of : (w : World) → Rule w → (k : ℕ) → (w.seats k).connected ≡ true → (w.seats k).awaits ≡ ForEnd → IsLevel w.sides
level_of w r k c awaits = at r.sides.at
  where
    at : IsAt w.sides.at w.sides.stage w.sides.acknowledged → IsLevel w.sides
    at (inl level) = ((present_of w r k c (λ e. cc)).0, level)
    at (inr ahead) = absurd ((r.seats k).may.endless ahead.1 awaits)

-- ---- what a task takes

module _ (w : World) (r : Rule w) (k : ℕ) where
  hears : (x : Answer) (more : List Answer) (awaits : Awaited) → (w.seats k).awaits ≡ awaits → (w.seats k).answers ≡ x ∷ more → Awaits w.sides.stage w.sides.at k (IsDue w.sides k) awaits (x ∷ more) (w.seats k).cut (w.seats k).core
  hears x more awaits f e = (heard_of w.sides k (w.seats k) awaits x more ((r.seats k).talk (connected_of w r k (λ g. cc (e, ap (λ s. s.answers) g)))) f e).1

  comes_back : (s : ℕ) → s ≡ w.sides.at → w.sides.met ≡ true → IsAt w.sides.at w.sides.stage w.sides.acknowledged → MayComeBack w.sides.stage s
  comes_back s e met (inl level) = inr (e ∙ level, subst (λ n. 0 < n) level (r.sides.session met))
  comes_back s e met (inr ahead) = inl (e ∙ ahead.0)

  met_of : (x : Answer) (more : List Answer) → k ≡ 0 → (w.seats k).answers ≡ x ∷ more → w.sides.met ≡ true
  met_of x more zero_is e = at (cases_Bool w.sides.met)
    where
      at : (w.sides.met ≡ true) ⊎ (w.sides.met ≡ false) → w.sides.met ≡ true
      at (inl h) = h
      at (inr h) = cc (e, (r.seats k).unheard zero_is h)

  fits_stage : (s : ℕ) (more : List Answer) → (w.seats k).answers ≡ Stage s ∷ more → (awaits : Awaited) → (w.seats k).awaits ≡ awaits → FitsStage w.sides.stage k awaits s
  fits_stage s more e Nothing f = cc ((hears (Stage s) more Nothing f e).0)
  fits_stage s more e ForFirst f = λ zero_is. comes_back s ((hears (Stage s) more ForFirst f e).0 zero_is) (met_of (Stage s) more zero_is e) r.sides.at
  fits_stage s more e ForEnd f = (unread_of w.sides.stage (IsDue w.sides k) (Stage s ∷ more) (w.seats k).cut (w.seats k).core (hears (Stage s) more ForEnd f e)).1
  fits_stage s more e ForStage f = (((r.seats k).may.acknowledges f).0, (hears (Stage s) more ForStage f e).0.0)

  fits_block : (s b : ℕ) (more : List Answer) → (w.seats k).answers ≡ Block s b ∷ more → (awaits : Awaited) → (w.seats k).awaits ≡ awaits → Fits w.sides k awaits (Block s b)
  fits_block s b more e Nothing f = cc ((hears (Block s b) more Nothing f e).0)
  fits_block s b more e ForFirst f = absurd (hears (Block s b) more ForFirst f e)
  fits_block s b more e ForEnd f =
      let h : (ended : Bool) × AreBlocks w.sides.stage (IsDue w.sides k) ended (Block s b ∷ more) = unread_of w.sides.stage (IsDue w.sides k) (Block s b ∷ more) (w.seats k).cut (w.seats k).core (hears (Block s b) more ForEnd f e) in
      (refl, h.1.0, h.1.1.0, h.1.1.2)
  fits_block s b more e ForStage f = absurd (hears (Block s b) more ForStage f e)

  fits_end : (s : ℕ) (more : List Answer) → (w.seats k).answers ≡ End s ∷ more → (awaits : Awaited) → (w.seats k).awaits ≡ awaits → Fits w.sides k awaits (End s)
  fits_end s more e Nothing f = cc ((hears (End s) more Nothing f e).0)
  fits_end s more e ForFirst f = absurd (hears (End s) more ForFirst f e)
  fits_end s more e ForEnd f =
      let h : (ended : Bool) × AreBlocks w.sides.stage (IsDue w.sides k) ended (End s ∷ more) = unread_of w.sides.stage (IsDue w.sides k) (End s ∷ more) (w.seats k).cut (w.seats k).core (hears (End s) more ForEnd f e) in
      (refl, h.1.1)
  fits_end s more e ForStage f = absurd (hears (End s) more ForStage f e)

  fits : (x : Answer) (more : List Answer) → (w.seats k).answers ≡ x ∷ more → Fits w.sides k (w.seats k).awaits x
  fits (Stage s) more e = fits_stage s more e (w.seats k).awaits refl
  fits (Block s b) more e = fits_block s b more e (w.seats k).awaits refl
  fits (End s) more e = fits_end s more e (w.seats k).awaits refl

  -- ---- what a donor carries out

  in_turn : (c : Command) → Waits (waiting_for c) (w.seats k).cut (w.seats k).core → IsInTurn c (w.seats k).core
  in_turn c (inl e) = inl e
  in_turn c (inr e) = inr e.1

  -- where all was taken and the donor is in that stage nothing is left to be sent
  none_left : w.sides.met ≡ true → w.sides.at ≡ w.sides.stage → AllTaken w.sides → NoneLeft w.sides
  none_left met level all b below = ((λ free. cc (taken, subst (λ o. IsTaken o (w.sides.taken b)) free rule)), (λ j claimed. cc (taken, subst (λ o. IsTaken o (w.sides.taken b)) claimed rule)))
    where
      small : b < w.sides.size w.sides.stage
      small = subst (λ x. b < w.sides.size x) level below

      taken : w.sides.taken b ≡ true
      taken = all b small

      rule : IsTaken (w.sides.owner b) (w.sides.taken b)
      rule = r.sides.blocks (met, level) b small

  accepts : (c : Command) (more : List Command) → (w.seats k).commands ≡ c ∷ more → (w.seats k).connected ≡ true → Unread w.sides (w.seats k) c more → Accepts w.sides k c × IsInTurn c (w.seats k).core
  accepts First more e c t = ((renews, present), in_turn First t.2.1)
    where
      at : IsAt w.sides.at w.sides.stage w.sides.acknowledged → (w.sides.at ≡ w.sides.stage) ⊎ (w.sides.at ≡ suc w.sides.stage)
      at (inl level) = inl level
      at (inr ahead) = inr ahead.0

      renews : k ≡ 0 → Renews w.sides
      renews zero_is = (((r.seats k).unmet zero_is (e ∙ ap (λ m. First ∷ m) t.0)).0, at r.sides.at)

      present : k ≢ 0 → IsPresent w.sides
      present other = met_at (cases_Bool w.sides.met)
        where
          met_at : (w.sides.met ≡ true) ⊎ (w.sides.met ≡ false) → IsPresent w.sides
          met_at (inl met) = (met, r.sides.session met)
          met_at (inr apart) = cc (c, (r.seats k).may.follows other (r.sides.apart apart).0)
  accepts (Execute s) more e c t = ((present_of w r k c (λ f. cc (f, t.2.0)), t.2.2 ∙ sym (level_of w r k c t.2.0).1), in_turn (Execute s) t.2.1)
  accepts (Acknowledge s) more e c t = ((own.0, present, at r.sides.at), in_turn (Acknowledge s) t.2.1)
    where
      own : (k ≡ 0) × (w.sides.acknowledged ≡ true) × (w.sides.stage < 4)
      own = (r.seats k).may.acknowledges t.2.0

      present : IsPresent w.sides
      present = present_of w r k c (λ f. cc (f, t.2.0))

      at : IsAt w.sides.at w.sides.stage w.sides.acknowledged → ((s ≡ w.sides.at) × NoneLeft w.sides) ⊎ (suc s ≡ w.sides.at)
      at (inl level) = inl (t.2.2 ∙ sym level, none_left present.0 level (r.sides.acknowledged own.1))
      at (inr ahead) = inr (ap suc t.2.2 ∙ sym ahead.0)

  commands_fit : (c : Command) (more : List Command) → (w.seats k).commands ≡ c ∷ more → Accepts w.sides k c × IsInTurn c (w.seats k).core
  commands_fit c more e = accepts c more e here (asked_of w.sides k (w.seats k) c more ((r.seats k).talk here) e)
    where
      here : (w.seats k).connected ≡ true
      here = connected_of w r k (λ g. cc (e, ap (λ s. s.commands) g))

  blocks_fit : (stage : ℕ) (rest : List ℕ) → (w.seats k).core ≡ Serving stage rest → AreClaimed w.sides k stage rest
  blocks_fit stage rest e = record {
    present = (level.0, r.sides.session level.0);
    stage_is = t.same ∙ sym level.1;
    each = λ b has. let h : (b < w.sides.size w.sides.stage) × (w.sides.owner b ≡ Claimed k) = ((r.seats k).covered level).rest b (subst (Has b) (ap rest_of (sym e)) has) in (subst (λ x. b < w.sides.size x) (sym level.1) h.0, h.1);
  }
    where
      here : (w.seats k).connected ≡ true
      here = connected_of w r k (λ g. cc (e, ap (λ s. s.core) g))

      t : InService w.sides k (w.seats k) stage rest
      t = serving_of w.sides k (w.seats k) stage rest ((r.seats k).talk here) e

      level : IsLevel w.sides
      level = level_of w r k here t.awaits

pub all_fit : (w : World) → Rule w → AllFit w
all_fit w r = record { answers = fits w r; commands = commands_fit w r; blocks = blocks_fit w r }
