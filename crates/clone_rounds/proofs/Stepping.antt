-- Where a rule applies, its step is there.
use Rattle.std.proofs.Common.{◌≡◌, ◌≢◌, ◌<◌, ℕ, suc, false, List, [], ◌∷◌, refl, sym, ap, subst, ◌∙◌, arith, inl, inr, ◌⊎◌}
use Rattle.std.proofs.lemmas.Bool.{cases_eq}
use Rattle.clone_rounds.specs.World.{Command, First, Execute, Acknowledge, Answer, Stage, Block, End, Awaited, Nothing, ForFirst, ForEnd, ForStage, Core, New, Ready, Serving, Over, Owner, Free, Claimed, Sent, Kept, World, NoneLeft, IsServing, IsLive}
use Rattle.clone_rounds.specs.Idle.{Takes, Loses, Serves, Carries}
use Rattle.clone_rounds.specs.Awaiting.{Rule}
use Rattle.clone_rounds.specs.Steps.{Hears, Reads, IsServingAt, TaskStep, joins, opens, advances, attaches, takes_block, ends, loses, DonorStep, meets_here, meets_next, welcomes, starts, agrees, repeats, claims, reads, finishes, block_sent, end_sent, HasSteps}
use Rattle.clone_rounds.specs.Fitting.{MayComeBack, FitsStage, Fits, Accepts, waiting_for, IsInTurn, AreClaimed}
use Rattle.clone_rounds.proofs.Puts.{put_same, find_below}
use Rattle.clone_rounds.proofs.Talks.{asked_of}
use Rattle.clone_rounds.proofs.Fitting.{all_fit}

zero_or : (n : ℕ) → (n ≡ 0) ⊎ (0 < n)
zero_or n = grind arith

is_free : (o : Owner) → (o ≡ Free) ⊎ (o ≢ Free)
is_free Free = inl refl
is_free (Claimed k) = inr (λ e. cc)
is_free (Sent k) = inr (λ e. cc)
is_free Kept = inr (λ e. cc)

module _ (w : World) (r : Rule w) (k : ℕ) where
  -- ---- a frame is taken

  takes : Takes w k → (u : World) × TaskStep w u
  takes c = at (w.seats k).answers refl
    where
      hears : (awaits : Awaited) (x : Answer) (more : List Answer) → (w.seats k).awaits ≡ awaits → (w.seats k).answers ≡ x ∷ more → Hears w k awaits x more
      hears awaits x more f e = record { linked = c.linked; part = c.part; awaited = f; front = e }

      back : (s : ℕ) (more : List Answer) → k ≡ 0 → Hears w k ForFirst (Stage s) more → MayComeBack w.sides.stage s → (w.sides.stage ≡ 0) ⊎ (0 < w.sides.stage) → (u : World) × TaskStep w u
      back s more z h (inl next) (inl none) = (_, opens more (subst (λ i. Hears w i ForFirst (Stage 1) more) z (subst (λ x. Hears w k ForFirst (Stage x) more) (omega (arith, next, none)) h)) none)
      back s more z h (inr here) (inl none) = absurd (omega (arith, none, here.1))
      back s more z h (inl next) (inr begun) = (_, joins s more (subst (λ i. Hears w i ForFirst (Stage s) more) z h) begun (inr next))
      back s more z h (inr here) (inr begun) = (_, joins s more (subst (λ i. Hears w i ForFirst (Stage s) more) z h) begun (inl here.0))

      first : (s : ℕ) (more : List Answer) → Hears w k ForFirst (Stage s) more → (k ≡ 0 → MayComeBack w.sides.stage s) → (k ≡ 0) ⊎ (k ≢ 0) → (u : World) × TaskStep w u
      first s more h fits (inl z) = back s more z h (fits z) (zero_or w.sides.stage)
      first s more h fits (inr other) = (_, attaches k s more other h)

      stage : (s : ℕ) (more : List Answer) → (w.seats k).answers ≡ Stage s ∷ more → (awaits : Awaited) → (w.seats k).awaits ≡ awaits → FitsStage w.sides.stage k awaits s → (u : World) × TaskStep w u
      stage s more e Nothing f fits = absurd fits
      stage s more e ForFirst f fits = first s more (hears ForFirst (Stage s) more f e) fits (cases_eq k 0)
      stage s more e ForEnd f fits = absurd fits
      stage s more e ForStage f fits = (_, advances more (subst (λ i. Hears w i ForStage (Stage (suc w.sides.stage)) more) fits.0 (subst (λ x. Hears w k ForStage (Stage x) more) fits.1 (hears ForStage (Stage s) more f e))) ((r.seats k).may.acknowledges f).2)

      by : (x : Answer) (more : List Answer) → (w.seats k).answers ≡ x ∷ more → Fits w.sides k (w.seats k).awaits x → (u : World) × TaskStep w u
      by (Stage s) more e fits = stage s more e (w.seats k).awaits refl fits
      by (Block s b) more e fits = (_, takes_block k b more (subst (λ x. Hears w k ForEnd (Block x b) more) fits.1 (hears ForEnd (Block s b) more fits.0 e)) fits.2 fits.3)
      by (End s) more e fits = (_, ends k more (subst (λ x. Hears w k ForEnd (End x) more) fits.1 (hears ForEnd (End s) more fits.0 e)))

      at : (answers : List Answer) → (w.seats k).answers ≡ answers → (u : World) × TaskStep w u
      at [] e = absurd (c.there e)
      at (x ∷ more) e = by x more e ((all_fit w r).answers k x more e)

  loss : Loses w k → w.losses < w.limit → (u : World) × TaskStep w u
  loss c few = (_, loses k c few w.sides.taken 0 (record { fewer = λ b small h. h; whole = λ all b small. all b small }))

  -- ---- a command is carried out

  carries : Carries w k → (u : World) × DonorStep w u
  carries c = at (w.seats k).commands refl
    where
      live : (x : Command) → IsInTurn x (w.seats k).core → (w.seats k).core ≡ waiting_for x
      live x (inl e) = e
      live x (inr over) = absurd (subst IsLive over c.live)

      read : (x : Command) (more : List Command) → (w.seats k).commands ≡ x ∷ more → IsInTurn x (w.seats k).core → Reads w k x (waiting_for x)
      read x more e turn = record { linked = c.linked; front = e ∙ ap (λ m. x ∷ m) (asked_of w.sides k (w.seats k) x more ((r.seats k).talk c.linked.connected) e).0; core = live x turn }

      renews : Reads w 0 First New → w.sides.met ≡ false → (w.sides.at ≡ w.sides.stage) ⊎ (w.sides.at ≡ suc w.sides.stage) → (w.sides.at ≡ 0) ⊎ (0 < w.sides.at) → (u : World) × DonorStep w u
      renews h apart (inl level) (inl none) = (_, meets_next h apart (inr (none, sym level ∙ none)))
      renews h apart (inl level) (inr some) = (_, meets_here h apart level some)
      renews h apart (inr ahead) some = (_, meets_next h apart (inl ahead))

      first : (more : List Command) → (w.seats k).commands ≡ First ∷ more → Accepts w.sides k First × IsInTurn First (w.seats k).core → (k ≡ 0) ⊎ (k ≢ 0) → (u : World) × DonorStep w u
      first more e fits (inl z) = renews (subst (λ i. Reads w i First New) z (read First more e fits.1)) (fits.0.0 z).0 (fits.0.0 z).1 (zero_or w.sides.at)
      first more e fits (inr other) = (_, welcomes k other (read First more e fits.1) (fits.0.1 other).0)

      by : (x : Command) (more : List Command) → (w.seats k).commands ≡ x ∷ more → Accepts w.sides k x × IsInTurn x (w.seats k).core → (u : World) × DonorStep w u
      by First more e fits = first more e fits (cases_eq k 0)
      by (Execute s) more e fits = (_, starts k (subst (λ x. Reads w k (Execute x) Ready) fits.0.1 (read (Execute s) more e fits.1)))
      by (Acknowledge s) more e fits = ack fits.0.2
        where
          zeroth : Reads w 0 (Acknowledge s) Ready
          zeroth = subst (λ i. Reads w i (Acknowledge s) Ready) fits.0.0 (read (Acknowledge s) more e fits.1)

          ack : ((s ≡ w.sides.at) × NoneLeft w.sides) ⊎ (suc s ≡ w.sides.at) → (u : World) × DonorStep w u
          ack (inl h) = (_, agrees (subst (λ x. Reads w 0 (Acknowledge x) Ready) h.0 zeroth) h.1)
          ack (inr same) = (_, repeats s zeroth same)

      at : (commands : List Command) → (w.seats k).commands ≡ commands → (u : World) × DonorStep w u
      at [] e = absurd (c.there e)
      at (x ∷ more) e = by x more e ((all_fit w r).commands k x more e)

  -- ---- an EXECUTE goes on: not by a disk fault

  serves : Serves w k → (u : World) × DonorStep w u × ((u.seats k).cut ≡ (w.seats k).cut)
  serves c = at (w.seats k).core refl c.serving
    where
      served : (rest : List ℕ) → AreClaimed w.sides k w.sides.at rest → IsServingAt w k w.sides.at rest → (u : World) × DonorStep w u × ((u.seats k).cut ≡ (w.seats k).cut)
      served [] fits h = free (find_below (λ b. w.sides.owner b ≡ Free) (λ b. is_free (w.sides.owner b)) (w.sides.size w.sides.at))
        where
          free : ((b : ℕ) × (b < w.sides.size w.sides.at) × (w.sides.owner b ≡ Free)) ⊎ ((b : ℕ) → b < w.sides.size w.sides.at → w.sides.owner b ≢ Free) → (u : World) × DonorStep w u × ((u.seats k).cut ≡ (w.seats k).cut)
          free (inl b) = (_, claims k b.0 [] h (b.1, b.2, (λ g. g), tt), ap (λ s. s.cut) (put_same w.seats k (record (w.seats k) { core = Serving w.sides.at (b.0 ∷ []) })))
          free (inr none) = (_, finishes k h none, ap (λ s. s.cut) (put_same w.seats k (end_sent (w.seats k) w.sides.at)))
      served (b ∷ rest) fits h = (_, reads k b rest h (fits.each b (inl refl)).0 (fits.each b (inl refl)).1, ap (λ s. s.cut) (put_same w.seats k (block_sent (w.seats k) w.sides.at b rest)))

      at : (core : Core) → (w.seats k).core ≡ core → IsServing core → (u : World) × DonorStep w u × ((u.seats k).cut ≡ (w.seats k).cut)
      at New e h = absurd h
      at Ready e h = absurd h
      at (Serving stage rest) e h =
          let fits : AreClaimed w.sides k stage rest = (all_fit w r).blocks k stage rest e in
          served rest (subst (λ n. AreClaimed w.sides k n rest) fits.stage_is fits) (record { linked = c.linked; core = e ∙ ap (λ n. Serving n rest) fits.stage_is })
      at Over e h = absurd h

pub steps_there : (w : World) → Rule w → HasSteps w
steps_there w r = record { takes = takes w r; loses = loss w r; carries = carries w r; serves = serves w r }
