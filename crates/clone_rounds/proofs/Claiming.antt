-- A donor's steps keep the rule: a chunk is claimed, and its blocks are sent.
use Rattle.std.proofs.Common.{◌≡◌, ◌≢◌, ◌<◌, ℕ, Bool, true, false, List, [], ◌∷◌, refl, sym, ap, subst, ◌∙◌, arith, inl, inr, ◌⊎◌}
use Rattle.std.proofs.lemmas.Bool.{cases_Bool, cases_eq}
use Rattle.clone_rounds.specs.World.{Answer, Block, Serving, Owner, Free, Claimed, Sent, Sides, World, put}
use Rattle.clone_rounds.specs.Awaiting.{Has, AreDistinct, Brings, HasEnd, rest_of, AreBlocks, IsServed, serving, lost, IsDue, IsAwaited, unsent, unread, missed, Belongs, NoneFree, IsLevel, IsTaken, SeatRule, Rule}
use Rattle.clone_rounds.specs.Steps.{sends, after_call, claimed, claiming, block_sent, sending, IsServingAt, AreFree}
use Rattle.clone_rounds.proofs.Puts.{put_all}
use Rattle.clone_rounds.proofs.Blocks.{blocks_due, blocks_endless, blocks_more, brings_due, brings_last, brings_sends, end_sends}
use Rattle.clone_rounds.proofs.Talks.{InService, serving_of, talks_due}
use Rattle.clone_rounds.proofs.Covers.{covers}
use Rattle.clone_rounds.proofs.Fitting.{level_of}

-- ---- the blocks of a chunk

pub has_or : (c : ℕ) (bs : List ℕ) → Has c bs ⊎ (Has c bs → ⊥)
has_or c [] = inr (λ h. h)
has_or c (b ∷ bs) = at (cases_eq c b) (has_or c bs)
  where
    neither : c ≢ b → (Has c bs → ⊥) → (c ≡ b) ⊎ Has c bs → ⊥
    neither p q (inl x) = p x
    neither p q (inr x) = q x

    at : (c ≡ b) ⊎ (c ≢ b) → Has c bs ⊎ (Has c bs → ⊥) → ((c ≡ b) ⊎ Has c bs) ⊎ ((c ≡ b) ⊎ Has c bs → ⊥)
    at (inl e) h = inl (inl e)
    at (inr e) (inl h) = inl (inr h)
    at (inr e) (inr h) = inr (neither e h)

pub claimed_in : (o : ℕ → Owner) (k : ℕ) (bs : List ℕ) (c : ℕ) → Has c bs → claimed o k bs c ≡ Claimed k
claimed_in o k [] c h = absurd h
claimed_in o k (b ∷ bs) c h = put_all (λ i x. Has i (b ∷ bs) → x ≡ Claimed k) (claimed o k bs) b (Claimed k) (λ i other g. at i other (λ z. claimed_in o k bs i z) g) (λ g. refl) c h
  where
    at : (i : ℕ) → i ≢ b → (Has i bs → claimed o k bs i ≡ Claimed k) → (i ≡ b) ⊎ Has i bs → claimed o k bs i ≡ Claimed k
    at i other again (inl g) = absurd (other g)
    at i other again (inr g) = again g

pub claimed_out : (o : ℕ → Owner) (k : ℕ) (bs : List ℕ) (c : ℕ) → (Has c bs → ⊥) → claimed o k bs c ≡ o c
claimed_out o k [] c never = refl
claimed_out o k (b ∷ bs) c never = put_all (λ i x. (Has i (b ∷ bs) → ⊥) → x ≡ o i) (claimed o k bs) b (Claimed k) (λ i other g. claimed_out o k bs i (λ z. g (inr z))) (λ g. absurd (g (inl refl))) c never

free_in : (a : Sides) (bs : List ℕ) → AreFree a bs → (c : ℕ) → Has c bs → (c < a.size a.at) × (a.owner c ≡ Free)
free_in a [] f c h = absurd h
free_in a (b ∷ bs) f c (inl e) = subst (λ x. (x < a.size a.at) × (a.owner x ≡ Free)) (sym e) (f.0, f.1)
free_in a (b ∷ bs) f c (inr h) = free_in a bs f.3 c h

distinct_free : (a : Sides) (bs : List ℕ) → AreFree a bs → AreDistinct bs
distinct_free a [] f = tt
distinct_free a (b ∷ bs) f = (f.2, distinct_free a bs f.3)

-- ---- A CHUNK IS CLAIMED

pub keep_claims : (w : World) (k b : ℕ) (bs : List ℕ) → Rule w → IsServingAt w k w.sides.at [] → AreFree w.sides (b ∷ bs) → Rule (claiming w k w.sides.at (b ∷ bs))
keep_claims w k b bs r c free = record {
  sides = record { tasks = r.sides.tasks; stage = r.sides.stage; acknowledged = r.sides.acknowledged; opening = r.sides.opening; at = r.sides.at; apart = r.sides.apart; session = r.sides.session; joined = r.sides.joined; blocks = λ l d small. taken d small (has_or d (b ∷ bs)); next = λ m n. absurd (omega (arith, n, level.1)) };
  seats = put_all (SeatRule (record w.sides { owner = claimed w.sides.owner k (b ∷ bs) })) w.seats k (record (w.seats k) { core = Serving w.sides.at (b ∷ bs) }) others own;
}
  where
    old : SeatRule w.sides k (w.seats k)
    old = r.seats k

    t : InService w.sides k (w.seats k) w.sides.at []
    t = serving_of w.sides k (w.seats k) w.sides.at [] ((r.seats k).talk c.linked.connected) c.core

    level : IsLevel w.sides
    level = level_of w r k c.linked.connected t.awaits

    was_free : (d : ℕ) → Has d (b ∷ bs) → (d < w.sides.size w.sides.stage) × (w.sides.owner d ≡ Free)
    was_free d h = subst (λ x. (d < w.sides.size x) × (w.sides.owner d ≡ Free)) level.1 (free_in w.sides (b ∷ bs) free d h)

    -- what isn't free stays
    stays : (d : ℕ) (o : Owner) → (Free ≡ o → ⊥) → w.sides.owner d ≡ o → claimed w.sides.owner k (b ∷ bs) d ≡ o
    stays d o never is = claimed_out w.sides.owner k (b ∷ bs) d (λ h. never (sym (was_free d h).1 ∙ is)) ∙ is

    taken : (d : ℕ) → d < w.sides.size w.sides.stage → Has d (b ∷ bs) ⊎ (Has d (b ∷ bs) → ⊥) → IsTaken (claimed w.sides.owner k (b ∷ bs) d) (w.sides.taken d)
    taken d small (inl h) = rw (claimed_in w.sides.owner k (b ∷ bs) d h) (subst (λ o. IsTaken o (w.sides.taken d)) (was_free d h).1 (r.sides.blocks level d small))
    taken d small (inr never) = rw (claimed_out w.sides.owner k (b ∷ bs) d never) (r.sides.blocks level d small)

    -- a block of the task is one of these, or was the task's before
    owned : (j d : ℕ) → Has d (b ∷ bs) ⊎ (Has d (b ∷ bs) → ⊥) → Belongs j (claimed w.sides.owner k (b ∷ bs) d) → Belongs j (w.sides.owner d) ⊎ ((k ≡ j) × Has d (b ∷ bs))
    owned j d (inl h) g = inr (subst (Belongs j) (claimed_in w.sides.owner k (b ∷ bs) d h) g, h)
    owned j d (inr never) g = inl (subst (Belongs j) (claimed_out w.sides.owner k (b ∷ bs) d never) g)

    due : (j d : ℕ) → IsDue w.sides j d → IsDue (record w.sides { owner = claimed w.sides.owner k (b ∷ bs) }) j d
    due j d h = (h.0, stays d (Sent j) (λ e. cc) h.1, h.2)

    none : NoneFree w.sides → ⊥
    none n = n b (was_free b (inl refl)).0 (was_free b (inl refl)).1

    others : (j : ℕ) → j ≢ k → SeatRule (record w.sides { owner = claimed w.sides.owner k (b ∷ bs) }) j (w.seats j)
    others j other = let own : SeatRule w.sides j (w.seats j) = r.seats j in record {
      may = own.may;
      absent = own.absent;
      talk = λ e. talks_due w.sides.stage w.sides.at j (IsDue w.sides j) (IsDue (record w.sides { owner = claimed w.sides.owner k (b ∷ bs) }) j) (w.seats j) (λ d g h. due j d h) (own.talk e);
      unheard = own.unheard;
      unmet = own.unmet;
      covered = λ l. covers (w.sides.size w.sides.stage) w.sides.taken w.sides.taken w.sides.owner (claimed w.sides.owner k (b ∷ bs)) j (w.seats j) (w.seats j) (own.covered l) (λ d small o. before d (owned j d (has_or d (b ∷ bs)) o)) (λ d h. h) (λ d h. inr h) (λ d has. (((own.covered l).rest d has).0, stays d (Claimed j) (λ e. cc) ((own.covered l).rest d has).1));
      ended = λ l h. absurd (none (own.ended l h));
    }
      where
        before : (d : ℕ) → Belongs j (w.sides.owner d) ⊎ ((k ≡ j) × Has d (b ∷ bs)) → Belongs j (w.sides.owner d) ⊎ IsAwaited (w.seats j) d
        before d (inl h) = inl h
        before d (inr h) = absurd (other (sym h.0))

    awaited : (d : ℕ) → IsAwaited (w.seats k) d → IsAwaited (record (w.seats k) { core = Serving w.sides.at (b ∷ bs) }) d
    awaited d (unsent e has) = absurd (subst (λ x. Has d (rest_of x)) c.core has)
    awaited d (unread e h) = unread e h
    awaited d (missed e cut h) = missed e cut h

    now : (d : ℕ) → Belongs k (w.sides.owner d) ⊎ ((k ≡ k) × Has d (b ∷ bs)) → Belongs k (w.sides.owner d) ⊎ IsAwaited (record (w.seats k) { core = Serving w.sides.at (b ∷ bs) }) d
    now d (inl h) = inl h
    now d (inr h) = inr (unsent t.awaits h.1)

    own : SeatRule (record w.sides { owner = claimed w.sides.owner k (b ∷ bs) }) k (record (w.seats k) { core = Serving w.sides.at (b ∷ bs) })
    own = record {
      may = old.may;
      absent = λ e. cc (e, c.linked.connected);
      talk = λ e. rw (t.commands, t.awaits) (serving (b ∷ bs) (ap (λ x. Serving x (b ∷ bs)) t.same) (distinct_free w.sides (b ∷ bs) free) (blocks_due w.sides.stage (IsDue w.sides k) (IsDue (record w.sides { owner = claimed w.sides.owner k (b ∷ bs) }) k) false (w.seats k).answers (λ d g h. due k d h) t.blocks));
      unheard = λ zero_is h. cc (level.0, h);
      unmet = λ zero_is h. cc (t.commands, h);
      covered = λ l. covers (w.sides.size w.sides.stage) w.sides.taken w.sides.taken w.sides.owner (claimed w.sides.owner k (b ∷ bs)) k (w.seats k) (record (w.seats k) { core = Serving w.sides.at (b ∷ bs) }) (old.covered l) (λ d small o. now d (owned k d (has_or d (b ∷ bs)) o)) (λ d h. h) (λ d h. inr (awaited d h)) (λ d has. ((was_free d has).0, claimed_in w.sides.owner k (b ∷ bs) d has));
      ended = λ l h. absurd (none (old.ended l h));
    }

-- ---- A CLAIMED BLOCK IS SENT

-- what the donor's side has still to send then
sent_rest : (cut : Bool) (stage d : ℕ) (rest : List ℕ) → Has d (rest_of (after_call cut (Serving stage rest))) → Has d rest
sent_rest true stage d rest h = absurd h
sent_rest false stage d rest h = h

rest_sent : (cut : Bool) (stage d : ℕ) (rest : List ℕ) → cut ≡ false → Has d rest → Has d (rest_of (after_call cut (Serving stage rest)))
rest_sent cut stage d rest e h = subst (λ x. Has d (rest_of (after_call x (Serving stage rest)))) (sym e) h

brings_sent : (cut : Bool) (more : List Answer) (stage b : ℕ) → cut ≡ false → Brings b (sends cut more (Block stage b))
brings_sent cut more stage b e = subst (λ x. Brings b (sends x more (Block stage b))) (sym e) (brings_last b more (Block stage b ∷ []) (inl refl))

block_served : (stage at : ℕ) (Due : ℕ → Type 0) (cut : Bool) (answers : List Answer) (b : ℕ) (rest : List ℕ) → at ≡ stage → AreDistinct rest → Due b → (Brings b answers → ⊥) → AreBlocks stage Due false answers → IsServed stage Due (sends cut answers (Block at b)) cut (after_call cut (Serving at rest))
block_served stage at Due true answers b rest e distinct due once blocks = lost refl (λ h. h) blocks
block_served stage at Due false answers b rest e distinct due once blocks = serving rest (ap (λ x. Serving x rest) e) distinct (blocks_more stage Due false answers (Block at b ∷ []) apart blocks (e, due, (λ h. h), refl))
  where
    apart : (d : ℕ) → Brings d answers → (d ≡ b) ⊎ ⊥ → ⊥
    apart d h (inl same) = once (subst (λ x. Brings x answers) same h)
    apart d h (inr g) = g

pub keep_reads : (w : World) (k b : ℕ) (rest : List ℕ) → Rule w → IsServingAt w k w.sides.at (b ∷ rest) → w.sides.owner b ≡ Claimed k → Rule (sending w k w.sides.at b rest)
keep_reads w k b rest r c mine = record {
  sides = record { tasks = r.sides.tasks; stage = r.sides.stage; acknowledged = r.sides.acknowledged; opening = r.sides.opening; at = r.sides.at; apart = r.sides.apart; session = r.sides.session; joined = r.sides.joined; blocks = λ l d small. put_all (λ i o. i < w.sides.size w.sides.stage → IsTaken o (w.sides.taken i)) w.sides.owner b (Sent k) (λ i other g. r.sides.blocks l i g) (λ g. tt) d small; next = λ m n. absurd (omega (arith, n, level.1)) };
  seats = put_all (SeatRule (record w.sides { owner = put w.sides.owner b (Sent k) })) w.seats k (block_sent (w.seats k) w.sides.at b rest) others own;
}
  where
    old : SeatRule w.sides k (w.seats k)
    old = r.seats k

    t : InService w.sides k (w.seats k) w.sides.at (b ∷ rest)
    t = serving_of w.sides k (w.seats k) w.sides.at (b ∷ rest) ((r.seats k).talk c.linked.connected) c.core

    level : IsLevel w.sides
    level = level_of w r k c.linked.connected t.awaits

    claimed_rest : (d : ℕ) → Has d (b ∷ rest) → (d < w.sides.size w.sides.stage) × (w.sides.owner d ≡ Claimed k)
    claimed_rest d h = (old.covered level).rest d (subst (λ x. Has d (rest_of x)) (sym c.core) h)

    -- a block that isn't this one is as it was
    still : (d : ℕ) (o : Owner) → d ≢ b → w.sides.owner d ≡ o → put w.sides.owner b (Sent k) d ≡ o
    still d o other is = put_all (λ i x. i ≢ b → w.sides.owner i ≡ o → x ≡ o) w.sides.owner b (Sent k) (λ i away g e. e) (λ away g. absurd (away refl)) d other is

    -- so is a block that isn't claimed by this task
    stays : (d : ℕ) (o : Owner) → (Claimed k ≡ o → ⊥) → w.sides.owner d ≡ o → put w.sides.owner b (Sent k) d ≡ o
    stays d o never is = still d o (λ same. never (sym mine ∙ ap w.sides.owner (sym same) ∙ is)) is

    due : (j d : ℕ) → IsDue w.sides j d → IsDue (record w.sides { owner = put w.sides.owner b (Sent k) }) j d
    due j d h = (h.0, stays d (Sent j) (λ e. cc) h.1, h.2)

    none : NoneFree w.sides → NoneFree (record w.sides { owner = put w.sides.owner b (Sent k) })
    none n d small = put_all (λ i o. i < w.sides.size w.sides.stage → o ≢ Free) w.sides.owner b (Sent k) (λ i other g. n i g) (λ g e. cc) d small

    owned : (j d : ℕ) → Belongs j (put w.sides.owner b (Sent k) d) → Belongs j (w.sides.owner d)
    owned j d h = put_all (λ i o. Belongs j o → Belongs j (w.sides.owner i)) w.sides.owner b (Sent k) (λ i other g. g) (λ g. subst (Belongs j) (sym mine) g) d h

    others : (j : ℕ) → j ≢ k → SeatRule (record w.sides { owner = put w.sides.owner b (Sent k) }) j (w.seats j)
    others j other = let own : SeatRule w.sides j (w.seats j) = r.seats j in record {
      may = own.may;
      absent = own.absent;
      talk = λ e. talks_due w.sides.stage w.sides.at j (IsDue w.sides j) (IsDue (record w.sides { owner = put w.sides.owner b (Sent k) }) j) (w.seats j) (λ d g h. due j d h) (own.talk e);
      unheard = own.unheard;
      unmet = own.unmet;
      covered = λ l. covers (w.sides.size w.sides.stage) w.sides.taken w.sides.taken w.sides.owner (put w.sides.owner b (Sent k)) j (w.seats j) (w.seats j) (own.covered l) (λ d small o. inl (owned j d o)) (λ d h. h) (λ d h. inr h) (λ d has. (((own.covered l).rest d has).0, stays d (Claimed j) (λ e. other (claimed_same j k (sym e))) ((own.covered l).rest d has).1));
      ended = λ l h. none (own.ended l h);
    }
      where
        claimed_same : (i l : ℕ) → Claimed i ≡ Claimed l → i ≡ l
        claimed_same i l e = cc

    fresh_block : IsDue (record w.sides { owner = put w.sides.owner b (Sent k) }) k b
    fresh_block = ((claimed_rest b (inl refl)).0, put_all (λ i o. i ≡ b → o ≡ Sent k) w.sides.owner b (Sent k) (λ i other same. absurd (other same)) (λ same. refl) b refl, subst (λ o. IsTaken o (w.sides.taken b)) mine (r.sides.blocks level b (claimed_rest b (inl refl)).0))

    once : Brings b (w.seats k).answers → ⊥
    once h = cc (mine, (brings_due w.sides.stage (IsDue w.sides k) false (w.seats k).answers b t.blocks h).1)

    awaited : ((w.seats k).cut ≡ true) ⊎ ((w.seats k).cut ≡ false) → (d : ℕ) → IsAwaited (w.seats k) d → IsAwaited (block_sent (w.seats k) w.sides.at b rest) d
    awaited (inl cut) d h = missed t.awaits cut (λ g. blocks_endless w.sides.stage (IsDue w.sides k) (w.seats k).answers t.blocks (end_sends (w.seats k).cut (w.seats k).answers (Block w.sides.at b) (inr cut) g))
    awaited (inr up) d (unsent e has) = at (subst (λ x. Has d (rest_of x)) c.core has)
      where
        at : (d ≡ b) ⊎ Has d rest → IsAwaited (block_sent (w.seats k) w.sides.at b rest) d
        at (inl same) = unread e (subst (λ x. Brings x (sends (w.seats k).cut (w.seats k).answers (Block w.sides.at b))) (sym same) (brings_sent (w.seats k).cut (w.seats k).answers w.sides.at b up))
        at (inr h) = unsent e (rest_sent (w.seats k).cut w.sides.at d rest up h)
    awaited (inr up) d (unread e h) = unread e (brings_sends d (w.seats k).cut (w.seats k).answers (Block w.sides.at b) h)
    awaited (inr up) d (missed e cut h) = cc (up, cut)

    still_claimed : (d : ℕ) → Has d rest → (d < w.sides.size w.sides.stage) × (put w.sides.owner b (Sent k) d ≡ Claimed k)
    still_claimed d h = ((claimed_rest d (inr h)).0, still d (Claimed k) (λ same. t.distinct.0 (subst (λ x. Has x rest) same h)) (claimed_rest d (inr h)).1)

    ended : ((w.seats k).ended ≡ true) ⊎ HasEnd (sends (w.seats k).cut (w.seats k).answers (Block w.sides.at b)) → ((w.seats k).ended ≡ true) ⊎ HasEnd (w.seats k).answers
    ended (inl h) = inl h
    ended (inr h) = inr (end_sends (w.seats k).cut (w.seats k).answers (Block w.sides.at b) (inl (λ g. g)) h)

    own : SeatRule (record w.sides { owner = put w.sides.owner b (Sent k) }) k (block_sent (w.seats k) w.sides.at b rest)
    own = record {
      may = old.may;
      absent = λ e. cc (e, c.linked.connected);
      talk = λ e. rw (t.commands, t.awaits) (block_served w.sides.stage w.sides.at (IsDue (record w.sides { owner = put w.sides.owner b (Sent k) }) k) (w.seats k).cut (w.seats k).answers b rest t.same t.distinct.1 fresh_block once (blocks_due w.sides.stage (IsDue w.sides k) (IsDue (record w.sides { owner = put w.sides.owner b (Sent k) }) k) false (w.seats k).answers (λ d g h. due k d h) t.blocks));
      unheard = λ zero_is h. cc (level.0, h);
      unmet = λ zero_is h. cc (t.commands, h);
      covered = λ l. covers (w.sides.size w.sides.stage) w.sides.taken w.sides.taken w.sides.owner (put w.sides.owner b (Sent k)) k (w.seats k) (block_sent (w.seats k) w.sides.at b rest) (old.covered l) (λ d small o. inl (owned k d o)) (λ d h. h) (λ d h. inr (awaited (cases_Bool (w.seats k).cut) d h)) (λ d has. still_claimed d (sent_rest (w.seats k).cut w.sides.at d rest has));
      ended = λ l h. none (old.ended l (ended h));
    }
