-- Lists of answers: which blocks lie unread, and whether an END does.
use Rattle.std.proofs.Common.{◌≡◌, ◌++◌, ℕ, Bool, true, false, List, [], ◌∷◌, refl, sym, ap, subst, inl, inr, ◌⊎◌}
use Rattle.clone_rounds.specs.World.{Answer, Stage, Block, End}
use Rattle.clone_rounds.specs.Awaiting.{Brings, HasEnd, AreBlocks}
use Rattle.clone_rounds.specs.Steps.{sends}

pub none_end : (more : List Answer) → more ≡ [] → HasEnd more → ⊥
none_end more e h = subst HasEnd e h

-- no END was taken, and none lies unread
pub none_ended : (more : List Answer) → (HasEnd more → ⊥) → (false ≡ true) ⊎ HasEnd more → ⊥
none_ended more never (inl h) = cc
none_ended more never (inr h) = never h

pub end_or : (more : List Answer) → HasEnd more ⊎ (HasEnd more → ⊥)
end_or [] = inr (λ h. h)
end_or (Stage s ∷ more) = end_or more
end_or (Block s b ∷ more) = end_or more
end_or (End s ∷ more) = inl tt

-- an END that lies unread is the one that the list is said to have
pub blocks_end : (stage : ℕ) (Due : ℕ → Type 0) (ended : Bool) (more : List Answer) → AreBlocks stage Due ended more → HasEnd more → ended ≡ true
blocks_end stage Due ended [] h e = absurd e
blocks_end stage Due ended (Stage s ∷ more) h e = absurd h
blocks_end stage Due ended (Block s b ∷ more) h e = blocks_end stage Due ended more h.3 e
blocks_end stage Due ended (End s ∷ more) h e = h.0

pub blocks_endless : (stage : ℕ) (Due : ℕ → Type 0) (more : List Answer) → AreBlocks stage Due false more → HasEnd more → ⊥
blocks_endless stage Due more h e = cc (blocks_end stage Due false more h e)

-- what lies unread is due in another way
pub blocks_due : (stage : ℕ) (Due Now : ℕ → Type 0) (ended : Bool) (more : List Answer) → ((b : ℕ) → Brings b more → Due b → Now b) → AreBlocks stage Due ended more → AreBlocks stage Now ended more
blocks_due stage Due Now ended [] f h = h
blocks_due stage Due Now ended (Stage s ∷ more) f h = absurd h
blocks_due stage Due Now ended (Block s b ∷ more) f h = (h.0, f b (inl refl) h.1, h.2, blocks_due stage Due Now ended more (λ c g. f c (inr g)) h.3)
blocks_due stage Due Now ended (End s ∷ more) f h = h

-- ---- one more answer is sent

pub brings_front : (b : ℕ) (more next : List Answer) → Brings b more → Brings b (more ++ next)
brings_front b [] next h = absurd h
brings_front b (Stage s ∷ more) next h = brings_front b more next h
brings_front b (Block s c ∷ more) next (inl e) = inl e
brings_front b (Block s c ∷ more) next (inr h) = inr (brings_front b more next h)
brings_front b (End s ∷ more) next h = brings_front b more next h

pub brings_last : (b : ℕ) (more next : List Answer) → Brings b next → Brings b (more ++ next)
brings_last b [] next h = h
brings_last b (Stage s ∷ more) next h = brings_last b more next h
brings_last b (Block s c ∷ more) next h = inr (brings_last b more next h)
brings_last b (End s ∷ more) next h = brings_last b more next h

pub brings_parts : (b : ℕ) (more next : List Answer) → Brings b (more ++ next) → Brings b more ⊎ Brings b next
brings_parts b [] next h = inr h
brings_parts b (Stage s ∷ more) next h = brings_parts b more next h
brings_parts b (Block s c ∷ more) next (inl e) = inl (inl e)
brings_parts b (Block s c ∷ more) next (inr h) = at (brings_parts b more next h)
  where
    at : Brings b more ⊎ Brings b next → ((b ≡ c) ⊎ Brings b more) ⊎ Brings b next
    at (inl g) = inl (inr g)
    at (inr g) = inr g
brings_parts b (End s ∷ more) next h = brings_parts b more next h

pub end_parts : (more next : List Answer) → HasEnd (more ++ next) → HasEnd more ⊎ HasEnd next
end_parts [] next h = inr h
end_parts (Stage s ∷ more) next h = end_parts more next h
end_parts (Block s b ∷ more) next h = end_parts more next h
end_parts (End s ∷ more) next h = inl tt

pub end_front : (more next : List Answer) → HasEnd more → HasEnd (more ++ next)
end_front [] next h = absurd h
end_front (Stage s ∷ more) next h = end_front more next h
end_front (Block s b ∷ more) next h = end_front more next h
end_front (End s ∷ more) next h = tt

-- blocks, and then blocks none of which lies before
pub blocks_more : (stage : ℕ) (Due : ℕ → Type 0) (ended : Bool) (more next : List Answer) → ((b : ℕ) → Brings b more → Brings b next → ⊥) → AreBlocks stage Due false more → AreBlocks stage Due ended next → AreBlocks stage Due ended (more ++ next)
blocks_more stage Due ended [] next apart h g = g
blocks_more stage Due ended (Stage s ∷ more) next apart h g = absurd h
blocks_more stage Due ended (Block s b ∷ more) next apart h g = (h.0, h.1, (λ z. at (brings_parts b more next z)), blocks_more stage Due ended more next (λ c y. apart c (inr y)) h.3 g)
  where
    at : Brings b more ⊎ Brings b next → ⊥
    at (inl y) = h.2 y
    at (inr y) = apart b (inl refl) y
blocks_more stage Due ended (End s ∷ more) next apart h g = cc (h.0)

-- ---- a front is left

-- a front of nothing, and of one
pub front_none : {A : Type 0} (front lost : List A) → [] ≡ front ++ lost → front ≡ []
front_none [] lost e = refl
front_none (x ∷ front) lost e = cc

pub front_one : {A : Type 0} (x : A) (front lost : List A) → x ∷ [] ≡ front ++ lost → (front ≡ []) ⊎ (front ≡ x ∷ [])
front_one x [] lost e = inl refl
front_one x (y ∷ front) lost e = inr (at (front_none front lost rest))
  where
    rest : [] ≡ front ++ lost
    rest = cc

    at : front ≡ [] → y ∷ front ≡ x ∷ []
    at f = cc

pub append_none : {A : Type 0} (front : List A) → front ++ [] ≡ front
append_none [] = refl
append_none (x ∷ front) = ap (λ z. x ∷ z) (append_none front)

-- a front of blocks is all of them, or has no END
pub blocks_front : (stage : ℕ) (Due : ℕ → Type 0) (ended : Bool) (front lost : List Answer) → AreBlocks stage Due ended (front ++ lost) → (AreBlocks stage Due ended front × (lost ≡ [])) ⊎ AreBlocks stage Due false front
blocks_front stage Due ended [] lost h = inr refl
blocks_front stage Due ended (Stage s ∷ front) lost h = absurd h
blocks_front stage Due ended (Block s b ∷ front) lost h = at (blocks_front stage Due ended front lost h.3)
  where
    once : Brings b front → ⊥
    once g = h.2 (brings_front b front lost g)

    at : (AreBlocks stage Due ended front × (lost ≡ [])) ⊎ AreBlocks stage Due false front → (AreBlocks stage Due ended (Block s b ∷ front) × (lost ≡ [])) ⊎ AreBlocks stage Due false (Block s b ∷ front)
    at (inl g) = inl ((h.0, h.1, once, g.0), g.1)
    at (inr g) = inr (h.0, h.1, once, g)
blocks_front stage Due ended (End s ∷ front) lost h = at front lost h.2
  where
    at : (front lost : List Answer) → front ++ lost ≡ [] → (AreBlocks stage Due ended (End s ∷ front) × (lost ≡ [])) ⊎ AreBlocks stage Due false (End s ∷ front)
    at [] lost e = inl ((h.0, h.1, refl), e)
    at (x ∷ front) lost e = cc

-- ---- what lies unread is due, and sending keeps it

pub brings_due : (stage : ℕ) (Due : ℕ → Type 0) (ended : Bool) (more : List Answer) (b : ℕ) → AreBlocks stage Due ended more → Brings b more → Due b
brings_due stage Due ended [] b h g = absurd g
brings_due stage Due ended (Stage s ∷ more) b h g = absurd h
brings_due stage Due ended (Block s c ∷ more) b h (inl e) = subst Due (sym e) h.1
brings_due stage Due ended (Block s c ∷ more) b h (inr g) = brings_due stage Due ended more b h.3 g
brings_due stage Due ended (End s ∷ more) b h g = absurd (subst (Brings b) h.2 g)

pub brings_sends : (b : ℕ) (cut : Bool) (more : List Answer) (x : Answer) → Brings b more → Brings b (sends cut more x)
brings_sends b true more x h = h
brings_sends b false more x h = brings_front b more (x ∷ []) h

-- what is sent on a connection that is cut isn't there
pub end_sends : (cut : Bool) (more : List Answer) (x : Answer) → (HasEnd (x ∷ []) → ⊥) ⊎ (cut ≡ true) → HasEnd (sends cut more x) → HasEnd more
end_sends true more x none h = h
end_sends false more x (inr e) h = cc
end_sends false more x (inl none) h = at (end_parts more (x ∷ []) h)
  where
    at : HasEnd more ⊎ HasEnd (x ∷ []) → HasEnd more
    at (inl g) = g
    at (inr g) = absurd (none g)
