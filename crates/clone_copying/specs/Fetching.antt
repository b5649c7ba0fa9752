-- What a task did over its connections, and why its fetch ended.
use Rattle.std.specs.Prelude.{ℕ, ◌≡◌, ◌++◌, true, List, [], ◌∷◌, ⊤}
use Rattle.std.specs.List.{AllByRecursion}
use Rattle.std.specs.declared.option.Option.{Option}
use Rattle.clone_outside.specs.Bytes.{TakesSome, appended}
use Rattle.clone_outside.specs.Causes.{Rose}
use Rattle.clone_outside.specs.Link.{IsUnused}
use Rattle.clone_outside.specs.declared.Refusal.{Refusal}
use Rattle.clone_outside.specs.declared.Refusal.TheVariants as refused
use Rattle.clone_outside.specs.declared.link.Link.{Ghosts as Link}
use Rattle.clone_copying.specs.declared.fetch_end.FetchEnd.{FetchEnd}
use Rattle.clone_copying.specs.declared.fetch_end.FetchEnd.TheVariants as ending
use Rattle.clone_copying.specs.Calls.{AreCalls, FindNoLoss, IsTold, RecipientEntry, finds_loss, put, taken}

-- WHY A FETCH ENDED. The clone's end was told by the last call.
abbrev pub HasCause : {R : Type 0} → (fault halted : Type 0) → FetchEnd → List (RecipientEntry R)
    → Type 0
HasCause fault halted (ending.Ended how) made = IsTold how made
HasCause fault halted ending.NetFault made = fault
HasCause fault halted ending.Halted made = halted
HasCause fault halted ending.NoMemory made = ⊤

-- how a fetch ends that got no connection
abbrev pub refused_as : Refusal → FetchEnd
refused_as refused.Fault = ending.NetFault
refused_as refused.NoMemory = ending.NoMemory

-- without a connection nothing is taken, and none is found lost
abbrev pub AreApart : {R : Type 0} → List (RecipientEntry R) → Type 0
AreApart made = (taken made ≡ []) × FindNoLoss made

module _ {L X R : Type 0} (link : Link L X) where
  -- OVER A CONNECTION, from when its end was made to when it came back: what the calls took are the
  -- first bytes that were received, and the first of the bytes that they put out were sent. A step
  -- was made as over a lost connection only where the end had found the loss.
  pub record PassedOver (made_as back_as : L) (made : List (RecipientEntry R)) : Type 0 where
    pub name : ◌≡◌ (link.name back_as) (link.name made_as)
    pub unused : IsUnused (link.sent made_as) × IsUnused (link.received made_as)
    pub sent : TakesSome (link.sent made_as) (link.sent back_as) (put made)
    pub rest : List ℕ
    pub received : link.received back_as ≡ appended (link.received made_as) (taken made ++ rest)
    pub losses : AllByRecursion (λ (e : RecipientEntry R). finds_loss e.call ≡ true
        → Rose (link.failures made_as) (link.failures back_as)) made

  -- the calls are those over each connection, one connection after the other
  abbrev pub AreOver : List (L × L) → List (RecipientEntry R) → Type 0
  AreOver [] made = made ≡ []
  AreOver (end ∷ ends) made =
      (now : List (RecipientEntry R)) × (later : List (RecipientEntry R))
      × (made ≡ now ++ later) × PassedOver end.0 end.1 now × AreOver ends later

  -- A TASK FETCHES over these connections, one after the other, and makes its last calls without
  -- one
  pub record Fetches (task : ℕ) (looked : ℕ → Type 0) (core : Option ℕ) (ends : List (L × L))
      (made : List (RecipientEntry R)) (left : Option ℕ) : Type 0 where
    pub over : List (RecipientEntry R)
    pub last : List (RecipientEntry R)
    pub is : made ≡ over ++ last
    pub passed : AreOver ends over
    pub apart : AreApart last
    pub calls : AreCalls task looked core made left
