-- Each event keeps the invariant.
use Rattle.std.proofs.Common.{◌≡◌, ◌≤◌, ◌++◌, ℕ, Bool, true, false, List, [], ◌∷◌, length, refl, sym, ap, subst, ◌∙◌, append_assoc, arith, inl, inr, Option, Some, None, if◌then◌else◌}
use Rattle.std.specs.List.{AllByRecursion}
use Rattle.std.proofs.lemmas.List.{append-nil, length-append}
use Rattle.std.proofs.lemmas.Bool.{true≢false}
use Rattle.clone_page.specs.Header.{zero_page}
use Rattle.clone_mtr.specs.Spelling.{spelling, log_of}
use Rattle.clone_mtr.specs.declared.record.Record.{Record}
use Rattle.clone_image.specs.Redone.{Standing, no_space, past_end, stands, redone, redone_from}
use Rattle.clone_image.proofs.Logs.{log_of-push, log_of-append}
use Rattle.clone_law.specs.Touches.{Lax}
use Rattle.clone_law.specs.Since.{ends, Since, IsAt, Suits, AllFit}
use Rattle.clone_law.specs.Machine.{Flight, PageEngine, Copy, Idle, Untracked, Tracked, Copied, Stopped, PageWorld, Event, Passed, Changed, Created, Opened, Dropped, Fetched, Evicted, Begun, Lengthened, Half, Landed, Failed, Checkpointed, Started, FileRead, FilesEnded, PageRead, PagesEnded, Left, first_of, dirtied, landed, outside, noted, started, created, file_read, files_ended, page_read, pages_ended, happens, HasSpace, Stands, NoFiles, AtMost, Allowed, Runs, nothing}
use Rattle.clone_law.specs.Rule.{Held, Framed, Flying, Bare, IsLater, InOrder, EngineRule, CopyRule, Rule}
use Rattle.clone_law.specs.Starts.{Gives, IsStart}
use Rattle.clone_law.proofs.TouchLemmas.{Lax-refl, Lax-same}
use Rattle.clone_law.proofs.RedoLemmas.{fits_push, since_redone}

-- The log grows.

ends-push : (log : List (List Record)) (m : List Record) → ends log ≤ ends (log ++ m ∷ [])
ends-push log m = omega (arith, ap length (log_of-push log m), length-append (log_of log) (spelling m))

pub since_longer : (space number from : ℕ) (s : Standing) (log : List (List Record)) (m : List Record) → Since space number from s log → Since space number from s (log ++ m ∷ [])
since_longer space number from s log m since =
    record { before = since.before; behind = since.behind ++ m ∷ []; split = ap (λ l. l ++ m ∷ []) since.split ∙ append_assoc since.before since.behind (m ∷ []); late = since.late; was = since.was }

at_longer : (at : ℕ) (log : List (List Record)) (m : List Record) → IsAt at log → IsAt at (log ++ m ∷ [])
at_longer at log m is = record { before = is.before; behind = is.behind ++ m ∷ []; split = ap (λ l. l ++ m ∷ []) is.split ∙ append_assoc is.before is.behind (m ∷ []); moment = is.moment }

-- where the log ended
at_joint : (log : List (List Record)) (m : List Record) → IsAt (ends log) (log ++ m ∷ [])
at_joint log m = record { before = log; behind = m ∷ []; split = refl; moment = refl }

since_now : (space number from : ℕ) (s : Standing) (log : List (List Record)) → from ≤ ends log → Lax s (redone space number log) → Since space number from s log
since_now space number from s log late lax = record { before = log; behind = []; split = sym (append-nil log); late = late; was = lax }

at_low : (at : ℕ) (log : List (List Record)) → IsAt at log → at ≤ ends log
at_low at log is = omega (arith, is.moment, ap (λ (l : List (List Record)). length (log_of l)) is.split, ap length (log_of-append is.before is.behind), length-append (log_of is.before) (log_of is.behind))

Lax-trans : (u v w : Standing) → Lax u v → Lax v w → Lax u w
Lax-trans u v (stands page) a b = subst (λ (x : Standing). Lax u x) b a
Lax-trans u no_space no_space a b = a
Lax-trans no_space past_end no_space a b = tt
Lax-trans past_end past_end no_space a b = tt
Lax-trans (stands page) past_end no_space a b = a
Lax-trans u (stands page) no_space a b = subst (λ (x : Standing). Lax x no_space) (sym a) b
Lax-trans u no_space past_end a b = absurd b
Lax-trans u past_end past_end a b = a
Lax-trans u (stands page) past_end a b = subst (λ (x : Standing). Lax x past_end) (sym a) b

pub since_lax : (space number from : ℕ) (u s : Standing) (log : List (List Record)) → Lax u s → Since space number from s log → Since space number from u log
since_lax space number from u s log lax since = record { before = since.before; behind = since.behind; split = since.split; late = since.late; was = Lax-trans u s _ lax since.was }

held_lax : (space number : ℕ) (oldest : Option ℕ) (u s : Standing) (log : List (List Record)) → Lax u s → Held space number oldest s log → Held space number oldest u log
held_lax space number None u s log lax held = Lax-trans u s _ lax held
held_lax space number (Some o) u s log lax held = since_lax space number o u s log lax held

held_passed : (space number : ℕ) (oldest : Option ℕ) (s : Standing) (log : List (List Record)) (m : List Record) → redone space number (log ++ m ∷ []) ≡ redone space number log → Held space number oldest s log → Held space number oldest s (log ++ m ∷ [])
held_passed space number None s log m same held = subst (λ (x : Standing). Lax s x) (sym same) held
held_passed space number (Some o) s log m same held = since_longer space number o s log m held

held_changed : (space number : ℕ) (oldest : Option ℕ) (s : Standing) (log : List (List Record)) (m : List Record) → Held space number oldest s log → Held space number (first_of (ends log) oldest) s (log ++ m ∷ [])
held_changed space number None s log m held = since_longer space number (ends log) s log m (since_now space number (ends log) s log (omega arith) held)
held_changed space number (Some o) s log m held = since_longer space number o s log m held

held_since : (space number at : ℕ) (oldest : Option ℕ) (s : Standing) (log : List (List Record)) → AtMost at oldest log → Held space number oldest s log → Since space number at s log
held_since space number at None s log low held = since_now space number at s log low held
held_since space number at (Some o) s log low held = record { before = held.before; behind = held.behind; split = held.split; late = omega (arith, low, held.late); was = held.was }

all_map : (P Q : Standing → Type 0) (ss : List Standing) → ((s : Standing) → P s → Q s) → AllByRecursion P ss → AllByRecursion Q ss
all_map P Q [] each all = tt
all_map P Q (s ∷ ss) each all = (each s all.0, all_map P Q ss each all.1)

low_passed : (at : ℕ) (oldest : Option ℕ) (log : List (List Record)) (m : List Record) → AtMost at oldest log → AtMost at oldest (log ++ m ∷ [])
low_passed at None log m low = omega (arith, low, ends-push log m)
low_passed at (Some o) log m low = (low.0, at_longer o log m low.1)

low_changed : (at : ℕ) (oldest : Option ℕ) (log : List (List Record)) (m : List Record) → AtMost at oldest log → AtMost at (first_of (ends log) oldest) (log ++ m ∷ [])
low_changed at None log m low = (low, at_joint log m)
low_changed at (Some o) log m low = (low.0, at_longer o log m low.1)

later_passed : (oldest later : Option ℕ) (log : List (List Record)) (m : List Record) → IsLater oldest later log → IsLater oldest later (log ++ m ∷ [])
later_passed oldest None log m order = tt
later_passed None (Some l) log m order = order
later_passed (Some o) (Some l) log m order = (order.0, at_longer l log m order.1)

order_passed : (oldest : Option ℕ) (flight : Option Flight) (log : List (List Record)) (m : List Record) → InOrder oldest flight log → InOrder oldest flight (log ++ m ∷ [])
order_passed oldest None log m order = tt
order_passed oldest (Some i) log m order = later_passed oldest i.later log m order

later_changed : (at : ℕ) (oldest later : Option ℕ) (log : List (List Record)) (m : List Record) → AtMost at oldest log → IsLater oldest later log → IsLater (first_of (ends log) oldest) (first_of (ends log) later) (log ++ m ∷ [])
later_changed at None None log m low order = (omega arith, at_joint log m)
later_changed at (Some o) None log m low order = (at_low o log low.1, at_joint log m)
later_changed at None (Some l) log m low order = absurd order
later_changed at (Some o) (Some l) log m low order = (order.0, at_longer l log m order.1)

order_changed : (at : ℕ) (oldest : Option ℕ) (flight : Option Flight) (log : List (List Record)) (m : List Record) → AtMost at oldest log → InOrder oldest flight log → InOrder (first_of (ends log) oldest) (dirtied (ends log) flight) (log ++ m ∷ [])
order_changed at oldest None log m low order = tt
order_changed at oldest (Some i) log m low order = later_changed at oldest i.later log m low order

low_later : (at : ℕ) (oldest later : Option ℕ) (log : List (List Record)) → AtMost at oldest log → IsLater oldest later log → AtMost at later log
low_later at None None log low order = low
low_later at (Some o) None log low order = omega (arith, low.0, at_low o log low.1)
low_later at None (Some l) log low order = absurd order
low_later at (Some o) (Some l) log low order = (omega (arith, low.0, order.0), order.1)

flying_passed : (space number : ℕ) (flight : Option Flight) (log : List (List Record)) (m : List Record) → redone space number (log ++ m ∷ []) ≡ redone space number log → Flying space number flight log → Flying space number flight (log ++ m ∷ [])
flying_passed space number None log m same flying = tt
flying_passed space number (Some i) log m same flying = held_passed space number i.later (stands i.image) log m same flying

flying_changed : (space number : ℕ) (flight : Option Flight) (log : List (List Record)) (m : List Record) → Flying space number flight log → Flying space number (dirtied (ends log) flight) (log ++ m ∷ [])
flying_changed space number None log m flying = tt
flying_changed space number (Some i) log m flying = held_changed space number i.later (stands i.image) log m flying

has_space : (frame : Option (List ℕ)) (bytes : List ℕ) (v : Standing) → frame ≡ Some bytes → Framed frame v → v ≡ stands bytes
has_space frame bytes v is framed = subst (λ (f : Option (List ℕ)). Framed f v) is framed

-- a copy while the log grows

copy_longer : (space number : ℕ) (log : List (List Record)) (m : List Record) (base : ℕ) (starts : List Standing) → IsAt base log × AllByRecursion (λ s. Since space number base s log) starts
    → IsAt base (log ++ m ∷ []) × AllByRecursion (λ s. Since space number base s (log ++ m ∷ [])) starts
copy_longer space number log m base starts rule =
    (at_longer base log m rule.0, all_map (λ s. Since space number base s log) (λ s. Since space number base s (log ++ m ∷ [])) starts (λ s since. since_longer space number base s log m since) rule.1)

dirtied_none : (at : ℕ) (flight : Option Flight) → flight ≡ None → dirtied at flight ≡ None
dirtied_none at flight is = ap (dirtied at) is

module _ (space number : ℕ) where
  copy_passed : (e : PageEngine) (m : List Record) (copy : Copy) → redone space number (e.log ++ m ∷ []) ≡ redone space number e.log → CopyRule space number e copy → CopyRule space number (record e { log = e.log ++ m ∷ [] }) copy
  copy_passed e m Idle same rule = tt
  copy_passed e m (Untracked starts) same rule =
      (rule.0, rule.1, all_map (λ s. Held space number e.oldest s e.log) (λ s. Held space number e.oldest s (e.log ++ m ∷ [])) starts (λ s held. held_passed space number e.oldest s e.log m same held) rule.2)
  copy_passed e m Tracked same rule = tt
  copy_passed e m (Copied base starts) same rule = copy_longer space number e.log m base starts rule
  copy_passed e m (Stopped base log starts) same rule = rule

  copy_changed : (e : PageEngine) (m : List Record) (frame : Option (List ℕ)) (copy : Copy) → CopyRule space number e copy
      → CopyRule space number (record e { log = e.log ++ m ∷ []; frame = frame; oldest = first_of (ends e.log) e.oldest; flight = dirtied (ends e.log) e.flight }) copy
  copy_changed e m frame Idle rule = tt
  copy_changed e m frame (Untracked starts) rule =
      (rule.0, dirtied_none (ends e.log) e.flight rule.1, all_map (λ s. Held space number e.oldest s e.log) (λ s. Held space number (first_of (ends e.log) e.oldest) s (e.log ++ m ∷ [])) starts (λ s held. held_changed space number e.oldest s e.log m held) rule.2)
  copy_changed e m frame Tracked rule = tt
  copy_changed e m frame (Copied base starts) rule = copy_longer space number e.log m base starts rule
  copy_changed e m frame (Stopped base log starts) rule = rule

  -- any other change of the engine, with a log that is longer
  copy_reset : (e new : PageEngine) (m : List Record) (copy : Copy) → new.log ≡ e.log ++ m ∷ [] → NoFiles copy → CopyRule space number e copy → CopyRule space number new copy
  copy_reset e new m Idle same calm rule = tt
  copy_reset e new m (Untracked starts) same calm rule = absurd calm
  copy_reset e new m Tracked same calm rule = tt
  copy_reset e new m (Copied base starts) same calm rule =
      subst (λ (l : List (List Record)). IsAt base l × AllByRecursion (λ s. Since space number base s l) starts) (sym same) (copy_longer space number e.log m base starts rule)
  copy_reset e new m (Stopped base log starts) same calm rule = rule

  copy_created : (e new : PageEngine) (m : List Record) (copy : Copy) (v : Standing) → new.log ≡ e.log ++ m ∷ [] → new.writing ≡ false → new.flight ≡ None → Held space number new.oldest v new.log → CopyRule space number e copy
      → CopyRule space number new (created v copy)
  copy_created e new m Idle v same closed none held rule = tt
  copy_created e new m (Untracked starts) v same closed none held rule = (closed, none, (held, tt))
  copy_created e new m Tracked v same closed none held rule = tt
  copy_created e new m (Copied base starts) v same closed none held rule = copy_reset e new m (Copied base starts) same tt rule
  copy_created e new m (Stopped base log starts) v same closed none held rule = rule

  -- the tracker noted the page
  copy_noted : (e new : PageEngine) (copy : Copy) → new.log ≡ e.log → CopyRule space number e copy → CopyRule space number new (noted copy)
  copy_noted e new Idle same rule = tt
  copy_noted e new (Untracked starts) same rule = tt
  copy_noted e new Tracked same rule = tt
  copy_noted e new (Copied base starts) same rule = subst (λ (l : List (List Record)). IsAt base l × AllByRecursion (λ s. Since space number base s l) starts) (sym same) rule
  copy_noted e new (Stopped base log starts) same rule = rule

  -- no change of the log and of the oldest modification, nor, while the page isn't tracked, of its write
  copy_same : (e new : PageEngine) (copy : Copy) → new.log ≡ e.log → new.oldest ≡ e.oldest → (e.writing ≡ false → e.flight ≡ None → (new.writing ≡ false) × (new.flight ≡ None)) → CopyRule space number e copy → CopyRule space number new copy
  copy_same e new Idle same old calm rule = tt
  copy_same e new (Untracked starts) same old calm rule =
      let c = calm rule.0 rule.1 in
      (c.0, c.1, subst (λ (l : List (List Record)). AllByRecursion (λ s. Held space number new.oldest s l) starts) (sym same) (subst (λ (o : Option ℕ). AllByRecursion (λ s. Held space number o s e.log) starts) (sym old) rule.2))
  copy_same e new Tracked same old calm rule = tt
  copy_same e new (Copied base starts) same old calm rule = subst (λ (l : List (List Record)). IsAt base l × AllByRecursion (λ s. Since space number base s l) starts) (sym same) rule
  copy_same e new (Stopped base log starts) same old calm rule = rule

  -- the engine's events

  passed : (e : PageEngine) (m : List Record) → EngineRule space number e → Suits space number e.log m → redone space number (e.log ++ m ∷ []) ≡ redone space number e.log → EngineRule space number (record e { log = e.log ++ m ∷ [] })
  passed e m r suits same = record {
    fits = fits_push space number e.log m r.fits suits;
    framed = subst (λ (v : Standing). Framed e.frame v) (sym same) r.framed;
    quiet = λ closed has. held_passed space number e.oldest e.disk e.log m same (r.quiet closed (subst (λ (v : Standing). HasSpace v) same has));
    flying = flying_passed space number e.flight e.log m same r.flying;
    bare = r.bare;
    order = order_passed e.oldest e.flight e.log m r.order;
    low = low_passed e.checkpoint e.oldest e.log m r.low;
    aligned = at_longer e.checkpoint e.log m r.aligned;
  }

  changed : (e : PageEngine) (m : List Record) (bytes : List ℕ) → EngineRule space number e → Suits space number e.log m → redone space number (e.log ++ m ∷ []) ≡ stands bytes → HasSpace (redone space number e.log)
      → EngineRule space number (record e { log = e.log ++ m ∷ []; frame = Some bytes; oldest = first_of (ends e.log) e.oldest; flight = dirtied (ends e.log) e.flight })
  changed e m bytes r suits now has = record {
    fits = fits_push space number e.log m r.fits suits;
    framed = now;
    quiet = λ closed _. held_changed space number e.oldest e.disk e.log m (r.quiet closed has);
    flying = flying_changed space number e.flight e.log m r.flying;
    bare = tt;
    order = order_changed e.checkpoint e.oldest e.flight e.log m r.low r.order;
    low = low_changed e.checkpoint e.oldest e.log m r.low;
    aligned = at_longer e.checkpoint e.log m r.aligned;
  }

  at_end : (e : PageEngine) (m : List Record) → EngineRule space number e → e.checkpoint ≤ ends (e.log ++ m ∷ [])
  at_end e m r = omega (arith, at_low e.checkpoint e.log r.aligned, ends-push e.log m)

  made : (e : PageEngine) (m : List Record) → EngineRule space number e → Suits space number e.log m
      → EngineRule space number (record e { log = e.log ++ m ∷ []; disk = redone space number (e.log ++ m ∷ []); writing = false; frame = None; oldest = None; flight = None })
  made e m r suits = record {
    fits = fits_push space number e.log m r.fits suits;
    framed = tt;
    quiet = λ closed has. Lax-refl _;
    flying = tt;
    bare = (refl, refl, refl);
    order = tt;
    low = at_end e m r;
    aligned = at_longer e.checkpoint e.log m r.aligned;
  }

  -- where its space wasn't there, a page was as good as a zero page then
  zero_since : (log : List (List Record)) (m : List Record) → redone space number log ≡ no_space → Since space number (ends log) (stands zero_page) (log ++ m ∷ [])
  zero_since log m none = since_longer space number (ends log) (stands zero_page) log m (since_now space number (ends log) (stands zero_page) log (omega arith) (subst (λ (v : Standing). Lax (stands zero_page) v) (sym none) refl))

  opened : (e : PageEngine) (m : List Record) (bytes : List ℕ) → EngineRule space number e → Suits space number e.log m → redone space number (e.log ++ m ∷ []) ≡ stands bytes → redone space number e.log ≡ no_space
      → EngineRule space number (record e { log = e.log ++ m ∷ []; disk = stands zero_page; writing = false; frame = Some bytes; oldest = Some (ends e.log); flight = None })
  opened e m bytes r suits now none = record {
    fits = fits_push space number e.log m r.fits suits;
    framed = now;
    quiet = λ closed has. zero_since e.log m none;
    flying = tt;
    bare = tt;
    order = tt;
    low = (at_low e.checkpoint e.log r.aligned, at_joint e.log m);
    aligned = at_longer e.checkpoint e.log m r.aligned;
  }

  dropped : (e : PageEngine) (m : List Record) (disk : Standing) → EngineRule space number e → Suits space number e.log m → redone space number (e.log ++ m ∷ []) ≡ no_space
      → EngineRule space number (record e { log = e.log ++ m ∷ []; disk = disk; writing = false; frame = None; oldest = None; flight = None })
  dropped e m disk r suits none = record {
    fits = fits_push space number e.log m r.fits suits;
    framed = tt;
    quiet = λ closed has. absurd (subst (λ (v : Standing). HasSpace v) none has);
    flying = tt;
    bare = (refl, refl, refl);
    order = tt;
    low = at_end e m r;
    aligned = at_longer e.checkpoint e.log m r.aligned;
  }

  -- a page without a frame is the disk's
  on_disk : (e : PageEngine) (bytes : List ℕ) → EngineRule space number e → e.frame ≡ None → e.disk ≡ stands bytes → HasSpace (redone space number e.log) → Lax (stands bytes) (redone space number e.log)
  on_disk e bytes r bare disk has =
      let b = subst (λ (f : Option (List ℕ)). Bare f e.writing e.oldest e.flight) bare r.bare in
      let held = subst (λ (o : Option ℕ). Held space number o e.disk e.log) b.1 (r.quiet b.0 has) in
      subst (λ (s : Standing). Lax s (redone space number e.log)) disk held

  stood : (bytes : List ℕ) (v : Standing) → Stands v → Lax (stands bytes) v → v ≡ stands bytes
  stood bytes no_space is lax = absurd is
  stood bytes past_end is lax = absurd is
  stood bytes (stands page) is lax = sym lax

  space_of_standing : (v : Standing) → Stands v → HasSpace v
  space_of_standing no_space is = is
  space_of_standing past_end is = tt
  space_of_standing (stands page) is = tt

  fetched : (e : PageEngine) (bytes : List ℕ) → EngineRule space number e → e.frame ≡ None → e.disk ≡ stands bytes → Stands (redone space number e.log) → EngineRule space number (record e { frame = Some bytes })
  fetched e bytes r bare disk is = record {
    fits = r.fits;
    framed = stood bytes (redone space number e.log) is (on_disk e bytes r bare disk (space_of_standing _ is));
    quiet = r.quiet;
    flying = r.flying;
    bare = tt;
    order = r.order;
    low = r.low;
    aligned = r.aligned;
  }

  evicted : (e : PageEngine) → EngineRule space number e → e.writing ≡ false → e.oldest ≡ None → e.flight ≡ None → EngineRule space number (record e { frame = None })
  evicted e r closed clean none = record { fits = r.fits; framed = tt; quiet = r.quiet; flying = r.flying; bare = (closed, clean, none); order = r.order; low = r.low; aligned = r.aligned }

  bare_flight : (e : PageEngine) (flight : Option Flight) (writing : Bool) (bytes : List ℕ) → e.frame ≡ Some bytes → Bare e.frame writing e.oldest flight
  bare_flight e flight writing bytes framed = subst (λ (f : Option (List ℕ)). Bare f writing e.oldest flight) (sym framed) tt

  begun : (e : PageEngine) (bytes : List ℕ) → EngineRule space number e → e.frame ≡ Some bytes → EngineRule space number (record e { flight = Some (record { image = bytes; later = None }) })
  begun e bytes r framed = record {
    fits = r.fits;
    framed = r.framed;
    quiet = r.quiet;
    flying = Lax-same _ _ (sym (has_space e.frame bytes _ framed r.framed));
    bare = bare_flight e (Some (record { image = bytes; later = None })) e.writing bytes framed;
    order = tt;
    low = r.low;
    aligned = r.aligned;
  }

  zero_lax : (v : Standing) → v ≡ past_end → Lax (stands zero_page) v
  zero_lax v is = subst (λ (x : Standing). Lax (stands zero_page) x) (sym is) refl

  lengthened : (e : PageEngine) → EngineRule space number e → e.disk ≡ past_end → EngineRule space number (record e { disk = stands zero_page })
  lengthened e r past = record {
    fits = r.fits;
    framed = r.framed;
    quiet = λ closed has. held_lax space number e.oldest (stands zero_page) e.disk e.log (zero_lax e.disk past) (r.quiet closed has);
    flying = r.flying;
    bare = r.bare;
    order = r.order;
    low = r.low;
    aligned = r.aligned;
  }

  -- a page in flight has a frame
  flown : (e : PageEngine) (frame : Option (List ℕ)) (i : Flight) (writing : Bool) → e.flight ≡ Some i → Bare frame e.writing e.oldest e.flight → Bare frame writing e.oldest e.flight
  flown e None i writing some bare = absurd (no_flight (sym some ∙ bare.2))
    where
      no_flight : Some i ≡ None → ⊥
      no_flight is = cc
  flown e (Some bytes) i writing some bare = tt

  half : (e : PageEngine) (disk : Standing) (i : Flight) → EngineRule space number e → e.flight ≡ Some i → EngineRule space number (record e { disk = disk; writing = true })
  half e disk i r some = record {
    fits = r.fits;
    framed = r.framed;
    quiet = λ closed has. absurd (true≢false closed);
    flying = r.flying;
    bare = flown e e.frame i true some r.bare;
    order = r.order;
    low = r.low;
    aligned = r.aligned;
  }

  failed : (e : PageEngine) (disk : Standing) (bytes : List ℕ) → EngineRule space number e → e.frame ≡ Some bytes → EngineRule space number (record e { disk = disk; writing = true; flight = None })
  failed e disk bytes r framed = record {
    fits = r.fits;
    framed = r.framed;
    quiet = λ closed has. absurd (true≢false closed);
    flying = tt;
    bare = bare_flight e None true bytes framed;
    order = tt;
    low = r.low;
    aligned = r.aligned;
  }

  flew : (e : PageEngine) (flight : Option Flight) → EngineRule space number e → e.flight ≡ flight → EngineRule space number (landed e flight)
  flew e None r is = r
  flew e (Some i) r is =
      let flying = subst (λ (f : Option Flight). Flying space number f e.log) is r.flying in
      let order = subst (λ (f : Option Flight). InOrder e.oldest f e.log) is r.order in
      record {
        fits = r.fits;
        framed = r.framed;
        quiet = λ closed has. flying;
        flying = tt;
        bare = aground e.frame (subst (λ (f : Option Flight). Bare e.frame e.writing e.oldest f) is r.bare);
        order = tt;
        low = low_later e.checkpoint e.oldest i.later e.log r.low order;
        aligned = r.aligned;
      }
    where
      no_flight : Some i ≡ None → ⊥
      no_flight is = cc

      aground : (frame : Option (List ℕ)) → Bare frame e.writing e.oldest (Some i) → Bare frame false i.later None
      aground None bare = absurd (no_flight bare.2)
      aground (Some bytes) bare = tt

  checked : (e : PageEngine) (at : ℕ) → EngineRule space number e → AtMost at e.oldest e.log → IsAt at e.log → EngineRule space number (record e { checkpoint = at })
  checked e at r low is = record { fits = r.fits; framed = r.framed; quiet = r.quiet; flying = r.flying; bare = r.bare; order = r.order; low = low; aligned = is }

  copy_landed : (e : PageEngine) (flight : Option Flight) (copy : Copy) → e.flight ≡ flight → CopyRule space number e copy → CopyRule space number (landed e flight) copy
  copy_landed e None copy is rule = rule
  copy_landed e (Some i) Idle is rule = tt
  copy_landed e (Some i) (Untracked starts) is rule = absurd (no_flight (sym is ∙ rule.1))
    where
      no_flight : Some i ≡ None → ⊥
      no_flight is = cc
  copy_landed e (Some i) Tracked is rule = tt
  copy_landed e (Some i) (Copied base starts) is rule = rule
  copy_landed e (Some i) (Stopped base log starts) is rule = rule

  -- the session's events

  outside_held : (e : PageEngine) (v : Standing) → EngineRule space number e → e.writing ≡ false → redone space number e.log ≡ v → Held space number e.oldest (outside v e.disk) e.log
  outside_held e no_space r closed is =
      let bare = unframed e.frame r.framed r.bare in
      subst (λ (o : Option ℕ). Held space number o no_space e.log) (sym bare) (subst (λ (x : Standing). Lax no_space x) (sym is) tt)
    where
      no_stand : (bytes : List ℕ) → no_space ≡ stands bytes → ⊥
      no_stand bytes e = cc

      unframed : (frame : Option (List ℕ)) → Framed frame (redone space number e.log) → Bare frame e.writing e.oldest e.flight → e.oldest ≡ None
      unframed None framed bare = bare.1
      unframed (Some bytes) framed bare = absurd (no_stand bytes (sym is ∙ framed))
  outside_held e past_end r closed is = r.quiet closed (subst (λ (x : Standing). HasSpace x) (sym is) tt)
  outside_held e (stands page) r closed is = r.quiet closed (subst (λ (x : Standing). HasSpace x) (sym is) tt)

  starting : (e : PageEngine) (writing : Bool) (flight : Option Flight) (listed : Bool) → EngineRule space number e → e.writing ≡ writing → e.flight ≡ flight
      → CopyRule space number e (started writing flight (if listed then [] else (outside (redone space number e.log) e.disk ∷ [])))
  starting e true flight listed r closed none = tt
  starting e false (Some i) listed r closed none = tt
  starting e false None true r closed none = (closed, none, tt)
  starting e false None false r closed none = (closed, none, (outside_held e (redone space number e.log) r closed refl, tt))

  reading : (e : PageEngine) (bytes : List ℕ) (copy : Copy) → EngineRule space number e → HasSpace (redone space number e.log) → (e.writing ≡ false → e.disk ≡ stands bytes) → CopyRule space number e copy → CopyRule space number e (file_read bytes copy)
  reading e bytes Idle r has quiet rule = tt
  reading e bytes (Untracked starts) r has quiet rule =
      (rule.0, rule.1, (subst (λ (s : Standing). Held space number e.oldest s e.log) (quiet rule.0) (r.quiet rule.0 has), rule.2))
  reading e bytes Tracked r has quiet rule = tt
  reading e bytes (Copied base starts) r has quiet rule = rule
  reading e bytes (Stopped base log starts) r has quiet rule = rule

  files_over : (e : PageEngine) (copy : Copy) → EngineRule space number e → CopyRule space number e copy → CopyRule space number e (files_ended e.checkpoint copy)
  files_over e Idle r rule = tt
  files_over e (Untracked starts) r rule =
      (r.aligned, all_map (λ s. Held space number e.oldest s e.log) (λ s. Since space number e.checkpoint s e.log) starts (λ s held. held_since space number e.checkpoint e.oldest s e.log r.low held) rule.2)
  files_over e Tracked r rule = (r.aligned, tt)
  files_over e (Copied base starts) r rule = rule
  files_over e (Stopped base log starts) r rule = rule

  now_read : (e : PageEngine) (bytes : List ℕ) → EngineRule space number e → Allowed space number (record { engine = e; copy = Idle }) (PageRead bytes) → Lax (stands bytes) (redone space number e.log)
  now_read e bytes r (inl framed) = Lax-same _ _ (sym (has_space e.frame bytes _ framed r.framed))
  now_read e bytes r (inr bare) = on_disk e bytes r bare.0 bare.1 (space_of_standing _ bare.2)

  page_reading : (e : PageEngine) (bytes : List ℕ) (copy : Copy) → Lax (stands bytes) (redone space number e.log) → CopyRule space number e copy → CopyRule space number e (page_read bytes copy)
  page_reading e bytes Idle now rule = tt
  page_reading e bytes (Untracked starts) now rule = rule
  page_reading e bytes Tracked now rule = tt
  page_reading e bytes (Copied base starts) now rule = (rule.0, (since_now space number base (stands bytes) e.log (at_low base e.log rule.0) now, rule.1))
  page_reading e bytes (Stopped base log starts) now rule = rule

  pages_over : (e : PageEngine) (copy : Copy) → EngineRule space number e → CopyRule space number e copy → CopyRule space number e (pages_ended e.log copy)
  pages_over e Idle r rule = tt
  pages_over e (Untracked starts) r rule = rule
  pages_over e Tracked r rule = tt
  pages_over e (Copied base starts) r rule = (r.fits, rule.0, rule.1)
  pages_over e (Stopped base log starts) r rule = rule

  -- EACH EVENT KEEPS THE INVARIANT

  pub engine_kept : (w : PageWorld) (event : Event) → EngineRule space number w.engine → Allowed space number w event → EngineRule space number (happens space number w event).engine
  engine_kept w (Passed m) r may = passed w.engine m r may.0 may.1
  engine_kept w (Changed m bytes) r may = changed w.engine m bytes r may.0 may.1 may.2
  engine_kept w (Created m) r may = made w.engine m r may
  engine_kept w (Opened m bytes) r may = opened w.engine m bytes r may.0 may.1 may.2
  engine_kept w (Dropped m disk) r may = dropped w.engine m disk r may.0 may.1
  engine_kept w (Fetched bytes) r may = fetched w.engine bytes r may.0 may.1 may.2
  engine_kept w Evicted r may = evicted w.engine r may.0 may.1 may.2
  engine_kept w (Begun bytes) r may = begun w.engine bytes r may
  engine_kept w Lengthened r may = lengthened w.engine r may
  engine_kept w (Half disk) r may = half w.engine disk may.0 r may.1
  engine_kept w Landed r may = flew w.engine w.engine.flight r refl
  engine_kept w (Failed disk) r may = failed w.engine disk may.0 r may.1
  engine_kept w (Checkpointed at) r may = checked w.engine at r may.0 may.1
  engine_kept w (Started listed) r may = r
  engine_kept w (FileRead bytes) r may = r
  engine_kept w FilesEnded r may = r
  engine_kept w (PageRead bytes) r may = r
  engine_kept w PagesEnded r may = r
  engine_kept w Left r may = r

  pub copy_kept : (w : PageWorld) (event : Event) → EngineRule space number w.engine → CopyRule space number w.engine w.copy → Allowed space number w event → CopyRule space number (happens space number w event).engine (happens space number w event).copy
  copy_kept w (Passed m) r rule may = copy_passed w.engine m w.copy may.1 rule
  copy_kept w (Changed m bytes) r rule may = copy_changed w.engine m (Some bytes) w.copy rule
  copy_kept w (Created m) r rule may = copy_created w.engine (happens space number w (Created m)).engine m w.copy (redone space number (w.engine.log ++ m ∷ [])) refl refl refl (Lax-refl _) rule
  copy_kept w (Opened m bytes) r rule may = copy_created w.engine (happens space number w (Opened m bytes)).engine m w.copy (stands zero_page) refl refl refl (zero_since w.engine.log m may.2) rule
  copy_kept w (Dropped m disk) r rule may = copy_reset w.engine (happens space number w (Dropped m disk)).engine m w.copy refl may.2 rule
  copy_kept w (Fetched bytes) r rule may = copy_same w.engine (happens space number w (Fetched bytes)).engine w.copy refl refl (λ a b. (a, b)) rule
  copy_kept w Evicted r rule may = copy_same w.engine (happens space number w Evicted).engine w.copy refl refl (λ a b. (a, b)) rule
  copy_kept w (Begun bytes) r rule may = copy_noted w.engine (happens space number w (Begun bytes)).engine w.copy refl rule
  copy_kept w Lengthened r rule may = copy_same w.engine (happens space number w Lengthened).engine w.copy refl refl (λ a b. (a, b)) rule
  copy_kept w (Half disk) r rule may = copy_same w.engine (happens space number w (Half disk)).engine w.copy refl refl (λ closed none. absurd {0} (no_flight may.0 (sym may.1 ∙ none))) rule
    where
      no_flight : (i : Flight) → Some i ≡ None → ⊥
      no_flight i is = cc
  copy_kept w Landed r rule may = copy_landed w.engine w.engine.flight w.copy refl rule
  copy_kept w (Failed disk) r rule may = copy_noted w.engine (happens space number w (Failed disk)).engine w.copy refl rule
  copy_kept w (Checkpointed at) r rule may = copy_same w.engine (happens space number w (Checkpointed at)).engine w.copy refl refl (λ a b. (a, b)) rule
  copy_kept w (Started listed) r rule may = starting w.engine w.engine.writing w.engine.flight listed r refl refl
  copy_kept w (FileRead bytes) r rule may = reading w.engine bytes w.copy r may.0 may.1 rule
  copy_kept w FilesEnded r rule may = files_over w.engine w.copy r rule
  copy_kept w (PageRead bytes) r rule may = page_reading w.engine bytes w.copy (now_read w.engine bytes r may) rule
  copy_kept w PagesEnded r rule may = pages_over w.engine w.copy r rule
  copy_kept w Left r rule may = tt

  pub kept : (w : PageWorld) (event : Event) → Rule space number w → Allowed space number w event → Rule space number (happens space number w event)
  kept w event r may = record { engine = engine_kept w event r.engine may; copy = copy_kept w event r.engine r.copy may }

  pub all_kept : (w : PageWorld) (events : List Event) (v : PageWorld) → Rule space number w → Runs space number w events v → Rule space number v
  all_kept w [] v r run = subst (λ (x : PageWorld). Rule space number x) run r
  all_kept w (event ∷ events) v r run = all_kept (happens space number w event) events v (kept w event r run.0) run.1

  pub nothing_kept : Rule space number nothing
  nothing_kept = record {
    engine = record {
      fits = tt;
      framed = tt;
      quiet = λ closed has. tt;
      flying = tt;
      bare = (refl, refl, refl);
      order = tt;
      low = omega arith;
      aligned = record { before = []; behind = []; split = refl; moment = omega arith };
    };
    copy = tt;
  }

  pub given : (base : ℕ) (log : List (List Record)) (starts : List Standing) (u : Standing) → AllFit space number log → AllByRecursion (λ s. Since space number base s log) starts → IsStart starts u → Gives space number base log u
  given base log [] u fits all is = absurd is
  given base log (s ∷ starts) u fits all (inl lax) = λ front rest split moment. since_redone space number base u log front rest fits (since_lax space number base u s log lax all.0) split moment
  given base log (s ∷ starts) u fits all (inr later) = given base log starts u fits all.1 later

  -- THE CENTRAL LAW
  pub central : (events : List Event) (w : PageWorld) (base : ℕ) (log : List (List Record)) (starts : List Standing) (u : Standing) → Runs space number nothing events w → w.copy ≡ Stopped base log starts → IsStart starts u → IsAt base log × Gives space number base log u
  central events w base log starts u run is start =
      let r = subst (λ (c : Copy). CopyRule space number w.engine c) is (all_kept nothing events w nothing_kept run).copy in
      (r.1, given base log starts u r.0 r.2 start)

  -- A page that is quiet, with a frame: redo from its oldest modification makes the frame of the disk's page, and a clean frame is the disk's page.
  pub clean_is_disk : (e : PageEngine) (bytes : List ℕ) → EngineRule space number e → e.writing ≡ false → e.frame ≡ Some bytes → e.oldest ≡ None → e.disk ≡ stands bytes
  clean_is_disk e bytes r closed framed clean =
      let now = has_space e.frame bytes _ framed r.framed in
      let held = subst (λ (o : Option ℕ). Held space number o e.disk e.log) clean (r.quiet closed (subst (λ (v : Standing). HasSpace v) (sym now) tt)) in
      subst (λ (v : Standing). Lax e.disk v) now held

  pub dirty_is_redone : (e : PageEngine) (bytes : List ℕ) (o : ℕ) → EngineRule space number e → e.writing ≡ false → e.frame ≡ Some bytes → e.oldest ≡ Some o
      → (front rest : List (List Record)) → e.log ≡ front ++ rest → ends front ≡ o → redone_from o space number e.disk rest ≡ stands bytes
  dirty_is_redone e bytes o r closed framed dirty front rest split moment =
      let now = has_space e.frame bytes _ framed r.framed in
      let held = subst (λ (x : Option ℕ). Held space number x e.disk e.log) dirty (r.quiet closed (subst (λ (v : Standing). HasSpace v) (sym now) tt)) in
      subst (λ (v : Standing). Lax (redone_from o space number e.disk rest) v) now (since_redone space number o e.disk e.log front rest r.fits held split moment)
