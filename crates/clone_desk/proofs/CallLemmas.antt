-- What the calls of a desk do, from what the net and the list of records did.
use Rattle.std.proofs.Common.{ℕ, ◌≡◌, ◌<◌, ◌+◌, ◌^◌, ◌==◌, ◌&&◌, Bool, true, false, List, [], ◌∷◌, ◌++◌, length, set, get_or, Option, refl, sym, ap, ◌∙◌, subst, Some, None, position}
use Rattle.std.specs.declared.snapshot.Snapshot.{Snapshot}
use Rattle.std.proofs.lemmas.List.Quantifiers.{position-Some}
use Rattle.clone_outside.specs.Link.{IsUnused}
use Rattle.clone_outside.specs.declared.link.Side.TheVariants.{Donor, Requester}
use Rattle.clone_outside.specs.declared.link.Link.{Ghosts as Link}
use Rattle.clone_outside.specs.declared.link.Net.{Ghosts as Net}
use Rattle.clone_desk.specs.declared.record.DonorEnd.{DonorEnd}
use Rattle.clone_desk.specs.declared.record.DonorEnd.TheVariants.{Waits, Out, Back}
use Rattle.clone_desk.specs.declared.record.Record.{Record}
use Rattle.clone_desk.specs.Records.{HasEnds, IsNew, does_wait, does_wait_for, end_waiting, handed_out, name_of}
use Rattle.clone_desk.specs.Desks.{DeskModel, Gives, HandsOut, IsDesk, Makes}
use Rattle.clone_desk.proofs.RecordLemmas.{desk_more, each_at, waiting_end}
use Rattle.clone_desk.proofs.RunLemmas.{least_at, none_waits}

module _ {L : Type 0} where
  -- an end that waits is the one in the record
  pub waits_of : (d : DonorEnd L) (end : L) → end_waiting d ≡ Some end → d ≡ Waits end
  waits_of (Waits x) end is = ap Waits (same x end is)
    where
      same : (a b : L) → ◌≡◌ {A = Option L} (Some a) (Some b) → a ≡ b
      same a b e = cc
  waits_of Out end is = absurd cc
  waits_of (Back x) end is = absurd cc

  -- a record for whose task an end waits has one
  pub not_waiting : (task : ℕ) (r : Record L) → does_wait_for task r ≡ true → end_waiting r.donor ≡ None → ⊥
  not_waiting task r waits none = out r.donor (r.task == task) waits none
    where
      out : (d : DonorEnd L) (b : Bool) → (b && does_wait d) ≡ true → end_waiting d ≡ None → ⊥
      out (Waits x) b waits none = absurd cc
      out Out true waits none = absurd cc
      out Out false waits none = absurd cc
      out (Back x) true waits none = absurd cc
      out (Back x) false waits none = absurd cc

  -- so one that was found does
  pub never_none : (rs : List (Record L)) (task place : ℕ) (there : Record L) → position (does_wait_for task) rs ≡ Some place → get_or rs place there ≡ there → end_waiting there.donor ≡ None → ⊥
  never_none rs task place there first at none =
      let found = position-Some (does_wait_for task) rs place there first in
      not_waiting task there (subst (λ r. does_wait_for task r ≡ true) at found.1) none

  -- the record of a new connection
  abbrev pub fresh : (task : ℕ) (about : Snapshot L) (d : L) → Record L
  fresh task about d = record { task = task; about = about; donor = Waits d; requester = None }

module _ {L X : Type 0} (link : Link L X) where
  -- two new ends of one connection
  pub record NewPair (d e : L) : Type 0 where
    pub name : ◌≡◌ (link.name d) (link.name e)
    pub sides : (link.side d ≡ Donor) × (link.side e ≡ Requester)
    pub opened : (link.is_open d ≡ true) × (link.is_open e ≡ true)
    pub sent : IsUnused (link.sent d) × IsUnused (link.sent e)
    pub received : IsUnused (link.received d) × IsUnused (link.received e)

  donor_new : (d e : L) → NewPair d e → IsNew link (link.name e) Donor d
  donor_new d e pair = record { is = record { name_is = pair.name; side_is = pair.sides.0 }; opened = pair.opened.0; sent = pair.sent.0; received = pair.received.0 }

  requester_new : (d e : L) → NewPair d e → IsNew link (link.name e) Requester e
  requester_new d e pair = record { is = record { name_is = refl; side_is = pair.sides.1 }; opened = pair.opened.1; sent = pair.sent.1; received = pair.received.1 }

  new_ends : (task : ℕ) (about : Snapshot L) (d e : L) → about.value ≡ e → NewPair d e → HasEnds link (fresh task about d)
  new_ends task about d e named pair = record { donor = subst (λ x. IsNew link (link.name x) Donor d) (sym named) (donor_new d e pair); requester = tt }

  module _ {N : Type 0} (net : Net N L X) where
    -- a record more
    pub desk_pair : (before after : N) (rs now : List (Record L)) (task : ℕ) (about : Snapshot L) (d e : L) → IsDesk net link before rs → length rs < 2 ^ 32 → now ≡ rs ++ fresh task about d ∷ []
        → about.value ≡ e → NewPair d e → ((name : X) → net.made before name → net.made after name) → net.made after (link.name d) → IsDesk net link after now
    desk_pair before after rs now task about d e was room more named pair keeps made =
        let name : link.name d ≡ link.name about.value = pair.name ∙ ap link.name (sym named) in
        subst (λ xs. IsDesk net link after xs) (sym more)
        (desk_more link net before after rs (fresh task about d) was room keeps (subst (net.made after) name made) (new_ends task about d e named pair))

    pub pair_made : (s : DeskModel N L) (before after : N) (rs now : List (Record L)) (task place : ℕ) (about : Snapshot L) (d e : L) → ◌≡◌ {A = DeskModel N L} (record { net = before; records = rs }) s
        → now ≡ rs ++ fresh task about d ∷ [] → place ≡ length rs → about.value ≡ e → NewPair d e → net.made after (link.name d) → net.unsettled after ≡ net.unsettled before + 1
        → Makes net link s task place e (record { net = after; records = now })
    pair_made s before after rs now task place about d e start more at named pair made unsettled =
        let records : s.records ≡ rs = sym (ap (λ (m : DeskModel N L). m.records) start) in
        record {
          place_is = at ∙ ap length (sym records);
          about = about;
          donor = d;
          records = more ∙ ap (λ xs. xs ++ fresh task about d ∷ []) (sym records);
          named = named;
          donor_is = donor_new d e pair;
          end_is = requester_new d e pair;
          made = subst (net.made after) pair.name made;
          more = unsettled ∙ ap (λ (m : DeskModel N L). net.unsettled m.net + 1) start;
        }

    -- the end that waits at the least place
    pub gives_end : (s : DeskModel N L) (n : N) (rs : List (Record L)) (task place : ℕ) (there new : Record L) (e : L) → ◌≡◌ {A = DeskModel N L} (record { net = n; records = rs }) s → IsDesk net link n rs
        → position (does_wait_for task) rs ≡ Some place → get_or rs place there ≡ there → end_waiting there.donor ≡ Some e → new ≡ handed_out there
        → Gives net link s task place e (record { net = n; records = set rs place new })
    gives_end s n rs task place there new e start was first at waits out =
        let found = position-Some (does_wait_for task) rs place there first in
        let donor : there.donor ≡ Waits e = waits_of there.donor e waits in
        let gave : Gives net link (record { net = n; records = rs }) task place e (record { net = n; records = set rs place (handed_out there) }) = record {
          least = least_at task rs place there found.0 at (subst (λ r. does_wait_for task r ≡ true) at found.1) found.2;
          low = found.0;
          there = there;
          at = at;
          waits = donor;
          records = refl;
          net_is = refl;
          end_is = waiting_end link (name_of link there) there.donor e (each_at (HasEnds link) rs place there found.0 at was.ends).donor donor;
        } in
        subst (λ m. Gives net link m task place e (record { net = n; records = set rs place new })) start
        (subst (λ r. Gives net link (record { net = n; records = rs }) task place e (record { net = n; records = set rs place r })) (sym out) gave)

    -- none waits
    pub gives_none : (s : DeskModel N L) (task : ℕ) (o : Option (ℕ × L)) → position (does_wait_for task) s.records ≡ None → o ≡ None → HandsOut net link s task o s
    gives_none s task o none is = subst (λ x. HandsOut net link s task x s) (sym is) (none_waits task s.records none, refl)
