-- How the values are stored that contracts see of a disk in memory.
use Rattle.std.specs.Prelude.{ℕ, ◌≡◌, ◌⊎◌, Bool, List, refl}
use Rattle.std.proofs.Common.{inl, inr}
use Rattle.std.specs.declared.option.Option.{Option}
use Rattle.std.specs.FinMap as finite
use Rattle.std.specs.Coded.{Coded, code_by, coded×, coded⊎, coded_ℕ, coded_bool, coded_list, coded_option}
use Rattle.clone_outside.specs.Disk.{DiskImage, Spaces}
use Rattle.clone_outside.specs.declared.disk.Held.{Held}
use Rattle.clone_memdisk.specs.Contained.{Contained}
use Rattle.clone_memdisk.specs.Recorded.{Ended, Recorded, Roomy}
use Rattle.clone_memdisk.specs.declared.change.Entry.{Entry}
use Rattle.clone_memdisk.specs.declared.change.Entry.TheVariants.{Half, Rest, Extend, Create, Remove, Mark}

abbrev pub held_code : Coded Held
held_code =
    code_by (List ℕ × Bool) (coded× (coded_list coded_ℕ) coded_bool) (λ h. (h.bytes, h.writing))
    (λ p. record { bytes = p.0; writing = p.1 }) (λ _. refl)

abbrev pub image_code : Coded DiskImage
image_code =
    code_by (Spaces × Option (List ℕ))
    (coded× (finite.code coded_ℕ (coded_list held_code)) (coded_option (coded_list coded_ℕ)))
    (λ m. (m.spaces, m.mark)) (λ p. record { spaces = p.0; mark = p.1 }) (λ _. refl)

abbrev pub Place : Type 0
Place = ℕ × ℕ

abbrev pub place_code : Coded Place
place_code = coded× coded_ℕ coded_ℕ

abbrev pub EntryParts : Type 0
EntryParts = (Place × List ℕ) ⊎ ((Place × List ℕ) ⊎ (Place ⊎ (Place ⊎ (ℕ ⊎ List ℕ))))

abbrev pub entry_parts : Entry → EntryParts
entry_parts (Half space page from) = inl ((space, page), from)
entry_parts (Rest space page from) = inr (inl ((space, page), from))
entry_parts (Extend space pages) = inr (inr (inl (space, pages)))
entry_parts (Create space pages) = inr (inr (inr (inl (space, pages))))
entry_parts (Remove space) = inr (inr (inr (inr (inl space))))
entry_parts (Mark bytes) = inr (inr (inr (inr (inr bytes))))

abbrev pub entry_of_parts : EntryParts → Entry
entry_of_parts (inl ((space, page), from)) = Half space page from
entry_of_parts (inr (inl ((space, page), from))) = Rest space page from
entry_of_parts (inr (inr (inl (space, pages)))) = Extend space pages
entry_of_parts (inr (inr (inr (inl (space, pages))))) = Create space pages
entry_of_parts (inr (inr (inr (inr (inl space))))) = Remove space
entry_of_parts (inr (inr (inr (inr (inr bytes))))) = Mark bytes

abbrev pub entry_back : (x : Entry) → entry_of_parts (entry_parts x) ≡ x
entry_back (Half space page from) = refl
entry_back (Rest space page from) = refl
entry_back (Extend space pages) = refl
entry_back (Create space pages) = refl
entry_back (Remove space) = refl
entry_back (Mark bytes) = refl

abbrev pub entry_code : Coded Entry
entry_code =
    code_by EntryParts (coded⊎ (coded× place_code (coded_list coded_ℕ))
    (coded⊎ (coded× place_code (coded_list coded_ℕ)) (coded⊎ place_code (coded⊎ place_code
    (coded⊎ coded_ℕ (coded_list coded_ℕ))))))
    entry_parts entry_of_parts entry_back

abbrev pub ended_code : Coded Ended
ended_code =
    code_by (List Entry × ℕ) (coded× (coded_list entry_code) coded_ℕ)
    (λ e. (e.changes, e.choice)) (λ p. record { changes = p.0; choice = p.1 }) (λ _. refl)

abbrev pub recorded_code : Coded Recorded
recorded_code =
    code_by (List Ended × List Entry) (coded× (coded_list ended_code) (coded_list entry_code))
    (λ r. (r.ended, r.since)) (λ p. record { ended = p.0; since = p.1 }) (λ _. refl)

abbrev pub roomy_code : Coded Roomy
roomy_code =
    code_by (Recorded × ℕ) (coded× recorded_code coded_ℕ)
    (λ r. (r.list, r.room)) (λ p. record { list = p.0; room = p.1 }) (λ _. refl)

abbrev pub contained_code : Coded Contained
contained_code =
    code_by (DiskImage × Option Recorded) (coded× image_code (coded_option recorded_code))
    (λ c. (c.image, c.list)) (λ p. record { image = p.0; list = p.1 }) (λ _. refl)
