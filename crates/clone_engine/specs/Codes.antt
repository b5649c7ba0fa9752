-- How the state of a donor is stored.
use Rattle.std.specs.Prelude.{ℕ, Bool, true, false, ◌≡◌, ◌⊎◌, List, None, Some, refl}
use Rattle.std.proofs.Common.{inl, inr}
use Rattle.std.specs.declared.option.Option.{Option}
use Rattle.std.specs.Coded.{Coded, code_by, coded×, coded⊎, coded_ℕ, coded_bool, coded_list, coded_option}
use Rattle.clone_outside.specs.Disk.{DiskImage}
use Rattle.clone_outside.specs.Stops.{DiskChange, WriteHalf, WriteRest, Extend, Create, Remove, WriteMark, Moment, Moments}
use Rattle.clone_outside.specs.declared.disk.DiskOrder.{DiskOrder}
use Rattle.clone_memdisk.specs.Codes.{image_code}
use Rattle.clone_memdisk.specs.StoredCodes.{order_code}
use Rattle.clone_mtr.specs.declared.record.Record.{Record}
use Rattle.clone_ring.specs.Window.{Window, window_code}
use Rattle.clone_pool.specs.declared.frame.Content.{Content}
use Rattle.clone_pool.specs.declared.frame.Content.TheVariants as content
use Rattle.clone_pool.specs.declared.frame.Flush.{Flush}
use Rattle.clone_pool.specs.declared.frame.Flush.TheVariants as flush
use Rattle.clone_pool.specs.declared.frame.Frame.{Frame}
use Rattle.clone_pool.specs.declared.frame.PageName.{PageName}
use Rattle.clone_pool.specs.Pool.{Frames}
use Rattle.clone_buffer.specs.RecordCodes.{record_code}
use Rattle.clone_buffer.specs.Buffered.{Buffered}
use Rattle.clone_flush.specs.Flights.{Flights, flights_code}
use Rattle.clone_plain.specs.Donor.{Donor, donor_code}
use Rattle.clone_outside.specs.DiskCalls.{DiskState}
use Rattle.clone_engine.specs.Engine.{Engine}

abbrev pub name_code : Coded PageName
name_code =
    code_by (ℕ × ℕ) (coded× coded_ℕ coded_ℕ) (λ n. (n.space, n.number))
    (λ p. record { space = p.0; number = p.1 }) (λ _. refl)

-- what a frame holds: nothing, or a page that is new or not, or is to be loaded
abbrev pub content_parts : Content → Option (Option Bool × PageName)
content_parts content.Unused = None
content_parts (content.Fresh name) = Some (Some true, name)
content_parts (content.Held name) = Some (Some false, name)
content_parts (content.Loading name) = Some (None, name)

abbrev pub content_of_parts : Option (Option Bool × PageName) → Content
content_of_parts None = content.Unused
content_of_parts (Some (Some true, name)) = content.Fresh name
content_of_parts (Some (Some false, name)) = content.Held name
content_of_parts (Some (None, name)) = content.Loading name

pub content_back : (c : Content) → content_of_parts (content_parts c) ≡ c
content_back content.Unused = refl
content_back (content.Fresh name) = refl
content_back (content.Held name) = refl
content_back (content.Loading name) = refl

abbrev pub content_code : Coded Content
content_code =
    code_by (Option (Option Bool × PageName))
    (coded_option (coded× (coded_option coded_bool) name_code))
    content_parts content_of_parts content_back

-- a flush: none, one that failed, or one that has begun
abbrev pub flush_parts : Flush → Option (Option (Option ℕ))
flush_parts flush.Idle = None
flush_parts (flush.Begun later) = Some (Some later)
flush_parts flush.Failed = Some None

abbrev pub flush_of_parts : Option (Option (Option ℕ)) → Flush
flush_of_parts None = flush.Idle
flush_of_parts (Some None) = flush.Failed
flush_of_parts (Some (Some later)) = flush.Begun later

pub flush_back : (f : Flush) → flush_of_parts (flush_parts f) ≡ f
flush_back flush.Idle = refl
flush_back (flush.Begun later) = refl
flush_back flush.Failed = refl

abbrev pub flush_code : Coded Flush
flush_code =
    code_by (Option (Option (Option ℕ))) (coded_option (coded_option (coded_option coded_ℕ)))
    flush_parts flush_of_parts flush_back

abbrev pub frame_code : Coded Frame
frame_code =
    code_by (Content × (List ℕ × (Option ℕ × (Flush × (ℕ × ℕ)))))
    (coded× content_code (coded× (coded_list coded_ℕ)
    (coded× (coded_option coded_ℕ) (coded× flush_code (coded× coded_ℕ coded_ℕ)))))
    (λ f. (f.content, (f.page, (f.oldest, (f.flush, (f.pins, f.last_use))))))
    (λ p. record {
      content = p.0;
      page = p.1.0;
      oldest = p.1.1.0;
      flush = p.1.1.1.0;
      pins = p.1.1.1.1.0;
      last_use = p.1.1.1.1.1;
    }) (λ _. refl)

abbrev pub frames_code : Coded Frames
frames_code =
    code_by (List Frame × (ℕ × Option PageName))
    (coded× (coded_list frame_code) (coded× coded_ℕ (coded_option name_code)))
    (λ v. (v.frames, (v.uses, v.missed)))
    (λ p. record { frames = p.0; uses = p.1.0; missed = p.1.1 }) (λ _. refl)

abbrev pub buffer_code : Coded Buffered
buffer_code =
    code_by (List (List Record) × (Bool × (Window × Frames)))
    (coded× (coded_list (coded_list record_code)) (coded× coded_bool
    (coded× window_code frames_code)))
    (λ b. (b.log, (b.right, (b.ring, b.pool))))
    (λ p. record { log = p.0; right = p.1.0; ring = p.1.1.0; pool = p.1.1.1 }) (λ _. refl)

-- a change of a disk, by its kind
abbrev pub ChangeParts : Type 0
ChangeParts = (ℕ × ℕ) ⊎ ((ℕ × ℕ) ⊎ ((ℕ × ℕ) ⊎ ((ℕ × ℕ) ⊎ (ℕ ⊎ List ℕ))))

abbrev pub change_parts : DiskChange → ChangeParts
change_parts (WriteHalf space number) = inl (space, number)
change_parts (WriteRest space number) = inr (inl (space, number))
change_parts (Extend space count) = inr (inr (inl (space, count)))
change_parts (Create space count) = inr (inr (inr (inl (space, count))))
change_parts (Remove space) = inr (inr (inr (inr (inl space))))
change_parts (WriteMark bytes) = inr (inr (inr (inr (inr bytes))))

abbrev pub change_of_parts : ChangeParts → DiskChange
change_of_parts (inl (space, number)) = WriteHalf space number
change_of_parts (inr (inl (space, number))) = WriteRest space number
change_of_parts (inr (inr (inl (space, count)))) = Extend space count
change_of_parts (inr (inr (inr (inl (space, count))))) = Create space count
change_of_parts (inr (inr (inr (inr (inl space))))) = Remove space
change_of_parts (inr (inr (inr (inr (inr bytes))))) = WriteMark bytes

pub change_back : (c : DiskChange) → change_of_parts (change_parts c) ≡ c
change_back (WriteHalf space number) = refl
change_back (WriteRest space number) = refl
change_back (Extend space count) = refl
change_back (Create space count) = refl
change_back (Remove space) = refl
change_back (WriteMark bytes) = refl

abbrev pub pair_code : Coded (ℕ × ℕ)
pair_code = coded× coded_ℕ coded_ℕ

abbrev pub change_code : Coded DiskChange
change_code =
    code_by ChangeParts (coded⊎ pair_code (coded⊎ pair_code (coded⊎ pair_code
    (coded⊎ pair_code (coded⊎ coded_ℕ (coded_list coded_ℕ))))))
    change_parts change_of_parts change_back

abbrev pub moment_code : Coded Moment
moment_code =
    code_by (DiskImage × List DiskChange) (coded× image_code (coded_list change_code))
    (λ m. (m.durable, m.since)) (λ p. record { durable = p.0; since = p.1 }) (λ _. refl)

abbrev pub moments_code : Coded Moments
moments_code =
    code_by (Moment × List Moment) (coded× moment_code (coded_list moment_code))
    (λ m. (m.now, m.before)) (λ p. record { now = p.0; before = p.1 }) (λ _. refl)

abbrev pub disk_code : Coded DiskState
disk_code =
    code_by (Option DiskImage × (Option Moments × (ℕ × List DiskOrder)))
    (coded× (coded_option image_code) (coded× (coded_option moments_code)
    (coded× coded_ℕ (coded_list order_code))))
    (λ d. (d.told, (d.stops, (d.failures, d.orders))))
    (λ p. record { told = p.0; stops = p.1.0; failures = p.1.1.0; orders = p.1.1.1 }) (λ _. refl)

abbrev pub engine_code : Coded Engine
engine_code =
    code_by (Donor × (Buffered × (Flights × DiskState)))
    (coded× donor_code (coded× buffer_code (coded× flights_code disk_code)))
    (λ e. (e.donor, (e.buffer, (e.flights, e.disk))))
    (λ p. record { donor = p.0; buffer = p.1.0; flights = p.1.1.0; disk = p.1.1.1 }) (λ _. refl)
