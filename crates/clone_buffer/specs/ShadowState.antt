-- The log, and whether each page that was read is the one that the log makes.
use Rattle.std.specs.Prelude.{Bool, true, false, ℕ, List, [], None, Some, refl, bytes_eq}
use Rattle.std.specs.declared.option.Option.{Option}
use Rattle.std.specs.Coded.{Coded, code_by, coded×, coded_bool, coded_list}
use Rattle.clone_mtr.specs.declared.record.Record.{Record}
use Rattle.clone_buffer.specs.RecordCodes.{record_code}

-- the mini-transactions written so far, and whether each page that was read so far was the one that
-- the log made
pub record State : Type 0 where
  pub log : List (List Record)
  pub right : Bool

abbrev pub state_code : Coded State
state_code =
    code_by (List (List Record) × Bool) (coded× (coded_list (coded_list record_code)) coded_bool)
    (λ s. (s.log, s.right)) (λ p. record { log = p.0; right = p.1 }) (λ _. refl)

abbrev pub first : State
first = record { log = []; right = true }

-- the page is there, and has these bytes
abbrev pub is_page : List ℕ → Option (List ℕ) → Bool
is_page bytes None = false
is_page bytes (Some page) = bytes_eq bytes page
