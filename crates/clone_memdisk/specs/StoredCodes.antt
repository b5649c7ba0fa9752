-- How the value is stored that contracts see of a disk in memory.
use Rattle.std.specs.Prelude.{ℕ, ◌≡◌, ◌⊎◌, List, None, Some, refl}
use Rattle.std.proofs.Common.{inl, inr}
use Rattle.std.specs.declared.option.Option.{Option}
use Rattle.std.specs.Coded.{Coded, code_by, coded×, coded⊎, coded_ℕ, coded_list, coded_option}
use Rattle.clone_outside.specs.Calls.{Calls}
use Rattle.clone_outside.specs.declared.disk.DiskOrder.{DiskOrder}
use Rattle.clone_outside.specs.declared.disk.DiskOrder.TheVariants.{FailAt, Tear, Stop, Again}
use Rattle.clone_memdisk.specs.Codes.{contained_code}
use Rattle.clone_memdisk.specs.Contained.{Contained}
use Rattle.clone_memdisk.specs.Stored.{Stored}
use Rattle.clone_memdisk.specs.declared.halts.Halt.{Halt}

abbrev pub calls_code : Coded Calls
calls_code =
    code_by (ℕ × (ℕ × List ℕ)) (coded× coded_ℕ (coded× coded_ℕ (coded_list coded_ℕ)))
    (λ c. (c.made, (c.faults, c.failing)))
    (λ p. record { made = p.0; faults = p.1.0; failing = p.1.1 }) (λ _. refl)

abbrev pub OrderParts : Type 0
OrderParts = ℕ ⊎ (ℕ ⊎ Option (ℕ × ℕ))

abbrev pub order_number : DiskOrder → OrderParts
order_number (FailAt call) = inl call
order_number (Tear byte) = inr (inl byte)
order_number (Stop calls choice) = inr (inr (Some (calls, choice)))
order_number Again = inr (inr None)

abbrev pub order_numbered : OrderParts → DiskOrder
order_numbered (inl call) = FailAt call
order_numbered (inr (inl byte)) = Tear byte
order_numbered (inr (inr (Some (calls, choice)))) = Stop calls choice
order_numbered (inr (inr None)) = Again

abbrev pub order_back : (order : DiskOrder) → order_numbered (order_number order) ≡ order
order_back (FailAt call) = refl
order_back (Tear byte) = refl
order_back (Stop calls choice) = refl
order_back Again = refl

abbrev pub order_code : Coded DiskOrder
order_code =
    code_by OrderParts
    (coded⊎ coded_ℕ (coded⊎ coded_ℕ (coded_option (coded× coded_ℕ coded_ℕ))))
    order_number order_numbered order_back

abbrev pub halt_code : Coded Halt
halt_code =
    code_by (ℕ × ℕ) (coded× coded_ℕ coded_ℕ) (λ h. (h.calls, h.choice))
    (λ p. record { calls = p.0; choice = p.1 }) (λ _. refl)

abbrev pub stored_code : Coded Stored
stored_code =
    code_by (Contained × (Option ℕ × (Calls × (List DiskOrder × List Halt))))
    (coded× contained_code (coded× (coded_option coded_ℕ)
    (coded× calls_code (coded× (coded_list order_code) (coded_list halt_code)))))
    (λ d. (d.contents, (d.tear, (d.calls, (d.orders, d.halts)))))
    (λ p. record {
      contents = p.0;
      tear = p.1.0;
      calls = p.1.1.0;
      orders = p.1.1.1.0;
      halts = p.1.1.1.1;
    }) (λ _. refl)
