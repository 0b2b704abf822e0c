-- What the code's values say, in document 01's numbers.
use Rattle.std.specs.Prelude.{◌≡◌, Result, Ok, Err}
use Rattle.image.specs.Place.{Place, entry_at}
use Rattle.faults.specs.Reason.{number_of}
use Rattle.faults.specs.declared.reason.Reason.{Reason}
use Rattle.faults.specs.declared.stop.Stop.{Stop}
use Rattle.irte.specs.Irte as irte
use Rattle.irte.specs.declared.Irte.{Irte}
use Rattle.irte.specs.declared.Irte.TheVariants.{Remaps, Posts}
use Rattle.irte.specs.declared.Remapped.{Remapped}

abbrev pub remapped_of : Remapped → irte.Remapped
remapped_of r =
    record {
      destination_mode = r.destination_mode;
      redirection_hint = r.redirection_hint;
      trigger = r.trigger;
      delivery = r.delivery;
      vector = r.vector;
      destination = r.destination;
    }

abbrev pub request_of : Irte → irte.Irte
request_of (Remaps r) = irte.remaps (remapped_of r)
request_of (Posts descriptor vector urgent fpd) = irte.posts descriptor vector urgent fpd

abbrev pub asked_of : Result Irte (Stop Reason) → irte.Asked
asked_of (Ok i) = irte.asks (request_of i)
asked_of (Err s) = irte.stops (number_of s.reason) s.fpd

-- the entry that a fault names; where there is no fault, the place handed in
abbrev pub irte_place : Result Irte (Stop Reason) → Place → Place
irte_place (Ok i) place = place
irte_place (Err s) place = entry_at s.at

-- a fault names this entry, if it is one: for the code's contracts
abbrev pub IrteNames : Result Irte (Stop Reason) → Place → Type 0
IrteNames r place = irte_place r place ≡ place
