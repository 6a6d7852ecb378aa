-- How bodies are answered.
use Rattle.std.specs.Prelude.{◌≡◌, Result, Ok, Err, ⊤}
use Rattle.bcf_bodies.specs.declared.body_fault.BodyFault.{BodyFault}
use Rattle.bcf_bodies.specs.declared.body_fault.BodyError.{BodyError}
use Rattle.bcf_bodies.specs.declared.body_fault.BodyError.TheVariants.{Fault, Memory}

-- the error is the fault that is meant, or out of memory
abbrev pub IsFault : {A : Type 0} → BodyError → Result A BodyFault → Type 0
IsFault (Fault fault) meant = meant ≡ Err fault
IsFault Memory meant = ⊤

-- the answer is what is meant, or out of memory
abbrev pub IsReadAs : {A : Type 0} → Result A BodyError → Result A BodyFault → Type 0
IsReadAs (Ok body) meant = meant ≡ Ok body
IsReadAs (Err error) meant = IsFault error meant

-- what is put in place is what is meant, or the error is its fault or out of memory
abbrev pub IsPutAs : {T A : Type 0} → Result T BodyError → A → Result A BodyFault → Type 0
IsPutAs (Ok done) new meant = meant ≡ Ok new
IsPutAs (Err error) new meant = IsFault error meant
