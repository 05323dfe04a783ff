-- What the making of an array answers, against a value of the meaning: an array like the value's with the same count, the value's
-- fault, or no memory, of which the meaning says nothing.
use Rattle.std.specs.Prelude.{◌≡◌, ℕ, Ok, Err, Result}
use Rattle.semantics.specs.Values.{Value, fault, val}
use Rattle.semantics.specs.ValueLaws.{LikeValues}
use Rattle.reference.specs.declared.fault.Fault.{Fault}
use Rattle.reference.specs.declared.fault.Stop.{Stop}
use Rattle.reference.specs.declared.fault.Stop.TheVariants.{Fault as Faulty, Memory}
use Rattle.reference.specs.declared.made.Made.{Made}
use Rattle.reference.specs.ArrayOf.{array_of}
use Rattle.reference.specs.Faults.{fault_number}

pub data Right : Value ℕ → Result Made Stop → Type 0 where
  right_made : {v : Value ℕ} {m : Made} → LikeValues v (val (array_of m.array) m.count) → Right v (Ok m)
  right_fault : {v : Value ℕ} {f : Fault} → v ≡ fault (fault_number f) → Right v (Err (Faulty f))
  right_memory : {v : Value ℕ} → Right v (Err Memory)
