-- What a reading answered, by cases.
use Rattle.std.specs.Prelude.{Result, Ok, Err}
use Rattle.rwsp_io.specs.declared.shelf.ReadFail.{ReadFail}
use Rattle.rwsp_io.specs.declared.shelf.ReadFail.TheVariants.{Fault, TooLong, Memory}

-- too long, or there was no memory to tell
abbrev pub IsTooLongUnlessMemory : {T : Type 0} → Result T ReadFail → Type 0
IsTooLongUnlessMemory (Ok v) = ⊥
IsTooLongUnlessMemory (Err Fault) = ⊥
IsTooLongUnlessMemory (Err TooLong) = Unit {0}
IsTooLongUnlessMemory (Err Memory) = Unit {0}
