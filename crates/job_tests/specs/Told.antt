-- What an answer of src/ tells: its report alone, without the value that stands where there is none. Assumes nothing.
use Rattle.std.specs.Prelude.{Result, Ok, Err}
use Rattle.evc.specs.declared.Report.{Report}

abbrev pub told : {A : Type 0} → Result A Report → Result (Unit {0}) Report
told (Ok x) = Ok tt
told (Err r) = Err r
