-- What a refusal prints.
--
-- place_text w p  the words w and the number of the place p, nothing where it is absent
-- fault_text f    `refused` and the number of the cause, then the berth and the file where the refusal has them
use Rattle.std.specs.Prelude.{ℕ, List, [], ◌++◌, codes, Some, None, Option}
use Rattle.std.specs.Fmt.{decimal}
use Rattle.clock.specs.declared.faults.Fault.{Fault}
use Rattle.clock.specs.Causes.{number_of}

abbrev pub place_text : List ℕ → Option ℕ → List ℕ
place_text words None = []
place_text words (Some place) = words ++ decimal place

abbrev pub fault_text : Fault → List ℕ
fault_text f =
    codes "refused "
    ++ (decimal (number_of f.cause)
    ++ (place_text (codes " berth ") f.berth ++ place_text (codes " file ") f.file))
