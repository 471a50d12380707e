-- The number of each cause, as it is printed.
use Rattle.std.specs.Prelude.{ℕ}
use Rattle.clock.specs.declared.causes.Cause.{Cause}
use Rattle.clock.specs.declared.causes.Cause.TheVariants.{Sizes, NoBerth, NoFile, SameBerth, WrongState, ShortBuffer, NoConflict, InConflict, CannotSplit, PensOverlap, PenTooLarge, PenSpent, ClockTooLarge, AtLimit}

abbrev pub number_of : Cause → ℕ
number_of Sizes = 1
number_of NoBerth = 2
number_of NoFile = 3
number_of SameBerth = 4
number_of WrongState = 5
number_of ShortBuffer = 6
number_of NoConflict = 7
number_of InConflict = 8
number_of CannotSplit = 11
number_of PensOverlap = 12
number_of PenTooLarge = 13
number_of PenSpent = 14
number_of ClockTooLarge = 15
number_of AtLimit = 16
