-- Decimal numbers without sign or leading zeros.
--
-- plain ds         some digits, with no zero in front of others
-- decimal_of ds    the number that the text stands for, or why there is none
use Rattle.std.specs.Prelude.{ℕ, ◌^◌, Bool, if◌then◌else◌, not, ◌&&◌, List, length, Ok, Err, Result, ◌==◌, nat_lt, slice_index}
use Rattle.std.specs.Str.Parse.{digits_value}
use Rattle.std.specs.Char.{is_ascii_digit}
use Rattle.std.specs.List.{list_all}
use Rattle.payload.specs.declared.decimals.DecimalError.{DecimalError}
use Rattle.payload.specs.declared.decimals.DecimalError.TheVariants.{NotNumber, OutOfRange}

abbrev pub leading_zero : List ℕ → Bool
leading_zero ds = nat_lt 1 (length ds) && slice_index ds 0 == 48

abbrev pub plain : List ℕ → Bool
plain ds = not (length ds == 0) && (not (leading_zero ds) && list_all is_ascii_digit ds)

abbrev pub decimal_of : List ℕ → Result ℕ DecimalError
decimal_of ds =
    if plain ds
    then (if nat_lt (digits_value 10 ds) (2 ^ 64) then Ok (digits_value 10 ds) else Err OutOfRange)
    else Err NotNumber
