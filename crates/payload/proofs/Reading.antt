-- What `parse` answers at a decimal text.
use Rattle.std.proofs.Common.{◌≡◌, ℕ, ◌<◌, true, List, length, Ok, Err, Result, rules, ap, ◌∙◌, arith}
use Rattle.std.specs.List.{list_all}
use Rattle.std.specs.Result.{MatchResult, IsErrAnd}
use Rattle.std.specs.Str.Parse.{digits_value, ParsesUnsigned}
use Rattle.std.specs.Char.{is_ascii_digit}
use Rattle.std.proofs.lemmas.Str.Parse.{IsNumeralModel, numerals_by_value, parse_digits}
use Rattle.payload.specs.declared.decimals.DecimalError.{DecimalError}
use Rattle.payload.specs.declared.decimals.DecimalError.TheVariants.{OutOfRange}
use Rattle.payload.specs.Decimals.{plain, decimal_of}

pub own : IsNumeralModel (λ ds. list_all is_ascii_digit ds ≡ true) (digits_value 10)
own = numerals_by_value (λ ds. list_all is_ascii_digit ds ≡ true) (search rules)

module _ (ds : List ℕ) (p : plain ds ≡ true) where
  some_digits : 0 < length ds
  some_digits = grind arith

  digits : list_all is_ascii_digit ds ≡ true
  digits = grind arith

  -- `parse`, with each of its errors made into OutOfRange
  pub parse_answers : {E : Type 0} {Q : E → DecimalError → Type 0} (r : Result ℕ E) (s : Result ℕ DecimalError) → ParsesUnsigned 64 10 ds r → MatchResult r (λ n. s ≡ Ok n) (λ e. IsErrAnd s (Q e)) → ((e : E) (d : DecimalError) → Q e d → d ≡ OutOfRange) → s ≡ decimal_of ds
  parse_answers {E} (Ok n) s h m q =
      let k = parse_digits own {E = E} 64 ds (Ok n) h digits in
      m ∙ ap Ok k.1 ∙ grind (arith, p, k)
  parse_answers {E} (Err e) (Err d) h m q =
      let k = parse_digits own {E = E} 64 ds (Err e) h digits in
      ap Err (q e d m) ∙ grind (arith, p, k, some_digits)
  parse_answers (Err e) (Ok _) h m q = elim m [ ]
