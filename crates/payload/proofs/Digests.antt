-- Digests that are read two digits at a time.
use Rattle.std.proofs.Common.{◌≡◌, ℕ, ◌+◌, ◌*◌, ◌<◌, ◌≤◌, true, false, cond, ◌&&◌, List, length, take, set, Ok, Err, Result, rules, sym, ap, subst, ◌∙◌, arith}
use Rattle.std.specs.Prelude.{◌==◌, is_ok, slice_index}
use Rattle.std.specs.List.{list_all}
use Rattle.std.specs.Result.{result_unwrap_or}
use Rattle.std.proofs.lemmas.List.{take_all}
use Rattle.std.proofs.lemmas.List.Edits.{fill_by_more}
use Rattle.std.proofs.lemmas.List.Folds.{list_all_at, list_all_more}
use Rattle.std.proofs.lemmas.List.FromFn.{fill_by_all}
use Rattle.payload.specs.declared.tickets.TicketError.{TicketError}
use Rattle.payload.specs.declared.tickets.TicketError.TheVariants.{NotDigest}
use Rattle.payload.specs.Tickets.{hex_digit, is_hex_digit, byte_at, digest_of}

-- a digit is refused for one reason
not_digest : (c : ℕ) (e : TicketError) → Err e ≡ hex_digit c → e ≡ NotDigest
not_digest c e r = search rules

-- not all are digits
not_all : (ds : List ℕ) → list_all is_hex_digit ds ≡ false → Err NotDigest ≡ digest_of ds
unfolding digest_of
not_all ds h = search rules

-- digit i is refused
pub refused_at : (ds : List ℕ) (i : ℕ) (e : TicketError) → i < length ds → Err e ≡ hex_digit (slice_index ds i) → Err e ≡ digest_of ds
refused_at ds i e h r = ap Err (not_digest (slice_index ds i) e r) ∙ not_all ds (list_all_at is_hex_digit ds i 0 h (sym (ap is_ok r)))

module _ (ds : List ℕ) (i high low : ℕ) (a : Ok high ≡ hex_digit (slice_index ds (2 * i))) (b : Ok low ≡ hex_digit (slice_index ds (2 * i + 1))) where
  -- two more digits are read
  pub digits_more : 2 * i + 1 < length ds → list_all is_hex_digit (take (2 * i) ds) ≡ true → list_all is_hex_digit (take (2 * (i + 1)) ds) ≡ true
  digits_more h all =
      let first = list_all_more is_hex_digit ds (2 * i) 0 (omega arith) in
      let second = list_all_more is_hex_digit ds (2 * i + 1) 0 h in
      let before = ap (λ d. d && is_hex_digit (slice_index ds (2 * i))) all ∙ sym (ap is_ok a) in
      ap (λ n. list_all is_hex_digit (take n ds)) (omega arith) ∙ second ∙ ap (λ d. d && is_hex_digit (slice_index ds (2 * i + 1))) (first ∙ before) ∙ sym (ap is_ok b)

  -- one more byte is written
  pub bytes_more : (bs : List ℕ) → i < length bs → ((k : ℕ) → k < i → slice_index bs k ≡ byte_at ds k) → (k : ℕ) → k < i + 1 → slice_index (set bs i (16 * high + low)) k ≡ byte_at ds k
  bytes_more bs h each =
      let value : byte_at ds i ≡ 16 * high + low = sym (ap (λ d. 16 * result_unwrap_or d 0 + low) a ∙ ap (λ d. 16 * result_unwrap_or (hex_digit (slice_index ds (2 * i))) 0 + result_unwrap_or d 0) b) in
      subst (λ v. (k : ℕ) → k < i + 1 → slice_index (set bs i v) k ≡ byte_at ds k) value (fill_by_more (byte_at ds) bs i 0 h each)

-- 64 digits pass the test
chosen : (ds : List ℕ) (x y : Result (List ℕ) TicketError) → length ds ≡ 64 → list_all is_hex_digit ds ≡ true → x ≡ cond (length ds == 64 && list_all is_hex_digit ds) x y
chosen ds x y n all = search rules

-- all digits are read
pub all_read : (ds bs : List ℕ) (i : ℕ) → length ds ≡ 64 → length bs ≡ 32 → 32 ≤ i → list_all is_hex_digit (take (2 * i) ds) ≡ true → ((k : ℕ) → k < i → slice_index bs k ≡ byte_at ds k) → Ok bs ≡ digest_of ds
unfolding digest_of
all_read ds bs i n m end all each =
    let bytes = fill_by_all (byte_at ds) bs 32 0 m (λ k h. each k (omega arith)) in
    let digits = sym (ap (list_all is_hex_digit) (take_all (2 * i) ds (omega arith))) ∙ all in
    ap Ok bytes ∙ chosen ds _ _ n digits
