-- A word that is printed, read again.
use Rattle.std.proofs.Common.{◌≡◌, ℕ, zero, suc, ◌+◌, ◌*◌, ◌/◌, ◌%◌, ◌^◌, ◌<◌, ◌≤◌, true, false, cond, not, List, [], ◌∷◌, ◌++◌, length, take, drop, get_or, Ok, Err, nat_lt, refl, sym, ap, ◌∙◌, arith, ⊎_elim, take_at, drop_at, ne_eqb}
use Rattle.std.specs.Prelude.{◌==◌, is_ok, slice_index}
use Rattle.std.specs.Fmt.{decimal, digit_glyph}
use Rattle.std.specs.List.{list_all, flat_map, position_or_len}
use Rattle.std.specs.Result.{result_unwrap_or}
use Rattle.std.specs.Str.Parse.{digits_value}
use Rattle.std.proofs.lemmas.Bool.{cases_lt, and_from, and_right, lt-ltb}
use Rattle.std.proofs.lemmas.Fmt.{decimal_digit, decimal_is_IsNumeral, decimal_nonempty, digits_decimal, first_decimal}
use Rattle.std.proofs.lemmas.List.{append_assoc, length-append, take_all}
use Rattle.payload.specs.declared.decimals.DecimalError.TheVariants as number
use Rattle.payload.specs.declared.valves.State.TheVariants as state
use Rattle.payload.specs.declared.valves.ValveError.TheVariants.{PartRange, FlowRange}
use Rattle.payload.specs.declared.tickets.TicketError.TheVariants.{NoColon}
use Rattle.payload.specs.Decimals.{plain, leading_zero, decimal_of}
use Rattle.payload.specs.Valves as valves
use Rattle.payload.specs.Tickets as tickets
use Rattle.payload.specs.Tickets.{hex_digit, is_hex_digit, byte_text, digit_at, byte_at, digest_of, is_colon, ticket_of, ticket_text, ticket_parts}
use Rattle.payload.proofs.Digests.{all_read}
use Rattle.payload.proofs.Reading.{own}

no_leading_zero : (n : ℕ) → n < 2 ^ 64 → leading_zero (decimal n) ≡ false
no_leading_zero n small = ⊎_elim
    (λ (l : n < 10). rw (decimal_digit n l) refl)
    (λ (l : 10 ≤ n). and_right (nat_lt 1 (length (decimal n))) (get_or (decimal n) 0 0 == 48) (ne_eqb _ 48 (λ e. omega (arith, e, first_decimal n (omega arith) small))))
    (cases_lt n 10)

plain_decimal : (n : ℕ) → n < 2 ^ 64 → plain (decimal n) ≡ true
plain_decimal n small =
    and_from _ _ (ap not (ne_eqb (length (decimal n)) 0 (λ e. omega (arith, e, decimal_nonempty n small))))
    (and_from _ _ (ap not (no_leading_zero n small)) (digits_decimal own n small))

-- a number
pub number_reads : (n : ℕ) → n < 2 ^ 64 → decimal_of (decimal n) ≡ Ok n
number_reads n small =
    ap (λ b. cond b (cond (nat_lt (digits_value 10 (decimal n)) (2 ^ 64)) (Ok (digits_value 10 (decimal n))) (Err number.OutOfRange)) (Err number.NotNumber)) (plain_decimal n small)
    ∙ ap (λ v. cond (nat_lt v (2 ^ 64)) (Ok v) (Err number.OutOfRange)) (decimal_is_IsNumeral n small).1
    ∙ ap (λ b. cond b (Ok n) (Err number.OutOfRange)) (lt-ltb n (2 ^ 64) small)

-- a part and a flow
pub part_reads : (n : ℕ) → 1 ≤ n → n ≤ 99 → valves.ReadBack (record { 0 = state.Part n })
part_reads n low high =
    ap (λ r. valves.made valves.part_valve (valves.number_read PartRange r)) (number_reads n (omega arith)) ∙ grind arith

pub flow_reads : (n : ℕ) → n ≤ 9999 → valves.ReadBack (record { 0 = state.Flow n })
flow_reads n high =
    ap (λ r. valves.made valves.flow_valve (valves.number_read FlowRange r)) (number_reads n (omega arith)) ∙ grind arith

-- a hexadecimal digit
glyph_reads : (x : ℕ) → x < 16 → hex_digit (digit_glyph false x) ≡ Ok x
glyph_reads x small = grind arith

-- the two digits of the byte at k
pairs : (bs : List ℕ) (k : ℕ) → k < length bs
    → (slice_index (flat_map byte_text bs) (2 * k) ≡ digit_glyph false (get_or bs k 0 / 16)) × (slice_index (flat_map byte_text bs) (2 * k + 1) ≡ digit_glyph false (get_or bs k 0 % 16))
pairs [] k h = absurd (omega arith)
pairs (b ∷ bs) zero h = (refl, refl)
pairs (b ∷ bs) (suc k) h =
    let even : 2 * suc k ≡ suc (suc (2 * k)) = omega arith in
    let odd : 2 * suc k + 1 ≡ suc (suc (2 * k + 1)) = omega arith in
    let rest = pairs bs k (omega arith) in
    (ap (slice_index (flat_map byte_text (b ∷ bs))) even ∙ rest.0, ap (slice_index (flat_map byte_text (b ∷ bs))) odd ∙ rest.1)

length_pairs : (bs : List ℕ) → length (flat_map byte_text bs) ≡ 2 * length bs
length_pairs [] = refl
length_pairs (b ∷ bs) = omega (arith, length_pairs bs)

hex_pairs : (bs : List ℕ) → ((k : ℕ) → k < length bs → get_or bs k 0 < 256) → list_all is_hex_digit (flat_map byte_text bs) ≡ true
hex_pairs [] small = refl
hex_pairs (b ∷ bs) small =
    let fits : b < 256 = small 0 (omega arith) in
    and_from _ _ (ap is_ok (glyph_reads (b / 16) (omega arith))) (and_from _ _ (ap is_ok (glyph_reads (b % 16) (omega arith))) (hex_pairs bs (λ k h. small (suc k) (omega arith))))

byte_reads : (bs : List ℕ) (k : ℕ) → k < length bs → get_or bs k 0 < 256 → get_or bs k 0 ≡ byte_at (flat_map byte_text bs) k
byte_reads bs k h small =
    let b = get_or bs k 0 in
    let read = λ (c x : ℕ) (is : c ≡ digit_glyph false x) (l : x < 16). ap (λ c. result_unwrap_or (hex_digit c) 0) is ∙ ap (λ r. result_unwrap_or r 0) (glyph_reads x l) in
    let high = read _ (b / 16) (pairs bs k h).0 (omega arith) in
    let low = read _ (b % 16) (pairs bs k h).1 (omega arith) in
    omega (arith, high, low)

digest_reads : (bs : List ℕ) → length bs ≡ 32 → ((k : ℕ) → k < length bs → get_or bs k 0 < 256) → Ok bs ≡ digest_of (flat_map byte_text bs)
digest_reads bs long small =
    let ds = flat_map byte_text bs in
    let wide : length ds ≡ 64 = omega (arith, length_pairs bs, long) in
    all_read ds bs 32 wide long (omega arith) (ap (list_all is_hex_digit) (take_all 64 ds (omega (arith, wide))) ∙ hex_pairs bs small)
    (λ k h. byte_reads bs k (omega (arith, long)) (small k (omega (arith, long))))

-- no hexadecimal digit is a colon
not_colon : (c : ℕ) → is_hex_digit c ≡ true → is_colon c ≡ false
not_colon c h = grind arith

first_colon : (ds rest : List ℕ) → list_all is_hex_digit ds ≡ true → position_or_len is_colon (ds ++ (58 ∷ rest)) ≡ length ds
first_colon [] rest all = refl
first_colon (d ∷ ds) rest all = grind (arith, not_colon d, first_colon ds rest)

-- a ticket
pub ticket_reads : (d : List ℕ) (n : ℕ) → length d ≡ 32 → ((k : ℕ) → k < length d → get_or d k 0 < 256) → n < 2 ^ 64 → tickets.ReadBack (ticket_of d n)
ticket_reads d n long small fits =
    let ds = flat_map byte_text d in
    let word = ds ++ (58 ∷ decimal n) in
    let at : position_or_len is_colon word ≡ length ds = first_colon ds (decimal n) (hex_pairs d small) in
    let there : nat_lt (position_or_len is_colon word) (length word) ≡ true = lt-ltb _ _ (omega (arith, at, length-append ds (58 ∷ decimal n))) in
    let before : take (position_or_len is_colon word) word ≡ ds = ap (λ i. take i word) at ∙ take_at ds (58 ∷ decimal n) (length ds) refl in
    let after : drop (position_or_len is_colon word + 1) word ≡ decimal n =
    ap (λ i. drop (i + 1) word) at ∙ ap (drop (length ds + 1)) (sym (append_assoc ds (58 ∷ []) (decimal n))) ∙ drop_at (ds ++ (58 ∷ [])) (decimal n) (length ds + 1) (length-append ds (58 ∷ [])) in
    ap (λ b. cond b (ticket_parts (digest_of (take (position_or_len is_colon word) word)) (decimal_of (drop (position_or_len is_colon word + 1) word))) (Err NoColon)) there
    ∙ ap (λ x. ticket_parts (digest_of x) (decimal_of (drop (position_or_len is_colon word + 1) word))) before
    ∙ ap (λ x. ticket_parts (digest_of ds) (decimal_of x)) after
    ∙ ap (λ r. ticket_parts r (decimal_of (decimal n))) (sym (digest_reads d long small))
    ∙ ap (ticket_parts (Ok d)) (number_reads n fits)
