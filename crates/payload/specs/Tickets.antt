-- The tickets that words stand for, the word of each, and when two are alike.
--
-- ticket_of d n     the ticket with digest d and length n
-- ticket_word w     the ticket that a word of a log stands for, or the refusal
-- hex_digit c       the value of the lowercase hexadecimal digit with code c, or the refusal
-- is_hex_digit c    c is the code of a lowercase hexadecimal digit
-- digit_at ds i     the value of digit i, or 0
-- byte_at ds k      16 times the value of digit 2 k, plus that of digit 2 k + 1
-- digest_of ds      the digest that 64 lowercase hexadecimal digits stand for, or the refusal
-- length_refusal e  why a ticket is refused whose length is refused by e
-- byte_text b       the two hexadecimal digits of a byte, the high one first
-- ticket_text t     the word of a ticket, which it prints: its digest, a colon, its length
-- ReadBack t        the word that t prints stands for t
-- same_below k a b  the first k bytes of two digests are the same
-- same_ticket t u   all 32 bytes and the length are the same
use Rattle.std.specs.Prelude.{◌≡◌, ℕ, zero, suc, ◌+◌, ◌-◌, ◌*◌, ◌/◌, ◌%◌, Bool, true, false, if◌then◌else◌, ◌&&◌, List, [], ◌∷◌, ◌++◌, codes, length, map, Ok, Err, Result, is_ok, ◌==◌, nat_lt, nat_le, slice_index}
use Rattle.std.specs.Fmt.{decimal, digit_glyph}
use Rattle.std.specs.List.{list_all, flat_map, range_with_len, position_or_len, before_first, after_first}
use Rattle.std.specs.Result.{result_unwrap_or}
use Rattle.payload.specs.declared.decimals.DecimalError.{DecimalError}
use Rattle.payload.specs.declared.decimals.DecimalError.TheVariants as decimal
use Rattle.payload.specs.Decimals.{decimal_of}
use Rattle.payload.specs.declared.tickets.Ticket.{Ticket}
use Rattle.payload.specs.declared.tickets.TicketError.{TicketError}
use Rattle.payload.specs.declared.tickets.TicketError.TheVariants.{NoColon, NotDigest, NotNumber, OutOfRange}

abbrev pub ticket_of : List ℕ → ℕ → Ticket
ticket_of d n = record { digest = d; length = n }

abbrev pub hex_digit : ℕ → Result ℕ TicketError
hex_digit c =
    if nat_le 48 c && nat_le c 57
    then Ok (c - 48)
    else (if nat_le 97 c && nat_le c 102 then Ok (c - 97 + 10) else Err NotDigest)

abbrev pub is_hex_digit : ℕ → Bool
is_hex_digit c = is_ok (hex_digit c)

abbrev pub digit_at : List ℕ → ℕ → ℕ
digit_at ds i = result_unwrap_or (hex_digit (slice_index ds i)) 0

abbrev pub byte_at : List ℕ → ℕ → ℕ
byte_at ds k = 16 * digit_at ds (2 * k) + digit_at ds (2 * k + 1)

unfoldable pub digest_of : List ℕ → Result (List ℕ) TicketError
digest_of ds =
    if length ds == 64 && list_all is_hex_digit ds
    then Ok (map (byte_at ds) (range_with_len 0 32))
    else Err NotDigest

abbrev pub length_refusal : DecimalError → TicketError
length_refusal decimal.NotNumber = NotNumber
length_refusal decimal.OutOfRange = OutOfRange

abbrev pub ticket_parts :
    Result (List ℕ) TicketError → Result ℕ DecimalError → Result Ticket TicketError
ticket_parts (Ok d) (Ok n) = Ok (ticket_of d n)
ticket_parts (Ok d) (Err e) = Err (length_refusal e)
ticket_parts (Err e) n = Err e

abbrev pub is_colon : ℕ → Bool
is_colon c = c == 58

abbrev pub has_colon : List ℕ → Bool
has_colon w = nat_lt (position_or_len is_colon w) (length w)

abbrev pub ticket_word : List ℕ → Result Ticket TicketError
ticket_word w =
    if has_colon w
    then ticket_parts (digest_of (before_first is_colon w)) (decimal_of (after_first is_colon w))
    else Err NoColon

abbrev pub byte_text : ℕ → List ℕ
byte_text b = digit_glyph false (b / 16) ∷ digit_glyph false (b % 16) ∷ []

abbrev pub ticket_text : Ticket → List ℕ
ticket_text t = flat_map byte_text t.digest ++ (codes ":" ++ decimal t.length)

abbrev pub ReadBack : Ticket → Type 0
ReadBack t = ticket_word (ticket_text t) ≡ Ok t

abbrev pub same_below : ℕ → List ℕ → List ℕ → Bool
same_below zero a b = true
same_below (suc k) a b = slice_index a k == slice_index b k && same_below k a b

abbrev pub same_ticket : Ticket → Ticket → Bool
same_ticket t u = same_below 32 t.digest u.digest && t.length == u.length
