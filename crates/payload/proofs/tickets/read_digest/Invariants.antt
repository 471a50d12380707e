use Rattle.std.proofs.Common.{◌≡◌, ℕ, ◌<◌, ◌*◌, true, take}
use Rattle.std.specs.Prelude.{slice_index}
use Rattle.std.specs.List.{list_all}
use Rattle.payload.specs.Tickets.{is_hex_digit, byte_at}
use Rattle.payload.proofs.tickets.read_digest.Given as goal

abbrev pub invariant-loop-i : goal.invariant-loop-i
invariant-loop-i l = record {
  digits : list_all is_hex_digit (take (2 * l.i) l.digits) ≡ true;
  bytes : (k : ℕ) → k < l.i → slice_index l.byte-items k ≡ byte_at l.digits k;
}
