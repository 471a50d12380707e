use Rattle.std.proofs.Common.{rules, ap, ◌∙◌, arith, ◌*◌, ◌+◌}
use Rattle.payload.specs.Tickets.{digest_of}
use Rattle.payload.proofs.Digests.{refused_at, digits_more, bytes_more, all_read}
use Rattle.payload.proofs.tickets.read_digest.Goals as goal

pub returns-then-digits-ne64 : goal.returns-then-digits-ne64
unfolding digest_of
returns-then-digits-ne64 c = search rules

pub returns-in_err-read_digit : goal.returns-in_err-read_digit
returns-in_err-read_digit c =
    let refused = refused_at c.as_bytes-digits.result.now (2 * c.loop-i.i) _ (omega arith) c.in_err-read_digit.ensures.value in
    search rules

pub returns-in_err-byte : goal.returns-in_err-byte
returns-in_err-byte c =
    let refused = refused_at c.as_bytes-digits.result.now (2 * c.loop-i.i + 1) _ (omega arith) c.in_err-byte.ensures.value in
    search rules

pub loop-i-preserved : goal.loop-i-preserved
loop-i-preserved c =
    let digits = c.as_bytes-digits.result.now in
    let high = c.in_ok-read_digit.ensures.value in
    let low = c.in_ok-byte.ensures.value in
    record {
      digits = digits_more digits c.loop-i.i _ _ high low (omega arith) c.loop-i.invariant.digits;
      bytes = bytes_more digits c.loop-i.i _ _ high low c.loop-i.byte-items (omega arith) c.loop-i.invariant.bytes;
    }

pub returns : goal.returns
returns c = all_read c.as_bytes-digits.result.now c.loop-i.byte-items c.loop-i.i c.if-digits-ne64.false c.loop-i-test.array_long (omega arith) c.loop-i.invariant.digits c.loop-i.invariant.bytes ∙ ap digest_of c.as_bytes-digits.ensures.value
