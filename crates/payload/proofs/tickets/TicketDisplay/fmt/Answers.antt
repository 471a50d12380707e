use Rattle.std.proofs.Common.{false, [], ◌+◌, ◌≡◌, ◌<◌, ◌++◌, codes, length, take, get_or, Some, rules, Ok, refl, sym, ap, subst, ◌∙◌, arith, take_all}
use Rattle.std.specs.Fmt.{decimal, format_spec, padded_integral, styled_digits_output, DisplaysOnOk}
use Rattle.std.specs.Option.{option_map}
use Rattle.std.proofs.lemmas.Fmt.{hex_byte}
use Rattle.std.specs.List.{flat_map}
use Rattle.std.proofs.lemmas.List.{take_more, flat_map_more}
use Rattle.std.proofs.Output.{has_written_append, has_written_of_eq}
use Rattle.payload.specs.Tickets.{byte_text}
use Rattle.payload.proofs.tickets.TicketDisplay.fmt.Goals as goal

pub loop-byte-init : goal.loop-byte-init
loop-byte-init g c = search rules

pub loop-byte-preserved : goal.loop-byte-preserved
loop-byte-preserved g c =
    let digest = c.args.self.now.digest in
    let index = c.loop-byte.byte-index in
    let byte = get_or digest index 0 in
    let long : length digest ≡ 32 = search rules in
    let small : byte < 256 = search rules in
    let text : flat_map byte_text (take index digest) ++ byte_text byte ≡ flat_map byte_text (take (index + 1) digest) =
    flat_map_more byte_text [] (take index digest) byte ∙ ap (flat_map byte_text) (sym (take_more digest index 0 (omega (arith, long, c.loop-byte-test.true)))) in
    let out : styled_digits_output c.in_radix.result c.laid_out.result ≡ Some (byte_text byte) =
    rw c.laid_out.ensures (ap (option_map (padded_integral (format_spec 32 0 4 2 18446744073709551615) false [])) c.in_radix.ensures ∙ ap Some (hex_byte false byte small)) in
    let wrote = subst (λ o. DisplaysOnOk g.W.Write.write_str_gives c.loop-byte.f (Ok c.in_ok-write.field-0) o c.write.new.self) out c.in_ok-write.ensures.writes in
    λ plain. has_written_of_eq _ _ _ _ _ text (has_written_append _ _ _ _ _ _ (c.loop-byte.invariant plain) (wrote (c.loop-byte.invariant plain).plain refl))

pub returns-clause-writes : goal.returns-clause-writes
returns-clause-writes g c =
    let digest = c.args.self.now.digest in
    let long : length digest ≡ 32 = search rules in
    let all : take c.loop-byte.byte-index digest ≡ digest = take_all c.loop-byte.byte-index digest (omega (arith, long, c.loop-byte-test.false)) in
    λ plain ok. has_written_of_eq _ _ _ _ _ (ap (λ bytes. flat_map byte_text bytes ++ (codes ":" ++ decimal c.args.self.now.length)) all) (has_written_append _ _ _ _ _ _ (c.loop-byte.invariant plain) (search rules))
