use Rattle.std.proofs.Common.{rules, tests, sym, ap, ◌∙◌}
use Rattle.payload.specs.Decimals.{plain}
use Rattle.payload.proofs.Reading.{parse_answers}
use Rattle.payload.proofs.decimals.decimal.Goals as goal

pub returns : goal.returns
returns c =
    let is_plain = sym (ap plain c.as_bytes.ensures.value) ∙ sym c.is_plain.ensures ∙ c.if-not-is_plain.false in
    parse_answers c.args.text.now is_plain c.parse.result c.map_err.result c.parse.ensures.value.0 c.map_err.ensures.cases (λ e d q. search (rules, tests))
