use Rattle.std.proofs.Common.{◌≡◌, [], ◌∷◌, ◌++◌, codes, length, take, get_or, rules, refl, sym, ap, ◌∙◌, arith, take_all}
use Rattle.std.proofs.lemmas.List.{take_more}
use Rattle.std.proofs.Output.{has_written_append, has_written_of_eq}
use Rattle.vector_clock.specs.Texts.{commas}
use Rattle.vector_clock.proofs.Listing.{some_first, item_written}
use Rattle.vector_clock.proofs.clocks.CountsDisplay.fmt.Goals as goal

pub loop-name-preserved : goal.loop-name-preserved
loop-name-preserved g c =
    let counts = c.args.self.now.counts in
    let name = c.loop-name.name in
    let before = c.loop-name.invariant in
    let long : length counts ≡ g.row.N = search rules in
    let read : get_or counts name 0 ≡ c.from.result = search rules in
    let more = take_more counts name 0 (omega (arith, long, c.loop-name-test.true)) ∙ ap (λ count. take name counts ++ (count ∷ [])) read in
    let after = some_first counts name (omega (arith, long, c.loop-name-test.true)) in
    λ plain. has_written_of_eq _ _ _ _ _ (ap (λ ns. 91 ∷ commas ns) (sym more))
    (item_written _ _ _ _ _ 91 (take name counts) _ _ after refl (before plain) (c.write_item.ensures (before plain).plain (search rules)))

pub returns-clause-writes : goal.returns-clause-writes
returns-clause-writes g c =
    let counts = c.args.self.now.counts in
    let long : length counts ≡ g.row.N = search rules in
    let all : take c.loop-name.name counts ≡ counts = take_all c.loop-name.name counts (omega (arith, long, c.loop-name-test.false)) in
    λ plain ok. has_written_of_eq _ _ _ _ _ (ap (λ ns. codes "[" ++ (commas ns ++ codes "]")) all) (has_written_append _ _ _ _ _ _ (c.loop-name.invariant plain) (search rules))
