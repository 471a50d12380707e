use Rattle.std.proofs.Common.{◌≡◌, ◌++◌, codes, ◌∷◌, rules, refl, sym, ap, ◌∙◌, arith}
use Rattle.std.proofs.Output.{has_written_append, has_written_of_eq, has_written_to_eq}
use Rattle.vector_clock.specs.Texts.{commas, names_below}
use Rattle.vector_clock.proofs.Listing.{some, some_more, item_written, names_held, names_absent}
use Rattle.vector_clock.proofs.pens.NamesDisplay.fmt.Goals.{then-held+in_ok-write_item, else-held}
use Rattle.vector_clock.proofs.pens.NamesDisplay.fmt.Goals as goal

pub loop-name-init : goal.loop-name-init
loop-name-init g c = (refl, search rules)

pub loop-name-preserved : goal.loop-name-preserved
loop-name-preserved g c =
    let pen = c.args.self.now in
    let name = c.loop-name.name in
    let before = c.loop-name.invariant in
    elim c.if-held.branch [
      | then-held+in_ok-write_item w ↦
          let names = sym (names_held pen name (search rules)) in (
            w.after-is ∙ sym (some_more (names_below pen name) name) ∙ ap some names,
            λ plain. has_written_of_eq _ _ _ _ _ (ap (λ ns. 123 ∷ commas ns) names)
                (item_written _ _ _ _ _ 123 (names_below pen name) name _ before.0 w.f-is (before.1 plain) (w.write_item.ensures (before.1 plain).plain (search rules))),
          )
      | else-held w ↦
          let names = sym (names_absent pen name (search rules)) in (
            w.after-is ∙ before.0 ∙ ap some names,
            λ plain. has_written_of_eq _ _ _ _ _ (ap (λ ns. 123 ∷ commas ns) names) (has_written_to_eq _ _ _ _ _ w.f-is (before.1 plain)),
          )
    ]

pub returns-clause-writes : goal.returns-clause-writes
returns-clause-writes g c =
    let all : c.loop-name.name ≡ g.row.N = omega (arith, c.loop-name-test.false, c.loop-name.auto.name-end) in
    λ plain ok. has_written_of_eq _ _ _ _ _ (ap (λ n. codes "{" ++ (commas (names_below c.args.self.now n) ++ codes "}")) all) (has_written_append _ _ _ _ _ _ (c.loop-name.invariant.1 plain) (search rules))
