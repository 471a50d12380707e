use Rattle.std.proofs.Common.{◌≡◌, ◌++◌, codes}
use Rattle.std.specs.Fmt.{HasWritten, IsPlainFormatter}
use Rattle.vector_clock.specs.Texts.{commas, names_below}
use Rattle.vector_clock.proofs.Listing.{some}
use Rattle.vector_clock.proofs.pens.NamesDisplay.fmt.Given as goal

abbrev pub invariant-loop-name : goal.invariant-loop-name
invariant-loop-name g l =
    (l.after ≡ some (names_below l.self l.name))
    × (IsPlainFormatter l.fn.f → HasWritten g.W.Write.write_str_gives l.fn.f (codes "{" ++ commas (names_below l.self l.name)) l.f)
