use Rattle.std.proofs.Common.{◌∙◌, ap₂}
use Rattle.clock.specs.Verdicts.{verdict_of}
use Rattle.tree_clock.proofs.Public.{equal_verdict, compared}
use Rattle.tree_clock.proofs.clocks.TreeClock.compare.Goals as goal

pub returns-then-same : goal.returns-then-same
returns-then-same c =
    let e = equal_verdict _ _ c.requires.made.0 c.requires.made.1 (c.same.ensures.stored.0 c.if-same.true) in
    record { result = e; marks = compared _ _ c.requires.made.0 c.requires.made.1 _ e }

pub returns : goal.returns
returns c =
    let e = c.of.ensures ∙ ap₂ verdict_of c.covers.ensures.result c.covers-2.ensures.result in
    record { result = e; marks = compared _ _ c.requires.made.0 c.requires.made.1 _ e }
