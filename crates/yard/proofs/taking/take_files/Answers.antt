use Rattle.std.proofs.Common.{◌≡◌, ◌+◌, ◌*◌, ◌++◌, ◌∷◌, [], length, sym, refl, ap, ◌∙◌, arith, length-append}
use Rattle.yard_rules.proofs.Lookups.{place_within}
use Rattle.yard.proofs.Taken.{taking, turn, taking-none, taking_more, taken_clocks}
use Rattle.yard.proofs.taking.take_files.Goals as goal

pub loop-i-init : goal.loop-i-init
loop-i-init g c =
    let i = c.into_iter-i-iterator.ensures.into_iter_gives in
    let z = c.zip-i-items.ensures in
    let a = ap (λ r. r.a) i ∙ z.first in
    let b = ap (λ r. r.b) i ∙ z.second in (
      (tt, tt),
      tt,
      omega (arith, ap (λ r. r.start) a, c.row.ensures.start),
      omega (arith, ap (λ r. r.end) a, c.row.ensures.end),
      omega (arith, ap (λ r. r.start) b, c.row-2.ensures.start),
      omega (arith, ap (λ r. r.end) b, c.row-2.ensures.end),
      omega arith,
      taking-none g.C.Clock.meaning c.args.sizes.files c.args.a c.args.b c.args.copies.now c.requires.ready.0.some_files,
      c.requires.made,
      refl,
    )

pub loop-i-preserved : goal.loop-i-preserved
loop-i-preserved g c =
    let F = c.args.sizes.files in
    let n = length c.loop-i.yielded in
    let s = c.in-Some.ensures.steps in
    let v = c.loop-i.invariant in
    let ours = turn F (c.args.b * F) n v.2 v.3 s.0 in
    let theirs = turn F (c.args.a * F) n v.4 v.5 s.1 in
    let one : length (c.loop-i.yielded ++ ((c.in-Some.i, c.in-Some.j) ∷ [])) ≡ n + 1 = length-append c.loop-i.yielded _ in
    let la = place_within c.args.sizes.berths F c.args.a n (omega arith) ours.below in
    let lb = place_within c.args.sizes.berths F c.args.b n (omega arith) ours.below in (
      (tt, tt),
      tt,
      omega (arith, one, ours.next),
      ours.ends,
      omega (arith, one, theirs.next),
      theirs.ends,
      omega (arith, one, ours.below),
      taking_more g.C.Clock.meaning F c.args.a c.args.b c.args.copies.now c.requires.ready.0.some_files n c.in-Some.i c.in-Some.j c.loop-i.copies c.take_newer.new.copies c.requires.ready.1 ours.below (omega arith) (omega arith) v.7 ours.is theirs.is c.take_newer.ensures.copies ∙ ap (λ k. taking g.C.Clock.meaning F c.args.a c.args.b c.args.copies.now k) (sym one),
      taken_clocks g.C.Clock.meaning c.loop-i.copies c.take_newer.new.copies c.in-Some.i c.in-Some.j c.take_newer.ensures.copies v.8,
      omega arith,
    )
