use Rattle.std.proofs.Common.{◌≡◌, ℕ, ◌*◌, Some, Err, Option, sym, ap, ◌∙◌, ⊎_elim, arith, rules, below_more}
use Rattle.clock.specs.declared.causes.Cause.TheVariants.{InConflict}
use Rattle.clock.specs.declared.verdicts.Verdict.TheVariants.{Conflict}
use Rattle.yard_rules.specs.Tables.{judged, is_conflict}
use Rattle.yard_rules.specs.Checks.{fault, conflict_in}
use Rattle.yard.specs.Passing.{passing}
use Rattle.yard.proofs.Rows.{pair_of, none_left}
use Rattle.yard.proofs.Verdicts.{is_not_conflict}
use Rattle.yard.proofs.Retired.{lowest-none, lowest_is}
use Rattle.yard.proofs.retiring.check_calm.Goals as goal

pub compare-requires : goal.compare-requires
compare-requires g c =
    let s = c.in-Some.ensures.steps in
    let p = pair_of g.C.Clock.meaning c.args.sizes.files c.args.b c.args.a c.loop-f.f-iterator.count c.next.new.self.count c.args.copies.now c.loop-f.f-iterator.iter.a.rest.now c.loop-f.f-iterator.iter.b.rest.now c.next.new.self.iter.a.rest.now c.next.new.self.iter.b.rest.now c.in-Some.ours.now c.in-Some.theirs.now s.2 c.loop-f.invariant.2 c.loop-f.invariant.3 s.0.0 s.0.1 in
    (c.requires.made _ _ p.first, c.requires.made _ _ p.second)

pub returns-then-eq : goal.returns-then-eq
returns-then-eq g c =
    let s = c.in-Some.ensures.steps in
    let p = pair_of g.C.Clock.meaning c.args.sizes.files c.args.b c.args.a c.loop-f.f-iterator.count c.next.new.self.count c.args.copies.now c.loop-f.f-iterator.iter.a.rest.now c.loop-f.f-iterator.iter.b.rest.now c.next.new.self.iter.a.rest.now c.next.new.self.iter.b.rest.now c.in-Some.ours.now c.in-Some.theirs.now s.2 c.loop-f.invariant.2 c.loop-f.invariant.3 s.0.0 s.0.1 in
    let q : c.compare.result ≡ Conflict = search rules in
    let e : c.at_file.result ≡ fault InConflict (Some c.args.b) (Some c.loop-f.f-iterator.count) = search rules in
    ap Err e
    ∙ sym (ap (λ (o : Option ℕ). passing (conflict_in c.args.b o)) (lowest_is c.args.sizes.files c.loop-f.f-iterator.count (λ f. is_conflict (judged g.C.Clock.meaning c.args.sizes.files c.args.copies.now c.args.b c.args.a f)) p.below (ap is_conflict (sym (p.verdict c.compare.result c.compare.ensures) ∙ q)) c.loop-f.invariant.4))

pub loop-f-preserved : goal.loop-f-preserved
loop-f-preserved g c =
    let s = c.in-Some.ensures.steps in
    let p = pair_of g.C.Clock.meaning c.args.sizes.files c.args.b c.args.a c.loop-f.f-iterator.count c.next.new.self.count c.args.copies.now c.loop-f.f-iterator.iter.a.rest.now c.loop-f.f-iterator.iter.b.rest.now c.next.new.self.iter.a.rest.now c.next.new.self.iter.b.rest.now c.in-Some.ours.now c.in-Some.theirs.now s.2 c.loop-f.invariant.2 c.loop-f.invariant.3 s.0.0 s.0.1 in
    let q = is_not_conflict c.compare.result (search rules) in
    let go = c.in-Some.ensures.goes.on c.loop-f.invariant.1 in (
      go.0,
      go.1,
      p.first_left,
      p.second_left,
      λ k lt. below_more _ _ c.loop-f.invariant.4 (ap is_conflict (sym (p.verdict c.compare.result c.compare.ensures)) ∙ q) k (omega arith),
    )

pub returns : goal.returns
returns g c =
    let F = c.args.sizes.files in
    let over = ⊎_elim
    (λ z. none_left F (c.args.b * F) c.loop-f.f-iterator.count c.args.copies.now _ c.loop-f.invariant.2 z.1.0 (omega arith))
    (λ z. none_left F (c.args.a * F) c.loop-f.f-iterator.count c.args.copies.now _ c.loop-f.invariant.3 z.1.0 (omega arith))
    c.in-None.ensures.steps.0 in
    sym (ap (λ (o : Option ℕ). passing (conflict_in c.args.b o)) (lowest-none F (λ f. is_conflict (judged g.C.Clock.meaning F c.args.copies.now c.args.b c.args.a f)) (λ k lt. c.loop-f.invariant.4 k (omega arith))))
