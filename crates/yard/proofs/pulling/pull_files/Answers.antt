use Rattle.std.proofs.Common.{◌≡◌, ◌*◌, ◌≤◌, sym, refl, ap, ◌∙◌, ⊎_elim, arith, rules}
use Rattle.clock.specs.declared.verdicts.Verdict.TheVariants.{Stale, Conflict}
use Rattle.yard_rules.specs.Tables.{judged, reported, is_stale, is_conflict}
use Rattle.yard_rules.proofs.Lookups.{place_within}
use Rattle.yard.proofs.Verdicts.{told_more, told_length, told_all, reported-none, counts_told, told_stale, told_conflict}
use Rattle.yard.proofs.Taken.{taking, turn, taking-none, taking_all, taking_more, taking_verdict, taken_clocks}
use Rattle.yard.proofs.pulling.pull_files.Goals as goal

pub loop-f-init : goal.loop-f-init
loop-f-init g c =
    let F = c.args.sizes.files in
    let m = g.C.Clock.meaning in
    let v = judged m F c.args.copies.now c.args.b c.args.a in
    let a : c.into_iter-f-iterator.result.iter.a ≡ c.row.result = search rules in
    let b : c.into_iter-f-iterator.result.iter.b ≡ c.row-2.result = search rules in
    let none : c.into_iter-f-iterator.result.count ≡ 0 = search rules in (
      search rules,
      search rules,
      omega (arith, none, ap (λ r. r.start) a, c.row.ensures.start),
      omega (arith, ap (λ r. r.end) a, c.row.ensures.end),
      omega (arith, none, ap (λ r. r.start) b, c.row-2.ensures.start),
      omega (arith, ap (λ r. r.end) b, c.row-2.ensures.end),
      omega (arith, none),
      taking-none m F c.args.a c.args.b c.args.copies.now c.requires.ready.0.some_files ∙ ap (λ k. taking m F c.args.a c.args.b c.args.copies.now k) (sym none),
      c.requires.made,
      refl,
      reported-none v c.args.bytes.now ∙ ap (λ k. reported k v c.args.bytes.now) (sym none),
      refl,
    )

pub loop-f-preserved : goal.loop-f-preserved
loop-f-preserved g c =
    let F = c.args.sizes.files in
    let m = g.C.Clock.meaning in
    let cs = c.args.copies.now in
    let n = c.loop-f.f-iterator.count in
    let v = judged m F cs c.args.b c.args.a in
    let s = c.in-Some.ensures.steps in
    let k = c.loop-f.invariant in
    let go = c.in-Some.ensures.goes.on k.1 in
    let ours = turn F (c.args.b * F) n k.2 k.3 s.0.0 in
    let theirs = turn F (c.args.a * F) n k.4 k.5 s.0.1 in
    let lt = ours.below in
    let la = place_within c.args.sizes.berths F c.args.a n (omega arith) lt in
    let lb = place_within c.args.sizes.berths F c.args.b n (omega arith) lt in
    let ev = taking_verdict m F c.args.a c.args.b cs c.requires.ready.0.some_files n c.in-Some.i c.in-Some.j c.loop-f.copies c.take_newer.result c.requires.ready.1.0 lt (omega arith) (omega arith) k.7 ours.is theirs.is c.take_newer.ensures.verdict in (
      go.0,
      go.1,
      omega (arith, s.2, ours.next),
      ours.ends,
      omega (arith, s.2, theirs.next),
      theirs.ends,
      omega (arith, s.2, lt),
      taking_more m F c.args.a c.args.b cs c.requires.ready.0.some_files n c.in-Some.i c.in-Some.j c.loop-f.copies c.take_newer.new.copies c.requires.ready.1.0 lt (omega arith) (omega arith) k.7 ours.is theirs.is c.take_newer.ensures.copies ∙ ap (λ x. taking m F c.args.a c.args.b cs x) (sym s.2),
      taken_clocks m c.loop-f.copies c.take_newer.new.copies c.in-Some.i c.in-Some.j c.take_newer.ensures.copies k.8,
      omega arith,
      told_more n c.next.new.self.count c.in-Some.f v c.args.bytes.now c.loop-f.bytes c.into.result c.take_newer.result s.1 s.2 (omega arith) k.10 c.into.ensures ev,
      told_length c.args.bytes.now c.loop-f.bytes c.in-Some.f c.into.result k.11,
    )

pub returns : goal.returns
returns g c =
    let F = c.args.sizes.files in
    let m = g.C.Clock.meaning in
    let cs = c.args.copies.now in
    let n = c.loop-f.f-iterator.count in
    let v = judged m F cs c.args.b c.args.a in
    let k = c.loop-f.invariant in
    let over : F ≤ n = ⊎_elim (λ z. omega (arith, z.1.0, k.2, k.3)) (λ z. omega (arith, z.1.0, k.4, k.5)) c.in-None.ensures.steps.0 in
    let e : n ≡ F = omega (arith, over, k.6) in
    let told = told_all F n v c.args.bytes.now c.loop-f.bytes e k.10 in
    record {
      copies = k.7 ∙ taking_all m F c.args.a c.args.b cs c.requires.ready.0.some_files n e;
      bytes = told;
      taken = counts_told F v c.args.bytes.now c.requires.ready.1.1 Stale is_stale told_stale _ c.count_verdict-taken.result told c.count_verdict-taken.ensures;
      conflicts = counts_told F v c.args.bytes.now c.requires.ready.1.1 Conflict is_conflict told_conflict _ c.count_verdict-conflicts.result told c.count_verdict-conflicts.ensures;
    }
