use Rattle.std.proofs.Common.{◌≡◌, ℕ, ◌+◌, ◌*◌, ◌&&◌, Bool, true, false, cond, sym, refl, ap, ◌∙◌, ⊎_elim, arith, rules}
use Rattle.clock.specs.declared.verdicts.Verdict.TheVariants.{Equal, Stale, Ahead, Conflict}
use Rattle.yard_rules.specs.Tables.{judged, reported, count, is_equal, is_stale, is_ahead, is_conflict}
use Rattle.yard_rules.specs.Report.{twins}
use Rattle.yard.proofs.Rows.{all_left, pair_of, none_left}
use Rattle.yard.proofs.Verdicts.{is_not_conflict, told_more, told_length, told_all, reported-none, counts_told, told_equal, told_stale, told_ahead, told_conflict}
use Rattle.yard.proofs.Reported.{twins_more, twin_at}
use Rattle.yard.proofs.reporting.report_files.Goals as goal
use Rattle.yard.proofs.reporting.report_files.Goals.{else-eq-via-then-eq+else-alike, else-eq-via-else-eq}

and_no : (b : Bool) (x y : ℕ) → cond (b && false) x y ≡ y
and_no true x y = refl
and_no false x y = refl

pub loop-f-init : goal.loop-f-init
loop-f-init g c =
    let F = c.args.sizes.files in
    let v = judged g.C.Clock.meaning F c.args.copies.now c.args.a c.args.b in
    let z : c.into_iter-f-iterator.result.count ≡ 0 = search rules in (
      search rules,
      search rules,
      all_left F (c.args.a * F) c.row.result.start c.row.result.end _ c.args.copies.now _ c.row.ensures.start c.row.ensures.end z (search rules),
      all_left F (c.args.b * F) c.row-2.result.start c.row-2.result.end _ c.args.copies.now _ c.row-2.ensures.start c.row-2.ensures.end z (search rules),
      omega (arith, z),
      reported-none v c.args.bytes.now ∙ ap (λ n. reported n v c.args.bytes.now) (sym z),
      refl,
      ap (λ n. count n (λ f. is_conflict (v f) && twins F c.args.copies.now g.P.Payload.same c.args.a c.args.b f)) (sym z),
      omega arith,
    )

pub compare-verdict-requires : goal.compare-verdict-requires
compare-verdict-requires g c =
    let s = c.in-Some.ensures.steps in
    let p = pair_of g.C.Clock.meaning c.args.sizes.files c.args.a c.args.b c.loop-f.f-iterator.count c.next.new.self.count c.args.copies.now c.loop-f.f-iterator.iter.a.rest.now c.loop-f.f-iterator.iter.b.rest.now c.next.new.self.iter.a.rest.now c.next.new.self.iter.b.rest.now c.in-Some.mine.now c.in-Some.theirs.now s.2 c.loop-f.invariant.2 c.loop-f.invariant.3 s.0.0 s.0.1 in
    (c.requires.made _ _ p.first, c.requires.made _ _ p.second)

pub loop-f-preserved-then-alike : goal.loop-f-preserved-then-alike
loop-f-preserved-then-alike g c =
    let F = c.args.sizes.files in
    let cs = c.args.copies.now in
    let n = c.loop-f.f-iterator.count in
    let v = judged g.C.Clock.meaning F cs c.args.a c.args.b in
    let s = c.in-Some.ensures.steps in
    let p = pair_of g.C.Clock.meaning F c.args.a c.args.b n c.next.new.self.count cs c.loop-f.f-iterator.iter.a.rest.now c.loop-f.f-iterator.iter.b.rest.now c.next.new.self.iter.a.rest.now c.next.new.self.iter.b.rest.now c.in-Some.mine.now c.in-Some.theirs.now s.2 c.loop-f.invariant.2 c.loop-f.invariant.3 s.0.0 s.0.1 in
    let go = c.in-Some.ensures.goes.on c.loop-f.invariant.1 in
    let ev = p.verdict c.compare-verdict.result c.compare-verdict.ensures in
    let q : c.compare-verdict.result ≡ Conflict = search rules in (
      go.0,
      go.1,
      p.first_left,
      p.second_left,
      omega (arith, s.2, p.below),
      told_more n c.next.new.self.count c.in-Some.f v c.args.bytes.now c.loop-f.bytes c.into.result c.compare-verdict.result s.1 s.2 (omega arith) c.loop-f.invariant.5 c.into.ensures ev,
      told_length c.args.bytes.now c.loop-f.bytes c.in-Some.f c.into.result c.loop-f.invariant.6,
      twins_more n c.next.new.self.count c.loop-f.twins _ v (twins F cs g.P.Payload.same c.args.a c.args.b) c.compare-verdict.result true s.2 c.loop-f.invariant.7 ev (twin_at g.P.Payload.same F cs c.args.a c.args.b n c.in-Some.mine.now c.in-Some.theirs.now p.first p.second c.alike.result true c.if-alike.true c.alike.ensures) (sym (ap (λ w. cond (is_conflict w && true) (c.loop-f.twins + 1) c.loop-f.twins) q)),
      omega (arith, s.2),
    )

-- a file that is no twin
pub loop-f-preserved : goal.loop-f-preserved
loop-f-preserved g c =
    let F = c.args.sizes.files in
    let cs = c.args.copies.now in
    let n = c.loop-f.f-iterator.count in
    let v = judged g.C.Clock.meaning F cs c.args.a c.args.b in
    let t = twins F cs g.P.Payload.same c.args.a c.args.b in
    let s = c.in-Some.ensures.steps in
    let p = pair_of g.C.Clock.meaning F c.args.a c.args.b n c.next.new.self.count cs c.loop-f.f-iterator.iter.a.rest.now c.loop-f.f-iterator.iter.b.rest.now c.next.new.self.iter.a.rest.now c.next.new.self.iter.b.rest.now c.in-Some.mine.now c.in-Some.theirs.now s.2 c.loop-f.invariant.2 c.loop-f.invariant.3 s.0.0 s.0.1 in
    let go = c.in-Some.ensures.goes.on c.loop-f.invariant.1 in
    let ev = p.verdict c.compare-verdict.result c.compare-verdict.ensures in (
      go.0,
      go.1,
      p.first_left,
      p.second_left,
      omega (arith, s.2, p.below),
      told_more n c.next.new.self.count c.in-Some.f v c.args.bytes.now c.loop-f.bytes c.into.result c.compare-verdict.result s.1 s.2 (omega arith) c.loop-f.invariant.5 c.into.ensures ev,
      told_length c.args.bytes.now c.loop-f.bytes c.in-Some.f c.into.result c.loop-f.invariant.6,
      elim c.else-eq.branch [
        | else-eq-via-then-eq+else-alike w ↦ twins_more n c.next.new.self.count c.loop-f.twins _ v t c.compare-verdict.result false s.2 c.loop-f.invariant.7 ev (twin_at g.P.Payload.same F cs c.args.a c.args.b n c.in-Some.mine.now c.in-Some.theirs.now p.first p.second w.alike.result false w.if-alike.false w.alike.ensures) (sym (and_no _ _ _))
        | else-eq-via-else-eq w ↦ twins_more n c.next.new.self.count c.loop-f.twins _ v t c.compare-verdict.result (t n) s.2 c.loop-f.invariant.7 ev refl (sym (ap (λ b. cond (b && t n) (c.loop-f.twins + 1) c.loop-f.twins) (is_not_conflict c.compare-verdict.result (search rules))))
      ],
      omega (arith, s.2),
    )

pub returns : goal.returns
returns g c =
    let F = c.args.sizes.files in
    let cs = c.args.copies.now in
    let n = c.loop-f.f-iterator.count in
    let v = judged g.C.Clock.meaning F cs c.args.a c.args.b in
    let t = twins F cs g.P.Payload.same c.args.a c.args.b in
    let over = ⊎_elim
    (λ z. none_left F (c.args.a * F) n cs _ c.loop-f.invariant.2 z.1.0 (omega arith))
    (λ z. none_left F (c.args.b * F) n cs _ c.loop-f.invariant.3 z.1.0 (omega arith))
    c.in-None.ensures.steps.0 in
    let e : n ≡ F = omega (arith, over) in
    let told = told_all F n v c.args.bytes.now c.loop-f.bytes e c.loop-f.invariant.5 in
    let room = c.requires.ready.1 in
    let equal = counts_told F v c.args.bytes.now room Equal is_equal told_equal _ c.count_verdict-equal.result told c.count_verdict-equal.ensures in
    let stale = counts_told F v c.args.bytes.now room Stale is_stale told_stale _ c.count_verdict-stale.result told c.count_verdict-stale.ensures in
    let ahead = counts_told F v c.args.bytes.now room Ahead is_ahead told_ahead _ c.count_verdict-ahead.result told c.count_verdict-ahead.ensures in
    let conflicts = counts_told F v c.args.bytes.now room Conflict is_conflict told_conflict _ c.count_verdict-conflicts.result told c.count_verdict-conflicts.ensures in
    let twinned = c.loop-f.invariant.7 ∙ ap (λ k. count k (λ f. is_conflict (v f) && t f)) e in
    record {
      bytes = told;
      counts = λ k. (equal k, stale k, ahead k, conflicts k, twinned k);
    }
