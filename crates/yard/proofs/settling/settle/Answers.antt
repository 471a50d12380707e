use Rattle.std.proofs.Common.{get_or, rules, Err, ap, ◌∙◌}
use Rattle.std.proofs.lemmas.Option.{slice_get-get_or}
use Rattle.std.proofs.lemmas.Result.{err_from_is_err_and}
use Rattle.yard_rules.specs.Settle.{settle_result}
use Rattle.yard_rules.specs.Settle.{settle_call}
use Rattle.yard.proofs.Clauses.{made_from, lawful_from, any}
use Rattle.yard.proofs.Settled.{settle_barred, conflict_denied, join_denied, joined_made, settle_denied, settle_done}
use Rattle.yard.proofs.settling.settle.Goals as goal

pub returns-in_err-check_settle-clause-history : goal.returns-in_err-check_settle-clause-history
returns-in_err-check_settle-clause-history g c =
    let m = g.C.Clock.meaning in
    let bs = c.args.berths.now in
    let cs = c.args.copies.now in
    let p = err_from_is_err_and c.from_residual.result c.from_residual.ensures.1 in
    let e = settle_barred m c.sizes-sizes.result bs cs c.args.a c.args.b c.args.f c.args.payload c.in_err-check_settle.field-0.0 c.from_residual.result c.in_err-check_settle.ensures (p.1 ∙ ap Err p.2)
    ∙ (λ k. settle_result m (c.sizes-sizes.ensures k) bs cs c.args.a c.args.b c.args.f c.args.payload) in
    λ alike. lawful_from m g.met.C.Clock.sound alike (settle_call c.args.card.now c.args.a c.args.b c.args.f c.args.payload) bs cs _ e

pub compare-requires : goal.compare-requires
compare-requires g c = (
  c.requires.made.clocks _ _ (slice_get-get_or c.args.copies.now c.place-i.result c.index-copies-i.result (search rules)),
  c.requires.made.clocks _ _ (slice_get-get_or c.args.copies.now c.place-j.result c.index-copies-j.result (search rules)),
)

pub returns-in_err-check_conflict : goal.returns-in_err-check_conflict
returns-in_err-check_conflict g c =
    let m = g.C.Clock.meaning in
    let bs = c.args.berths.now in
    let cs = c.args.copies.now in
    let p = err_from_is_err_and c.from_residual-in_err-check_conflict.result c.from_residual-in_err-check_conflict.ensures.1 in
    let e = conflict_denied m c.sizes-sizes.result bs cs c.args.a c.args.b c.args.f c.args.payload c.in_ok-check_settle.ensures c.place-i.result c.place-j.result (get_or cs c.place-i.result c.index-copies-i.result) (get_or cs c.place-j.result c.index-copies-j.result) c.place-i.ensures.is c.place-j.ensures.is (slice_get-get_or cs c.place-i.result c.index-copies-i.result (search rules)) (slice_get-get_or cs c.place-j.result c.index-copies-j.result (search rules)) c.compare.result c.compare.ensures c.in_err-check_conflict.field-0.0 c.from_residual-in_err-check_conflict.result c.in_err-check_conflict.ensures (p.1 ∙ ap Err p.2)
    ∙ (λ k. settle_result m (c.sizes-sizes.ensures k) bs cs c.args.a c.args.b c.args.f c.args.payload) in
    record {
      result = e;
      made = c.requires.made;
      history = λ alike. lawful_from m g.met.C.Clock.sound alike (settle_call c.args.card.now c.args.a c.args.b c.args.f c.args.payload) bs cs _ e;
    }

pub join-requires : goal.join-requires
join-requires g c = (
  c.requires.made.clocks _ _ (slice_get-get_or c.args.copies.now c.place-i.result c.index-copies-i.result (search rules)),
  c.requires.made.clocks _ _ (slice_get-get_or c.args.copies.now c.place-j.result c.index-copies-j.result (search rules)),
)

pub returns-in_err-joined : goal.returns-in_err-joined
returns-in_err-joined g c =
    let m = g.C.Clock.meaning in
    let bs = c.args.berths.now in
    let cs = c.args.copies.now in
    let p = err_from_is_err_and c.from_residual-in_err-joined.result c.from_residual-in_err-joined.ensures.1 in
    let e = join_denied m c.sizes-sizes.result bs cs c.args.a c.args.b c.args.f c.args.payload c.in_ok-check_settle.ensures c.place-i.result c.place-j.result (get_or cs c.place-i.result c.index-copies-i.result) (get_or cs c.place-j.result c.index-copies-j.result) c.place-i.ensures.is c.place-j.ensures.is (slice_get-get_or cs c.place-i.result c.index-copies-i.result (search rules)) (slice_get-get_or cs c.place-j.result c.index-copies-j.result (search rules)) c.compare.result c.compare.ensures c.in_ok-check_conflict.ensures c.join.result c.join.ensures c.in_err-joined.field-0.0 c.from_residual-in_err-joined.result c.in_err-joined.ensures (p.1 ∙ ap Err p.2)
    ∙ (λ k. settle_result m (c.sizes-sizes.ensures k) bs cs c.args.a c.args.b c.args.f c.args.payload) in
    record {
      result = e;
      made = c.requires.made;
      history = λ alike. lawful_from m g.met.C.Clock.sound alike (settle_call c.args.card.now c.args.a c.args.b c.args.f c.args.payload) bs cs _ e;
    }

pub event-requires : goal.event-requires
event-requires g c =
    let m = g.C.Clock.meaning in
    let bs = c.args.berths.now in
    let cs = c.args.copies.now in (
      joined_made m c.sizes-sizes.result bs cs c.args.a c.args.b c.args.f c.args.payload c.in_ok-check_settle.ensures c.place-i.result c.place-j.result (get_or cs c.place-i.result c.index-copies-i.result) (get_or cs c.place-j.result c.index-copies-j.result) c.place-i.ensures.is c.place-j.ensures.is (slice_get-get_or cs c.place-i.result c.index-copies-i.result (search rules)) (slice_get-get_or cs c.place-j.result c.index-copies-j.result (search rules)) c.compare.result c.compare.ensures c.in_ok-check_conflict.ensures c.join.result c.join.ensures c.in_ok-joined.joined c.in_ok-joined.ensures g.met.C.Clock.sound c.requires.made.clocks,
      c.requires.made.pens _ _ (slice_get-get_or bs c.args.b c.index-berths-b.result (search rules)),
    )

pub returns-in_err-clock : goal.returns-in_err-clock
returns-in_err-clock g c =
    let m = g.C.Clock.meaning in
    let bs = c.args.berths.now in
    let cs = c.args.copies.now in
    let p = err_from_is_err_and c.from_residual-in_err-clock.result c.from_residual-in_err-clock.ensures.1 in
    let e = settle_denied m c.sizes-sizes.result bs cs c.args.a c.args.b c.args.f c.args.payload c.in_ok-check_settle.ensures c.place-i.result c.place-j.result (get_or cs c.place-i.result c.index-copies-i.result) (get_or cs c.place-j.result c.index-copies-j.result) c.place-i.ensures.is c.place-j.ensures.is (slice_get-get_or cs c.place-i.result c.index-copies-i.result (search rules)) (slice_get-get_or cs c.place-j.result c.index-copies-j.result (search rules)) c.compare.result c.compare.ensures c.in_ok-check_conflict.ensures c.join.result c.join.ensures c.in_ok-joined.joined c.in_ok-joined.ensures (get_or bs c.args.b c.index-berths-b.result) (slice_get-get_or bs c.args.b c.index-berths-b.result (search rules)) c.event.result c.event.ensures c.in_err-clock.field-0.0 c.from_residual-in_err-clock.result c.in_err-clock.ensures (p.1 ∙ ap Err p.2)
    ∙ (λ k. settle_result m (c.sizes-sizes.ensures k) bs cs c.args.a c.args.b c.args.f c.args.payload) in
    record {
      result = e;
      made = c.requires.made;
      history = λ alike. lawful_from m g.met.C.Clock.sound alike (settle_call c.args.card.now c.args.a c.args.b c.args.f c.args.payload) bs cs _ e;
    }

pub returns : goal.returns
returns g c =
    let m = g.C.Clock.meaning in
    let bs = c.args.berths.now in
    let cs = c.args.copies.now in
    let e = settle_done m c.sizes-sizes.result bs cs c.args.a c.args.b c.args.f c.args.payload c.in_ok-check_settle.ensures c.place-i.result c.place-j.result (get_or cs c.place-i.result c.index-copies-i.result) (get_or cs c.place-j.result c.index-copies-j.result) c.place-i.ensures.is c.place-j.ensures.is (slice_get-get_or cs c.place-i.result c.index-copies-i.result (search rules)) (slice_get-get_or cs c.place-j.result c.index-copies-j.result (search rules)) c.compare.result c.compare.ensures c.in_ok-check_conflict.ensures c.join.result c.join.ensures c.in_ok-joined.joined c.in_ok-joined.ensures (get_or bs c.args.b c.index-berths-b.result) (slice_get-get_or bs c.args.b c.index-berths-b.result (search rules)) c.event.result c.event.ensures c.in_ok-clock.clock c.in_ok-clock.ensures
    ∙ (λ k. settle_result m (c.sizes-sizes.ensures k) bs cs c.args.a c.args.b c.args.f c.args.payload) in
    record {
      result = e;
      made = made_from m g.met.C.Clock.sound any (settle_call c.args.card.now c.args.a c.args.b c.args.f c.args.payload) bs cs _ e c.requires.made;
      history = λ alike. lawful_from m g.met.C.Clock.sound alike (settle_call c.args.card.now c.args.a c.args.b c.args.f c.args.payload) bs cs _ e;
    }
