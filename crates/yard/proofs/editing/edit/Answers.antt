use Rattle.std.proofs.Common.{rules, get_or, Err, ap, ◌∙◌}
use Rattle.std.proofs.lemmas.Option.{slice_get-get_or}
use Rattle.std.proofs.lemmas.Result.{err_from_is_err_and}
use Rattle.yard_rules.specs.Edit.{edit_result}
use Rattle.yard_rules.specs.Edit.{edit_call}
use Rattle.yard.proofs.Clauses.{made_from, lawful_from, any}
use Rattle.yard.proofs.Edited.{edit_barred, edit_denied, edit_done}
use Rattle.yard.proofs.editing.edit.Goals as goal

pub returns-in_err-check_copy-clause-history : goal.returns-in_err-check_copy-clause-history
returns-in_err-check_copy-clause-history g c =
    let m = g.C.Clock.meaning in
    let bs = c.args.berths.now in
    let cs = c.args.copies.now in
    let p = err_from_is_err_and c.from_residual.result c.from_residual.ensures.1 in
    let e = edit_barred m c.sizes-sizes.result bs cs c.args.a c.args.f c.args.payload c.in_err-check_copy.field-0.0 c.from_residual.result c.in_err-check_copy.ensures (p.1 ∙ ap Err p.2)
    ∙ (λ k. edit_result m (c.sizes-sizes.ensures k) bs cs c.args.a c.args.f c.args.payload) in
    λ alike. lawful_from m g.met.C.Clock.sound alike (edit_call c.args.card.now c.args.a c.args.f c.args.payload) bs cs _ e

pub event-requires : goal.event-requires
event-requires g c = (
  c.requires.made.clocks _ _ (slice_get-get_or c.args.copies.now c.place-i.result c.index-copies-i.result (search rules)),
  c.requires.made.pens _ _ (slice_get-get_or c.args.berths.now c.args.a c.index-berths-a.result (search rules)),
)

pub returns-in_err-clock : goal.returns-in_err-clock
returns-in_err-clock g c =
    let m = g.C.Clock.meaning in
    let bs = c.args.berths.now in
    let cs = c.args.copies.now in
    let call = edit_call c.args.card.now c.args.a c.args.f c.args.payload in
    let p = err_from_is_err_and c.from_residual-in_err-clock.result c.from_residual-in_err-clock.ensures.1 in
    let e = edit_denied m c.sizes-sizes.result bs cs c.args.a c.args.f c.args.payload c.place-i.result (get_or bs c.args.a c.index-berths-a.result) (get_or cs c.place-i.result c.index-copies-i.result) c.in_ok-check_copy.ensures c.place-i.ensures.is (slice_get-get_or bs c.args.a c.index-berths-a.result (search rules)) (slice_get-get_or cs c.place-i.result c.index-copies-i.result (search rules)) c.event.result c.event.ensures c.in_err-clock.field-0.0 c.from_residual-in_err-clock.result c.in_err-clock.ensures (p.1 ∙ ap Err p.2)
    ∙ (λ k. edit_result m (c.sizes-sizes.ensures k) bs cs c.args.a c.args.f c.args.payload) in
    record {
      result = e;
      made = c.requires.made;
      history = λ alike. lawful_from m g.met.C.Clock.sound alike call bs cs _ e;
    }

pub returns : goal.returns
returns g c =
    let m = g.C.Clock.meaning in
    let bs = c.args.berths.now in
    let cs = c.args.copies.now in
    let call = edit_call c.args.card.now c.args.a c.args.f c.args.payload in
    let e = edit_done m c.sizes-sizes.result bs cs c.args.a c.args.f c.args.payload c.place-i.result (get_or bs c.args.a c.index-berths-a.result) (get_or cs c.place-i.result c.index-copies-i.result) c.in_ok-check_copy.ensures c.place-i.ensures.is (slice_get-get_or bs c.args.a c.index-berths-a.result (search rules)) (slice_get-get_or cs c.place-i.result c.index-copies-i.result (search rules)) c.event.result c.event.ensures c.in_ok-clock.clock c.in_ok-clock.ensures
    ∙ (λ k. edit_result m (c.sizes-sizes.ensures k) bs cs c.args.a c.args.f c.args.payload) in
    record {
      result = e;
      made = made_from m g.met.C.Clock.sound any call bs cs _ e c.requires.made;
      history = λ alike. lawful_from m g.met.C.Clock.sound alike call bs cs _ e;
    }
