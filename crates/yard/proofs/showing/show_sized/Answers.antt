use Rattle.std.proofs.Common.{get_or, rules}
use Rattle.std.proofs.lemmas.Option.{slice_get-get_or}
use Rattle.yard.proofs.Shown.{show_done}
use Rattle.yard.proofs.showing.show_sized.Goals as goal

pub returns : goal.returns
returns g c =
    let bs = c.args.berths.now in
    let cs = c.args.copies.now in
    show_done g.C.Clock.meaning c.args.sizes bs cs c.args.a c.args.f c.place-i.result (get_or bs c.args.a c.index-berths-a.result) (get_or cs c.place-i.result c.index-copies-i.result)
    c.in_ok-check_copy.ensures c.place-i.ensures.is
    (slice_get-get_or bs c.args.a c.index-berths-a.result (search rules)) (slice_get-get_or cs c.place-i.result c.index-copies-i.result (search rules))
