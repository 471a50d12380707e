use Rattle.std.proofs.Common.{get_or, rules}
use Rattle.std.proofs.lemmas.Option.{slice_get-get_or}
use Rattle.yard.proofs.Judged.{judge_done}
use Rattle.yard.proofs.judging.judge_sized.Goals as goal

pub compare-verdict-requires : goal.compare-verdict-requires
compare-verdict-requires g c =
    (c.requires.clocks c.place-i.result _ (slice_get-get_or c.args.copies.now c.place-i.result c.index-copies-i.result (search rules)), c.requires.clocks c.place-j.result _ (slice_get-get_or c.args.copies.now c.place-j.result c.index-copies-j.result (search rules)))

pub returns : goal.returns
returns g c =
    judge_done g.C.Clock.meaning c.args.sizes c.args.berths.now c.args.copies.now c.args.a c.args.b c.args.f c.place-i.result c.place-j.result (get_or c.args.copies.now c.place-i.result c.index-copies-i.result) (get_or c.args.copies.now c.place-j.result c.index-copies-j.result) c.compare-verdict.result
    c.in_ok-check_judge.ensures c.place-i.ensures.is c.place-j.ensures.is
    (slice_get-get_or c.args.copies.now c.place-i.result c.index-copies-i.result (search rules)) (slice_get-get_or c.args.copies.now c.place-j.result c.index-copies-j.result (search rules)) c.compare-verdict.ensures
