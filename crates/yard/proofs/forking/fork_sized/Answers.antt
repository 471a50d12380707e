use Rattle.std.proofs.Common.{[], get_or, set, Ok, Err, ap, ◌∙◌, arith}
use Rattle.std.proofs.lemmas.Option.{slice_get-get_or}
use Rattle.std.proofs.lemmas.Result.{err_from_is_err_and}
use Rattle.yard_rules.specs.Checks.{outcome}
use Rattle.yard.proofs.Checked.{fork_ready}
use Rattle.yard.proofs.Forked.{fork_denied, fork_done}
use Rattle.yard.proofs.forking.fork_sized.Goals as goal

pub returns-in_err-halves : goal.returns-in_err-halves
returns-in_err-halves g c =
    let p = err_from_is_err_and c.from_residual-in_err-halves.result c.from_residual-in_err-halves.ensures.1 in
    let card = c.args.sizes in
    let r = fork_ready card c.args.berths.now c.args.copies.now c.args.a c.args.b c.in_ok-check_fork.ensures in
    fork_denied g.C.Clock.meaning card c.args.berths.now c.args.copies.now c.args.a c.args.b c.in_ok-check_fork.ensures (get_or c.args.berths.now c.args.a c.index-berths-a.result) (slice_get-get_or c.args.berths.now c.args.a c.index-berths-a.result (omega arith)) c.fork.result c.fork.ensures c.in_err-halves.field-0.0 c.from_residual-in_err-halves.result c.in_err-halves.ensures (p.1 ∙ ap Err p.2)

pub returns : goal.returns
returns g c =
    let card = c.args.sizes in
    let r = fork_ready card c.args.berths.now c.args.copies.now c.args.a c.args.b c.in_ok-check_fork.ensures in
    (λ t. outcome (Ok tt) (set (set c.args.berths.now c.args.a (c.working.ensures t)) c.args.b (c.working-2.ensures t)) c.copy_files.new.copies [])
    ∙ fork_done g.C.Clock.meaning card c.args.berths.now c.args.copies.now c.args.a c.args.b c.in_ok-check_fork.ensures (get_or c.args.berths.now c.args.a c.index-berths-a.result) (slice_get-get_or c.args.berths.now c.args.a c.index-berths-a.result (omega arith)) c.fork.result c.fork.ensures c.in_ok-halves.halves c.copy_files.new.copies c.in_ok-halves.ensures c.copy_files.ensures
