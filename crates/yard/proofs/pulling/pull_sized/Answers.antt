use Rattle.std.proofs.Common.{Err, ap, ◌∙◌}
use Rattle.std.proofs.lemmas.Result.{err_from_is_err_and}
use Rattle.yard_rules.specs.Pull.{pull_checks, pulled}
use Rattle.yard.proofs.Checked.{pull_ready, of_card}
use Rattle.yard.proofs.Outcomes.{refused_first, refused}
use Rattle.yard.proofs.pulling.pull_sized.Goals as goal

pub returns-in_err-check_pull : goal.returns-in_err-check_pull
returns-in_err-check_pull g c =
    let p = err_from_is_err_and c.from_residual.result c.from_residual.ensures.1 in
    let card = c.args.sizes in
    refused c.args.berths.now c.args.copies.now c.args.bytes.now (pulled g.C.Clock.meaning card c.args.berths.now c.args.copies.now c.args.a c.args.b c.args.bytes.now) _ c.in_err-check_pull.field-0.0 c.from_residual.result (refused_first (pull_checks card c.args.berths.now c.args.copies.now c.args.a c.args.b c.args.bytes.now) _ c.in_err-check_pull.ensures) (p.1 ∙ ap Err p.2)

pub pull_files-requires : goal.pull_files-requires
pull_files-requires g c =
    let r = pull_ready c.args.sizes c.args.berths.now c.args.copies.now c.args.a c.args.b c.args.bytes.now c.in_ok-check_pull.ensures in
    record {
      ready = (of_card r.0, (r.1, r.2));
      made = c.requires.made.clocks;
    }
