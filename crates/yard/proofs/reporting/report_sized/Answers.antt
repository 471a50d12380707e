use Rattle.std.proofs.Common.{Err, ap, ◌∙◌}
use Rattle.std.proofs.lemmas.Result.{err_from_is_err_and}
use Rattle.yard_rules.specs.Report.{report_checks}
use Rattle.yard.proofs.Outcomes.{refused_first, refused}
use Rattle.yard.proofs.reporting.report_sized.Goals as goal

pub returns-in_err-check_report : goal.returns-in_err-check_report
returns-in_err-check_report g c =
    let p = err_from_is_err_and c.from_residual.result c.from_residual.ensures.1 in
    refused c.args.berths.now c.args.copies.now c.args.bytes.now _ _ c.in_err-check_report.field-0.0 c.from_residual.result (refused_first (report_checks c.args.sizes c.args.berths.now c.args.copies.now c.args.a c.args.b c.args.bytes.now) _ c.in_err-check_report.ensures) (p.1 ∙ ap Err p.2)
