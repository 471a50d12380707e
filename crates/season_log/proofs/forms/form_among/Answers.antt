use Rattle.season_log.proofs.Rows.{found}
use Rattle.season_log.proofs.forms.form_among.Goals as goal

pub returns-clause-known : goal.returns-clause-known
returns-clause-known c = found c.args.name.now c.args.forms.now c.first_form.result c.first_form.ensures
