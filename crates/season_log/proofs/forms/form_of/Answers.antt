use Rattle.std.proofs.Common.{rules}
use Rattle.season_log.specs.Rows.{calls}
use Rattle.season_log.proofs.forms.form_of.Goals as goal

pub returns-clause-found : goal.returns-clause-found
returns-clause-found c = c.form_among.ensures.known calls (search rules)
