use Rattle.std.proofs.Common.{◌∙◌}
use Rattle.season_log.proofs.Unread.{told, number_unread, payload_unread}
use Rattle.season_log.proofs.reading.spelled_call.Goals as goal

pub returns-in_err-numbers-clause-refused : goal.returns-in_err-numbers-clause-refused
returns-in_err-numbers-clause-refused g c =
    told c.from_residual.result _ _ c.from_residual.ensures.1
    (number_unread {P = g.row.P.Denot} g.P.FromStr.from_str_gives _ _ _ _ c.in-Some.ensures.found (c.if-arguments-word_count.false ∙ c.word_count.ensures) _ _ c.split_at.ensures.front c.in_err-numbers.ensures.refused)

pub returns-in_err-read_payload-in-len1-clause-refused : goal.returns-in_err-read_payload-in-len1-clause-refused
returns-in_err-read_payload-in-len1-clause-refused g c =
    told c.from_residual-in_err-read_payload-in-len1.result _ _ c.from_residual-in_err-read_payload-in-len1.ensures.1
    (payload_unread {P = g.row.P.Denot} g.P.FromStr.from_str_gives _ _ _ _ c.in-Some.ensures.found (c.if-arguments-word_count.false ∙ c.word_count.ensures) _ _ _ _ _ c.split_at.ensures.front c.split_at.ensures.back c.in-len1.len_at_least c.in_ok-numbers.ensures.read
    c.in_err-read_payload-in-len1.ensures.refused)
