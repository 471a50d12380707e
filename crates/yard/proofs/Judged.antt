-- judge's result.
use Rattle.std.proofs.Common.{◌≡◌, ℕ, ◌+◌, ◌*◌, List, [], Some, Ok, ap, ◌∙◌}
use Rattle.std.specs.List.{slice_get}
use Rattle.clock.specs.declared.verdicts.Verdict.{Verdict}
use Rattle.clock.specs.Meaning.{Meaning}
use Rattle.yard_rules.specs.declared.tables.Berth.{Berth}
use Rattle.yard_rules.specs.declared.tables.Record.{Record}
use Rattle.yard_rules.specs.Tables.{Card, against}
use Rattle.yard_rules.specs.Checks.{outcome}
use Rattle.yard_rules.specs.Judge.{judge_checks, judge_result}
use Rattle.yard.specs.Passing.{all_pass}
use Rattle.yard.proofs.Outcomes.{passed_first, accepted}
use Rattle.yard.proofs.Verdicts.{verdict_read}

pub judge_done : {Pen C P : Type 0} (m : Meaning Pen C) (card : Card) (bs : List (Berth Pen)) (cs : List (Record C P)) (a b f i j : ℕ) (x z : Record C P) (v : Verdict) → Ok tt ≡ all_pass (judge_checks card bs cs a b f) → i ≡ a * card.files + f → j ≡ b * card.files + f → slice_get cs i ≡ Some x → slice_get cs j ≡ Some z → v ≡ against m x.clock z.clock → outcome (Ok v) bs cs [] ≡ judge_result m card bs cs a b f
judge_done m card bs cs a b f i j x z v p ei ej ex ez ev =
    ap (λ (w : Verdict). outcome (Ok w) bs cs []) (ev ∙ verdict_read m card.files cs a b f i j x z ei ej ex ez) ∙ accepted bs cs [] _ _ (passed_first (judge_checks card bs cs a b f) p)
