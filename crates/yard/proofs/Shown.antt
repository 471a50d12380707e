-- show's result.
use Rattle.std.proofs.Common.{◌≡◌, ℕ, ◌+◌, ◌*◌, List, [], Some, Ok, sym, ◌∙◌, subst}
use Rattle.std.specs.List.{slice_get}
use Rattle.clock.specs.Meaning.{Meaning}
use Rattle.yard_rules.specs.declared.tables.Berth.{Berth}
use Rattle.yard_rules.specs.declared.tables.Record.{Record}
use Rattle.yard_rules.specs.Tables.{Card, pen_in, clock_in}
use Rattle.yard_rules.specs.Checks.{outcome}
use Rattle.yard_rules.specs.Show.{show_checks, show_result}
use Rattle.yard.specs.Passing.{all_pass}
use Rattle.yard.proofs.Outcomes.{passed_first, accepted}

pub show_done : {Pen C P : Type 0} (m : Meaning Pen C) (card : Card) (bs : List (Berth Pen)) (cs : List (Record C P)) (a f i : ℕ) (x : Berth Pen) (r : Record C P) → Ok tt ≡ all_pass (show_checks card bs cs a f) → i ≡ a * card.files + f → slice_get bs a ≡ Some x → slice_get cs i ≡ Some r → outcome (Ok (x.pen, r.clock)) bs cs [] ≡ show_result m card bs cs a f
show_done m card bs cs a f i x r p ei ex er =
    let er' : slice_get cs (a * card.files + f) ≡ Some r = subst (λ n. slice_get cs n ≡ Some r) ei er in
    (λ k. outcome (Ok (pen_in m (sym ex k), clock_in m (sym er' k))) bs cs []) ∙ accepted bs cs [] _ _ (passed_first (show_checks card bs cs a f) p)
