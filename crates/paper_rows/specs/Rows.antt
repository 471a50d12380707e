-- The check of all worked examples.
--
-- all_hold t rows    the test t says yes of every row
-- all_rows_hold          every example of every subject holds
use Rattle.std.specs.Prelude.{Bool, true, ◌&&◌, List, [], ◌∷◌}
use Rattle.tree_rules.specs.Events.{same}
use Rattle.tree_rules.specs.Kind.{tree}
use Rattle.vector_clock.specs.Vectors.{vectors}
use Rattle.paper_rows.specs.TreeRows.{tree_rows, tree_row_holds, same_id}
use Rattle.paper_rows.specs.YardRows.{yard_holds, tree_course, vector_course, same_names, same_counts}

abbrev pub all_hold : {Row : Type 0} → (Row → Bool) → List Row → Bool
all_hold test [] = true
all_hold test (row ∷ rows) = test row && all_hold test rows

abbrev pub all_rows_hold : Bool
all_rows_hold =
    all_hold tree_row_holds tree_rows
    && (yard_holds tree same_id same tree_course
    && yard_holds vectors same_names same_counts vector_course)
