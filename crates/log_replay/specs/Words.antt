-- The words of a line.
--
-- WordsThen text ws rest   the words stand in the text one after the other, with white space before
--                          each and none in it; rest is left, and does not go on with the last of
--                          them
-- IsWords text ws          these are all the words of the text
-- begins_remark w          the word begins with #
use Rattle.std.specs.Prelude.{◌≡◌, ◌<◌, ◌==◌, Bool, false, ℕ, List, [], ◌∷◌, ◌++◌, length}
use Rattle.std.specs.Char.{is_whitespace, is_not_whitespace}
use Rattle.std.specs.Str.{NoCharPasses, EmptyOrStartsWithPassing}
use Rattle.season_log.specs.Words.{Word}

abbrev pub WordsThen : List ℕ → List Word → List ℕ → Type 0
WordsThen text [] rest = text ≡ rest
WordsThen text (w ∷ ws) rest =
    (gap : List ℕ) × (more : List ℕ) × (text ≡ gap ++ (w.now ++ more)) × (0 < length w.now) ×
    NoCharPasses is_not_whitespace gap × NoCharPasses is_whitespace w.now ×
    ((after : List ℕ) × EmptyOrStartsWithPassing is_whitespace more after) ×
    WordsThen more ws rest

abbrev pub IsWords : List ℕ → List Word → Type 0
IsWords text ws = (rest : List ℕ) × WordsThen text ws rest × NoCharPasses is_not_whitespace rest

abbrev pub begins_remark : List ℕ → Bool
begins_remark [] = false
begins_remark (b ∷ bs) = b == 35
