-- The words of a text, one more at a time.
use Rattle.std.proofs.Common.{◌≡◌, ◌<◌, ℕ, List, [], ◌∷◌, ◌++◌, length, refl, sym, subst}
use Rattle.std.specs.Char.{is_whitespace, is_not_whitespace}
use Rattle.std.specs.Str.{NoCharPasses, EmptyOrStartsWithPassing}
use Rattle.season_log.specs.Words.{Word}
use Rattle.log_replay.specs.Words.{WordsThen}

-- what is said of one word that comes after the text, before `more`
abbrev pub Comes : List ℕ → Word → List ℕ → Type 0
Comes text w more =
    (gap : List ℕ) × (text ≡ gap ++ (w.now ++ more)) × (0 < length w.now) × NoCharPasses is_not_whitespace gap × NoCharPasses is_whitespace w.now × ((after : List ℕ) × EmptyOrStartsWithPassing is_whitespace more after)

pub one_more_word : (text : List ℕ) (ws : List Word) (mid : List ℕ) (w : Word) (rest : List ℕ) → WordsThen text ws mid → Comes mid w rest → WordsThen text (ws ++ w ∷ []) rest
one_more_word text [] mid w rest s n = subst (λ (t : List ℕ). WordsThen t (w ∷ []) rest) (sym s) (n.0, rest, n.1, n.2, n.3, n.4, n.5, refl)
one_more_word text (v ∷ ws) mid w rest s n = (s.0, s.1, s.2, s.3, s.4, s.5, s.6, one_more_word s.1 ws mid w rest s.7 n)
