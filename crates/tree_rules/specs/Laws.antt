-- What is shown of the rules, beside that they make a sound clock kind.
--
-- CanonicalTrees    trees in normal form with the same value at every place are one tree
-- CanonicalIds      ids in normal form that are 1 at the same places are one id
use Rattle.std.specs.Prelude.{◌≡◌, ℕ, ◌^◌, ◌<◌, ◌≤◌}
use Rattle.tree_rules.specs.Ids.{Id, owns, id_depth, NormalId}
use Rattle.tree_rules.specs.Events.{Event, value, depth, Normal}

abbrev pub CanonicalTrees : Type 0
CanonicalTrees =
    (h : ℕ) (e f : Event) → Normal e → Normal f → depth e ≤ h → depth f ≤ h →
    ((x : ℕ) → x < 2 ^ h → value e h x ≡ value f h x) → e ≡ f

abbrev pub CanonicalIds : Type 0
CanonicalIds =
    (h : ℕ) (i j : Id) → NormalId i → NormalId j → id_depth i ≤ h → id_depth j ≤ h →
    ((x : ℕ) → x < 2 ^ h → owns i h x ≡ owns j h x) → i ≡ j
