-- Where fill changes nothing, the cost of growing tells the size of the grown tree: two nodes more for each 1,000.
use Rattle.std.proofs.Common.{◌≡◌, ℕ, ◌+◌, ◌*◌, ◌/◌, ◌<◌, ◌≤◌, true, false, cond, refl, ap, arith}
use Rattle.std.proofs.lemmas.Bool.{true≢false}
use Rattle.tree_rules.specs.Ids.{Id, off, on, pair, is_off, id_depth, NormalId}
use Rattle.tree_rules.specs.Events.{Event, leaf, node, size, lo, hi}
use Rattle.tree_rules.specs.Fill.{fill}
use Rattle.tree_rules.specs.Grow.{extra, cost, grow}
use Rattle.tree_rules.proofs.Stills.{still}
use Rattle.tree_rules.proofs.Grows.{grown_at}
use Rattle.tree_rules.proofs.Growing.{chosen}

-- leaves are split k times, and the grown leaf is m deep
abbrev Splits : Id → ℕ → Event → Event → Type 0
Splits i c e g = (k : ℕ) × (m : ℕ) × (c ≡ 1000 * k + m) × (m ≤ id_depth i) × (size g ≡ size e + 2 * k)

-- one step up, from a branch a of e beside b to a tree g of the grown branch and b
step_up : (i j : Id) (c : ℕ) (e a b a' g : Event) → id_depth i + 1 ≤ id_depth j → size e + 2 * (extra e / 1000) ≡ 1 + (size a + size b) → size g ≡ 1 + (size a' + size b) → Splits i c a a' → Splits j (c + 1 + extra e) e g
step_up i j c (leaf n) a b a' g d s t (k, m, p, q, w) = (k + 1, m + 1, omega arith, omega arith, omega arith)
step_up i j c (node n x y) a b a' g d s t (k, m, p, q, w) = (k, m + 1, omega arith, omega arith, omega arith)

branches : (e : Event) → size e + 2 * (extra e / 1000) ≡ 1 + (size (lo e) + size (hi e))
branches (leaf n) = refl
branches (node n l r) = omega arith

splits : (i : Id) (e : Event) → NormalId i → is_off i ≡ false → fill i e ≡ e → Splits i (cost i e) e (grow i e)
unfolding cost grow
splits off e d f w = absurd (true≢false f)
splits on e d f w = (0, 0, refl, omega arith, omega (arith, ap size w))
splits (pair l r) e d f w =
    let S = still l r e d.1 w in
    let B = branches e in
    chosen (λ t. Splits (pair l r) (cond t (cost l (lo e)) (cost r (hi e)) + 1 + extra e) e (grown_at l r e t)) l r e d
    (λ z. step_up l (pair l r) (cost l (lo e)) e (lo e) (hi e) (grow l (lo e)) (grown_at l r e true) (omega arith) B refl (splits l (lo e) d.2 z S.lower))
    (λ z. step_up r (pair l r) (cost r (hi e)) e (hi e) (lo e) (grow r (hi e)) (grown_at l r e false) (omega arith) (omega arith) (omega arith) (splits r (hi e) d.3 z S.upper))

pub size-from-cost : (i : Id) (e : Event) → NormalId i → is_off i ≡ false → fill i e ≡ e → id_depth i < 1000 → size (grow i e) ≡ size e + 2 * (cost i e / 1000)
size-from-cost i e d f w h =
    let S = splits i e d f w in
    omega (arith, S.2, S.3, S.4)
