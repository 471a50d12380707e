-- What a well-made id and a well-made event tree are.
use Rattle.std.proofs.Common.{◌≡◌, ◌≤◌, min, Bool, true, false, not, ◌&&◌, eqb, leb, refl, eq-eqb, eqb-true, le-leb, leb-true}
use Rattle.std.proofs.lemmas.Bool.{and_parts, and_from, not-true, not_from_false, both_ways}
use Rattle.tree_rules.specs.Ids.{Id, off, on, pair, id_size, id_depth, is_off, is_on, normal_id, NormalId}
use Rattle.tree_rules.specs.Events.{Event, leaf, node, size, depth, low, top, twins, Normal, normal}
use Rattle.tree_rules.specs.Kind.{id_made, event_made}

-- a test of two that is no, as a fact
pub nand_yes : (x y : Bool) → not (x && y) ≡ true → x ≡ true → y ≡ true → ⊥
nand_yes x y h p q = both_ways (x && y) (not-true (x && y) h) (and_from x y p q)

pub yes_nand : (x y : Bool) → (x ≡ true → y ≡ true → ⊥) → not (x && y) ≡ true
yes_nand true true h = absurd (h refl refl)
yes_nand true false h = refl
yes_nand false y h = refl

pub normal_yes : (e : Event) → normal e ≡ true → Normal e
normal_yes (leaf n) h = tt
normal_yes (node n l r) h =
    let p = and_parts (eqb (min (low l) (low r)) 0) _ h in
    let q = and_parts (not (twins l r)) _ p.1 in
    let t = and_parts (normal l) _ q.1 in
    (eqb-true (min (low l) (low r)) 0 p.0, not-true (twins l r) q.0, normal_yes l t.0, normal_yes r t.1)

pub yes_normal : (e : Event) → Normal e → normal e ≡ true
yes_normal (leaf n) h = refl
yes_normal (node n l r) (z, t, p, q) =
    and_from (eqb (min (low l) (low r)) 0) _ (eq-eqb (min (low l) (low r)) 0 z)
    (and_from (not (twins l r)) _ (not_from_false (twins l r) t) (and_from (normal l) _ (yes_normal l p) (yes_normal r q)))

pub normal_id_yes : (i : Id) → normal_id i ≡ true → NormalId i
normal_id_yes off h = tt
normal_id_yes on h = tt
normal_id_yes (pair l r) h =
    let p = and_parts (not (is_off l && is_off r)) _ h in
    let q = and_parts (not (is_on l && is_on r)) _ p.1 in
    let t = and_parts (normal_id l) _ q.1 in
    (nand_yes (is_off l) (is_off r) p.0, nand_yes (is_on l) (is_on r) q.0, normal_id_yes l t.0, normal_id_yes r t.1)

pub yes_normal_id : (i : Id) → NormalId i → normal_id i ≡ true
yes_normal_id off h = refl
yes_normal_id on h = refl
yes_normal_id (pair l r) (z, t, p, q) =
    and_from (not (is_off l && is_off r)) _ (yes_nand (is_off l) (is_off r) z)
    (and_from (not (is_on l && is_on r)) _ (yes_nand (is_on l) (is_on r) t) (and_from (normal_id l) _ (yes_normal_id l p) (yes_normal_id r q)))

pub made_event : (e : Event) → event_made e ≡ true → Normal e × (depth e ≤ 12) × (size e ≤ 63) × (top e ≤ 65535)
made_event e h =
    let p = and_parts (normal e) _ h in
    let q = and_parts (leb (depth e) 12) _ p.1 in
    let t = and_parts (leb (size e) 63) _ q.1 in
    (normal_yes e p.0, leb-true _ _ q.0, leb-true _ _ t.0, leb-true _ _ t.1)

pub event-from : (e : Event) → Normal e → depth e ≤ 12 → size e ≤ 63 → top e ≤ 65535 → event_made e ≡ true
event-from e n d s t =
    and_from (normal e) _ (yes_normal e n)
    (and_from (leb (depth e) 12) _ (le-leb _ _ d) (and_from (leb (size e) 63) _ (le-leb _ _ s) (le-leb _ _ t)))

pub made_id : (i : Id) → id_made i ≡ true → NormalId i × (id_depth i ≤ 12) × (id_size i ≤ 63)
made_id i h =
    let p = and_parts (normal_id i) _ h in
    let q = and_parts (leb (id_depth i) 12) _ p.1 in
    (normal_id_yes i p.0, leb-true _ _ q.0, leb-true _ _ q.1)

pub id_from : (i : Id) → NormalId i → id_depth i ≤ 12 → id_size i ≤ 63 → id_made i ≡ true
id_from i n d s = and_from (normal_id i) _ (yes_normal_id i n) (and_from (leb (id_depth i) 12) _ (le-leb _ _ d) (le-leb _ _ s))
