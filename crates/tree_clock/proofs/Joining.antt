-- How `join_into` lays out a join.
use Rattle.std.proofs.Common.{◌≡◌, ℕ, ◌+◌, ◌-◌, ◌<◌, ◌≤◌, min, List, ◌∙◌, arith}
use Rattle.std.proofs.lemmas.Bool.{}
use Rattle.tree_rules.specs.Events.{Event, leaf, node, size, base, top, lo, hi, norm, Normal}
use Rattle.tree_rules.specs.Join.{join_up}
use Rattle.tree_rules.proofs.Norms.{size_pos, base-top, top-lo, top-hi}
use Rattle.tree_rules.proofs.Joins.{join_step, normal-join, size-join, top-join, sunk_le}
use Rattle.tree_clock.specs.declared.nodes.Node.{Node}
use Rattle.tree_clock.specs.Flat.{Laid, Stands}
use Rattle.tree_clock.proofs.Writing.{from_long, written_long}

pub ruleset joining = (from_long, written_long, size-join, size_pos)

pub branch_sizes : (e : Event) → size (lo e) + size (hi e) ≤ size e + 1
branch_sizes (leaf n) = omega arith
branch_sizes (node n l r) = omega arith

-- x and y are the roots' bases, and a to d the branches
module _ (e f : Event) (u v x y k : ℕ) (xe : x ≡ base e) (yf : y ≡ base f) (is : k ≡ min (x + u) (y + v)) (a b c d : Event) (al : a ≡ lo e) (bl : b ≡ lo f) (cu : c ≡ hi e) (du : d ≡ hi f) where
  abbrev L : Event
  L = join_up a (x + u - k) b (y + v - k)

  abbrev R : Event
  R = join_up c (x + u - k) d (y + v - k)

  module _ (o : List Node) (mid end : ℕ) (w : Laid o mid end L R) where
    pub close_given : u + top e ≤ 65535 → v + top f ≤ 65535 → size e + size f ≤ 1000 → (l r : Event) × Laid o mid end l r × Normal l × Normal r × (k + top l ≤ 65535) × (end ≤ 65535)
    close_given h j m =
        let p : x + u + top a ≤ 65535 = rw (xe, al) (omega (arith, top-lo e)) in
        let q : y + v + top b ≤ 65535 = rw (yf, bl) (omega (arith, top-lo f)) in
        let g = top-join a (x + u - k) b (y + v - k) (65535 - k) (sunk_le k _ _ _ (omega arith) p) (sunk_le k _ _ _ (omega arith) q) in
        let s : size a + size b + (size c + size d) ≤ 1002 = rw (al, bl, cu, du) (omega (arith, branch_sizes e, branch_sizes f)) in
        (L, R, w, normal-join a _ b _, normal-join c _ d _, omega (arith, g), omega (arith, w.3, w.4, size-join a (x + u - k) b (y + v - k), size-join c (x + u - k) d (y + v - k)))

    pub joined : 2 < size e + size f → (s : List Node) (m : ℕ) → ((l r : Event) → Laid o mid end l r → Normal l → Normal r → Stands s m (norm k l r)) → Stands s m (join_up e u f v)
    joined h s m z = rw (join_step e u f v h k (is ∙ rw (xe, yf)), ← xe, ← yf, ← al, ← bl, ← cu, ← du) (z L R w (normal-join a _ b _) (normal-join c _ d _))
