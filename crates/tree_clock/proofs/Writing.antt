-- Two branches written one after the other behind a root's place.
use Rattle.std.proofs.Common.{◌≡◌, ℕ, zero, suc, ◌+◌, ◌-◌, ◌<◌, ◌≤◌, List, [], ◌∷◌, ◌++◌, length, take, drop, set, replicate, refl, sym, ap, ◌∙◌, ap₂, append-nil, le_of_eq, arith, length-append, length-drop, take-append-drop, length-take, drop_at, take_all}
use borrow.Rule.Slice.PartMut.{put_mid}
use Rattle.std.proofs.lemmas.List.{drop_all, drop-drop}
use Rattle.tree_rules.specs.Events.{Event}
use Rattle.tree_rules.proofs.Norms.{size_pos}
use Rattle.tree_rules.proofs.Shapes.{size-shape}
use Rattle.tree_clock.specs.declared.nodes.Node.{Node}
use Rattle.tree_clock.specs.Flat.{flat, filler, pad, stored, Laid, Stands}
use Rattle.tree_clock.specs.FlatForm.{flat_length}

-- the part of o from j on, and what a write of ys to it leaves
abbrev pub from : ℕ → List Node → List Node
from j o = take (length o - j) (drop j o)

abbrev pub written : List Node → ℕ → List Node → List Node
written o j ys = put_mid j (length o - j) o ys

pub from_long : (o : List Node) (j : ℕ) → length (from j o) ≡ length o - j
from_long o j = omega (arith, length-take (length o - j) (drop j o), length-drop j o)

written_is : (o ys : List Node) (j : ℕ) → written o j ys ≡ take j o ++ ys
written_is o ys j = ap {B = List Node} (λ s. take j o ++ s) (ap {B = List Node} (λ s. ys ++ s) (drop_all (length o - j) (drop j o) (le_of_eq (length-drop j o))) ∙ append-nil ys)

pub written_long : (o ys : List Node) (j : ℕ) → j ≤ length o → length ys ≡ length (from j o) → length (written o j ys) ≡ length o
written_long o ys j h k = ap length (written_is o ys j) ∙ omega (arith, length-append (take j o) ys, length-take j o, k, from_long o j)

-- after the lower branch is written behind the root's place, and the upper behind it
abbrev pub both : List Node → List Node → ℕ → List Node → List Node
both o ys n zs = written (written o 1 ys) (1 + n) zs

pub laid : (o ys zs : List Node) (n n' : ℕ) (L R : Event) → 0 < length o → Stands ys n L → Stands zs n' R → Laid (both o ys n zs) (1 + n) (1 + n + n') L R
laid [] ys zs n n' L R h p q = absurd (omega arith)
laid (x ∷ o) ys zs n n' L R h (p, k) (q, k') =
    let g : written (x ∷ o) 1 ys ≡ x ∷ ys = written_is (x ∷ o) ys 1 in
    let m : 1 + n ≡ suc n = omega arith in
    let t : take (1 + n) (written (x ∷ o) 1 ys) ≡ x ∷ flat L = ap₂ take m g ∙ ap {B = List Node} (λ s. x ∷ s) p in
    let z : zs ≡ flat R ++ drop n' zs = sym (take-append-drop n' zs) ∙ ap {B = List Node} (λ s. s ++ drop n' zs) q in
    (x, drop n' zs, written_is (written (x ∷ o) 1 ys) zs (1 + n) ∙ ap₂ {C = List Node} (λ s t. s ++ t) t z, omega (arith, k), omega (arith, k'))

-- what lies behind what was written
pub set_rest : (o : List Node) (x : Node) (k : ℕ) → 0 < k → drop k (set o 0 x) ≡ drop k o
set_rest [] x k h = refl
set_rest (y ∷ o) x zero h = absurd (omega arith)
set_rest (y ∷ o) x (suc k) h = refl

written_rest : (o ys : List Node) (j m : ℕ) → j ≤ length o → drop m ys ≡ drop m (from j o) → drop (j + m) (written o j ys) ≡ drop (j + m) o
written_rest o ys j m h p =
    let w : drop j (written o j ys) ≡ ys = ap (drop j) (written_is o ys j) ∙ drop_at (take j o) ys j (omega (arith, length-take j o)) in
    let f : from j o ≡ drop j o = take_all _ _ (le_of_eq (length-drop j o)) in
    sym (drop-drop m j (written o j ys)) ∙ ap (drop m) w ∙ p ∙ ap (drop m) f ∙ drop-drop m j o

both_rest : (o ys zs : List Node) (n n' : ℕ) → 1 + n ≤ length o → length ys ≡ length (from 1 o) → drop n ys ≡ drop n (from 1 o) → drop n' zs ≡ drop n' (from (1 + n) (written o 1 ys)) → drop (1 + n + n') (both o ys n zs) ≡ drop (1 + n + n') o
both_rest o ys zs n n' h l p q =
    let w : List Node = written o 1 ys in
    let k : length w ≡ length o = written_long o ys 1 (omega arith) l in
    let a : drop (1 + n + n') (both o ys n zs) ≡ drop (1 + n + n') w = written_rest w zs (1 + n) n' (omega (arith, k)) q in
    let b : drop (1 + n) w ≡ drop (1 + n) o = written_rest o ys 1 n (omega arith) p in
    a ∙ sym (drop-drop n' (1 + n) w) ∙ ap (drop n') b ∙ drop-drop n' (1 + n) o

-- nothing is written behind the upper branch
pub laid_rest : (o ys zs : List Node) (n n' : ℕ) (L : Event) → Stands ys n L → length ys ≡ length (from 1 o) → drop n ys ≡ drop n (from 1 o) → drop n' zs ≡ drop n' (from (1 + n) (written o 1 ys)) → drop (1 + n + n') (both o ys n zs) ≡ drop (1 + n + n') o
laid_rest o ys zs n n' L (t, k) l p q = both_rest o ys zs n n' (omega (arith, ap length t, length-take n ys, flat_length L, k, size_pos L, l, from_long o 1)) l p q

-- fillers behind a tree that stands at the front
pub trimmed : (o ys : List Node) (n : ℕ) (e : Event) → length o ≡ 63 → Stands o n e → ys ≡ replicate (length (take (63 - n) (drop n o))) filler → put_mid n (63 - n) o ys ≡ stored e
unfolding pad
trimmed o ys n e h (t, k) p =
    let q : put_mid n (63 - n) o ys ≡ written o n ys = ap (λ l. put_mid n (l - n) o ys) (sym h) in
    let m : length (from n o) ≡ 63 - length (flat e) = omega (arith, from_long o n, h, k, flat_length e) in
    let z : length (take (63 - n) (drop n o)) ≡ length (from n o) = ap (λ l. length (take (l - n) (drop n o))) (sym h) in
    q ∙ written_is o ys n ∙ ap₂ {C = List Node} (λ s t. s ++ t) t (p ∙ ap (λ j. replicate j filler) (z ∙ m))

pub ruleset writing = (from_long, written_long, size-shape)
