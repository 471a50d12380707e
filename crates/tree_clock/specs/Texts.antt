-- What a pen and a clock print: ids and event trees as the literature writes them.
--
-- id_text i          an id: `0`, `1`, or a pair, as `((1,0),0)`
-- event_text e       an event tree: a number, or a triple of a base and two trees, as `(0,1,0)`
-- pen_text p         the id of the pen p, where p is well made; no caller holds another, and of another nothing is claimed
-- clock_text c       the tree of the clock c, likewise
-- root_text t n      what stands before the two sides: a base is written of trees and not of ids
-- tree_text t e      both notations in one: what is written of the tree e, or of the id that it is the shape of
-- Shows took s at k t f r g
--                    where a tree of at most k levels stands at place `at` of s, it is written, and the answer is the place behind it
use Rattle.std.specs.Prelude.{◌≡◌, ℕ, ◌+◌, ◌<◌, if◌then◌else◌, List, ◌++◌, take, drop, codes, Some, None, Option, Result, IfOk}
use Rattle.std.specs.Fmt.{decimal, HasWritten, IsPlainFormatter}
use Rattle.std.specs.declared.fmt.Error.{Error}
use Rattle.std.specs.declared.fmt.Formatter.{Formatter}
use Rattle.tree_rules.specs.Ids.{Id, off, on, pair}
use Rattle.tree_rules.specs.Events.{Event, leaf, node, size, depth}
use Rattle.tree_clock.specs.declared.nodes.Node.{Node}
use Rattle.tree_clock.specs.declared.pens.TreePen.{TreePen}
use Rattle.tree_clock.specs.declared.clocks.TreeClock.{TreeClock}
use Rattle.tree_clock.specs.declared.show.Notation.{Notation}
use Rattle.tree_clock.specs.declared.show.Notation.TheVariants as notation
use Rattle.tree_clock.specs.Flat.{flat}
use Rattle.tree_clock.specs.Stored.{event_of, id_of, clock_made, pen_made}

abbrev pub id_text : Id → List ℕ
id_text off = codes "0"
id_text on = codes "1"
id_text (pair l r) = codes "(" ++ (id_text l ++ (codes "," ++ (id_text r ++ codes ")")))

abbrev pub event_text : Event → List ℕ
event_text (leaf n) = decimal n
event_text (node n l r) =
    codes "("
    ++ (decimal n ++ (codes "," ++ (event_text l ++ (codes "," ++ (event_text r ++ codes ")")))))

abbrev pub pen_text : TreePen → Option (List ℕ)
pen_text p = if pen_made p then Some (id_text (id_of p)) else None

abbrev pub clock_text : TreeClock → Option (List ℕ)
clock_text c = if clock_made c then Some (event_text (event_of c)) else None

abbrev pub root_text : Notation → ℕ → List ℕ
root_text notation.Id n = codes "("
root_text notation.Tree n = codes "(" ++ (decimal n ++ codes ",")

abbrev pub tree_text : Notation → Event → List ℕ
tree_text t (leaf n) = decimal n
tree_text t (node n l r) =
    root_text t n ++ (tree_text t l ++ (codes "," ++ (tree_text t r ++ codes ")")))

abbrev pub Shows : {W : Type 0} → (W → List ℕ → W → Type 0) → List Node → ℕ → ℕ → Notation →
    Formatter W → Result ℕ Error → Formatter W → Type 0
Shows took s at k t f r g =
    (e : Event) → take (size e) (drop at s) ≡ flat e → depth e < k → IsPlainFormatter f →
    IfOk r (λ next. (next ≡ at + size e) × HasWritten took f (tree_text t e) g)
