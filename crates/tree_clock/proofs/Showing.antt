-- A tree that stands somewhere in an array, and where its two sides stand.
use Rattle.std.proofs.Common.{Bool, true, false, cond, Some, None, Result, ◌≡◌, ℕ, ◌+◌, ◌<◌, List, [], ◌∷◌, ◌++◌, length, take, drop, get_or, refl, sym, ap, ap₂, ◌∙◌, arith, take_at, drop_at}
use Rattle.std.proofs.lemmas.List.{append_assoc, length-take, length-drop, get_or-take, get_or-drop, drop-drop, take-append-drop}
use Rattle.std.specs.Fmt.{decimal, DisplaysOnOk, WritesOnOk}
use Rattle.std.specs.declared.fmt.Error.{Error}
use Rattle.std.specs.declared.fmt.Formatter.{Formatter}
use Rattle.std.proofs.lemmas.Fmt.{decimal_digit}
use Rattle.tree_rules.specs.Events.{Event, leaf, node, size}
use Rattle.tree_rules.specs.Ids.{Id, off, on, pair}
use Rattle.tree_rules.specs.Shape.{shape}
use Rattle.tree_rules.proofs.Norms.{size_pos}
use Rattle.tree_clock.specs.declared.nodes.Node.{Node}
use Rattle.tree_clock.specs.declared.show.Notation.{Notation}
use Rattle.tree_clock.specs.declared.show.Notation.TheVariants as notation
use Rattle.tree_clock.specs.Flat.{flat, filler, stored}
use Rattle.tree_clock.specs.FlatForm.{flat_length, first}
use Rattle.tree_clock.specs.Texts.{tree_text, id_text, event_text}
use Rattle.tree_clock.proofs.Storing.{stored_stands}

module _ (s : List Node) (at : ℕ) where
  -- e stands at this place
  abbrev pub Lies : Event → Type 0
  Lies e = take (size e) (drop at s) ≡ flat e

  pub within : (e : Event) → Lies e → at < length s
  within e p = omega (arith, length-take (size e) (drop at s), length-drop at s, ap length p, flat_length e, size_pos e)

  pub root : (e : Event) → Lies e → get_or s at filler ≡ first (flat e)
  root e p = ap (λ i. get_or s i filler) (omega arith) ∙ sym (get_or-drop at s 0 filler) ∙ sym (get_or-take (size e) (drop at s) 0 filler (size_pos e)) ∙ ap first p

  pub leaf_shown : (t : Notation) (e : Event) → Lies e → (get_or s at filler).size ≡ 1 → (size e ≡ 1) × (decimal (get_or s at filler).base ≡ tree_text t e)
  leaf_shown t (leaf n) p h = (refl, ap (λ x. decimal x.base) (root (leaf n) p))
  leaf_shown t (node n l r) p h = absurd (omega (arith, h, ap (λ x. x.size) (root (node n l r) p), size_pos l))

  -- the nodes of a triple, and what is behind it
  pub laid : (n : ℕ) (l r : Event) → Lies (node n l r) → (rest : List Node) × (drop at s ≡ record { base = n; size = 1 + (size l + size r) } ∷ (flat l ++ (flat r ++ rest)))
  laid n l r p =
      let rest = drop (size (node n l r)) (drop at s) in
      (rest, sym (take-append-drop (size (node n l r)) (drop at s)) ∙ ap (λ front. front ++ rest) p ∙ ap (λ t. record { base = n; size = 1 + (size l + size r) } ∷ t) (append_assoc (flat l) (flat r) rest))

  pub lower : (n : ℕ) (l r : Event) → Lies (node n l r) → take (size l) (drop (at + 1) s) ≡ flat l
  lower n l r p =
      let whole = laid n l r p in
      ap (take (size l)) (sym (drop-drop 1 at s) ∙ ap (drop 1) whole.1) ∙ take_at (flat l) (flat r ++ whole.0) (size l) (flat_length l)

  pub upper : (n : ℕ) (l r : Event) (mid : ℕ) → Lies (node n l r) → mid ≡ at + 1 + size l → take (size r) (drop mid s) ≡ flat r
  upper n l r mid p e =
      let whole = laid n l r p in
      ap (λ i. take (size r) (drop i s)) e
      ∙ ap (take (size r)) (sym (drop-drop (size l) (at + 1) s) ∙ ap (drop (size l)) (sym (drop-drop 1 at s) ∙ ap (drop 1) whole.1) ∙ drop_at (flat l) (flat r ++ whole.0) (size l) (flat_length l))
      ∙ take_at (flat r) whole.0 (size r) (flat_length r)

-- the texts of an id and of a tree
pub id_shown : (i : Id) → tree_text notation.Id (shape i) ≡ id_text i
id_shown off = decimal_digit 0 (omega arith)
id_shown on = decimal_digit 1 (omega arith)
id_shown (pair l r) = ap₂ (λ a b. 40 ∷ (a ++ (44 ∷ (b ++ (41 ∷ []))))) (id_shown l) (id_shown r)

pub event_shown : (e : Event) → tree_text notation.Tree e ≡ event_text e
event_shown (leaf n) = refl
event_shown (node n l r) =
    ap (λ a. 40 ∷ a) (append_assoc (decimal n) (44 ∷ []) _) ∙ ap₂ (λ a b. 40 ∷ (decimal n ++ (44 ∷ (a ++ (44 ∷ (b ++ (41 ∷ []))))))) (event_shown l) (event_shown r)

-- a stored tree stands at the front
pub stands_stored : (s : List Node) (e : Event) → s ≡ stored e → Lies s 0 e
stands_stored s e p = let front = stored_stands s e p in ap (λ n. take n s) (sym front.1) ∙ front.0

-- a text that is claimed of well-made values
pub claimed : {W : Type 0} (took : W → List ℕ → W → Type 0) (f g : Formatter W) (r : Result (Unit {0}) Error) (made : Bool) (text : List ℕ) → (made ≡ true → WritesOnOk took f r text g) → DisplaysOnOk took f r (cond made (Some text) None) g
claimed took f g r true text writes = writes refl
claimed took f g r false text writes = tt
