-- Two slices of nodes are compared index by index, each node as one number.
use Rattle.std.proofs.Common.{◌≡◌, ℕ, ◌+◌, ◌/◌, ◌%◌, ◌<◌, ◌≤◌, Bool, true, ◌↔◌, List, length, get_or, ◌&&◌, ◌==◌, sym, ap, ap₂, ◌∙◌, arith, below_more}
use Rattle.std.proofs.lemmas.Bool.{and_parts, and_from, eqb-true, eq-eqb}
use Rattle.std.proofs.lemmas.List.{ext_get_or}
use Rattle.tree_clock.specs.declared.nodes.Node.{Node}
use Rattle.tree_clock.specs.Flat.{filler}

-- v is the number of the node x
abbrev pub Word : ℕ → Node → Type 0
Word v x = (v / 65536 ≡ x.size) × (v % 65536 ≡ x.base)

word_one : (v w : ℕ) (x : Node) → Word v x → Word w x → v ≡ w
word_one v w x p q = omega (arith, p.0, p.1, q.0, q.1)

words_one : (x y : Node) (v w : ℕ) → Word v x → Word w y → ((v == w) ≡ true) ↔ (x ≡ y)
words_one x y v w p q = (
  λ e. let h : v ≡ w = eqb-true v w e in
      ap₂ (λ (b n : ℕ). let z : Node = record { base = b; size = n } in z) (sym p.1 ∙ ap (λ n. n % 65536) h ∙ q.1) (sym p.0 ∙ ap (λ n. n / 65536) h ∙ q.0),
  λ h. eq-eqb v w (word_one v w y (p.0 ∙ ap (λ (z : Node). z.size) h, p.1 ∙ ap (λ (z : Node). z.base) h) q),
)

module _ (s t : List Node) where
  -- they hold the same nodes below n
  abbrev pub Same : ℕ → Type 0
  Same n = (k : ℕ) → k < n → get_or s k filler ≡ get_or t k filler

  pub same_more : (i : ℕ) (r : Bool) → (r ≡ true) ↔ Same i → (v w : ℕ) → Word v (get_or s i filler) → Word w (get_or t i filler) → ((r && (v == w)) ≡ true) ↔ Same (i + 1)
  same_more i r h v w p q =
      let one = words_one (get_or s i filler) (get_or t i filler) v w p q in (
        λ e. let b = and_parts r (v == w) e in below_more _ _ (h.0 b.0) (one.0 b.1),
        λ e. and_from r (v == w) (h.1 (λ k m. e k (omega arith))) (one.1 (e i (omega arith))),
      )

  pub same_all : (n : ℕ) (r : Bool) → (r ≡ true) ↔ Same n → length s ≡ length t → length s ≤ n → (r ≡ true) ↔ (s ≡ t)
  same_all n r h m z = (
    λ e. ext_get_or filler s t m (λ k b. h.0 e k (omega arith)),
    λ e. h.1 (λ k b. ap (λ (o : List Node). get_or o k filler) e),
  )
