-- Where fill changes a tree, it has gained a mark at a place of the id.
use Rattle.std.proofs.Common.{◌≡◌, ℕ, zero, suc, ◌^◌, ◌<◌, ◌≤◌, Bool, true, false, ◌⊎◌, sym, refl, ap, ◌∙◌, inl, inr, arith}
use native.Mathlib.Decide.{dec_lt}
use Rattle.std.proofs.lemmas.Bool.{cases_eq, both_ways}
use Rattle.tree_rules.specs.Ids.{Id, owns}
use Rattle.tree_rules.specs.Events.{Event, depth, value, Normal, same}
use Rattle.tree_rules.specs.Fill.{fill}
use Rattle.tree_rules.proofs.Canon.{EqualValues, canonical, same_refl}
use Rattle.tree_rules.proofs.Fills.{normal-fill, depth-fill}
use Rattle.tree_rules.proofs.Adding.{Adds, Gains, fill_adds}

-- a bounded search: two rows of numbers are equal below n, or differ at a place below n
module _ (f g : ℕ → ℕ) where
  abbrev EqualBelow : ℕ → Type 0
  EqualBelow n = (x : ℕ) → x < n → f x ≡ g x

  abbrev DifferBelow : ℕ → Type 0
  DifferBelow n = (x : ℕ) × (x < n) × (f x ≡ g x → ⊥)

  one_more : (n : ℕ) → f n ≡ g n → EqualBelow n → EqualBelow (suc n)
  one_more n p s x q =
      elim (dec_lt x n) [
        | yes w ↦ s x w
        | no w ↦ let e : x ≡ n = omega arith in ap f e ∙ p ∙ ap g (sym e)
      ]

  equal_or_differ : (n : ℕ) → EqualBelow n ⊎ DifferBelow n
  equal_or_differ zero = inl (λ x p. absurd (omega arith))
  equal_or_differ (suc n) =
      elim (equal_or_differ n) [
        | inr (x, p, d) ↦ inr (x, omega arith, d)
        | inl s ↦ elim (cases_eq (f n) (g n)) [ inl p ↦ inl (one_more n p s) | inr d ↦ inr (n, omega arith, d) ]
      ]

-- where a tree that adds differs, the place is the id's and the value larger
adds_gains : (i : Id) (h : ℕ) (e g : Event) → Adds i h e g → DifferBelow (value g h) (value e h) (2 ^ h) → Gains i h e g
adds_gains i h e g a (x, p, d) = at (owns i h x) refl
  where
    at : (t : Bool) → owns i h x ≡ t → Gains i h e g
    at true o = (x, p, o, elim (dec_lt (value e h x) (value g h x)) [ yes w ↦ w | no w ↦ absurd (d (omega (arith, (a x p).0))) ])
    at false o = absurd (d ((a x p).1 o))

pub fill_gains : (i : Id) (h : ℕ) (e : Event) → Normal e → depth e ≤ h → same (fill i e) e ≡ false → Gains i h e (fill i e)
fill_gains i h e n k s =
    let equal = λ (w : EqualValues h (fill i e) e). canonical h (fill i e) e (normal-fill i e n) n (omega (arith, depth-fill i e)) k w in
    elim (equal_or_differ (value (fill i e) h) (value e h) (2 ^ h)) [
      | inl w ↦ absurd (both_ways (same (fill i e) e) s (ap (λ z. same z e) (equal w) ∙ same_refl e))
      | inr d ↦ adds_gains i h e (fill i e) (fill_adds i h e n k) d
    ]
