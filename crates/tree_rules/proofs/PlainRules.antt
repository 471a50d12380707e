-- The definitions of split, sum and norm follow their rules.
use Rattle.std.proofs.Common.{◌≡◌, ℕ, ◌+◌, min, Bool, true, false, ◌≢◌, refl, sym, ap, ◌∙◌, eqb-true, eq-eqb}
use Rattle.std.proofs.lemmas.Bool.{cond-true, cond-false, false≢true}
use Rattle.tree_rules.specs.Ids.{Id, off, on, pair, norm_id}
use Rattle.tree_rules.specs.Events.{Event, leaf, node, low, less, twins, lifted, norm}
use Rattle.tree_rules.specs.Split.{split}
use Rattle.tree_rules.specs.Sum.{sum}
use Rattle.tree_rules.specs.IdRules.{SplitRules, SumRules}
use Rattle.tree_rules.specs.NormRules.{TwinLeaves, NormRules}

split_upper : (i : Id) → split (pair i off) ≡ (pair (split i).0 off, pair (split i).1 off)
split_upper off = refl
split_upper on = refl
split_upper (pair l r) = refl

split_sides : (l r : Id) → (l ≢ off) → (r ≢ off) → split (pair l r) ≡ (pair l off, pair off r)
split_sides off r p q = absurd (p refl)
split_sides on off p q = absurd (q refl)
split_sides on on p q = refl
split_sides on (pair s t) p q = refl
split_sides (pair a b) off p q = absurd (q refl)
split_sides (pair a b) on p q = refl
split_sides (pair a b) (pair s t) p q = refl

pub split_rules : SplitRules
split_rules = record { of_1 = refl; lower_0 = λ i. refl; upper_0 = split_upper; neither_0 = split_sides }

sum_off : (i : Id) → sum i off ≡ i
sum_off off = refl
sum_off on = refl
sum_off (pair l r) = refl

pub sum_rules : SumRules
sum_rules = record { first_0 = λ i. refl; second_0 = sum_off; pairs = λ l1 r1 l2 r2. refl }

pair_stays : (l r : Id) → ((l ≡ off) × (r ≡ off) → ⊥) → ((l ≡ on) × (r ≡ on) → ⊥) → norm_id l r ≡ pair l r
pair_stays off off p q = absurd (p (refl, refl))
pair_stays off on p q = refl
pair_stays off (pair s t) p q = refl
pair_stays on off p q = refl
pair_stays on on p q = absurd (q (refl, refl))
pair_stays on (pair s t) p q = refl
pair_stays (pair a b) r p q = refl

-- the test of two equal leaves finds them
twins_are : (l r : Event) → twins l r ≡ true → TwinLeaves l r
twins_are (leaf a) (leaf b) e = (a, refl, ap leaf (sym (eqb-true a b e)))
twins_are (leaf a) (node n l r) e = absurd (false≢true e)
twins_are (node n l r) (leaf b) e = absurd (false≢true e)
twins_are (node n l r) (node m s t) e = absurd (false≢true e)

not_twins : (l r : Event) → (TwinLeaves l r → ⊥) → twins l r ≡ false
not_twins l r differ = go (twins l r) refl
  where
    go : (t : Bool) → twins l r ≡ t → t ≡ false
    go true e = absurd (differ (twins_are l r e))
    go false e = refl

norm_twins : (n m : ℕ) → norm n (leaf m) (leaf m) ≡ leaf (n + m)
unfolding norm
norm_twins n m = cond-true _ _ _ (eq-eqb m m refl)

norm_others : (n m : ℕ) (l r : Event) → (TwinLeaves l r → ⊥) → m ≡ min (low l) (low r) → norm n l r ≡ node (n + m) (less m l) (less m r)
unfolding norm
norm_others n m l r differ e = cond-false _ _ _ (not_twins l r differ) ∙ ap (λ k. lifted n k l r) (sym e)

pub norm_rules : NormRules
norm_rules = record {
  ids_0 = refl;
  ids_1 = refl;
  other_ids = pair_stays;
  twins = norm_twins;
  others = norm_others;
  less_leaf = λ m n. refl;
  less_triple = λ m n l r. refl;
  plus_leaf = λ m n. refl;
  plus_triple = λ m n l r. refl;
  low_leaf = λ n. refl;
  low_triple = λ n l r. refl;
  top_leaf = λ n. refl;
  top_triple = λ n l r. refl;
}
