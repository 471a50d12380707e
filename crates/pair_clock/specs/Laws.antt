-- Two counts are a sound clock kind: each law of the clock crate's Sound.
use Rattle.std.specs.Prelude.{◌≡◌, ◌⊎◌, ℕ, zero, suc, ◌+◌, Bool, true, false, cond, ◌&&◌, ◌||◌, Some, None, nat_lt, refl}
use Rattle.std.proofs.Common.{ap, inl, inr, arith}
use Rattle.std.proofs.lemmas.Bool.{cases_Bool}
use Rattle.std.proofs.lemmas.Bool.Decides.{nat_tests}
use Rattle.clock.specs.declared.causes.Cause.TheVariants.{PensOverlap}
use Rattle.clock.specs.Answers.{due}
use Rattle.clock.specs.Sound.{Sound, Forked, Evented, Overlap, Within}
use Rattle.pair_clock.specs.declared.pens.PairPen.{PairPen}
use Rattle.pair_clock.specs.declared.clocks.PairClock.{PairClock}
use Rattle.pair_clock.specs.Pair.{has, count, lines, counts, fork_due, free, event_due, raised, larger, covered, shared, unite_due, both_pens}
use Rattle.pair_clock.specs.Kind.{pairs}

no_lines : (l : ℕ) → has (lines false false) l ≡ false
no_lines zero = refl
no_lines (suc zero) = refl
no_lines (suc (suc l)) = refl

blank_law : (l s : ℕ) → nat_lt s (count (counts 0 0) l) ≡ false
blank_law zero s = grind (arith, nat_tests)
blank_law (suc zero) s = grind (arith, nat_tests)
blank_law (suc (suc l)) s = grind (arith, nat_tests)

-- fork

abbrev ship : PairPen
ship = lines true false

abbrev launch : PairPen
launch = lines false true

whole : (p : PairPen) → p.ship ≡ true → p.launch ≡ true → (l : ℕ) → has p l ≡ (has ship l || has launch l)
whole p x y zero = x
whole p x y (suc zero) = y
whole p x y (suc (suc l)) = refl

apart : (l : ℕ) → has ship l ≡ true → has launch l ≡ true → ⊥
apart zero x y = grind arith
apart (suc zero) x y = grind arith
apart (suc (suc l)) x y = grind arith

fork_law : (p : PairPen) → fork_due p ≡ None → Forked pairs p ship launch
fork_law p e = record {
  first_made = refl;
  second_made = refl;
  apart = λ l s. apart l;
  together = λ l s. whole p (grind arith) (grind arith) l;
}

-- event

-- line l counts one more, and then the pen has it; or as many as before
abbrev Rises : PairPen → PairClock → PairClock → ℕ → Type 0
Rises p c d l = (count d l ≡ count c l) ⊎ ((has p l ≡ true) × (count d l ≡ count c l + 1))

evented : (p : PairPen) (c d : PairClock) → ((l : ℕ) → Rises p c d l) → (l : ℕ) → count d l ≡ count c l + 1 → Evented pairs p c d
evented p c d rises l up = record {
  made = refl;
  keeps = λ k s h. let r = rises k in grind (arith, nat_tests);
  line = l;
  step = count c l;
  more = grind (arith, nat_tests);
  before = grind (arith, nat_tests);
  own = λ k s h n. let r = rises k in grind (arith, nat_tests);
}

ship_rises : (p : PairPen) (c : PairClock) → has p 0 ≡ true → (l : ℕ) → Rises p c (counts (c.ship + 1) c.launch) l
ship_rises p c h zero = inr (h, refl)
ship_rises p c h (suc zero) = inl refl
ship_rises p c h (suc (suc l)) = inl refl

launch_rises : (p : PairPen) (c : PairClock) → has p 1 ≡ true → (l : ℕ) → Rises p c (counts c.ship (c.launch + 1)) l
launch_rises p c h zero = inl refl
launch_rises p c h (suc zero) = inr (h, refl)
launch_rises p c h (suc (suc l)) = inl refl

event_law : (p : PairPen) (c : PairClock) → event_due p c ≡ None → Evented pairs p c (raised p c)
event_law p c e = go (free p c 0) refl
  where
    go : (b : Bool) → free p c 0 ≡ b → Evented pairs p c (cond b (counts (c.ship + 1) c.launch) (counts c.ship (c.launch + 1)))
    go true f = evented p c _ (ship_rises p c (grind arith)) 0 refl
    go false f = evented p c _ (launch_rises p c (grind arith)) 1 refl

-- join

join_law : (c d : PairClock) (l s : ℕ) → nat_lt s (count (larger c d) l) ≡ (nat_lt s (count c l) || nat_lt s (count d l))
join_law c d zero s = grind (arith, nat_tests)
join_law c d (suc zero) s = grind (arith, nat_tests)
join_law c d (suc (suc l)) s = grind (arith, nat_tests)

-- covers

covers_within : (c d : PairClock) → covered c d ≡ true → Within pairs d c
covers_within c d e zero s k = grind (arith, nat_tests)
covers_within c d e (suc zero) s k = grind (arith, nat_tests)
covers_within c d e (suc (suc l)) s k = k

-- on either line d does not know the first step that c does not know
within_covers : (c d : PairClock) → Within pairs d c → covered c d ≡ true
within_covers c d w = let ship = w 0 c.ship in let launch = w 1 c.launch in grind (arith, nat_tests)

-- unite

unite_law : (p q : PairPen) (l : ℕ) → has (both_pens p q) l ≡ (has p l || has q l)
unite_law p q zero = refl
unite_law p q (suc zero) = refl
unite_law p q (suc (suc l)) = refl

shared_line : (p q : PairPen) → unite_due p q ≡ Some PensOverlap → Overlap pairs p q
shared_line p q e = elim (cases_Bool (p.ship && q.ship)) [ inl h ↦ (0, 0, grind arith, grind arith) | inr h ↦ (1, 0, grind arith, grind arith) ]

is_shared : (p q : PairPen) (l : ℕ) → has p l ≡ true → has q l ≡ true → shared p q ≡ true
is_shared p q zero x y = grind arith
is_shared p q (suc zero) x y = grind arith
is_shared p q (suc (suc l)) x y = grind arith

pub pairs_sound : Sound pairs
pairs_sound = record {
  seed_made = refl;
  no_pen_made = refl;
  blank_made = refl;
  no_pen_makes = λ l s. no_lines l;
  blank_knows = blank_law;
  fork = λ p _. fork_law p;
  fork_cause = λ p c _ e. grind arith;
  event = λ p c _ _. event_law p c;
  event_cause = λ p c e _ _ h. grind arith;
  join = λ c d _ _ _. record { made = refl; union = join_law c d };
  join_cause = λ c d e _ _ h. grind arith;
  covers = λ c d _ _. (covers_within c d, within_covers c d);
  unite = λ p q _ _ e. record { made = refl; union = λ l s. unite_law p q l };
  unite_cause = λ p q c _ _ e. grind arith;
  overlap = λ p q _ _. (shared_line p q, λ o. ap (λ b. due b PensOverlap) (is_shared p q o.0 o.2 o.3));
  opening = record { forks = refl; first_event = refl; second_event = refl; joins = refl };
}
