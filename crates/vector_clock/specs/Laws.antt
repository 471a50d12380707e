-- Names and counts are a sound kind, for any number of names from two up.
use Rattle.std.specs.Prelude.{◌≡◌, ℕ, zero, suc, ◌-◌, ◌<◌, ◌≤◌, max, Bool, true, false, not, ◌&&◌, ◌||◌, ltb, [], ◌∷◌, length, None, ◌≢◌, nat_eq, nat_lt, refl}
use Rattle.std.proofs.Common.{sym, ap, ◌∙◌, inl, inr, ⊎_elim, arith}
use Rattle.std.proofs.lemmas.Option.{none-some}
use Rattle.std.proofs.lemmas.List.{length-replicate, get_or-replicate}
use Rattle.std.proofs.lemmas.Bool.{both_ways, cases_Bool, cases_lt, cases_eq, eq-eqb, lt-ltb, le-ltb, ltb-true, ltb-false, and_parts, and_from, not-true, not_from_false}
use Rattle.clock.specs.declared.causes.Cause.TheVariants.{CannotSplit, PensOverlap, PenSpent, AtLimit}
use Rattle.clock.specs.Answers.{due, first}
use Rattle.clock.proofs.Tests.{and_or}
use Rattle.clock.proofs.Dues.{due_some, first-none, first_some, last_some}
use Rattle.clock.specs.Sound.{Sound, Forked, Evented, Overlap, Within, Opening}
use Rattle.vector_clock.specs.declared.pens.Names.{Names}
use Rattle.vector_clock.specs.declared.clocks.Counts.{Counts}
use Rattle.vector_clock.specs.Counting.{how_many, none}
use Rattle.vector_clock.specs.Pens.{in_pen, all_names, in_lower, keeps, gives, lower_half, upper_half, in_both, in_either}
use Rattle.vector_clock.specs.Clocks.{count_of, no_counts, open_name, raised, behind_at, covered, event_due}
use Rattle.vector_clock.specs.Vectors.{vectors}
use Rattle.vector_clock.specs.Numbers.{some_passes, none_passes, lowest_found}
use Rattle.vector_clock.specs.Filled.{length_listed}
use Rattle.vector_clock.specs.Indexed.{filler, past_counts, a_name, pen_at, made_at, larger-count, count_here, count_elsewhere}

-- fork

parted : (b x k : Bool) → (b && (x && k)) ≡ true → (b && (x && not k)) ≢ true
parted true true true e f = both_ways false refl f
parted true true false e f = both_ways false refl e
parted true false k e f = both_ways false refl e
parted false x k e f = both_ways false refl e

whole : (b x k : Bool) → (b && x) ≡ ((b && (x && k)) || (b && (x && not k)))
whole true true true = refl
whole true true false = refl
whole true false k = refl
whole false x k = refl

module _ {n : ℕ} (p : Names n) (made : nat_eq (length p.held) n ≡ true) where
  fork_law : Forked (vectors {n = n}) p (lower_half p) (upper_half p)
  fork_law = record {
    first_made = eq-eqb _ _ (length_listed n (keeps p));
    second_made = eq-eqb _ _ (length_listed n (gives p));
    apart = λ l s x y. parted (nat_lt l n) (in_pen p l) (in_lower p l) (sym (pen_at n (keeps p) l) ∙ x) (sym (pen_at n (gives p) l) ∙ y);
    together = λ l s. made_at p l made ∙ whole (nat_lt l n) (in_pen p l) (in_lower p l) ∙ sym (cc (pen_at n (keeps p) l, pen_at n (gives p) l));
  }

-- event

module _ {n : ℕ} (p : Names n) (c : Counts n) (made : nat_eq (length c.counts) n ≡ true) (i : ℕ) (h : i < n) (e : open_name p c i ≡ true) (z : none (open_name p c) i ≡ true) where
  event-keeps : Within (vectors {n = n}) c (raised p c)
  event-keeps l s k = ⊎_elim
      (λ (same : l ≡ i). lt-ltb _ _ (omega (arith, ltb-true _ _ k, count_here p c made i h z e, ap (count_of c) same, ap (count_of (raised p c)) same)))
      (λ (other : l ≡ i → ⊥). lt-ltb _ _ (omega (arith, ltb-true _ _ k, count_elsewhere p c made i h z e l other)))
      (cases_eq l i)

  event_own : (l s : ℕ) → nat_lt s (count_of (raised p c) l) ≡ true → nat_lt s (count_of c l) ≡ false → in_pen p l ≡ true
  event_own l s k b = ⊎_elim
      (λ (same : l ≡ i). ap (in_pen p) same ∙ (and_parts (in_pen p i) (nat_lt (count_of c i) 65535) e).0)
      (λ (other : l ≡ i → ⊥). absurd (omega (arith, ltb-true _ _ k, ltb-false _ _ b, count_elsewhere p c made i h z e l other)))
      (cases_eq l i)

  event_law : Evented (vectors {n = n}) p c (raised p c)
  event_law = record {
    made = eq-eqb _ _ (length_listed n _);
    keeps = event-keeps;
    line = i;
    step = count_of c i;
    more = lt-ltb _ _ (omega (arith, count_here p c made i h z e));
    before = le-ltb _ _ (omega arith);
    own = event_own;
  }

-- join

ltb_max : (s a b : ℕ) → nat_lt s (max a b) ≡ (nat_lt s a || nat_lt s b)
ltb_max s a b = go (nat_lt s a) (nat_lt s b) refl refl
  where
    go : (x y : Bool) → nat_lt s a ≡ x → nat_lt s b ≡ y → nat_lt s (max a b) ≡ (x || y)
    go true y e f = lt-ltb _ _ (omega (arith, ltb-true _ _ e))
    go false true e f = lt-ltb _ _ (omega (arith, ltb-true _ _ f))
    go false false e f = le-ltb _ _ (omega (arith, ltb-false _ _ e, ltb-false _ _ f))

-- covers

module _ {n : ℕ} (c d : Counts n) (made_d : nat_eq (length d.counts) n ≡ true) where
  covers_within : covered c d ≡ true → Within (vectors {n = n}) d c
  covers_within e l s k = ⊎_elim
      (λ (h : l < n). lt-ltb _ _ (omega (arith, ltb-true _ _ k, ltb-false _ _ (none_passes (behind_at c d) l n h e))))
      (λ (h : n ≤ l). absurd (omega (arith, ltb-true _ _ k, past_counts d l made_d h)))
      (cases_lt l n)

  within_covers : Within (vectors {n = n}) d c → covered c d ≡ true
  within_covers w = ⊎_elim (λ e. e) (λ e. absurd (missed (lowest_found (behind_at c d) n e))) (cases_Bool (covered c d))
    where
      missed : (k : ℕ) × (k < n) × (behind_at c d k ≡ true) × (none (behind_at c d) k ≡ true) → ⊥
      missed f = omega (arith, ltb-true _ _ (w f.0 (count_of c f.0) f.2))

-- unite

module _ {n : ℕ} (p q : Names n) (made_p : nat_eq (length p.held) n ≡ true) (made_q : nat_eq (length q.held) n ≡ true) where
  unite_law : (l : ℕ) → (nat_lt l n && in_either p q l) ≡ (in_pen p l || in_pen q l)
  unite_law l = and_or (nat_lt l n) (in_either p q l) (in_pen p l) (in_pen q l) (λ _. refl) ∙ sym (cc (made_at p l made_p, made_at q l made_q))

  shared : none (in_both p q) n ≡ false → Overlap (vectors {n = n}) p q
  shared e =
      let f = lowest_found (in_both p q) n e in
      let b = and_parts (in_pen p f.0) (in_pen q f.0) f.2 in
      (f.0, 0, b.0, b.1)

  denied : Overlap (vectors {n = n}) p q → none (in_both p q) n ≡ false
  denied o = some_passes (in_both p q) o.0 n (a_name p o.0 made_p o.2) (and_from _ _ o.2 o.3)

-- opening

seed_has : (n k : ℕ) → k < n → in_pen (all_names n) k ≡ true
seed_has n k h = get_or-replicate n k true false h

seed_many : (n k : ℕ) → k ≤ n → how_many (in_pen (all_names n)) k ≡ k
seed_many n zero h = refl
seed_many n (suc k) h = rw (seed_has n k h) (omega (arith, seed_many n k (omega arith)))

ready : {n : ℕ} (p : Names n) (k : ℕ) → k < n → in_pen p k ≡ true → event_due p (no_counts n) ≡ None
ready {n} p k h e = go _ _ (some_passes (in_pen p) k n h e) (some_passes (open_name p (no_counts n)) k n h (and_from _ _ e (lt-ltb _ _ (omega (arith, filler {X = ℕ} n k 0)))))
  where
    go : (s t : Bool) → s ≡ false → t ≡ false → first (due s PenSpent ∷ due t AtLimit ∷ []) ≡ None
    go true t a b = absurd (both_ways true a refl)
    go false true a b = absurd (both_ways true b refl)
    go false false a b = refl

module _ {n : ℕ} (two : 2 ≤ n) where
  first_name : in_pen (lower_half (all_names n)) 0 ≡ true
  first_name = pen_at n (keeps (all_names n)) 0 ∙ and_from _ _ (lt-ltb 0 n (omega arith)) (and_from _ _ (seed_has n 0 (omega arith)) (lt-ltb _ _ (omega (arith, seed_many n n (omega arith)))))

  last_name : in_pen (upper_half (all_names n)) (n - 1) ≡ true
  last_name = pen_at n (gives (all_names n)) (n - 1) ∙ and_from _ _ (lt-ltb (n - 1) n (omega arith)) (and_from _ _ (seed_has n (n - 1) (omega arith)) (not_from_false _ (le-ltb _ _ (omega (arith, seed_many n n (omega arith), seed_many n (n - 1) (omega arith))))))

  opening_law : Opening (vectors {n = n})
  opening_law = record {
    forks = ap (λ b. due b CannotSplit) (le-ltb _ _ (omega (arith, seed_many n n (omega arith))));
    first_event = ready (lower_half (all_names n)) 0 (omega arith) first_name;
    second_event = ready (upper_half (all_names n)) (n - 1) (omega arith) last_name;
    joins = refl;
  }

  pub vectors_sound : Sound (vectors {n = n})
  vectors_sound = record {
    seed_made = eq-eqb _ _ (length-replicate n true);
    no_pen_made = eq-eqb _ _ (length-replicate n false);
    blank_made = eq-eqb _ _ (length-replicate n 0);
    no_pen_makes = λ l s. filler n l false;
    blank_knows = λ l s. le-ltb _ _ (omega (arith, filler {X = ℕ} n l 0));
    fork = λ p made _. fork_law p made;
    fork_cause = λ p c _ e. (due_some _ _ c e).1;
    event = λ p c _ made e. let f = lowest_found (open_name p c) n (first-none (none (open_name p c) n) AtLimit [] (first-none (none (in_pen p) n) PenSpent _ e).1).0 in event_law p c made f.0 f.1 f.2 f.3;
    event_cause = λ p c e _ _ d. ⊎_elim (λ a. inl a.1) (λ a. inr (inr (last_some _ _ e a.1))) (first_some (none (in_pen p) n) PenSpent _ e d);
    join = λ c d made_c made_d _. record { made = eq-eqb _ _ (length_listed n _); union = λ l s. ap (ltb s) (larger-count c d made_c made_d l) ∙ ltb_max s (count_of c l) (count_of d l) };
    join_cause = λ c d e _ _ h. absurd (none-some e h);
    covers = λ c d _ made_d. (covers_within c d made_d, within_covers c d made_d);
    unite = λ p q made_p made_q _. record { made = eq-eqb _ _ (length_listed n _); union = λ l s. pen_at n (in_either p q) l ∙ unite_law p q made_p made_q l };
    unite_cause = λ p q c _ _ e. inl (due_some _ _ c e).1;
    overlap = λ p q made_p made_q. (λ e. shared p q made_p made_q (not-true _ (due_some _ _ _ e).0), λ o. ap (λ b. due (not b) PensOverlap) (denied p q made_p made_q o));
    opening = opening_law;
  }
