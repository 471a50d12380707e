-- Berth b's stale copies are replaced by a's: what pull and retire have in common.
use Rattle.std.proofs.Common.{◌≡◌, ℕ, ◌*◌, ◌<◌, Bool, true, false, cond, not, ◌&&◌, List, length, Option, sym, refl, ap, ◌∙◌, subst, ⊎_elim, arith}
use Rattle.std.specs.List.{slice_get}
use Rattle.std.proofs.lemmas.Bool.{and_parts, cases_Bool, cases_eq, cond-true, cond-false}
use Rattle.clock.specs.Meaning.{Meaning}
use Rattle.clock.specs.Sound.{Sound}
use Rattle.clock.specs.Verdicts.{verdict_of}
use Rattle.yard_rules.specs.declared.tables.Berth.{Berth}
use Rattle.yard_rules.specs.declared.tables.Record.{Record}
use Rattle.yard_rules.specs.Tables.{working, works_in, clock_in, clock_at, row, newer_from, is_stale, is_conflict, judged}
use Rattle.yard_rules.specs.History.{History, inside, put, larger}
use Rattle.yard_rules.proofs.Sets.{put_same, put_other}
use Rattle.yard_rules.proofs.Lookups.{at, place_within, row_newer, row_there}
use Rattle.yard_rules.proofs.Invariant.{Well, Inv, covers_inside, verdict_sets}

-- stale, by the two tests
stale_is : (x y : Bool) → is_stale (verdict_of x y) ≡ (y && not x)
stale_is true true = refl
stale_is true false = refl
stale_is false true = refl
stale_is false false = refl

-- neither in conflict nor stale: it covers
covers_else : (x y : Bool) → is_conflict (verdict_of x y) ≡ false → is_stale (verdict_of x y) ≡ false → x ≡ true
covers_else true y p q = refl
covers_else false true p q = sym q
covers_else false false p q = sym p

module _ {Pen C P : Type 0} (m : Meaning Pen C) (sound : Sound m) (F : ℕ) (opening : ℕ → Option P) (bs : List (Berth Pen)) (cs : List (Record C P)) (h : History P) (sizes : length cs ≡ length bs * F) (well : Well m (at F cs)) (inv : Inv m F opening (slice_get bs) (at F cs) h)
    (a b : ℕ) (la : a < length bs) (lb : b < length bs) (ua : working bs a ≡ true) (ub : working bs b ≡ true) where
  unfoldable pub cs' : List (Record C P)
  cs' = row F cs b (newer_from F cs m a b)

  test : ℕ → Bool
  test f = is_stale (judged m F cs b a f)

  test_is : (f : ℕ) → f < F → test f ≡ (inside (h.behind b f) (h.behind a f) && not (inside (h.behind a f) (h.behind b f)))
  unfolding test
  test_is f lf = ap is_stale (verdict_sets m sound F opening (slice_get bs) (at F cs) h well inv b a f ub ua lf) ∙ stale_is (inside (h.behind a f) (h.behind b f)) (inside (h.behind b f) (h.behind a f))

  here : (f : ℕ) → f < F → at F cs' b f ≡ cond (test f) (at F cs a f) (at F cs b f)
  unfolding test cs'
  here f lf = row_newer F cs a b f lf (omega (arith, place_within (length bs) F a f la lf)) (omega (arith, place_within (length bs) F b f lb lf)) m

  pub there : (c f : ℕ) → f < F → (c ≡ b → ⊥) → at F cs' c f ≡ at F cs c f
  unfolding cs'
  there c f lf ne = row_there F cs b (newer_from F cs m a b) c f lf ne

  -- the copy of b afterwards, with its set
  merged : (f : ℕ) → f < F → (o : ℕ) × (works_in (slice_get bs o) ≡ true) × (at F cs' b f ≡ at F cs o f) × (larger h a b f ≡ h.behind o f)
  merged f lf = ⊎_elim
      (λ e. (a, ua, here f lf ∙ cond-true (test f) _ _ e, cond-true _ _ _ (sym (test_is f lf) ∙ e)))
      (λ e. (b, ub, here f lf ∙ cond-false (test f) _ _ e, cond-false _ _ _ (sym (test_is f lf) ∙ e)))
      (cases_Bool (test f))

  pub b_within : (f l s : ℕ) → f < F → m.knows (clock_at m F cs b f) l s ≡ true → m.knows (clock_in m (at F cs' b f)) l s ≡ true
  b_within f l s lf kn = ⊎_elim
      (λ e. ap (λ (r : Option (Record C P)). m.knows (clock_in m r) l s) (here f lf ∙ cond-true (test f) _ _ e)
      ∙ (sound.covers _ _ (well a f) (well b f)).0
      (covers_inside m sound F opening (slice_get bs) (at F cs) h well inv a b f ua ub lf ∙ (and_parts (inside (h.behind b f) (h.behind a f)) (not (inside (h.behind a f) (h.behind b f))) (sym (test_is f lf) ∙ e)).0) l s kn)
      (λ e. ap (λ (r : Option (Record C P)). m.knows (clock_in m r) l s) (here f lf ∙ cond-false (test f) _ _ e) ∙ kn)
      (cases_Bool (test f))

  pub merge_source : (c f : ℕ) → working bs c ≡ true → f < F → (o : ℕ) × (works_in (slice_get bs o) ≡ true) × (at F cs' c f ≡ at F cs o f) × (put h.behind b (larger h a b) c f ≡ h.behind o f)
  merge_source c f uc lf = ⊎_elim
      (λ e. let o = merged f lf in (
        o.0,
        o.1,
        subst (λ z. at F cs' z f ≡ at F cs o.0 f) (sym e) o.2,
        subst (λ z. put h.behind b (larger h a b) z f ≡ h.behind o.0 f) (sym e) (ap (λ (g : ℕ → List ℕ). g f) (put_same h.behind b (larger h a b)) ∙ o.3),
      ))
      (λ e. (c, uc, there c f lf e, ap (λ (g : ℕ → List ℕ). g f) (put_other h.behind b c (larger h a b) e)))
      (cases_eq c b)

  pub merge_up : (c f l s : ℕ) → f < F → m.knows (clock_at m F cs c f) l s ≡ true → m.knows (clock_in m (at F cs' c f)) l s ≡ true
  merge_up c f l s lf kn = ⊎_elim
      (λ e. subst (λ z. m.knows (clock_in m (at F cs' z f)) l s ≡ true) (sym e) (b_within f l s lf (subst (λ z. m.knows (clock_at m F cs z f) l s ≡ true) e kn)))
      (λ e. ap (λ (r : Option (Record C P)). m.knows (clock_in m r) l s) (there c f lf e) ∙ kn)
      (cases_eq c b)

  -- where no file is in conflict, b's copy afterwards knows all of a's
  pub a_within : ((f : ℕ) → f < F → is_conflict (judged m F cs b a f) ≡ false) → (f l s : ℕ) → f < F → m.knows (clock_at m F cs a f) l s ≡ true → m.knows (clock_in m (at F cs' b f)) l s ≡ true
  unfolding test
  a_within calm f l s lf kn = ⊎_elim
      (λ e. ap (λ (r : Option (Record C P)). m.knows (clock_in m r) l s) (here f lf ∙ cond-true (test f) _ _ e) ∙ kn)
      (λ e. b_within f l s lf ((sound.covers _ _ (well b f) (well a f)).0
      (covers_else (m.covers (clock_at m F cs b f) (clock_at m F cs a f)) (m.covers (clock_at m F cs a f) (clock_at m F cs b f)) (calm f lf) e) l s kn))
      (cases_Bool (test f))
