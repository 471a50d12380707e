-- What the history keeps: every edit behind some copy is behind some copy after an accepted call but drop.
use Rattle.std.proofs.Common.{◌≡◌, ℕ, ◌<◌, Bool, true, false, cond, not, ◌&&◌, eqb, ◌⊎◌, List, ◌∷◌, sym, refl, ap, ◌∙◌, subst, inl, inr, ⊎_elim}
use Rattle.std.proofs.lemmas.Bool.{both_ways, eqb-true, and_parts, or_right, cases_Bool, cases_eq, cond-true, cond-false}
use Rattle.clock.specs.declared.verdicts.Verdict.{Verdict}
use Rattle.clock.specs.declared.verdicts.Verdict.TheVariants.{Equal, Stale, Ahead, Conflict}
use Rattle.clock.specs.Verdicts.{byte_of}
use Rattle.yard_rules.specs.Tables.{is_conflict}
use Rattle.yard_rules.specs.History.{has, inside, History, put, larger, numbered, moved_to, Inside, Compares, ComparesByte, Still}
use Rattle.yard_rules.proofs.Sets.{inside-to, to_inside, put_same, put_other}

pub conflict_is : (v : Verdict) → is_conflict v ≡ true → v ≡ Conflict
conflict_is Equal e = absurd (both_ways false refl e)
conflict_is Stale e = absurd (both_ways false refl e)
conflict_is Ahead e = absurd (both_ways false refl e)
conflict_is Conflict e = refl

pub is_no_conflict : (v : Verdict) → is_conflict v ≡ false → v ≡ Conflict → ⊥
is_no_conflict v e q = both_ways (is_conflict v) e (ap is_conflict q)

pub byte_compares : (byte : ℕ) (v : Verdict) (s t : List ℕ) → byte ≡ byte_of v → Compares v s t → ComparesByte byte s t
byte_compares byte v s t e c = record { verdict = v; is = e; compares = c }

-- the sets of two copies that are not in conflict
pub nested : (v : Verdict) (s t : List ℕ) → Compares v s t → is_conflict v ≡ false → (Inside s t) ⊎ (Inside t s)
nested v s t c ne = go (inside s t) refl (inside t s) refl
  where
    go : (x : Bool) → inside s t ≡ x → (y : Bool) → inside t s ≡ y → (Inside s t) ⊎ (Inside t s)
    go true p y q = inl (inside-to s t p)
    go false p true q = inr (inside-to t s q)
    go false p false q = absurd (is_no_conflict v ne (c.conflict.1 (λ i. both_ways (inside s t) p (to_inside s t i), λ i. both_ways (inside t s) q (to_inside t s i))))

module _ {P : Type 0} (files : ℕ) (h : History P) where
  pub same_still : Still files h h
  same_still b f n p lt hn = (b, p, hn)

  pub numbered_still : (b f : ℕ) (p : P) (S : List ℕ) → Inside (h.behind b f) S → Still files h (numbered h b f p S)
  numbered_still b f p S i c g n pc lt hn = (
    c,
    pc,
    ⊎_elim
        (λ e. rw (cond-true (eqb c b && eqb g f) (h.next ∷ S) (h.behind c g) e)
        (or_right (eqb n h.next) (has S n) (i n (at_b (and_parts (eqb c b) (eqb g f) e)))))
        (λ e. rw (cond-false (eqb c b && eqb g f) (h.next ∷ S) (h.behind c g) e) hn)
        (cases_Bool (eqb c b && eqb g f)),
  )
    where
      at_b : (eqb c b ≡ true) × (eqb g f ≡ true) → has (h.behind b f) n ≡ true
      at_b z = subst (λ j. has (h.behind b j) n ≡ true) (eqb-true g f z.1) (subst (λ x. has (h.behind x g) n ≡ true) (eqb-true c b z.0) hn)

  -- the new berth had no copies
  pub forked_still : (a b : ℕ) → h.present b ≡ false → Still files h (moved_to h (put h.present b true) (put h.behind b (h.behind a)))
  forked_still a b out c f n pc lt hn =
      let nb : c ≡ b → ⊥ = λ e. both_ways (h.present b) out (ap h.present (sym e) ∙ pc) in
      (c, put_other h.present b c true nb ∙ pc, rw (put_other h.behind b c (h.behind a) nb) hn)

  larger-keeps : (a b f n : ℕ) → has (h.behind b f) n ≡ true → has (larger h a b f) n ≡ true
  larger-keeps a b f n hn = go (inside (h.behind b f) (h.behind a f)) refl (not (inside (h.behind a f) (h.behind b f)))
    where
      go : (x : Bool) → inside (h.behind b f) (h.behind a f) ≡ x → (y : Bool) → has (cond (x && y) (h.behind a f) (h.behind b f)) n ≡ true
      go true e true = inside-to _ _ e n hn
      go true e false = hn
      go false e y = hn

  larger_takes : (a b f n : ℕ) → (Inside (h.behind b f) (h.behind a f)) ⊎ (Inside (h.behind a f) (h.behind b f)) → has (h.behind a f) n ≡ true → has (larger h a b f) n ≡ true
  larger_takes a b f n c hn = ⊎_elim (λ i. go (inside (h.behind b f) (h.behind a f)) (to_inside _ _ i) (inside (h.behind a f) (h.behind b f)) refl) (λ i. larger-keeps a b f n (i n hn)) c
    where
      go : (x : Bool) → x ≡ true → (y : Bool) → inside (h.behind a f) (h.behind b f) ≡ y → has (cond (x && not y) (h.behind a f) (h.behind b f)) n ≡ true
      go true e true q = inside-to _ _ q n hn
      go true e false q = hn
      go false e y q = absurd (both_ways false refl e)

  put_keeps : (a b c f n : ℕ) → has (h.behind c f) n ≡ true → has (put h.behind b (larger h a b) c f) n ≡ true
  put_keeps a b c f n hn = ⊎_elim
      (λ e. subst (λ z. has (put h.behind b (larger h a b) z f) n ≡ true) (sym e) (rw (put_same h.behind b (larger h a b)) (larger-keeps a b f n (subst (λ z. has (h.behind z f) n ≡ true) e hn))))
      (λ e. rw (put_other h.behind b c (larger h a b) e) hn)
      (cases_eq c b)

  pub pulled_still : (a b : ℕ) → Still files h (moved_to h h.present (put h.behind b (larger h a b)))
  pulled_still a b c f n pc lt hn = (c, pc, put_keeps a b c f n hn)

  -- where a's and b's sets are nested, b has all of a's afterwards
  pub retired_still : (a b : ℕ) → (a ≡ b → ⊥) → h.present b ≡ true → ((f : ℕ) → f < files → (Inside (h.behind b f) (h.behind a f)) ⊎ (Inside (h.behind a f) (h.behind b f))) → Still files h (moved_to h (put h.present a false) (put h.behind b (larger h a b)))
  retired_still a b ne pb nest c f n pc lt hn = ⊎_elim
      (λ e. (
        b,
        put_other h.present a b false (λ z. ne (sym z)) ∙ pb,
        rw (put_same h.behind b (larger h a b)) (larger_takes a b f n (nest f lt) (subst (λ z. has (h.behind z f) n ≡ true) e hn)),
      ))
      (λ e. (c, put_other h.present a c false e ∙ pc, put_keeps a b c f n hn))
      (cases_eq c a)
