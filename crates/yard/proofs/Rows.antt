-- The entries of a row that a loop over it has left.
use Rattle.std.proofs.Common.{◌≡◌, ℕ, suc, ◌+◌, ◌-◌, ◌*◌, ◌<◌, ◌≤◌, List, ◌∷◌, length, get_or, drop, take, Some, sym, refl, ap, ◌∙◌, ⊎_elim, add-one, arith}
use Rattle.std.specs.List.{slice_get}
use Rattle.std.proofs.Math.Seq.{drop-cons}
use Rattle.std.proofs.lemmas.List.{get_or-drop, get_or-take, length-take, length-drop, drop_all}
use Rattle.std.proofs.lemmas.Option.{slice_get_read}
use Rattle.std.proofs.lemmas.Bool.{cases_lt}
use Rattle.clock.specs.declared.verdicts.Verdict.{Verdict}
use Rattle.clock.specs.Meaning.{Meaning}
use Rattle.yard_rules.specs.declared.tables.Record.{Record}
use Rattle.yard_rules.specs.Tables.{against, judged}
use Rattle.yard.proofs.Verdicts.{verdict_read}

-- what is left of the F entries from start on, after the first n of them
abbrev pub left_of : {A : Type 0} → ℕ → ℕ → ℕ → List A → List A
left_of F start n cs = drop n (take F (drop start cs))

module _ {A : Type 0} (F start n : ℕ) (cs rest : List A) (is : rest ≡ left_of F start n cs) where
  within : (x : A) (more : List A) → rest ≡ x ∷ more → n < length (take F (drop start cs))
  within x more e = ⊎_elim (λ lt. lt) (λ ge. let z : length (x ∷ more) ≡ 0 = ap length (sym e ∙ is ∙ drop_all n (take F (drop start cs)) ge) in absurd (omega arith)) (cases_lt n (length (take F (drop start cs))))

  -- the next entry, and what is left after it
  pub next_of : (x : A) (more : List A) → rest ≡ x ∷ more → (n < F) × (slice_get cs (start + n) ≡ Some x) × (more ≡ left_of F start (n + 1) cs)
  next_of x more e =
      let xs = take F (drop start cs) in
      let lt = within x more e in
      let nF : n < F = omega (arith, length-take F (drop start cs)) in
      let inside : start + n < length cs = omega (arith, length-take F (drop start cs), length-drop start cs) in
      let q : x ∷ more ≡ get_or xs n x ∷ drop (suc n) xs = sym e ∙ is ∙ drop-cons xs n x lt in
      let here : x ≡ get_or xs n x = cc in
      let there : more ≡ drop (suc n) xs = cc in (
        nF,
        slice_get_read cs (length cs) (start + n) x refl inside (here ∙ get_or-take F (drop start cs) n x nF ∙ get_or-drop start cs n x),
        there ∙ ap (λ k. drop k xs) (sym (add-one n)),
      )

  -- none is left only at the end
  pub none_left : length rest ≡ 0 → start + F ≤ length cs → F ≤ n
  none_left z le = let q : length (left_of F start n cs) ≡ 0 = sym (ap length is) ∙ z in omega (arith, length-drop n (take F (drop start cs)), length-take F (drop start cs), length-drop start cs)

-- of two berths' rows, read side by side: the records x and y of file n, and what is left after them, from file k on
pub record Pair {Pen C P : Type 0} (m : Meaning Pen C) (F a b n k : ℕ) (cs : List (Record C P)) (x y : Record C P) (xs ys : List (Record C P)) : Type 0 where
  pub below : n < F
  pub first : slice_get cs (a * F + n) ≡ Some x
  pub second : slice_get cs (b * F + n) ≡ Some y
  pub verdict : (v : Verdict) → v ≡ against m x.clock y.clock → v ≡ judged m F cs a b n
  pub first_left : xs ≡ left_of F (a * F) k cs
  pub second_left : ys ≡ left_of F (b * F) k cs

pub pair_of : {Pen C P : Type 0} (m : Meaning Pen C) (F a b n k : ℕ) (cs xs ys xs' ys' : List (Record C P)) (x y : Record C P) → k ≡ n + 1 → xs ≡ left_of F (a * F) n cs → ys ≡ left_of F (b * F) n cs → xs ≡ x ∷ xs' → ys ≡ y ∷ ys' → Pair m F a b n k cs x y xs' ys'
pair_of m F a b n k cs xs ys xs' ys' x y ek ex ey nx ny =
    let p = next_of F (a * F) n cs xs ex x xs' nx in
    let q = next_of F (b * F) n cs ys ey y ys' ny in
    record {
      below = p.0;
      first = p.1;
      second = q.1;
      verdict = λ v is. is ∙ verdict_read m F cs a b n _ _ x y refl refl p.1 q.1;
      first_left = p.2 ∙ ap (λ j. left_of F (a * F) j cs) (sym ek);
      second_left = q.2 ∙ ap (λ j. left_of F (b * F) j cs) (sym ek);
    }

-- a row, as the code cuts it out of the table
pub all_left : {A : Type 0} (F start i end n : ℕ) (cs rest : List A) → i ≡ start → end ≡ start + F → n ≡ 0 → rest ≡ take (end - i) (drop i cs) → rest ≡ left_of F start n cs
all_left F start i end n cs rest ei ee en is =
    let len : end - i ≡ F = omega arith in
    is ∙ (λ k. take (len k) (drop (ei k) cs)) ∙ ap (λ k. drop k (take F (drop start cs))) (sym en)
