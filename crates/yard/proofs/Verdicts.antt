-- Verdicts as the code reads them off records, and counts them, file by file.
use Rattle.std.proofs.Common.{◌≡◌, ℕ, zero, suc, ◌+◌, ◌*◌, ◌<◌, ◌≤◌, Bool, true, false, cond, List, length, take, get_or, set, Some, sym, refl, ap, ◌∙◌, subst, add-one, arith, length-set}
use Rattle.std.specs.Prelude.{◌==◌, count_by, nat_lt}
use Rattle.std.proofs.lemmas.List.Sums.{count_by_more_yes, count_by_more_no}
use Rattle.std.proofs.lemmas.Option.{get_or_from_slice_get}
use Rattle.std.specs.List.{slice_get}
use Rattle.clock.specs.declared.verdicts.Verdict.{Verdict}
use Rattle.clock.specs.declared.verdicts.Verdict.TheVariants.{Equal, Stale, Ahead, Conflict}
use Rattle.clock.specs.Verdicts.{byte_of}
use Rattle.clock.specs.Meaning.{Meaning}
use Rattle.yard_rules.specs.declared.tables.Record.{Record}
use Rattle.yard_rules.specs.Tables.{clock_in, against, judged, is_equal, is_stale, is_ahead, is_conflict, reported, count}
use Rattle.yard_rules.proofs.Lookups.{entry, over, length_each}
use Rattle.yard.proofs.Upto.{nth_done, upto_set, upto-none}

-- the records x and z, read at places i and j
pub verdict_read : {Pen C P : Type 0} (m : Meaning Pen C) (F : ℕ) (cs : List (Record C P)) (a b f i j : ℕ) (x z : Record C P) → i ≡ a * F + f → j ≡ b * F + f → slice_get cs i ≡ Some x → slice_get cs j ≡ Some z → against m x.clock z.clock ≡ judged m F cs a b f
verdict_read m F cs a b f i j x z ei ej ex ez =
    let ex' : slice_get cs (a * F + f) ≡ Some x = subst (λ n. slice_get cs n ≡ Some x) ei ex in
    let ez' : slice_get cs (b * F + f) ≡ Some z = subst (λ n. slice_get cs n ≡ Some z) ej ez in
    sym (λ k. against m (clock_in m (ex' k)) (clock_in m (ez' k)))

pub is_not_conflict : (v : Verdict) → (v ≡ Conflict → ⊥) → is_conflict v ≡ false
is_not_conflict Equal n = refl
is_not_conflict Stale n = refl
is_not_conflict Ahead n = refl
is_not_conflict Conflict n = absurd (n refl)

-- the buffer, one file further
pub reported_more : (n : ℕ) (v : ℕ → Verdict) (bytes now : List ℕ) (y : ℕ) → n < length bytes → now ≡ reported n v bytes → y ≡ byte_of (v n) → set now n y ≡ reported (n + 1) v bytes
reported_more n v bytes now y lt e ey = let x = entry bytes n lt in ap (λ (l : List ℕ). set l n y) e ∙ upto_set (λ f z. byte_of (v f)) bytes n x.0 y x.1 ey

-- the same, where f and m are the file and one more
pub told_more : (n m f : ℕ) (v : ℕ → Verdict) (bytes now : List ℕ) (y : ℕ) (w : Verdict) → f ≡ n → m ≡ n + 1 → n < length bytes → now ≡ reported n v bytes → y ≡ byte_of w → w ≡ v n → set now f y ≡ reported m v bytes
told_more n m f v bytes now y w ef em lt e ey ew = ap (λ k. set now k y) ef ∙ reported_more n v bytes now y lt e (ey ∙ ap byte_of ew) ∙ ap (λ k. reported k v bytes) (sym em)

-- a byte written leaves the buffer's length
pub told_length : (bytes now : List ℕ) (f y : ℕ) → length now ≡ length bytes → length (set now f y) ≡ length bytes
told_length bytes now f y e = length-set now f y ∙ e

-- the same, once every file is told
pub told_all : (F n : ℕ) (v : ℕ → Verdict) (bytes now : List ℕ) → n ≡ F → now ≡ reported n v bytes → now ≡ reported F v bytes
told_all F n v bytes now e is = is ∙ ap (λ k. reported k v bytes) e

pub reported-none : (v : ℕ → Verdict) (bytes : List ℕ) → bytes ≡ reported 0 v bytes
reported-none v bytes = sym (upto-none (λ f z. byte_of (v f)) bytes)

-- byte f of a report
told : (F f : ℕ) (v : ℕ → Verdict) (bytes : List ℕ) → f < F → F ≤ length bytes → get_or (reported F v bytes) f 0 ≡ byte_of (v f)
told F f v bytes lt le =
    let x = entry bytes f (omega arith) in
    get_or_from_slice_get (reported F v bytes) f (byte_of (v f)) 0 (nth_done (λ g z. byte_of (v g)) bytes F f lt ∙ ap (over (λ z. byte_of (v f))) x.1)

-- counting over one more byte
count_by_more : (p : ℕ → Bool) (xs : List ℕ) (i : ℕ) → i < length xs → count_by p (take (i + 1) xs) ≡ cond (p (get_or xs i 0)) (count_by p (take i xs) + 1) (count_by p (take i xs))
count_by_more p xs i lt = go (p (get_or xs i 0)) refl
  where
    go : (b : Bool) → p (get_or xs i 0) ≡ b → count_by p (take (i + 1) xs) ≡ cond b (count_by p (take i xs) + 1) (count_by p (take i xs))
    go true e = count_by_more_yes p xs i 0 lt e
    go false e = count_by_more_no p xs i 0 lt e

module _ (F : ℕ) (v : ℕ → Verdict) (bytes : List ℕ) (le : F ≤ length bytes) (w : Verdict) (test : Verdict → Bool) (is : (x : Verdict) → (byte_of x == byte_of w) ≡ test x) where
  counts_below : (n : ℕ) → n ≤ F → count_by (λ b. b == byte_of w) (take n (reported F v bytes)) ≡ count n (λ f. test (v f))
  counts_below zero h = refl
  counts_below (suc n) h =
      let l : n < length (reported F v bytes) = omega (arith, length_each (λ f z. cond (nat_lt f F) (byte_of (v f)) z) bytes) in
      let here : (get_or (reported F v bytes) n 0 == byte_of w) ≡ test (v n) = ap (λ z. z == byte_of w) (told F n v bytes (omega arith) le) ∙ is (v n) in
      let rest = counts_below n (omega arith) in
      ap (λ k. count_by (λ b. b == byte_of w) (take k (reported F v bytes))) (sym (add-one n))
      ∙ count_by_more (λ b. b == byte_of w) (reported F v bytes) n l
      ∙ (λ k. cond (here k) (rest k + 1) (rest k))
      ∙ ap (λ k. cond (test (v n)) k (count n (λ f. test (v f)))) (add-one (count n (λ f. test (v f))))

  -- the bytes of a report that tell a verdict are as many as the files with it
  pub counts_told : (now : List ℕ) (r : ℕ) → now ≡ reported F v bytes → r ≡ count_by (λ b. b == byte_of w) (take F now) → r ≡ count F (λ f. test (v f))
  counts_told now r e q = q ∙ ap (λ l. count_by (λ b. b == byte_of w) (take F l)) e ∙ counts_below F (omega arith)

-- the bytes of the four verdicts
pub told_equal : (x : Verdict) → (byte_of x == byte_of Equal) ≡ is_equal x
told_equal = elim [ Equal ↦ refl | Stale ↦ refl | Ahead ↦ refl | Conflict ↦ refl ]

pub told_stale : (x : Verdict) → (byte_of x == byte_of Stale) ≡ is_stale x
told_stale = elim [ Equal ↦ refl | Stale ↦ refl | Ahead ↦ refl | Conflict ↦ refl ]

pub told_ahead : (x : Verdict) → (byte_of x == byte_of Ahead) ≡ is_ahead x
told_ahead = elim [ Equal ↦ refl | Stale ↦ refl | Ahead ↦ refl | Conflict ↦ refl ]

pub told_conflict : (x : Verdict) → (byte_of x == byte_of Conflict) ≡ is_conflict x
told_conflict = elim [ Equal ↦ refl | Stale ↦ refl | Ahead ↦ refl | Conflict ↦ refl ]
