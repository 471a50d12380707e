-- Reading tables by `nth` after a write: one entry, each entry, a berth's row, the bytes of a report.
use Rattle.std.proofs.Common.{◌≡◌, ℕ, zero, suc, ◌+◌, ◌*◌, ◌<◌, ◌≤◌, Bool, true, false, cond, eqb, List, [], ◌∷◌, length, get_or, set, Some, None, Option, sym, refl, ap, ◌∙◌, subst, ⊎_elim, mul-le-mul_right, mul-le-mul_left, arith, length-set}
use Rattle.std.specs.List.{slice_get}
use Rattle.std.proofs.lemmas.Nat.{div-mul-add, mod-mul-add}
use Rattle.std.proofs.lemmas.Bool.{cases_eq, cases_order, cond-true, eq-eqb, ne_eqb, lt-ltb}
use Rattle.clock.specs.declared.verdicts.Verdict.{Verdict}
use Rattle.clock.specs.Meaning.{Meaning}
use Rattle.clock.specs.Verdicts.{byte_of}
use Rattle.yard_rules.specs.declared.tables.Record.{Record}
use Rattle.yard_rules.specs.Tables.{each, row, copy_from, newer_from, or_else, judged, is_stale, reported}

pub nth_set_same : {A : Type 0} (xs : List A) (i : ℕ) (x : A) → i < length xs → slice_get (set xs i x) i ≡ Some x
nth_set_same [] i x lt = absurd (omega arith)
nth_set_same (y ∷ xs) zero x lt = refl
nth_set_same (y ∷ xs) (suc i) x lt = nth_set_same xs i x (omega arith)

pub nth_set_other : {A : Type 0} (xs : List A) (i k : ℕ) (x : A) → (k ≡ i → ⊥) → slice_get (set xs i x) k ≡ slice_get xs k
nth_set_other [] i k x ne = refl
nth_set_other (y ∷ xs) zero zero x ne = absurd (ne refl)
nth_set_other (y ∷ xs) zero (suc k) x ne = refl
nth_set_other (y ∷ xs) (suc i) zero x ne = refl
nth_set_other (y ∷ xs) (suc i) (suc k) x ne = nth_set_other xs i k x (λ e. ne (ap suc e))

pub length_each : {A : Type 0} (new : ℕ → A → A) (xs : List A) → length (each new xs) ≡ length xs
length_each new [] = refl
length_each new (x ∷ xs) = ap suc (length_each (λ i. new (suc i)) xs)

-- a function on an entry, if there is one
abbrev pub over : {A : Type 0} → (A → A) → Option A → Option A
over f (Some x) = Some (f x)
over f None = None

pub nth_each : {A : Type 0} (new : ℕ → A → A) (xs : List A) (i : ℕ) → slice_get (each new xs) i ≡ over (new i) (slice_get xs i)
nth_each new [] i = refl
nth_each new (x ∷ xs) zero = refl
nth_each new (x ∷ xs) (suc i) = nth_each (λ i. new (suc i)) xs i

pub over-same : {A : Type 0} (o : Option A) → over (λ x. x) o ≡ o
over-same (Some x) = refl
over-same None = refl

-- an entry that is there
pub entry : {A : Type 0} (xs : List A) (i : ℕ) → i < length xs → (x : A) × (slice_get xs i ≡ Some x)
entry [] i lt = absurd (omega arith)
entry (x ∷ xs) zero lt = (x, refl)
entry (x ∷ xs) (suc i) lt = entry xs i (omega arith)

-- places of the copy table
pub place_differs : (F c g a f : ℕ) → g < F → f < F → ((c ≡ a) × (g ≡ f) → ⊥) → c * F + g ≡ a * F + f → ⊥
place_differs F c g a f lg lf ne e = ⊎_elim
    (λ q. ne (q, omega (arith, ap (λ x. x * F) q)))
    (λ q. ⊎_elim (λ r. omega (arith, mul-le-mul_right F r)) (λ r. omega (arith, mul-le-mul_right F r)) q)
    (cases_order c a)

pub place_within : (B F a f : ℕ) → a < B → f < F → a * F + f < B * F
place_within B F a f la lf = omega (arith, mul-le-mul_right F la)

-- a table of n records and B berths has one number of files
pub same_files : (B F G n : ℕ) → 1 ≤ B → n ≡ B * F → n ≡ B * G → F ≡ G
same_files B F G n one p q = ⊎_elim (λ e. e) (λ e. absurd (⊎_elim (λ r. omega (arith, mul-le-mul_left B r)) (λ r. omega (arith, mul-le-mul_left B r)) e)) (cases_order F G)

module _ {C P : Type 0} (F : ℕ) (cs : List (Record C P)) (b : ℕ) (new : ℕ → Record C P → Record C P) where
  pub row_at : (c f : ℕ) → f < F → slice_get (row F cs b new) (c * F + f) ≡ over (λ r. cond (eqb c b) (new f r) r) (slice_get cs (c * F + f))
  row_at c f lf = nth_each _ cs (c * F + f) ∙ rw (div-mul-add c F f lf, mod-mul-add c F f lf)

  pub row_here : (f : ℕ) → f < F → slice_get (row F cs b new) (b * F + f) ≡ over (new f) (slice_get cs (b * F + f))
  row_here f lf = row_at b f lf ∙ rw (eq-eqb b b refl)

  pub row_there : (c f : ℕ) → f < F → (c ≡ b → ⊥) → slice_get (row F cs b new) (c * F + f) ≡ slice_get cs (c * F + f)
  row_there c f lf ne = row_at c f lf ∙ rw (ne_eqb c b ne) (over-same (slice_get cs (c * F + f)))

-- a row that was copied, and one whose stale copies were replaced
module _ {C P : Type 0} (F : ℕ) (cs : List (Record C P)) (a b f : ℕ) (lf : f < F) (la : a * F + f < length cs) (lb : b * F + f < length cs) where
  pub copied : over (copy_from F cs a f) (slice_get cs (b * F + f)) ≡ slice_get cs (a * F + f)
  copied = let x = entry cs (a * F + f) la in let z = entry cs (b * F + f) lb in
      ap (over (copy_from F cs a f)) z.1 ∙ ap (λ (o : Option (Record C P)). Some (or_else o z.0)) x.1 ∙ sym x.1

  pub row_copied : slice_get (row F cs b (copy_from F cs a)) (b * F + f) ≡ slice_get cs (a * F + f)
  row_copied = row_here F cs b (copy_from F cs a) f lf ∙ copied

  pub row_newer : {Pen : Type 0} (m : Meaning Pen C) → slice_get (row F cs b (newer_from F cs m a b)) (b * F + f) ≡ cond (is_stale (judged m F cs b a f)) (slice_get cs (a * F + f)) (slice_get cs (b * F + f))
  row_newer m = row_here F cs b (newer_from F cs m a b) f lf ∙ go (is_stale (judged m F cs b a f))
    where
      go : (t : Bool) → over (λ r. cond t (copy_from F cs a f r) r) (slice_get cs (b * F + f)) ≡ cond t (slice_get cs (a * F + f)) (slice_get cs (b * F + f))
      go true = copied
      go false = over-same (slice_get cs (b * F + f))

pub get_or-each : {A : Type 0} (new : ℕ → A → A) (xs : List A) (i : ℕ) (d : A) → i < length xs → get_or (each new xs) i d ≡ new i (get_or xs i d)
get_or-each new [] i d lt = absurd (omega arith)
get_or-each new (x ∷ xs) zero d lt = refl
get_or-each new (x ∷ xs) (suc i) d lt = get_or-each (λ i. new (suc i)) xs i d (omega arith)

pub reported_byte : (F : ℕ) (v : ℕ → Verdict) (bytes : List ℕ) → F ≤ length bytes → (f : ℕ) → f < F → get_or (reported F v bytes) f 0 ≡ byte_of (v f)
reported_byte F v bytes roomy f lf = get_or-each _ bytes f 0 (omega arith) ∙ cond-true _ _ _ (lt-ltb f F lf)

-- the record of a berth and a file, if there is one
abbrev pub at : {C P : Type 0} → ℕ → List (Record C P) → ℕ → ℕ → Option (Record C P)
at F cs b f = slice_get cs (b * F + f)

-- a number is a, or b, or another
pub three_ways : (X : ℕ → Type 0) (a b c : ℕ) → X a → X b → ((c ≡ a → ⊥) → (c ≡ b → ⊥) → X c) → X c
three_ways X a b c x y z = ⊎_elim (λ e. subst X (sym e) x) (λ na. ⊎_elim (λ e. subst X (sym e) y) (λ nb. z na nb) (cases_eq c b)) (cases_eq c a)

-- two berths written, one after the other
module _ {A : Type 0} (xs : List A) (a b : ℕ) (x y : A) (la : a < length xs) (lb : b < length xs) (ne : a ≡ b → ⊥) where
  pub two_first : slice_get (set (set xs a x) b y) a ≡ Some x
  two_first = nth_set_other (set xs a x) b a y ne ∙ nth_set_same xs a x la

  pub two_second : slice_get (set (set xs a x) b y) b ≡ Some y
  two_second = nth_set_same (set xs a x) b y (rw (length-set xs a x) lb)

  pub two_other : (c : ℕ) → (c ≡ a → ⊥) → (c ≡ b → ⊥) → slice_get (set (set xs a x) b y) c ≡ slice_get xs c
  two_other c na nb = nth_set_other (set xs a x) b c y nb ∙ nth_set_other xs a c x na

-- the record of berth b and file f is written, in a table of n berths
module _ {C P : Type 0} (n F : ℕ) (cs : List (Record C P)) (sizes : length cs ≡ n * F) (b f : ℕ) (r : Record C P) (lb : b < n) (lf : f < F) where
  pub set_here : at F (set cs (b * F + f) r) b f ≡ Some r
  set_here = nth_set_same cs (b * F + f) r (omega (arith, place_within n F b f lb lf))

  pub set_there : (x g : ℕ) → g < F → ((x ≡ b) × (g ≡ f) → ⊥) → at F (set cs (b * F + f) r) x g ≡ at F cs x g
  set_there x g lg ne = nth_set_other cs (b * F + f) (x * F + g) r (place_differs F x g b f lg lf ne)
