-- Sets of edits as lists: membership, inclusion, union, and a function changed at one place.
use Rattle.std.proofs.Common.{◌≡◌, ℕ, Bool, true, false, ◌&&◌, ◌||◌, eqb, ◌⊎◌, List, [], ◌∷◌, ◌++◌, sym, refl, ap, ◌∙◌, ⊎_elim}
use Rattle.std.proofs.lemmas.Bool.{false_from_ne_true, both_ways, eqb-true, eq-eqb, ne_eqb, and_parts, and_from, or_cases, or_left, or_right, cond-true, cond-false}
use Rattle.yard_rules.specs.History.{has, inside, put, put2, Inside}

pub inside-to : (s t : List ℕ) → inside s t ≡ true → Inside s t
inside-to [] t e n h = absurd (both_ways false refl h)
inside-to (k ∷ s) t e n h =
    ⊎_elim (λ q. rw (eqb-true n k q) (and_parts (has t k) (inside s t) e).0) (λ q. inside-to s t (and_parts (has t k) (inside s t) e).1 n q) (or_cases (eqb n k) (has s n) h)

pub to_inside : (s t : List ℕ) → Inside s t → inside s t ≡ true
to_inside [] t f = refl
to_inside (k ∷ s) t f = and_from (has t k) (inside s t) (f k (or_left (eqb k k) (has s k) (eq-eqb k k refl))) (to_inside s t (λ n h. f n (or_right (eqb n k) (has s n) h)))

pub has_append : (s t : List ℕ) (n : ℕ) → has (s ++ t) n ≡ (has s n || has t n)
has_append [] t n = refl
has_append (k ∷ s) t n = ap (λ x. eqb n k || x) (has_append s t n) ∙ or_assoc (eqb n k) (has s n) (has t n)
  where
    or_assoc : (a b c : Bool) → (a || (b || c)) ≡ ((a || b) || c)
    or_assoc true b c = refl
    or_assoc false b c = refl

pub has_left : (s t : List ℕ) (n : ℕ) → has s n ≡ true → has (s ++ t) n ≡ true
has_left s t n h = has_append s t n ∙ or_left (has s n) (has t n) h

pub has_right : (s t : List ℕ) (n : ℕ) → has t n ≡ true → has (s ++ t) n ≡ true
has_right s t n h = has_append s t n ∙ or_right (has s n) (has t n) h

pub has_either : (s t : List ℕ) (n : ℕ) → has (s ++ t) n ≡ true → (has s n ≡ true) ⊎ (has t n ≡ true)
has_either s t n h = or_cases (has s n) (has t n) (sym (has_append s t n) ∙ h)

pub put_same : {A : Type 0} (g : ℕ → A) (n : ℕ) (v : A) → put g n v n ≡ v
put_same g n v = cond-true (eqb n n) v (g n) (eq-eqb n n refl)

pub put_other : {A : Type 0} (g : ℕ → A) (n k : ℕ) (v : A) → (k ≡ n → ⊥) → put g n v k ≡ g k
put_other g n k v ne = cond-false (eqb k n) v (g k) (ne_eqb k n ne)

pub put2-same : {A : Type 0} (g : ℕ → ℕ → A) (a f : ℕ) (v : A) → put2 g a f v a f ≡ v
put2-same g a f v = cond-true (eqb a a && eqb f f) v (g a f) (and_from (eqb a a) (eqb f f) (eq-eqb a a refl) (eq-eqb f f refl))

pub put2_other : {A : Type 0} (g : ℕ → ℕ → A) (a f b k : ℕ) (v : A) → ((b ≡ a) × (k ≡ f) → ⊥) → put2 g a f v b k ≡ g b k
put2_other g a f b k v ne =
    cond-false (eqb b a && eqb k f) v (g b k) (false_from_ne_true (eqb b a && eqb k f) (λ e. ne (eqb-true b a (and_parts (eqb b a) (eqb k f) e).0, eqb-true k f (and_parts (eqb b a) (eqb k f) e).1)))
