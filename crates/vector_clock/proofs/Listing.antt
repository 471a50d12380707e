-- A list of numbers that is written one by one.
use Rattle.std.proofs.Common.{◌≡◌, ℕ, ◌+◌, Bool, true, false, cond, List, [], ◌∷◌, ◌++◌, refl, sym, ap, ◌∙◌, arith, zero, suc, ◌≤◌, length, take, nat_lt}
use Rattle.std.specs.Fmt.{HasWritten}
use Rattle.std.specs.declared.fmt.Formatter.{Formatter}
use Rattle.std.specs.List.{filter, range_with_len}
use Rattle.std.proofs.lemmas.List.{append_assoc, append-nil, map-id}
use Rattle.std.proofs.lemmas.List.FromFn.{filter_of_map_range_with_len_more}
use Rattle.std.proofs.lemmas.Bool.{lt-ltb}
use Rattle.std.proofs.Output.{has_written_append, has_written_of_eq, has_written_to_eq}
use Rattle.vector_clock.specs.declared.pens.Names.{Names}
use Rattle.vector_clock.specs.Pens.{in_pen}
use Rattle.vector_clock.specs.Texts.{commas, names_below, item_text}

-- others stand before the next number
abbrev pub some : List ℕ → Bool
some [] = false
some (n ∷ ns) = true

pub some_more : (ns : List ℕ) (k : ℕ) → some (ns ++ (k ∷ [])) ≡ true
some_more [] k = refl
some_more (n ∷ ns) k = refl

pub commas_more : (ns : List ℕ) (k : ℕ) → commas (ns ++ (k ∷ [])) ≡ commas ns ++ item_text (some ns) k
commas_more [] k = refl
commas_more (n ∷ []) k = refl
commas_more (n ∷ m ∷ ns) k = ap (λ text. commas (n ∷ []) ++ (44 ∷ text)) (commas_more (m ∷ ns) k) ∙ sym (append_assoc (commas (n ∷ [])) (44 ∷ commas (m ∷ ns)) (item_text (some (m ∷ ns)) k))

-- one more name, held or not
pub names_more : {n : ℕ} (p : Names n) (k : ℕ) → names_below p (k + 1) ≡ names_below p k ++ cond (in_pen p k) (k ∷ []) []
names_more p k =
    ap (filter (in_pen p)) (sym (map-id (range_with_len 0 (k + 1))))
    ∙ filter_of_map_range_with_len_more (in_pen p) (λ i. i) 0 k k (omega arith)
    ∙ ap (λ names. filter (in_pen p) names ++ cond (in_pen p k) (k ∷ []) []) (map-id (range_with_len 0 k))

-- an opening bracket and some numbers, and then one number more
pub item_written : {W : Type 0} (took : W → List ℕ → W → Type 0) (f g h h' : Formatter W) (bracket : ℕ) (ns : List ℕ) (k : ℕ) (after : Bool) → after ≡ some ns → h' ≡ h
    → HasWritten took f (bracket ∷ commas ns) g → HasWritten took g (item_text after k) h → HasWritten took f (bracket ∷ commas (ns ++ (k ∷ []))) h'
item_written took f g h h' bracket ns k after is same before written =
    has_written_to_eq took f _ h h' same
    (has_written_of_eq took f _ _ h (ap (λ b. bracket ∷ (commas ns ++ item_text b k)) is ∙ ap (λ text. bracket ∷ text) (sym (commas_more ns k)))
    (has_written_append took f _ g _ h before written))

-- some of the first k numbers stand before the next, where k is not 0
pub some_first : (ns : List ℕ) (k : ℕ) → k ≤ length ns → nat_lt 0 k ≡ some (take k ns)
some_first ns zero h = refl
some_first [] (suc k) h = absurd (omega arith)
some_first (n ∷ ns) (suc k) h = lt-ltb 0 (suc k) (omega arith)

pub names_held : {n : ℕ} (p : Names n) (k : ℕ) → in_pen p k ≡ true → names_below p (k + 1) ≡ names_below p k ++ (k ∷ [])
names_held p k h = names_more p k ∙ ap (λ b. names_below p k ++ cond b (k ∷ []) []) h

pub names_absent : {n : ℕ} (p : Names n) (k : ℕ) → in_pen p k ≡ false → names_below p (k + 1) ≡ names_below p k
names_absent p k h = names_more p k ∙ ap (λ b. names_below p k ++ cond b (k ∷ []) []) h ∙ append-nil (names_below p k)
