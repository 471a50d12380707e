-- The edits behind each copy, and what is said of them: the words of the history law.
--
-- They are kept from the calls, their arguments and whether each was accepted. Nothing here is read
-- from a clock, a pen or a table.
--
-- edit             an accepted edit or settle; they are numbered from 0
-- set              a set of edits, as a list of their numbers
-- has, inside      whether a set has a number, and whether all of one set's are the other's
-- Edited           an edit's payload, and the edits behind it as it was made
-- History          the next number, the edits, which berths have copies, and the set behind each
--                  copy
-- start            the history after open
-- numbered         an edit with the next number
-- moved_to         the same edits, with other copies
-- larger           a's set where b's is properly inside it, else b's
-- Inside s t       all of s's edits are t's
-- Compares v s t   verdict v says how the set s stands against the set t
-- ComparesByte     the same of a byte of a report
-- Last set n p     edit n is in the set, was made with exactly all the others behind it, and with
--                  payload p
-- Holds            a copy holds the opening payload if no edit is behind it, else that of the one
--                  edit behind it that was made with exactly all the others behind it
-- Still            every edit behind some copy before is behind some copy after
use Rattle.std.specs.Prelude.{◌≡◌, ℕ, suc, ◌<◌, Bool, true, false, if◌then◌else◌, not, ◌&&◌, ◌||◌, ◌⊎◌, ◌↔◌, List, [], ◌∷◌, Some, None, Option, ◌==◌}
use Rattle.clock.specs.declared.verdicts.Verdict.{Verdict}
use Rattle.clock.specs.declared.verdicts.Verdict.TheVariants.{Equal, Stale, Ahead, Conflict}
use Rattle.clock.specs.Verdicts.{byte_of}

abbrev pub has : List ℕ → ℕ → Bool
has [] n = false
has (k ∷ ks) n = n == k || has ks n

abbrev pub inside : List ℕ → List ℕ → Bool
inside [] t = true
inside (k ∷ ks) t = has t k && inside ks t

pub record Edited (P : Type 0) : Type 0 where
  pub payload : P
  pub before : List ℕ

pub record History (P : Type 0) : Type 0 where
  pub next : ℕ
  pub edits : ℕ → Option (Edited P)
  pub present : ℕ → Bool
  pub behind : ℕ → ℕ → List ℕ

-- a function changed at one place, and at one pair
abbrev pub put : {A : Type 0} → (ℕ → A) → ℕ → A → ℕ → A
put g n v k = if k == n then v else g k

abbrev pub put2 : {A : Type 0} → (ℕ → ℕ → A) → ℕ → ℕ → A → ℕ → ℕ → A
put2 g a f v b k = if b == a && k == f then v else g b k

module _ {P : Type 0} where
  -- after open only berth 0 has copies, with no edit behind them
  abbrev pub start : History P
  start = record { next = 0; edits = λ n. None; present = λ b. (b == 0); behind = λ b f. [] }

  abbrev pub larger : History P → ℕ → ℕ → ℕ → List ℕ
  larger h a b f =
      if inside (h.behind b f) (h.behind a f) && not (inside (h.behind a f) (h.behind b f))
      then h.behind a f else h.behind b f

  -- an edit of berth b's copy of file f, with the set `before` behind it, gets the next number
  abbrev pub numbered : History P → ℕ → ℕ → P → List ℕ → History P
  numbered h b f p before = record {
    next = suc h.next;
    edits = put h.edits h.next (Some (record { payload = p; before = before }));
    present = h.present;
    behind = put2 h.behind b f (h.next ∷ before);
  }

  abbrev pub moved_to : History P → (ℕ → Bool) → (ℕ → ℕ → List ℕ) → History P
  moved_to h present behind =
      record { next = h.next; edits = h.edits; present = present; behind = behind }

abbrev pub Inside : List ℕ → List ℕ → Type 0
Inside s t = (n : ℕ) → has s n ≡ true → has t n ≡ true

pub record Compares (verdict : Verdict) (s t : List ℕ) : Type 0 where
  pub equal : (verdict ≡ Equal) ↔ (Inside s t × Inside t s)
  pub stale : (verdict ≡ Stale) ↔ (Inside s t × (Inside t s → ⊥))
  pub ahead : (verdict ≡ Ahead) ↔ ((Inside s t → ⊥) × Inside t s)
  pub conflict : (verdict ≡ Conflict) ↔ ((Inside s t → ⊥) × (Inside t s → ⊥))

pub record ComparesByte (byte : ℕ) (s t : List ℕ) : Type 0 where
  pub verdict : Verdict
  pub is : byte ≡ byte_of verdict
  pub compares : Compares verdict s t

module _ {P : Type 0} (h : History P) where
  pub record Last (set : List ℕ) (n : ℕ) (p : P) : Type 0 where
    pub edit : Edited P
    pub numbered : h.edits n ≡ Some edit
    pub behind : has set n ≡ true
    pub others : (k : ℕ) → has edit.before k ≡ (has set k && not (k == n))
    pub payload : edit.payload ≡ p

  pub record Holds (opening : P) (set : List ℕ) (p : P) : Type 0 where
    pub source : (((n : ℕ) → has set n ≡ false) × (p ≡ opening)) ⊎ ((n : ℕ) × Last set n p)
    pub one : (n k : ℕ) (q r : P) → Last set n q → Last set k r → n ≡ k

module _ {P : Type 0} (files : ℕ) (h h' : History P) where
  abbrev pub Still : Type 0
  Still = (b f n : ℕ) → h.present b ≡ true → f < files → has (h.behind b f) n ≡ true →
      (c : ℕ) × (h'.present c ≡ true) × (has (h'.behind c f) n ≡ true)
