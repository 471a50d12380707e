-- Why words spell no call: what is wrong in a part of the words is what is wrong in the line.
use Rattle.std.proofs.Common.{◌≡◌, ℕ, ◌+◌, List, [], ◌∷◌, take, drop, get_or, length, ◌≤◌, zero, suc, Some, None, Option, Ok, Err, Result, IfErr, IsErrAnd, if◌then◌else◌, is_some, refl, sym, subst, ◌∙◌}
use Rattle.std.specs.Prelude.{slice_get}
use Rattle.std.proofs.lemmas.Option.{slice_get-get_or}
use Rattle.std.proofs.lemmas.Result.{err_from_is_err_and}
use Rattle.payload.specs.declared.decimals.DecimalError.{DecimalError}
use Rattle.payload.specs.Decimals.{decimal_of}
use Rattle.season_log.specs.declared.forms.Form.{Form}
use Rattle.season_log.specs.declared.mistakes.Mistake.{Mistake}
use Rattle.season_log.specs.declared.mistakes.Mistake.TheVariants.{NotNumber, NotPayload}
use Rattle.season_log.specs.declared.mistakes.PayloadError.{PayloadError}
use Rattle.season_log.specs.Words.{Word, Numbers, number_read, mistake_or, number_mistake, IsNoPayload, PayloadMistake}
use Rattle.season_log.specs.Rows.{row, count, word_count}
use Rattle.season_log.specs.Forms.{FormOf}
use Rattle.season_log.specs.Calls.{Unread}

abbrev IsNumberMistake : Mistake → Type 0
IsNumberMistake m = (w : Word) × (e : DecimalError) × (m ≡ NotNumber w e)

of_one : (w : Word) (r : Result ℕ DecimalError) (rest : Option Mistake) (m : Mistake) → (rest ≡ Some m → IsNumberMistake m) → mistake_or (number_read w r) rest ≡ Some m → IsNumberMistake m
of_one w (Ok n) rest m others e = others e
of_one w (Err x) rest m others e = (w, x, cc)

-- the mistake in words for numbers is that one of them is no number
of_numbers : (ws : List Word) (m : Mistake) → number_mistake ws ≡ Some m → IsNumberMistake m
of_numbers [] m e = absurd (cc e)
of_numbers (w ∷ ws) m e = of_one w (decimal_of w.now) (number_mistake ws) m (of_numbers ws m) e

count_is : {T : Type 0} (o : Option T) → count o ≡ (if is_some o then 1 else 0)
count_is None = refl
count_is (Some x) = refl

-- the residual of a `?` is the mistake that was told
pub told : {T : Type 0} (r : Result T Mistake) (m : Mistake) (Q : Mistake → Type 0) → IsErrAnd r (λ x. x ≡ m) → Q m → IfErr r Q
told r m Q e q =
    let p = err_from_is_err_and r e in
    subst (λ x. IfErr x Q) (sym p.1) (subst Q (sym p.2) q)

pub no_mistake : (ws : List Word) (ns : List ℕ) → Numbers ws ns → number_mistake ws ≡ None
no_mistake [] [] a = refl
no_mistake [] (n ∷ ns) a = absurd a
no_mistake (w ∷ ws) [] a = absurd a
no_mistake (w ∷ ws) (n ∷ ns) a = rw a.0 (no_mistake ws ns a.1)

pub slice_get-drop : (ws : List Word) (n : ℕ) → slice_get ws n ≡ slice_get (drop n ws) 0
slice_get-drop [] zero = refl
slice_get-drop [] (suc n) = refl
slice_get-drop (v ∷ ws) zero = refl
slice_get-drop (v ∷ ws) (suc n) = slice_get-drop ws n

module _ {P E : Type 0} (g : List ℕ → Result P E → Type 0) (c : E → PayloadError → Type 0) (name : Word) (ws : List Word) (f : Form) (found : FormOf name.now f) (as_many : length ws ≡ f.numbers + (if f.payload then 1 else 0)) where
  named : name.now ≡ (row found.call).name
  named = cc (found.named, found.is.name)

  many : length ws ≡ word_count (row found.call)
  many = cc (as_many, found.is.numbers, found.is.payload, count_is (row found.call).payload)

  pub number_unread : (front : List Word) (m : Mistake) → front ≡ take f.numbers ws → number_mistake front ≡ Some m → Unread g c name ws m
  number_unread front m fr e =
      let n = of_numbers front m e in
      let told : number_mistake (take (length (row found.call).numbers) ws) ≡ Some (NotNumber n.0 n.1) = cc (e, fr, n.2, found.is.numbers) in
      subst (Unread g c name ws) (sym n.2) (found.call, named, (many, told))

  of_payload : (w : Word) (m : Mistake) → number_mistake (take f.numbers ws) ≡ None → slice_get ws f.numbers ≡ Some w → PayloadMistake g c w m → Unread g c name ws m
  of_payload w (NotPayload v error) none at p =
      let is_none = subst (λ (x : Word). IsNoPayload g c x error) (sym p.0) p.1 in
      (found.call, named, (many, cc (none, found.is.numbers), cc (at, found.is.numbers, p.0), is_none))
  of_payload w _ none at p = absurd p

  pub payload_unread : (front rest : List Word) (ns : List ℕ) (w : Word) (m : Mistake) → front ≡ take f.numbers ws → rest ≡ drop f.numbers ws → 1 ≤ length rest → Numbers front ns → PayloadMistake g c (get_or rest 0 w) m → Unread g c name ws m
  payload_unread front rest ns w m fr re some read p =
      let none : number_mistake (take f.numbers ws) ≡ None = cc (no_mistake front ns read, fr) in
      let at : slice_get ws f.numbers ≡ Some (get_or rest 0 w) = slice_get-drop ws f.numbers ∙ cc (slice_get-get_or rest 0 w some, re) in
      of_payload (get_or rest 0 w) m none at p
