-- A form that is found by its name is that of a call of this name.
use Rattle.std.proofs.Common.{◌≡◌, ℕ, true, false, cond, ◌||◌, List, [], ◌∷◌, Some, Option, IfSome, find, refl, sym, subst}
use Rattle.std.specs.List.{list_any}
use Rattle.std.specs.Str.{bytes_eq}
use Rattle.std.proofs.lemmas.Slice.Eq.{bytes_eq-Decides}
use Rattle.season_log.specs.declared.forms.Form.{Form}
use Rattle.season_log.specs.Rows.{row, Shape, IsCall}
use Rattle.season_log.specs.Forms.{FormOf, AreForms}

pub is_named : (name : List ℕ) (cs : List Shape) → list_any (λ c. bytes_eq (row c).name name) cs ≡ true → IsCall name
is_named name [] e = absurd (cc e)
is_named name (c ∷ cs) e =
    elim (bytes_eq (row c).name name) as (λ b. (b ≡ true → (row c).name ≡ name) → (b || list_any (λ c. bytes_eq (row c).name name) cs) ≡ true → IsCall name) [
      | true ↦ λ same any. (c, same refl)
      | false ↦ λ same any. is_named name cs any
    ] (bytes_eq-Decides (row c).name name).0 e

first : (name : List ℕ) (cs : List Shape) (fs : List Form) → AreForms cs fs → IfSome (find (λ f. bytes_eq f.name.now name) fs) (FormOf name)
first name [] [] each = tt
first name [] (f ∷ fs) each = absurd each
first name (c ∷ cs) [] each = absurd each
first name (c ∷ cs) (f ∷ fs) each =
    elim (bytes_eq f.name.now name) as (λ b. (b ≡ true → f.name.now ≡ name) → IfSome (cond b (Some f) (find (λ f. bytes_eq f.name.now name) fs)) (FormOf name)) [
      | true ↦ λ same. record { call = c; named = same refl; is = each.0 }
      | false ↦ λ same. first name cs fs each.1
    ] (bytes_eq-Decides f.name.now name).0

pub found : (name : List ℕ) (fs : List Form) (r : Option Form) → r ≡ find (λ f. bytes_eq f.name.now name) fs → (cs : List Shape) → AreForms cs fs → IfSome r (FormOf name)
found name fs r e cs each = subst (λ r. IfSome r (FormOf name)) (sym e) (first name cs fs each)
