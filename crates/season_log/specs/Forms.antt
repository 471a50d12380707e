-- What the code's table of forms, and the steps of reading by it, say of the rows.
--
-- IsForm c f           the form is that of the call c
-- FormOf name f        the form is that of a call of this name
-- AreForms cs fs       the forms are those of the calls, one for each
-- HasName name taken   some call has the name, and takes a payload if `taken`, and else none
-- Makes r name ns p    the row has this name, the first of these numbers, and this payload
use Rattle.std.specs.Prelude.{◌≡◌, Bool, ℕ, List, [], ◌∷◌, take, length, Option, is_some}
use Rattle.season_log.specs.declared.forms.Form.{Form}
use Rattle.season_log.specs.Rows.{Row, row, Shape}

pub record IsForm (c : Shape) (f : Form) : Type 0 where
  pub name : (row c).name ≡ f.name.now
  pub numbers : length (row c).numbers ≡ f.numbers
  pub payload : is_some (row c).payload ≡ f.payload
  pub written : (row c).written ≡ f.written.now

pub record FormOf (name : List ℕ) (f : Form) : Type 0 where
  pub call : Shape
  pub named : f.name.now ≡ name
  pub is : IsForm call f

abbrev pub AreForms : List Shape → List Form → Type 0
AreForms [] [] = Unit {0}
AreForms (c ∷ cs) (f ∷ fs) = IsForm c f × AreForms cs fs
AreForms _ _ = ⊥

abbrev pub HasName : List ℕ → Bool → Type 0
HasName name taken = (c : Shape) × ((row c).name ≡ name) × (is_some (row c).payload ≡ taken)

abbrev pub Makes : {P : Type 0} → Row P → List ℕ → List ℕ → Option P → Type 0
Makes r name ns p =
    (r.name ≡ name) × (r.numbers ≡ take (length r.numbers) ns) × (r.payload ≡ p)
