-- What words spell is one call, and no mistake.
use Rattle.std.proofs.Common.{◌≡◌, ℕ, ◌+◌, true, List, [], ◌∷◌, length, take, drop, Some, None, Option, Ok, Err, Result, refl, sym, ap, subst, ◌∙◌, arith, length-append, IfOk, IfErr}
use Rattle.std.specs.List.{list_any}
use Rattle.std.specs.Prelude.{slice_get}
use Rattle.std.specs.Str.{bytes_eq}
use Rattle.std.proofs.lemmas.List.{take-append-drop}
use Rattle.yard_rules.specs.declared.calls.Call.{Call}
use Rattle.season_log.specs.declared.mistakes.Mistake.{Mistake}
use Rattle.season_log.specs.declared.mistakes.Mistake.TheVariants.{UnknownCall, WordCount, NotNumber, NotPayload}
use Rattle.season_log.specs.declared.mistakes.PayloadError.{PayloadError}
use Rattle.season_log.specs.Words.{Word, Numbers, IsNoPayload}
use Rattle.season_log.specs.Rows.{Row, row, count, word_count, Shape, IsCall, calls}
use Rattle.season_log.specs.Calls.{Payload, Arguments, Spells, IsExact, Complete, FormMistake, Unread}
use Rattle.season_log.proofs.Rows.{is_named}
use Rattle.season_log.proofs.Unread.{no_mistake, slice_get-drop}

-- calls of one name have as many numbers and payloads
same_shape : {P Q : Type 0} (c : Call P) (d : Call Q) → (row c).name ≡ (row d).name → (length (row c).numbers ≡ length (row d).numbers) × (count (row c).payload ≡ count (row d).payload)
same_shape c d e = grind arith

listed : {P : Type 0} (c : Call P) → list_any (λ (d : Shape). bytes_eq (row d).name (row c).name) calls ≡ true
listed c = grind arith

-- the row of a call tells it from all others
same_call : {P : Type 0} (c d : Call P) → (row c).name ≡ (row d).name → (row c).numbers ≡ (row d).numbers → (row c).payload ≡ (row d).payload → c ≡ d
same_call c d name numbers payload = grind arith

-- some call with a blank for its payload has the name
shape_of : {P : Type 0} (c : Call P) → IsCall (row c).name
shape_of c = is_named (row c).name calls (listed c)

-- the words stand for one list of numbers
same_numbers : (ws : List Word) (ns ms : List ℕ) → Numbers ws ns → Numbers ws ms → ns ≡ ms
same_numbers [] [] [] a b = refl
same_numbers [] [] (m ∷ ms) a b = absurd b
same_numbers [] (n ∷ ns) ms a b = absurd a
same_numbers (w ∷ ws) [] ms a b = absurd a
same_numbers (w ∷ ws) (n ∷ ns) [] a b = absurd b
same_numbers (w ∷ ws) (n ∷ ns) (m ∷ ms) a b = cc (a.0, b.0, same_numbers ws ns ms a.1 b.1)

number_count : (ws : List Word) (ns : List ℕ) → Numbers ws ns → length ws ≡ length ns
number_count [] [] a = refl
number_count [] (n ∷ ns) a = absurd a
number_count (w ∷ ws) [] a = absurd a
number_count (w ∷ ws) (n ∷ ns) a = let e = number_count ws ns a.1 in omega arith

parts : (n : ℕ) (ws : List Word) → length ws ≡ length (take n ws) + length (drop n ws)
parts n ws = ap length (sym (take-append-drop n ws)) ∙ length-append (take n ws) (drop n ws)

module _ {P E : Type 0} (g : List ℕ → Result P E → Type 0) where
  payload_count : (ws : List Word) (p : Option P) → Payload g ws p → length ws ≡ count p
  payload_count [] None a = refl
  payload_count [] (Some p) a = absurd a
  payload_count (w ∷ []) None a = absurd a
  payload_count (w ∷ []) (Some p) a = refl
  payload_count (w ∷ v ∷ ws) p a = absurd a

  argument_count : (ws : List Word) (r : Row P) → Arguments g ws r.numbers r.payload → length ws ≡ word_count r
  argument_count ws r a =
      let n = number_count (take (length r.numbers) ws) r.numbers a.0 in
      let p = payload_count (drop (length r.numbers) ws) r.payload a.1 in
      let e = parts (length r.numbers) ws in
      omega arith

  module _ (exact : IsExact g) where
    one_payload : (ws : List Word) (p q : Option P) → Payload g ws p → Payload g ws q → p ≡ q
    one_payload [] None None a b = refl
    one_payload [] None (Some q) a b = absurd b
    one_payload [] (Some p) q a b = absurd a
    one_payload (w ∷ []) None q a b = absurd a
    one_payload (w ∷ []) (Some p) None a b = absurd b
    one_payload (w ∷ []) (Some p) (Some q) a b = cc (exact w.now (Ok p) (Ok q) a b)
    one_payload (w ∷ v ∷ ws) p q a b = absurd a

    one_call : (name : List ℕ) (ws : List Word) (c d : Call P) → Spells g name ws c → Spells g name ws d → c ≡ d
    one_call name ws c d a b =
        let n : (row c).name ≡ (row d).name = sym a.0 ∙ b.0 in
        let as_many = sym (same_shape c d n).0 in
        let ns = subst (λ k. Numbers (take k ws) (row d).numbers) as_many b.1.0 in
        let p = subst (λ k. Payload g (drop k ws) (row d).payload) as_many b.1.1 in
        same_call c d n (same_numbers _ _ _ a.1.0 ns) (one_payload _ _ _ a.1.1 p)

    module _ (conv : E → PayloadError → Type 0) where
      is_payload : (ws : List Word) (p : Option P) (v : Word) (error : PayloadError) → Payload g ws p → slice_get ws 0 ≡ Some v → IsNoPayload g conv v error → ⊥
      is_payload [] p v error a at e = cc at
      is_payload (w ∷ []) None v error a at e = a
      is_payload (w ∷ []) (Some p) v error a at e =
          let same : v ≡ w = cc at in
          cc (exact w.now (Err e.0) (Ok p) (subst (λ (x : Word). g x.now (Err e.0)) same e.1.0) a)
      is_payload (w ∷ u ∷ ws) p v error a at e = a

      clean : (ws : List Word) (c : Call P) (d : Shape) (m : Mistake) → (row c).name ≡ (row d).name → Arguments g ws (row c).numbers (row c).payload → FormMistake g conv (row d) ws m → ⊥
      clean ws c d (WordCount text) n a w =
          let s = same_shape c d n in
          let e = argument_count ws (row c) a in
          w.1 (omega arith)
      clean ws c d (NotNumber v e) n a w =
          let s = same_shape c d n in
          cc (no_mistake (take (length (row c).numbers) ws) (row c).numbers a.0, w.1, s.0)
      clean ws c d (NotPayload v e) n a w =
          let s = same_shape c d n in
          let at : slice_get ws (length (row c).numbers) ≡ Some v = cc (w.2, s.0) in
          is_payload (drop (length (row c).numbers) ws) (row c).payload v e a.1 (sym (slice_get-drop ws (length (row c).numbers)) ∙ at) w.3
      clean ws c d _ n a w = w

      no_mistake_in_call : (name : Word) (ws : List Word) (c : Call P) (m : Mistake) → Spells g name.now ws c → Unread g conv name ws m → ⊥
      no_mistake_in_call name ws c (UnknownCall v) a w = let d = shape_of c in w.1 d.0 (d.1 ∙ sym a.0)
      no_mistake_in_call name ws c m a w = clean ws c w.0 m (sym a.0 ∙ w.1) a.1 w.2

  pub complete : (conv : E → PayloadError → Type 0) (name : Word) (ws : List Word) (r : Result (Call P) Mistake) → IfOk r (Spells g name.now ws) → IfErr r (Unread g conv name ws) → Complete g name.now ws r
  complete conv name ws (Ok d) read refused exact c s = ap Ok (one_call exact name.now ws d c read s)
  complete conv name ws (Err m) read refused exact c s = absurd (no_mistake_in_call exact conv name ws c m s refused)
