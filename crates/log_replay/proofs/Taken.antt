-- What a call that was carried out, and one that was not, says of its line.
use Rattle.std.proofs.Common.{◌≡◌, ℕ, Bool, true, false, List, Some, Option, Ok, Err, Result, IsOkAnd, IsErrOf, refl, subst, inr}
use Rattle.clock.specs.declared.faults.Fault.{Fault}
use Rattle.clock.specs.Meaning.{Meaning}
use Rattle.season_log.specs.declared.answers.Reply.{Reply}
use Rattle.yard_rules.specs.declared.calls.Call.{Call}
use Rattle.season_log.specs.declared.mistakes.Mistake.{Mistake}
use Rattle.season_log.specs.declared.mistakes.Mistake.TheVariants.{Sealed}
use Rattle.season_log.specs.declared.mistakes.PayloadError.{PayloadError}
use Rattle.season_log.specs.Calls.{Spells}
use Rattle.season_log.specs.Words.{Word}
use Rattle.season_replay.specs.declared.yards.Yard.{Yard}
use Rattle.season_replay.specs.Yards.{takes, Carried}
use Rattle.log_replay.specs.Lines.{Line, LineMistake}

is_taken : {X E : Type 0} (b : Bool) (x : X) (e : E) → (b ≡ false → IsErrOf (Ok x) e) → b ≡ true
is_taken true x e h = refl
is_taken false x e h = absurd (cc (h refl))

is_not_taken : {X E : Type 0} (b : Bool) (e : E) (fact : X → Type 0) → (b ≡ true → IsOkAnd (Err e) fact) → b ≡ false
is_not_taken true e fact h = absurd (h refl)
is_not_taken false e fact h = refl

err_is : {X E : Type 0} (k e : E) → ◌≡◌ {A = Result X E} (Err k) (Err e) → k ≡ e
err_is k e q = cc

module _ {Pen C P E : Type 0} (g : List ℕ → Result P E → Type 0) (m : Meaning Pen C) (alike : P → P → Bool) (y : Yard C P Pen) (name : Word) (ws : List Word) (z : Yard C P Pen) (call : Call P) (r : Result (Result (Reply Pen C) Fault) Mistake)
    (spells : Spells g name.now ws call) (carried : takes y call ≡ true → IsOkAnd r (Carried m alike y call z)) (mistaken : takes y call ≡ false → IsErrOf r (Sealed name)) where
  pub carried_line : (text : List ℕ → List Word → Result (Reply Pen C) Fault → Option (List ℕ)) (a : Result (Reply Pen C) Fault) → r ≡ Ok a → Line g m alike text y name.now ws z (Some (text name.now ws a))
  carried_line text a e =
      let t : takes y call ≡ true = is_taken (takes y call) a (Sealed name) (subst (λ q. takes y call ≡ false → IsErrOf q (Sealed name)) e mistaken) in
      record {
        call = call;
        answer = a;
        spells = spells;
        taken = t;
        carried = subst (λ q. takes y call ≡ true → IsOkAnd q (Carried m alike y call z)) e carried t;
        printed = refl;
      }

  pub not_taken : (k : Mistake) → r ≡ Err k → takes y call ≡ false
  not_taken k e = is_not_taken (takes y call) k (Carried m alike y call z) (subst (λ q. takes y call ≡ true → IsOkAnd q (Carried m alike y call z)) e carried)

  pub mistaken_line : (conv : E → PayloadError → Type 0) (k : Mistake) → r ≡ Err k → LineMistake g conv y name ws k
  mistaken_line conv k e =
      let t : takes y call ≡ false = not_taken k e in
      let s : IsErrOf (Err k) (Sealed name) = subst (λ q. takes y call ≡ false → IsErrOf q (Sealed name)) e mistaken t in
      inr (record { call = call; spells = spells; taken = t; is = err_is k (Sealed name) s })
