-- What the laws of a kind say of an answer: where it is a value, the value has the law.
use Rattle.std.proofs.Common.{◌≡◌, IfOk, Some, None, Option, Result, sym, refl, subst}
use Rattle.clock.specs.declared.causes.Cause.{Cause}
use Rattle.clock.specs.declared.faults.Fault.{Fault}
use Rattle.clock.specs.Answers.{answered}
use Rattle.clock.specs.Meaning.{Meaning, Yes}
use Rattle.clock.specs.Sound.{Sound, Forked, Evented, Joined, United}

module _ {X : Type 0} (P : X → Type 0) (x : X) where
  value-has : (d : Option Cause) → (d ≡ None → P x) → IfOk (answered d x) P
  value-has None h = h refl
  value-has (Some c) h = tt

  -- an answer that is due nothing has what its value has
  pub answer-has : (d : Option Cause) (r : Result X Fault) → r ≡ answered d x → (d ≡ None → P x) → IfOk r P
  answer-has d r e h = subst (λ a. IfOk a P) (sym e) (value-has d h)

module _ {Pen Clock : Type 0} (m : Meaning Pen Clock) (s : Sound m) where
  pub fork_has : (p : Pen) → Yes (m.pen_made p) → (r : Result (Pen × Pen) Fault) → r ≡ answered (m.fork_due p) (m.halves p) → IfOk r (λ h. Forked m p h.0 h.1)
  fork_has p h r e = answer-has (λ q. Forked m p q.0 q.1) (m.halves p) (m.fork_due p) r e (s.fork p h)

  pub event-has : (p : Pen) (c : Clock) → Yes (m.pen_made p) → Yes (m.clock_made c) → (r : Result Clock Fault) → r ≡ answered (m.event_due p c) (m.evented p c) → IfOk r (λ d. Evented m p c d)
  event-has p c h j r e = answer-has (λ d. Evented m p c d) (m.evented p c) (m.event_due p c) r e (s.event p c h j)

  pub join-has : (c d : Clock) → Yes (m.clock_made c) → Yes (m.clock_made d) → (r : Result Clock Fault) → r ≡ answered (m.join_due c d) (m.joined c d) → IfOk r (λ e. Joined m c d e)
  join-has c d h j r e = answer-has (λ f. Joined m c d f) (m.joined c d) (m.join_due c d) r e (s.join c d h j)

  pub unite_has : (p q : Pen) → Yes (m.pen_made p) → Yes (m.pen_made q) → (r : Result Pen Fault) → r ≡ answered (m.unite_due p q) (m.united p q) → IfOk r (λ u. United m p q u)
  unite_has p q h j r e = answer-has (λ u. United m p q u) (m.united p q) (m.unite_due p q) r e (s.unite p q h j)
