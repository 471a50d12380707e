-- What the test on two tickets tells.
use Rattle.std.specs.Prelude.{◌≡◌, ℕ, ◌<◌, Bool, true, false, ◌&&◌, List, Decides, ◌==◌, ◌≢◌, nat_eq, slice_index, refl}
use Rattle.std.proofs.Common.{sym, ap, ◌∙◌}
use Rattle.std.proofs.lemmas.Bool.Decides.{Decides-and, Decides-eqb, Decides-below_and}
use Rattle.payload.specs.declared.tickets.Ticket.{Ticket}
use Rattle.payload.specs.Tickets.{same_below, same_ticket}

-- the first n bytes of two digests are the same
abbrev pub Same : ℕ → List ℕ → List ℕ → Type 0
Same n a b = (k : ℕ) → k < n → slice_index a k ≡ slice_index b k

pub decides_same : (n : ℕ) (a b : List ℕ) → Decides (same_below n a b) (Same n a b)
decides_same n a b = Decides-below_and (λ k. nat_eq (slice_index a k) (slice_index b k)) (λ k. slice_index a k ≡ slice_index b k) (λ m. same_below m a b) (λ k. Decides-eqb (slice_index a k) (slice_index b k)) refl (λ _. refl) n

pub decides_ticket : (t u : Ticket) → Decides (same_ticket t u) (Same 32 t.digest u.digest × (t.length ≡ u.length))
decides_ticket t u = Decides-and (same_below 32 t.digest u.digest) (t.length == u.length) (decides_same 32 t.digest u.digest) (Decides-eqb t.length u.length)

-- a byte differs
pub apart : (t u : Ticket) (k : ℕ) → k < 32 → (slice_index t.digest k ≢ slice_index u.digest k) → false ≡ same_ticket t u
apart t u k h ne = go (same_ticket t u) refl
  where
    go : (r : Bool) → same_ticket t u ≡ r → false ≡ r
    go true e = absurd (ne (((decides_ticket t u).0 e).0 k h))
    go false e = refl

-- no byte differs: the lengths decide
pub by_length : (t u : Ticket) (r : Bool) → Same 32 t.digest u.digest → r ≡ (t.length == u.length) → r ≡ same_ticket t u
by_length t u r s e = e ∙ sym (ap (λ b. b && t.length == u.length) ((decides_same 32 t.digest u.digest).1 s))
