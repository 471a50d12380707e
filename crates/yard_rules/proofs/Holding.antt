-- What a good yard says of verdicts and payloads.
use Rattle.std.proofs.Common.{◌≡◌, ℕ, ◌+◌, ◌*◌, ◌<◌, Bool, true, not, ◌&&◌, eqb, List, Some, None, Option, sym, ap, ◌∙◌, subst, inl, inr, ⊎_elim, arith}
use Rattle.std.specs.List.{slice_get}
use Rattle.std.proofs.lemmas.Option.{same_Some}
use Rattle.std.proofs.lemmas.Bool.{both_ways, and_from, not_from_false, ne_eqb, cases_eq}
use Rattle.clock.specs.declared.verdicts.Verdict.TheVariants.{Equal}
use Rattle.clock.specs.Meaning.{Meaning}
use Rattle.clock.specs.Sound.{Sound}
use Rattle.clock.proofs.Tests.{same_test}
use Rattle.yard_rules.specs.declared.tables.Berth.{Berth}
use Rattle.yard_rules.specs.declared.tables.Record.{Record}
use Rattle.yard_rules.specs.Tables.{Card, working, judged}
use Rattle.yard_rules.specs.Checks.{wrong_sizes}
use Rattle.yard_rules.specs.History.{has, Edited, History, Inside, Compares, Last, Holds}
use Rattle.yard_rules.proofs.Lookups.{at}
use Rattle.yard_rules.proofs.Invariant.{Backed, verdict_sets, compares}
use Rattle.yard_rules.proofs.Good.{Good, well, at_card}

holds : {Pen C P : Type 0} (m : Meaning Pen C) (added : ℕ → ℕ → ℕ → Bool) (h : History P) (opening : P) (r : Record C P) (s : List ℕ) → Backed m added h.next h.edits (Some opening) (Some r) s → Holds h opening s r.payload
holds m added h opening r s B = record {
  source = ⊎_elim (λ z. inl (z.0, same_Some r.payload opening z.1)) (λ z. inr (z.0, record { edit = z.1; numbered = z.2; behind = z.3; others = z.4; payload = same_Some z.1.payload r.payload z.5 })) B.source;
  one = λ n k q t N K. ⊎_elim (λ e. e) (λ ne.
      let a : k < n = B.early n N.behind N.edit N.numbered k (N.others k ∙ and_from (has s k) (not (eqb k n)) K.behind (not_from_false (eqb k n) (ne_eqb k n (λ e. ne (sym e))))) in
      let b : n < k = B.early k K.behind K.edit K.numbered n (K.others n ∙ and_from (has s n) (not (eqb n k)) N.behind (not_from_false (eqb n k) (ne_eqb n k ne))) in
      absurd (omega arith)) (cases_eq n k);
}

-- copies with the same set hold the same payload
same_payload : {P : Type 0} (h : History P) (opening p q : P) (s t : List ℕ) → Holds h opening s p → Holds h opening t q → Inside s t → Inside t s → p ≡ q
same_payload {P} h opening p q s t H K i j = ⊎_elim
    (λ x. ⊎_elim (λ y. x.1 ∙ sym y.1) (λ y. absurd (both_ways (has s y.0) (x.0 y.0) (j y.0 y.1.behind))) K.source)
    (λ x. ⊎_elim (λ y. absurd (both_ways (has t x.0) (y.0 x.0) (i x.0 x.1.behind)))
    (λ y.
    let e : x.0 ≡ y.0 = H.one x.0 y.0 _ _ x.1 (to_s y.0 _ y.1) in
    let k : Some x.1.edit ≡ Some y.1.edit = sym x.1.numbered ∙ ap h.edits e ∙ y.1.numbered in
    sym x.1.payload ∙ ap (λ (z : Edited P). z.payload) (same_Some _ _ k) ∙ y.1.payload) K.source)
    H.source
  where
    same : (k : ℕ) → has t k ≡ has s k
    same k = same_test _ _ (j k) (i k)

    to_s : (n : ℕ) (p : P) → Last h t n p → Last h s n p
    to_s n p l = record { edit = l.edit; numbered = l.numbered; behind = j n l.behind; others = λ k. l.others k ∙ ap (λ x. x && not (eqb k n)) (same k); payload = l.payload }

module _ {Pen C P : Type 0} (m : Meaning Pen C) (sound : Sound m) (F : ℕ) (opening : ℕ → Option P) (bs : List (Berth Pen)) (cs : List (Record C P)) (h : History P) (g : Good m F opening bs cs h) where
  pub compared : (a b f : ℕ) → working bs a ≡ true → working bs b ≡ true → f < F → Compares (judged m F cs a b f) (h.behind a f) (h.behind b f)
  compared a b f ua ub lt = subst (λ v. Compares v (h.behind a f) (h.behind b f)) (sym (verdict_sets m sound F opening (slice_get bs) (at F cs) h (well m sound F bs cs g.made) g.inv a b f ua ub lt)) (compares (h.behind a f) (h.behind b f))

  held : (a f : ℕ) (x : Record C P) (o : P) → working bs a ≡ true → f < F → opening f ≡ Some o → slice_get cs (a * F + f) ≡ Some x → Holds h o (h.behind a f) x.payload
  held a f x o ua lt eo ex = holds m g.inv.added h o x (h.behind a f)
      (subst (λ (z : Option P). Backed m g.inv.added h.next h.edits z (Some x) (h.behind a f)) eo (subst (λ (z : Option (Record C P)). Backed m g.inv.added h.next h.edits (opening f) z (h.behind a f)) ex (g.inv.backed a f ua lt)))

  pub equal_holds : (a b f : ℕ) (x z : Record C P) (o : P) → working bs a ≡ true → working bs b ≡ true → f < F → opening f ≡ Some o → slice_get cs (a * F + f) ≡ Some x → slice_get cs (b * F + f) ≡ Some z → judged m F cs a b f ≡ Equal → (x.payload ≡ z.payload) × Holds h o (h.behind a f) x.payload
  equal_holds a b f x z o ua ub lt eo ex ez eq =
      let i = (compared a b f ua ub lt).equal.0 eq in
      let H = held a f x o ua lt eo ex in
      (same_payload h o x.payload z.payload (h.behind a f) (h.behind b f) H (held b f z o ub lt eo ez) i.0 i.1, H)

-- every verdict that a call can give or use, under whatever card passes the check of the sizes
module _ {Pen C P : Type 0} (m : Meaning Pen C) (sound : Sound m) (files : ℕ) (opening : ℕ → Option P) (bs : List (Berth Pen)) (cs : List (Record C P)) (h : History P) (g : Good m files opening bs cs h) where
  pub verdict_at : (card : Card) (a b f : ℕ) → wrong_sizes card bs cs ≡ None → working bs a ≡ true → working bs b ≡ true → f < card.files → Compares (judged m card.files cs a b f) (h.behind a f) (h.behind b f)
  verdict_at card a b f q ua ub lt = compared m sound card.files opening bs cs h (at_card m sound files opening bs cs h g card q) a b f ua ub lt
