-- A copy is written with a new edit: edit and settle keep the invariant.
use Rattle.std.proofs.Common.{◌≡◌, ℕ, suc, ◌<◌, Bool, true, false, not, ◌&&◌, ◌||◌, eqb, ◌⊎◌, List, ◌∷◌, Some, Option, sym, refl, ap, ◌∙◌, subst, inl, inr, ⊎_elim, arith}
use Rattle.std.proofs.lemmas.Option.{same_Some}
use Rattle.std.proofs.lemmas.Bool.{false_from_ne_true, both_ways, eqb-true, eq-eqb, and_parts, and_from, or_cases, or_left, or_right, cases_Bool, cases_eq, not-true, not_from_false}
use Rattle.clock.specs.Meaning.{Meaning}
use Rattle.clock.specs.Sound.{Within, Evented}
use Rattle.yard_rules.specs.declared.tables.Record.{Record}
use Rattle.yard_rules.specs.declared.tables.Berth.{Berth}
use Rattle.yard_rules.specs.Tables.{works_in, pen_in, clock_in}
use Rattle.yard_rules.specs.History.{has, Edited, History, put, put2, numbered}
use Rattle.yard_rules.proofs.Sets.{put_same, put_other, put2-same, put2_other}
use Rattle.yard_rules.proofs.Invariant.{Backed, Inv}

less_differs : (n k : ℕ) → n < k → n ≡ k → ⊥
less_differs n k lt e = omega arith

others_are : (x y : Bool) → (x ≡ true → y ≡ false) → y ≡ ((x || y) && not x)
others_are true y f = f refl
others_are false true f = refl
others_are false false f = refl

-- a copy stays backed when one more edit is numbered
pub grown : {Pen C P : Type 0} (m : Meaning Pen C) (added : ℕ → ℕ → ℕ → Bool) (next : ℕ) (log : ℕ → Option (Edited P)) (opening : Option P) (r : Option (Record C P)) (s : List ℕ) (D : ℕ → ℕ → Bool) (e : Edited P) → Backed m added next log opening r s → Backed m (put added next D) (suc next) (put log next (Some e)) opening r s
grown m added next log opening r s D e B = record {
  known = λ l t kn. let k = B.known l t kn in (k.0, k.1, ap (λ (g : ℕ → ℕ → Bool). g l t) (same k.0 k.1) ∙ k.2);
  knows = λ n l t hn an. B.knows n l t hn (sym (ap (λ (g : ℕ → ℕ → Bool). g l t) (same n hn)) ∙ an);
  some = λ n hn. let w = B.some n hn in (w.0, w.1, ap (λ (g : ℕ → ℕ → Bool). g w.0 w.1) (same n hn) ∙ w.2);
  below = λ n hn. omega (arith, B.below n hn);
  early = λ n hn d le k hk. B.early n hn d (sym (same_log n hn) ∙ le) k hk;
  source = ⊎_elim (λ z. inl z) (λ z. inr (z.0, z.1, same_log z.0 z.3 ∙ z.2, z.3, z.4, z.5)) B.source;
}
  where
    same : (n : ℕ) → has s n ≡ true → put added next D n ≡ added n
    same n hn = put_other added next n D (less_differs n next (B.below n hn))

    same_log : (n : ℕ) → has s n ≡ true → put log next (Some e) n ≡ log n
    same_log n hn = put_other log next n (Some e) (less_differs n next (B.below n hn))

-- A copy is written: clock k knows what the edits of S added, and an event on it makes c.
module _ {Pen C P : Type 0} (m : Meaning Pen C) (files : ℕ) (opening : ℕ → Option P) (berth : ℕ → Option (Berth Pen)) (copy copy' : ℕ → ℕ → Option (Record C P)) (h : History P) (inv : Inv m files opening berth copy h)
    (b f : ℕ) (ub : works_in (berth b) ≡ true) (lt : f < files) (k : C) (S : List ℕ) (p : P) (c : C)
    (known : (l s : ℕ) → m.knows k l s ≡ true → (n : ℕ) × (has S n ≡ true) × (inv.added n l s ≡ true))
    (knows : (n l s : ℕ) → has S n ≡ true → inv.added n l s ≡ true → m.knows k l s ≡ true)
    (from : (n : ℕ) → has S n ≡ true → (o : ℕ) × (works_in (berth o) ≡ true) × (has (h.behind o f) n ≡ true))
    (keeps : Within m (clock_in m (copy b f)) k)
    (ev : Evented m (pen_in m (berth b)) k c)
    (here : copy' b f ≡ Some (record { clock = c; payload = p }))
    (there : (x g : ℕ) → g < files → ((x ≡ b) × (g ≡ f) → ⊥) → copy' x g ≡ copy x g) where
  D : ℕ → ℕ → Bool
  D l s = m.knows c l s && not (m.knows k l s)

  D_new : (l s : ℕ) → D l s ≡ true → (m.knows c l s ≡ true) × (m.knows k l s ≡ false)
  unfolding D
  D_new l s e = let q = and_parts (m.knows c l s) (not (m.knows k l s)) e in (q.0, not-true (m.knows k l s) q.1)

  new_D : (l s : ℕ) → m.knows c l s ≡ true → m.knows k l s ≡ false → D l s ≡ true
  unfolding D
  new_D l s e z = and_from (m.knows c l s) (not (m.knows k l s)) e (not_from_false (m.knows k l s) z)

  added' : ℕ → ℕ → ℕ → Bool
  added' = put inv.added h.next D

  added_next : (l s : ℕ) → added' h.next l s ≡ D l s
  unfolding added'
  added_next l s = ap (λ (g : ℕ → ℕ → Bool). g l s) (put_same inv.added h.next D)

  added_old : (n l s : ℕ) → n < h.next → added' n l s ≡ inv.added n l s
  unfolding added'
  added_old n l s q = ap (λ (g : ℕ → ℕ → Bool). g l s) (put_other inv.added h.next n D (less_differs n h.next q))

  below : (n : ℕ) → has S n ≡ true → n < h.next
  below n hn = let o = from n hn in (inv.backed o.0 f o.1 lt).below n o.2

  decide2 : (x g : ℕ) → ((x ≡ b) × (g ≡ f)) ⊎ ((x ≡ b) × (g ≡ f) → ⊥)
  decide2 x g = ⊎_elim (λ e. ⊎_elim (λ q. inl (e, q)) (λ q. inr (λ z. q z.1)) (cases_eq g f)) (λ e. inr (λ z. e z.0)) (cases_eq x b)

  K : ℕ → ℕ → ℕ → ℕ → Type 0
  K x g l s = m.knows (clock_in m (copy x g)) l s ≡ true

  K' : ℕ → ℕ → ℕ → ℕ → Type 0
  K' x g l s = m.knows (clock_in m (copy' x g)) l s ≡ true

  at_new : (l s : ℕ) → m.knows c l s ≡ true → K' b f l s
  unfolding K'
  at_new l s e = ap (λ (r : Option (Record C P)). m.knows (clock_in m r) l s) here ∙ e

  new_at : (l s : ℕ) → K' b f l s → m.knows c l s ≡ true
  unfolding K'
  new_at l s e = sym (ap (λ (r : Option (Record C P)). m.knows (clock_in m r) l s) here) ∙ e

  to_b : (P : ℕ → ℕ → Type 0) (x g : ℕ) → (x ≡ b) × (g ≡ f) → P b f → P x g
  to_b P x g e t = subst (λ y. P y g) (sym e.0) (subst (λ j. P b j) (sym e.1) t)

  of_b : (P : ℕ → ℕ → Type 0) (x g : ℕ) → (x ≡ b) × (g ≡ f) → P x g → P b f
  of_b P x g e t = subst (λ j. P b j) e.1 (subst (λ y. P y g) e.0 t)

  up : (x g l s : ℕ) → g < files → K x g l s → K' x g l s
  unfolding K K'
  up x g l s lg e =
      ⊎_elim (λ q. to_b (λ x g. m.knows (clock_in m (copy' x g)) l s ≡ true) x g q (at_new l s (ev.keeps l s (keeps l s (of_b (λ x g. m.knows (clock_in m (copy x g)) l s ≡ true) x g q e)))))
      (λ q. ap (λ (r : Option (Record C P)). m.knows (clock_in m r) l s) (there x g lg q) ∙ e) (decide2 x g)

  -- what the base clock knows some standing copy knows
  base_known : (l s : ℕ) → m.knows k l s ≡ true → (o : ℕ) × (works_in (berth o) ≡ true) × K o f l s
  unfolding K
  base_known l s e = let q = known l s e in let o = from q.0 q.1 in (o.0, o.1, (inv.backed o.0 f o.1 lt).knows q.0 l s o.2 q.2)

  -- a mark that b's pen may make and some standing copy of f knows, the base clock knows
  own_known : (o l s : ℕ) → works_in (berth o) ≡ true → K o f l s → m.makes (pen_in m (berth b)) l s ≡ true → m.knows k l s ≡ true
  unfolding K
  own_known o l s uo e q = keeps l s (inv.sees b o f l s uo lt q e)

  sees' : (x d g l s : ℕ) → works_in (berth d) ≡ true → g < files → m.makes (pen_in m (berth x)) l s ≡ true → K' d g l s → K' x g l s
  unfolding K K'
  sees' x d g l s ud lg mk kn =
      ⊎_elim
      (λ q. to_f q (⊎_elim
      (λ old. let o = base_known l s old in up x f l s lt (inv.sees x o.0 f l s o.1 lt mk o.2))
      (λ fresh. ⊎_elim
      (λ e. subst (λ y. m.knows (clock_in m (copy' y f)) l s ≡ true) (sym e) (at_new l s (newly q)))
      (λ ne. absurd (inv.own x b ne l s mk (ev.own l s (newly q) fresh)))
      (cases_eq x b))
      (cases_Bool (m.knows k l s))))
      (λ q. up x g l s lg (inv.sees x d g l s ud lg mk (sym (ap (λ (r : Option (Record C P)). m.knows (clock_in m r) l s) (there d g lg q)) ∙ kn)))
      (decide2 d g)
    where
      newly : (d ≡ b) × (g ≡ f) → m.knows c l s ≡ true
      newly q = new_at l s (of_b (λ x g. m.knows (clock_in m (copy' x g)) l s ≡ true) d g q kn)

      to_f : (d ≡ b) × (g ≡ f) → m.knows (clock_in m (copy' x f)) l s ≡ true → m.knows (clock_in m (copy' x g)) l s ≡ true
      to_f q t = subst (λ j. m.knows (clock_in m (copy' x j)) l s ≡ true) (sym q.1) t

  entry : Edited P
  entry = record { payload = p; before = S }

  split_member : (n : ℕ) → has (h.next ∷ S) n ≡ true → (n ≡ h.next) ⊎ (has S n ≡ true)
  split_member n hn = ⊎_elim (λ e. inl (eqb-true n h.next e)) (λ e. inr e) (or_cases (eqb n h.next) (has S n) hn)

  next_in : has (h.next ∷ S) h.next ≡ true
  next_in = or_left (eqb h.next h.next) (has S h.next) (eq-eqb h.next h.next refl)

  next_not : has S h.next ≡ false
  next_not = false_from_ne_true (has S h.next) (λ e. less_differs h.next h.next (below h.next e) refl)

  new_backed : Backed m added' (suc h.next) (put h.edits h.next (Some entry)) (opening f) (Some (record { clock = c; payload = p })) (h.next ∷ S)
  unfolding entry
  new_backed = record {
    known = λ l s kn. ⊎_elim
        (λ old. let q = known l s old in (q.0, or_right (eqb q.0 h.next) (has S q.0) q.1, added_old q.0 l s (below q.0 q.1) ∙ q.2))
        (λ fresh. (h.next, next_in, added_next l s ∙ new_D l s kn fresh))
        (cases_Bool (m.knows k l s));
    knows = λ n l s hn an. ⊎_elim
        (λ e. (D_new l s (sym (added_next l s) ∙ subst (λ i. added' i l s ≡ true) e an)).0)
        (λ e. ev.keeps l s (knows n l s e (sym (added_old n l s (below n e)) ∙ an)))
        (split_member n hn);
    some = λ n hn. ⊎_elim
        (λ e. (ev.line, ev.step, subst (λ i. added' i ev.line ev.step ≡ true) (sym e) (added_next ev.line ev.step ∙ new_D ev.line ev.step ev.more ev.before)))
        (λ e. let o = from n e in let w = (inv.backed o.0 f o.1 lt).some n o.2 in (w.0, w.1, added_old n w.0 w.1 (below n e) ∙ w.2))
        (split_member n hn);
    below = λ n hn. ⊎_elim {C = n < suc h.next} (λ e. omega arith) (λ e. omega (arith, below n e)) (split_member n hn);
    early = λ n hn d le j hj. ⊎_elim
        (λ e.
        let q : entry ≡ d = same_Some entry d (sym (put_same h.edits h.next (Some entry)) ∙ subst (λ i. put h.edits h.next (Some entry) i ≡ Some d) e le) in
        let r : j < h.next = below j (subst (λ (z : Edited P). has z.before j ≡ true) (sym q) hj) in omega arith)
        (λ e. let o = from n e in (inv.backed o.0 f o.1 lt).early n o.2 d (sym (put_other h.edits h.next n (Some entry) (less_differs n h.next (below n e))) ∙ le) j hj)
        (split_member n hn);
    source = inr (h.next, entry, put_same h.edits h.next (Some entry), next_in, (λ j. others_are (eqb j h.next) (has S j) (λ e. subst (λ i. has S i ≡ false) (sym (eqb-true j h.next e)) next_not)), refl);
  }

  behind' : ℕ → ℕ → List ℕ
  behind' = put2 h.behind b f (h.next ∷ S)

  member : (x g n : ℕ) → works_in (berth x) ≡ true → g < files → has (behind' x g) n ≡ true → ((n ≡ h.next) × (g ≡ f)) ⊎ ((o : ℕ) × (works_in (berth o) ≡ true) × (has (h.behind o g) n ≡ true))
  unfolding behind'
  member x g n ux lg hn = ⊎_elim
      (λ q. ⊎_elim (λ e. inl (e, q.1)) (λ e. let o = from n e in inr (o.0, o.1, subst (λ j. has (h.behind o.0 j) n ≡ true) (sym q.1) o.2))
      (split_member n (subst (λ (t : List ℕ). has t n ≡ true) (put2-same h.behind b f (h.next ∷ S)) (of_b (λ x g. has (put2 h.behind b f (h.next ∷ S) x g) n ≡ true) x g q hn))))
      (λ q. inr (x, ux, subst (λ (t : List ℕ). has t n ≡ true) (put2_other h.behind b f x g (h.next ∷ S) q) hn))
      (decide2 x g)

  -- no mark of the new edit is one of an edit behind a standing copy
  clash : (o g n l s : ℕ) → works_in (berth o) ≡ true → g < files → g ≡ f → has (h.behind o g) n ≡ true → added' n l s ≡ true → added' h.next l s ≡ true → ⊥
  unfolding K
  clash o g n l s uo lg e hn an ne =
      let new = D_new l s (sym (added_next l s) ∙ ne) in
      let hn' : has (h.behind o f) n ≡ true = subst (λ j. has (h.behind o j) n ≡ true) e hn in
      let B = inv.backed o f uo lt in
      both_ways (m.knows k l s) new.1 (own_known o l s uo (B.knows n l s hn' (sym (added_old n l s (B.below n hn')) ∙ an)) (ev.own l s new.0 new.1))

  pub written : Inv m files opening berth copy' (numbered h b f p S)
  unfolding K K' behind' entry added'
  written = record {
    added = added';
    present = inv.present;
    own = inv.own;
    sees = sees';
    backed = λ x g ux lg. ⊎_elim
        (λ q. to_b (λ x g. Backed m added' (suc h.next) (put h.edits h.next (Some entry)) (opening g) (copy' x g) (put2 h.behind b f (h.next ∷ S) x g)) x g q
        (rw (here, put2-same h.behind b f (h.next ∷ S)) new_backed))
        (λ q. rw (there x g lg q, put2_other h.behind b f x g (h.next ∷ S) q) (grown m inv.added h.next h.edits (opening g) (copy x g) (h.behind x g) D entry (inv.backed x g ux lg)))
        (decide2 x g);
    single = λ x d g n j l s ux ud lg hn hj an aj. ⊎_elim
        (λ N. ⊎_elim
        (λ J. N.0 ∙ sym J.0)
        (λ J. absurd (clash J.0 g j l s J.1 lg N.1 J.2 aj (subst (λ i. added' i l s ≡ true) N.0 an)))
        (member d g j ud lg hj))
        (λ N. ⊎_elim
        (λ J. absurd (clash N.0 g n l s N.1 lg J.1 N.2 an (subst (λ i. added' i l s ≡ true) J.0 aj)))
        (λ J. inv.single N.0 J.0 g n j l s N.1 J.1 lg N.2 J.2
        (sym (added_old n l s ((inv.backed N.0 g N.1 lg).below n N.2)) ∙ an)
        (sym (added_old j l s ((inv.backed J.0 g J.1 lg).below j J.2)) ∙ aj))
        (member d g j ud lg hj))
        (member x g n ux lg hn);
  }
