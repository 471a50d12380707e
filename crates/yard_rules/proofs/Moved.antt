-- Copies and pens are moved about: fork, pull, retire and drop keep the invariant. And a yard keeps it when the edits go on past it.
use Rattle.std.proofs.Common.{◌≡◌, ℕ, ◌<◌, ◌≤◌, Bool, true, List, Option, sym, ap, ◌∙◌, subst, inl, inr, ⊎_elim, arith}
use Rattle.clock.specs.Meaning.{Meaning}
use Rattle.clock.specs.Sound.{Apart}
use Rattle.yard_rules.specs.declared.tables.Record.{Record}
use Rattle.yard_rules.specs.declared.tables.Berth.{Berth}
use Rattle.yard_rules.specs.Tables.{works_in, pen_in, clock_in}
use Rattle.yard_rules.specs.History.{has, Edited, History, moved_to}
use Rattle.yard_rules.proofs.Invariant.{Inv}

-- Copies and pens are moved about: each standing copy afterwards is one that stood before, with its set.
module _ {Pen C P : Type 0} (m : Meaning Pen C) (files : ℕ) (opening : ℕ → Option P) (berth berth' : ℕ → Option (Berth Pen)) (copy copy' : ℕ → ℕ → Option (Record C P)) (h : History P) (present' : ℕ → Bool) (behind' : ℕ → ℕ → List ℕ) (inv : Inv m files opening berth copy h)
    (present : (c : ℕ) → present' c ≡ works_in (berth' c))
    (own : (c d : ℕ) → (c ≡ d → ⊥) → Apart m (pen_in m (berth' c)) (pen_in m (berth' d)))
    (source : (c f : ℕ) → works_in (berth' c) ≡ true → f < files → (o : ℕ) × (works_in (berth o) ≡ true) × (copy' c f ≡ copy o f) × (behind' c f ≡ h.behind o f))
    (sees : (c o f l s : ℕ) → works_in (berth o) ≡ true → f < files → m.makes (pen_in m (berth' c)) l s ≡ true → m.knows (clock_in m (copy o f)) l s ≡ true → m.knows (clock_in m (copy' c f)) l s ≡ true) where
  pub moved : Inv m files opening berth' copy' (moved_to h present' behind')
  moved = record {
    added = inv.added;
    present = present;
    own = own;
    sees = λ c d f l s ud lt mk kn. let o = source d f ud lt in sees c o.0 f l s o.1 lt mk (sym (ap (λ (r : Option (Record C P)). m.knows (clock_in m r) l s) o.2) ∙ kn);
    backed = λ c f uc lt. let o = source c f uc lt in rw (o.2, o.3) (inv.backed o.0 f o.1 lt);
    single = λ c d f n k l s uc ud lt hn hk an ak.
        let x = source c f uc lt in
        let y = source d f ud lt in
        inv.single x.0 y.0 f n k l s x.1 y.1 lt (subst (λ (t : List ℕ). has t n ≡ true) x.3 hn) (subst (λ (t : List ℕ). has t k ≡ true) y.3 hk) an ak;
  }

-- The log may go on past a yard: what is numbered from `next` on does not bear on it.
-- So a later call that puts back a saved yard while the numbers go on keeps the invariant.
pub longer : {Pen C P : Type 0} (m : Meaning Pen C) (files : ℕ) (opening : ℕ → Option P) (berth : ℕ → Option (Berth Pen)) (copy : ℕ → ℕ → Option (Record C P)) (h : History P) (next' : ℕ) (edits' : ℕ → Option (Edited P)) → h.next ≤ next' → ((n : ℕ) → n < h.next → edits' n ≡ h.edits n) → Inv m files opening berth copy h →
    Inv m files opening berth copy (record { next = next'; edits = edits'; present = h.present; behind = h.behind })
longer m files opening berth copy h next' edits' le same inv = record {
  added = inv.added;
  present = inv.present;
  own = inv.own;
  sees = inv.sees;
  backed = λ c f uc lt. let B = inv.backed c f uc lt in record {
    known = B.known;
    knows = B.knows;
    some = B.some;
    below = λ n hn. omega (arith, B.below n hn);
    early = λ n hn e q k hk. B.early n hn e (sym (same n (B.below n hn)) ∙ q) k hk;
    source = ⊎_elim (λ z. inl z) (λ z. inr (z.0, z.1, same z.0 (B.below z.0 z.3) ∙ z.2, z.3, z.4, z.5)) B.source;
  };
  single = inv.single;
}
