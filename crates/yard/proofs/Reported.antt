-- The twins of a report, one file further, and whether two payloads that the code reads are alike.
use Rattle.std.proofs.Common.{◌≡◌, ℕ, ◌+◌, ◌*◌, Bool, cond, ◌&&◌, List, Some, sym, refl, ap, ◌∙◌, subst}
use Rattle.std.specs.List.{slice_get}
use Rattle.clock.specs.declared.verdicts.Verdict.{Verdict}
use Rattle.yard_rules.specs.declared.tables.Record.{Record}
use Rattle.yard_rules.specs.Tables.{count, is_conflict, payload_in}
use Rattle.yard_rules.specs.Report.{both, twins}
use Rattle.yard.proofs.Upto.{count_more}

-- m is one more than n
pub twins_more : (n m t t' : ℕ) (v : ℕ → Verdict) (twin : ℕ → Bool) (w : Verdict) (b : Bool) → m ≡ n + 1 → t ≡ count n (λ f. is_conflict (v f) && twin f) → w ≡ v n → b ≡ twin n → t' ≡ cond (is_conflict w && b) (t + 1) t → t' ≡ count m (λ f. is_conflict (v f) && twin f)
twins_more n m t t' v twin w b em e ew eb q = q ∙ (λ k. cond (is_conflict (ew k) && eb k) (e k + 1) (e k)) ∙ sym (count_more n (λ f. is_conflict (v f) && twin f)) ∙ ap (λ k. count k (λ f. is_conflict (v f) && twin f)) (sym em)

twins-read : {C P : Type 0} (alike : P → P → Bool) (F : ℕ) (cs : List (Record C P)) (a b f i j : ℕ) (x z : Record C P) → i ≡ a * F + f → j ≡ b * F + f → slice_get cs i ≡ Some x → slice_get cs j ≡ Some z → alike x.payload z.payload ≡ twins F cs alike a b f
twins-read alike F cs a b f i j x z ei ej ex ez =
    let ex' : slice_get cs (a * F + f) ≡ Some x = subst (λ n. slice_get cs n ≡ Some x) ei ex in
    let ez' : slice_get cs (b * F + f) ≡ Some z = subst (λ n. slice_get cs n ≡ Some z) ej ez in
    sym (λ k. both alike (payload_in (ex' k)) (payload_in (ez' k)))

-- whether the twins of file n are alike, as the code finds out
pub twin_at : {C P : Type 0} (alike : P → P → Bool) (F : ℕ) (cs : List (Record C P)) (a b n : ℕ) (x z : Record C P) → slice_get cs (a * F + n) ≡ Some x → slice_get cs (b * F + n) ≡ Some z → (r t : Bool) → r ≡ t → r ≡ alike x.payload z.payload → t ≡ twins F cs alike a b n
twin_at alike F cs a b n x z ex ez r t found is = sym found ∙ is ∙ twins-read alike F cs a b n _ _ x z refl refl ex ez
