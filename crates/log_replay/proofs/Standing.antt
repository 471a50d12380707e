-- Words that stand for payloads, one by one, up to the first that stands for none.
use Rattle.std.proofs.Common.{◌≡◌, ℕ, ◌+◌, ◌<◌, List, [], ◌∷◌, ◌++◌, length, take, drop, get_or, Ok, Err, Result, IfErr, IsErrAnd, sym, ap, subst, ◌∙◌}
use Rattle.std.proofs.lemmas.List.{take_more, drop_more, take-append-drop}
use Rattle.season_log.specs.declared.mistakes.Mistake.{Mistake}
use Rattle.season_log.specs.declared.mistakes.PayloadError.{PayloadError}
use Rattle.season_log.specs.Words.{Word, PayloadMistake}
use Rattle.log_replay.specs.declared.errors.LineError.{LineError}
use Rattle.log_replay.specs.declared.errors.LineError.TheVariants.{Mistake as MistakeError}
use Rattle.log_replay.specs.Openings.{Payloads, NoPayload, OpenMistake}

module _ {P E : Type 0} (g : List ℕ → Result P E → Type 0) where
  one_more : (ws : List Word) (ps : List P) (w : Word) (p : P) → Payloads g ws ps → g w.now (Ok p) → Payloads g (ws ++ w ∷ []) (ps ++ p ∷ [])
  one_more [] [] w p s h = (h, tt)
  one_more [] (q ∷ ps) w p s h = absurd s
  one_more (v ∷ ws) [] w p s h = absurd s
  one_more (v ∷ ws) (q ∷ ps) w p s h = (s.0, one_more ws ps w p s.1 h)

  pub stand_on : (ws : List Word) (i : ℕ) (d : Word) (ps qs : List P) (p : P) → i < length ws → Payloads g (take i ws) ps → g (get_or ws i d).now (Ok p) → qs ≡ ps ++ p ∷ [] → Payloads g (take (i + 1) ws) qs
  stand_on ws i d ps qs p lt s h e = subst (λ (xs : List Word). Payloads g xs qs) (sym (take_more ws i d lt)) (subst (λ (ys : List P). Payloads g (take i ws ++ get_or ws i d ∷ []) ys) (sym e) (one_more (take i ws) ps (get_or ws i d) p s h))

  module _ (conv : E → PayloadError → Type 0) (ws : List Word) where
    pub none_at : (i : ℕ) (d : Word) (ps : List P) (m : Mistake) → i < length ws → Payloads g (take i ws) ps → PayloadMistake g conv (get_or ws i d) m → NoPayload g conv ws m
    none_at i d ps m lt s h = record {
      before = take i ws;
      word = get_or ws i d;
      after = drop (i + 1) ws;
      payloads = ps;
      words = sym (take-append-drop i ws) ∙ ap (λ (xs : List Word). take i ws ++ xs) (drop_more ws i d lt);
      first = s;
      mistake = h;
    }

    pub told : {X : Type 0} (r : Result X LineError) (m : Mistake) → IsErrAnd r (λ e. e ≡ MistakeError m) → NoPayload g conv ws m → IfErr r (OpenMistake g conv ws)
    told (Ok x) m h n = tt
    told (Err e) m h n = subst (OpenMistake g conv ws) (sym h) n
