-- The yard of a log at each clock kind, and what a line makes of it.
--
-- AnyMistake y name ws m       `KindMistake` of KindYards, at the clock kind of the yard y
-- AnyLine y name ws z p        `KindLine` of KindYards, at the clock kind of the yard y, which z
--                              has too
-- AnyOpens k l b words ws y p  `KindOpens` of KindYards, at the clock kind k
-- AnyOpenLine ws y p           the words after `open` ask for these kinds, this many berths and
--                              these
--                              opening payloads, and that is opened
-- AnyOpenMistake ws m          m says what is wrong with them
use Rattle.std.specs.Prelude.{◌≡◌, ◌⊎◌, ℕ, List, Option}
use Rattle.std.specs.Option.{option_map}
use Rattle.tree_clock.specs.declared.clocks.TreeClock.{TreeClock}
use Rattle.tree_clock.specs.declared.pens.TreePen.{TreePen}
use Rattle.tree_clock.specs.Stored.{tree_kind}
use Rattle.vector_clock.specs.declared.clocks.Counts.{Counts}
use Rattle.vector_clock.specs.declared.pens.Names.{Names}
use Rattle.vector_clock.specs.Vectors.{vectors}
use Rattle.season_log.specs.declared.mistakes.Mistake.{Mistake}
use Rattle.season_log.specs.declared.openings.Kind.{Kind}
use Rattle.season_log.specs.declared.openings.Kind.TheVariants.{Tree, Vector}
use Rattle.season_log.specs.declared.openings.Opening.{Opening}
use Rattle.season_log.specs.declared.openings.PayloadKind.{PayloadKind}
use Rattle.season_log.specs.Openings.{Opens, OpeningMistake}
use Rattle.season_log.specs.Words.{Word}
use Rattle.log_replay.specs.declared.any_yards.AnyYard.{AnyYard}
use Rattle.log_replay.specs.declared.any_yards.AnyYard.TheVariants.{Tree as TreeYard, Vector as VectorYard}
use Rattle.log_replay.specs.declared.kind_yards.KindYard.{KindYard}
use Rattle.log_replay.specs.KindYards.{KindLine, KindMistake, KindOpens, NoPayloadOf}
use Rattle.log_replay.specs.Outcomes.{Prints}
use Rattle.log_replay.specs.Texts.{tree_text, vector_text}

abbrev pub AnyMistake : AnyYard → Word → List Word → Mistake → Type 0
AnyMistake (TreeYard y) name ws m = KindMistake y name ws m
AnyMistake (VectorYard y) name ws m = KindMistake y name ws m

abbrev pub AnyLine : AnyYard → List ℕ → List Word → AnyYard → Prints → Type 0
AnyLine (TreeYard y) name ws (TreeYard z) p = KindLine tree_kind tree_text y name ws z p
AnyLine (VectorYard y) name ws (VectorYard z) p = KindLine vectors vector_text y name ws z p
AnyLine y name ws z p = ⊥

abbrev pub AnyOpens :
    Kind → PayloadKind → ℕ → List Word → List Word → Option AnyYard → Prints → Type 0
AnyOpens Tree k b words ws o p =
    (y : Option (KindYard TreeClock TreePen)) × (o ≡ option_map TreeYard y) ×
    KindOpens tree_kind tree_text k b words ws y p
AnyOpens Vector k b words ws o p =
    (y : Option (KindYard (Counts 16) (Names 16))) × (o ≡ option_map VectorYard y) ×
    KindOpens vectors vector_text k b words ws y p

pub record AnyOpenLine (ws : List Word) (o : Option AnyYard) (p : Prints) : Type 0 where
  pub asked : Opening
  pub asks : Opens ws asked
  pub opens : AnyOpens asked.kind asked.payload asked.berths asked.words.now ws o p

abbrev pub AnyOpenMistake : List Word → Mistake → Type 0
AnyOpenMistake ws m =
    OpeningMistake ws m ⊎
    ((asked : Opening) × Opens ws asked × NoPayloadOf asked.payload asked.words.now m)
