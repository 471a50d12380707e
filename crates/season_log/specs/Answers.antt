-- What a reply prints.
--
-- sizes_text s            the sizes of a yard that was opened
-- bytes_text bytes        the bytes in decimal, a space after each
-- byte_text b             one of them
-- report_text, pull_text  the counts of a report and of a pull
-- answer_text q c bytes a the answer, with the bytes of the files, where q and c are what a pen and a clock print
-- reply_text q c r        the reply
use Rattle.std.specs.Prelude.{ℕ, List, ◌++◌, take, codes, Option, Some}
use Rattle.std.specs.Fmt.{decimal, ◌++?◌}
use Rattle.std.specs.List.{flat_map}
use Rattle.clock.specs.Verdicts.{verdict_word}
use Rattle.yard_rules.specs.declared.tables.Sizes.{Sizes}
use Rattle.yard_rules.specs.declared.answers.Answer.{Answer}
use Rattle.yard_rules.specs.declared.answers.Answer.TheVariants.{Done, Judged, Reported, Pulled, Shown}
use Rattle.season_log.specs.declared.answers.Reply.{Reply}
use Rattle.season_log.specs.declared.answers.Reply.TheVariants.{Opened, Answered}

abbrev pub sizes_text : Sizes → List ℕ
sizes_text s = codes "ok " ++ (decimal s.berths ++ (codes " berths " ++ (decimal s.files ++ codes " files")))

abbrev pub byte_text : ℕ → List ℕ
byte_text b = decimal b ++ codes " "

abbrev pub bytes_text : List ℕ → List ℕ
bytes_text bytes = flat_map byte_text bytes

abbrev pub report_text : ℕ → ℕ → ℕ → ℕ → ℕ → List ℕ
report_text equal stale ahead conflicts twins =
    codes "| equal " ++ (decimal equal ++ (codes " stale " ++ (decimal stale ++ (codes " ahead " ++ (decimal ahead ++ (codes " conflict " ++ (decimal conflicts ++ (codes " twins " ++ decimal twins))))))))

abbrev pub pull_text : ℕ → ℕ → List ℕ
pull_text taken conflicts = codes "| taken " ++ (decimal taken ++ (codes " conflict " ++ decimal conflicts))

module _ {Q C : Type 0} (q : Q → Option (List ℕ)) (c : C → Option (List ℕ)) where
  abbrev pub answer_text : List ℕ → Answer Q C → Option (List ℕ)
  answer_text bytes Done = Some (codes "ok")
  answer_text bytes (Judged verdict) = Some (verdict_word verdict)
  answer_text bytes (Reported equal stale ahead conflicts twins) =
      Some (bytes_text bytes ++ report_text equal stale ahead conflicts twins)
  answer_text bytes (Pulled taken conflicts) = Some (bytes_text bytes ++ pull_text taken conflicts)
  answer_text bytes (Shown pen clock) = q pen ++? Some (codes " ") ++? c clock

  abbrev pub reply_text : Reply Q C → Option (List ℕ)
  reply_text (Opened s) = Some (sizes_text s)
  reply_text (Answered answer bytes files) = answer_text (take files bytes) answer
