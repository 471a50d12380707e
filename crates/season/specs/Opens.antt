-- What an open of a season leaves, and what is said where there is no season.
--
-- Opened m berths payloads h   the season h is what open leaves of tables of so many berths, with a
--                              file for each payload
-- within berths files          a yard can have so many berths and files
-- open_error_text e            why there is no season
use Rattle.std.specs.Prelude.{◌≡◌, ℕ, ◌*◌, ◌&&◌, Bool, List, [], length, Ok, codes, nat_le}
use Rattle.clock.specs.Faults.{fault_text}
use Rattle.clock.specs.Meaning.{Meaning}
use Rattle.yard_rules.specs.declared.tables.Berth.{Berth}
use Rattle.yard_rules.specs.declared.tables.Record.{Record}
use Rattle.yard_rules.specs.Open.{open_result}
use Rattle.season.specs.Held.{Held, outcome_in}
use Rattle.season.specs.declared.errors.OpenError.{OpenError}
use Rattle.season.specs.declared.errors.OpenError.TheVariants.{Refused, OutOfMemory}

pub record Opened {Pen C P : Type 0} (m : Meaning Pen C) (berths : ℕ) (payloads : List P)
    (h : Held Pen C P) : Type 0 where
  pub old_berths : List (Berth Pen)
  pub old_copies : List (Record C P)
  pub berth_count : length old_berths ≡ berths
  pub copy_count : length old_copies ≡ berths * length payloads
  pub is : outcome_in (Ok h.card) h [] ≡ open_result m old_berths old_copies payloads

abbrev pub within : ℕ → ℕ → Bool
within berths files = nat_le 1 berths && (nat_le berths 16 && (nat_le 1 files && nat_le files 32))

abbrev pub open_error_text : OpenError → List ℕ
open_error_text (Refused fault) = fault_text fault
open_error_text OutOfMemory = codes "out of memory"
