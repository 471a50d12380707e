-- What holds of two berths once a call's checks of them have passed: what the code below the checks
-- asks for.
use Rattle.std.specs.Prelude.{◌≡◌, ℕ, ◌*◌, ◌<◌, ◌≤◌}
use Rattle.yard_rules.specs.Tables.{Card}

pub record Ready (card : Card) (berths copies a b : ℕ) : Type 0 where
  pub few_berths : card.berths ≤ 16
  pub few_files : card.files ≤ 32
  pub some_files : 1 ≤ card.files
  pub berths_are : berths ≡ card.berths
  pub copies_are : copies ≡ card.berths * card.files
  pub one : a < card.berths
  pub two : b < card.berths
