use Rattle.season_replay.proofs.yards.in_open.Goals as goal

pub returns-in-Seal : goal.returns-in-Seal
returns-in-Seal g c = rw c.in-Seal.is c.seal.ensures
