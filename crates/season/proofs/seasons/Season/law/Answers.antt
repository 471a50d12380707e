use Rattle.std.proofs.Common.{subst}
use Rattle.yard_rules.specs.Tables.{Made}
use Rattle.season.specs.Held.{Held}
use Rattle.season.proofs.Calls.{well_made}
use Rattle.season.proofs.seasons.Season.law.Goals as goal

pub returns : goal.returns
returns g c =
    let m = g.C.Clock.meaning in
    let s = c.self.inside in
    record { made = subst (λ (h : Held _ _ _). Made m h.berths h.copies) c.self.view_is (well_made m g.P.Payload.same s.berths.items s.copies.items c.history_law.ensures c.self.invariant) }
