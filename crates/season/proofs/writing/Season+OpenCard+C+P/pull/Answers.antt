use Rattle.std.proofs.Common.{rules, ◌≡◌, length, refl, subst, OnOk}
use Rattle.yard_rules.specs.Checks.{outcome}
use Rattle.yard_rules.specs.Pull.{pull_call}
use Rattle.yard_rules.specs.Calls.{leaves}
use Rattle.yard_rules.specs.Law.{LawfulCall}
use Rattle.season.specs.Held.{Held}
use Rattle.season.specs.Replays.{EachBehind}
use Rattle.season.proofs.Calls.{copies_led}
use Rattle.season.proofs.Verdicts.{moved, pulled_behind}
use Rattle.season.proofs.writing.Season+OpenCard+C+P.pull.Goals as goal

pub invariant_of-self : goal.invariant_of-self
invariant_of-self g c =
    let m = g.C.Clock.meaning in
    let same = g.P.Payload.same in
    let s = c.self.inside in
    let call = pull_call s.card c.args.a c.args.b c.args.bytes.now in
    let l = outcome c.pull.result s.berths.items c.pull.new.copies c.pull.new.bytes in
    let e : l ≡ leaves m same call s.berths.items s.copies.items = search rules in
    let copies : length c.pull.new.copies ≡ s.copies.len = search rules in
    copies_led m same s.berths s.copies call l e c.self.invariant refl copies

pub returns-clause-edits : goal.returns-clause-edits
returns-clause-edits g c =
    let m = g.C.Clock.meaning in
    let same = g.P.Payload.same in
    let s = c.self.inside in
    let bytes = c.args.bytes.now in
    let law = moved (λ bs cs. LawfulCall m same (pull_call s.card c.args.a c.args.b bytes) bs cs (outcome c.pull.result bs c.pull.new.copies c.pull.new.bytes)) c.deref.ensures.value c.deref_mut.ensures.value (c.pull.ensures.history same) in
    subst (λ (h : Held _ _ _). OnOk c.pull.result ∥ EachBehind m same h c.args.b c.args.a c.pull.new.bytes ∥₁) c.self.view_is (pulled_behind m same s.berths.items s.copies.items s.card c.args.a c.args.b c.self.invariant bytes c.pull.result (outcome c.pull.result s.berths.items c.pull.new.copies c.pull.new.bytes) refl law)
