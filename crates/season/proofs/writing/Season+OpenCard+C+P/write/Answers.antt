use Rattle.std.proofs.Common.{rules, ◌≡◌, length, subst, ◌∙◌}
use Rattle.std.specs.Vec.{with_items}
use Rattle.std.proofs.lemmas.List.{with_items_is}
use Rattle.yard_rules.specs.declared.calls.Call.TheVariants.{Writes}
use Rattle.yard_rules.specs.Checks.{outcome}
use Rattle.yard_rules.specs.Page.{asked}
use Rattle.yard_rules.specs.Calls.{leaves, said}
use Rattle.yard_rules.specs.Law.{LawfulCall}
use Rattle.season.specs.Held.{Held, said_in}
use Rattle.season.specs.Replays.{LawfulIn, Tells}
use Rattle.season.proofs.Calls.{said_led}
use Rattle.season.proofs.Verdicts.{moved, lawful_in, told_writing}
use Rattle.season.proofs.writing.Season+OpenCard+C+P.write.Goals as goal

pub invariant_of-self : goal.invariant_of-self
invariant_of-self g c =
    let m = g.C.Clock.meaning in
    let same = g.P.Payload.same in
    let s = c.self.inside in
    let q = asked s.card (Writes c.args.call) c.args.bytes.now in
    let k = outcome c.write.result c.write.new.berths c.write.new.copies c.write.new.bytes in
    let e : k ≡ said m same q s.berths.items s.copies.items = search rules in
    let berths : length c.write.new.berths ≡ s.berths.len = search rules in
    let copies : length c.write.new.copies ≡ s.copies.len = search rules in
    said_led m same s.berths s.copies q k e c.self.invariant berths copies

pub returns-clause-edits : goal.returns-clause-edits
returns-clause-edits g c =
    let m = g.C.Clock.meaning in
    let same = g.P.Payload.same in
    let s = c.self.inside in
    let q = asked s.card (Writes c.args.call) c.args.bytes.now in
    let law = moved (λ bs cs. LawfulCall m same q bs cs (leaves m same q bs cs)) c.deref_mut.ensures.value c.deref_mut-2.ensures.value c.write.ensures.history in
    subst (λ (h : Held _ _ _). ∥ LawfulIn m same h (asked h.card (Writes c.args.call) c.args.bytes.now) ∥₁) c.self.view_is (lawful_in m same s.berths.items s.copies.items s.card q c.self.invariant law)

pub returns-clause-verdicts : goal.returns-clause-verdicts
returns-clause-verdicts g c =
    let m = g.C.Clock.meaning in
    let same = g.P.Payload.same in
    let s = c.self.inside in
    let q = asked s.card (Writes c.args.call) c.args.bytes.now in
    let k = outcome c.write.result c.write.new.berths c.write.new.copies c.write.new.bytes in
    let e : k ≡ said m same q s.berths.items s.copies.items = search rules in
    let law = moved (λ bs cs. LawfulCall m same q bs cs (leaves m same q bs cs)) c.deref_mut.ensures.value c.deref_mut-2.ensures.value c.write.ensures.history in
    subst (λ (h : Held _ _ _). Tells m same h (Writes c.args.call) c.write.result c.write.new.bytes) c.self.view_is (told_writing m same s.berths.items s.copies.items s.card c.args.bytes.now c.self.invariant k c.args.call e law)

pub returns-clause-result : goal.returns-clause-result
returns-clause-result g c =
    let m = g.C.Clock.meaning in
    let same = g.P.Payload.same in
    let s = c.self.inside in
    let q = asked s.card (Writes c.args.call) c.args.bytes.now in
    let k = outcome c.write.result c.write.new.berths c.write.new.copies c.write.new.bytes in
    let e : k ≡ said m same q s.berths.items s.copies.items = search rules in
    let berths : length c.write.new.berths ≡ s.berths.len = search rules in
    let copies : length c.write.new.copies ≡ s.copies.len = search rules in
    let bs = with_items_is s.berths c.write.new.berths berths in
    let cs = with_items_is s.copies c.write.new.copies copies in
    subst (λ (h : Held _ _ _). outcome c.write.result (with_items s.berths c.write.new.berths).items (with_items s.copies c.write.new.copies).items c.write.new.bytes ≡ said_in m same h (asked h.card (Writes c.args.call) c.args.bytes.now)) c.self.view_is
    ((λ j. outcome c.write.result (bs j) (cs j) c.write.new.bytes) ∙ e)
