use Rattle.std.proofs.Common.{rules, Ok, refl, arith, ⊎_elim, ap}
use Rattle.std.proofs.lemmas.List.{append_assoc}
use Rattle.std.proofs.Output.{has_written_append, has_written_of_eq}
use Rattle.tree_rules.specs.Events.{leaf, node}
use Rattle.tree_clock.specs.Texts.{root_text, Shows}
use Rattle.tree_clock.proofs.Showing.{within, root, leaf_shown, lower, upper}
use Rattle.tree_clock.proofs.show.+show.Goals as goal

pub returns-then-at-nodes : goal.returns-then-at-nodes
returns-then-at-nodes g t c = λ e stands deep plain. ⊎_elim
    (λ past. absurd (omega (arith, past, within c.args.nodes.now c.args.at e stands)))
    (λ none. absurd (omega (arith, none.1, deep)))
    c.then-at-nodes.either

pub returns-then-nodes-at-eq1 : goal.returns-then-nodes-at-eq1
returns-then-nodes-at-eq1 g t c = λ e stands deep plain.
    let is = leaf_shown c.args.nodes.now c.args.at c.args.notation e stands c.if-nodes-at-eq1.true in
    (omega (arith, is.0), has_written_of_eq _ _ _ _ _ is.1 (search rules))

pub returns : goal.returns
returns g t c = go
  where
    go : Shows g.W.Write.write_str_gives c.args.nodes.now c.args.at c.args.left c.args.notation c.args.f.now (Ok c.in_ok-end.end) c.write_str-2.new.self
    go (leaf n) stands deep plain = absurd (c.if-nodes-at-eq1.false (ap (λ x. x.size) (root c.args.nodes.now c.args.at (leaf n) stands)))
    go (node n l r) stands deep plain =
        let base = ap (λ x. root_text c.args.notation x.base) (root c.args.nodes.now c.args.at (node n l r) stands) in
        let opened = has_written_of_eq _ _ _ _ _ base (c.write_root.ensures plain (search rules)) in
        let low = c.in_ok-mid.ensures l (lower c.args.nodes.now c.args.at n l r stands) (omega (arith, deep)) opened.plain in
        let first = has_written_append _ _ _ _ _ _ opened low.1 in
        let parted = has_written_append _ _ _ _ _ _ first (c.in_ok-write_str.ensures.writes first.plain refl) in
        let high = c.in_ok-end.ensures r (upper c.args.nodes.now c.args.at n l r c.in_ok-mid.mid stands low.0) (omega (arith, deep)) parted.plain in
        let second = has_written_append _ _ _ _ _ _ parted high.1 in
        let closed = has_written_append _ _ _ _ _ _ second (c.in_ok-write_str-2.ensures.writes second.plain refl) in
        (omega (arith, low.0, high.0), has_written_of_eq _ _ _ _ _ (simp append_assoc) closed)
