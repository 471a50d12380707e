use Rattle.std.proofs.Common.{arith}
use Rattle.yard.proofs.Forked.{copied}
use Rattle.yard.proofs.forking.copy_files.Goals as goal

pub returns : goal.returns
returns g c =
    let h = c.copy_within.ensures in
    copied c.args.sizes.files c.args.a c.args.b _ _ _ c.args.copies.now c.copy_within.new.self c.requires.0.some_files h.len c.row.ensures.start c.row.ensures.end c.row-2.ensures.start (omega arith) (omega arith) h.by_index.0 h.by_index.1 h.by_index.2
