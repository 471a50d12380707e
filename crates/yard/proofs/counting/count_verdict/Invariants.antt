use Rattle.std.proofs.Common.{◌≡◌, ◌==◌, count_by, take}
use Rattle.yard.proofs.counting.count_verdict.Given as goal

abbrev pub invariant-loop-byte : goal.invariant-loop-byte
invariant-loop-byte l = l.count ≡ count_by (λ byte. byte == l.wanted) (take l.byte-index l.bytes)
