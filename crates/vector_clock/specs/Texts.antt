-- What a pen and a clock print.
--
-- commas ns          numbers in decimal, with a comma between each two
-- names_below p k    the names of the pen p below k, in rising order
-- names_text p       all its names in braces: `{0,1,2}`, or `{}`
-- counts_text c      all counts of the clock c in brackets: `[1,0,2]`
-- item_text after n  one number of such a list, with a comma in front where others stand before it
use Rattle.std.specs.Prelude.{ℕ, Bool, if◌then◌else◌, List, [], ◌++◌, map, filter, codes}
use Rattle.std.specs.Fmt.{decimal}
use Rattle.std.specs.List.{join_with_byte, range_with_len}
use Rattle.vector_clock.specs.declared.pens.Names.{Names}
use Rattle.vector_clock.specs.declared.clocks.Counts.{Counts}
use Rattle.vector_clock.specs.Pens.{in_pen}

-- 44 is the comma
abbrev pub commas : List ℕ → List ℕ
commas ns = join_with_byte 44 (map decimal ns)

abbrev pub names_below : {n : ℕ} → Names n → ℕ → List ℕ
names_below p k = filter (in_pen p) (range_with_len 0 k)

abbrev pub names_text : {n : ℕ} → Names n → List ℕ
names_text {n} p = codes "{" ++ (commas (names_below p n) ++ codes "}")

abbrev pub counts_text : {n : ℕ} → Counts n → List ℕ
counts_text c = codes "[" ++ (commas c.counts ++ codes "]")

abbrev pub item_text : Bool → ℕ → List ℕ
item_text after n = (if after then codes "," else []) ++ decimal n
