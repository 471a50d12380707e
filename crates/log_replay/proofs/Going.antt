-- A log that is being replayed, line by line.
--
-- Going   the lines so far were carried out, from the first yard to this one; the rest is still to be read, and so many lines are counted
use Rattle.std.proofs.Common.{String, Global, ◌≡◌, ◌+◌, ◌-◌, ◌^◌, ◌<◌, min, ℕ, List, [], ◌∷◌, ◌++◌, length, Some, None, Option, Ok, Result, IfSome, IfOk, refl, sym, ap, ◌∙◌, subst, arith, length-append}
use Rattle.std.specs.Io.BufRead.{first_line, drop_through, DropsThrough}
use Rattle.std.specs.Io.KnownBytes.{IsAtEnd}
use Rattle.std.specs.String.{string_bytes}
use Rattle.season_log.specs.declared.mistakes.Mistake.{Mistake}
use Rattle.season_log.specs.Mistakes.{mistake_text}
use Rattle.log_replay.specs.declared.errors.LogError.TheVariants.{Unreadable, OutOfMemory}
use Rattle.log_replay.specs.declared.any_yards.AnyYard.{AnyYard}
use Rattle.log_replay.specs.Outcomes.{Prints, Printed}
use Rattle.log_replay.specs.Replays.{LineLeaves, LineEnds}
use Rattle.log_replay.specs.Logs.{LinesThen, Next, Runs, line_number, told_text, Ended, Stopped, SoFar, CutOff, Fails}

lines_more : (text : List ℕ) (ls : List (List ℕ)) (rest l : List ℕ) → LinesThen text ls rest → 0 < length rest → l ≡ first_line rest → LinesThen text (ls ++ l ∷ []) (drop_through 10 rest)
lines_more text [] rest l e some is = subst (λ (t : List ℕ). LinesThen t (l ∷ []) (drop_through 10 rest)) (sym e) (some, is, refl)
lines_more text (k ∷ ls) rest l e some is = (e.0, e.1, lines_more (drop_through 10 text) ls rest l e.2 some is)

runs_more : (y : Option AnyYard) (ls : List (List ℕ)) (x : Option AnyYard) (old mid : Option (List ℕ)) (l : List ℕ) (z : Option AnyYard) (p : Prints) (new : Option (List ℕ)) → Runs y ls x old mid → LineLeaves l x z p → Printed p mid new → Runs y (ls ++ l ∷ []) z old new
runs_more y [] x old mid l z p new r leaves prints = (
  z,
  p,
  new,
  subst (λ (w : Option AnyYard). LineLeaves l w z p) r.0 leaves,
  subst (λ (o : Option (List ℕ)). Printed p o new) r.1 prints,
  (refl, refl),
)
runs_more y (k ∷ ls) x old mid l z p new r leaves prints = (r.0, r.1, r.2, r.3, r.4, runs_more r.0 ls x r.2 mid l z p new r.5 leaves prints)

pub record Going (first : Option AnyYard) (text rest : Option (List ℕ)) (yard : Option AnyYard) (number : ℕ) (old new : Option (List ℕ)) : Type 0 where
  pub lines : List (List ℕ)
  pub reads : IfSome text (λ t. (r : List ℕ) × (rest ≡ Some r) × LinesThen t lines r)
  pub run : Runs first lines yard old new
  pub count : number ≡ min (length lines) (2 ^ 64 - 1)

pub at_start : (first : Option AnyYard) (text rest old : Option (List ℕ)) → rest ≡ text → Going first text rest first 0 old old
at_start first (Some t) rest old e = record { lines = []; reads = (t, e, refl); run = (refl, refl); count = refl }
at_start first None rest old e = record { lines = []; reads = tt; run = (refl, refl); count = refl }

-- a line was read
abbrev pub Read : Option (List ℕ) → List ℕ → Option (List ℕ) → Type 0
Read rest l rest' = IfSome rest (λ xs. (0 < length xs) × (l ≡ first_line xs)) × DropsThrough rest rest' 10

-- and is the next of the text
next_line : (text rest : Option (List ℕ)) (l : List ℕ) (rest' : Option (List ℕ)) (ls : List (List ℕ)) → Read rest l rest' → IfSome text (λ t. (r : List ℕ) × (rest ≡ Some r) × LinesThen t ls r) → Next text ls l
next_line (Some t) rest l rest' ls read s =
    let q = subst (λ (o : Option (List ℕ)). Read o l rest') s.1 read in
    (s.0, s.2, q.0.0, q.0.1)
next_line None rest l rest' ls read s = tt

after_line : (text rest : Option (List ℕ)) (l : List ℕ) (rest' : Option (List ℕ)) (ls : List (List ℕ)) → Read rest l rest' → IfSome text (λ t. (r : List ℕ) × (rest ≡ Some r) × LinesThen t ls r) → IfSome text (λ t. (r : List ℕ) × (rest' ≡ Some r) × LinesThen t (ls ++ l ∷ []) r)
after_line (Some t) rest l rest' ls read s =
    let q = subst (λ (o : Option (List ℕ)). Read o l rest') s.1 read in
    (drop_through 10 s.0, q.1, lines_more t ls s.0 l s.2 q.0.0 q.0.1)
after_line None rest l rest' ls read s = tt

pub one_more : (first : Option AnyYard) (text rest : Option (List ℕ)) (y : Option AnyYard) (n : ℕ) (old mid : Option (List ℕ)) (l : List ℕ) (rest' : Option (List ℕ)) (z : Option AnyYard) (p : Prints) (k : ℕ) (new : Option (List ℕ)) →
    Going first text rest y n old mid → Read rest l rest' → LineLeaves l y z p → Printed p mid new → k ≡ min (n + 1) (2 ^ 64 - 1) → Going first text rest' z k old new
one_more first text rest y n old mid l rest' z p k new g read leaves prints e = record {
  lines = g.lines ++ l ∷ [];
  reads = after_line text rest l rest' g.lines read g.reads;
  run = runs_more first g.lines y old mid l z p new g.run leaves prints;
  count = omega (arith, e, g.count, length-append g.lines (l ∷ []));
}

-- the number of the next line
pub number_is : (first : Option AnyYard) (text rest : Option (List ℕ)) (y : Option AnyYard) (n : ℕ) (old new : Option (List ℕ)) (k : ℕ) (g : Going first text rest y n old new) → k ≡ min (n + 1) (2 ^ 64 - 1) → k ≡ line_number (length g.lines)
number_is first text rest y n old new k g e = omega (arith, e, g.count)

pub read_of : {X E : Type 0} (bytes : X → List ℕ) (r : Result X E) (x : X) (rest rest' : Option (List ℕ)) (l : List ℕ) → r ≡ Ok x → l ≡ bytes x → IfOk r (λ y. IfSome rest (λ xs. (0 < length xs) × (bytes y ≡ first_line xs)) × DropsThrough rest rest' 10) → Read rest l rest'
read_of bytes r x rest rest' l e is s =
    let ok = subst (λ q. IfOk q (λ y. IfSome rest (λ xs. (0 < length xs) × (bytes y ≡ first_line xs)) × DropsThrough rest rest' 10)) e s in
    subst (λ (w : List ℕ). Read rest w rest') (sym is) ok

so_far : (text rest : Option (List ℕ)) (ls : List (List ℕ)) → IfSome text (λ t. (r : List ℕ) × (rest ≡ Some r) × LinesThen t ls r) → IfSome text (λ t. (r : List ℕ) × LinesThen t ls r)
so_far (Some t) rest ls s = (s.0, s.2)
so_far None rest ls s = tt

all_read : (text rest : Option (List ℕ)) (ls : List (List ℕ)) → IsAtEnd rest → IfSome text (λ t. (r : List ℕ) × (rest ≡ Some r) × LinesThen t ls r) → IfSome text (λ t. LinesThen t ls [])
all_read (Some t) rest ls end s = subst (λ (r : List ℕ). LinesThen t ls r) (subst IsAtEnd s.1 end) s.2
all_read None rest ls end s = tt

pub ended : (first : Option AnyYard) (text rest : Option (List ℕ)) (y : Option AnyYard) (n : ℕ) (old new : Option (List ℕ)) → Going first text rest y n old new → IsAtEnd rest → Ended text first y old new
ended first text rest y n old new g end = record { lines = g.lines; whole = all_read text rest g.lines end g.reads; run = g.run }

carried : (first : Option AnyYard) (text rest : Option (List ℕ)) (y : Option AnyYard) (n : ℕ) (old new : Option (List ℕ)) (g : Going first text rest y n old new) → SoFar text first y g.lines old new
carried first text rest y n old new g = record { begins = so_far text rest g.lines g.reads; run = g.run }

pub unreadable : (first : Option AnyYard) (text rest : Option (List ℕ)) (y : Option AnyYard) (n : ℕ) (old new : Option (List ℕ)) (k : ℕ) (what : List ℕ) (told : String Global) → Going first text rest y n old new → k ≡ min (n + 1) (2 ^ 64 - 1) → string_bytes told ≡ told_text k what → Fails text first y (Unreadable told) old new
unreadable first text rest y n old new k what told g e is = (g.lines, what, carried first text rest y n old new g, is ∙ ap (λ i. told_text i what) (number_is first text rest y n old new k g e))

pub stopped : (first : Option AnyYard) (text rest : Option (List ℕ)) (y : Option AnyYard) (n : ℕ) (old mid : Option (List ℕ)) (l : List ℕ) (rest' : Option (List ℕ)) (z : Option AnyYard) (m : Mistake) (k : ℕ) (new : Option (List ℕ)) (told : List ℕ) →
    Going first text rest y n old mid → Read rest l rest' → LineEnds l y m → z ≡ y → new ≡ mid → k ≡ min (n + 1) (2 ^ 64 - 1) → told ≡ told_text k (mistake_text m) → Stopped text first z told old new
stopped first text rest y n old mid l rest' z m k new told g read ends stays nothing e is = record {
  lines = g.lines;
  line = l;
  mistake = m;
  next = next_line text rest l rest' g.lines read g.reads;
  run = subst (λ (w : Option AnyYard). Runs first g.lines w old new) (sym stays) (subst (λ (o : Option (List ℕ)). Runs first g.lines y old o) (sym nothing) g.run);
  ends = subst (λ (w : Option AnyYard). LineEnds l w m) (sym stays) ends;
  is = is ∙ ap (λ i. told_text i (mistake_text m)) (number_is first text rest y n old mid k g e);
}

-- memory ran out, and nothing more was carried out
pub cut_short : (first : Option AnyYard) (text rest : Option (List ℕ)) (y : Option AnyYard) (n : ℕ) (old mid : Option (List ℕ)) (z : Option AnyYard) (new : Option (List ℕ)) → Going first text rest y n old mid → z ≡ y → new ≡ mid → Fails text first z OutOfMemory old new
cut_short first text rest y n old mid z new g stays nothing = (
  g.lines,
  subst (λ (w : Option AnyYard). SoFar text first w g.lines old new) (sym stays) (subst (λ (o : Option (List ℕ)). SoFar text first y g.lines old o) (sym nothing) (carried first text rest y n old mid g)),
)

-- a line was carried out, and its answer was not written whole
pub cut_off : (first : Option AnyYard) (text rest : Option (List ℕ)) (y : Option AnyYard) (n : ℕ) (old mid : Option (List ℕ)) (l : List ℕ) (rest' : Option (List ℕ)) (z : Option AnyYard) (printed : Option (List ℕ)) → Going first text rest y n old mid → Read rest l rest' → LineLeaves l y z (Some printed) → CutOff text first z old
cut_off first text rest y n old mid l rest' z printed g read leaves = record { lines = g.lines; line = l; yard = y; answered = mid; printed = printed; next = next_line text rest l rest' g.lines read g.reads; run = g.run; leaves = leaves }
