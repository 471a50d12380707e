-- Ids: which of the places 0 to 4,095 a pen may mark.
--
-- off, on, pair    the ids 0, 1 and (l,r); a pair gives the lower half of its places to l, the upper to r
-- owns i h x       whether i is 1 at place x of 2^h places
-- NormalId        neither (0,0) nor (1,1) stands in it; normal_id is the test
-- norm_id          turns (0,0) into 0 and (1,1) into 1
use Rattle.std.specs.Prelude.{◌≡◌, ℕ, zero, suc, ◌+◌, ◌-◌, ◌^◌, max, Bool, true, false, if◌then◌else◌, not, ◌&&◌, ◌≢◌, nat_lt}

pub data Id : Type 0 where
  off : Id
  on : Id
  pair : Id → Id → Id

abbrev pub id_size : Id → ℕ
id_size off = 1
id_size on = 1
id_size (pair l r) = 1 + (id_size l + id_size r)

abbrev pub id_depth : Id → ℕ
id_depth off = 0
id_depth on = 0
id_depth (pair l r) = 1 + max (id_depth l) (id_depth r)

abbrev pub is_off : Id → Bool
is_off off = true
is_off on = false
is_off (pair l r) = false

abbrev pub is_on : Id → Bool
is_on off = false
is_on on = true
is_on (pair l r) = false

abbrev pub owns : Id → ℕ → ℕ → Bool
owns off h x = false
owns on h x = true
owns (pair l r) zero x = false
owns (pair l r) (suc h) x = if nat_lt x (2 ^ h) then owns l h x else owns r h (x - 2 ^ h)

abbrev pub normal_id : Id → Bool
normal_id off = true
normal_id on = true
normal_id (pair l r) =
    not (is_off l && is_off r) && (not (is_on l && is_on r) && (normal_id l && normal_id r))

abbrev pub NormalId : Id → Type 0
NormalId off = Unit {0}
NormalId on = Unit {0}
NormalId (pair l r) =
    (is_off l ≡ true → is_off r ≢ true) × (is_on l ≡ true → is_on r ≢ true) × NormalId l × NormalId r

abbrev pub norm_id : Id → Id → Id
norm_id l r = if is_off l && is_off r then off else (if is_on l && is_on r then on else pair l r)
