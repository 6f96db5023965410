-- What `<` and `<=` of a float type answer.
use Rattle.std.proofs.Common.{◌≡◌, Bool, true, false, cond, ◌||◌, refl, Some, None, Less, Equal, Greater}
use lib.Ieee.{Float, lt, le, eq}
use Rattle.std.specs.Ordering.{is_lt, is_le, is_some_and, partial_lt, partial_le, float_partial_cmp}

pub le_is : (x y : Float) → partial_le float_partial_cmp x y ≡ le x y
unfolding le
le_is x y = go (lt x y) (eq x y) (lt y x)
  where
    go : (a b c : Bool) → is_some_and is_le (cond a (Some Less) (cond b (Some Equal) (cond c (Some Greater) None))) ≡ (a || b)
    go true b c = refl
    go false true c = refl
    go false false true = refl
    go false false false = refl

pub lt_is : (x y : Float) → partial_lt float_partial_cmp x y ≡ lt x y
lt_is x y = go (lt x y) (eq x y) (lt y x)
  where
    go : (a b c : Bool) → is_some_and is_lt (cond a (Some Less) (cond b (Some Equal) (cond c (Some Greater) None))) ≡ a
    go true b c = refl
    go false true c = refl
    go false false true = refl
    go false false false = refl
