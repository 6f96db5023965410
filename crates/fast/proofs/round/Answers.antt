use Rattle.std.proofs.Common.{T, sym, subst}
use Rattle.fast.proofs.Rounding.{small, cast_bits, signed_bound, word_bound, signed_number, by_pattern}
use Rattle.fast.proofs.round.Goals as goal

pub from_whole-requires : goal.from_whole-requires
from_whole-requires g c =
    let p = g.met.T.Patterned in
    let under = rw (c.SIGN.ensures, c.WHOLE.ensures, p.sign_law, p.whole_law) at c.if-a-WHOLE.true in
    let places = rw (c.SIGN.ensures, p.sign_law) at c.places-s.ensures.places in
    rw (c.SIGN.ensures, c.LEADING.ensures, c.LEADING-then-a-WHOLE.ensures, p.sign_law, p.leading_law) (small _ _ _ under places)

pub overflow_add-b : goal.overflow_add-b
overflow_add-b g c =
    let p = g.met.T.Patterned in
    let under = rw (c.SIGN.ensures, c.WHOLE.ensures, p.sign_law, p.whole_law) at c.if-a-WHOLE.true in
    let places = rw (c.SIGN.ensures, p.sign_law) at c.places-s.ensures.places in
    let bound = rw p.sign_law at c.to_pattern-b.ensures.bound in
    rw (c.to_pattern-size.ensures.value, c.from_whole.ensures, c.SIGN.ensures, c.SIGN-then-a-WHOLE.ensures, c.SIGN-then-a-WHOLE-2.ensures, c.LEADING.ensures, c.LEADING-then-a-WHOLE.ensures, p.sign_law, p.leading_law)
    (word_bound _ _ (signed_bound _ _ _ bound (cast_bits _ _ (small _ _ _ under places))))

pub from_pattern-requires-clause-bound : goal.from_pattern-requires-clause-bound
from_pattern-requires-clause-bound g c =
    let p = g.met.T.Patterned in
    let under = rw (c.SIGN.ensures, c.WHOLE.ensures, p.sign_law, p.whole_law) at c.if-a-WHOLE.true in
    let places = rw (c.SIGN.ensures, p.sign_law) at c.places-s.ensures.places in
    let bound = rw p.sign_law at c.to_pattern-b.ensures.bound in
    rw (c.to_pattern-size.ensures.value, c.from_whole.ensures, c.SIGN.ensures, c.SIGN-then-a-WHOLE.ensures, c.SIGN-then-a-WHOLE-2.ensures, c.LEADING.ensures, c.LEADING-then-a-WHOLE.ensures, p.sign_law, p.leading_law)
    (signed_bound _ _ _ bound (cast_bits _ _ (small _ _ _ under places)))

pub from_pattern-requires-clause-not_nan : goal.from_pattern-requires-clause-not_nan
from_pattern-requires-clause-not_nan g c =
    let p = g.met.T.Patterned in
    let under = rw (c.SIGN.ensures, c.WHOLE.ensures, p.sign_law, p.whole_law) at c.if-a-WHOLE.true in
    let places = rw (c.SIGN.ensures, p.sign_law) at c.places-s.ensures.places in
    let bound = rw p.sign_law at c.to_pattern-b.ensures.bound in
    rw (c.to_pattern-size.ensures.value, c.from_whole.ensures, c.SIGN.ensures, c.SIGN-then-a-WHOLE.ensures, c.SIGN-then-a-WHOLE-2.ensures, c.LEADING.ensures, c.LEADING-then-a-WHOLE.ensures, p.sign_law, p.leading_law)
    (signed_number _ _ _ bound (small _ _ _ under places))

pub returns-then-a-WHOLE : goal.returns-then-a-WHOLE
returns-then-a-WHOLE g c =
    let p = g.met.T.Patterned in
    let under = rw (c.SIGN.ensures, c.WHOLE.ensures, p.sign_law, p.whole_law) at c.if-a-WHOLE.true in
    let places = rw (c.SIGN.ensures, p.sign_law) at c.places-s.ensures.places in
    let bound = rw p.sign_law at c.to_pattern-b.ensures.bound in
    rw (c.from_pattern.ensures, c.to_pattern-size.ensures.value, c.from_whole.ensures, c.SIGN.ensures, c.SIGN-then-a-WHOLE.ensures, c.SIGN-then-a-WHOLE-2.ensures, c.LEADING.ensures, c.LEADING-then-a-WHOLE.ensures, p.sign_law, p.leading_law)
    (by_pattern _ _ _ under places _ (subst T (sym c.to_pattern-b.ensures.fits) tt) c.to_pattern-b.ensures.value bound)
