use Rattle.std.proofs.Common.{◌≡◌, ◌≤ℤ◌, pos, Bool, true, false, ◌∙◌, ap, sym, arith}
use Rattle.std.proofs.lemmas.Int.{ints}
use Rattle.shape_common.proofs.WrappingLemmas.{kept_bits}
use Rattle.shape_fallback.specs.Spaces.{em_advance, em_fraction}
use Rattle.shape_fallback.proofs.ExactLemmas.{down-exact}
use Rattle.shape_fallback.proofs.ot_shape_fallback.spaces.em_advance.Goals as goal

pub returns-then-horizontal-clause-exact : goal.returns-then-horizontal-clause-exact
returns-then-horizontal-clause-exact c = λ down low. absurd (let both : true ≡ false = sym c.if-horizontal.true ∙ down in cc)

pub returns-clause-value : goal.returns-clause-value
unfolding em_advance
returns-clause-value c = grind (arith, kept_bits)

pub returns-clause-exact : goal.returns-clause-exact
returns-clause-exact c = λ down low.
    let fits = c.ranges.scale in
    let high : c.args.scale ≤ℤ pos 2147483647 = omega (arith, ints) in
    returns-clause-value c
    ∙ ap (λ (horizontal : Bool). em_advance horizontal (em_fraction c.args.scale c.args.space_type)) down
    ∙ down-exact c.args.scale c.args.space_type low high c.requires
