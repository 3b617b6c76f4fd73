use Rattle.std.proofs.Common.{◌∙◌, arith}
use Rattle.shape_common.proofs.WrappingLemmas.{kept_bits}
use Rattle.shape_fallback.proofs.ExactLemmas.{piled-exact}
use Rattle.shape_fallback.proofs.ot_shape_fallback.one_mark.piled.Goals as goal

pub returns-then-agree-clause-value : goal.returns-then-agree-clause-value
returns-then-agree-clause-value c = grind (arith, kept_bits)

pub returns-then-agree-clause-exact : goal.returns-then-agree-clause-exact
returns-then-agree-clause-exact c =
    λ unmoved reversed fits. returns-then-agree-clause-value c ∙ piled-exact c.args.gap c.args.mark c.args.base unmoved reversed fits

pub returns-clause-value : goal.returns-clause-value
returns-clause-value c = grind (arith, kept_bits)

pub returns-clause-exact : goal.returns-clause-exact
returns-clause-exact c = λ unmoved reversed fits. returns-clause-value c ∙ piled-exact c.args.gap c.args.mark c.args.base unmoved reversed fits
