use Rattle.std.proofs.Common.{◌≡◌, ◌<◌, length, slice_index_or, sym, subst, arith}
use Rattle.std.proofs.lemmas.Bool.Decides.{nat_tests}
use Rattle.layout_matching.specs.WholeRules.{AreWholes}
use Rattle.layout_matching.proofs.firsts.Firsts.wholes_of.Goals as goal

pub returns-then-index-self : goal.returns-then-index-self
returns-then-index-self c = λ lookup are.
    let self = c.args.self.now in
    let all = c.index-self-index.result in
    let inside : self.index < length self.wholes.now = grind (arith, nat_tests, c.if-index-self.true, c.from-index.ensures) in
    subst (AreWholes lookup) (sym c.as_slice.ensures.value)
    (subst (λ n. AreWholes lookup (slice_index_or self.wholes.now n all).items) (sym c.from-index.ensures) (are all inside))
