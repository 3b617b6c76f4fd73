use Rattle.std.proofs.Common.{◌+◌, ◌<◌, ◌∷◌, ◌∙◌, ap, sym, length, drop, arith}
use Rattle.ucd_bidi.specs.declared.BidiClass.TheVariants.{ArabicLetter}
use Rattle.bidi.specs.Weak.{w1}
use Rattle.bidi.proofs.WalkLemmas.{walked}
use Rattle.bidi.proofs.weak.w1.Goals as goal

pub loop-i-preserved : goal.loop-i-preserved
loop-i-preserved c =
    let lt : c.loop-i.i < length c.loop-i.classes = omega arith in
    walked (w1 c.loop-i.before) (w1 c.w1_class-before.result) c.loop-i.classes c.loop-i.i c.w1_class-before.result ArabicLetter lt
    (ap (λ v. v ∷ w1 v (drop (c.loop-i.i + 1) c.loop-i.classes)) (sym c.w1_class-before.ensures)) ∙ c.loop-i.invariant
