use Rattle.std.proofs.Common.{◌+◌, ◌<◌, ◌∷◌, ◌∙◌, ap, sym, length, drop, arith}
use Rattle.ucd_bidi.specs.declared.BidiClass.TheVariants.{ArabicLetter}
use Rattle.bidi.specs.Weak.{w6}
use Rattle.bidi.proofs.WalkLemmas.{walked}
use Rattle.bidi.proofs.weak.w6.Goals as goal

pub loop-i-preserved : goal.loop-i-preserved
loop-i-preserved c =
    let lt : c.loop-i.i < length c.loop-i.classes = omega arith in
    walked w6 w6 c.loop-i.classes c.loop-i.i c.w6_class.result ArabicLetter lt
    (ap (λ v. v ∷ w6 (drop (c.loop-i.i + 1) c.loop-i.classes)) (sym c.w6_class.ensures)) ∙ c.loop-i.invariant
