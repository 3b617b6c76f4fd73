use Rattle.std.proofs.Common.{◌+◌, ◌<◌, ◌∷◌, ◌∙◌, ap₂, sym, length, drop, arith}
use Rattle.ucd_bidi.specs.declared.BidiClass.TheVariants.{ArabicLetter}
use Rattle.bidi.specs.Weak.{w2}
use Rattle.bidi.proofs.WalkLemmas.{walked}
use Rattle.bidi.proofs.weak.w2.Goals as goal

pub loop-i-preserved : goal.loop-i-preserved
loop-i-preserved c =
    let lt : c.loop-i.i < length c.loop-i.classes = omega arith in
    walked (w2 c.loop-i.strong) (w2 c.strong_then-strong.result) c.loop-i.classes c.loop-i.i c.w2_class.result ArabicLetter lt
    (ap₂ (λ v s. v ∷ w2 s (drop (c.loop-i.i + 1) c.loop-i.classes)) (sym c.w2_class.ensures) (sym c.strong_then-strong.ensures)) ∙ c.loop-i.invariant
