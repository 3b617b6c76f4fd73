use Rattle.std.proofs.Common.{◌+◌, ◌<◌, ◌∷◌, ◌∙◌, ap, sym, length, get_or, drop, arith}
use Rattle.ucd_bidi.specs.declared.BidiClass.TheVariants.{ArabicLetter}
use Rattle.bidi.specs.Weak.{w4, w4_class}
use Rattle.bidi.proofs.WalkLemmas.{walked}
use Rattle.bidi.proofs.weak.w4.Goals as goal

pub loop-i-preserved : goal.loop-i-preserved
loop-i-preserved c =
    let lt : c.loop-i.i < length c.loop-i.classes = omega arith in
    walked (w4 c.loop-i.before) (w4 (get_or c.loop-i.classes c.loop-i.i ArabicLetter)) c.loop-i.classes c.loop-i.i c.w4_class.result ArabicLetter lt
    (ap (λ v. v ∷ w4 (get_or c.loop-i.classes c.loop-i.i ArabicLetter) (drop (c.loop-i.i + 1) c.loop-i.classes))
    (ap (w4_class c.loop-i.before (get_or c.loop-i.classes c.loop-i.i ArabicLetter)) (sym c.class_at-after.ensures) ∙ sym c.w4_class.ensures)) ∙ c.loop-i.invariant
