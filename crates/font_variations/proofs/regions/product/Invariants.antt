use Rattle.std.proofs.Common.{◌≡◌, ◌-◌, ℕ}
use Rattle.std.specs.Float.{Float}
use Rattle.font_variations.specs.Laws.{IsPart}
use Rattle.font_variations.specs.Regions.{axis_scalar, product_from, product_of}
use Rattle.font_variations.proofs.regions.product.Given as goal

-- the product from here on is the product from the start
abbrev pub invariant-loop-axis : goal.invariant-loop-axis
invariant-loop-axis l = let p : ℕ → Float = axis_scalar l.table l.coordinates l.at in
    record {
      same : product_of l.table l.coordinates l.at l.count ≡ product_from p (l.count - l.axis) l.axis l.product;
      part : IsPart l.product;
    }
