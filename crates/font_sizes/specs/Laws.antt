-- what holds of numbers at a size
use Rattle.std.specs.Prelude.{◌≡◌, ◌≤ℤ◌, ℕ, ℤ, pos, negsuc}
use Rattle.font_sizes.specs.Factors.{factor_of, sized}

-- the size of the em square changes no number
abbrev pub ChangesNothing : Type 0
ChangesNothing = (n : ℤ) (units : ℕ) → negsuc 2147483647 ≤ℤ n → n ≤ℤ pos 2147483647 → sized (factor_of (pos units) units) n ≡ n
