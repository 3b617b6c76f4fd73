-- what one step among strikes does
use Rattle.std.proofs.Common.{◌≡◌, ℕ, suc, ◌<◌, ◌≤◌, ◌+◌, true, false, List, nat_lt, sym, refl, arith}
use Rattle.std.proofs.lemmas.Bool.Decides.{nat_tests}
use Rattle.bitmap_tables.specs.Strikes.{largest}
use Rattle.bitmap_tables.specs.Sbix.{ppem_of}
use Rattle.bitmap_tables.specs.Cblc.{pixels_of}

largest_next : (size : ℕ → ℕ) (i best : ℕ) → best ≡ largest size i → size best < size i → i ≡ largest size (i + 1)
largest_next size i best is more =
    let s : i + 1 ≡ suc i = omega arith in
    let yes : nat_lt (size best) (size i) ≡ true = grind (arith, nat_tests, more) in
    rw s (rw (sym is) (rw yes refl))

largest_stays : (size : ℕ → ℕ) (i best : ℕ) → best ≡ largest size i → size i ≤ size best → best ≡ largest size (i + 1)
largest_stays size i best is least =
    let s : i + 1 ≡ suc i = omega arith in
    let no : nat_lt (size best) (size i) ≡ false = grind (arith, nat_tests, least) in
    rw s (rw (sym is) (rw no refl))

pub ppem_next : (t : List ℕ) (glyphs i best : ℕ) → best ≡ largest (ppem_of t glyphs) i → ppem_of t glyphs best < ppem_of t glyphs i
    → i ≡ largest (ppem_of t glyphs) (i + 1)
ppem_next t glyphs = largest_next (ppem_of t glyphs)

pub ppem_stays : (t : List ℕ) (glyphs i best : ℕ) → best ≡ largest (ppem_of t glyphs) i → ppem_of t glyphs i ≤ ppem_of t glyphs best
    → best ≡ largest (ppem_of t glyphs) (i + 1)
ppem_stays t glyphs = largest_stays (ppem_of t glyphs)

pub pixels_next : (t : List ℕ) (i best : ℕ) → best ≡ largest (pixels_of t) i → pixels_of t best < pixels_of t i
    → i ≡ largest (pixels_of t) (i + 1)
pixels_next t = largest_next (pixels_of t)

pub pixels_stays : (t : List ℕ) (i best : ℕ) → best ≡ largest (pixels_of t) i → pixels_of t i ≤ pixels_of t best
    → best ≡ largest (pixels_of t) (i + 1)
pixels_stays t = largest_stays (pixels_of t)
