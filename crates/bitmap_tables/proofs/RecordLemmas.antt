-- what one step among the records of a strike's subtables does
use Rattle.std.proofs.Common.{◌≡◌, ℕ, suc, ◌<◌, ◌+◌, ◌-◌, true, false, Some, None, List, refl, arith}
use Rattle.bitmap_tables.specs.Cblc.{holds, record_from}

pub record_next : (t : List ℕ) (list glyph n i : ℕ) → i < n → holds t list glyph i ≡ false
    → record_from t list glyph (n - i) i ≡ record_from t list glyph (n - (i + 1)) (i + 1)
record_next t list glyph n i h f =
    let e : n - i ≡ suc (n - (i + 1)) = omega arith in
    let s : suc i ≡ i + 1 = omega arith in
    rw e (rw f (rw s refl))

pub record_here : (t : List ℕ) (list glyph n i : ℕ) → i < n → holds t list glyph i ≡ true
    → record_from t list glyph (n - i) i ≡ Some i
record_here t list glyph n i h f =
    let e : n - i ≡ suc (n - (i + 1)) = omega arith in
    rw e (rw f refl)

pub record_end : (t : List ℕ) (list glyph n : ℕ) → record_from t list glyph (n - n) n ≡ None
record_end t list glyph n =
    let e : n - n ≡ 0 = omega arith in
    rw e refl
