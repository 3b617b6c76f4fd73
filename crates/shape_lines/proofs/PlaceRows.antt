-- The rows of places of a cut.
use Rattle.std.proofs.Common.{◌≡◌, ◌<◌, ℕ, zero, suc, true, false, refl, arith}
use Rattle.std.proofs.lemmas.Bool.{false≢true}
use Rattle.std.proofs.Common.{[], ◌∷◌}
use Rattle.shape_lines.specs.Places.{cluster_at, lacks_break_at}
use Rattle.shape_lines.specs.Worked.Places.{WorkedPlaces, glyph_in}

pub worked_places : WorkedPlaces
worked_places = record {
  before_a_safe_cluster = record {
    beyond = omega arith;
    before = omega arith;
    differ = λ e. let same : 0 ≡ 1 = e in absurd (omega arith);
    safe = rising;
  };
  falling = record {
    beyond = omega arith;
    before = omega arith;
    differ = λ e. let same : 1 ≡ 0 = e in absurd (omega arith);
    safe = reversed;
  };
  before_the_text = λ is. let some = is.beyond in absurd (omega arith);
  after_the_text = λ is. let lt : 2 < 2 = is.before in absurd (omega arith);
  inside_a_cluster = λ is. is.differ refl;
  before_an_unsafe_cluster = λ is. absurd (false≢true (is.safe 1 (omega arith) refl));
  after_an_unsafe_falling_cluster = λ is. absurd (false≢true (is.safe 0 (omega arith) refl));
  one_unsafe_glyph_further_on = λ is. absurd (false≢true (is.safe 2 (omega arith) refl));
}
  where
    rising : (k : ℕ) → k < 2 → cluster_at (glyph_in 0 false ∷ glyph_in 1 true ∷ []) k ≡ 1
        → lacks_break_at (glyph_in 0 false ∷ glyph_in 1 true ∷ []) k ≡ true
    rising zero lt e = let same : 0 ≡ 1 = e in absurd (omega arith)
    rising (suc zero) lt e = refl
    rising (suc (suc k)) lt e = absurd (omega arith)

    reversed : (k : ℕ) → k < 2 → cluster_at (glyph_in 1 true ∷ glyph_in 0 false ∷ []) k ≡ 1
        → lacks_break_at (glyph_in 1 true ∷ glyph_in 0 false ∷ []) k ≡ true
    reversed zero lt e = refl
    reversed (suc zero) lt e = let same : 0 ≡ 1 = e in absurd (omega arith)
    reversed (suc (suc k)) lt e = absurd (omega arith)
