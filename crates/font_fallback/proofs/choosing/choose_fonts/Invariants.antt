use Rattle.std.proofs.Common.{◌≡◌, ℕ, ◌-◌, ◌<◌, ◌≤◌, ◌++◌, ◌∷◌, [], Bool, List, length, get_or, None, Ok, vec_len}
use Rattle.font_fallback.specs.Choice.{AreTries, HaveAll, first_with, rows_of}
use Rattle.font_fallback.proofs.choosing.choose_fonts.Given as goal

abbrev pub decreases-loop-found : goal.decreases-loop-found
decreases-loop-found g l = l.fonts - vec_len l.tried

abbrev pub invariant-loop-found : goal.invariant-loop-found
invariant-loop-found g l = record {
  each : length l.found.items ≡ l.clusters;
  found_first : (k : ℕ) → k < l.clusters → get_or l.found.items k None ≡ first_with 0 (rows_of l.tried.items) k;
  within : vec_len l.tried ≤ l.fonts;
  callable : goal.C-IsAlwaysCallable g l.try_font;
  tries : AreTries (λ now font one next. goal.C-step g now font (Ok one) next) l.fn.try_font 0 l.tried.items l.try_font;
  no_more : (fewer : List (List Bool)) (last : List Bool) → rows_of l.tried.items ≡ fewer ++ last ∷ [] → HaveAll fewer l.clusters → ⊥;
}
