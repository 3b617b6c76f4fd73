-- rows that speak of any line
use Rattle.std.proofs.Common.{◌≡◌, ℕ, ℤ, pos, negsuc, List, [], ◌∷◌, refl, sym, ap, subst, ◌∙◌, arith}
use Rattle.std.specs.Prelude.{map, unsigned_abs}
use Rattle.std.proofs.lemmas.List.Elements.{All-nil, All-cons}
use Rattle.text_lines.specs.Levels.{HasLevel, IsLevelled, base_at, levels_between}
use Rattle.text_lines.specs.Lines.{run_shown}
use Rattle.text_lines.specs.Reach.{Reaches, font_of, highest, lowest, reaches_in}
use Rattle.text_lines.specs.Worked.{part, two_fonts}
use Rattle.text_lines.specs.WorkedLevels.{hebrew}
use Rattle.text_lines.specs.declared.lines.TextLine.{TextLine}

pub levelled : (line : TextLine) → line.start ≡ 0 → line.end ≡ 3 → line.level ≡ 0
    → map run_shown line.runs.items ≡ part 0 2 1 ∷ part 2 3 0 ∷ [] → IsLevelled hebrew line
levelled line start end level runs = record {
  base = rw (level, start) refl;
  parts = part 0 2 1 ∷ part 2 3 0 ∷ [];
  follow = rw (start, end) (refl, omega arith, (refl, omega arith, refl));
  levels = rw (level, start, end) (let has = HasLevel (levels_between hebrew 0 0 3) 0 0 in
      All-cons has (part 0 2 1) (part 2 3 0 ∷ []) refl (All-cons has (part 2 3 0) [] refl (All-nil has)));
  runs = runs;
}

pub not_by_itself : (line : TextLine) → line.start ≡ 0 → line.level ≡ 1 → IsLevelled hebrew line → ⊥
not_by_itself line start level is =
    let base : line.level ≡ 0 = subst (λ n. line.level ≡ base_at hebrew n) start is.base in omega (arith, level, base)

abbrev sized : List (ℤ × ℤ)
sized = reaches_in 100 two_fonts

pub of_both : (line : TextLine) → map font_of line.runs.items ≡ 0 ∷ 1 ∷ [] → line.ascent ≡ pos 90 → line.descent ≡ negsuc 19
    → Reaches sized line
of_both line fonts above below = rw fonts (above, below)

pub no_higher : (line : TextLine) → map font_of line.runs.items ≡ 0 ∷ 1 ∷ [] → line.ascent ≡ pos 91 → Reaches sized line → ⊥
no_higher line fonts above reaches =
    let high : line.ascent ≡ pos 90 = subst (λ fs. line.ascent ≡ highest sized (pos 0) fs) fonts reaches.0 in
    let same : 91 ≡ 90 = ap unsigned_abs (sym above ∙ high) in omega (arith, same)

pub no_deeper : (line : TextLine) → map font_of line.runs.items ≡ 0 ∷ 1 ∷ [] → line.descent ≡ negsuc 20 → Reaches sized line → ⊥
no_deeper line fonts below reaches =
    let deep : line.descent ≡ negsuc 19 = subst (λ fs. line.descent ≡ lowest sized (pos 0) fs) fonts reaches.1 in
    let same : 21 ≡ 20 = ap unsigned_abs (sym below ∙ deep) in omega (arith, same)
