use Rattle.std.proofs.Common.{◌≡◌, ◌++◌, Option, drop, get_or, refl, ap, ◌∙◌}
use Rattle.std.proofs.lemmas.List.{take_rest}
use Rattle.arabic_stretching.specs.Copying.{fit_for, next_glyphs, next_walk, stretched_from}
use Rattle.arabic_stretching.specs.declared.fitting.Fit.{Fit}
use Rattle.arabic_stretching.proofs.ItemwiseLemmas.{made_on}
use Rattle.arabic_stretching.proofs.copying.stretch.Goals as goal

pub loop-i-preserved : goal.loop-i-preserved
loop-i-preserved g c =
    let face = g.F.hb_font_t.face c.args.face.now in
    let leftward = c.args.right_to_left in
    let glyph = c.index-glyphs-i.result in
    let here : glyph ≡ get_or c.args.glyphs.now c.loop-i.i glyph = cc in
    let fit : c.fit_for-fit.result ≡ fit_for face c.loop-i.walk glyph (drop c.loop-i.i c.args.glyphs.now)
    = c.fit_for-fit.ensures ∙ ap (fit_for face c.loop-i.walk glyph) (take_rest c.args.glyphs.now c.loop-i.i) in
    record {
      left = made_on (stretched_from face leftward) (λ walk x l. next_glyphs face leftward (fit_for face walk x l) x)
          (λ walk x l. next_walk face leftward (fit_for face walk x l) x) (λ walk x l. refl) c.args.glyphs.now c.loop-i.i glyph c.loop-i.walk
          _ c.loop-i.out.items _ _ c.loop-i-test.true here
          (c.in_ok-walk.ensures.ok ∙ ap (λ (f : Option Fit). c.loop-i.out.items ++ next_glyphs face leftward f glyph) fit)
          (c.in_ok-walk.ensures.walk ∙ ap (λ (f : Option Fit). next_walk face leftward f glyph) fit) c.loop-i.invariant.left;
      within = c.in_ok-walk.ensures.within;
    }
