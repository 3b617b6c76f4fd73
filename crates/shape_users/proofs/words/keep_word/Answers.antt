use Rattle.std.proofs.Common.{◌≡◌, List, Ok, Err, false, true, length, refl, inl, inr, ap, subst, ◌∙◌, arith}
use Rattle.shape_items.specs.Buffer.{Buffer}
use Rattle.shape_buffer.specs.Guess.{guessed}
use Rattle.shape_buffer.specs.declared.buffer.error.ShapeError.TheVariants.{Length}
use Rattle.shape_pipeline.specs.Headline.{target_of}
use Rattle.shape_pipeline.specs.Shaped.{ShapingPasses, Shapes, shaped}
use Rattle.shape_plan.specs.Run.{run_of}
use Rattle.shape_users.specs.Words.{spelled, FindsTooLong}
use Rattle.shape_users.specs.declared.words.Word.{Word}
use Rattle.shape_users.proofs.WordLemmas.{place_of, none_of, place_pushed, refused_for, found_fine, none_fine, shaped_fine}
use Rattle.shape_users.proofs.words.keep_word.Goals as goal

pub returns-in-Some-clause-place : goal.returns-in-Some-clause-place
returns-in-Some-clause-place g c =
    let shaper = g.S.hb_ot_shaper_t in
    let layout = g.M.hb_ot_layout_t in
    let run = run_of g.U.hb_unicode_funcs_t.unicode layout.masks layout.lookups shaper.constants shaper.hooks g.F.hb_font_t.face c.args.plan.now c.args.face.now in
    place_of run c.as_slice.result.now c.args.words.now.items c.as_slice.ensures.value c.in_ok-place.field-0 c.in-Some.place c.args.spelling.now c.in-Some.is c.in_ok-place.ensures.found

pub returns-in-Some-clause-kept : goal.returns-in-Some-clause-kept
returns-in-Some-clause-kept g c =
    let shaper = g.S.hb_ot_shaper_t in
    let layout = g.M.hb_ot_layout_t in
    let run = run_of g.U.hb_unicode_funcs_t.unicode layout.masks layout.lookups shaper.constants shaper.hooks g.F.hb_font_t.face c.args.plan.now c.args.face.now in
    let found = place_of run c.as_slice.result.now c.args.words.now.items c.as_slice.ensures.value c.in_ok-place.field-0 c.in-Some.place c.args.spelling.now c.in-Some.is c.in_ok-place.ensures.found in
    inl (found.0, refl)

pub returns-clause-place : goal.returns-clause-place
returns-clause-place g c =
    let shaper = g.S.hb_ot_shaper_t in
    let layout = g.M.hb_ot_layout_t in
    let run = run_of g.U.hb_unicode_funcs_t.unicode layout.masks layout.lookups shaper.constants shaper.hooks g.F.hb_font_t.face c.args.plan.now c.args.face.now in
    let last : c.len-place.result
    ≡ length c.args.words.now.items = omega (arith, c.len-place.ensures, c.as_slice.ensures.len, ap length c.as_slice.ensures.value) in
    place_pushed run c.args.words.now.items c.push.new.self.items _ c.len-place.result c.args.spelling.now c.in_ok-push.ensures.items last c.in_ok-spelling.ensures.ok

pub returns-clause-kept : goal.returns-clause-kept
returns-clause-kept g c =
    let shaper = g.S.hb_ot_shaper_t in
    let layout = g.M.hb_ot_layout_t in
    let run = run_of g.U.hb_unicode_funcs_t.unicode layout.masks layout.lookups shaper.constants shaper.hooks g.F.hb_font_t.face c.args.plan.now c.args.face.now in
    let last : c.len-place.result
    ≡ length c.args.words.now.items = omega (arith, c.len-place.ensures, c.as_slice.ensures.len, ap length c.as_slice.ensures.value) in
    inr (
      last,
      record {
        nowhere = none_of run c.as_slice.result.now c.args.words.now.items c.as_slice.ensures.value c.in_ok-place.field-0 c.args.spelling.now c.in_default.is c.in_ok-place.ensures.nowhere;
        word = _;
        behind = c.in_ok-push.ensures.items;
        spelling_is = c.in_ok-spelling.ensures.ok;
        glyphs_are = c.in-Ok.ensures.ok.glyphs ∙ ap (λ (text : Buffer). shaped run text) c.in_ok-text.ensures.ok;
      },
    )

pub returns-in_err-place-clause-length : goal.returns-in_err-place-clause-length
returns-in_err-place-clause-length g c = λ is.
    let unicode = g.U.hb_unicode_funcs_t.unicode in
    let shaper = g.S.hb_ot_shaper_t in
    let layout = g.M.hb_ot_layout_t in
    let run = run_of unicode layout.masks layout.lookups shaper.constants shaper.hooks g.F.hb_font_t.face c.args.plan.now c.args.face.now in
    let cause = refused_for c.from_residual.result c.in_err-place.field-0.0 c.from_residual.ensures.1 is in
    inl (subst (λ (words : List Word). FindsTooLong run words c.args.spelling.now) c.as_slice.ensures.value
    (c.in_err-place.ensures.length (ap Err cause)))

pub returns-in-Some-clause-too_long : goal.returns-in-Some-clause-too_long
returns-in-Some-clause-too_long g c = λ long.
    let unicode = g.U.hb_unicode_funcs_t.unicode in
    let shaper = g.S.hb_ot_shaper_t in
    let layout = g.M.hb_ot_layout_t in
    let run = run_of unicode layout.masks layout.lookups shaper.constants shaper.hooks g.F.hb_font_t.face c.args.plan.now c.args.face.now in
    absurd (found_fine run c.as_slice.result.now c.args.words.now.items c.as_slice.ensures.value c.args.spelling.now
    (λ finds. absurd (let e : false ≡ true = c.in_ok-place.ensures.too_long finds in cc))
    c.in_ok-place.field-0 c.in-Some.place c.in-Some.is c.in_ok-place.ensures.found long)

pub returns-in_err-text-clause-length : goal.returns-in_err-text-clause-length
returns-in_err-text-clause-length g c = λ is.
    let unicode = g.U.hb_unicode_funcs_t.unicode in
    let shaper = g.S.hb_ot_shaper_t in
    let layout = g.M.hb_ot_layout_t in
    let run = run_of unicode layout.masks layout.lookups shaper.constants shaper.hooks g.F.hb_font_t.face c.args.plan.now c.args.face.now in
    let residual = c.from_residual-in_err-text in
    let cause = refused_for residual.result c.in_err-text.field-0.0 residual.ensures.1 is in
    inr (
      none_of run c.as_slice.result.now c.args.words.now.items c.as_slice.ensures.value c.in_ok-place.field-0 c.args.spelling.now c.in_default.is c.in_ok-place.ensures.nowhere,
      inl (c.in_err-text.ensures.length.0 (ap Err cause)),
    )

pub returns-in-Err-clause-length : goal.returns-in-Err-clause-length
returns-in-Err-clause-length g c = λ is.
    let unicode = g.U.hb_unicode_funcs_t.unicode in
    let shaper = g.S.hb_ot_shaper_t in
    let layout = g.M.hb_ot_layout_t in
    let run = run_of unicode layout.masks layout.lookups shaper.constants shaper.hooks g.F.hb_font_t.face c.args.plan.now c.args.face.now in
    let text = c.in_ok-text.text in
    let made : text ≡ spelled c.args.spelling.now = c.in_ok-text.ensures.ok in
    let cause : c.in-Err.fault.cause ≡ Length = cc in
    inr (
      none_of run c.as_slice.result.now c.args.words.now.items c.as_slice.ensures.value c.in_ok-place.field-0 c.args.spelling.now c.in_default.is c.in_ok-place.ensures.nowhere,
      inr (
        λ none. absurd (let e : false ≡ true = c.in-Err.ensures.empty (ap (λ (b : Buffer). b.items) made ∙ none) in cc),
        subst (λ (b : Buffer). ShapingPasses run (target_of run b) (guessed unicode b)) made (c.in-Err.ensures.length cause),
      ),
    )

pub returns-clause-too_long : goal.returns-clause-too_long
returns-clause-too_long g c = λ long.
    let unicode = g.U.hb_unicode_funcs_t.unicode in
    let shaper = g.S.hb_ot_shaper_t in
    let layout = g.M.hb_ot_layout_t in
    let run = run_of unicode layout.masks layout.lookups shaper.constants shaper.hooks g.F.hb_font_t.face c.args.plan.now c.args.face.now in
    let made : c.in_ok-text.text ≡ spelled c.args.spelling.now = c.in_ok-text.ensures.ok in
    let counted : Shapes run (target_of run (spelled c.args.spelling.now)) (guessed unicode (spelled c.args.spelling.now)) c.in-Ok.glyphs
    = subst (λ (b : Buffer). Shapes run (target_of run b) (guessed unicode b) c.in-Ok.glyphs) made c.in-Ok.ensures.ok.counted in
    absurd (none_fine run c.as_slice.result.now c.args.words.now.items c.as_slice.ensures.value c.args.spelling.now
    (λ finds. absurd (let e : false ≡ true = c.in_ok-place.ensures.too_long finds in cc))
    (shaped_fine run c.args.spelling.now c.in-Ok.glyphs
    (λ bytes. absurd (let e : Ok c.in_ok-text.text ≡ Err Length = c.in_ok-text.ensures.length.1 bytes in cc)) counted)
    long)
