use Rattle.std.proofs.Common.{◌≡◌, ◌<◌, true, false, Err, length, ap, sym, ◌∙◌, arith}
use Rattle.shape_plan.specs.Run.{run_of}
use Rattle.shape_users.proofs.WordLemmas.{alike_at, nowhere_more, too_long_at, none_long_more, found_first, none_found, refused_for}
use Rattle.shape_users.proofs.words.find_word.Goals as goal

pub returns-then-branch-clause-found : goal.returns-then-branch-clause-found
returns-then-branch-clause-found g c =
    let shaper = g.S.hb_ot_shaper_t in
    let layout = g.M.hb_ot_layout_t in
    let run = run_of g.U.hb_unicode_funcs_t.unicode layout.masks layout.lookups shaper.constants shaper.hooks g.F.hb_font_t.face c.args.plan.now c.args.face.now in
    let within : c.loop-place.place < length c.args.words.now = c.loop-place-test.true in
    (within, alike_at run c.args.words.now c.loop-place.place c.index-words-place.result c.as_str-known.result.now c.args.spelling.now within c.as_str-known.ensures.value (c.in_ok-same_word.ensures.alike.0 c.if-branch.true))

pub loop-place-preserved : goal.loop-place-preserved
loop-place-preserved g c =
    let shaper = g.S.hb_ot_shaper_t in
    let layout = g.M.hb_ot_layout_t in
    let run = run_of g.U.hb_unicode_funcs_t.unicode layout.masks layout.lookups shaper.constants shaper.hooks g.F.hb_font_t.face c.args.plan.now c.args.face.now in
    let within : c.loop-place.place < length c.args.words.now = c.loop-place-test.true in
    let words = c.args.words.now in
    let known = c.as_str-known.result.now in
    let value = c.as_str-known.ensures.value in (
      nowhere_more run words c.loop-place.place c.index-words-place.result known c.args.spelling.now within value c.loop-place.invariant.0
          (λ alike. absurd (let e : false ≡ true = sym c.if-branch.false ∙ c.in_ok-same_word.ensures.alike.1 alike in cc)),
      none_long_more run words c.loop-place.place c.index-words-place.result known c.args.spelling.now within value c.loop-place.invariant.1
          (λ long. absurd (let e : false ≡ true = c.in_ok-same_word.ensures.too_long long in cc)),
    )

pub returns-then-branch-clause-too_long : goal.returns-then-branch-clause-too_long
returns-then-branch-clause-too_long g c = λ finds.
    let shaper = g.S.hb_ot_shaper_t in
    let layout = g.M.hb_ot_layout_t in
    let run = run_of g.U.hb_unicode_funcs_t.unicode layout.masks layout.lookups shaper.constants shaper.hooks g.F.hb_font_t.face c.args.plan.now c.args.face.now in
    let within : c.loop-place.place < length c.args.words.now = c.loop-place-test.true in
    absurd (found_first run c.args.words.now c.loop-place.place c.index-words-place.result c.as_str-known.result.now c.args.spelling.now within c.as_str-known.ensures.value c.loop-place.invariant.1
    (λ long. absurd (let e : false ≡ true = c.in_ok-same_word.ensures.too_long long in cc))
    (c.in_ok-same_word.ensures.alike.0 c.if-branch.true) finds)

pub returns-in_err-same_word-clause-length : goal.returns-in_err-same_word-clause-length
returns-in_err-same_word-clause-length g c = λ is.
    let shaper = g.S.hb_ot_shaper_t in
    let layout = g.M.hb_ot_layout_t in
    let run = run_of g.U.hb_unicode_funcs_t.unicode layout.masks layout.lookups shaper.constants shaper.hooks g.F.hb_font_t.face c.args.plan.now c.args.face.now in
    let within : c.loop-place.place < length c.args.words.now = c.loop-place-test.true in
    let cause = refused_for c.from_residual.result c.in_err-same_word.field-0.0 c.from_residual.ensures.1 is in
    too_long_at run c.args.words.now c.loop-place.place c.index-words-place.result c.as_str-known.result.now c.args.spelling.now within c.as_str-known.ensures.value c.loop-place.invariant.0
    (c.in_err-same_word.ensures.length (ap Err cause))

pub returns-clause-too_long : goal.returns-clause-too_long
returns-clause-too_long g c = λ finds.
    let shaper = g.S.hb_ot_shaper_t in
    let layout = g.M.hb_ot_layout_t in
    let run = run_of g.U.hb_unicode_funcs_t.unicode layout.masks layout.lookups shaper.constants shaper.hooks g.F.hb_font_t.face c.args.plan.now c.args.face.now in
    absurd (none_found run c.args.words.now c.args.spelling.now
    (λ k d below. c.loop-place.invariant.1 k d (omega (arith, below, c.loop-place-test.false))) finds)
