use Rattle.std.proofs.Common.{◌≡◌, Ok, Err, refl, sym, ap, subst, ◌∙◌, inl, inr}
use Rattle.shape_buffer.specs.declared.buffer.error.ShapeError.TheVariants.{Length}
use Rattle.shape_plan.specs.Run.{run_of}
use Rattle.word_cache.specs.Words.{Words, HasKey, Keeps, entry, made, brought_first}
use Rattle.std.proofs.lemmas.Bool.{false≢true}
use Rattle.word_cache.proofs.ShapingLemmas.{key_made, refused_for, passes_for, key_fine}
use Rattle.word_cache.proofs.shaping.shape_word.Goals as goal

pub returns-then-find-clause-found : goal.returns-then-find-clause-found
returns-then-find-clause-found g c =
    let shaper = g.S.hb_ot_shaper_t in
    let layout = g.M.hb_ot_layout_t in
    let run = run_of g.U.hb_unicode_funcs_t.unicode layout.masks layout.lookups shaper.constants shaper.hooks g.F.hb_font_t.face c.args.plan.now c.args.face.now in
    let is = key_made run c.args.number c.args.spelling.now c.in_ok-text.text c.in_ok-key.key.items c.in_ok-text.ensures.ok c.in_ok-key.ensures.key in
    (λ _. subst (λ k. HasKey k c.args.cache.now.entries) is (c.find.ensures.found.0 c.if-find.true), λ _. refl)

pub returns-then-find-clause-known : goal.returns-then-find-clause-known
returns-then-find-clause-known g c = λ _.
    let shaper = g.S.hb_ot_shaper_t in
    let layout = g.M.hb_ot_layout_t in
    let run = run_of g.U.hb_unicode_funcs_t.unicode layout.masks layout.lookups shaper.constants shaper.hooks g.F.hb_font_t.face c.args.plan.now c.args.face.now in
    let is = key_made run c.args.number c.args.spelling.now c.in_ok-text.text c.in_ok-key.key.items c.in_ok-text.ensures.ok c.in_ok-key.ensures.key in
    c.find.ensures.first ∙ ap (λ k. made (brought_first k c.args.cache.now.entries) c.args.cache.now.limit) is

pub returns-clause-found : goal.returns-clause-found
returns-clause-found g c =
    let shaper = g.S.hb_ot_shaper_t in
    let layout = g.M.hb_ot_layout_t in
    let run = run_of g.U.hb_unicode_funcs_t.unicode layout.masks layout.lookups shaper.constants shaper.hooks g.F.hb_font_t.face c.args.plan.now c.args.face.now in
    let is = key_made run c.args.number c.args.spelling.now c.in_ok-text.text c.in_ok-key.key.items c.in_ok-text.ensures.ok c.in_ok-key.ensures.key in (
      λ none. absurd (false≢true none),
      λ has. sym c.if-find.false ∙ c.find.ensures.found.1 (subst (λ k. HasKey k c.args.cache.now.entries) (sym is) has),
    )

pub returns-clause-fresh : goal.returns-clause-fresh
returns-clause-fresh g c = λ _.
    let shaper = g.S.hb_ot_shaper_t in
    let layout = g.M.hb_ot_layout_t in
    let run = run_of g.U.hb_unicode_funcs_t.unicode layout.masks layout.lookups shaper.constants shaper.hooks g.F.hb_font_t.face c.args.plan.now c.args.face.now in
    let is = key_made run c.args.number c.args.spelling.now c.in_ok-text.text c.in_ok-key.key.items c.in_ok-text.ensures.ok c.in_ok-key.ensures.key in
    let key = c.in_ok-key.key.items in
    let word = c.in_ok-word.word in
    let same = c.find.ensures.absent c.if-find.false in
    let kept = c.in_ok-keep.ensures.kept (λ has. false≢true (sym c.if-find.false
    ∙ c.find.ensures.found.1 (subst (λ (w : Words). HasKey key w.entries) same has))) in
    record {
      word = word;
      is_shaped = c.in_ok-word.ensures.word;
      kept = subst (λ k. Keeps (entry k word) c.args.cache.now c.keep.new.self) is
          (subst (λ (w : Words). Keeps (entry key word) w c.keep.new.self) same kept);
    }

pub returns-in_err-key-clause-length : goal.returns-in_err-key-clause-length
returns-in_err-key-clause-length g c = λ is.
    let shaper = g.S.hb_ot_shaper_t in
    let layout = g.M.hb_ot_layout_t in
    let run = run_of g.U.hb_unicode_funcs_t.unicode layout.masks layout.lookups shaper.constants shaper.hooks g.F.hb_font_t.face c.args.plan.now c.args.face.now in
    let residual = c.from_residual-in_err-key in
    let cause = refused_for residual.result c.in_err-key.field-0.0 residual.ensures.1 is in
    inl (passes_for run c.args.spelling.now c.in_ok-text.text c.in_ok-text.ensures.ok (c.in_err-key.ensures.length (ap Err cause)))

pub returns-then-find-clause-too_long : goal.returns-then-find-clause-too_long
returns-then-find-clause-too_long g c = λ long.
    let shaper = g.S.hb_ot_shaper_t in
    let layout = g.M.hb_ot_layout_t in
    let run = run_of g.U.hb_unicode_funcs_t.unicode layout.masks layout.lookups shaper.constants shaper.hooks g.F.hb_font_t.face c.args.plan.now c.args.face.now in
    let is = key_made run c.args.number c.args.spelling.now c.in_ok-text.text c.in_ok-key.key.items c.in_ok-text.ensures.ok c.in_ok-key.ensures.key in
    elim long [
      | inl key ↦
          absurd (key_fine run c.args.spelling.now c.in_ok-text.text c.in_ok-text.ensures.ok
          (λ bytes. absurd (let e : Ok c.in_ok-text.text ≡ Err Length = c.in_ok-text.ensures.length.1 bytes in cc))
          (λ passes. false≢true (c.in_ok-key.ensures.past passes)) key)
      | inr (absent, shaping) ↦ absurd (absent (subst (λ k. HasKey k c.args.cache.now.entries) is (c.find.ensures.found.0 c.if-find.true)))
    ]

pub returns-in_err-word-clause-length : goal.returns-in_err-word-clause-length
returns-in_err-word-clause-length g c = λ is_err.
    let shaper = g.S.hb_ot_shaper_t in
    let layout = g.M.hb_ot_layout_t in
    let run = run_of g.U.hb_unicode_funcs_t.unicode layout.masks layout.lookups shaper.constants shaper.hooks g.F.hb_font_t.face c.args.plan.now c.args.face.now in
    let is = key_made run c.args.number c.args.spelling.now c.in_ok-text.text c.in_ok-key.key.items c.in_ok-text.ensures.ok c.in_ok-key.ensures.key in
    let residual = c.from_residual-in_err-word in
    let cause = refused_for residual.result c.in_err-word.field-0.0 residual.ensures.1 is_err in
    inr (
      λ has. false≢true (sym c.if-find.false ∙ c.find.ensures.found.1 (subst (λ k. HasKey k c.args.cache.now.entries) (sym is) has)),
      c.in_err-word.ensures.length (ap Err cause),
    )

pub returns-clause-too_long : goal.returns-clause-too_long
returns-clause-too_long g c = λ long.
    let shaper = g.S.hb_ot_shaper_t in
    let layout = g.M.hb_ot_layout_t in
    let run = run_of g.U.hb_unicode_funcs_t.unicode layout.masks layout.lookups shaper.constants shaper.hooks g.F.hb_font_t.face c.args.plan.now c.args.face.now in
    elim long [
      | inl key ↦
          absurd (key_fine run c.args.spelling.now c.in_ok-text.text c.in_ok-text.ensures.ok
          (λ bytes. absurd (let e : Ok c.in_ok-text.text ≡ Err Length = c.in_ok-text.ensures.length.1 bytes in cc))
          (λ passes. false≢true (c.in_ok-key.ensures.past passes)) key)
      | inr (absent, shaping) ↦ c.in_ok-word.ensures.too_long shaping
    ]
