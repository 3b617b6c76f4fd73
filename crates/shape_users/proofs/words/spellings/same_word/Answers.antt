use Rattle.std.proofs.Common.{Err, inl, inr, ◌∙◌, ap, sym}
use Rattle.shape_items.specs.Buffer.{Buffer}
use Rattle.shape_normalize.specs.CanonicalForm.{text_of}
use Rattle.shape_normalize.specs.Normalized.{normalized}
use Rattle.shape_plan.specs.Rules.{rules_of}
use Rattle.shape_plan.specs.Run.{run_of}
use Rattle.shape_users.proofs.WordLemmas.{refused_for, not_too_long}
use Rattle.shape_users.proofs.words.spellings.same_word.Goals as goal

pub returns-clause-alike : goal.returns-clause-alike
returns-clause-alike g c =
    let shaper = g.S.hb_ot_shaper_t in
    let rules = rules_of g.U.hb_unicode_funcs_t.unicode shaper.constants shaper.hooks g.F.hb_font_t.face c.args.plan.now c.args.face.now in
    let compared = c.in_ok-same.ensures.ok in
    let first = ap (λ (b : Buffer). text_of b) (compared.first.made ∙ ap (λ (b : Buffer). normalized rules b) c.in_ok-a.ensures.ok) in
    let second = ap (λ (b : Buffer). text_of b) (compared.second.made ∙ ap (λ (b : Buffer). normalized rules b) c.in_ok-b.ensures.ok) in
    (λ same. sym first ∙ compared.equal.0 same ∙ second, λ alike. compared.equal.1 (first ∙ alike ∙ sym second))

pub returns-in_err-a-clause-length : goal.returns-in_err-a-clause-length
returns-in_err-a-clause-length g c = λ is.
    inl (inl (c.in_err-a.ensures.length (ap Err (refused_for c.from_residual.result c.in_err-a.field-0.0 c.from_residual.ensures.1 is))))

pub returns-in_err-b-clause-length : goal.returns-in_err-b-clause-length
returns-in_err-b-clause-length g c = λ is.
    let residual = c.from_residual-in_err-b in
    inr (inl (c.in_err-b.ensures.length (ap Err (refused_for residual.result c.in_err-b.field-0.0 residual.ensures.1 is))))

pub returns-clause-too_long : goal.returns-clause-too_long
returns-clause-too_long g c =
    let shaper = g.S.hb_ot_shaper_t in
    let layout = g.M.hb_ot_layout_t in
    let run = run_of g.U.hb_unicode_funcs_t.unicode layout.masks layout.lookups shaper.constants shaper.hooks g.F.hb_font_t.face c.args.plan.now c.args.face.now in
    let compared = c.in_ok-same.ensures.ok in
    let of_first = not_too_long run c.args.first.now c.in_ok-a.a c.in_ok-a.ensures.too_long c.in_ok-a.ensures.ok compared.first.counted in
    let of_second = not_too_long run c.args.second.now c.in_ok-b.b c.in_ok-b.ensures.too_long c.in_ok-b.ensures.ok compared.second.counted in
    λ long. elim long [
      | inl first ↦ of_first first
      | inr second ↦ of_second second
    ]
