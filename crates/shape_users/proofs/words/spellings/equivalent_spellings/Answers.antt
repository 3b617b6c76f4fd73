use Rattle.std.proofs.Common.{Err, inl, inr, ap, rules, ◌≡◌, true, false, IsTrue}
use Rattle.shape_plan.specs.Rules.{rules_of}
use Rattle.shape_plan.specs.Run.{run_of}
use Rattle.shape_users.proofs.WordLemmas.{refused_for, not_too_long, compared-texts}
use Rattle.shape_users.proofs.words.spellings.equivalent_spellings.Goals as goal

pub returns-in_err-a-clause-length : goal.returns-in_err-a-clause-length
returns-in_err-a-clause-length g c = λ is.
    inl (inl (c.in_err-a.ensures.length (ap Err (refused_for c.from_residual.result c.in_err-a.field-0.0 c.from_residual.ensures.1 is))))

pub returns-in_err-b-clause-length : goal.returns-in_err-b-clause-length
returns-in_err-b-clause-length g c = λ is.
    let residual = c.from_residual-in_err-b in
    inr (inl (c.in_err-b.ensures.length (ap Err (refused_for residual.result c.in_err-b.field-0.0 residual.ensures.1 is))))

pub returns-clause-equivalent : goal.returns-clause-equivalent
returns-clause-equivalent g c =
    let shaper = g.S.hb_ot_shaper_t in
    let asked = rules_of g.U.hb_unicode_funcs_t.unicode shaper.constants shaper.hooks g.F.hb_font_t.face c.args.plan.now c.args.face.now in
    λ lawful.
    let meets_first : IsTrue c.meets_canonical_premises-of_first.result = search rules in
    let meets_second : IsTrue c.meets_canonical_premises-of_second.result = search rules in
    compared-texts asked c.in_ok-same.same c.in_ok-a.ensures.ok c.in_ok-b.ensures.ok
    (c.in_ok-same.ensures.ok.equivalent
    ((c.meets_canonical_premises-of_first.ensures lawful).0 meets_first)
    ((c.meets_canonical_premises-of_second.ensures lawful).0 meets_second))

pub returns-clause-too_long : goal.returns-clause-too_long
returns-clause-too_long g c = λ long. elim long [
  | inl first ↦ c.in_ok-a.ensures.too_long first
  | inr second ↦ c.in_ok-b.ensures.too_long second
]

pub returns-clause-counted : goal.returns-clause-counted
returns-clause-counted g c =
    let shaper = g.S.hb_ot_shaper_t in
    let layout = g.M.hb_ot_layout_t in
    let run = run_of g.U.hb_unicode_funcs_t.unicode layout.masks layout.lookups shaper.constants shaper.hooks g.F.hb_font_t.face c.args.plan.now c.args.face.now in
    let compared = c.in_ok-same.ensures.ok in
    let of_first = not_too_long run c.args.first.now c.in_ok-a.a c.in_ok-a.ensures.too_long c.in_ok-a.ensures.ok compared.first.counted in
    let of_second = not_too_long run c.args.second.now c.in_ok-b.b c.in_ok-b.ensures.too_long c.in_ok-b.ensures.ok compared.second.counted in
    λ _ long. elim long [
      | inl first ↦ let e : false ≡ true = of_first first in cc
      | inr second ↦ let e : false ≡ true = of_second second in cc
    ]
