use Rattle.std.proofs.Common.{◌≡◌, ℕ, ◌≤◌, true, false, Option, None, Some, Ok, sym, ◌∙◌, ap, length, map, arith, IfSome}
use Rattle.std.proofs.lemmas.List.{length-append, length-map}
use Rattle.std.specs.List.{list_all}
use Rattle.std.specs.Option.{option_map}
use Rattle.canonical_form.specs.Chain.{kept_part}
use Rattle.canonical_form.proofs.Expanding.ShortestWalkLemmas.{sought, sought_ended, sought_first, sought_found, sought_past, sought_broken}
use Rattle.canonical_form.proofs.Expanding.WalkLemmas.{found_parts, walked}
use Rattle.shape_plan.specs.Rules.{rules_of, decompositions, has_glyph}
use Rattle.shape_normalize.specs.Recast.{mapped_char}
use Rattle.shape_normalize.specs.declared.ot_shape_normalize.recast.MappedChar.{MappedChar}
use Rattle.shape_normalize.proofs.Hooks.RulesLemmas.{FallsAlong-planned}
use Rattle.shape_normalize.proofs.RoundOne.ChainPartLemmas.{chars_of, found_chars, found_within, part_is, none_is, grown_chars, grown_parts, parts_found}
use Rattle.shape_normalize.proofs.ot_shape_normalize.decompose.walk_chain.Goals as goal

IfSome-weaker : (found : Option (MappedChar × ℕ)) (m n : ℕ) → m ≤ n → IfSome found (λ f. f.1 ≤ m) → IfSome found (λ f. f.1 ≤ n)
IfSome-weaker found m n le within =
    elim found as (λ o. IfSome o (λ f. f.1 ≤ m) → IfSome o (λ f. f.1 ≤ n)) [ None ↦ λ _. tt | Some f ↦ λ h. omega arith ] within

pub chain-preserved-else-shortest : goal.chain-preserved-else-shortest
chain-preserved-else-shortest g c =
    let shaper = g.T.Shaper.hb_ot_shaper_t in
    let rules = rules_of g.T.Unicode.hb_unicode_funcs_t.unicode shaper.constants shaper.hooks g.T.Face.hb_font_t.face c.args.plan.now c.args.face.now in
    let falls = FallsAlong-planned g.met.T.Unicode.hb_unicode_funcs_t.lawful shaper.constants.has_decompose shaper.hooks g.met.T.Shaper.hb_ot_shaper_t.lawful_hooks c.args.plan.now c.args.face.now in
    let glyph = rules.face.nominal_glyph in
    let kept = c.in_ok-keep_second.ensures.kept (ap Ok c.if-not-branch.false) in
    let new = c.keep_second.new.seconds.items in
    let part = c.in-Some-mapped.part in
    let is = part_is part (mapped_char glyph c.in-Some.a) (has_glyph glyph c.in-Some.a) c.in-Some-mapped.ensures in
    let same : part.c ≡ c.in-Some.a = ap (λ (p : MappedChar). p.c) is.1 in
    let kept_b : true ≡ list_all (has_glyph glyph) (kept_part c.in-Some.b) = sym c.if-not-branch.false ∙ c.in_ok-keep_second.ensures.test in
    record {
      walk = sought_found (decompositions rules) (has_glyph glyph) falls c.args.shortest _ _ _ (chars_of new) c.len.result c.chain.point _ _
          c.if-shortest.false c.chain.invariant.walk c.in-Some.ensures kept_b (grown_chars glyph c.chain.seconds.items new c.in-Some.b kept) is.0
          (omega (arith, c.keep_second.new.seconds.ok.0, length-map new (λ (p : MappedChar). p.c)))
          ∙ ap (λ a. walked (found_parts (Some (a, c.len.result)) (chars_of new)) (chars_of new)
          (sought rules.split (has_glyph glyph) c.args.shortest (rules.height c.in-Some.a) c.in-Some.a)) (sym same);
      within = omega (arith, c.keep_second.new.seconds.ok.0);
      seconds = grown_parts glyph c.chain.seconds.items new c.in-Some.b c.chain.invariant.seconds kept;
      found = is.1 ∙ ap (mapped_char glyph) (sym same);
    }

pub returns-then-shortest : goal.returns-then-shortest
returns-then-shortest g c =
    let shaper = g.T.Shaper.hb_ot_shaper_t in
    let rules = rules_of g.T.Unicode.hb_unicode_funcs_t.unicode shaper.constants shaper.hooks g.T.Face.hb_font_t.face c.args.plan.now c.args.face.now in
    let falls = FallsAlong-planned g.met.T.Unicode.hb_unicode_funcs_t.lawful shaper.constants.has_decompose shaper.hooks g.met.T.Shaper.hb_ot_shaper_t.lawful_hooks c.args.plan.now c.args.face.now in
    let glyph = rules.face.nominal_glyph in
    let kept = c.in_ok-keep_second.ensures.kept (ap Ok c.if-not-branch.false) in
    let new = c.keep_second.new.seconds.items in
    let part = c.in-Some-mapped.part in
    let is = part_is part (mapped_char glyph c.in-Some.a) (has_glyph glyph c.in-Some.a) c.in-Some-mapped.ensures in
    let same : part.c ≡ c.in-Some.a = ap (λ (p : MappedChar). p.c) is.1 in
    let kept_b : true ≡ list_all (has_glyph glyph) (kept_part c.in-Some.b) = sym c.if-not-branch.false ∙ c.in_ok-keep_second.ensures.test in
    parts_found glyph (Some (part, c.len.result)) new (grown_parts glyph c.chain.seconds.items new c.in-Some.b c.chain.invariant.seconds kept)
    (is.1 ∙ ap (mapped_char glyph) (sym same))
    ∙ ap (option_map (map (mapped_char glyph))) (ap (λ a. found_parts (Some (a, c.len.result)) (chars_of new)) same
    ∙ sought_first (decompositions rules) (has_glyph glyph) falls c.args.shortest _ _ _ (chars_of new) c.len.result c.chain.point _ _
    c.if-shortest.true c.chain.invariant.walk c.in-Some.ensures kept_b (grown_chars glyph c.chain.seconds.items new c.in-Some.b kept) is.0
    (omega (arith, c.keep_second.new.seconds.ok.0, length-map new (λ (p : MappedChar). p.c))))

pub chain-preserved : goal.chain-preserved
chain-preserved g c =
    let shaper = g.T.Shaper.hb_ot_shaper_t in
    let rules = rules_of g.T.Unicode.hb_unicode_funcs_t.unicode shaper.constants shaper.hooks g.T.Face.hb_font_t.face c.args.plan.now c.args.face.now in
    let falls = FallsAlong-planned g.met.T.Unicode.hb_unicode_funcs_t.lawful shaper.constants.has_decompose shaper.hooks g.met.T.Shaper.hb_ot_shaper_t.lawful_hooks c.args.plan.now c.args.face.now in
    let glyph = rules.face.nominal_glyph in
    let kept = c.in_ok-keep_second.ensures.kept (ap Ok c.if-not-branch.false) in
    let new = c.keep_second.new.seconds.items in
    let none = none_is (mapped_char glyph c.in-Some.a) (has_glyph glyph c.in-Some.a) c.in_default-mapped.ensures in
    let kept_b : true ≡ list_all (has_glyph glyph) (kept_part c.in-Some.b) = sym c.if-not-branch.false ∙ c.in_ok-keep_second.ensures.test in
    let grown = grown_chars glyph c.chain.seconds.items new c.in-Some.b kept in
    record {
      walk =
          sought_past (decompositions rules) (has_glyph glyph) falls c.args.shortest _ (chars_of c.chain.seconds.items) (chars_of new)
          (found_chars c.chain.found) c.chain.point _ _ c.chain.invariant.walk
          (rw (length-map c.chain.seconds.items (λ (p : MappedChar). p.c)) (found_within c.chain.found _ c.chain.invariant.within))
          c.in-Some.ensures kept_b grown none;
      within = IfSome-weaker c.chain.found _ _ (omega
          (arith, ap length kept, length-append c.chain.seconds.items (map (mapped_char glyph) (kept_part c.in-Some.b)))) c.chain.invariant.within;
      seconds = grown_parts glyph c.chain.seconds.items new c.in-Some.b c.chain.invariant.seconds kept;
      found = c.chain.invariant.found;
    }

pub returns-then-not-branch : goal.returns-then-not-branch
returns-then-not-branch g c =
    let shaper = g.T.Shaper.hb_ot_shaper_t in
    let rules = rules_of g.T.Unicode.hb_unicode_funcs_t.unicode shaper.constants shaper.hooks g.T.Face.hb_font_t.face c.args.plan.now c.args.face.now in
    let falls = FallsAlong-planned g.met.T.Unicode.hb_unicode_funcs_t.lawful shaper.constants.has_decompose shaper.hooks g.met.T.Shaper.hb_ot_shaper_t.lawful_hooks c.args.plan.now c.args.face.now in
    let glyph = rules.face.nominal_glyph in
    let same : c.keep_second.new.seconds.items ≡ c.chain.seconds.items = c.in_ok-keep_second.ensures.same (ap Ok c.if-not-branch.true) in
    let kept_b : false ≡ list_all (has_glyph glyph) (kept_part c.in-Some.b) = sym c.if-not-branch.true ∙ c.in_ok-keep_second.ensures.test in
    rw same (parts_found glyph c.chain.found c.chain.seconds.items c.chain.invariant.seconds c.chain.invariant.found
    ∙ ap (option_map (map (mapped_char glyph))) (sought_broken (decompositions rules) (has_glyph glyph) falls c.args.shortest _ _
    (chars_of c.chain.seconds.items) c.chain.point _ _ c.chain.invariant.walk c.in-Some.ensures kept_b))

pub returns : goal.returns
returns g c =
    let shaper = g.T.Shaper.hb_ot_shaper_t in
    let rules = rules_of g.T.Unicode.hb_unicode_funcs_t.unicode shaper.constants shaper.hooks g.T.Face.hb_font_t.face c.args.plan.now c.args.face.now in
    let glyph = rules.face.nominal_glyph in
    parts_found glyph c.chain.found c.chain.seconds.items c.chain.invariant.seconds c.chain.invariant.found
    ∙ ap (option_map (map (mapped_char glyph))) (sought_ended rules.split (has_glyph glyph) c.args.shortest _ _ (chars_of c.chain.seconds.items)
    (rules.height c.chain.point) c.chain.point c.chain.invariant.walk c.in_default.ensures)

pub chain-smaller-else-shortest : goal.chain-smaller-else-shortest
chain-smaller-else-shortest g c =
    let shaper = g.T.Shaper.hb_ot_shaper_t in
    let falls = FallsAlong-planned g.met.T.Unicode.hb_unicode_funcs_t.lawful shaper.constants.has_decompose shaper.hooks g.met.T.Shaper.hb_ot_shaper_t.lawful_hooks c.args.plan.now c.args.face.now in
    falls.falls c.chain.point c.in-Some.a c.in-Some.b (sym c.in-Some.ensures)

pub chain-smaller : goal.chain-smaller
chain-smaller g c =
    let shaper = g.T.Shaper.hb_ot_shaper_t in
    let falls = FallsAlong-planned g.met.T.Unicode.hb_unicode_funcs_t.lawful shaper.constants.has_decompose shaper.hooks g.met.T.Shaper.hb_ot_shaper_t.lawful_hooks c.args.plan.now c.args.face.now in
    falls.falls c.chain.point c.in-Some.a c.in-Some.b (sym c.in-Some.ensures)
