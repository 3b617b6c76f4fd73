use Rattle.std.proofs.Common.{◌≡◌, Bool, if◌then◌else◌, List, [], ◌∷◌, map, reverse, Some, None, sym, ap, ◌∙◌}
use Rattle.std.specs.Option.{option_map}
use Rattle.shape_plan.specs.Rules.{rules_of}
use Rattle.shape_normalize.specs.Recast.{mapped_char}
use Rattle.shape_normalize.specs.RoundOne.{expansion_of, whole_item, remembers_space, with_space_fallback}
use Rattle.shape_normalize.specs.declared.ot_shape_normalize.recast.MappedChar.{MappedChar}
use Rattle.shape_normalize.proofs.RoundOne.ChainPartLemmas.{expansion_put, expansion_seen}
use Rattle.shape_normalize.proofs.ot_shape_normalize.one_character.Emitted.expand_or_keep.Goals as goal

pub returns-then-branch-clause-parts : goal.returns-then-branch-clause-parts
returns-then-branch-clause-parts g c =
    let shaper = g.T.Shaper.hb_ot_shaper_t in
    let planned = rules_of g.T.Unicode.hb_unicode_funcs_t.unicode shaper.constants shaper.hooks g.T.Face.hb_font_t.face c.args.plan.now c.args.face.now in
    let item = c.args.info.now in
    let parts : List MappedChar = c.decompose.new.expansion.first ∷ reverse c.decompose.new.expansion.seconds.items in
    let kept : Some parts ≡ option_map (map (mapped_char planned.face.nominal_glyph)) (expansion_of planned c.args.shortest item) =
    ap (λ (t : Bool). if t then Some parts else None) (sym c.if-branch.true) ∙ c.in_ok-decompose.ensures in
    expansion_put planned.face.nominal_glyph planned.unicode item (expansion_of planned c.args.shortest item)
    (whole_item planned c.args.invisible item ∷ []) parts kept

pub returns-then-branch-clause-seen : goal.returns-then-branch-clause-seen
returns-then-branch-clause-seen g c =
    let shaper = g.T.Shaper.hb_ot_shaper_t in
    let planned = rules_of g.T.Unicode.hb_unicode_funcs_t.unicode shaper.constants shaper.hooks g.T.Face.hb_font_t.face c.args.plan.now c.args.face.now in
    let item = c.args.info.now in
    let flags = c.args.self.now.scratch_flags in
    let parts : List MappedChar = c.decompose.new.expansion.first ∷ reverse c.decompose.new.expansion.seconds.items in
    let kept : Some parts ≡ option_map (map (mapped_char planned.face.nominal_glyph)) (expansion_of planned c.args.shortest item) =
    ap (λ (t : Bool). if t then Some parts else None) (sym c.if-branch.true) ∙ c.in_ok-decompose.ensures in
    expansion_seen planned.face.nominal_glyph planned.unicode item (expansion_of planned c.args.shortest item) flags
    (if remembers_space planned c.args.invisible item then with_space_fallback flags else flags) parts kept
