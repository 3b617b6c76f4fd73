use Rattle.std.proofs.Common.{◌≡◌, ◌≤◌, length, map, IfSome}
use Rattle.canonical_form.specs.Expansion.{chosen_expansion}
use Rattle.canonical_form.proofs.Expanding.ShortestWalkLemmas.{sought}
use Rattle.canonical_form.proofs.Expanding.WalkLemmas.{found_parts, walked}
use Rattle.shape_plan.specs.Plan.{hooks_of}
use Rattle.shape_plan.specs.Rules.{used_height, used_decompositions, has_glyph}
use Rattle.shape_normalize.specs.Recast.{mapped_char}
use Rattle.shape_normalize.proofs.RoundOne.ChainPartLemmas.{chars_of, found_chars}
use Rattle.shape_normalize.proofs.ot_shape_normalize.decompose.walk_chain.Given as goal

-- the expansion is what the rest of the chain gives, with the second parts after it, else what was found; each part has
-- the glyph of its character
abbrev pub invariant-chain : goal.invariant-chain
invariant-chain g l =
    let shaper = g.T.Shaper.hb_ot_shaper_t in
    let hooks = hooks_of shaper.hooks l.plan l.face in
    let D = used_decompositions g.T.Unicode.hb_unicode_funcs_t.unicode shaper.constants.has_decompose hooks in
    let glyph = (g.T.Face.hb_font_t.face l.face).nominal_glyph in
    let test = has_glyph glyph in
    let chars = chars_of l.seconds.items in
    record {
      walk : chosen_expansion D test l.shortest l.fn.c
          ≡ walked (found_parts (found_chars l.found) chars) chars (sought D.split test l.shortest (D.height l.point) l.point);
      within : IfSome l.found (λ f. f.1 ≤ length l.seconds.items);
      seconds : l.seconds.items ≡ map (mapped_char glyph) chars;
      found : IfSome l.found (λ f. f.0 ≡ mapped_char glyph f.0.c);
    }

abbrev pub decreases-chain : goal.decreases-chain
decreases-chain g l =
    used_height g.T.Unicode.hb_unicode_funcs_t.unicode g.T.Shaper.hb_ot_shaper_t.constants.has_decompose
    (hooks_of g.T.Shaper.hb_ot_shaper_t.hooks l.plan l.face) l.point
