use Rattle.std.proofs.Common.{◌≡◌, ◌≤◌, ◌++◌, length, fold, vec_len}
use Rattle.shape_items.specs.Buffer.{limit_of}
use Rattle.shape_plan.specs.Rules.{rules_of}
use Rattle.shape_normalize.specs.RoundOne.{expanded, seen_sequence, sequences}
use Rattle.shape_normalize.proofs.ot_shape_normalize.round_one.expand_all.Given as goal

-- with what is left of the list comes what the whole list becomes
abbrev pub invariant-sequences : goal.invariant-sequences
invariant-sequences g l =
    let shaper = g.T.Shaper.hb_ot_shaper_t in
    let rules = rules_of g.T.Unicode.hb_unicode_funcs_t.unicode shaper.constants shaper.hooks g.T.Face.hb_font_t.face l.plan l.face in
    let invisible = l.buffer.invisible_glyph in
    let not_found = l.buffer.not_found_variation_selector_glyph in
    record {
      infos : l.out.infos.items ++ expanded rules invisible not_found l.rest ≡ expanded rules invisible not_found l.buffer.items;
      flags : fold (seen_sequence rules invisible) l.out.scratch_flags (sequences l.rest)
          ≡ fold (seen_sequence rules invisible) l.buffer.scratch_flags (sequences l.buffer.items);
      within : vec_len l.out.infos ≤ l.out.limit;
      limit : l.out.limit ≡ limit_of l.buffer;
    }

abbrev pub decreases-sequences : goal.decreases-sequences
decreases-sequences g l = length l.rest
