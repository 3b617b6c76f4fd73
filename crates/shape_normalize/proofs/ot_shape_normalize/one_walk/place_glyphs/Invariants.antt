use Rattle.std.proofs.Common.{◌≡◌, ◌++◌, ◌==◌, true, map, take, drop, length}
use Rattle.shape_items.specs.Items.{ccc_of_item}
use Rattle.shape_plan.specs.Rules.{rules_of}
use Rattle.shape_normalize.specs.OneWalk.{expanded_after, seen_after, FollowsRuns}
use Rattle.shape_normalize.proofs.ot_shape_normalize.one_walk.place_glyphs.Given as goal

-- what stands at its place, then what is left expanded, is what the list expands to
abbrev pub invariant-loop-i : goal.invariant-loop-i
invariant-loop-i g l =
    let shaper = g.T.Shaper.hb_ot_shaper_t in
    let rules = rules_of g.T.Unicode.hb_unicode_funcs_t.unicode shaper.constants shaper.hooks g.T.Face.hb_font_t.face l.plan l.face in
    let old = l.fn.buffer in
    record {
      placed : take l.i l.buffer.items ++ expanded_after rules l.invisible (l.i == 0) (drop l.i l.buffer.items)
          ≡ expanded_after rules l.invisible true old.items;
      seen : seen_after rules l.invisible (l.i == 0) l.out.scratch_flags (drop l.i l.buffer.items)
          ≡ seen_after rules l.invisible true old.scratch_flags old.items;
      as_many : length l.buffer.items ≡ length old.items;
      infos : l.out.infos ≡ l.fn.out.infos;
      limit : l.out.limit ≡ l.fn.out.limit;
      rest : l.buffer ≡ record old { items = l.buffer.items };
      runs : l.follows ≡ true → FollowsRuns (map ccc_of_item (take l.i l.buffer.items)) l.runs;
    }
