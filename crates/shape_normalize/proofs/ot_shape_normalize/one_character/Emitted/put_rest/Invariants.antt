use Rattle.std.proofs.Common.{◌≡◌, ◌≤◌, ◌++◌, ◌==◌, true, map, drop, vec_len}
use Rattle.shape_items.specs.Items.{ccc_of_item}
use Rattle.shape_plan.specs.Rules.{rules_of}
use Rattle.shape_normalize.specs.OneWalk.{expanded_after, seen_after, FollowsRuns}
use Rattle.shape_normalize.proofs.ot_shape_normalize.one_character.Emitted.put_rest.Given as goal

-- what was emitted, then what is left expanded, is what the list becomes
abbrev pub invariant-loop-i : goal.invariant-loop-i
invariant-loop-i g l =
    let shaper = g.T.Shaper.hb_ot_shaper_t in
    let rules = rules_of g.T.Unicode.hb_unicode_funcs_t.unicode shaper.constants shaper.hooks g.T.Face.hb_font_t.face l.plan l.face in
    let from = vec_len l.initial.self.infos in
    record {
      infos : l.self.infos.items ++ expanded_after rules l.invisible (l.i == 0) (drop l.i l.infos)
          ≡ l.initial.self.infos.items ++ expanded_after rules l.invisible (from == 0) (drop from l.infos);
      flags : seen_after rules l.invisible (l.i == 0) l.self.scratch_flags (drop l.i l.infos)
          ≡ seen_after rules l.invisible (from == 0) l.initial.self.scratch_flags (drop from l.infos);
      within : vec_len l.self.infos ≤ l.self.limit;
      limit : l.self.limit ≡ l.initial.self.limit;
      runs : l.follows ≡ true → FollowsRuns (map ccc_of_item l.self.infos.items) l.runs;
    }
