use Rattle.std.proofs.Common.{◌≡◌, ◌≤◌, ◌++◌, take, fold, vec_len}
use Rattle.std.specs.List.{flat_map}
use Rattle.shape_plan.specs.Rules.{rules_of}
use Rattle.shape_normalize.specs.RoundOne.{emitted_for, seen_emitted}
use Rattle.shape_normalize.proofs.ot_shape_normalize.one_character.Emitted.put_items.Given as goal

abbrev pub invariant-items : goal.invariant-items
invariant-items g l =
    let shaper = g.T.Shaper.hb_ot_shaper_t in
    let rules = rules_of g.T.Unicode.hb_unicode_funcs_t.unicode shaper.constants shaper.hooks g.T.Face.hb_font_t.face l.plan l.face in
    record {
      infos : l.self.infos.items
          ≡ l.initial.self.infos.items ++ flat_map (emitted_for rules l.invisible l.shortest) (take l.info-index l.sequence);
      flags : l.self.scratch_flags
          ≡ fold (seen_emitted rules l.invisible l.shortest) l.initial.self.scratch_flags (take l.info-index l.sequence);
      within : vec_len l.self.infos ≤ l.self.limit;
      limit : l.self.limit ≡ l.initial.self.limit;
    }
