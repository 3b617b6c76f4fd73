use Rattle.std.proofs.Common.{◌≡◌, ◌++◌, reverse, map, vec_len}
use Rattle.shape_normalize.specs.Recast.{recast, seen_mapped}
use Rattle.shape_normalize.proofs.ot_shape_normalize.one_character.Emitted.put_expansion.Given as goal

abbrev pub invariant-loop-part : goal.invariant-loop-part
invariant-loop-part g l =
    let unicode = g.U.hb_unicode_funcs_t.unicode in
    record {
      infos : l.self.infos.items ++ map (recast unicode l.info) (reverse l.self.expansion.seconds.items)
          ≡ l.initial.self.infos.items ++ map (recast unicode l.info) (reverse l.initial.self.expansion.seconds.items);
      flags : seen_mapped unicode l.self.scratch_flags (reverse l.self.expansion.seconds.items)
          ≡ seen_mapped unicode l.initial.self.scratch_flags (reverse l.initial.self.expansion.seconds.items);
      limit : l.self.limit ≡ l.initial.self.limit;
    }

abbrev pub decreases-loop-part : goal.decreases-loop-part
decreases-loop-part g l = vec_len l.self.expansion.seconds
