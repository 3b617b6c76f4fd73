use Rattle.std.proofs.Common.{◌≡◌, ◌≤◌, ◌++◌, length, fold, vec_len}
use Rattle.std.specs.List.{flat_map}
use Rattle.shape_normalize.specs.RoundOne.{seen_variant, variant_items, variants}
use Rattle.shape_normalize.proofs.ot_shape_normalize.one_character.Emitted.put_variants.Given as goal

-- with what is left of the sequence comes what the whole sequence becomes
abbrev pub invariant-parts : goal.invariant-parts
invariant-parts g l =
    let unicode = g.U.hb_unicode_funcs_t.unicode in
    let face = g.F.hb_font_t.face l.face in
    record {
      infos : l.self.infos.items ++ flat_map (variant_items face l.not_found) (variants unicode l.rest)
          ≡ l.initial.self.infos.items ++ flat_map (variant_items face l.not_found) (variants unicode l.sequence);
      flags : fold (seen_variant face) l.self.scratch_flags (variants unicode l.rest)
          ≡ fold (seen_variant face) l.initial.self.scratch_flags (variants unicode l.sequence);
      within : vec_len l.self.infos ≤ l.self.limit;
      limit : l.self.limit ≡ l.initial.self.limit;
    }

abbrev pub decreases-parts : goal.decreases-parts
decreases-parts g l = length l.rest
