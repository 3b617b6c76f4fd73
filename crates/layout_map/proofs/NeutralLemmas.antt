-- settings that change nothing
use Rattle.std.proofs.Common.{◌≡◌, ℕ, Bool, true, false, Option, Some, None, ◌&&◌, ◌||◌, ◌<◌, ◌+◌, not, is_some, nat_eq, nat_lt, refl, sym, ap, subst, ◌∙◌, arith, if◌then◌else◌}
use Rattle.shape_common.specs.FlagNames.{F_GLOBAL_SEARCH}
use Rattle.layout_map.specs.declared.settings.Setting.{Setting}
use Rattle.layout_map.specs.declared.features.Indexes.{Indexes}
use Rattle.layout_map.specs.Settings.{has_flag}
use Rattle.layout_map.specs.Chosen.{Chosen, index_of, required_tag_of}
use Rattle.layout_map.specs.Features.{Allotment, with_setting, with_indexes, with_required, indexes_of, own_indexes, has_room, is_found}

-- neither table lists its feature, it has no fallback, is not searched everywhere and is not the required one
pub neutral : (gsub gpos : Chosen) (s : Setting) (a : Allotment) → index_of gsub s.tag ≡ None → index_of gpos s.tag ≡ None
    → s.has_fallback ≡ false → has_flag s.flags F_GLOBAL_SEARCH ≡ false → nat_eq (required_tag_of gsub) s.tag ≡ false
    → with_setting gsub gpos a s ≡ a
neutral gsub gpos s a first second fallback search required =
    let none : is_found (own_indexes gsub gpos s.tag) ≡ false =
    ap (λ i. is_some i || is_some (index_of gpos s.tag)) first ∙ ap (λ i. is_some i) second in
    by_room (has_room a.place s) none
  where
    by_room : (t : Bool) → is_found (own_indexes gsub gpos s.tag) ≡ false
        → (if t then with_indexes (with_required gsub a s) s (indexes_of gsub gpos s) else a) ≡ a
    by_room false none = refl
    by_room true none = rw required (rw search (rw none (rw none (rw fallback refl))))
