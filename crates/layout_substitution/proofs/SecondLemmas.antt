-- a ligature that the next glyph refuses doesn't stand there
use Rattle.std.proofs.Common.{◌≡◌, ℕ, true, None, nat_lt, ap}
use Rattle.std.specs.Option.{option_map}
use Rattle.shape_items.specs.Buffer.{Buffer}
use Rattle.layout_matching.specs.Sifted.{begins_with_another}
use Rattle.layout_matching.specs.declared.lookup.Lookup.{Lookup}
use Rattle.layout_matching.proofs.RefusalLemmas.{and_both, when, input_refused}
use Rattle.layout_substitution.specs.Ligatures.{component_row, components_at, ligature_matched, second_glance}
use Rattle.layout_substitution.specs.Substitutes.{component_count, has_components}

pub refused_ligature : (l : Lookup) (b : Buffer) (at ligature : ℕ) → begins_with_another l.table.now (second_glance l b at) ligature ≡ true
    → ligature_matched l b at ligature ≡ None
refused_ligature l b at ligature =
    and_both (nat_lt 1 (component_count l.table.now ligature)) _
    (λ two refused. when (has_components l.table.now ligature) _
    (ap (option_map (components_at ligature)) (input_refused l b.items at (component_row l ligature) two refused)))
