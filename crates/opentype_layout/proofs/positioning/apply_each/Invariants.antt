use Rattle.std.proofs.Common.{◌≡◌, drop, fold}
use Rattle.layout_positions.specs.Digested.{HoldsGlyphs}
use Rattle.layout_positions.specs.Walk.{Budgeted, lookup_applied, budgeted}
use Rattle.opentype_layout.specs.Lookups.{lookups_of}
use Rattle.opentype_layout.proofs.positioning.apply_each.Given as goal

-- what the lookups from here on make of the buffer is what all make of the first one
abbrev pub invariant-loop-map : goal.invariant-loop-map
invariant-loop-map l =
    let here : Budgeted = record { buffer = l.buffer; left = l.left } in record {
      made : fold lookup_applied here (lookups_of l.tables (drop l.map-index l.maps))
          ≡ fold lookup_applied (budgeted l.fn.buffer) (lookups_of l.tables l.maps);
      run : HoldsGlyphs l.run l.buffer.items;
    }
