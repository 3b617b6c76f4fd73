use Rattle.std.proofs.Common.{◌≡◌, ◌++◌, take, drop, length}
use Rattle.indic_shaper.specs.Consonants.{AreKnown, letters_placed, placed_in, several_still}
use Rattle.indic_shaper.specs.Places.{walked}
use Rattle.indic_shaper.proofs.initial.consonants.place_letters.Given as goal

-- what is done with what is left is what the whole list makes
abbrev pub invariant-loop-i : goal.invariant-loop-i
invariant-loop-i g l =
    let lookups = g.M.hb_ot_layout_t.lookups l.map l.face in
    record {
      left : take l.i l.items ++ walked (placed_in lookups l.facts) several_still l.several (drop l.i l.items)
          ≡ letters_placed lookups l.facts l.fn.items;
      len : length l.items ≡ length l.fn.items;
      known : AreKnown lookups l.facts l.known;
    }
