use Rattle.std.proofs.Common.{◌≡◌, ◌+◌, ◌-◌, ℕ, suc, Bool, List, if◌then◌else◌, refl, sym, ap, ◌∙◌, arith}
use Rattle.shape_items.specs.Items.{Item}
use Rattle.layout_tables.specs.declared.lookups.LookupSubtable.{LookupSubtable}
use Rattle.layout_matching.specs.declared.lookup.Lookup.{Lookup}
use Rattle.layout_positions.specs.Marks.{is_searched, places_searched}
use Rattle.layout_positions.proofs.bases.places_searched.Goals as goal
use Rattle.layout_positions.proofs.bases.places_searched.Goals.{then-is_searched, else-is_searched}

next : (l : Lookup) (subtable : LookupSubtable) (items : List Item) (i d : ℕ) → places_searched l subtable items i (d + 1)
    ≡ places_searched l subtable items i d + (if is_searched l subtable items (i - 1 - d) then 1 else 0)
next l subtable items i d =
    let e : d + 1 ≡ suc d = omega arith in
    rw e refl

pub loop-d-preserved : goal.loop-d-preserved
loop-d-preserved c =
    let before : ℕ = places_searched c.args.lookup.now c.args.subtable c.args.items.now c.args.i c.loop-d.d in
    let more : Bool → ℕ = λ b. before + (if b then 1 else 0) in
    let here = next c.args.lookup.now c.args.subtable c.args.items.now c.args.i c.loop-d.d in
    elim c.if-is_searched.branch [
      | then-is_searched w ↦ record {
        searched = w.searched-is ∙ ap (λ n. n + 1) c.loop-d.invariant.searched
            ∙ ap more (sym w.if-is_searched.true ∙ c.is_searched.ensures) ∙ sym here;
        few = omega (arith, w.searched-is, c.loop-d.invariant.few);
      }
      | else-is_searched w ↦
          let none : before ≡ before + 0 = omega arith in
          record {
            searched = w.searched-is ∙ c.loop-d.invariant.searched ∙ none
                ∙ ap more (sym w.if-is_searched.false ∙ c.is_searched.ensures) ∙ sym here;
            few = omega (arith, w.searched-is, c.loop-d.invariant.few);
          }
    ]
