use Rattle.std.proofs.Common.{◌≡◌, ℕ, suc, ◌-◌, Bool, true, false, List, refl, ap, ap₂, sym, ◌∙◌, arith}
use Rattle.shape_items.specs.Items.{Item}
use Rattle.indic_shaper.specs.Bases as bases
use Rattle.indic_shaper.proofs.initial.base.base_from.Goals as goal

next : (items : List Item) (limit : ℕ) (seen : Bool) (base n : ℕ) → bases.ends_search items limit seen n ≡ false
    → bases.base_from items limit seen base (suc n)
    ≡ bases.base_from items limit (bases.seen_at items seen n) (bases.base_at items base n) n
next items limit seen base n e = rw e refl

last : (items : List Item) (limit : ℕ) (seen : Bool) (base n : ℕ) → bases.ends_search items limit seen n ≡ true
    → bases.base_from items limit seen base (suc n) ≡ bases.base_at items base n
last items limit seen base n e = rw e refl

pub returns-then-ends_search : goal.returns-then-ends_search
returns-then-ends_search c =
    let items = c.args.items.now in
    let seen = c.loop-i.seen_below in
    let n = c.loop-i.i - 1 in
    let up : suc n ≡ c.loop-i.i = omega arith in
    let ends : bases.ends_search items c.args.limit seen n ≡ true = sym c.ends_search.ensures ∙ c.if-ends_search.true in
    c.base_at-here.ensures ∙ sym (last items c.args.limit seen c.loop-i.base n ends)
    ∙ ap (bases.base_from items c.args.limit seen c.loop-i.base) up ∙ c.loop-i.invariant.left

pub loop-i-preserved : goal.loop-i-preserved
loop-i-preserved c =
    let items = c.args.items.now in
    let seen = c.loop-i.seen_below in
    let n = c.loop-i.i - 1 in
    let up : suc n ≡ c.loop-i.i = omega arith in
    let ends : bases.ends_search items c.args.limit seen n ≡ false = sym c.ends_search.ensures ∙ c.if-ends_search.false in
    record {
      left = ap₂ (λ (s : Bool) (b : ℕ). bases.base_from items c.args.limit s b n) c.seen_at-seen_below.ensures c.base_at-here.ensures
          ∙ sym (next items c.args.limit seen c.loop-i.base n ends)
          ∙ ap (bases.base_from items c.args.limit seen c.loop-i.base) up ∙ c.loop-i.invariant.left;
    }
