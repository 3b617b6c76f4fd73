use Rattle.std.proofs.Common.{◌≡◌, ℕ, suc, ◌+◌, ◌-◌, ◌<◌, ◌++◌, List, Option, length, take, drop, ap, ap₂, sym, ◌∙◌, arith, drop-cons}
use Rattle.std.proofs.lemmas.List.{drop_all}
use Rattle.shape_items.specs.Items.{Item, new_item}
use Rattle.syllabic.specs.Walking.{item_at}
use Rattle.indic_shaper.specs.Attaching as attaching
use Rattle.indic_shaper.specs.Glyphs.{with_position}
use Rattle.indic_shaper.specs.Places.{walked}
use Rattle.indic_shaper.proofs.PlaceLemmas.{item_back, set_walked, walked_none}
use Rattle.indic_shaper.proofs.initial.attaching.own_signs.Goals as goal

pub loop-i-init : goal.loop-i-init
loop-i-init c =
    let old = c.args.items.now in
    record {
      made = walked_none (attaching.owned c.args.base) attaching.next_place old (length old);
      owner = sym (ap attaching.owner (drop_all (length old) old (omega arith)));
    }

pub loop-i-preserved : goal.loop-i-preserved
loop-i-preserved c =
    let old = c.args.items.now in
    let base = c.args.base in
    let k = c.loop-i.i - 1 in
    let up : suc k ≡ c.loop-i.i = omega arith in
    let next : k + 1 ≡ suc k = omega arith in
    let lt : k < length old = omega arith in
    let rest = drop (suc k) old in
    let now : c.loop-i.items ≡ take (suc k) old ++ walked (attaching.owned base) attaching.next_place (k + 1) rest
    = c.loop-i.invariant.made
    ∙ ap (λ n. take n old ++ walked (attaching.owned base) attaching.next_place n (drop n old)) (sym up)
    ∙ ap (λ n. take (suc k) old ++ walked (attaching.owned base) attaching.next_place n rest) (sym next) in
    let owner : c.loop-i.owner ≡ attaching.owner rest
    = c.loop-i.invariant.owner ∙ ap (λ n. attaching.owner (drop n old)) (sym up) in
    let info : c.item_at-info.result ≡ item_at old k
    = c.item_at-info.ensures ∙ ap (λ (xs : List Item). item_at xs k) now
    ∙ item_back old (walked (attaching.owned base) attaching.next_place (k + 1) rest) k lt in
    let place : c.owned_by-place.result ≡ attaching.owned_place base k (item_at old k) rest
    = c.owned_by-place.ensures ∙ ap₂ (λ (x : Item) (o : Option ℕ). attaching.owned_by base k x o) info owner in
    let put : c.with_position.result ≡ attaching.owned base k (item_at old k) rest
    = c.with_position.ensures ∙ ap₂ (λ (x : Item) (n : ℕ). with_position x n) info place in
    record {
      made = set_walked (attaching.owned base) attaching.next_place old k k c.with_position.result c.loop-i.items lt now put;
      owner = c.owner_at-owner.ensures ∙ ap₂ (λ (x : Item) (o : Option ℕ). attaching.owner_at x o) info owner
          ∙ ap attaching.owner (sym (drop-cons old k (new_item 0 0) lt));
    }
