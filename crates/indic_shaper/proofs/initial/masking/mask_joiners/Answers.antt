use Rattle.std.proofs.Common.{◌≡◌, suc, ◌-◌, ◌<◌, ◌++◌, Bool, List, length, take, drop, ap, ap₂, sym, ◌∙◌, arith, drop-cons}
use Rattle.std.proofs.lemmas.List.{drop_all}
use Rattle.shape_items.specs.Items.{Item, new_item}
use Rattle.syllabic.specs.Walking.{item_at}
use Rattle.indic_shaper.specs.Masking as masking
use Rattle.indic_shaper.specs.Places.{walked}
use Rattle.indic_shaper.proofs.PlaceLemmas.{item_back, set_walked, walked_none}
use Rattle.indic_shaper.proofs.initial.masking.mask_joiners.Goals as goal

pub loop-i-init : goal.loop-i-init
loop-i-init c =
    let old = c.args.items.now in
    record {
      made = walked_none (masking.joiner_masked c.args.facts.now) masking.no_state old tt;
      before = sym (ap masking.is_before_zwnj (drop_all (length old) old (omega arith)));
    }

pub loop-i-preserved : goal.loop-i-preserved
loop-i-preserved c =
    let old = c.args.items.now in
    let facts = c.args.facts.now in
    let k = c.loop-i.i - 1 in
    let up : suc k ≡ c.loop-i.i = omega arith in
    let lt : k < length old = omega arith in
    let rest = drop (suc k) old in
    let now : c.loop-i.items ≡ take (suc k) old ++ walked (masking.joiner_masked facts) masking.no_state tt rest
    = c.loop-i.invariant.made
    ∙ ap (λ n. take n old ++ walked (masking.joiner_masked facts) masking.no_state tt (drop n old)) (sym up) in
    let before : c.loop-i.before ≡ masking.is_before_zwnj rest
    = c.loop-i.invariant.before ∙ ap (λ n. masking.is_before_zwnj (drop n old)) (sym up) in
    let info : c.item_at-info.result ≡ item_at old k
    = c.item_at-info.ensures ∙ ap (λ (xs : List Item). item_at xs k) now
    ∙ item_back old (walked (masking.joiner_masked facts) masking.no_state tt rest) k lt in
    let put : c.joiner_by-masked.result ≡ masking.joiner_masked facts tt (item_at old k) rest
    = c.joiner_by-masked.ensures ∙ ap₂ (λ (x : Item) (b : Bool). masking.joiner_by facts x b) info before in
    record {
      made = set_walked (masking.joiner_masked facts) masking.no_state old k tt c.joiner_by-masked.result c.loop-i.items lt now put;
      before = c.zwnj_at-before.ensures ∙ ap₂ (λ (x : Item) (b : Bool). masking.zwnj_at x b) info before
          ∙ ap masking.is_before_zwnj (sym (drop-cons old k (new_item 0 0) lt));
    }
