use Rattle.std.proofs.Common.{◌≡◌, true, false, List, slice_range, ◌+◌, ◌<◌, ◌∷◌, ◌∙◌, length, get_or, drop, refl, ap, sym, rules, arith, None}
use Rattle.std.proofs.lemmas.Grind.{common_steps}
use Rattle.std.proofs.lemmas.List.{drop_more}
use Rattle.shape_items.specs.Buffer.{limit_of}
use Rattle.shape_items.specs.Items.{Item}
use Rattle.shape_items.specs.PreservesFlags.{has_glyph_flags}
use Rattle.shape_common.specs.declared.flags.BufferFlags.{BufferFlags}
use Rattle.shape_items.specs.Flags.{flagged_from, with_mask, flags_propagated}
use Rattle.shape_items.proofs.Flags.ClusterRunLemmas.{flagged-runs}
use Rattle.shape_buffer.proofs.Loops.WalkOverLemmas.{with_rest, walk_step, walk_end}
use Rattle.shape_glyphs.specs.FlagWalk.{handed_by}
use Rattle.shape_glyphs.proofs.FlagWalkLemmas.{walked, walked-flagged}
use Rattle.shape_glyphs.proofs.flags.share_flags.Goals as goal

pub returns-then-not-contains : goal.returns-then-not-contains
unfolding flags_propagated
returns-then-not-contains c =
    let off : has_glyph_flags c.args.buffer.now ≡ false = search rules in
    record { made = rw off refl; no_longer = omega arith; same_limit = refl }

pub loop-i-init : goal.loop-i-init
loop-i-init c = record {
  as_many = refl;
  rest = ap (λ (items : List Item). record c.args.buffer.now { items = items }) (walked-flagged c.flags-flags.result c.args.buffer.now.items);
}

pub loop-i-preserved : goal.loop-i-preserved
unfolding walked
loop-i-preserved c =
    let b = c.loop-i.buffer in
    let i = c.loop-i.i in
    let flags = c.flags-flags.result in
    let before = c.loop-i.handed in
    let x = c.index-infos-i.result in
    let handed = c.hand_on-handed.result in
    let within : i < length b.items = grind (arith, common_steps) in
    let read : x ≡ get_or b.items i x = c.index-infos-i.is ∙ ap (λ xs. get_or xs i x) c.infos.ensures in
    let here : drop i b.items ≡ x ∷ drop (i + 1) b.items = drop_more b.items i x within ∙ ap (λ z. z ∷ drop (i + 1) b.items) (sym read) in
    let all : slice_range b.items i (length b.items) ≡ drop i b.items = grind (arith, common_steps) in
    let told : handed ≡ handed_by flags before x.cluster (x ∷ drop (i + 1) b.items) =
    c.hand_on-handed.ensures
    ∙ ap (handed_by flags before x.cluster) (ap (λ xs. slice_range xs i (length xs)) c.infos-in-loop-i.ensures ∙ all ∙ here) in
    let step = walk_step (walked flags before) (walked flags handed) i b x
    (with_mask handed.mask x) within read (rw (← told) refl) in
    record {
      as_many = grind (arith, common_steps);
      rest = ap (with_rest (walked flags handed) (i + 1)) c.set_info.ensures ∙ step ∙ c.loop-i.invariant.rest;
    }

pub returns : goal.returns
unfolding flags_propagated walked flagged_from
returns c =
    let flags = c.flags-flags.result in
    let end = walk_end (walked flags c.loop-i.handed) c.loop-i.i c.loop-i.buffer (omega (arith, c.loop-i.invariant.as_many)) refl in
    let on : has_glyph_flags c.args.buffer.now ≡ true = search rules in
    let all = sym end ∙ c.loop-i.invariant.rest in
    record {
      made = all ∙ rw on (ap (λ (items : List Item). record c.args.buffer.now { items = items })
          (ap (λ (flags : BufferFlags). flagged_from flags None c.args.buffer.now.items) c.flags-flags.ensures
          ∙ flagged-runs c.args.buffer.now.flags c.args.buffer.now.items));
      no_longer = omega (arith, c.loop-i.invariant.as_many);
      same_limit = ap limit_of all;
    }
