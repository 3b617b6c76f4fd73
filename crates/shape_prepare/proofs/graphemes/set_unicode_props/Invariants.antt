use Rattle.std.proofs.Common.{◌≡◌, length, map, fold, drop}
use Rattle.shape_buffer.proofs.Loops.WalkOverLemmas.{with_rest}
use Rattle.shape_items.specs.UnicodeProps.{with_unicode_props}
use Rattle.shape_prepare.specs.Graphemes.{continuations_marked, seen_item}
use Rattle.shape_prepare.specs.declared.graphemes.Before.TheVariants.{Plain}
use Rattle.shape_prepare.proofs.graphemes.set_unicode_props.Given as goal

-- what is left of the walk makes of the items and of the scratch flags what the whole walk does
abbrev pub invariant-loop-i : goal.invariant-loop-i
invariant-loop-i g l =
    let unicode = g.U.hb_unicode_funcs_t.unicode in
    record {
      as_many : length l.buffer.items ≡ length l.fn.buffer.items;
      items : with_rest (λ items. continuations_marked unicode l.before (map (with_unicode_props unicode) items)) l.i l.buffer
          ≡ with_rest (λ items. continuations_marked unicode Plain (map (with_unicode_props unicode) items)) 0 l.fn.buffer;
      flags : fold (seen_item unicode) l.scratch_flags (drop l.i l.buffer.items)
          ≡ fold (seen_item unicode) l.fn.buffer.scratch_flags l.fn.buffer.items;
    }
